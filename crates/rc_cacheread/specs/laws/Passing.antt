-- Stretches of which each position is known, but for those inside a row.
use Rattle.std.specs.Prelude.{◌≡◌, ◌⊎◌}
use Rattle.std.proofs.Common.{subst, inl, inr}
use Rattle.rc_position.specs.declared.positions.Pos.{Pos}
use Rattle.rc_position.specs.Position.{IsBefore, row_pos}
use Rattle.rc_stream.specs.Places.{Reaches}
use Rattle.rc_stream.specs.Snapshot.{There}
use Rattle.rc_cacheread.specs.Passing.{IsKnownFrom, IsKnownOver}
use Rattle.rc_cacheread.specs.laws.Orders.{before-reaches, either-way, never-before, reach-through}

module _ (knows : Pos → There → Type 0) where
  pub over-nothing : (x y : Pos) → y ≡ x → IsKnownOver knows x y
  over-nothing x y e = λ z h b. absurd (never-before z x h (subst (IsBefore z) e b))

  wider : (x y z : Pos) → Reaches x y → IsKnownFrom knows y z → IsKnownFrom knows x z
  wider x y z on (inl d) = inl d
  wider x y z on (inr d) = inr (record { key = d.key; row = d.row; tomb = d.tomb; known = d.known; written = d.written; on = reach-through x y (row_pos d.key) on d.on; behind = d.behind; before = d.before })

  pub over-over : (x y z : Pos) → Reaches x y → IsKnownOver knows x y → IsKnownOver knows y z → IsKnownOver knows x z
  over-over x y z on a b = λ w h c. by_way w h c (either-way y w) where
    by_way : (w : Pos) → Reaches x w → IsBefore w z → Reaches y w ⊎ IsBefore w y → IsKnownFrom knows x w
    by_way w h c (inl m) = wider x y w on (b w m c)
    by_way w h c (inr m) = a w h m

  pub over-less : (x y z : Pos) → Reaches y z → IsKnownOver knows x z → IsKnownOver knows x y
  over-less x y z less d = λ w h c. d w h (before-reaches w y z c less)
