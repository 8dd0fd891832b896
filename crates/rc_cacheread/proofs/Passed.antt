-- Stretches of which each position is known, but for those inside a row.
use Rattle.std.specs.Prelude.{◌≡◌, ◌≢◌, ◌⊎◌, ◌≤◌, ℕ, List, Option}
use Rattle.std.proofs.Common.{refl, sym, ap, ◌∙◌, subst, inl, inr, arith}
use Rattle.rc_cell.specs.declared.rows.Row.{Row}
use Rattle.rc_cell.specs.declared.writes.Tomb.{Tomb}
use Rattle.rc_cell.specs.Winner.{empty_row}
use Rattle.rc_position.specs.declared.comps.Comp.{Comp}
use Rattle.rc_position.specs.declared.positions.Pos.{Pos}
use Rattle.rc_position.specs.Position.{IsBefore, row_pos}
use Rattle.rc_stream.specs.Places.{Reaches}
use Rattle.rc_stream.specs.Snapshot.{NoneLost, There, Throughout}
use Rattle.rc_cacheread.specs.declared.spots.RowAt.TheVariants as row
use Rattle.rc_cacheread.specs.declared.spots.Spot.{Spot}
use Rattle.rc_cacheread.specs.calls.Below.{TakenIn}
use Rattle.rc_cacheread.specs.Passing.{IsKnownFrom, IsKnownOver}
use Rattle.rc_cacheread.specs.laws.Passing.{over-nothing}
use Rattle.rc_cacheread.specs.calls.Passing.{PassesWhole}
use Rattle.rc_cacheread.specs.Reading.{behind_row}
use Rattle.rc_cacheread.specs.Spots.{past_row, stand}
use Rattle.rc_cacheread.specs.laws.Orders.{either-way, never-before, same-place}
use Rattle.rc_cacheread.proofs.Orders.{behind-within}

-- where nothing was lost in the end nothing was lost before or since
pub between : (a b c : ℕ) → a ≤ b → b ≤ c → NoneLost a c → NoneLost a b × NoneLost b c
between a b c h k none = let same = none.0 in let below = none.1 in ((omega (arith, h, k, same), omega (arith, k, below)), (omega (arith, h, k, same), below))

-- where a place stands of which no row was read
pub same-stand : (s t : Spot) → t.place ≡ s.place → t.row ≡ s.row → s.row ≡ row.Unread → stand t ≡ s.place
same-stand s t p e u = λ i. past_row ((e ∙ u) i) (p i)

module _ (knows : Pos → There → Type 0) where
  pub over-gap : (x y : Pos) (tomb : Option Tomb) → Throughout x y (λ z. knows z (empty_row, tomb)) → IsKnownOver knows x y
  over-gap x y tomb d = λ z h b. inl ((empty_row, tomb), d z h b)

  row-or-inside : (x z : Pos) (key : List Comp) (r : Row) (tomb : Option Tomb) → Reaches x (row_pos key) → knows (row_pos key) (r, tomb) → r ≢ empty_row → Reaches (row_pos key) z → IsBefore z (behind_row key) → IsKnownFrom knows x z
  row-or-inside x z key r tomb on k w h b =
      elim (either-way z (row_pos key)) [
        | inl m ↦ inl ((r, tomb), subst (λ y. knows y (r, tomb)) (same-place (row_pos key) z h m) k)
        | inr c ↦ inr (record { key = key; row = r; tomb = tomb; known = k; written = w; on = on; behind = c; before = b })
      ]

  pub over-row : (x : Pos) (key : List Comp) (r : Row) (tomb : Option Tomb) → Reaches x (row_pos key) → IsKnownOver knows x (row_pos key) → knows (row_pos key) (r, tomb) → r ≢ empty_row → IsKnownOver knows x (behind_row key)
  over-row x key r tomb on d k w = λ z h b. by_way z h b (either-way (row_pos key) z) where
    by_way : (z : Pos) → Reaches x z → IsBefore z (behind_row key) → Reaches (row_pos key) z ⊎ IsBefore z (row_pos key) → IsKnownFrom knows x z
    by_way z h b (inl m) = row-or-inside x z key r tomb on k w m b
    by_way z h b (inr c) = d z h c

  pub over-ends : (x x' y y' : Pos) → x' ≡ x → y' ≡ y → IsKnownOver knows x y → IsKnownOver knows x' y'
  over-ends x x' y y' e k d = subst (λ (z : Pos × Pos). IsKnownOver knows z.0 z.1) (λ i. (sym e i, sym k i)) d

  module _ (now : Pos → There → Type 0) (on : (x : Pos) (v : There) → knows x v → now x v) where
    still : (x z : Pos) → IsKnownFrom knows x z → IsKnownFrom now x z
    still x z (inl d) = inl (d.0, on z d.0 d.1)
    still x z (inr d) = inr (record { key = d.key; row = d.row; tomb = d.tomb; known = on (row_pos d.key) (d.row, d.tomb) d.known; written = d.written; on = d.on; behind = d.behind; before = d.before })

    pub over-still : (x y : Pos) → IsKnownOver knows x y → IsKnownOver now x y
    over-still x y d = λ z h b. still x z (d z h b)

-- ---- rows that are passed

module _ (knows : Pos → There → Type 0) where
  pub whole-nothing : (x y : Pos) → y ≡ x → PassesWhole knows x y
  whole-nothing x y e = λ key r tomb k d on b. absurd (never-before (row_pos key) x on (subst (IsBefore (row_pos key)) e b))

  pub whole-row : (key : List Comp) → PassesWhole knows (row_pos key) (behind_row key)
  whole-row key = λ other r tomb k d on b. behind-within key other on b

  pub whole-gap : (x y : Pos) (tomb : Option Tomb) → ((z : Pos) (v w : There) → knows z v → knows z w → v ≡ w) → Throughout x y (λ z. knows z (empty_row, tomb)) → PassesWhole knows x y
  whole-gap x y tomb one g = λ key r other k d on b. absurd (d (ap (λ (v : There). v.0) (one (row_pos key) (r, other) (empty_row, tomb) k (g (row_pos key) on b))))

  pub whole-ends : (x x' y y' : Pos) → x' ≡ x → y' ≡ y → PassesWhole knows x y → PassesWhole knows x' y'
  whole-ends x x' y y' e k d = subst (λ (z : Pos × Pos). PassesWhole knows z.0 z.1) (λ i. (sym e i, sym k i)) d

  -- the place itself is inside no row from there on
  pub known-here : (x z : Pos) → z ≡ x → IsKnownFrom knows x z → (v : There) × knows z v
  known-here x z e (inl d) = d
  known-here x z e (inr d) = absurd (never-before (row_pos d.key) x d.on (subst (IsBefore (row_pos d.key)) e d.behind))

-- ---- fills

module _ {P H : Type 0} (may : P → H → Type 0) (lost : H → ℕ) (knows : P → H → Pos → There → Type 0) where
  pub taken-nothing : (p : P) (h : H) (x y : Pos) → y ≡ x → TakenIn may lost knows p h p h (IsKnownOver (knows p h) x y)
  taken-nothing p h x y e = record { still = λ m. m; each = λ m k z v d. d; now = λ m k. over-nothing (knows p h) x y e }

  pub taken-gap : (p q : P) (h g : H) (x to y : Pos) (tomb : Option Tomb) → y ≡ to → TakenIn may lost knows p h q g (Throughout x to (λ z. knows q g z (empty_row, tomb))) → TakenIn may lost knows p h q g (IsKnownOver (knows q g) x y)
  taken-gap p q h g x to y tomb e t = record { still = t.still; each = t.each; now = λ m k. over-ends (knows q g) x x to y refl e (over-gap (knows q g) x to tomb (t.now m k)) }

  pub taken-then : (p q r : P) (h g i : H) (A B C : Type 0) → lost h ≤ lost g → lost g ≤ lost i → (((x : Pos) (v : There) → knows q g x v → knows r i x v) → A → B → C) → TakenIn may lost knows p h q g A → TakenIn may lost knows q g r i B → TakenIn may lost knows p h r i C
  taken-then p q r h g i A B C a b f s t = record {
    still = λ m. t.still (s.still m);
    each = λ m e x v d. (let u = between (lost h) (lost g) (lost i) a b e in t.each (s.still m) u.1 x v (s.each m u.0 x v d));
    now = λ m e. (let u = between (lost h) (lost g) (lost i) a b e in f (t.each (s.still m) u.1) (s.now m u.0) (t.now (s.still m) u.1));
  }

  -- a row behind a gap
  pub taken-row : (p q r : P) (h g i : H) (x : Pos) (key : List Comp) (w : Row) (tomb tomb' : Option Tomb) → lost h ≤ lost g → lost g ≤ lost i → Reaches x (row_pos key) → w ≢ empty_row → TakenIn may lost knows p h q g (Throughout x (row_pos key) (λ z. knows q g z (empty_row, tomb))) → TakenIn may lost knows q g r i (knows r i (row_pos key) (w, tomb')) → TakenIn may lost knows p h r i (IsKnownOver (knows r i) x (behind_row key))
  taken-row p q r h g i x key w tomb tomb' a b on d s t = taken-then p q r h g i (Throughout x (row_pos key) (λ z. knows q g z (empty_row, tomb))) (knows r i (row_pos key) (w, tomb')) (IsKnownOver (knows r i) x (behind_row key)) a b (λ k gap at. over-row (knows r i) x key w tomb' on (over-still (knows q g) (knows r i) k x (row_pos key) (over-gap (knows q g) x (row_pos key) tomb gap)) at d) s t
