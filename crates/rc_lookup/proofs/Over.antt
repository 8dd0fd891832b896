-- Stretches from the first of all positions on of which each is known, but for those inside a row.
use Rattle.std.specs.Prelude.{◌≡◌, ◌≢◌, ◌⊎◌, true, List, [], ◌∷◌, Ok, Option}
use Rattle.std.specs.Cmp.{tied_itself}
use Rattle.std.specs.Ordering.{is_le, ordering_reverse, ordering_then}
use Rattle.std.specs.declared.cmp.Ordering.TheVariants.{Less, Equal, Greater}
use Rattle.std.proofs.Common.{refl, ap, ◌∙◌, subst, inl, inr}
use Rattle.rc_cell.specs.declared.rows.Row.{Row}
use Rattle.rc_cell.specs.declared.writes.Tomb.{Tomb}
use Rattle.rc_cell.specs.Winner.{empty_row}
use Rattle.rc_position.specs.declared.comps.Comp.{Comp}
use Rattle.rc_position.specs.declared.positions.Pos.{Pos}
use Rattle.rc_position.specs.Position.{IsBefore, comp_cmp, pos_cmp, prefix_cmp, row_pos}
use Rattle.rc_position.specs.declared.positions.Weight.TheVariants.{After, At}
use Rattle.rc_position.specs.laws.Orders.{comp_cmp_total}
use Rattle.rc_core.specs.Version.{end_position}
use Rattle.rc_core.specs.declared.parts.Part.{Part}
use Rattle.rc_core.specs.declared.parts.Part.TheVariants as part
use Rattle.rc_stream.specs.Places.{Reaches}
use Rattle.rc_stream.specs.Snapshot.{EndsPart, IsPartFrom, There, Throughout, place_behind}
use Rattle.rc_cacheread.specs.Passing.{IsInsideRow, IsKnownFrom, IsKnownOver}
use Rattle.rc_cacheread.specs.Reading.{behind_row}
use Rattle.rc_snapshots.specs.Streams.{first_position}
use Rattle.rc_lookup.proofs.Orders.{before-reach, before-reaches, either-way, first-reaches, never-before, reach-itself, reach-through, same-place}

module _ (knows : Pos → There → Type 0) where
  pub over-nothing : IsKnownOver knows first_position first_position
  over-nothing = λ z h b. absurd (never-before z first_position h b)

  -- and then nothing, with a tombstone, up to a position
  pub over-gap : (x y : Pos) (tomb : Option Tomb) → IsKnownOver knows first_position x → Throughout x y (λ z. knows z (empty_row, tomb)) → IsKnownOver knows first_position y
  over-gap x y tomb d g = λ z h b. by_way z h b (either-way x z) where
    by_way : (z : Pos) → Reaches first_position z → IsBefore z y → Reaches x z ⊎ IsBefore z x → IsKnownFrom knows first_position z
    by_way z h b (inl m) = inl ((empty_row, tomb), g z m b)
    by_way z h b (inr c) = d z h c

  row-or-inside : (z : Pos) (key : List Comp) (r : Row) (tomb : Option Tomb) → knows (row_pos key) (r, tomb) → r ≢ empty_row → Reaches (row_pos key) z → IsBefore z (behind_row key) → IsKnownFrom knows first_position z
  row-or-inside z key r tomb k w h b =
      elim (either-way z (row_pos key)) [
        | inl m ↦ inl ((r, tomb), subst (λ y. knows y (r, tomb)) (same-place (row_pos key) z h m) k)
        | inr c ↦ inr (record { key = key; row = r; tomb = tomb; known = k; written = w; on = first-reaches (row_pos key); behind = c; before = b })
      ]

  -- and then a row
  pub over-row : (key : List Comp) (r : Row) (tomb : Option Tomb) → IsKnownOver knows first_position (row_pos key) → knows (row_pos key) (r, tomb) → r ≢ empty_row → IsKnownOver knows first_position (behind_row key)
  over-row key r tomb d k w = λ z h b. by_way z h b (either-way (row_pos key) z) where
    by_way : (z : Pos) → Reaches first_position z → IsBefore z (behind_row key) → Reaches (row_pos key) z ⊎ IsBefore z (row_pos key) → IsKnownFrom knows first_position z
    by_way z h b (inl m) = row-or-inside z key r tomb k w m b
    by_way z h b (inr c) = d z h c

  -- and then a part
  pub over-part : (x upto : Pos) (p : Part) → IsPartFrom knows x upto p → IsKnownOver knows first_position x → IsKnownOver knows first_position (place_behind (Ok p) x)
  over-part x upto (part.Row key row tomb) d o = over-row key row tomb (subst (IsKnownOver knows first_position) d.1 o) (subst (λ y. knows y (row, tomb)) d.1 d.2) d.3
  over-part x upto (part.Gap to tomb) d o = over-gap x to tomb o d.1
  over-part x upto (part.Missing to) d o = o
  over-part x upto part.End d o = o

  module _ (now : Pos → There → Type 0) (on : (x : Pos) (v : There) → knows x v → now x v) where
    still : (z : Pos) → IsKnownFrom knows first_position z → IsKnownFrom now first_position z
    still z (inl d) = inl (d.0, on z d.0 d.1)
    still z (inr d) = inr (record { key = d.key; row = d.row; tomb = d.tomb; known = on (row_pos d.key) (d.row, d.tomb) d.known; written = d.written; on = d.on; behind = d.behind; before = d.before })

    pub over-still : (y : Pos) → IsKnownOver knows first_position y → IsKnownOver now first_position y
    over-still y d = λ z h b. still z (d z h b)

-- ---- stretches up to the end of all positions

at-after : (ks : List Comp) → is_le (prefix_cmp ks At ks After) ≡ true
at-after [] = refl
at-after (c ∷ cs) = ap (λ r. is_le (ordering_then r (prefix_cmp cs At cs After))) (tied_itself comp_cmp_total c) ∙ at-after cs

at-behind : (key : List Comp) → Reaches (row_pos key) (behind_row key)
unfolding pos_cmp
at-behind key = at-after key

within-behind : (ks ls : List Comp) → is_le (prefix_cmp ks At ls At) ≡ true → prefix_cmp ls At ks After ≡ Less → is_le (prefix_cmp ls After ks After) ≡ true
within-behind [] [] h b = refl
within-behind [] (d ∷ ds) h b = refl
within-behind (c ∷ cs) [] h b = absurd (cc)
within-behind (c ∷ cs) (d ∷ ds) h b =
    elim (comp_cmp d c) as (λ r. comp_cmp d c ≡ r → ordering_then r (prefix_cmp ds At cs After) ≡ Less → is_le (ordering_then r (prefix_cmp ds After cs After)) ≡ true) [
      | Less ↦ λ e k. refl
      | Equal ↦ λ e k. within-behind cs ds (subst (λ r. is_le (ordering_then r (prefix_cmp cs At ds At)) ≡ true) (comp_cmp_total.antisymm c d ∙ ap ordering_reverse e) h) k
      | Greater ↦ λ e k. absurd (cc)
    ] refl b

-- what stands behind a row that is inside another one stands before what stands behind that one
behind-within : (ks ls : List Comp) → Reaches (row_pos ks) (row_pos ls) → IsBefore (row_pos ls) (record { prefix = ks; weight = After }) → Reaches (record { prefix = ls; weight = After }) (record { prefix = ks; weight = After })
unfolding pos_cmp
behind-within ks ls h b = within-behind ks ls h b

module _ (knows : Pos → There → Type 0) (one : (x : Pos) (v w : There) → knows x v → knows x w → v ≡ w) where
  onward : (x y z : Pos) (d : IsInsideRow knows x z) → Reaches y (row_pos d.key) → IsKnownFrom knows y z
  onward x y z d on = inr (record { key = d.key; row = d.row; tomb = d.tomb; known = d.known; written = d.written; on = on; behind = d.behind; before = d.before })

  rest-row : (key : List Comp) → IsKnownOver knows (row_pos key) end_position → IsKnownOver knows (behind_row key) end_position
  rest-row key o = λ z h b. by_way z h (o z (reach-through (row_pos key) (behind_row key) z (inside-on key) h) b) where
    inside-on : (key : List Comp) → Reaches (row_pos key) (behind_row key)
    inside-on key = at-behind key

    by_way : (z : Pos) → Reaches (behind_row key) z → IsKnownFrom knows (row_pos key) z → IsKnownFrom knows (behind_row key) z
    by_way z h (inl d) = inl d
    by_way z h (inr d) = elim (either-way (behind_row key) (row_pos d.key)) [
      | inl on ↦ onward (row_pos key) (behind_row key) z d on
      | inr before ↦ absurd (never-before z (behind_row d.key) (reach-through (behind_row d.key) (behind_row key) z (behind-within key d.key d.on before) h) d.before)
    ]

  rest-gap : (x to : Pos) (tomb : Option Tomb) → Reaches x to → Throughout x to (λ z. knows z (empty_row, tomb)) → IsKnownOver knows x end_position → IsKnownOver knows to end_position
  rest-gap x to tomb on g o = λ z h b. by_way z (o z (reach-through x to z on h) b) where
    by_way : (z : Pos) → IsKnownFrom knows x z → IsKnownFrom knows to z
    by_way z (inl d) = inl d
    by_way z (inr d) = elim (either-way to (row_pos d.key)) [
      | inl at ↦ onward x to z d at
      | inr before ↦ absurd (d.written (ap (λ (v : There). v.0) (one (row_pos d.key) (d.row, d.tomb) (empty_row, tomb) d.known (g (row_pos d.key) d.on before))))
    ]

  -- what is known from a part on is known from behind it
  pub rest-part : (x upto : Pos) (p : Part) → IsPartFrom knows x upto p → IsKnownOver knows x end_position → IsKnownOver knows (place_behind (Ok p) x) end_position
  rest-part x upto (part.Row key row tomb) d o = rest-row key (subst (λ y. IsKnownOver knows y end_position) d.1 o)
  rest-part x upto (part.Gap to tomb) d o = rest-gap x to tomb (before-reach x to d.0.0) d.1 o
  rest-part x upto (part.Missing to) d o = o
  rest-part x upto part.End d o = o

  -- what is not known is no such stretch
  pub never-missing : (x to : Pos) → EndsPart x end_position to → ((v : There) → knows x v → ⊥) → IsKnownOver knows x end_position → ⊥
  never-missing x to e none o = by_way (o x (reach-itself x) (before-reaches x to end_position e.0 e.1)) where
    by_way : IsKnownFrom knows x x → ⊥
    by_way (inl d) = none d.0 d.1
    by_way (inr d) = never-before (row_pos d.key) x d.on d.behind
