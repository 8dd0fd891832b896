-- What nothing says, and what one row says.
use Rattle.std.proofs.Common.{◌≡◌, ℕ, zero, suc, true, List, [], ◌∷◌, None, cond, map, refl, sym, ap, ◌∙◌, subst, arith}
use Rattle.std.specs.Prelude.{All, IsTrue, pos}
use Rattle.std.specs.Cmp.{tied_itself}
use Rattle.std.specs.Ordering.{is_eq}
use Rattle.rc_cell.specs.declared.rows.Row.{Row}
use Rattle.rc_cell.specs.Columns.{ascending}
use Rattle.rc_cell.specs.Orders.{tomb_cmp}
use Rattle.rc_cell.specs.Winner.{empty_row, joined_row}
use Rattle.rc_cell.specs.laws.{joined_row-none, joined_row-one}
use Rattle.rc_cell.specs.laws.Greatest.{greatest-none}
use Rattle.rc_ranges.specs.Cover.{cover}
use Rattle.rc_position.specs.declared.comps.Comp.{Comp}
use Rattle.rc_position.specs.declared.comps.Comp.TheVariants.{Int}
use Rattle.rc_position.specs.declared.positions.Pos.{Pos}
use Rattle.rc_position.specs.declared.positions.Weight.TheVariants.{Before}
use Rattle.rc_position.specs.Position.{IsBefore, pos_cmp, row_pos}
use Rattle.rc_position.specs.laws.Orders.{pos_cmp_total}
use Rattle.rc_schema.specs.Checks.{are_cells_of, is_key_of}
use Rattle.rc_schema.specs.SchemaValue.{SchemaValue, is_schema}
use Rattle.rc_mutation.specs.declared.mutations.Mutation.{Mutation}
use Rattle.rc_mutation.specs.Source.{source_at, source_at_head, source_at_static}
use Rattle.rc_writes.specs.Allowed.{ChangeFits}
use Rattle.rc_core.specs.Version.{end_position}
use Rattle.rc_memory.specs.Memory.{Memory}
use Rattle.rc_memtable.specs.Writes.{AreSmall}
use Rattle.rc_filler.specs.Stands.{StandsForWrites}
use Rattle.rc_cache_tests.specs.Tested.{AreHeadless, only_row, tested_schema}

-- ---- positions

pub before-end : (key : List Comp) → IsBefore (row_pos key) end_position
unfolding pos_cmp
before-end [] = refl
before-end (c ∷ cs) = refl

pub whole-ahead : IsBefore (record { prefix = []; weight = Before }) end_position
unfolding pos_cmp
whole-ahead = refl

-- ---- the schema

tested-small : AreSmall 16384 tested_schema
tested-small = record { entry = omega arith; statics = omega arith }

-- ---- nothing

pub nothing-said : (x : Pos) → source_at [] x ≡ (empty_row, None)
unfolding cover
nothing-said x = λ i. (joined_row-none i, greatest-none tomb_cmp i)

pub nothing-static : source_at_static [] ≡ empty_row
nothing-static = joined_row-none

pub headless-none : AreHeadless tested_schema []
headless-none = record { limits = refl; small = tested-small; head = greatest-none tomb_cmp; statics = joined_row-none; fit = λ k d lt. absurd (omega (arith, lt)) }

-- ---- a row

one-of : {X : Type 0} (P : X → Type 0) (x : X) → P x → All P (x ∷ [])
one-of P x h zero d lt = h
one-of P x h (suc k) d lt = absurd (omega (arith, lt))

pub headless-one : (schema : SchemaValue) (m : Mutation) → IsTrue (is_schema schema) → AreSmall 16384 schema → m.pt ≡ None → m.statics ≡ empty_row → ChangeFits schema m → AreHeadless schema (m ∷ [])
headless-one schema m limits small pt statics fits = record {
  limits = limits;
  small = small;
  head = ap (λ pt. source_at_head (record { pt = pt; statics = m.statics; rows = m.rows; ranges = m.ranges } ∷ [])) pt ∙ greatest-none tomb_cmp;
  statics = ap (λ row. joined_row (row ∷ [])) statics ∙ joined_row-one empty_row refl;
  fit = one-of (ChangeFits schema) m fits;
}

module _ (key : List Comp) (row : Row) (bare : row.cells ≡ []) where
  is_row : IsTrue (ascending row.cells)
  is_row = subst (λ cells. IsTrue (ascending cells)) (sym bare) refl

  pub only-said : source_at (only_row key row ∷ []) (row_pos key) ≡ (row, None)
  unfolding cover
  only-said =
      let tied = ap is_eq (tied_itself pos_cmp_total (row_pos key)) in
      let rows = ap (λ b. joined_row (map (λ (e : List Comp × Row). e.1) (cond b ((key, row) ∷ []) []))) tied ∙ joined_row-one row is_row in
      λ i. (rows i, greatest-none tomb_cmp i)

  pub headless-only : key ≡ Int (pos 7) ∷ [] → AreHeadless tested_schema (only_row key row ∷ [])
  headless-only is = headless-one tested_schema (only_row key row) refl tested-small refl refl (record {
    statics = (refl, refl, refl);
    rows = one-of (λ e. IsTrue (is_key_of true tested_schema e.0) × IsTrue (are_cells_of 1 e.1.cells)) (key, row)
        (subst (λ k. IsTrue (is_key_of true tested_schema k)) (sym is) refl, subst (λ cells. IsTrue (are_cells_of 1 cells)) (sym bare) refl);
    ranges = λ k d lt. absurd (omega (arith, lt));
  })

-- ---- a snapshot by other names of its numbers

pub stands-named : (m : Memory) (id pin chain number : ℕ) (writes : List Mutation) → chain ≡ id → number ≡ pin → StandsForWrites 16384 m id pin writes → StandsForWrites 16384 m chain number writes
stands-named m id pin chain number writes a b s = subst (λ x. StandsForWrites 16384 m x number writes) (sym a) (subst (λ y. StandsForWrites 16384 m id y writes) (sym b) s)
