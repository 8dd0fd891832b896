-- What is seen through the versions of a memtable's chain is held by them: where a row is seen an entry stands, at the position of a key of the schema, and a static row has cells alone.
use Rattle.std.proofs.Common.{◌≡◌, ◌⊎◌, ⊎_elim, inl, inr, List, [], ◌∷◌, ◌++◌, Option, Some, None, map, refl, sym, ap, ◌∙◌, subst}
use Rattle.std.specs.Prelude.{IfSome, IsTrue, true}
use Rattle.std.specs.List.{AllByRecursion}
use Rattle.std.specs.Option.{option_to_list}
use Rattle.std.specs.declared.cmp.Ordering.TheVariants.{Less, Equal, Greater}
use Rattle.rc_cell.specs.declared.rows.Row.{Row}
use Rattle.rc_cell.specs.declared.writes.Tomb.{Tomb}
use Rattle.rc_cell.specs.Winner.{IsRow, empty_row, joined_row}
use Rattle.rc_cell.specs.laws.{joined_row-none}
use Rattle.rc_cell.specs.laws.Each.{joined_marker, joined_tomb}
use Rattle.rc_position.specs.declared.positions.Pos.{Pos}
use Rattle.rc_position.specs.Position.{pos_cmp, row_pos}
use Rattle.rc_position.specs.laws.Orders.{pos_cmp_same}
use Rattle.rc_schema.specs.SchemaValue.{SchemaValue}
use Rattle.rc_schema.specs.Checks.{is_key_of}
use Rattle.rc_writes.specs.Allowed.{IsRowOf, IsStaticOf}
use Rattle.rc_core.specs.declared.entries.Entry.{Entry}
use Rattle.rc_core.specs.declared.entries.Flag.{Flag}
use Rattle.rc_core.specs.declared.entries.Flag.TheVariants.{Known, Unknown, Inherit}
use Rattle.rc_core.specs.AtPlace.{EachEntry, HasEntryAt}
use Rattle.rc_core.specs.Chain.{content, states_at}
use Rattle.rc_core.specs.Continuity.{EachOf, static_states}
use Rattle.rc_core.specs.Parts.{SomeHasEntryAt}
use Rattle.rc_core.specs.SpotState.{SpotState, over, through}
use Rattle.rc_core.specs.Version.{On, Version, entry_answers, finding_in, state_at, static_state}
use Rattle.rc_core.specs.laws.Folding.{content-through}
use Rattle.rc_memtable.specs.Fits.{IsEntryUnder, IsVersionUnder}

-- ---- no rows

no-rows-over : (f : Flag) (a b : SpotState) → a.rows ≡ [] → b.rows ≡ [] → (over f a b).rows ≡ []
no-rows-over Known a b e h = h
no-rows-over Unknown a b e h = h
no-rows-over Inherit a b e h = (λ i. e i ++ h i)

no-rows-through : (f : Version → SpotState) (vs : List Version) → EachOf (λ v. (f v).rows ≡ []) vs → (through (map f vs)).rows ≡ []
no-rows-through f [] h = refl
no-rows-through f (v ∷ vs) h = no-rows-over (through (map f vs)).flag (f v) (through (map f vs)) h.0 (no-rows-through f vs h.1)

no-row-seen : (f : Version → SpotState) (vs : List Version) → EachOf (λ v. (f v).rows ≡ []) vs → (content (map f vs)).0 ≡ empty_row
no-row-seen f vs h = ap (λ (a : Row × Option Tomb). a.0) (content-through (map f vs)) ∙ ap joined_row (no-rows-through f vs h) ∙ joined_row-none

-- ---- a row that is seen

module _ (schema : SchemaValue) (x : Pos) where
  -- an entry stands there, and it is the position of a key
  abbrev Stands : List Entry → Type 0
  Stands es = HasEntryAt x es × IsTrue (is_key_of true schema x.prefix)

  of-row : (e : Entry) (es : List Entry) → x ≡ e.position → IsEntryUnder schema e → (o : Option Row) → e.row ≡ o → (e.row ≡ None) ⊎ Stands (e ∷ es)
  of-row e es at is None k = inl k
  of-row e es at is (Some row) k =
      let has = subst (λ (o : Option Row). IfSome o (λ r. (e.position ≡ row_pos e.position.prefix) × IsRowOf schema e.position.prefix r × IsRow r)) k is.row in
      inr (inl (sym at), subst (λ (y : Pos). IsTrue (is_key_of true schema y.prefix)) (sym at) has.1.0)

  later : (e : Entry) (es : List Entry) (o : Option Row) → (o ≡ None) ⊎ Stands es → (o ≡ None) ⊎ Stands (e ∷ es)
  later e es o h = ⊎_elim (λ n. inl n) (λ s. inr (inr s.0, s.1)) h

  none-or-stands : (es : List Entry) → EachEntry (IsEntryUnder schema) es → ((finding_in (On x) es).row ≡ None) ⊎ Stands es
  none-or-stands [] h = inl refl
  none-or-stands (e ∷ es) h = elim (pos_cmp x e.position) as (λ r. pos_cmp x e.position ≡ r → ((entry_answers r e (finding_in (On x) es)).row ≡ None) ⊎ Stands (e ∷ es)) [
    | Less ↦ λ o. inl refl
    | Equal ↦ λ o. of-row e es (pos_cmp_same x e.position o) h.0 e.row refl
    | Greater ↦ λ o. later e es (finding_in (On x) es).row (none-or-stands es h.1)
  ] refl

  none-or-some : (vs : List Version) → EachOf (IsVersionUnder schema) vs → EachOf (λ v. (state_at (On x) v).rows ≡ []) vs ⊎ (SomeHasEntryAt x vs × IsTrue (is_key_of true schema x.prefix))
  none-or-some [] h = inl tt
  none-or-some (v ∷ vs) h = ⊎_elim
      (λ n. ⊎_elim (λ rest. inl (ap option_to_list n, rest)) (λ s. inr (inr s.0, s.1)) (none-or-some vs h.1))
      (λ s. inr (inl s.0, s.1))
      (none-or-stands v.entries h.0.entries)

  -- where a row is seen an entry stands, at the position of a key
  pub row-stands : (vs : List Version) → EachOf (IsVersionUnder schema) vs → ((content (states_at (On x) vs)).0 ≡ empty_row → ⊥) → SomeHasEntryAt x vs × IsTrue (is_key_of true schema x.prefix)
  row-stands vs h some = ⊎_elim (λ n. absurd (some (no-row-seen (state_at (On x)) vs n))) (λ s. s) (none-or-some vs h)

-- ---- static rows

module _ (P : Row → Type 0) where
  all-both : (xs ys : List Row) → AllByRecursion P xs → AllByRecursion P ys → AllByRecursion P (xs ++ ys)
  all-both [] ys g h = h
  all-both (x ∷ xs) ys g h = (g.0, all-both xs ys g.1 h)

  all-over : (f : Flag) (a b : SpotState) → AllByRecursion P a.rows → AllByRecursion P b.rows → AllByRecursion P (over f a b).rows
  all-over Known a b g h = h
  all-over Unknown a b g h = h
  all-over Inherit a b g h = all-both a.rows b.rows g h

  all-through : (f : Version → SpotState) (vs : List Version) → EachOf (λ v. AllByRecursion P (f v).rows) vs → AllByRecursion P (through (map f vs)).rows
  all-through f [] h = tt
  all-through f (v ∷ vs) h = all-over (through (map f vs)).flag (f v) (through (map f vs)) h.0 (all-through f vs h.1)

module _ (schema : SchemaValue) (P : Row → Type 0) (so : (row : Row) → IsStaticOf schema row → P row) where
  one-static : (o : Option Row) → IfSome o (λ row. IsStaticOf schema row × IsRow row) → AllByRecursion P (option_to_list o)
  one-static None h = tt
  one-static (Some row) h = (so row h.0, tt)

  each-static : (vs : List Version) → EachOf (IsVersionUnder schema) vs → EachOf (λ v. AllByRecursion P (static_state v).rows) vs
  each-static [] h = tt
  each-static (v ∷ vs) h = (one-static v.statics h.0.statics, each-static vs h.1)

-- the static row that is seen has no marker and no tombstone
pub static-marker : (schema : SchemaValue) (vs : List Version) → EachOf (IsVersionUnder schema) vs → (content (static_states vs)).0.marker ≡ None
static-marker schema vs h =
    ap (λ (a : Row × Option Tomb). a.0.marker) (content-through (static_states vs))
    ∙ joined_marker (through (static_states vs)).rows (all-through (λ r. r.marker ≡ None) static_state vs (each-static schema (λ r. r.marker ≡ None) (λ r is. is.0) vs h))

pub static-tomb : (schema : SchemaValue) (vs : List Version) → EachOf (IsVersionUnder schema) vs → (content (static_states vs)).0.tomb ≡ None
static-tomb schema vs h =
    ap (λ (a : Row × Option Tomb). a.0.tomb) (content-through (static_states vs))
    ∙ joined_tomb (through (static_states vs)).rows (all-through (λ r. r.tomb ≡ None) static_state vs (each-static schema (λ r. r.tomb ≡ None) (λ r is. is.1) vs h))
