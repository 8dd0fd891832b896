-- The keys of what is read of a partition are within the limits, so nothing of it is skipped but for want of room.
use Rattle.std.specs.Prelude.{◌≡◌, ◌≢◌, ◌<◌, length, Bool, true, false, cond, All, IsTrue, List, [], ◌∷◌, ◌++◌, Option, Some, None, map as list_map}
use Rattle.std.proofs.Common.{sym, subst, arith}
use Rattle.std.proofs.lemmas.List.Elements.{All-cons, All-head, All-nil, All-tail}
use Rattle.std.specs.Ordering.{is_lt}
use Rattle.rc_cell.specs.Winner.{empty_row}
use Rattle.rc_cell.specs.declared.rows.Row.{Row}
use Rattle.rc_cell.specs.declared.writes.Tomb.{Tomb}
use Rattle.rc_position.specs.declared.comps.Comp.{Comp}
use Rattle.rc_position.specs.declared.positions.Pos.{Pos}
use Rattle.rc_position.specs.Position.{pos_cmp, row_pos}
use Rattle.rc_mutation.specs.Piece.{Piece}
use Rattle.rc_rowcode.specs.Spelling.{CompFits, KeyFits}
use Rattle.rc_schema.specs.SchemaValue.{SchemaValue, is_schema}
use Rattle.rc_schema.specs.laws.Fitting.{key_fits, key_passes}
use Rattle.rc_mutation.specs.declared.fragments.Frag.{Frag}
use Rattle.rc_mutation.specs.declared.fragments.Frag.TheVariants as frag
use Rattle.rc_mutation.specs.declared.mutations.Mutation.{Mutation}
use Rattle.rc_mutation.specs.Fragments.{begins_at, changes_of, fragments, is_written, placed_change, placed_row, rows_and_changes, static_fragment}
use Rattle.rc_mutation.specs.Source.{IsMutation}
use Rattle.rc_mutation.specs.laws.FragMerge.{changes-placed, fragment_of, merge, merge-in_order, merge_into, rows-placed}
use Rattle.rc_writes.specs.Allowed.{ChangeFits}
use Rattle.rc_core.specs.Version.{end_position}
use Rattle.rc_lookup.specs.calls.Filling.{FragmentsFit, IsFit, IsNotEmptyRow, SaysAll, SaysNone, past}
use Rattle.rc_lookup.proofs.Said.{spelled}

pub none-fits : KeyFits []
none-fits = (omega arith, All-nil CompFits)

-- behind a fragment whose key is within the limits goes on what stands at such a key
pub past-fits : (x : Pos) (f : Frag) → KeyFits x.prefix → IsFit f → KeyFits (past x f).prefix
past-fits x (frag.Start pt) at fit = at
past-fits x (frag.Static row) at fit = at
past-fits x (frag.Row key row) at fit = fit
past-fits x (frag.Change from tomb) at fit = fit
past-fits x frag.End at fit = at

-- ---- fragments in order

-- a row with its clustering key
abbrev Keyed : Type 0
Keyed = List Comp × Row

-- a position, and the tombstone in force from it on
abbrev Change : Type 0
Change = Pos × Option Tomb

-- the keys of rows are within the limits, and so are those at which changes stand
abbrev RowsFit : List Keyed → Type 0
RowsFit os = All (λ (e : Keyed). KeyFits e.0) os

abbrev ChangesFit : List Change → Type 0
ChangesFit bs = All (λ (b : Change). KeyFits b.0.prefix) bs

rows-fit : (os : List Keyed) → RowsFit os → FragmentsFit (list_map fragment_of (list_map placed_row os))
rows-fit [] h = tt
rows-fit (a ∷ os) h = (All-head (λ (e : Keyed). KeyFits e.0) a os h, rows-fit os (All-tail (λ (e : Keyed). KeyFits e.0) a os h))

changes-fit : (bs : List Change) → ChangesFit bs → FragmentsFit (list_map fragment_of (list_map placed_change bs))
changes-fit [] h = tt
changes-fit (b ∷ bs) h = (All-head (λ (c : Change). KeyFits c.0.prefix) b bs h, changes-fit bs (All-tail (λ (c : Change). KeyFits c.0.prefix) b bs h))

merge_into-fit : (a : Keyed) (os : List Keyed) → KeyFits a.0 → RowsFit os → ((bs : List Change) → ChangesFit bs → FragmentsFit (list_map fragment_of (merge os bs))) → (bs : List Change) → ChangesFit bs → FragmentsFit (list_map fragment_of (merge_into a os (merge os) bs))
merge_into-fit a os own rest ih [] h = (own, rows-fit os rest)
merge_into-fit a os own rest ih (b ∷ bs) h = elim (is_lt (pos_cmp (row_pos a.0) b.0)) as (λ r. FragmentsFit (list_map fragment_of (cond r (placed_row a ∷ merge os (b ∷ bs)) (placed_change b ∷ merge_into a os (merge os) bs)))) [
  | true ↦ (own, ih (b ∷ bs) h)
  | false ↦ (All-head (λ (c : Change). KeyFits c.0.prefix) b bs h, merge_into-fit a os own rest ih bs (All-tail (λ (c : Change). KeyFits c.0.prefix) b bs h))
]

merge-fit : (os : List Keyed) (bs : List Change) → RowsFit os → ChangesFit bs → FragmentsFit (list_map fragment_of (merge os bs))
merge-fit [] bs g h = changes-fit bs h
merge-fit (a ∷ os) bs g h =
    let rest = All-tail (λ (e : Keyed). KeyFits e.0) a os g in
    merge_into-fit a os (All-head (λ (e : Keyed). KeyFits e.0) a os g) rest (λ cs k. merge-fit os cs rest k) bs h

-- ---- those of a mutation

-- both ends of a range tombstone are within the limits
abbrev EndsFit : Piece → Type 0
EndsFit p = KeyFits p.from.prefix × KeyFits p.to.prefix

pieces-fit : (ps : List Piece) → All EndsFit ps → ChangesFit (changes_of ps)
pieces-fit [] h = All-nil (λ (c : Change). KeyFits c.0.prefix)
pieces-fit (p ∷ ps) h =
    let ends = All-head EndsFit p ps h in
    let rest = pieces-fit ps (All-tail EndsFit p ps h) in
    All-cons (λ (c : Change). KeyFits c.0.prefix) (p.from, Some p.tomb) (cond (begins_at p.to ps) [] ((p.to, None) ∷ []) ++ changes_of ps) ends.0
    (elim (begins_at p.to ps) as (λ b. ChangesFit (cond b [] ((p.to, None) ∷ []) ++ changes_of ps)) [
      | true ↦ rest
      | false ↦ All-cons (λ (c : Change). KeyFits c.0.prefix) (p.to, None) (changes_of ps) ends.1 rest
    ])

fit-end : (fs : List Frag) → FragmentsFit fs → FragmentsFit (fs ++ (frag.End ∷ []))
fit-end [] h = (tt, tt)
fit-end (f ∷ fs) h = (h.0, fit-end fs h.1)

fit-statics : (row : Row) (b : Bool) (fs : List Frag) → FragmentsFit fs → FragmentsFit (cond b (frag.Static row ∷ []) [] ++ fs)
fit-statics row true fs h = (tt, h)
fit-statics row false fs h = h

pub all-fit : (schema : SchemaValue) (m : Mutation) → IsMutation m → IsTrue (is_schema schema) → ChangeFits schema m → FragmentsFit (fragments m)
all-fit schema m is limits fits =
    let rows : RowsFit m.rows = λ k d less. key_fits true schema _ limits (key_passes true schema _ (fits.rows k d less).0) in
    let ranges : All EndsFit m.ranges = λ k d less. (let ends = fits.ranges k d less in (key_fits false schema _ limits (key_passes false schema _ ends.0.1), key_fits false schema _ limits (key_passes false schema _ ends.1.1))) in
    let left : FragmentsFit (rows_and_changes m) = subst FragmentsFit (merge-in_order m.rows (changes_of m.ranges) (rows-placed m.rows is.rows.ascend) (changes-placed m.ranges is.ranges)) (merge-fit m.rows (changes_of m.ranges) rows (pieces-fit m.ranges ranges)) in
    subst FragmentsFit (sym (spelled m)) (tt, fit-end (static_fragment m.statics ++ rows_and_changes m) (fit-statics m.statics (is_written m.statics) (rows_and_changes m) left))

-- ---- a fragment of a loop

pub fit-row : (f : Frag) (key : List Comp) (row : Row) → f ≡ frag.Row key row → IsFit f → KeyFits key
fit-row f key row e h = subst IsFit e h

pub written-row : (f : Frag) (key : List Comp) (row : Row) → f ≡ frag.Row key row → IsNotEmptyRow f → row ≢ empty_row
written-row f key row e h = subst IsNotEmptyRow e h

pub fit-change : (f : Frag) (from : Pos) (tomb : Option Tomb) → f ≡ frag.Change from tomb → IsFit f → KeyFits from.prefix
fit-change f from tomb e h = subst IsFit e h

-- where no fragment is left, writes say nothing up to the end
pub none-left : (writes : List Mutation) (x : Pos) (tomb : Option Tomb) (fs : List Frag) → length fs < 1 → SaysAll writes x tomb fs → SaysNone writes x end_position tomb
none-left writes x tomb [] few says = says
none-left writes x tomb (f ∷ fs) few says = absurd (omega (arith, few))
