-- Between the position of a row and what is behind its key the same is seen all along, no row, and the tombstone that is in force at the row.
use Rattle.std.proofs.Common.{◌≡◌, ◌+◌, ◌≤◌, true, false, not, ◌&&◌, List, [], ◌∷◌, Option, inl, refl, sym, ap, ◌∙◌, subst, arith, length}
use Rattle.std.specs.declared.cmp.Ordering.{Ordering}
use Rattle.std.specs.declared.cmp.Ordering.TheVariants.{Less, Equal, Greater}
use Rattle.std.specs.Ordering.{is_gt}
use Rattle.rc_cell.specs.declared.rows.Row.{Row}
use Rattle.rc_cell.specs.declared.writes.Tomb.{Tomb}
use Rattle.rc_cell.specs.Winner.{empty_row, joined_row}
use Rattle.rc_cell.specs.laws.{joined_row-none}
use Rattle.rc_position.specs.declared.comps.Comp.{Comp}
use Rattle.rc_position.specs.declared.positions.Pos.{Pos}
use Rattle.rc_position.specs.declared.positions.Weight.TheVariants.{Before, At, After}
use Rattle.rc_position.specs.Position.{IsBefore, covers, pos_cmp, row_pos}
use Rattle.rc_position.specs.laws.Orders.{pos_cmp_same, pos_cmp_total}
use Rattle.rc_position.specs.laws.Bounds.{last_pos-greatest}
use Rattle.rc_schema.specs.SchemaValue.{SchemaValue}
use Rattle.rc_ranges.specs.calls.Sweep.{lt}
use Rattle.rc_ranges.specs.laws.Order.{before-lt, covers-lt, lt-asym}
use Rattle.rc_mutation.specs.declared.mutations.Mutation.{Mutation}
use Rattle.rc_mutation.specs.Source.{all_pieces, all_rows}
use Rattle.rc_core.specs.declared.entries.ChainKind.{ChainKind}
use Rattle.rc_core.specs.declared.entries.ChainKind.TheVariants.{Memtable}
use Rattle.rc_core.specs.declared.entries.Entry.{Entry}
use Rattle.rc_core.specs.declared.parts.Part.TheVariants.{Gap}
use Rattle.rc_core.specs.AtPlace.{EachEntry}
use Rattle.rc_core.specs.Chain.{IsEvenAt, IsKnown, content, states_at}
use Rattle.rc_core.specs.Continuity.{EachOf}
use Rattle.rc_core.specs.Parts.{IsClear, IsFirstPart}
use Rattle.rc_core.specs.Version.{On, Version, end_position}
use Rattle.rc_core.specs.laws.Written.{memtable-known, no_rows_off}
use Rattle.rc_memtable.specs.Fits.{IsEntryUnder, IsVersionUnder}
use Rattle.rc_memtable.specs.calls.Reading.{SayChanges}
use Rattle.rc_memtable.proofs.Lengths.{key-full, nothing-between, prefix-short}
use Rattle.rc_memtable.proofs.Near.{before-after, cover-near, depth, depths, lt-near, right_behind, row-before}
use Rattle.rc_memtable.proofs.Standing.{row-stands}

-- what a known gap says at each of its places
abbrev pub GapsAreAlike : Type 0
GapsAreAlike = (kind : ChainKind) (versions : List Version) (x upto to : Pos) (tomb : Option Tomb) → IsFirstPart kind versions x upto (Gap to tomb) →
    IsEvenAt kind versions x → (y : Pos) → covers x to y ≡ true → (content (states_at (On y) versions) ≡ (empty_row, tomb)) × IsKnown kind versions y

-- what stands behind each key's row
abbrev pub after : List Comp → Pos
after key = record { prefix = key; weight = After }

-- what stands before something stands before the end
pub before-end : (x y : Pos) → IsBefore x y → IsBefore x end_position
before-end x y l = by (pos_cmp y end_position) refl
  where
    by : (r : Ordering) → pos_cmp y end_position ≡ r → IsBefore x end_position
    by Less e = pos_cmp_total.trans x y end_position l e
    by Equal e = subst (λ z. pos_cmp x z ≡ Less) (pos_cmp_same y end_position e) l
    by Greater e = let u : true ≡ false = sym (ap is_gt e) ∙ last_pos-greatest y in absurd (cc)

pub covers-within : (from to y : Pos) → lt y from ≡ false → lt y to ≡ true → covers from to y ≡ true
covers-within from to y e f = covers-lt from to y ∙ (λ i. not (e i) && f i)

module _ (alike : GapsAreAlike) (schema : SchemaValue) (versions : List Version) (changes : List Mutation) (say : SayChanges schema versions changes) where
  -- no entry stands between
  entries-clear : (key : List Comp) (z : Pos) → length schema.ck ≤ length key → IsBefore (row_pos key) z → (es : List Entry) → EachEntry (IsEntryUnder schema) es → IsClear z (after key) es
  entries-clear key z long l [] h = tt
  entries-clear key z long l (e ∷ es) h = (
    λ a b. let short = prefix-short schema e.position.prefix h.0.position in nothing-between key e.position (omega (arith, short, long)) (pos_cmp_total.trans (row_pos key) z e.position l a) b,
    entries-clear key z long l es h.1,
  )

  each-clear : (key : List Comp) (z : Pos) → length schema.ck ≤ length key → IsBefore (row_pos key) z → (vs : List Version) → EachOf (IsVersionUnder schema) vs → EachOf (λ v. IsClear z (after key) v.entries) vs
  each-clear key z long l [] h = tt
  each-clear key z long l (v ∷ vs) h = (entries-clear key z long l v.entries h.0.entries, each-clear key z long l vs h.1)

  module _ (key : List Comp) (y : Pos) (behind : IsBefore (row_pos key) y) (inside : IsBefore y (after key)) (some : (content (states_at (On (row_pos key)) versions)).0 ≡ empty_row → ⊥) where
    -- a position before y at which the same range tombstone is in force as at the row
    abbrev z : Pos
    z = right_behind key (depths (all_pieces changes) + depth y.prefix)

    full : length key ≡ length schema.ck
    full = key-full schema key (row-stands schema (row_pos key) versions say.fits some).1

    z-before-y : lt z y ≡ true
    z-before-y = lt-near key (depths (all_pieces changes) + depth y.prefix) y (omega arith) ∙ before-lt (row_pos key) y behind

    z-within : IsBefore z (after key)
    z-within = before-after key (depths (all_pieces changes) + depth y.prefix)

    no-row : (content (states_at (On z) versions)).0 ≡ empty_row
    no-row =
        ap (λ (a : Row × Option Tomb). a.0) (say.stands.clustered z)
        ∙ ap joined_row (no_rows_off z (λ k e. let u : Before ≡ At = ap (λ (x : Pos). x.weight) e in cc) (all_rows changes))
        ∙ joined_row-none

    gap : IsFirstPart Memtable versions z (after key) (Gap (after key) (content (states_at (On z) versions)).1)
    gap = (
      z-within,
      memtable-known versions say.inherit z,
      record { inside = before-end z (after key) z-within; no_row = no-row },
      record { ahead = z-within; within = inl refl; clear = each-clear key z (omega (arith, full)) (row-before key (depths (all_pieces changes) + depth y.prefix)) versions say.fits; stops = inl refl },
      refl,
    )

    same-tomb : (content (states_at (On z) versions)).1 ≡ (content (states_at (On (row_pos key)) versions)).1
    same-tomb =
        ap (λ (a : Row × Option Tomb). a.1) (say.stands.clustered z)
        ∙ cover-near key (depths (all_pieces changes) + depth y.prefix) (all_pieces changes) (omega arith)
        ∙ ap (λ (a : Row × Option Tomb). a.1) (sym (say.stands.clustered (row_pos key)))

    pub behind-row : content (states_at (On y) versions) ≡ (empty_row, (content (states_at (On (row_pos key)) versions)).1)
    behind-row =
        (alike Memtable versions z (after key) (after key) (content (states_at (On z) versions)).1 gap (say.even z) y (covers-within z (after key) y (lt-asym z y z-before-y) (before-lt y (after key) inside))).0
        ∙ (λ i. (empty_row, same-tomb i))
