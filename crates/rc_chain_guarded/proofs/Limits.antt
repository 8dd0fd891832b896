-- Positions and rows within the limits of their codes: they make objects that fit, and what a call does to a version leaves them so.
use Rattle.std.proofs.Common.{◌≡◌, ◌≤◌, ◌+◌, ℕ, Bool, true, false, cond, List, [], ◌∷◌, length, Option, Some, None, inl, inr, refl, sym, subst, arith}
use Rattle.std.specs.Prelude.{Contains, IfSome}
use Rattle.std.specs.List.{AllByRecursion}
use Rattle.std.proofs.lemmas.List.Elements.{All-from_recursion, recursion_from_All}
use Rattle.std.specs.Ordering.{eq_by_cmp}
use Rattle.std.specs.declared.cmp.Ordering.{Ordering}
use Rattle.std.specs.declared.cmp.Ordering.TheVariants.{Less, Equal, Greater}
use Rattle.lsa_kinds.specs.Kinds.{up8}
use Rattle.rc_cell.specs.declared.rows.Row.{Row}
use Rattle.rc_cell.specs.declared.writes.Tomb.{Tomb}
use Rattle.rc_cell.specs.Winner.{joined_row, IsRow}
use Rattle.rc_cell.specs.laws.{IsRow-joined_row}
use Rattle.rc_cell.specs.laws.Each.{each_joined}
use Rattle.rc_position.specs.declared.positions.Pos.{Pos}
use Rattle.rc_position.specs.Position.{pos_cmp}
use Rattle.rc_rowcode.specs.Objects.{dummy_size, static_size}
use Rattle.rc_rowcode.specs.Spelling.{CompFits, EntryFits, KeyFits, RowFits, pos_code, row_code}
use Rattle.rc_rowcode.specs.laws.Sizes.{pos_code_small, row_code_small}
use Rattle.rc_core.specs.declared.entries.Entry.{Entry}
use Rattle.rc_core.specs.declared.entries.Flag.{Flag}
use Rattle.rc_core.specs.Change.{gap_split, joined_onto, with_row}
use Rattle.rc_core.specs.Continuity.{with_entries}
use Rattle.rc_core.specs.Steps.{join_flagged_statics, join_statics, row_joined, version_of}
use Rattle.rc_core.specs.Version.{Finding, On, Spot, Version, entry_answers, finding_in, spot_cmp}
use Rattle.rc_version.specs.Versions.{bytes_at, joined_bytes}
use Rattle.rc_partition.specs.laws.Lists.{elem-cases, elem-first, elem-later, elem-mapped, elem-none}
use Rattle.rc_memory.specs.Room.{FitTogether}
use Rattle.rc_memory.specs.laws.Rows.{IsWithin, within-split}
use Rattle.rc_chain_guarded.specs.Guarded.{HasCodedParts}

-- ---- rows

some_fits : (o : Option Row) (row : Row) → IfSome o RowFits → o ≡ Some row → RowFits row
some_fits o row h is = subst (λ x. IfSome x RowFits) is h

cells_of : (rows : List Row) → ((row : Row) → Contains rows row → RowFits row) → AllByRecursion (λ r. AllByRecursion EntryFits r.cells) rows
cells_of [] each = tt
cells_of (row ∷ rows) each = (recursion_from_All EntryFits row.cells (each row (elem-first row rows)), cells_of rows (λ r on. each r (elem-later row r rows on)))

-- rows within the limits are one within them
joined-fits : (rows : List Row) → ((row : Row) → Contains rows row → RowFits row) → RowFits (joined_row rows)
joined-fits rows each = All-from_recursion EntryFits (joined_row rows).cells (each_joined EntryFits rows (cells_of rows each))

joined-small : (rows : List Row) → ((row : Row) → Contains rows row → RowFits row) → length (row_code (joined_row rows)) ≤ 8599
joined-small rows each = row_code_small (joined_row rows) (IsRow-joined_row rows) (joined-fits rows each)

two_fit : (old row : Row) → RowFits old → RowFits row → (r : Row) → Contains (old ∷ row ∷ []) r → RowFits r
two_fit old row g h r on = elim (elem-cases old r (row ∷ []) on) [
  | inl same ↦ subst RowFits same g
  | inr later ↦ elim (elem-cases row r [] later) [ inl same ↦ subst RowFits same h | inr none ↦ absurd (elem-none r none) ]
]

pub onto-fits : (o : Option Row) (row : Row) → IfSome o RowFits → RowFits row → RowFits (joined_onto o row)
onto-fits None row h k = k
onto-fits (Some old) row h k = joined-fits (old ∷ row ∷ []) (two_fit old row h k)

pub onto-is_row : (o : Option Row) (row : Row) → IsRow row → IsRow (joined_onto o row)
onto-is_row None row is = is
onto-is_row (Some old) row is = IsRow-joined_row (old ∷ row ∷ [])

onto_small : (o : Option Row) (row : Row) → IfSome o RowFits → RowFits row → IsRow row → length (row_code (joined_onto o row)) ≤ 8599
onto_small None row h k is = row_code_small row is k
onto_small (Some old) row h k is = joined-small (old ∷ row ∷ []) (two_fit old row h k)

-- ---- sizes

up8_least : (n : ℕ) → up8 n ≤ n + 7
up8_least n = omega arith

pub dummy-small : (x : Pos) → KeyFits x.prefix → dummy_size x ≤ 353
dummy-small x fits = let small = pos_code_small x fits in let least = up8_least (80 + length (pos_code x)) in omega (arith, small, least)

row_at_small : (x : Pos) (row : Row) → KeyFits x.prefix → length (row_code row) ≤ 8599 → bytes_at x (Some row) ≤ 8952
row_at_small x row fits short = let small = pos_code_small x fits in let least = up8_least (80 + (length (pos_code x) + length (row_code row))) in omega (arith, small, least, short)

pub row-small : (x : Pos) (row : Row) → KeyFits x.prefix → RowFits row → IsRow row → bytes_at x (Some row) ≤ 8952
row-small x row fits k is = row_at_small x row fits (row_code_small row is k)

static_at_small : (row : Row) → length (row_code row) ≤ 8599 → static_size row ≤ 8638
static_at_small row short = let least = up8_least (32 + length (row_code row)) in omega (arith, least, short)

pub static-small : (row : Row) → RowFits row → IsRow row → static_size row ≤ 8638
static-small row k is = static_at_small row (row_code_small row is k)

-- ---- what may be joined

-- where each version is within the limits, what may be joined fits together
pub limits-fit : (vs : List Version) → ((v : Version) → Contains vs v → HasCodedParts v) → FitTogether 131072 vs
limits-fit vs each = record {
  rows = λ x one rows from.
      let first = from one (elem-first one rows) in
      let fits = subst (λ (y : Pos). KeyFits y.prefix) first.4 ((each first.0 first.2).positions first.1 first.3) in
      let small = row_at_small x (joined_row (one ∷ rows)) fits (joined-small (one ∷ rows) (λ row on. let k = from row on in some_fits k.1.row row ((each k.0 k.2).rows k.1 k.3) k.5)) in omega (arith, small);
  statics = λ one rows from.
      let small = static_at_small (joined_row (one ∷ rows)) (joined-small (one ∷ rows) (λ row on. let k = from row on in some_fits k.0.statics row (each k.0 k.1).statics k.2)) in omega (arith, small);
  positions = λ v e on in_v. let small = dummy-small e.position ((each v on).positions e in_v) in omega (arith, small);
}

answered : (o : Ordering) (e : Entry) (rest : Finding) → IfSome e.row RowFits → IfSome rest.row RowFits → IfSome (entry_answers o e rest).row RowFits
answered Less e rest h k = tt
answered Equal e rest h k = h
answered Greater e rest h k = k

pub seen-fits : (s : Spot) (es : List Entry) → ((e : Entry) → Contains es e → IfSome e.row RowFits) → IfSome (finding_in s es).row RowFits
seen-fits s [] each = tt
seen-fits s (e ∷ es) each = answered (spot_cmp s e.position) e (finding_in s es) (each e (elem-first e es)) (seen-fits s es (λ f on. each f (elem-later e f es on)))

-- an entry with a row joined is small
pub joined-bytes-small : (x : Pos) (row : Row) (v : Version) → KeyFits x.prefix → RowFits row → IsRow row → HasCodedParts v → joined_bytes x row v ≤ 8952
joined-bytes-small x row v fits k is h = row_at_small x (joined_onto (finding_in (On x) v.entries).row row) fits (onto_small (finding_in (On x) v.entries).row row (seen-fits (On x) v.entries h.rows) k is)

pub joined-static-small : (row : Row) (v : Version) → RowFits row → IsRow row → HasCodedParts v → static_size (joined_onto v.statics row) ≤ 8638
joined-static-small row v k is h = static_at_small (joined_onto v.statics row) (onto_small v.statics row h.statics k is)

-- ---- a version after a call

-- of which each row is one that it had, and each position, or one within the limits
pub limits-within : (may : Pos → Type 0) (v w : Version) → IsWithin may v w → ((x : Pos) → may x → KeyFits x.prefix) → HasCodedParts v → HasCodedParts w
limits-within may v w within fits h = record {
  positions = λ e on. elim (within.entries e on) [ inl d ↦ subst (λ (y : Pos). KeyFits y.prefix) d.2 (h.positions d.0 d.1) | inr made ↦ fits e.position made.0 ];
  rows = λ e on. elim (within.entries e on) [ inl d ↦ subst (λ (o : Option Row). IfSome o RowFits) d.3 (h.rows d.0 d.1) | inr made ↦ subst (λ (o : Option Row). IfSome o RowFits) (sym made.1) tt ];
  statics = elim w.statics as (λ (o : Option Row). w.statics ≡ o → IfSome o RowFits) [
    | None ↦ λ is. tt
    | Some row ↦ λ is. some_fits v.statics row h.statics (within.statics row is)
  ] refl;
}

pub limits-split : (x : Pos) (v : Version) → KeyFits x.prefix → HasCodedParts v → HasCodedParts (with_entries (gap_split x v.entries) v)
limits-split x v fits = limits-within (λ y. y ≡ x) v (with_entries (gap_split x v.entries) v) (within-split x v) (λ y e. subst (λ (z : Pos). KeyFits z.prefix) (sym e) fits)

at_position : (b : Bool) (row : Row) (e : Entry) → KeyFits e.position.prefix → KeyFits (cond b (with_row row e) e).position.prefix
at_position true row e h = h
at_position false row e h = h

at_row : (b : Bool) (row : Row) (e : Entry) → RowFits row → IfSome e.row RowFits → IfSome (cond b (with_row row e) e).row RowFits
at_row true row e k h = onto-fits e.row row h k
at_row false row e k h = h

-- to which a row was joined
pub limits-joined : (x : Pos) (row : Row) (v : Version) → KeyFits x.prefix → RowFits row → HasCodedParts v → HasCodedParts (row_joined x row v)
limits-joined x row v fits k h =
    let s = limits-split x v fits h in let g : Entry → Entry = λ e. cond (eq_by_cmp pos_cmp x e.position) (with_row row e) e in record {
      positions = λ e on. let d = elem-mapped g (gap_split x v.entries) e on in subst (λ (f : Entry). KeyFits f.position.prefix) d.2 (at_position (eq_by_cmp pos_cmp x d.0.position) row d.0 (s.positions d.0 d.1));
      rows = λ e on. let d = elem-mapped g (gap_split x v.entries) e on in subst (λ (f : Entry). IfSome f.row RowFits) d.2 (at_row (eq_by_cmp pos_cmp x d.0.position) row d.0 k (s.rows d.0 d.1));
      statics = h.statics;
    }

pub limits-flagged : (row : Row) (flag : Flag) (v : Version) → RowFits row → HasCodedParts v → HasCodedParts (join_flagged_statics row flag v)
limits-flagged row flag v k h = record { positions = h.positions; rows = h.rows; statics = onto-fits v.statics row h.statics k }

pub limits-statics : (row : Row) (v : Version) → RowFits row → HasCodedParts v → HasCodedParts (join_statics row v)
limits-statics row v k h = record { positions = h.positions; rows = h.rows; statics = onto-fits v.statics row h.statics k }

-- of which the end dummy alone is there
pub limits-new : (flag : Flag) (pt : Option Tomb) (phase : ℕ) → HasCodedParts (version_of flag pt phase)
limits-new flag pt phase = record {
  positions = λ e on. elim (elem-cases _ e [] on) [ inl same ↦ subst (λ (f : Entry). KeyFits f.position.prefix) same (omega arith, All-from_recursion CompFits [] tt) | inr none ↦ absurd (elem-none e none) ];
  rows = λ e on. elim (elem-cases _ e [] on) [ inl same ↦ subst (λ (f : Entry). IfSome f.row RowFits) same tt | inr none ↦ absurd (elem-none e none) ];
  statics = tt;
}
