-- How many bytes more the chains take with something joined in the newest version of one, which is at most what that weighs, and how many less.
--     row-onto, statics-onto      the code of two rows joined is at most as long as both (rc_rowcode's `joined_code_short`), so a row joined to another one in an entry, or to a static row, adds its code, and what rounding adds
--     row-bytes, .., pt-bytes     a version with a row joined, a range tombstone, a static row, a partition tombstone: an entry is made, or one is changed; dummies are made at both bounds of a range, and no other
--     row-least, .., pt-least     it takes less by no more than the row that was there, whose place the joined one takes; nothing else becomes smaller
--     version-differs, over-differs, made-differs      what a version takes more its chain does, and what a chain takes more all do, whose sum is what is live, and so what they take less; a version of its end dummy alone takes 152 bytes
--     weight-pt, ..               what a write of one thing may take
use Rattle.std.proofs.Common.{◌≡◌, ◌≤◌, ◌+◌, ℕ, zero, suc, true, List, [], ◌∷◌, cond, Option, Some, None, length, map, refl, sym, ap, subst, slice_index_or, arith}
use Rattle.std.specs.Prelude.{IfSome, sum_by, if◌then◌else◌}
use Rattle.std.specs.declared.cmp.Ordering.TheVariants.{Less, Equal, Greater}
use Rattle.std.specs.Cmp.{tied_itself}
use Rattle.std.specs.Ordering.{is_eq}
use Rattle.std.specs.Option.{option_map}
use Rattle.std.proofs.lemmas.List.Sums.{sum_by-append, sum_by-cons}
use Rattle.rc_cell.specs.declared.rows.Row.{Row}
use Rattle.rc_cell.specs.declared.writes.Tomb.{Tomb}
use Rattle.rc_cell.specs.Winner.{IsRow}
use Rattle.rc_position.specs.declared.positions.Pos.{Pos}
use Rattle.rc_position.specs.Position.{IsBefore, pos_cmp, row_pos}
use Rattle.rc_position.specs.declared.comps.Comp.{Comp}
use Rattle.rc_position.specs.laws.Orders.{pos_cmp_same, pos_cmp_total}
use Rattle.rc_ranges.specs.declared.pieces.Piece.{Piece}
use Rattle.rc_rowcode.specs.Objects.{static_size}
use Rattle.rc_rowcode.specs.Spelling.{row_code}
use Rattle.rc_rowcode.specs.laws.JoinedSizes.{joined_code_short}
use Rattle.rc_writes.specs.Weight.{entry_weight, weight}
use Rattle.rc_mutation.specs.Fragments.{is_written}
use Rattle.rc_core.specs.declared.entries.ChainKind.TheVariants.{Memtable}
use Rattle.rc_core.specs.declared.entries.Entry.{Entry}
use Rattle.rc_core.specs.declared.entries.Flag.{Flag}
use Rattle.rc_core.specs.declared.entries.Flag.TheVariants.{Inherit}
use Rattle.rc_core.specs.declared.entries.Mark.{Mark}
use Rattle.rc_core.specs.AtPlace.{EachEntry}
use Rattle.rc_core.specs.Change.{at_entry, dummy, entry_changed, gap_split, join_range, join_row_at, joined_onto, raised_mark, split_by, with_row}
use Rattle.rc_core.specs.Continuity.{EachOf, joined_options}
use Rattle.rc_core.specs.StandsFor.{written_pt, written_range, written_row, written_statics}
use Rattle.rc_core.specs.Steps.{join_flagged_statics, join_pt, on_version, range_joined, row_joined, version_of}
use Rattle.rc_core.specs.Version.{Ascend, IsVersion, Version}
use Rattle.rc_core.specs.laws.Placed.{each-wider}
use Rattle.rc_core.specs.laws.Spots.{ascend-tail}
use Rattle.rc_core.specs.laws.Surgery.{back-above}
use Rattle.rc_version.specs.Versions.{bytes_at, entries_bytes, entry_bytes, statics_bytes, version_bytes}
use Rattle.rc_registry.specs.Registry.{put_at_number}
use Rattle.rc_memory.specs.Kept.{present}
use Rattle.rc_memory.specs.Memory.{KeptChain, Memory, chain_at, on_chain, on_shown, on_version_of}
use Rattle.rc_memory.specs.Room.{chain_bytes}
use Rattle.rc_chain.specs.Lives.{chain_of_new, with_version_over}
use Rattle.rc_memtable.specs.calls.Steps.{chains_bytes}

-- so many bytes more they are at most than before, and so many less
abbrev pub DiffersBy : (more less old new : ℕ) → Type 0
DiffersBy more less old new = (new ≤ old + more) × (old ≤ new + less)

-- ---- a row joined at its position

-- a row joined to another one, or where there is none, takes at most its code more
row-onto : (x : Pos) (o : Option Row) (row : Row) → IfSome o IsRow → IsRow row → bytes_at x (Some (joined_onto o row)) ≤ bytes_at x o + (8 + length (row_code row))
row-onto x None row h up = omega arith
row-onto x (Some old) row h up = omega (arith, joined_code_short old row h up)

-- and it takes less by at most the one that was there
row-over : (x : Pos) (o : Option Row) (row : Row) (less : ℕ) → IfSome o (λ old. bytes_at x (Some old) ≤ less) → bytes_at x o ≤ bytes_at x (Some (joined_onto o row)) + less
row-over x None row less h = omega arith
row-over x (Some old) row less h = omega (arith, h)

row-alone : (x : Pos) (row : Row) → bytes_at x (Some row) ≤ entry_weight x + length (row_code row)
row-alone x row = omega arith

-- entries behind a position are as they were
behind-stay : (x : Pos) (g : Entry → Entry) (es : List Entry) → EachEntry (λ e. IsBefore x e.position) es → at_entry x g es ≡ es
behind-stay x g [] h = refl
behind-stay x g (e ∷ es) h = λ i. cond (is_eq (h.0 i)) (g e) e ∷ behind-stay x g es h.1 i

all-behind : (x : Pos) (e : Entry) (es : List Entry) → IsBefore x e.position → Ascend (e ∷ es) → EachEntry (λ f. IsBefore x f.position) es
all-behind x e es l a = each-wider (λ f. IsBefore e.position f.position) (λ f. IsBefore x f.position) (λ f m. pos_cmp_total.trans x e.position f.position l m) es (back-above [] e es a)

module _ (x : Pos) (row : Row) (up : IsRow row) where
  -- an entry is made, before the first one
  row-made : (m : Mark) (e : Entry) (es : List Entry) → IsBefore x e.position → Ascend (e ∷ es) → at_entry x (with_row row) (dummy x m ∷ e ∷ es) ≡ with_row row (dummy x m) ∷ e ∷ es
  row-made m e es l a = λ i. cond (is_eq (tied_itself pos_cmp_total x i)) (with_row row (dummy x m)) (dummy x m) ∷ behind-stay x (with_row row) (e ∷ es) (l, all-behind x e es l a) i

  -- or it is the first one
  row-there : (e : Entry) (es : List Entry) → pos_cmp x e.position ≡ Equal → Ascend (e ∷ es) → at_entry x (with_row row) (e ∷ es) ≡ with_row row e ∷ es
  row-there e es t a =
      let behind = subst (λ (y : Pos). EachEntry (λ f. IsBefore y f.position) es) (sym (pos_cmp_same x e.position t)) (back-above [] e es a) in
      λ i. cond (is_eq (t i)) (with_row row e) e ∷ behind-stay x (with_row row) es behind i

  -- or it is one further on
  row-later : (e : Entry) (es : List Entry) → pos_cmp x e.position ≡ Greater → at_entry x (with_row row) (e ∷ es) ≡ e ∷ at_entry x (with_row row) es
  row-later e es g = λ i. cond (is_eq (g i)) (with_row row e) e ∷ at_entry x (with_row row) es

  abbrev IsWithin : List Entry → List Entry → Type 0
  IsWithin es ds = entries_bytes ds ≤ entries_bytes es + (entry_weight x + length (row_code row))

  row-entries : (es : List Entry) → Ascend es → EachEntry (λ e. IfSome e.row IsRow) es → IsWithin es (join_row_at x row es)
  row-entries [] a h = omega arith
  row-entries (e ∷ es) a h = elim (pos_cmp x e.position) as (λ r. pos_cmp x e.position ≡ r → IsWithin (e ∷ es) (at_entry x (with_row row) (split_by r x e es (gap_split x es)))) [
    | Less ↦ λ l. subst (IsWithin (e ∷ es)) (sym (row-made e.gap e es l a)) (omega (arith, row-alone x row))
    | Equal ↦ λ t. subst (IsWithin (e ∷ es)) (sym (row-there e es t a)) (omega (arith, row-onto e.position e.row row h.0 up))
    | Greater ↦ λ g. subst (IsWithin (e ∷ es)) (sym (row-later e (gap_split x es) g)) (omega (arith, row-entries es (ascend-tail e es a) h.1))
  ] refl

  abbrev IsOver : ℕ → List Entry → List Entry → Type 0
  IsOver less es ds = entries_bytes es ≤ entries_bytes ds + less

  row-entries-over : (less : ℕ) (es : List Entry) → Ascend es → EachEntry (λ e. IfSome e.row (λ old. bytes_at e.position (Some old) ≤ less)) es → IsOver less es (join_row_at x row es)
  row-entries-over less [] a h = omega arith
  row-entries-over less (e ∷ es) a h = elim (pos_cmp x e.position) as (λ r. pos_cmp x e.position ≡ r → IsOver less (e ∷ es) (at_entry x (with_row row) (split_by r x e es (gap_split x es)))) [
    | Less ↦ λ l. subst (IsOver less (e ∷ es)) (sym (row-made e.gap e es l a)) (omega arith)
    | Equal ↦ λ t. subst (IsOver less (e ∷ es)) (sym (row-there e es t a)) (omega (arith, row-over e.position e.row row less h.0))
    | Greater ↦ λ g. subst (IsOver less (e ∷ es)) (sym (row-later e (gap_split x es) g)) (omega (arith, row-entries-over less es (ascend-tail e es a) h.1))
  ] refl

-- ---- a range tombstone joined

split-entries : (x : Pos) (es : List Entry) → entries_bytes (gap_split x es) ≤ entries_bytes es + entry_weight x
split-entries x [] = omega arith
split-entries x (e ∷ es) = elim (pos_cmp x e.position) as (λ r. entries_bytes (split_by r x e es (gap_split x es)) ≤ entries_bytes (e ∷ es) + entry_weight x) [
  | Less ↦ omega arith
  | Equal ↦ omega arith
  | Greater ↦ omega (arith, split-entries x es)
]

split-least : (x : Pos) (es : List Entry) → entries_bytes es ≤ entries_bytes (gap_split x es)
split-least x [] = omega arith
split-least x (e ∷ es) = elim (pos_cmp x e.position) as (λ r. entries_bytes (e ∷ es) ≤ entries_bytes (split_by r x e es (gap_split x es))) [
  | Less ↦ omega arith
  | Equal ↦ omega arith
  | Greater ↦ omega (arith, split-least x es)
]

changed-entries : (f : Mark → Mark) (from to : Pos) (es : List Entry) → entries_bytes (map (entry_changed f from to) es) ≡ entries_bytes es
changed-entries f from to [] = refl
changed-entries f from to (e ∷ es) = ap (λ n. entry_bytes e + n) (changed-entries f from to es)

range-entries : (from to : Pos) (tomb : Tomb) (es : List Entry) → entries_bytes (join_range from to tomb es) ≤ entries_bytes es + (entry_weight from + entry_weight to)
range-entries from to tomb es = omega (arith, changed-entries (raised_mark (Some tomb)) from to (gap_split to (gap_split from es)), split-entries to (gap_split from es), split-entries from es)

range-entries-least : (from to : Pos) (tomb : Tomb) (es : List Entry) → entries_bytes es ≤ entries_bytes (join_range from to tomb es)
range-entries-least from to tomb es = omega (arith, changed-entries (raised_mark (Some tomb)) from to (gap_split to (gap_split from es)), split-least to (gap_split from es), split-least from es)

-- ---- a static row joined

statics-onto : (o : Option Row) (row : Row) → IfSome o IsRow → IsRow row → statics_bytes (joined_options o (Some row)) ≤ statics_bytes o + (40 + length (row_code row))
statics-onto None row h up = omega arith
statics-onto (Some old) row h up = omega (arith, joined_code_short old row h up)

statics-over : (o : Option Row) (row : Row) (less : ℕ) → IfSome o (λ old. static_size old ≤ less) → statics_bytes o ≤ statics_bytes (joined_options o (Some row)) + less
statics-over None row less h = omega arith
statics-over (Some old) row less h = omega (arith, h)

-- ---- versions

pub row-bytes : (x : Pos) (row : Row) (v : Version) → IsRow row → IsVersion v → EachEntry (λ e. IfSome e.row IsRow) v.entries → version_bytes (row_joined x row v) ≤ version_bytes v + (entry_weight x + length (row_code row))
row-bytes x row v up is h = omega (arith, row-entries x row up v.entries is.ascend h)

pub range-bytes : (from to : Pos) (tomb : Tomb) (v : Version) → version_bytes (range_joined from to tomb v) ≤ version_bytes v + (entry_weight from + entry_weight to)
range-bytes from to tomb v = omega (arith, range-entries from to tomb v.entries)

pub statics-bytes : (row : Row) (flag : Flag) (v : Version) → IsRow row → IfSome v.statics IsRow → version_bytes (join_flagged_statics row flag v) ≤ version_bytes v + (40 + length (row_code row))
statics-bytes row flag v up h = omega (arith, statics-onto v.statics row h up)

pub pt-bytes : (tomb : Tomb) (v : Version) → version_bytes (join_pt tomb v) ≤ version_bytes v + 0
pt-bytes tomb v = omega arith

module _ (less : ℕ) (v : Version) where
  pub row-least : (x : Pos) (row : Row) → IsRow row → IsVersion v → EachEntry (λ e. IfSome e.row (λ old. bytes_at e.position (Some old) ≤ less)) v.entries → version_bytes v ≤ version_bytes (row_joined x row v) + less
  row-least x row up is h = omega (arith, row-entries-over x row up less v.entries is.ascend h)

  pub range-least : (from to : Pos) (tomb : Tomb) → version_bytes v ≤ version_bytes (range_joined from to tomb v) + less
  range-least from to tomb = omega (arith, range-entries-least from to tomb v.entries)

  pub statics-least : (row : Row) (flag : Flag) → IfSome v.statics (λ old. static_size old ≤ less) → version_bytes v ≤ version_bytes (join_flagged_statics row flag v) + less
  statics-least row flag h = omega (arith, statics-over v.statics row less h)

  pub pt-least : (tomb : Tomb) → version_bytes v ≤ version_bytes (join_pt tomb v) + less
  pt-least tomb = omega arith

-- ---- a chain

module _ (f : Version → Version) (more less : ℕ) where
  abbrev AllDiffer : List Version → Type 0
  AllDiffer = EachOf (λ v. DiffersBy more less (version_bytes v) (version_bytes (f v)))

  on-version-differs : (j : ℕ) (vs : List Version) → AllDiffer vs → DiffersBy more less (sum_by version_bytes vs) (sum_by version_bytes (on_version j f vs))
  on-version-differs j [] h = (omega arith, omega arith)
  on-version-differs zero (v ∷ vs) h = (omega (arith, sum_by-cons version_bytes v vs, sum_by-cons version_bytes (f v) vs, h.0.0), omega (arith, sum_by-cons version_bytes v vs, sum_by-cons version_bytes (f v) vs, h.0.1))
  on-version-differs (suc j) (v ∷ vs) h =
      let rest = on-version-differs j vs h.1 in
      (omega (arith, sum_by-cons version_bytes v vs, sum_by-cons version_bytes v (on_version j f vs), rest.0), omega (arith, sum_by-cons version_bytes v vs, sum_by-cons version_bytes v (on_version j f vs), rest.1))

over-bytes : (k : KeptChain) → DiffersBy 152 0 (chain_bytes k) (chain_bytes (on_shown (with_version_over 0) k))
over-bytes k = let sum = sum_by-append version_bytes k.chain.versions (version_of Inherit None 0 ∷ []) in (omega (arith, sum), omega (arith, sum))

-- ---- all chains

abbrev bytes_of : Option KeptChain → ℕ
bytes_of None = 0
bytes_of (Some k) = chain_bytes k

present-bytes : (o : Option KeptChain) (cs : List (Option KeptChain)) → sum_by chain_bytes (present (o ∷ cs)) ≡ bytes_of o + sum_by chain_bytes (present cs)
present-bytes None cs = omega arith
present-bytes (Some k) cs = sum_by-cons chain_bytes k (present cs)

-- of a chain that becomes another one, or comes to be
put-bytes : (id : ℕ) (c : Option KeptChain) (cs : List (Option KeptChain)) → sum_by chain_bytes (present (put_at_number id c cs)) + bytes_of (slice_index_or cs id None) ≡ sum_by chain_bytes (present cs) + bytes_of c
put-bytes zero c [] = omega (arith, present-bytes c [])
put-bytes zero c (d ∷ cs) = omega (arith, present-bytes c cs, present-bytes d cs)
put-bytes (suc id) c [] = omega (arith, present-bytes None (put_at_number id c []), put-bytes id c [])
put-bytes (suc id) c (d ∷ cs) = omega (arith, present-bytes d (put_at_number id c cs), present-bytes d cs, put-bytes id c cs)

-- what is done to a chain, and by how many bytes it takes more or less then
pub chain-differs : (m n : Memory) (id : ℕ) (g : KeptChain → KeptChain) (more less : ℕ) (k : KeptChain) → n.chains ≡ on_chain id g m.chains → chain_at m id ≡ Some k → DiffersBy more less (chain_bytes k) (chain_bytes (g k)) → DiffersBy more less (chains_bytes m) (chains_bytes n)
chain-differs m n id g more less k now there both =
    let total = put-bytes id (option_map g (chain_at m id)) m.chains in
    let after : chains_bytes n ≡ sum_by chain_bytes (present (on_chain id g m.chains)) = ap (λ (cs : List (Option KeptChain)). sum_by chain_bytes (present cs)) now in
    let old : bytes_of (chain_at m id) ≡ chain_bytes k = ap bytes_of there in
    let new : bytes_of (option_map g (chain_at m id)) ≡ chain_bytes (g k) = ap (λ (o : Option KeptChain). bytes_of (option_map g o)) there in
    (omega (arith, total, after, old, new, both.0), omega (arith, total, after, old, new, both.1))

pub version-differs : (m n : Memory) (id j : ℕ) (f : Version → Version) (more less : ℕ) (k : KeptChain) → n.chains ≡ on_chain id (on_shown (on_version_of j f)) m.chains → chain_at m id ≡ Some k →
    EachOf (λ v. DiffersBy more less (version_bytes v) (version_bytes (f v))) k.chain.versions → DiffersBy more less (chains_bytes m) (chains_bytes n)
version-differs m n id j f more less k now there each = chain-differs m n id (on_shown (on_version_of j f)) more less k now there (on-version-differs f more less j k.chain.versions each)

pub over-differs : (m n : Memory) (id : ℕ) (k : KeptChain) → n.chains ≡ on_chain id (on_shown (with_version_over 0)) m.chains → chain_at m id ≡ Some k → DiffersBy 152 0 (chains_bytes m) (chains_bytes n)
over-differs m n id k now there = chain-differs m n id (on_shown (with_version_over 0)) 152 0 k now there (over-bytes k)

pub made-differs : (m n : Memory) (id : ℕ) → chain_at m id ≡ None → n.chains ≡ put_at_number id (Some (chain_of_new Memtable None 0)) m.chains → DiffersBy 152 0 (chains_bytes m) (chains_bytes n)
made-differs m n id vacant now =
    let total = put-bytes id (Some (chain_of_new Memtable None 0)) m.chains in
    let after : chains_bytes n ≡ sum_by chain_bytes (present (put_at_number id (Some (chain_of_new Memtable None 0)) m.chains)) = ap (λ (cs : List (Option KeptChain)). sum_by chain_bytes (present cs)) now in
    let old : bytes_of (chain_at m id) ≡ 0 = ap bytes_of vacant in
    (omega (arith, total, after, old), omega (arith, total, after, old))

-- a chain that is gone
pub gone-less : (m n : Memory) (id : ℕ) → n.chains ≡ put_at_number id None m.chains → chains_bytes n ≤ chains_bytes m
gone-less m n id now =
    let total = put-bytes id None m.chains in
    let after : chains_bytes n ≡ sum_by chain_bytes (present (put_at_number id None m.chains)) = ap (λ (cs : List (Option KeptChain)). sum_by chain_bytes (present cs)) now in
    omega (arith, total, after)

-- ---- what a write of one thing may take

pub weight-pt : (tomb : Tomb) → weight (written_pt tomb) ≡ 512
weight-pt tomb = omega arith

pub weight-row : (key : List Comp) (row : Row) → weight (written_row key row) ≡ 512 + (entry_weight (row_pos key) + length (row_code row))
weight-row key row = omega (arith, sum_by-cons (λ (e : List Comp × Row). entry_weight (row_pos e.0) + length (row_code e.1)) (key, row) [])

pub weight-range : (from to : Pos) (tomb : Tomb) → weight (written_range from to tomb) ≡ 512 + (entry_weight from + entry_weight to)
weight-range from to tomb = omega (arith, sum_by-cons (λ (p : Piece). entry_weight p.from + entry_weight p.to) (record { from = from; to = to; tomb = tomb }) [])

pub weight-statics : (row : Row) → is_written row ≡ true → weight (written_statics row) ≡ 512 + (40 + length (row_code row))
weight-statics row some = let here : (if is_written row then 40 + length (row_code row) else 0) ≡ 40 + length (row_code row) = ap (λ b. if b then 40 + length (row_code row) else 0) some in omega (arith, here)
