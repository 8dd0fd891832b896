-- What is evicted makes no chain larger.
use Rattle.std.proofs.Common.{◌≡◌, ◌≤◌, ◌+◌, ℕ, zero, suc, true, false, cond, List, [], ◌∷◌, Option, Some, None, refl, ap, sum_by, le_refl, arith}
use Rattle.std.specs.Prelude.{nat_eq}
use Rattle.std.specs.Ordering.{eq_by_cmp}
use Rattle.std.proofs.lemmas.List.Sums.{sum_by-cons}
use Rattle.rc_position.specs.declared.positions.Pos.{Pos}
use Rattle.rc_position.specs.Position.{pos_cmp}
use Rattle.rc_core.specs.declared.entries.Entry.{Entry}
use Rattle.rc_core.specs.declared.entries.Mark.{Mark}
use Rattle.rc_core.specs.Change.{drop_at, lose_last_gap, lost_mark, take_out, with_first_gap}
use Rattle.rc_core.specs.Continuity.{with_entries}
use Rattle.rc_core.specs.Steps.{on_version}
use Rattle.rc_core.specs.Version.{Version, end_position}
use Rattle.rc_partition.specs.Versions.{entries_bytes, entry_bytes, statics_bytes, version_bytes}
use Rattle.rc_memory.specs.Memory.{KeptChain, Member, on_shown, on_version_of}
use Rattle.rc_memory.specs.Room.{chain_bytes}
use Rattle.rc_filler.specs.Evictions.{evicted_at, evicted_of}

-- ---- entries

gap-bytes : (es : List Entry) → entries_bytes (lose_last_gap es) ≡ entries_bytes es
gap-bytes [] = refl
gap-bytes (e ∷ []) = refl
gap-bytes (e ∷ f ∷ es) = ap (λ n. entry_bytes e + n) (gap-bytes (f ∷ es))

first-bytes : (m : Mark) (es : List Entry) → entries_bytes (with_first_gap m es) ≡ entries_bytes es
first-bytes m [] = refl
first-bytes m (e ∷ es) = refl

out-bytes : (m : Mark) (x : Pos) (es : List Entry) → entries_bytes (take_out m x es) ≤ entries_bytes es
out-bytes m x [] = le_refl 0
out-bytes m x (e ∷ es) =
    let one = first-bytes m es in
    let rest = out-bytes m x es in
    elim (eq_by_cmp pos_cmp x e.position) as (λ b. entries_bytes (cond b (with_first_gap m es) (e ∷ take_out m x es)) ≤ entry_bytes e + entries_bytes es) [ true ↦ omega (arith, one) | false ↦ omega (arith, rest) ]

-- ---- a version

less-statics : (head statics entries : ℕ) → head + (0 + entries) ≤ head + (statics + entries)
less-statics head statics entries = omega arith

less-entries : (head statics before now : ℕ) → now ≤ before → head + (statics + now) ≤ head + (statics + before)
less-entries head statics before now h = omega (arith, h)

version-less : (at : Option Pos) (v : Version) → version_bytes (evicted_at at v) ≤ version_bytes v
version-less None v = less-statics 64 (statics_bytes v.statics) (entries_bytes v.entries)
version-less (Some x) v = elim (eq_by_cmp pos_cmp x end_position) as (λ b. version_bytes (with_entries (cond b (lose_last_gap v.entries) (drop_at x v.entries)) v) ≤ version_bytes v) [
  | true ↦ less-entries 64 (statics_bytes v.statics) (entries_bytes v.entries) (entries_bytes (lose_last_gap v.entries)) (let same = gap-bytes v.entries in omega (arith, same))
  | false ↦ less-entries 64 (statics_bytes v.statics) (entries_bytes v.entries) (entries_bytes (drop_at x v.entries)) (out-bytes lost_mark x v.entries)
]

-- ---- a chain

all-less : (j : ℕ) (at : Option Pos) (vs : List Version) → sum_by version_bytes (on_version j (evicted_at at) vs) ≤ sum_by version_bytes vs
all-less j at [] = le_refl _
all-less zero at (v ∷ vs) = let one = version-less at v in let before = sum_by-cons version_bytes v vs in let now = sum_by-cons version_bytes (evicted_at at v) vs in omega (arith, one, before, now)
all-less (suc j) at (v ∷ vs) = let rest = all-less j at vs in let before = sum_by-cons version_bytes v vs in let now = sum_by-cons version_bytes v (on_version j (evicted_at at) vs) in omega (arith, rest, before, now)

pub evicted-less : (id : ℕ) (went : List Member) (k : KeptChain) → chain_bytes (evicted_of id went k) ≤ chain_bytes k
evicted-less id [] k = le_refl _
evicted-less id (w ∷ ws) k = elim (nat_eq w.chain id) as (λ b. chain_bytes (evicted_of id ws (cond b (on_shown (on_version_of w.version (evicted_at w.position)) k) k)) ≤ chain_bytes k) [
  | true ↦ (let first = all-less w.version w.position k.chain.versions in let rest = evicted-less id ws (on_shown (on_version_of w.version (evicted_at w.position)) k) in omega (arith, first, rest))
  | false ↦ evicted-less id ws k
]
