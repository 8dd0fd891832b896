-- What a version of one inserted row takes.
use Rattle.std.proofs.Common.{◌≡◌, ℕ, ◌+◌, Bool, true, false, List, [], ◌∷◌, None, cond, length, map, refl, sym, ap, ◌∙◌, arith}
use Rattle.std.specs.Prelude.{sum_by}
use Rattle.std.specs.Ordering.{eq_by_cmp}
use Rattle.std.proofs.lemmas.List.Sums.{sum_by-cons}
use Rattle.rc_cell.specs.declared.rows.Row.{Row}
use Rattle.rc_position.specs.declared.positions.Pos.{Pos}
use Rattle.rc_position.specs.Position.{IsBefore, pos_cmp}
use Rattle.rc_position.specs.laws.Orders.{eq_by_cmp-same, pos_cmp_same, pos_cmp_total}
use Rattle.lsa_kinds.specs.Kinds.{up8}
use Rattle.rc_rowcode.specs.Spelling.{pos_code, row_code}
use Rattle.rc_core.specs.declared.entries.Entry.{Entry}
use Rattle.rc_core.specs.declared.entries.Flag.TheVariants.{Inherit}
use Rattle.rc_core.specs.Change.{dummy, gap_split, mark, split_by, with_row}
use Rattle.rc_core.specs.Steps.{row_joined, version_of}
use Rattle.rc_core.specs.Version.{Version, end_position}
use Rattle.rc_core.specs.laws.Placed.{not_end}
use Rattle.rc_version.specs.Versions.{entries_bytes, version_bytes}
use Rattle.rc_memory.specs.Partitions.{version_objects}
use Rattle.rc_memory.specs.Memory.{KeptChain, Memory}
use Rattle.rc_memory.specs.Room.{chain_bytes, chain_objects}

here : (x : Pos) → eq_by_cmp pos_cmp x x ≡ true
here x = of (eq_by_cmp pos_cmp x x) refl
  where
    of : (b : Bool) → eq_by_cmp pos_cmp x x ≡ b → eq_by_cmp pos_cmp x x ≡ true
    of true e = e
    of false e = (eq_by_cmp-same pos_cmp_total pos_cmp_same x x (eq_by_cmp pos_cmp x x) refl).1 refl

off : (x y : Pos) → (x ≡ y → ⊥) → eq_by_cmp pos_cmp x y ≡ false
off x y ne = of (eq_by_cmp pos_cmp x y) refl
  where
    of : (b : Bool) → eq_by_cmp pos_cmp x y ≡ b → eq_by_cmp pos_cmp x y ≡ false
    of true e = absurd (ne ((eq_by_cmp-same pos_cmp_total pos_cmp_same x y true (sym e)).0 refl))
    of false e = e

abbrev pub end_dummy : Entry
end_dummy = dummy end_position (mark Inherit None)

module _ (x : Pos) (row : Row) (phase : ℕ) (before : IsBefore x end_position) where
  -- the entry of the row, and the end dummy
  pub two-entries : (row_joined x row (version_of Inherit None phase)).entries ≡ with_row row (dummy x (mark Inherit None)) ∷ end_dummy ∷ []
  two-entries = ap (λ es. map (λ (e : Entry). cond (eq_by_cmp pos_cmp x e.position) (with_row row e) e) es) (ap (λ o. split_by o x end_dummy [] (gap_split x [])) before)
      ∙ (λ i. cond (here x i) (with_row row (dummy x (mark Inherit None))) (dummy x (mark Inherit None)) ∷ cond (off x end_position (not_end x before) i) (with_row row end_dummy) end_dummy ∷ [])

  pub row-objects : version_objects (row_joined x row (version_of Inherit None phase)) ≡ 3
  row-objects = ap (λ es. 1 + (0 + length es)) two-entries

  pub row-bytes : length (pos_code x) ≡ 11 → length (row_code row) ≡ 11 → version_bytes (row_joined x row (version_of Inherit None phase)) ≡ 256
  row-bytes place code = ap (λ es. 64 + (0 + entries_bytes es)) two-entries ∙ (λ i. 64 + (0 + (up8 (80 + (place i + code i)) + (88 + 0))))

module _ (m : Memory) (k : KeptChain) (x : Pos) (row : Row) (phase : ℕ) (chains : List KeptChain) (only : chains ≡ k ∷ []) (one : k.chain.versions ≡ row_joined x row (version_of Inherit None phase) ∷ []) (before : IsBefore x end_position) where
  single : (f : Version → ℕ) (n : ℕ) → f (row_joined x row (version_of Inherit None phase)) ≡ n → sum_by f k.chain.versions ≡ n
  single f n is = let s = ap (sum_by f) one ∙ sum_by-cons f (row_joined x row (version_of Inherit None phase)) [] in omega (arith, s, is)

  pub objects-three : sum_by chain_objects chains ≡ 3
  objects-three = let s = ap (sum_by chain_objects) only ∙ sum_by-cons chain_objects k [] in omega (arith, s, single version_objects 3 (row-objects x row phase before))

  pub bytes-worked : length (pos_code x) ≡ 11 → length (row_code row) ≡ 11 → sum_by chain_bytes chains ≡ 256
  bytes-worked place code = let s = ap (sum_by chain_bytes) only ∙ sum_by-cons chain_bytes k [] in omega (arith, s, single version_bytes 256 (row-bytes x row phase before place code))
