-- Reading one after the other, as a loop does.
use Rattle.std.proofs.Common.{◌≡◌, ℕ, suc, ◌-◌, ◌+◌, ◌≤◌, ◌<◌, List, [], ◌∷◌, ◌++◌, Option, Some, None, refl, sym, ap, ◌∙◌, append_assoc, append-nil, arith}
use Rattle.std.specs.Option.{option_map}
use Rattle.rc_cell.specs.declared.writes.Cell.{Cell}
use Rattle.rc_position.specs.declared.comps.Comp.{Comp}
use Rattle.rc_rowcode.specs.calls.Reading.{parse_component, parse_components, parse_entry, parse_entries}

-- what was read before, and what is still read
abbrev pub with_front : {X : Type 0} → List X → Option (List X × List ℕ) → Option (List X × List ℕ)
with_front front read = option_map (λ x. (front ++ x.0, x.1)) read

regroup : {X : Type 0} (front : List X) (n : X) (read : Option (List X × List ℕ)) → with_front front (option_map (λ x. (n ∷ x.0, x.1)) read) ≡ with_front (front ++ n ∷ []) read
regroup front n (Some x) = ap (λ ns. Some (ns, x.1)) (sym (append_assoc front (n ∷ []) x.0))
regroup front n None = refl

pub comps_go_on : (front : List Comp) (count i : ℕ) (bytes : List ℕ) (n : Comp) (after : List ℕ) (total : Option (List Comp × List ℕ)) → i < count → parse_component bytes ≡ Some (n, after)
    → with_front front (parse_components (count - i) bytes) ≡ total → with_front (front ++ n ∷ []) (parse_components (count - (i + 1)) after) ≡ total
unfolding parse_components
comps_go_on front count i bytes n after total lt h so_far =
    let k : count - i ≡ suc (count - (i + 1)) = omega arith in
    let one : with_front front (parse_components (count - i) bytes) ≡ with_front (front ++ n ∷ []) (parse_components (count - (i + 1)) after) = rw (k, h) (regroup front n (parse_components (count - (i + 1)) after)) in
    sym one ∙ so_far

pub comps_end : (front : List Comp) (count i : ℕ) (bytes : List ℕ) (total : Option (List Comp × List ℕ)) → i < count → parse_component bytes ≡ None
    → with_front front (parse_components (count - i) bytes) ≡ total → total ≡ None
unfolding parse_components
comps_end front count i bytes total lt h so_far =
    let k : count - i ≡ suc (count - (i + 1)) = omega arith in
    let one : with_front front (parse_components (count - i) bytes) ≡ None = rw (k, h) refl in
    sym so_far ∙ one

pub comps_done : (front : List Comp) (count i : ℕ) (bytes : List ℕ) (total : Option (List Comp × List ℕ)) → count ≤ i → with_front front (parse_components (count - i) bytes) ≡ total → total ≡ Some (front, bytes)
unfolding parse_components
comps_done front count i bytes total le so_far =
    let k : count - i ≡ 0 = omega arith in
    let one : with_front front (parse_components (count - i) bytes) ≡ Some (front, bytes) = rw k (ap (λ ns. Some (ns, bytes)) (append-nil front)) in
    sym so_far ∙ one

pub entries_go_on : (front : List (ℕ × Cell)) (count i least : ℕ) (bytes : List ℕ) (n : ℕ × Cell) (after : List ℕ) (total : Option (List (ℕ × Cell) × List ℕ)) → i < count → parse_entry least bytes ≡ Some (n, after)
    → with_front front (parse_entries (count - i) least bytes) ≡ total → with_front (front ++ n ∷ []) (parse_entries (count - (i + 1)) (n.0 + 1) after) ≡ total
unfolding parse_entries
entries_go_on front count i least bytes n after total lt h so_far =
    let k : count - i ≡ suc (count - (i + 1)) = omega arith in
    let one : with_front front (parse_entries (count - i) least bytes) ≡ with_front (front ++ n ∷ []) (parse_entries (count - (i + 1)) (n.0 + 1) after) = rw (k, h) (regroup front n (parse_entries (count - (i + 1)) (n.0 + 1) after)) in
    sym one ∙ so_far

pub entries_end : (front : List (ℕ × Cell)) (count i least : ℕ) (bytes : List ℕ) (total : Option (List (ℕ × Cell) × List ℕ)) → i < count → parse_entry least bytes ≡ None
    → with_front front (parse_entries (count - i) least bytes) ≡ total → total ≡ None
unfolding parse_entries
entries_end front count i least bytes total lt h so_far =
    let k : count - i ≡ suc (count - (i + 1)) = omega arith in
    let one : with_front front (parse_entries (count - i) least bytes) ≡ None = rw (k, h) refl in
    sym so_far ∙ one

pub entries_done : (front : List (ℕ × Cell)) (count i least : ℕ) (bytes : List ℕ) (total : Option (List (ℕ × Cell) × List ℕ)) → count ≤ i → with_front front (parse_entries (count - i) least bytes) ≡ total → total ≡ Some (front, bytes)
unfolding parse_entries
entries_done front count i least bytes total le so_far =
    let k : count - i ≡ 0 = omega arith in
    let one : with_front front (parse_entries (count - i) least bytes) ≡ Some (front, bytes) = rw k (ap (λ ns. Some (ns, bytes)) (append-nil front)) in
    sym so_far ∙ one
