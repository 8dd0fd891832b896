-- A part in the middle of a list is read and overwritten.
use Rattle.std.proofs.Common.{◌≡◌, ℕ, ◌+◌, ◌≤◌, List, ◌++◌, length, take, drop, sym, ap, ◌∙◌, arith, length-drop}
use Rattle.std.proofs.Math.Seq.{drop-append-add, take-append-add}
use Rattle.std.proofs.lemmas.List.{append_assoc, take-append-le, drop-append-le}
use Rattle.lsa_segment.specs.Bytes.{part, overwritten}

drop-middle : (front middle back : List ℕ) (at k : ℕ) → length front ≡ at → k ≤ length middle → drop (at + k) (front ++ (middle ++ back)) ≡ drop k middle ++ back
drop-middle front middle back at k long inside =
    ap (λ n. drop (n + k) (front ++ (middle ++ back))) (sym long) ∙ drop-append-add front (middle ++ back) k ∙ drop-append-le k middle back inside

pub part-middle : (front middle back : List ℕ) (at k n : ℕ) → length front ≡ at → k + n ≤ length middle → part (at + k) n (front ++ (middle ++ back)) ≡ part k n middle
part-middle front middle back at k n long inside =
    let most : n ≤ length (drop k middle) = omega (arith, length-drop k middle) in
    ap (take n) (drop-middle front middle back at k long (omega arith)) ∙ take-append-le n (drop k middle) back most

pub overwritten-middle : (front middle back new : List ℕ) (at k : ℕ) → length front ≡ at → k + length new ≤ length middle
    → overwritten (front ++ (middle ++ back)) (at + k) new ≡ front ++ (overwritten middle k new ++ back)
overwritten-middle front middle back new at k long inside =
    let all = front ++ (middle ++ back) in
    let start : take (at + k) all ≡ front ++ take k middle =
    ap (λ n. take (n + k) all) (sym long) ∙ take-append-add front (middle ++ back) k ∙ ap (λ l. front ++ l) (take-append-le k middle back (omega arith)) in
    let far : at + k + length new ≡ at + (k + length new) = omega arith in
    let end : drop (at + k + length new) all ≡ drop (k + length new) middle ++ back =
    ap (λ n. drop n all) far ∙ drop-middle front middle back at (k + length new) long inside in
    ap (λ l. l ++ (new ++ drop (at + k + length new) all)) start ∙ ap (λ l. (front ++ take k middle) ++ (new ++ l)) end
    ∙ append_assoc front (take k middle) (new ++ (drop (k + length new) middle ++ back))
    ∙ ap (λ l. front ++ (take k middle ++ l)) (sym (append_assoc new (drop (k + length new) middle) back))
    ∙ ap (λ l. front ++ l) (sym (append_assoc (take k middle) (new ++ drop (k + length new) middle) back))
