-- The key is read, and the offset behind it.
use Rattle.std.proofs.Common.{◌≡◌, ℕ, List, true, false, ap, sym, ◌∙◌, Some, length}
use Rattle.std.specs.Prelude.{not}
use Rattle.std.specs.Cmp.{tied_itself}
use Rattle.std.specs.Ordering.{is_eq, eq_by_cmp}
use Rattle.std.proofs.lemmas.List.{take_rest}
use Rattle.rc_position.specs.Position.{bytes_cmp}
use Rattle.rc_position.specs.laws.Orders.{bytes_cmp_total}
use Rattle.rc_tfile.specs.Items.{bytes_code}
use Rattle.rc_tables.specs.calls.Rebuilt.{number_at_front}
use Rattle.rc_tables.proofs.Spans.{entry_key, entry_number}
use Rattle.rc_tables.proofs.locating.part_offset.Goals as goal

same_pair : (x y : List ℕ × ℕ) → Some x ≡ Some y → x ≡ y
same_pair x y e = cc

pub returns-in_default-2 : goal.returns-in_default-2
returns-in_default-2 c = λ off at.
    absurd (let q = sym c.in_default-2.is ∙ entry_key c.args.bytes.now c.in-Some.rest.now c.args.key.now off c.in_ok-found.field-0 c.in-Some.ensures (c.as_slice-limits.ensures.not_empty, c.as_slice-limits.ensures.short) c.in_ok-found.ensures.value at in cc)

pub returns-then-ne : goal.returns-then-ne
returns-then-ne c = λ off at.
    let pair : List ℕ × ℕ = (c.in-Some-2.found, c.in-Some-2.size) in
    let wanted : List ℕ × ℕ = (c.args.key.now, length (bytes_code c.args.key.now)) in
    let same : pair ≡ wanted = same_pair pair wanted (sym c.in-Some-2.is ∙ entry_key c.args.bytes.now c.in-Some.rest.now c.args.key.now off c.in_ok-found.field-0 c.in-Some.ensures (c.as_slice-limits.ensures.not_empty, c.as_slice-limits.ensures.short) c.in_ok-found.ensures.value at) in
    let key : c.in-Some-2.found ≡ c.args.key.now = ap (λ (x : List ℕ × ℕ). x.0) same in
    let clash : true ≡ false = c.if-ne.ensures ∙ ap (λ k. not (eq_by_cmp bytes_cmp k c.args.key.now)) key ∙ ap (λ o. not (is_eq o)) (tied_itself bytes_cmp_total c.args.key.now) in
    absurd cc

pub returns : goal.returns
returns c = λ off at.
    let pair : List ℕ × ℕ = (c.in-Some-2.found, c.in-Some-2.size) in
    let wanted : List ℕ × ℕ = (c.args.key.now, length (bytes_code c.args.key.now)) in
    let same : pair ≡ wanted = same_pair pair wanted (sym c.in-Some-2.is ∙ entry_key c.args.bytes.now c.in-Some.rest.now c.args.key.now off c.in_ok-found.field-0 c.in-Some.ensures (c.as_slice-limits.ensures.not_empty, c.as_slice-limits.ensures.short) c.in_ok-found.ensures.value at) in
    c.number_at.ensures
    ∙ ap number_at_front (take_rest c.in-Some.rest.now c.in-Some-2.size)
    ∙ entry_number c.args.bytes.now c.in-Some.rest.now c.args.key.now off c.in-Some-2.size c.in-Some.ensures (ap (λ (x : List ℕ × ℕ). x.1) same) at
