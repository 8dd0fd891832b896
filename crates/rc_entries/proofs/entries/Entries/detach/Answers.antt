use Rattle.std.proofs.Common.{◌≡◌, ℕ, List, None, Some, cond, sym, ap, ◌∙◌}
use Rattle.std.specs.Ordering.{eq_by_cmp}
use Rattle.rc_position.specs.Position.{bytes_cmp}
use Rattle.rc_entries.specs.Found.{entry_number}
use Rattle.rc_entries.proofs.Taken.{taken-entries}
use Rattle.rc_entries.proofs.entries.Entries.detach.Goals as goal

pub returns-clause-entries : goal.returns-clause-entries
returns-clause-entries g c a =
    let found : entry_number c.args.self.now c.args.key.now ≡ Some c.in-Some.id = sym (c.in-Some.ensures.value ∙ ap (λ (es : List (List ℕ × ℕ)). entry_number es c.args.key.now) c.self.view_is) in
    taken-entries c.in-Some.id c.args.chains.now c.detach_there.new.chains c.detach_there.ensures.detached c.args.self.now c.take_out.new.numbers.entries c.args.key.now a found
    (λ q. c.in-Some.ensures.left q ∙ ap (λ (es : List (List ℕ × ℕ)). cond (eq_by_cmp bytes_cmp c.args.key.now q) None (entry_number es q)) c.self.view_is) c.in-Some.ensures.ascend
