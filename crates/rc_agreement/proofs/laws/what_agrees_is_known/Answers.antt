use Rattle.std.proofs.Common.{sym, ◌∙◌}
use Rattle.rc_agreement.proofs.laws.what_agrees_is_known.Goals as goal

pub returns : goal.returns
returns c = record {
  there = λ m s writes a. a.known.there;
  head = λ m s writes a h k. k.pt ∙ a.known.head;
  statics = λ m s writes a h k t. a.known.static_row (sym k.known ∙ t) ∙ sym k.statics;
  stands = λ m s writes a. a.known;
}
