use Rattle.std.proofs.Common.{Some, sym, ap, ◌∙◌}
use Rattle.lsa_tests.proofs.Seated.{named-there}
use Rattle.lsa_tests.proofs.region.object_at.Goals as goal

pub returns-in-Some-Obj : goal.returns-in-Some-Obj
returns-in-Some-Obj c = named-there c.args.region.now c.known.ensures.well c.args.slot c.in-Some-Obj.r c.in-Some-Obj._field (sym c.root.ensures ∙ c.in-Some-Obj.is ∙ ap (λ e. Some e) c.in-Some-Obj.field-0-is)
