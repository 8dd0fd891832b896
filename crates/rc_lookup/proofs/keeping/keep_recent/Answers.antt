-- Of a chain that is not there nothing is listed.
use Rattle.std.proofs.Common.{ℕ, Option, sym, ◌∙◌, subst}
use Rattle.rc_lookup.specs.Touched.{AreTouched, IsEntryOfGiven, IsLineOf}
use Rattle.rc_lookup.proofs.Given.{gone-touched, touched-entries, touched-none, touched-rest, touched-says, touched-used}
use Rattle.rc_lookup.proofs.keeping.keep_recent.Goals as goal

pub returns-in-None-clause-touched : goal.returns-in-None-clause-touched
returns-in-None-clause-touched g c =
    let m = c.args.chains.now in
    subst (λ (o : Option ℕ). AreTouched (IsEntryOfGiven o c.args.lines.now) m m) (sym c.in-None.is ∙ c.find.ensures) (touched-none _ m (λ w on at. at))

pub returns-then-is_there-clause-touched : goal.returns-then-is_there-clause-touched
returns-then-is_there-clause-touched g c =
    subst (λ (o : Option ℕ). AreTouched (IsEntryOfGiven o c.args.lines.now) c.args.chains.now c.touch_lines.new.chains) (sym c.in-Some.is ∙ c.find.ensures) c.touch_lines.ensures

pub returns-then-is_there-clause-rest : goal.returns-then-is_there-clause-rest
returns-then-is_there-clause-rest g c = touched-rest (IsLineOf c.in-Some.id c.args.lines.now) c.args.chains.now c.touch_lines.new.chains c.touch_lines.ensures

pub returns-then-is_there-clause-used : goal.returns-then-is_there-clause-used
returns-then-is_there-clause-used g c = touched-used (IsLineOf c.in-Some.id c.args.lines.now) c.args.chains.now c.touch_lines.new.chains c.touch_lines.ensures

pub returns-then-is_there-clause-says : goal.returns-then-is_there-clause-says
returns-then-is_there-clause-says g c = touched-says (IsLineOf c.in-Some.id c.args.lines.now) c.args.chains.now c.touch_lines.new.chains c.touch_lines.ensures

pub returns-then-is_there-clause-entries : goal.returns-then-is_there-clause-entries
returns-then-is_there-clause-entries g c = touched-entries (IsLineOf c.in-Some.id c.args.lines.now) c.args.chains.now c.touch_lines.new.chains c.touch_lines.ensures

pub returns-else-is_there-clause-touched : goal.returns-else-is_there-clause-touched
returns-else-is_there-clause-touched g c =
    subst (λ (o : Option ℕ). AreTouched (IsEntryOfGiven o c.args.lines.now) c.args.chains.now c.args.chains.now) (sym c.in-Some.is ∙ c.find.ensures) (gone-touched c.args.chains.now c.in-Some.id c.args.lines.now c.known.ensures.rule (c.is_there.ensures.gone c.if-is_there.false))
