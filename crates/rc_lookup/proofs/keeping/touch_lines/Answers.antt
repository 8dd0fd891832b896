-- Line by line.
use Rattle.std.proofs.Common.{List, subst}
use Rattle.rc_query.specs.declared.lines.OutLine.{OutLine}
use Rattle.rc_lookup.proofs.Given.{IsGiving, giving-end, giving-step, no-lines}
use Rattle.rc_lookup.proofs.keeping.touch_lines.Goals as goal

pub loop-line-preserved : goal.loop-line-preserved
loop-line-preserved g c =
    giving-step c.args.id c.args.lines.now c.in-Some.rest.now c.in-Some.line.now c.args.chains.now c.loop-line.chains c.touch_line.new.chains
    (subst (λ (ls : List OutLine). IsGiving c.args.id c.args.lines.now ls c.args.chains.now c.loop-line.chains) c.in-Some.ensures.cases.0 c.loop-line.invariant) c.touch_line.ensures

pub returns : goal.returns
returns g c = giving-end c.args.id c.args.lines.now c.args.chains.now c.loop-line.chains (subst (λ (ls : List OutLine). IsGiving c.args.id c.args.lines.now ls c.args.chains.now c.loop-line.chains) (no-lines c.loop-line.left.now c.in_default.ensures.cases) c.loop-line.invariant)
