-- Each component is the next of those that are read.
use Rattle.std.proofs.Common.{sym}
use Rattle.rc_rowcode.specs.calls.Views.{seen_comp}
use Rattle.rc_rowcode.proofs.Loops.{comps_go_on, comps_end, comps_done}
use Rattle.rc_rowcode.proofs.keys.comps_at.Goals as goal

pub returns-in_default : goal.returns-in_default
returns-in_default c = sym (comps_end c.loop.comps.items c.args.count c.loop.counter c.loop.rest.now _ c.loop-test.true (sym c.in_default.ensures) c.loop.invariant)

pub loop-preserved : goal.loop-preserved
loop-preserved c =
    rw (c.in_ok-push.ensures.items, c.in_ok-copy.ensures)
    (comps_go_on c.loop.comps.items c.args.count c.loop.counter c.loop.rest.now (seen_comp c.in-Some.comp) c.in-Some.after.now _ c.loop-test.true (sym c.in-Some.ensures) c.loop.invariant)

pub returns : goal.returns
returns c = sym (comps_done c.loop.comps.items c.args.count c.loop.counter c.loop.rest.now _ c.loop-test.false c.loop.invariant)
