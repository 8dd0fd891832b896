use Rattle.std.proofs.Common.{Some, sym, ap, ◌∙◌, arith}
use Rattle.rc_partition.proofs.Passing.{climbs-there, climbs-set, climbs-next, climbs-top, climbs-few}
use Rattle.rc_partition.proofs.walks.root_over.Goals as goal

pub link_of-requires : goal.link_of-requires
link_of-requires g c = (omega arith, climbs-there c.args.region.now c.known.ensures.well c.args.n c.loop-passed.at c.loop-passed._passed c.loop-passed.invariant c.requires.0 c.requires.1 c.requires.2 c.requires.3)

pub loop-passed-preserved : goal.loop-passed-preserved
loop-passed-preserved g c = climbs-next c.args.region.now c.known.ensures.well c.args.n c.loop-passed.at c.loop-passed._passed c.loop-passed.invariant c.in-Some-Obj.newer _ (sym c.link_of.ensures ∙ c.in-Some-Obj.is ∙ ap (λ e. Some e) c.in-Some-Obj.field-0-is)

pub returns-in-Some-Slot : goal.returns-in-Some-Slot
returns-in-Some-Slot g c = λ root xs ys p. climbs-top c.args.region.now c.known.ensures.well c.args.n c.loop-passed.at c.loop-passed._passed c.loop-passed.invariant _ (sym c.link_of.ensures ∙ c.in-Some-Slot.is ∙ ap (λ e. Some e) c.in-Some-Slot.field-0-is) root xs ys p

pub unreachable-requires : goal.unreachable-requires
unreachable-requires g c = climbs-set c.args.region.now c.known.ensures.well c.args.n c.loop-passed.at c.loop-passed._passed c.loop-passed.invariant c.requires.0 c.requires.1 c.requires.2 c.requires.3 (sym c.link_of.ensures ∙ c.in-None.is)

pub unreachable-requires-2 : goal.unreachable-requires-2
unreachable-requires-2 g c = climbs-few c.args.region.now c.known.ensures.well c.args.n c.loop-passed.at c.loop-passed._passed c.loop-passed.invariant c.known.ensures.summed (omega (arith, c.loop-passed-test.false, c.objects-most.ensures)) c.requires.0 c.requires.1 c.requires.2 c.requires.3
