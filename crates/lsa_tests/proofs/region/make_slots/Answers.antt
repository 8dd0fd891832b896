use Rattle.lsa_tests.proofs.region.make_slots.Goals as goal

pub returns : goal.returns
returns c = c.loop.invariant.there
