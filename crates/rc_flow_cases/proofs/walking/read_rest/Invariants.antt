-- The stream is ready for each call.
use Rattle.rc_flow_cases.proofs.walking.read_rest.Given as goal

abbrev pub invariant-loop : goal.invariant-loop
invariant-loop g l = g.S.Frags.ready l.stream tt l.store
