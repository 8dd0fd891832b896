use Rattle.std.proofs.Common.{sym, subst, arith}
use Rattle.rc_memory.specs.Memory.{HasPin}
use Rattle.rc_chain_bench.proofs.Kept.{taken-there}
use Rattle.rc_chain_bench.proofs.works.read_all.Goals as goal

pub see_all-seen-requires : goal.see_all-seen-requires
see_all-seen-requires c = let t = c.in_ok-snap.ensures.taken in
    subst (λ i. HasPin c.snapshot.new.self i c.in_ok-snap.snap.pin) (sym t.0) (taken-there c.args.chains.now c.snapshot.new.self c.args.id c.in_ok-snap.snap.pin c.in_ok-snap.snap.phase c.requires t.1)

pub release-requires : goal.release-requires
release-requires c = let t = c.in_ok-snap.ensures.taken in
    (omega arith, subst (λ i. HasPin c.snapshot.new.self i c.in_ok-snap.snap.pin) (sym t.0) (taken-there c.args.chains.now c.snapshot.new.self c.args.id c.in_ok-snap.snap.pin c.in_ok-snap.snap.phase c.requires t.1))
