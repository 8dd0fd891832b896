use Rattle.std.proofs.Common.{length, ap, arith}
use Rattle.rc_memtable.proofs.LettingGo.{empty-unless, letting-over, letting-start, letting-step}
use Rattle.rc_memtable.proofs.freeing.let_all_go.Goals as goal

pub loop-key-init : goal.loop-key-init
loop-key-init g c = letting-start c.args.numbers.now.entries c.args.chains.now c.requires

pub let_go-requires : goal.let_go-requires
let_go-requires g c = (omega arith, c.loop-key.invariant.memtables.kept c.in-Some._key c.in-Some.id c.in-Some.ensures.value)

pub loop-key-smaller : goal.loop-key-smaller
loop-key-smaller g c = let first = ap length c.in-Some.ensures.removal in omega (arith, first)

pub loop-key-preserved : goal.loop-key-preserved
loop-key-preserved g c =
    letting-step c.args.numbers.now.entries c.loop-key.numbers.entries c.pop_first.new.self.entries (c.in-Some._key, c.in-Some.id) c.args.chains.now c.loop-key.chains c.let_go.new.chains c.loop-key.invariant c.in-Some.ensures.removal c.in-Some.ensures.value c.in-Some.ensures.updates.0 c.let_go.ensures

pub returns-clause-gone : goal.returns-clause-gone
returns-clause-gone g c =
    letting-over c.args.numbers.now.entries c.loop-key.numbers.entries c.args.chains.now c.loop-key.chains c.loop-key.invariant (empty-unless c.loop-key.numbers.entries c.in_default.ensures.variant.1)
