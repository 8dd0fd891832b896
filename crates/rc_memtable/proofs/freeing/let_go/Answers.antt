use Rattle.std.proofs.Common.{arith}
use Rattle.rc_memtable.proofs.LettingGo.{detached-is, let-go-then}
use Rattle.rc_memtable.proofs.freeing.let_go.Goals as goal

pub free_if_unpinned-requires : goal.free_if_unpinned-requires
free_if_unpinned-requires g c = (omega arith, detached-is c.args.id c.args.chains.now c.detach.new.self c.detach.new.self c.requires c.known.ensures.sound c.detach.ensures.detached c.known.ensures.live c.known-2.ensures.live)

pub returns : goal.returns
returns g c = let-go-then c.args.id c.args.chains.now c.detach.new.self c.free_if_unpinned.new.chains c.requires c.known.ensures.sound c.detach.ensures.detached c.known.ensures.live c.known-2.ensures.live c.free_if_unpinned.ensures
