use Rattle.std.proofs.Common.{arith}
use Rattle.rc_cache_tests.proofs.Bare.{detached-free, is-there}
use Rattle.rc_cache_tests.proofs.entries.drop_bare.Goals as goal

pub detach-requires : goal.detach-requires
detach-requires c = (omega arith, is-there c.args.id c.args.chains.now c.args.chains.now c.requires)

pub free_one-requires : goal.free_one-requires
free_one-requires c = (omega arith, detached-free c.args.id c.args.chains.now c.detach.new.self c.requires c.detach.ensures.detached)
