-- What the open readers hold is there.
use Rattle.rc_shard.proofs.Closing.{served-held}
use Rattle.rc_shard.proofs.shard.ShardMachine.close.Goals as goal

pub close_all-requires-clause-held : goal.close_all-requires-clause-held
close_all-requires-clause-held c = served-held _ c.requires.2.cached.below c.requires.1 c.args.self.unstored.chains c.args.self.readers.items c.requires.1.readers c.requires.2.served

pub close_all-requires-clause-two : goal.close_all-requires-clause-two
close_all-requires-clause-two c = c.requires.2.two
