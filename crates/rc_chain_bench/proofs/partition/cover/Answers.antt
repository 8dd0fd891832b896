use Rattle.rc_chain.specs.Lives.{with_version_over}
use Rattle.rc_chain_bench.proofs.Kept.{cover-keeps, partition-on, partition-untouched}
use Rattle.rc_chain_bench.proofs.partition.cover.Goals as goal

pub returns-clause-partition : goal.returns-clause-partition
returns-clause-partition c =
    let m = c.has_room.new.chains in
    partition-on m c.add_version.new.self c.args.id (with_version_over 0) c.add_version.ensures.added.chains (cover-keeps 0) (partition-untouched c.args.chains.now m c.args.id c.has_room.ensures.untouched c.requires)
