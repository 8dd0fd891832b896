-- What stands for a state stands for it still where the rows that were given became the most recent ones.
use Rattle.rc_shard.proofs.Rereading.{keeps-touched}
use Rattle.rc_shard.proofs.shard.Shard.give.Goals as goal

pub returns-clause-keeps : goal.returns-clause-keeps
returns-clause-keeps c =
    let kept = c.keep_recent.ensures in
    keeps-touched _ c.a_reader_stays.ensures (λ schema u n writes later. c.what_leaves_the_chains_of_both_leaves_their_writes.ensures.beside 131072 schema u n writes later) c.args.self.now c.keep_recent.new.chains _ kept.touched kept.rest kept.used kept.says kept.entries
