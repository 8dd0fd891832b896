-- Of the cache a version's head and its end dummy are left then for each snapshot of it.
use Rattle.std.proofs.Common.{Option, subst, arith}
use Rattle.std.specs.Prelude.{IfSome}
use Rattle.rc_memory.specs.Kept.{IsSoundChain}
use Rattle.rc_memory.specs.Memory.{KeptChain}
use Rattle.rc_shard.proofs.leaving.what_is_live_is_of_memtables.Goals as goal

pub returns : goal.returns
returns c = record {
  none = λ m none. (c.each_chain_of_the_cache_has_one_version.ensures.none m none, c.chains_of_the_cache_stay_in_use.ensures.none m none);
  live = λ m rule versions sound live bare one used. (
      let settled = c.each_chain_of_the_cache_has_one_version.ensures.settled m (λ id k there. subst (λ (o : Option KeptChain). IfSome o (λ q. IsSoundChain q.chain)) there (sound id)) one in
      let less = c.little_is_left_where_nothing_may_be_evicted.ensures m rule versions one settled used bare in
      let both = c.what_is_live_is_of_both.ensures m live in
      omega (arith, less, both));
}
