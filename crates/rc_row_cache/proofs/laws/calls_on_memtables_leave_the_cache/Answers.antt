use Rattle.std.proofs.Common.{ap}
use Rattle.rc_memory.specs.Memory.{Memory}
use Rattle.rc_row_cache.proofs.Memtables.{chains-same, let-go-same, put-beside-cache, released-same, same-itself, same-then, taken-same}
use Rattle.rc_row_cache.proofs.laws.calls_on_memtables_leave_the_cache.Goals as goal

pub returns : goal.returns
returns c = record {
  put = λ S schema w old new writes later rule h p. put-beside-cache S schema w old new later p (c.what_leaves_the_chains_of_both_leaves_their_writes.ensures.made S schema old p.mid writes later rule p.room h).active;
  not_put = λ S old new p. record { mid = new.chains; room = p.room; same = same-itself new.chains; counts = λ i. new.chains.counts };
  refused = λ S old new p. record { mid = p.mid; room = p.room; same = chains-same p.mid new.chains (ap (λ (m : Memory). m.chains) p.slots.same) (ap (λ (m : Memory). m.dropped) p.slots.same); counts = ap (λ (m : Memory). m.counts) p.slots.same };
  moved = λ old new h. chains-same old new h.untouched.chains h.untouched.dropped;
  taken = taken-same;
  released = released-same;
  let_go = λ S schema u new writes later ascend h gone. let-go-same schema u.sealed u.chains new writes ascend h.sealed gone;
  itself = same-itself;
  both = same-then;
  entries = λ old new same. c.each_change_leaves_the_caches_chains.ensures.beside old new same.stays same.none same.told;
}
