use Rattle.rc_evict.proofs.Chains.{untouched, use-kept}
use Rattle.rc_evict.proofs.laws.evictions_leave_the_use_of_a_chain.Goals as goal

pub returns : goal.returns
returns c = record {
  kind = λ id went k. (use-kept id went k).kind;
  attached = λ id went k. (use-kept id went k).attached;
  updating = λ id went k. (use-kept id went k).updating;
  pins = λ id went k. (use-kept id went k).pins;
  passed = λ id went k. (use-kept id went k).passed;
  count = λ id went k. (use-kept id went k).count;
  phases = λ id went k. (use-kept id went k).phases;
  untouched = untouched;
}
