use Rattle.std.proofs.Common.{ℕ, suc, cond, List, Some, None, subst}
use Rattle.rc_position.specs.Position.{Place}
use Rattle.rc_core.specs.Chains.{IsCarried, at_place, upto}
use Rattle.rc_core.specs.Continuity.{IsSameOrLost}
use Rattle.rc_core.specs.Steps.{IsChain, pinned_by_snapshot}
use Rattle.rc_memory.specs.Memory.{KeptChain, Member}
use Rattle.rc_evict.specs.Evictions.{evicted_of}
use Rattle.rc_evict.proofs.Chains.{form-kept, use-kept, versions-lost}
use Rattle.rc_evict.proofs.Seen.{carried-falls, each-seen, each-take, known-alike, known-falls}
use Rattle.rc_evict.proofs.laws.what_was_evicted_is_seen_as_before_or_lost.Goals as goal

seen_upto : (p : Place) (id : ℕ) (went : List Member) (k : KeptChain) (j : ℕ) → IsChain (at_place p k.chain) → IsSameOrLost (upto k.chain.versions j) (upto (evicted_of id went k).chain.versions j)
seen_upto p id went k j ch = each-seen (upto k.chain.versions j) (upto (evicted_of id went k).chain.versions j) (each-take (suc j) k.chain.versions (evicted_of id went k).chain.versions (versions-lost id went k ch.versions).lost)

pub returns : goal.returns
returns c = record {
  form = form-kept;
  seen = seen_upto;
  known = λ p id went k j x ch known. let s = seen_upto p id went k j ch in (known-falls (upto k.chain.versions j) (upto (evicted_of id went k).chain.versions j) s x known, known-alike (upto k.chain.versions j) (upto (evicted_of id went k).chain.versions j) s x known);
  carried = λ p id went k x ch carried. carried-falls (cond k.chain.updating (Some p) None) k.chain.versions (evicted_of id went k).chain.versions x (versions-lost id went k ch.versions).lost
      (subst (λ b. IsCarried (cond b (Some p) None) (pinned_by_snapshot (cond b (Some p) None) (evicted_of id went k).chain.versions) (evicted_of id went k).chain.versions x) (use-kept id went k).updating carried);
}
