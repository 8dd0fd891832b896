-- No more is taken, and no count falls, where nothing is done but to chains, and over calls one after another.
use Rattle.std.proofs.Common.{◌≡◌, ◌≤◌, ◌∙◌, length, subst, sym, ap, le_refl, arith}
use Rattle.lsa_region.specs.Region.{View, live_bytes}
use Rattle.rc_memory.specs.declared.counts.Counts.{Counts}
use Rattle.rc_memory.specs.Memory.{Memory}
use Rattle.rc_memtable.specs.LetGo.{NoCountFell, TakesNoMore}

pub counts-same : (old new : Memory) → new.counts ≡ old.counts → new.region.moved ≡ old.region.moved → NoCountFell old new
counts-same old new e m = record {
  evicted = subst (λ (c : Counts). old.counts.evicted ≤ c.evicted) (sym e) (le_refl old.counts.evicted);
  moved = subst (λ n. old.region.moved ≤ n) (sym m) (le_refl old.region.moved);
  skipped = subst (λ (c : Counts). old.counts.skipped ≤ c.skipped) (sym e) (le_refl old.counts.skipped);
}

pub counts-then : (old mid new : Memory) → NoCountFell old mid → NoCountFell mid new → NoCountFell old new
counts-then old mid new f g = record {
  evicted = let a = f.evicted in let b = g.evicted in omega (arith, a, b);
  moved = let a = f.moved in let b = g.moved in omega (arith, a, b);
  skipped = let a = f.skipped in let b = g.skipped in omega (arith, a, b);
}

-- the region and the counts are as they were
pub no-more-beside : (old new : Memory) → new.counts ≡ old.counts → new.region ≡ old.region → TakesNoMore old new
no-more-beside old new counts region = record {
  budget = ap (λ (v : View). length v.usages) region;
  live = subst (λ (v : View). live_bytes v ≤ live_bytes old.region) (sym region) (le_refl (live_bytes old.region));
  counts = counts-same old new counts (ap (λ (v : View). v.moved) region);
}

-- all is as it was
pub no-more-itself : (m : Memory) → TakesNoMore m m
no-more-itself m = record { budget = λ i. length m.region.usages; live = le_refl (live_bytes m.region); counts = counts-same m m (λ i. m.counts) (λ i. m.region.moved) }

pub no-more-then : (old mid new : Memory) → TakesNoMore old mid → TakesNoMore mid new → TakesNoMore old new
no-more-then old mid new f g = record {
  budget = g.budget ∙ f.budget;
  live = let a = f.live in let b = g.live in omega (arith, a, b);
  counts = counts-then old mid new f.counts g.counts;
}
