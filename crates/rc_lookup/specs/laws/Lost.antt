-- Where no eviction is counted nothing went.
use Rattle.std.proofs.Common.{◌≡◌, ◌≤◌, ◌<◌, ◌+◌, ℕ, List, [], ◌∷◌, Option, Some, None, refl, sym, ap, ◌∙◌, subst, arith}
use Rattle.std.proofs.Math.Nat.{le-min, min-eq_left, min-le_right}
use Rattle.std.specs.Option.{option_map}
use Rattle.std.specs.Prelude.{Contains}
use Rattle.rc_memory.specs.declared.counts.Counts.{Counts}
use Rattle.rc_memory.specs.Lists.{elem-none}
use Rattle.rc_memory.specs.Memory.{KeptChain, Member, Memory, chain_at, raised_by}
use Rattle.rc_cached.specs.Evictions.{AreEvicted, evicted_of, evictions_counted, one_eviction_more}
use Rattle.rc_stream.specs.Snapshot.{most_counted}

-- ---- a count raised

pub raised-low : (more n : ℕ) → n ≤ most_counted → n ≤ raised_by more n
raised-low more n h = le-min (omega arith) h

pub raised-top : (more n : ℕ) → raised_by more n ≤ most_counted
raised-top more n = min-le_right (n + more) most_counted

pub raised-is : (more n : ℕ) → n + more ≤ most_counted → raised_by more n ≡ n + more
raised-is more n h = min-eq_left h

-- ---- evictions

-- what evictions make of the counts: evictions rise, by at least one where something went and the count was below its most; skips stay
pub record IsRaised (went : List Member) (c d : Counts) : Type 0 where
  pub up : c.evicted ≤ d.evicted
  pub top : d.evicted ≤ most_counted
  pub same : d.skipped ≡ c.skipped
  pub some : (w : Member) (ws : List Member) → went ≡ w ∷ ws → c.evicted < most_counted → c.evicted < d.evicted

pub evicted-counts : (went : List Member) (c : Counts) → c.evicted ≤ most_counted → IsRaised went c (evictions_counted went c)
evicted-counts [] c h = record { up = omega arith; top = h; same = refl; some = λ w ws e. absurd (cc) }
evicted-counts (w ∷ ws) c h =
    let one : (one_eviction_more c).evicted ≤ most_counted = raised-top 1 c.evicted in
    let low : c.evicted ≤ (one_eviction_more c).evicted = raised-low 1 c.evicted h in
    let rest = evicted-counts ws (one_eviction_more c) one in
    let further : (one_eviction_more c).evicted ≤ (evictions_counted ws (one_eviction_more c)).evicted = rest.up in record {
      up = omega (arith, low, further);
      top = rest.top;
      same = rest.same;
      some = λ v vs e less. (let more : (one_eviction_more c).evicted ≡ c.evicted + 1 = raised-is 1 c.evicted (omega (arith, less)) in omega (arith, more, further));
    }

-- a chain of which nothing was evicted
none-evicted : (id : ℕ) (o : Option KeptChain) → option_map (evicted_of id []) o ≡ o
none-evicted id None = refl
none-evicted id (Some k) = refl

module _ (went : List Member) (gone : List ℕ) (old new : Memory) (evicted : AreEvicted went gone old new) (same : new.counts.evicted ≡ old.counts.evicted) (low : old.counts.evicted < most_counted) where
  pub nothing-went : went ≡ []
  nothing-went = by went refl
    where
      by : (ws : List Member) → went ≡ ws → went ≡ []
      by [] is = is
      by (w ∷ ws) is = (
          let raised : IsRaised went old.counts new.counts = subst (IsRaised went old.counts) (sym evicted.counts) (evicted-counts went old.counts (omega (arith, low))) in
          let more = raised.some w ws is low in
          absurd (omega (arith, more, same))
          )

  pub each-chain-stays : (id : ℕ) → chain_at new id ≡ chain_at old id
  each-chain-stays id =
      let none = nothing-went in
      let stays = evicted.chains id (λ on. (let cause = evicted.cause id on in elem-none cause.0 (subst (λ ws. Contains ws cause.0) none cause.1))) in
      stays ∙ ap (λ ws. option_map (evicted_of id ws) (chain_at old id)) none ∙ none-evicted id (chain_at old id)
