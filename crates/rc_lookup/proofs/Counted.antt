-- How often something was lost, after evictions and after a skipped fill.
use Rattle.std.proofs.Common.{◌≡◌, ◌⊎◌, ◌≤◌, ◌<◌, ◌+◌, ℕ, zero, suc, [], inl, inr, sym, ap, ◌∙◌, subst, arith}
use Rattle.std.proofs.Math.Nat.{le-min}
use Rattle.rc_core.specs.Version.{Version}
use Rattle.rc_memory.specs.declared.counts.Counts.{Counts}
use Rattle.rc_memory.specs.Memory.{Member, Memory, chain_at, raised_by}
use Rattle.rc_stream.specs.Snapshot.{most_counted}
use Rattle.rc_cached.specs.Evictions.{IsRoomMade}
use Rattle.rc_cached.specs.Filling.{IsFilled}
use Rattle.rc_row_cache.specs.Fillers.{losses}
use Rattle.rc_cached.specs.Fills.{IsSkipCounted}
use Rattle.rc_cached.specs.Coming.{AreCountsInRange}
use Rattle.rc_lookup.specs.laws.Lost.{IsRaised, each-chain-stays, evicted-counts, nothing-went, raised-is}

pub low_or : (a b : ℕ) → (a < b) ⊎ (b ≤ a)
low_or zero zero = inr (omega arith)
low_or zero (suc b) = inl (omega arith)
low_or (suc a) zero = inr (omega arith)
low_or (suc a) (suc b) = elim (low_or a b) [ inl l ↦ inl (omega (arith, l)) | inr h ↦ inr (omega (arith, h)) ]

-- ---- evictions

module _ (S : ℕ) (m mid : Memory) (range : AreCountsInRange m.counts) (room : IsRoomMade S m mid) where
  raised : IsRaised room.went m.counts mid.counts
  raised = subst (IsRaised room.went m.counts) (sym room.evicted.counts) (evicted-counts room.went m.counts range.evicted)

  pub room-range : AreCountsInRange mid.counts
  room-range = record { evicted = raised.top; skipped = subst (λ n. n ≤ most_counted) (sym raised.same) range.skipped }

  pub room-raised : (m.counts.evicted ≤ mid.counts.evicted) × (m.counts.skipped ≤ mid.counts.skipped)
  room-raised = (raised.up, subst (λ n. m.counts.skipped ≤ n) (sym raised.same) (omega arith))

  pub room-losses : losses m ≤ losses mid
  room-losses = let up = raised.up in let same = raised.same in omega (arith, up, same)

  -- where nothing was lost nothing went, and each chain is as it was
  evicted-same : losses m ≡ losses mid → losses mid < most_counted → (mid.counts.evicted ≡ m.counts.evicted) × (m.counts.evicted < most_counted)
  evicted-same e low = (let up = raised.up in let same = raised.same in (omega (arith, e, up, same), omega (arith, low, up)))

  pub room-none : losses m ≡ losses mid → losses mid < most_counted → room.went ≡ []
  room-none e low = let h = evicted-same e low in nothing-went room.went room.gone m mid room.evicted h.0 h.1

  pub room-leaves : losses m ≡ losses mid → losses mid < most_counted → (id : ℕ) → chain_at mid id ≡ chain_at m id
  room-leaves e low = let h = evicted-same e low in each-chain-stays room.went room.gone m mid room.evicted h.0 h.1

  -- a skipped fill is counted
  -- a skip is counted, or is at the most that is counted
  pub skip-counts : (n : Memory) → IsSkipCounted mid n → (m.counts.skipped < n.counts.skipped) ⊎ (most_counted ≤ n.counts.skipped)
  skip-counts n skip =
      let same : mid.counts.skipped ≡ m.counts.skipped = raised.same in
      let skipped : n.counts.skipped ≡ raised_by 1 mid.counts.skipped = ap (λ (x : Memory). x.counts.skipped) skip in
      elim (low_or mid.counts.skipped most_counted) [
        | inl less ↦ inl (let more : raised_by 1 mid.counts.skipped ≡ mid.counts.skipped + 1 = raised-is 1 mid.counts.skipped (omega (arith, less)) in omega (arith, same, skipped, more))
        | inr top ↦ inr (let low : most_counted ≤ raised_by 1 mid.counts.skipped = le-min (omega (arith, top)) (omega arith) in omega (arith, skipped, low))
      ]

  pub skip-losses : (n : Memory) → IsSkipCounted mid n → (losses m < losses n) ⊎ (most_counted ≤ losses n)
  skip-losses n skip =
      let before = room-losses in
      let range = room-range in
      let evicted : n.counts.evicted ≡ mid.counts.evicted = ap (λ (x : Memory). x.counts.evicted) skip ∙ (raised-is 0 mid.counts.evicted (omega (arith, range.evicted)) ∙ omega arith) in
      let skipped : n.counts.skipped ≡ raised_by 1 mid.counts.skipped = ap (λ (x : Memory). x.counts.skipped) skip in
      elim (low_or mid.counts.skipped most_counted) [
        | inl less ↦ inl (let more : raised_by 1 mid.counts.skipped ≡ mid.counts.skipped + 1 = raised-is 1 mid.counts.skipped (omega (arith, less)) in omega (arith, before, evicted, skipped, more))
        | inr top ↦ inr (let low : most_counted ≤ raised_by 1 mid.counts.skipped = le-min (omega (arith, top)) (omega arith) in omega (arith, skipped, low))
      ]

-- what is filled is no loss
pub filled-losses : (id : ℕ) (f : Version → Version) (these : Member → Type 0) (mid n : Memory) → AreCountsInRange mid.counts → IsFilled id f these mid n → losses n ≡ losses mid
filled-losses id f these mid n range h =
    let evicted : n.counts.evicted ≡ mid.counts.evicted + 0 = ap (λ (c : Counts). c.evicted) h.counts ∙ raised-is 0 mid.counts.evicted (omega (arith, range.evicted)) in
    let skipped : n.counts.skipped ≡ mid.counts.skipped + 0 = ap (λ (c : Counts). c.skipped) h.counts ∙ raised-is 0 mid.counts.skipped (omega (arith, range.skipped)) in
    omega (arith, evicted, skipped)
