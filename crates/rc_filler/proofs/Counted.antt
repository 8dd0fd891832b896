-- How often something was lost, after evictions and after a skipped fill.
use Rattle.std.proofs.Common.{◌≡◌, ◌⊎◌, ◌≤◌, ◌<◌, ◌+◌, ℕ, zero, suc, List, [], ◌∷◌, inl, inr, refl, sym, ap, ◌∙◌, subst, arith}
use Rattle.std.proofs.Math.Nat.{le-min, min-eq_left, min-le_right}
use Rattle.rc_core.specs.Version.{Version}
use Rattle.rc_memory.specs.declared.counts.Counts.{Counts}
use Rattle.rc_memory.specs.Memory.{Member, Memory, raised_by}
use Rattle.rc_evict.specs.Evictions.{evictions_counted, one_eviction_more}
use Rattle.rc_stream.specs.Snapshot.{most_counted}
use Rattle.rc_populate.specs.Filling.{IsFilled}
use Rattle.rc_filler.specs.Fillers.{losses}
use Rattle.rc_filler.specs.Fills.{IsSkipCounted}
use Rattle.rc_evict.specs.Evictions.{IsRoomMade}
use Rattle.rc_filler.specs.calls.Coming.{AreCountsInRange}

-- ---- a count raised

pub raised-low : (more n : ℕ) → n ≤ most_counted → n ≤ raised_by more n
raised-low more n h = le-min (omega arith) h

raised-top : (more n : ℕ) → raised_by more n ≤ most_counted
raised-top more n = min-le_right (n + more) most_counted

pub raised-is : (more n : ℕ) → n + more ≤ most_counted → raised_by more n ≡ n + more
raised-is more n h = min-eq_left h

pub low_or : (a b : ℕ) → (a < b) ⊎ (b ≤ a)
low_or zero zero = inr (omega arith)
low_or zero (suc b) = inl (omega arith)
low_or (suc a) zero = inr (omega arith)
low_or (suc a) (suc b) = elim (low_or a b) [ inl l ↦ inl (omega (arith, l)) | inr h ↦ inr (omega (arith, h)) ]

-- ---- evictions

record IsRaised (went : List Member) (c d : Counts) : Type 0 where
  up : c.evicted ≤ d.evicted
  top : d.evicted ≤ most_counted
  same : d.skipped ≡ c.skipped
  some : (w : Member) (ws : List Member) → went ≡ w ∷ ws → c.evicted < most_counted → c.evicted < d.evicted

evicted-counts : (went : List Member) (c : Counts) → c.evicted ≤ most_counted → IsRaised went c (evictions_counted went c)
evicted-counts [] c h = record { up = omega arith; top = h; same = refl; some = λ w ws e. absurd (cc) }
evicted-counts (w ∷ ws) c h =
    let one : (one_eviction_more c).evicted ≤ most_counted = raised-top 1 c.evicted in
    let low : c.evicted ≤ (one_eviction_more c).evicted = raised-low 1 c.evicted h in
    let rest = evicted-counts ws (one_eviction_more c) one in
    let further : (one_eviction_more c).evicted ≤ (evictions_counted ws (one_eviction_more c)).evicted = rest.up in record {
      up = omega (arith, low, further);
      top = rest.top;
      same = rest.same;
      some = λ v vs e less. (let more : (one_eviction_more c).evicted ≡ c.evicted + 1 = raised-is 1 c.evicted (omega (arith, less)) in omega (arith, more, further));
    }

module _ (S : ℕ) (m mid : Memory) (range : AreCountsInRange m.counts) (room : IsRoomMade S m mid) where
  raised : IsRaised room.went m.counts mid.counts
  raised = subst (IsRaised room.went m.counts) (sym room.evicted.counts) (evicted-counts room.went m.counts range.evicted)

  pub room-range : AreCountsInRange mid.counts
  room-range = record { evicted = raised.top; skipped = subst (λ n. n ≤ most_counted) (sym raised.same) range.skipped }

  pub room-raised : (m.counts.evicted ≤ mid.counts.evicted) × (m.counts.skipped ≤ mid.counts.skipped)
  room-raised = (raised.up, subst (λ n. m.counts.skipped ≤ n) (sym raised.same) (omega arith))

  pub room-losses : losses m ≤ losses mid
  room-losses = let up = raised.up in let same = raised.same in omega (arith, up, same)

  -- where nothing was lost nothing went
  pub room-none : losses m ≡ losses mid → losses mid < most_counted → room.went ≡ []
  room-none e low = by room.went refl
    where
      by : (went : List Member) → room.went ≡ went → room.went ≡ []
      by [] is = is
      by (w ∷ ws) is = (
          let up = raised.up in
          let same = raised.same in
          let low_there : m.counts.evicted < most_counted = omega (arith, low, up) in
          let more = raised.some w ws is low_there in
          absurd (omega (arith, more, same, e))
          )

  -- a skipped fill is counted
  pub skip-losses : (n : Memory) → IsSkipCounted mid n → (losses m < losses n) ⊎ (most_counted ≤ losses n)
  skip-losses n skip =
      let before = room-losses in
      let range = room-range in
      let evicted : n.counts.evicted ≡ mid.counts.evicted = ap (λ (x : Memory). x.counts.evicted) skip ∙ (raised-is 0 mid.counts.evicted (omega (arith, range.evicted)) ∙ omega arith) in
      let skipped : n.counts.skipped ≡ raised_by 1 mid.counts.skipped = ap (λ (x : Memory). x.counts.skipped) skip in
      elim (low_or mid.counts.skipped most_counted) [
        | inl less ↦ inl (let more : raised_by 1 mid.counts.skipped ≡ mid.counts.skipped + 1 = raised-is 1 mid.counts.skipped (omega (arith, less)) in omega (arith, before, evicted, skipped, more))
        | inr top ↦ inr (let low : most_counted ≤ raised_by 1 mid.counts.skipped = le-min (omega (arith, top)) (omega arith) in omega (arith, skipped, low))
      ]

-- what is filled is no loss
pub filled-losses : (id : ℕ) (f : Version → Version) (these : Member → Type 0) (mid n : Memory) → AreCountsInRange mid.counts → IsFilled id f these mid n → losses n ≡ losses mid
filled-losses id f these mid n range h =
    let evicted : n.counts.evicted ≡ mid.counts.evicted + 0 = ap (λ (c : Counts). c.evicted) h.counts ∙ raised-is 0 mid.counts.evicted (omega (arith, range.evicted)) in
    let skipped : n.counts.skipped ≡ mid.counts.skipped + 0 = ap (λ (c : Counts). c.skipped) h.counts ∙ raised-is 0 mid.counts.skipped (omega (arith, range.skipped)) in
    omega (arith, evicted, skipped)
