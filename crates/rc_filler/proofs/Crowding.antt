-- What a fill loses it loses in a crowded region.
use Rattle.std.proofs.Common.{◌≡◌, ◌⊎◌, ◌+◌, ◌≤◌, ℕ, inl, inr, refl, sym, ap, ◌∙◌, subst, arith}
use Rattle.std.proofs.Math.Nat.{le-min}
use Rattle.std.specs.Prelude.{sum_by}
use Rattle.rc_core.specs.Version.{Version}
use Rattle.rc_memory.specs.declared.counts.Counts.{Counts}
use Rattle.rc_memory.specs.Kept.{present}
use Rattle.rc_memory.specs.Memory.{Member, Memory, counts_raised, on_shown, raised_by}
use Rattle.rc_evict.specs.Crowding.{IsNearlyFull, LosesNothing, LosesWhereCrowded, version_count, versions_of}
use Rattle.rc_evict.specs.laws.Crowds.{loses-after, loses-counted, loses-nothing, loses-shrunk, sum-on}
use Rattle.rc_populate.specs.Filling.{IsFilled, on_newest_of}
use Rattle.rc_stream.specs.declared.fillers.Fill.{Fill}
use Rattle.rc_stream.specs.declared.fillers.Fill.TheVariants.{Filled, Skipped, NotNewest}
use Rattle.rc_stream.specs.Snapshot.{most_counted}
use Rattle.rc_filler.specs.Fills.{IsSkipCounted, IsUnfit, Portion, filled_with}
use Rattle.rc_filler.specs.calls.Coming.{AreCountsInRange, CameOf}
use Rattle.rc_filler.proofs.Continued.{newest-length}
use Rattle.rc_filler.proofs.Counted.{low_or, raised-is, raised-low, room-range}

-- ---- a portion is filled

none_more : (n m : ℕ) → m ≡ n + 0 → m ≡ n
none_more n m e = omega (arith, e)

-- what the count is once it was raised
counted : (less m n : ℕ) → m ≤ most_counted → n ≡ raised_by less m → (m ≤ n) × ((n ≡ m + less) ⊎ (most_counted ≤ n))
counted less m n top e = (
  subst (λ i. m ≤ i) (sym e) (raised-low less m top),
  elim (low_or (m + less) most_counted) [
    | inl low ↦ inl (e ∙ raised-is less m (omega (arith, low)))
    | inr high ↦ inr (subst (λ i. most_counted ≤ i) (sym e) (le-min high (omega arith)))
  ],
)

module _ (S id : ℕ) (f : Version → Version) (these : Member → Type 0) (mid n : Memory) (range : AreCountsInRange mid.counts) (top : mid.counts.shrunk ≤ most_counted) (h : IsFilled id f these mid n) where
  versions : versions_of n ≡ versions_of mid
  versions = ap (λ cs. sum_by version_count (present cs)) h.chains ∙ sum-on version_count (on_shown (on_newest_of f)) (λ k. newest-length f k.chain.versions) id mid.chains

  lost : LosesNothing mid n
  lost = (
    none_more mid.counts.evicted n.counts.evicted (ap (λ (c : Counts). c.evicted) h.counts ∙ raised-is 0 mid.counts.evicted (omega (arith, range.evicted))),
    none_more mid.counts.skipped n.counts.skipped (ap (λ (c : Counts). c.skipped) h.counts ∙ raised-is 0 mid.counts.skipped (omega (arith, range.skipped))),
  )

  pub filled-loses : LosesWhereCrowded S 0 mid n
  filled-loses = let c = counted _ mid.counts.shrunk n.counts.shrunk top (ap (λ (c : Counts). c.shrunk) h.counts) in loses-shrunk S mid n h.region.budget versions lost c.0 c.1

-- ---- a portion is skipped

skipped-loses : (S : ℕ) (mid n : Memory) → mid.counts.shrunk ≤ most_counted → IsNearlyFull S mid → IsSkipCounted mid n → LosesWhereCrowded S 0 mid n
skipped-loses S mid n top full skip = subst (LosesWhereCrowded S 0 mid) (sym skip)
    (loses-counted S mid (counts_raised 0 1 0 mid) full refl refl refl (none_more mid.counts.shrunk (raised_by 0 mid.counts.shrunk) (raised-is 0 mid.counts.shrunk (omega (arith, top)))))

-- ---- what came of it

pub came-loses : (S id pin : ℕ) (q : Portion) (fill : Fill) (m n : Memory) → AreCountsInRange m.counts → m.counts.shrunk ≤ most_counted → CameOf S fill q id pin m n → (IsUnfit q → ⊥) → LosesWhereCrowded S 0 m n
came-loses S id pin q Filled m n range top came fit =
    let mid = came.1.0 in
    let room = came.1.1 in
    loses-after S 0 m mid n room.loses (filled-loses S id (filled_with q) (λ w. w.chain ≡ id) mid n (room-range S m mid range room) (subst (λ i. i ≤ most_counted) (sym room.shrunk) top) came.1.2.filled)
came-loses S id pin q Skipped m n range top came fit =
    let mid = came.1.0 in
    let room = came.1.1 in
    elim came.1.2 [
      | inl out ↦ loses-after S 0 m mid n room.loses (skipped-loses S mid n (subst (λ i. i ≤ most_counted) (sym room.shrunk) top) out.2 came.1.3)
      | inr unfit ↦ absurd (fit unfit)
    ]
came-loses S id pin q NotNewest m n range top came fit = subst (LosesWhereCrowded S 0 m) (sym came.1) (loses-nothing S m)
