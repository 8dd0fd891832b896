-- One eviction: the front is lost, it is counted, and the chain is swept.
use Rattle.std.proofs.Common.{◌≡◌, ℕ, ◌+◌, ◌*◌, ◌/◌, ◌≤◌, Option, Some, None, length, inl, inr, refl, sym, ap, ◌∙◌, subst, arith}
use Rattle.std.specs.Prelude.{Contains, IfSome, IsSome, sum_by}
use Rattle.std.specs.Option.{option_map}
use Rattle.lsa_region.specs.Region.{live_bytes}
use Rattle.lsa_store.specs.declared.place.Ref.{Ref}
use Rattle.rc_core.specs.Version.{IsVersion}
use Rattle.rc_partition.specs.laws.Lists.{elem-here}
use Rattle.rc_registry.specs.Registry.{put_at_number}
use Rattle.rc_memory.specs.declared.counts.Counts.{Counts}
use Rattle.rc_memory.specs.Memory.{HasChain, KeptChain, Member, Memory, chain_at, counts_raised, raised_by, on_shown, on_version_of}
use Rattle.rc_memory.specs.Recency.{IsRecency, MayBeListed}
use Rattle.rc_memory.specs.Changes.{OfVersion}
use Rattle.rc_memory.specs.Room.{ChainsFit, FitTogether, chain_bytes}
use Rattle.rc_memory.specs.Kept.{present}
use Rattle.rc_memory.specs.laws.Rules.{length-on}
use Rattle.rc_chain.specs.Lives.{IsChainDropped, IsIdle}
use Rattle.rc_evict.specs.declared.evicting.Evicted.{Evicted}
use Rattle.rc_core.specs.Steps.{on_version}
use Rattle.rc_evict.specs.Crowding.{version_count, versions_of}
use Rattle.rc_evict.specs.laws.Crowds.{sum-gone, sum-on}
use Rattle.rc_evict.specs.Evictions.{IsFrontLost, IsOneEvicted, TakenOut, eviction_counted, evicted_at}
use Rattle.rc_chain.specs.Held.{IsHeldAt}
use Rattle.rc_evict.proofs.Bytes.{chain-less, chain-lost, idle-bytes, put-gone, put-less, put-lost, version-lost}
use Rattle.rc_evict.proofs.Chains.{use-changed}
use Rattle.rc_evict.proofs.Idle.{idle-again, idle-alike, idle-decided}
use Rattle.rc_evict.proofs.Places.{holds-of}
use Rattle.rc_evict.proofs.Together.{lost-this, some-of}

-- one more eviction counted, and nothing else
pub counted-once : (m : Memory) → raised_by 0 m.counts.skipped ≡ m.counts.skipped → raised_by 0 m.counts.shrunk ≡ m.counts.shrunk → counts_raised 1 0 0 m ≡ eviction_counted m
counted-once m a b = λ i. record {
  chains = m.chains;
  recency = m.recency;
  dropped = m.dropped;
  counts = record { evicted = raised_by 1 m.counts.evicted; skipped = a i; shrunk = b i };
  region = m.region;
  standing = m.standing;
}

-- what fits of a chain that is there
fit_of : (S : ℕ) (o : Option KeptChain) (k : KeptChain) → IfSome o (λ q. FitTogether S q.chain.versions) → o ≡ Some k → FitTogether S k.chain.versions
fit_of S o k h e = subst (λ (x : Option KeptChain). IfSome x (λ q. FitTogether S q.chain.versions)) e h

kept_sum : (old lost now live_old live_new eighth before after : ℕ) → live_old ≡ old → live_new ≡ now → now ≡ lost → old ≤ lost + eighth → after ≡ before → live_old + 152 * after ≤ live_new + eighth + 152 * before
kept_sum old lost now live_old live_new eighth before after a b c d e = omega (arith, a, b, c, d, e)

gone_sum : (old lost now chain live_old live_new eighth count before after : ℕ) → live_old ≡ old → live_new ≡ now → lost ≡ now + chain → chain ≡ 152 * count → before ≡ after + count → old ≤ lost + eighth → live_old + 152 * after ≤ live_new + eighth + 152 * before
gone_sum old lost now chain live_old live_new eighth count before after a b c d e f = omega (arith, a, b, c, d, e, f)

fewer_after : (before after count : ℕ) → before ≡ after + count → after ≤ before
fewer_after before after count e = omega (arith, e)

as_many : (before after : ℕ) → after ≡ before → after ≤ before
as_many before after e = omega (arith, e)

less_sum : (before lost now more live_old live_new : ℕ) → live_old ≡ before → live_new ≡ now → lost ≡ now + more → lost ≤ before → live_new ≤ live_old
less_sum before lost now more live_old live_new a b c d = omega (arith, a, b, c, d)

same_sum : (before lost now live_old live_new : ℕ) → live_old ≡ before → live_new ≡ now → now ≡ lost → lost ≤ before → live_new ≤ live_old
same_sum before lost now live_old live_new a b c d = omega (arith, a, b, c, d)

module _ (m l q n : Memory) (s : Evicted) (w : Member) (id : ℕ) (t : IsFrontLost s w m l) (chain : id ≡ w.chain) (count : q ≡ eviction_counted l) where
  front : (k : KeptChain) × (chain_at m w.chain ≡ Some k) × MayBeListed k.chain w.version w.position
  front = some-of (λ k. MayBeListed k.chain w.version w.position) (chain_at m w.chain) t.listed

  lost_at : (k : KeptChain) → chain_at m w.chain ≡ Some k → chain_at l w.chain ≡ Some (on_shown (on_version_of w.version (evicted_at w.position)) k)
  lost_at k there = lost-this w m l m k (TakenOut s w) t.front there t.changed

  counted_at : (k : KeptChain) → chain_at m w.chain ≡ Some k → chain_at q id ≡ Some (on_shown (on_version_of w.version (evicted_at w.position)) k)
  counted_at k there = (λ i. chain_at (count i) (chain i)) ∙ lost_at k there

  pub still-there : HasChain q id
  still-there = let k = front in subst (λ (o : Option KeptChain). IsSome o) (sym (counted_at k.0 k.1)) refl

  -- what is idle of the chain as it was is of the chain as it is
  idle_now : (k : KeptChain) → IsIdle (eviction_counted l) w.chain k.chain → IsIdle q id (on_shown (on_version_of w.version (evicted_at w.position)) k).chain
  idle_now k i = subst (λ x. IsIdle x id (on_shown (on_version_of w.version (evicted_at w.position)) k).chain) (sym count)
      (subst (λ x. IsIdle (eviction_counted l) x (on_shown (on_version_of w.version (evicted_at w.position)) k).chain) (sym chain)
      (idle-again (eviction_counted l) (eviction_counted l) w.chain k (on_shown (on_version_of w.version (evicted_at w.position)) k) (use-changed w.version w.position k) (λ j at on. on) i))

  idle_then : (k : KeptChain) → IsIdle q id (on_shown (on_version_of w.version (evicted_at w.position)) k).chain → IsIdle (eviction_counted l) w.chain k.chain
  idle_then k i = idle-alike (eviction_counted l) (eviction_counted l) w.chain k (on_shown (on_version_of w.version (evicted_at w.position)) k) (use-changed w.version w.position k) (λ j at on. on)
      (subst (λ x. IsIdle (eviction_counted l) x (on_shown (on_version_of w.version (evicted_at w.position)) k).chain) chain
      (subst (λ x. IsIdle x id (on_shown (on_version_of w.version (evicted_at w.position)) k).chain) count i))

  module _ (dropped : (k : KeptChain) → chain_at q id ≡ Some k → IsIdle q id k.chain → IsChainDropped id q.recency q n) (kept : (k : KeptChain) → chain_at q id ≡ Some k → (IsIdle q id k.chain → ⊥) → n ≡ q) where
    gone_now : (k : KeptChain) → chain_at m w.chain ≡ Some k → IsIdle (eviction_counted l) w.chain k.chain → IsChainDropped w.chain l.recency (eviction_counted l) n
    gone_now k there i = subst (λ x. IsChainDropped w.chain x.recency x n) count (subst (λ x. IsChainDropped x q.recency q n) chain (dropped (on_shown (on_version_of w.version (evicted_at w.position)) k) (counted_at k there) (idle_now k i)))

    stays_now : (k : KeptChain) → chain_at m w.chain ≡ Some k → (IsIdle (eviction_counted l) w.chain k.chain → ⊥) → n ≡ eviction_counted l
    stays_now k there busy = kept (on_shown (on_version_of w.version (evicted_at w.position)) k) (counted_at k there) (λ i. busy (idle_then k i)) ∙ count

    pub is-one : IsOneEvicted s m n
    is-one = record {
      place = w;
      lost = l;
      taken = t;
      swept = λ k there. elim (idle-decided (eviction_counted l) w.chain k.chain) [
        | inl i ↦ inl (i, gone_now k there i)
        | inr busy ↦ inr (busy, stays_now k there busy)
      ];
    }

    -- what was counted is counted still
    pub one-counted : l.counts.evicted ≤ q.counts.evicted → m.counts.evicted ≤ n.counts.evicted
    one-counted up =
        let k = front in
        let more : m.counts.evicted ≤ q.counts.evicted = subst (λ (c : Counts). c.evicted ≤ q.counts.evicted) t.changed.counts up in
        elim (idle-decided (eviction_counted l) w.chain k.0.chain) [
          | inl i ↦ subst (λ (c : Counts). m.counts.evicted ≤ c.evicted) (sym ((gone_now k.0 k.1 i).counts ∙ ap (λ (x : Memory). x.counts) (sym count))) more
          | inr busy ↦ subst (λ (x : Memory). m.counts.evicted ≤ x.counts.evicted) (sym (stays_now k.0 k.1 busy ∙ sym count)) more
        ]

    -- no version comes to be, and those of the chain go with it
    versions_lost : versions_of l ≡ versions_of m
    versions_lost = ap (λ cs. sum_by version_count (present cs)) t.changed.chains ∙ sum-on version_count (on_shown (on_version_of w.version (evicted_at w.position))) (λ k. length-on w.version (evicted_at w.position) k.chain.versions) w.chain m.chains

    versions_gone : (k : KeptChain) → chain_at m w.chain ≡ Some k → IsIdle (eviction_counted l) w.chain k.chain → versions_of m ≡ versions_of n + length (on_version w.version (evicted_at w.position) k.chain.versions)
    versions_gone k there i =
        sym versions_lost ∙ sum-gone version_count w.chain (on_shown (on_version_of w.version (evicted_at w.position)) k) l.chains (lost_at k there)
        ∙ ap (λ cs. sum_by version_count (present cs) + length (on_version w.version (evicted_at w.position) k.chain.versions)) (sym (gone_now k there i).chains)

    versions_kept : (k : KeptChain) → chain_at m w.chain ≡ Some k → (IsIdle (eviction_counted l) w.chain k.chain → ⊥) → versions_of n ≡ versions_of m
    versions_kept k there busy = ap versions_of (stays_now k there busy) ∙ versions_lost

    pub one-versions : versions_of n ≤ versions_of m
    one-versions = let k = front in elim (idle-decided (eviction_counted l) w.chain k.0.chain) [
      | inl i ↦ fewer_after (versions_of m) (versions_of n) (length (on_version w.version (evicted_at w.position) k.0.chain.versions)) (versions_gone k.0 k.1 i)
      | inr busy ↦ as_many (versions_of m) (versions_of n) (versions_kept k.0 k.1 busy)
    ]

    -- what chains became smaller by is counted elsewhere
    pub one-shrunk : n.counts.shrunk ≡ m.counts.shrunk
    one-shrunk = let k = front in elim (idle-decided (eviction_counted l) w.chain k.0.chain) [
      | inl i ↦ ap (λ (c : Counts). c.shrunk) (gone_now k.0 k.1 i).counts ∙ ap (λ (c : Counts). c.shrunk) t.changed.counts
      | inr busy ↦ ap (λ (x : Memory). x.counts.shrunk) (stays_now k.0 k.1 busy) ∙ ap (λ (c : Counts). c.shrunk) t.changed.counts
    ]

    -- and no more is live
    fewer : (k : KeptChain) → chain_at m w.chain ≡ Some k → sum_by chain_bytes (present l.chains) ≤ sum_by chain_bytes (present m.chains)
    fewer k there =
        subst (λ cs. sum_by chain_bytes (present cs) ≤ sum_by chain_bytes (present m.chains)) (sym (t.changed.chains ∙ ap (λ o. put_at_number w.chain (option_map (on_shown (on_version_of w.version (evicted_at w.position))) o) m.chains) there))
        (put-less m.chains w.chain k (on_shown (on_version_of w.version (evicted_at w.position)) k) there (chain-less w.version w.position k))

    pub one-less : live_bytes m.region ≡ sum_by chain_bytes (present m.chains) → live_bytes n.region ≡ sum_by chain_bytes (present n.chains) → live_bytes n.region ≤ live_bytes m.region
    one-less old_live new_live = let k = front in elim (idle-decided (eviction_counted l) w.chain k.0.chain) [
      | inl i ↦ less_sum (sum_by chain_bytes (present m.chains)) (sum_by chain_bytes (present l.chains)) (sum_by chain_bytes (present (put_at_number w.chain None l.chains))) (chain_bytes (on_shown (on_version_of w.version (evicted_at w.position)) k.0))
          (live_bytes m.region) (live_bytes n.region) old_live (new_live ∙ ap (λ cs. sum_by chain_bytes (present cs)) (gone_now k.0 k.1 i).chains)
          (put-gone l.chains w.chain (on_shown (on_version_of w.version (evicted_at w.position)) k.0) (lost_at k.0 k.1)) (fewer k.0 k.1)
      | inr busy ↦ same_sum (sum_by chain_bytes (present m.chains)) (sum_by chain_bytes (present l.chains)) (sum_by chain_bytes (present n.chains)) (live_bytes m.region) (live_bytes n.region) old_live new_live
          (ap (λ (x : Memory). sum_by chain_bytes (present x.chains)) (stays_now k.0 k.1 busy)) (fewer k.0 k.1)
    ]

    module _ (S : ℕ) (r : Ref) (held : IsHeldAt m r w) (versions : (i j : ℕ) → OfVersion m i j (λ k v. IsVersion v)) (fit : ChainsFit S m) (old_live : live_bytes m.region ≡ sum_by chain_bytes (present m.chains))
        (rule : IsRecency q) (mid_versions : (i j : ℕ) → OfVersion q i j (λ k v. IsVersion v)) (new_live : live_bytes n.region ≡ sum_by chain_bytes (present n.chains)) where
      less : (k : KeptChain) (may : MayBeListed k.chain w.version w.position) → chain_at m w.chain ≡ Some k → sum_by chain_bytes (present m.chains) ≤ sum_by chain_bytes (present l.chains) + S / 8
      less k may there =
          subst (λ cs. sum_by chain_bytes (present m.chains) ≤ sum_by chain_bytes (present cs) + S / 8) (sym (t.changed.chains ∙ ap (λ o. put_at_number w.chain (option_map (on_shown (on_version_of w.version (evicted_at w.position))) o) m.chains) there))
          (put-lost m.chains w.chain k (on_shown (on_version_of w.version (evicted_at w.position)) k) (S / 8) there
          (chain-lost k w.version may.version (evicted_at w.position) (S / 8) may.number
          (version-lost S k.chain.versions (fit_of S (chain_at m w.chain) k (fit w.chain) there) may.version (subst (λ vs. Contains vs may.version) (sym may.number.split) (elem-here may.number.older may.number.newer may.version))
          (versions w.chain w.version k may.version there may.number) m.region r w.position (holds-of m r w held k may.version there may.number))))

      pub one-live : live_bytes m.region + 152 * versions_of n ≤ live_bytes n.region + S / 8 + 152 * versions_of m
      one-live = let k = front in let drop = less k.0 k.2 k.1 in elim (idle-decided (eviction_counted l) w.chain k.0.chain) [
        | inl i ↦
            let d = gone_now k.0 k.1 i in
            let chains = ap (λ cs. sum_by chain_bytes (present cs)) d.chains in
            let taken = put-gone l.chains w.chain (on_shown (on_version_of w.version (evicted_at w.position)) k.0) (lost_at k.0 k.1) in
            let bare = idle-bytes q id (on_shown (on_version_of w.version (evicted_at w.position)) k.0) (counted_at k.0 k.1) rule mid_versions (idle_now k.0 i) in
            gone_sum (sum_by chain_bytes (present m.chains)) (sum_by chain_bytes (present l.chains)) (sum_by chain_bytes (present (put_at_number w.chain None l.chains))) (chain_bytes (on_shown (on_version_of w.version (evicted_at w.position)) k.0))
            (live_bytes m.region) (live_bytes n.region) (S / 8) (length (on_version w.version (evicted_at w.position) k.0.chain.versions)) (versions_of m) (versions_of n) old_live (new_live ∙ chains) taken bare (versions_gone k.0 k.1 i) drop
        | inr busy ↦
            let same = stays_now k.0 k.1 busy in
            kept_sum (sum_by chain_bytes (present m.chains)) (sum_by chain_bytes (present l.chains)) (sum_by chain_bytes (present n.chains)) (live_bytes m.region) (live_bytes n.region) (S / 8) (versions_of m) (versions_of n) old_live new_live
            (ap (λ (x : Memory). sum_by chain_bytes (present x.chains)) same) drop (versions_kept k.0 k.1 busy)
      ]
