-- What is lost where a partition is looked up, let go or entered.
use Rattle.std.proofs.Common.{◌≡◌, ◌⊎◌, ℕ, [], List, Option, Some, None, length, inl, inr, refl, sym, ap, ◌∙◌, subst}
use Rattle.std.specs.Prelude.{sum_by}
use Rattle.lsa_pool.specs.Room.{live_sum}
use Rattle.rc_core.specs.Version.{IsVersion}
use Rattle.rc_registry.specs.ChainKind.TheVariants.{Cache}
use Rattle.rc_memory.specs.Changes.{OfVersion}
use Rattle.rc_memory.specs.Kept.{IsLiveInChains, present}
use Rattle.rc_memory.specs.Memory.{IsSnapshotTaken, KeptChain, Member, Memory, chain_at, on_shown, shown_detached, with_dropped, without_snapshot}
use Rattle.rc_memory.specs.Recency.{IsRecency}
use Rattle.rc_memory.specs.Room.{chain_bytes}
use Rattle.rc_chain.specs.declared.chains.Snap.{Snap}
use Rattle.rc_cached.specs.Lives.{IsChainDropped, IsIdle}
use Rattle.rc_row_cache.specs.Crowding.{LosesWhereCrowded, version_count, versions_of}
use Rattle.rc_row_cache.specs.Crowds.{loses-after, loses-nothing, loses-same, sum-on}
use Rattle.rc_row_cache.specs.Detached.{IsDetached}
use Rattle.rc_row_cache.specs.laws.Losing.{loses-on, loses-taken}
use Rattle.rc_lookup.specs.calls.Touched.{IsReordered}
use Rattle.rc_lookup.specs.calls.Reading.{without_snap}
use Rattle.rc_lookup.proofs.Swept.{IsSweptThen, back-there, left_chain}

-- ---- numbers are told, a snapshot is taken back, objects go to the back of the list

pub told-loses : (S : ℕ) (m : Memory) → LosesWhereCrowded S 0 m (with_dropped [] m)
told-loses S m = loses-same S m (with_dropped [] m) refl refl refl refl

pub back-loses : (S : ℕ) (s : Snap) (m : Memory) → LosesWhereCrowded S 0 m (without_snap s m)
back-loses S s m = loses-on S s.chain (without_snapshot s.pin) m (without_snap s m) (λ k. refl) refl

reordered-loses : (S : ℕ) (old new : Memory) → IsReordered old new → LosesWhereCrowded S 0 old new
reordered-loses S old new r = loses-same S old new (ap length r.objects.usages) (ap live_sum r.objects.usages) (ap versions_of r.same) (ap (λ (m : Memory). m.counts) r.same)

pub looked-loses : (S : ℕ) (old mid new : Memory) (s : Snap) → IsSnapshotTaken (with_dropped [] old) mid s.chain s.pin s.phase → IsReordered (without_snap s mid) new → LosesWhereCrowded S 0 old new
looked-loses S old mid new s taken back =
    loses-after S 0 old (with_dropped [] old) new (told-loses S old)
    (loses-after S 0 (with_dropped [] old) mid new (loses-taken S s.chain s.pin s.phase (with_dropped [] old) mid taken)
    (loses-after S 0 mid (without_snap s mid) new (back-loses S s mid) (reordered-loses S (without_snap s mid) new back)))

-- where the snapshot stays
pub kept-loses : (S : ℕ) (old mid new : Memory) (s : Snap) → IsSnapshotTaken (with_dropped [] old) mid s.chain s.pin s.phase → IsReordered mid new → LosesWhereCrowded S 0 old new
kept-loses S old mid new s taken left =
    loses-after S 0 old (with_dropped [] old) new (told-loses S old)
    (loses-after S 0 (with_dropped [] old) mid new (loses-taken S s.chain s.pin s.phase (with_dropped [] old) mid taken) (reordered-loses S mid new left))

-- ---- a chain is let go

there_or_not : (o : Option KeptChain) → ((k : KeptChain) × (o ≡ Some k)) ⊎ (o ≡ None)
there_or_not None = inr refl
there_or_not (Some k) = inl (k, refl)

pub detached-loses : (S id : ℕ) (old new : Memory) → IsLiveInChains old → IsLiveInChains new → IsDetached id old new → LosesWhereCrowded S 0 old new
detached-loses S id old new before now d = elim (there_or_not (chain_at old id)) [
  | inr none ↦ subst (LosesWhereCrowded S 0 old) (sym (d.gone none)) (loses-nothing S old)
  | inl some ↦
      let c = (d.there some.0 some.1).2 in
      loses-same S old new c.region.budget
      (now ∙ ap (λ cs. sum_by chain_bytes (present cs)) c.chains ∙ sum-on chain_bytes (on_shown shown_detached) (λ k. refl) id old.chains ∙ sym before)
      (ap (λ cs. sum_by version_count (present cs)) c.chains ∙ sum-on version_count (on_shown shown_detached) (λ k. refl) id old.chains)
      c.counts
]

-- ---- a chain is swept, once a snapshot of it was taken back

pub swept-loses : (dropped : (S : ℕ) (old new : Memory) (id : ℕ) (list : List Member) (k : KeptChain) → chain_at old id ≡ Some k → IsRecency old → ((i j : ℕ) → OfVersion old i j (λ k v. IsVersion v)) → IsLiveInChains old → IsLiveInChains new → IsIdle old id k.chain → IsChainDropped id list old new → LosesWhereCrowded S 0 old new)
    (S : ℕ) (s : Snap) (x back new : Memory) (k : KeptChain) (there : chain_at x s.chain ≡ Some k) (cached : k.chain.kind ≡ Cache) → back ≡ without_snap s x → IsSweptThen s x new k there cached → IsRecency back → ((i j : ℕ) → OfVersion back i j (λ k v. IsVersion v)) → IsLiveInChains back → IsLiveInChains new → LosesWhereCrowded S 0 x new
swept-loses dropped S s x back new k there cached is swept rule versions before now = loses-after S 0 x (without_snap s x) new (back-loses S s x) (elim swept [
  | inl gone ↦ dropped S (without_snap s x) new s.chain x.recency (left_chain s x new k there cached) (back-there s x new k there cached)
      (subst IsRecency is rule) (subst (λ (m : Memory). (i j : ℕ) → OfVersion m i j (λ k v. IsVersion v)) is versions) (subst IsLiveInChains is before) now gone.0 gone.1
  | inr kept ↦ subst (LosesWhereCrowded S 0 (without_snap s x)) (sym kept.1) (loses-nothing S (without_snap s x))
])
