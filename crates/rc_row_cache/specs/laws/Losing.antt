-- What calls of the row cache lose they lose in a crowded region.
use Rattle.std.proofs.Common.{◌≡◌, ◌+◌, ◌*◌, ◌≤◌, le_refl, ℕ, [], Option, length, inl, refl, sym, ap, ◌∙◌, subst, arith}
use Rattle.std.specs.Prelude.{sum_by}
use Rattle.lsa_region.specs.Region.{live_bytes}
use Rattle.lsa_pool.specs.Room.{live_sum}
use Rattle.rc_cell.specs.declared.rows.Row.{Row}
use Rattle.rc_cell.specs.declared.writes.Tomb.{Tomb}
use Rattle.rc_memory.specs.Kept.{IsLiveInChains, present}
use Rattle.rc_memory.specs.Memory.{IsSnapshotTaken, KeptChain, Memory, counts_raised, on_chain, raised_by, snapshot_number, with_chains, with_dropped, with_snapshot}
use Rattle.rc_memory.specs.Room.{chain_bytes}
use Rattle.rc_chain.specs.Lives.{IsSameButSlots}
use Rattle.rc_entries.specs.Filling.{IsEntryOpened, chain_opened}
use Rattle.rc_filler.specs.Crowding.{IsNearlyFull, LosesWhereCrowded, version_count, versions_of}
use Rattle.rc_filler.specs.Crowds.{loses-counted, loses-grown, loses-same, loses-then, sum-made, sum-on}

-- ---- versions may have been made

idle_most : (u more : ℕ) → u ≤ u + more
idle_most u more = omega arith

idle_live : (a u more h : ℕ) → a + 152 * u + h ≤ a + 152 * (u + more) + h
idle_live a u more h = omega arith

none_first : (more : ℕ) → 0 + more ≡ more
none_first more = omega arith

pub loses-wider : (S more : ℕ) (old new : Memory) → LosesWhereCrowded S 0 old new → LosesWhereCrowded S more old new
loses-wider S more old new h = subst (λ n. LosesWhereCrowded S n old new) (none_first more) (loses-then S 0 more old new new h (record {
  segments = refl;
  versions = idle_most (versions_of new) more;
  shrunk = le_refl new.counts.shrunk;
  cause = inl ((refl, refl), idle_live (live_bytes new.region) (versions_of new) more new.counts.shrunk);
}))

-- ---- a chain has other pins, or is found by its key no more

pub loses-on : (S id : ℕ) (g : KeptChain → KeptChain) (m new : Memory) → ((k : KeptChain) → version_count (g k) ≡ version_count k) → new ≡ with_chains (on_chain id g m.chains) m → LosesWhereCrowded S 0 m new
loses-on S id g m new same is = subst (LosesWhereCrowded S 0 m) (sym is) (loses-same S m (with_chains (on_chain id g m.chains) m) refl refl (sum-on version_count g same id m.chains) refl)

pub loses-taken : (S id pin phase : ℕ) (old new : Memory) → IsSnapshotTaken old new id pin phase → LosesWhereCrowded S 0 old new
loses-taken S id pin phase old new t = loses-on S id (λ k. with_snapshot (snapshot_number k.chain) k) old new (λ k. refl) t.now

-- ---- a chain of one version is opened

sum_more : (a b before now more : ℕ) → a ≡ before → b ≡ now → now ≡ before + more → a ≤ b
sum_more a b before now more p q r = omega (arith, p, q, r)

pub loses-opened : (S id : ℕ) (pt : Option Tomb) (statics : Option Row) (phase : ℕ) (old new : Memory) → IsLiveInChains old → IsLiveInChains new → IsEntryOpened id pt statics phase old new → LosesWhereCrowded S 1 old new
loses-opened S id pt statics phase old new before now h =
    let made = chain_opened pt statics phase in
    loses-grown S 1 old new h.region.budget
    (sum_more (live_bytes old.region) (live_bytes new.region) (sum_by chain_bytes (present old.chains)) (sum_by chain_bytes (present new.chains)) (chain_bytes made) before now
    (ap (λ cs. sum_by chain_bytes (present cs)) h.chains ∙ sum-made chain_bytes id made old.chains h.vacant))
    (ap (λ cs. sum_by version_count (present cs)) h.chains ∙ sum-made version_count id made old.chains h.vacant)
    h.counts

-- ---- root slots are there

pub loses-slots : (S : ℕ) (old new : Memory) → IsSameButSlots old new → LosesWhereCrowded S 0 old new
loses-slots S old new h = loses-same S old new (ap length h.region.usages) (ap live_sum h.region.usages) (ap versions_of h.same) (ap (λ (m : Memory). m.counts) h.same)

-- ---- no room is found

pub loses-kept-out : (S : ℕ) (m new : Memory) → raised_by 0 m.counts.shrunk ≡ m.counts.shrunk → IsNearlyFull S m → new ≡ counts_raised 0 1 0 (with_dropped [] m) → LosesWhereCrowded S 0 m new
loses-kept-out S m new low full is = subst (LosesWhereCrowded S 0 m) (sym is) (loses-counted S m (counts_raised 0 1 0 (with_dropped [] m)) full refl refl refl low)
