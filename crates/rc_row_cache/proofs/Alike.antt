-- Where each chain takes as much as before, and has as many versions.
use Rattle.std.proofs.Common.{inr, ◌≡◌, ◌+◌, ℕ, suc, List, [], ◌∷◌, Some, None, cond, length, map, refl, sym, ap, ◌∙◌, subst, slice_index_or, sum_by, arith}
use Rattle.std.specs.Option.{option_map}
use Rattle.std.specs.Prelude.{not}
use Rattle.std.proofs.lemmas.List.Sums.{sum_by-cons}
use Rattle.rc_core.specs.declared.entries.ChainKind.{ChainKind}
use Rattle.rc_core.specs.declared.entries.ChainKind.TheVariants.{Cache, Memtable}
use Rattle.rc_core.specs.Steps.{with_phase}
use Rattle.rc_core.specs.Version.{Version}
use Rattle.rc_partition.specs.Versions.{version_bytes}
use Rattle.rc_memory.specs.Memory.{IsSnapshotTaken, KeptChain, Memory, chain_at, on_chain, on_shown, shown_detached, snapshot_number, with_chains, with_snapshot, without_snapshot}
use Rattle.rc_memory.specs.Room.{chain_bytes}
use Rattle.rc_memory.specs.laws.Places.{same_some}
use Rattle.rc_filler.specs.Lives.{is_cache}
use Rattle.rc_filler.specs.Partitions.{AreAsBefore}
use Rattle.rc_entries.specs.Detached.{IsDetached}
use Rattle.rc_entries.specs.Invalidated.{IsInvalidated, KeepsReaders}
use Rattle.rc_row_cache.specs.Footprint.{kind_bytes}
use Rattle.rc_row_cache.proofs.Leaving.{IsNoLarger, Leaves}
use Rattle.rc_row_cache.proofs.Numbered.{chain-here, changed-beside, changed-now, here-or-beside, none-is-none, there-or-not}
use Rattle.rc_row_cache.proofs.Sums.{added_by}
use Rattle.rc_row_cache.proofs.Weighed.{bytes-same, weigh}

-- a chain is of the kind of another one, has as many versions, and takes as much
pub record IsAlike (k n : KeptChain) : Type 0 where
  pub kind : n.chain.kind ≡ k.chain.kind
  pub count : length n.chain.versions ≡ length k.chain.versions
  pub bytes : chain_bytes n ≡ chain_bytes k

-- so each chain, and none came to be
pub record AreAlike (old new : Memory) : Type 0 where
  pub there : (id : ℕ) (k : KeptChain) → chain_at old id ≡ Some k → (n : KeptChain) × (chain_at new id ≡ Some n) × IsAlike k n
  pub absent : (id : ℕ) → chain_at old id ≡ None → chain_at new id ≡ None

alike-itself : (k : KeptChain) → IsAlike k k
alike-itself k = record { kind = refl; count = refl; bytes = refl }

larger-of : (k n : KeptChain) → IsAlike k n → IsNoLarger k n
larger-of k n a = record { kind = a.kind; count = a.count; bytes = λ m. (let same = a.bytes in omega (arith, same)) }

-- ---- what follows

module _ (old new : Memory) (h : AreAlike old new) where
  weigh-alike : (kind : ChainKind) (k n : KeptChain) → IsAlike k n → weigh kind n ≡ weigh kind k
  weigh-alike Memtable k n a = λ i. cond (not (is_cache (a.kind i))) (a.bytes i) 0
  weigh-alike Cache k n a = λ i. cond (is_cache (a.kind i)) (a.bytes i) 0

  pub alike-at : (kind : ChainKind) (id : ℕ) → added_by (weigh kind) (chain_at new id) ≡ added_by (weigh kind) (chain_at old id)
  alike-at kind id = there-or-not (chain_at old id)
      (λ none. ap (added_by (weigh kind)) (h.absent id none) ∙ sym (ap (added_by (weigh kind)) none))
      (λ k there. (let n = h.there id k there in ap (added_by (weigh kind)) n.1 ∙ weigh-alike kind k n.0 n.2 ∙ sym (ap (added_by (weigh kind)) there)))

  pub alike-bytes : (kind : ChainKind) → kind_bytes kind new ≡ kind_bytes kind old
  alike-bytes kind = bytes-same kind old new (alike-at kind)

  pub alike-leaves : Leaves old new
  alike-leaves id n e = there-or-not (chain_at old id)
      (λ none. absurd (none-is-none n (sym (h.absent id none) ∙ e)))
      (λ k there. (let now = h.there id k there in inr (k, there, subst (IsNoLarger k) (same_some now.0 n (sym now.1 ∙ e)) (larger-of k now.0 now.2))))

-- ---- where they are

pub alike-same : (old new : Memory) → new.chains ≡ old.chains → AreAlike old new
alike-same old new is = record { there = λ id k e. (k, ap (λ cs. slice_index_or cs id None) is ∙ e, alike-itself k); absent = λ id e. ap (λ cs. slice_index_or cs id None) is ∙ e }

module _ (old new : Memory) (id : ℕ) (f : KeptChain → KeptChain) (is : new.chains ≡ on_chain id f old.chains) (h : (k : KeptChain) → IsAlike k (f k)) where
  changed-there : (i : ℕ) (k : KeptChain) → chain_at old i ≡ Some k → (n : KeptChain) × (chain_at new i ≡ Some n) × IsAlike k n
  changed-there i = here-or-beside (λ j. (k : KeptChain) → chain_at old j ≡ Some k → (n : KeptChain) × (chain_at new j ≡ Some n) × IsAlike k n) id i
      (λ k e. (f k, changed-now old new id f is k e, h k))
      (λ ne k e. (k, changed-beside old new id f is i ne ∙ e, alike-itself k))

  changed-absent : (i : ℕ) → chain_at old i ≡ None → chain_at new i ≡ None
  changed-absent i = here-or-beside (λ j. chain_at old j ≡ None → chain_at new j ≡ None) id i
      (λ e. chain-here old new id (option_map f (chain_at old id)) is ∙ ap (option_map f) e)
      (λ ne e. changed-beside old new id f is i ne ∙ e)

  pub alike-changed : AreAlike old new
  alike-changed = record { there = changed-there; absent = changed-absent }

pub alike-taken : (id pin phase : ℕ) (old new : Memory) → IsSnapshotTaken old new id pin phase → AreAlike old new
alike-taken id pin phase old new t = alike-changed old new id (λ k. with_snapshot (snapshot_number k.chain) k) (ap (λ (m : Memory). m.chains) t.now) (λ k. record { kind = refl; count = refl; bytes = refl })

pub alike-back : (id pin : ℕ) (m : Memory) → AreAlike m (with_chains (on_chain id (without_snapshot pin) m.chains) m)
alike-back id pin m = alike-changed m (with_chains (on_chain id (without_snapshot pin) m.chains) m) id (without_snapshot pin) refl (λ k. record { kind = refl; count = refl; bytes = refl })

pub alike-detached : (id : ℕ) (old new : Memory) → IsDetached id old new → AreAlike old new
alike-detached id old new d = there-or-not (chain_at old id)
    (λ none. alike-same old new (ap (λ (m : Memory). m.chains) (d.gone none)))
    (λ k there. alike-changed old new id (on_shown shown_detached) (d.there k there).2.chains (λ q. record { kind = refl; count = refl; bytes = refl }))

pub alike-before : (old new : Memory) → AreAsBefore old new → AreAlike old new
alike-before old new b = record {
  there = λ id k e. (let n = b.there id k e in (n.0, n.1, record { kind = n.2.kind; count = ap (λ (vs : List Version). length vs) n.2.versions; bytes = ap (sum_by version_bytes) n.2.versions }));
  absent = b.absent;
}

-- ---- versions that are the same but for their phases

phases-bytes : (vs : List Version) → sum_by version_bytes (map (with_phase 0) vs) ≡ sum_by version_bytes vs
phases-bytes [] = refl
phases-bytes (v ∷ vs) = sum_by-cons version_bytes (with_phase 0 v) (map (with_phase 0) vs) ∙ ap (λ n. version_bytes v + n) (phases-bytes vs) ∙ sym (sum_by-cons version_bytes v vs)

phases-count : (vs : List Version) → length (map (with_phase 0) vs) ≡ length vs
phases-count [] = refl
phases-count (v ∷ vs) = ap suc (phases-count vs)

alike-readers : (k n : KeptChain) → KeepsReaders k n → IsAlike k n
alike-readers k n r = record {
  kind = r.kind;
  count = sym (phases-count n.chain.versions) ∙ ap (λ (vs : List Version). length vs) r.same ∙ phases-count k.chain.versions;
  bytes = sym (phases-bytes n.chain.versions) ∙ ap (sum_by version_bytes) r.same ∙ phases-bytes k.chain.versions;
}

-- what is left where partitions are invalidated
pub record InvalidationLaws : Type 0 where
  pub readers : (ids : List ℕ) (phase id : ℕ) (k : KeptChain) (old new : Memory) → IsInvalidated ids phase old new → chain_at old id ≡ Some k → (now : KeptChain) × (chain_at new id ≡ Some now) × KeepsReaders k now
  pub none : (ids : List ℕ) (phase id : ℕ) (old new : Memory) → IsInvalidated ids phase old new → chain_at old id ≡ None → chain_at new id ≡ None

pub alike-invalidated : InvalidationLaws → (ids : List ℕ) (phase : ℕ) (old new : Memory) → IsInvalidated ids phase old new → AreAlike old new
alike-invalidated laws ids phase old new h = record {
  there = λ id k e. (let n = laws.readers ids phase id k old new h e in (n.0, n.1, alike-readers k n.0 n.2));
  absent = λ id e. laws.none ids phase id old new h e;
}
