-- What the cache says, and what snapshots pin, where partitions are invalidated; and for what else lies below that says the same.
use Rattle.std.proofs.Common.{inl, inr, ◌≡◌, ◌⊎◌, ◌<◌, ◌-◌, ℕ, zero, suc, true, List, [], ◌∷◌, Option, Some, None, length, refl, sym, ap, ◌∙◌, subst, arith}
use Rattle.std.specs.Prelude.{IfSome}
use Rattle.rc_position.specs.Position.{Head, Place}
use Rattle.rc_schema.specs.SchemaValue.{SchemaValue}
use Rattle.rc_mutation.specs.declared.mutations.Mutation.{Mutation}
use Rattle.rc_mutation.specs.Source.{SameSource}
use Rattle.rc_core.specs.declared.entries.ChainKind.TheVariants.{Cache}
use Rattle.rc_core.specs.Chains.{IsChainContinuous, IsPinned, Shown, at_place, phase_at}
use Rattle.rc_core.specs.Continuity.{EachOf}
use Rattle.rc_core.specs.Steps.{IsChain, on_newest, pin_at, with_phase}
use Rattle.rc_core.specs.Version.{Version}
use Rattle.rc_core.specs.laws.Pins.{pin-is-pinned}
use Rattle.rc_registry.specs.Registry.{IsNumberIn}
use Rattle.rc_memory.specs.Kept.{IsSoundChain}
use Rattle.rc_memory.specs.Memory.{KeptChain, Memory, chain_at, on_shown, shown_detached}
use Rattle.rc_memory.specs.laws.Places.{same_some}
use Rattle.rc_chain.specs.Lives.{relabelled_chain}
use Rattle.rc_chain.specs.laws.PlaceBeside.{relabelled-by}
use Rattle.rc_entries.specs.Invalidated.{IsInvalidated}
use Rattle.rc_filler.specs.Stands.{HoldsRowsOf}
use Rattle.rc_row_cache.specs.Saying.{Below, CacheSays, IsSameSince, PinsAlike, SaysBelow}
use Rattle.rc_row_cache.proofs.Numbered.{none-is-none, number-or, there-or-not}
use Rattle.rc_row_cache.proofs.Cache.{each-says, pins-at, same-source, says-detached}

-- what is known of detached chains, and of those whose newest version gets another phase
pub record PhaseLaws : Type 0 where
  pub chain : (below : ℕ → List Mutation) (p : Place) (k : KeptChain) (newest phase : ℕ) → suc newest ≡ length k.chain.versions → IsChain (at_place p k.chain) → (k.chain.attached ≡ true → SameSource (below (phase_at k.chain.versions newest)) (below phase)) →
      IsChainContinuous below (at_place p k.chain) → IsChainContinuous below (at_place p (relabelled_chain phase k).chain)
  pub form : (p : Place) (k : KeptChain) (newest phase : ℕ) → suc newest ≡ length k.chain.versions → IsChain (at_place p k.chain) → IsChain (at_place p (relabelled_chain phase k).chain)
  pub alike : (below other : ℕ → List Mutation) (p : Place) (c : Shown) → IsChain (at_place p c) → ((j : ℕ) → j < length c.versions → SameSource (below (phase_at c.versions j)) (other (phase_at c.versions j))) → IsChainContinuous below (at_place p c) → IsChainContinuous other (at_place p c)
  pub detached_chain : (below : ℕ → List Mutation) (p q : Place) (c : Shown) → IsChain (at_place p c) → IsChainContinuous below (at_place p c) → IsChainContinuous below (at_place q (shown_detached c))
  pub detached_form : (p q : Place) (c : Shown) → IsChain (at_place p c) → IsChain (at_place q (shown_detached c))
  pub gone : (ids : List ℕ) (phase id : ℕ) (k : KeptChain) (old new : Memory) → IsInvalidated ids phase old new → IsNumberIn ids id → chain_at old id ≡ Some k → chain_at new id ≡ Some (on_shown shown_detached k)
  pub others : (ids : List ℕ) (phase id : ℕ) (k : KeptChain) (old new : Memory) → IsInvalidated ids phase old new → (IsNumberIn ids id → ⊥) → chain_at old id ≡ Some k → chain_at new id ≡ Some (relabelled_chain phase k)
  pub none : (ids : List ℕ) (phase id : ℕ) (old new : Memory) → IsInvalidated ids phase old new → chain_at old id ≡ None → chain_at new id ≡ None

-- ---- versions, the newest with another phase

module _ (phase : ℕ) where
  newest-phase : (vs : List Version) (j : ℕ) → suc j ≡ length vs → phase_at (on_newest (with_phase phase) vs) j ≡ phase
  newest-phase [] j e = absurd (omega (arith, e))
  newest-phase (v ∷ []) zero e = refl
  newest-phase (v ∷ []) (suc j) e = absurd (omega (arith, e))
  newest-phase (v ∷ w ∷ vs) zero e = absurd (omega (arith, e))
  newest-phase (v ∷ w ∷ vs) (suc j) e = newest-phase (w ∷ vs) j (omega (arith, e))

  older-phase : (vs : List Version) (j : ℕ) → suc j < length vs → phase_at (on_newest (with_phase phase) vs) j ≡ phase_at vs j
  older-phase [] j low = absurd (omega (arith, low))
  older-phase (v ∷ []) j low = absurd (omega (arith, low))
  older-phase (v ∷ w ∷ vs) zero low = refl
  older-phase (v ∷ w ∷ vs) (suc j) low = older-phase (w ∷ vs) j (omega (arith, low))

  newest-rows : (schema : SchemaValue) (vs : List Version) → EachOf (HoldsRowsOf schema) vs → EachOf (HoldsRowsOf schema) (on_newest (with_phase phase) vs)
  newest-rows schema [] h = tt
  newest-rows schema (v ∷ []) h = (record { entries = h.0.entries; statics = h.0.statics }, tt)
  newest-rows schema (v ∷ w ∷ vs) h = (h.0, newest-rows schema (w ∷ vs) h.1)

-- a number is the last of so many, or a lower one
last-or-lower : (j n : ℕ) → j < n → (suc j ≡ n) ⊎ (suc j < n)
last-or-lower j zero low = absurd (omega (arith, low))
last-or-lower zero (suc zero) low = inl refl
last-or-lower zero (suc (suc n)) low = inr (omega arith)
last-or-lower (suc j) (suc n) low = elim (last-or-lower j n (omega (arith, low))) [ inl e ↦ inl (ap suc e) | inr less ↦ inr (omega (arith, less)) ]

-- ---- one chain

module _ (laws : PhaseLaws) (phase : ℕ) (below : ℕ → List Mutation) (k : KeptChain) (sound : IsSoundChain k.chain) (same : k.chain.attached ≡ true → (newest : ℕ) → suc newest ≡ length k.chain.versions → SameSource (below (phase_at k.chain.versions newest)) (below phase)) where
  abbrev newest : ℕ
  newest = length k.chain.versions - 1

  last : suc newest ≡ length k.chain.versions
  last = let some = sound.some in omega (arith, some)

  pub says-relabelled : (schema : SchemaValue) → SaysBelow schema below k → SaysBelow schema below (relabelled_chain phase k)
  says-relabelled schema s = record {
    settled = relabelled-by (λ now. now.chain.updating ≡ k.chain.updating) phase k (λ _. refl) refl ∙ s.settled;
    form = laws.form Head k newest phase last s.form;
    continuous = laws.chain below Head k newest phase last s.form (λ attached. same attached newest last) s.continuous;
    rows = relabelled-by (λ now. EachOf (HoldsRowsOf schema) now.chain.versions) phase k (λ _. newest-rows phase schema k.chain.versions s.rows) s.rows;
  }

  -- below each version that a snapshot pins lies what says the same
  pub pinned-alike : (j : ℕ) → IsPinned k.chain.pins j → SameSource (below (phase_at k.chain.versions j)) (below (phase_at (relabelled_chain phase k).chain.versions j))
  pinned-alike j on = relabelled-by (λ now. SameSource (below (phase_at k.chain.versions j)) (below (phase_at now.chain.versions j))) phase k
      (λ attached. elim (last-or-lower j (length k.chain.versions) (sound.pins j on)) [
        | inl e ↦ subst (λ p. SameSource (below (phase_at k.chain.versions j)) (below p)) (sym (newest-phase phase k.chain.versions j e)) (same attached j e)
        | inr low ↦ subst (λ p. SameSource (below (phase_at k.chain.versions j)) (below p)) (sym (older-phase phase k.chain.versions j low)) (same-source (below (phase_at k.chain.versions j)))
      ])
      (same-source (below (phase_at k.chain.versions j)))

-- ---- all chains

module _ (laws : PhaseLaws) (below : Below) (ids : List ℕ) (phase : ℕ) (old new : Memory) (sound : (id : ℕ) → IfSome (chain_at old id) (λ k. IsSoundChain k.chain)) (i : IsInvalidated ids phase old new) (since : IsSameSince below ids phase old) where
  sound-at : (id : ℕ) (k : KeptChain) → chain_at old id ≡ Some k → IsSoundChain k.chain
  sound-at id k e = subst (λ (o : Option KeptChain). IfSome o (λ q. IsSoundChain q.chain)) e (sound id)

  relabelled-kind : (k : KeptChain) → (relabelled_chain phase k).chain.kind ≡ k.chain.kind
  relabelled-kind k = relabelled-by (λ now. now.chain.kind ≡ k.chain.kind) phase k (λ _. refl) refl

  pub invalidated-says : (schema : SchemaValue) → CacheSays schema below old → CacheSays schema below new
  invalidated-says schema = each-says schema below below old new (λ id now e kind. there-or-not (chain_at old id)
      (λ none. absurd (none-is-none now (sym (laws.none ids phase id old new i none) ∙ e)))
      (λ k was. elim (number-or ids id) [
        | inl on ↦ (let is = same_some (on_shown shown_detached k) now (sym (laws.gone ids phase id k old new i on was) ∙ e) in
            (k, was, ap (λ (q : KeptChain). q.chain.kind) is ∙ kind, λ s. subst (SaysBelow schema (below id)) is (says-detached schema below laws.detached_chain laws.detached_form (below id) k s)))
        | inr off ↦ (let is = same_some (relabelled_chain phase k) now (sym (laws.others ids phase id k old new i off was) ∙ e) in
            let cached = sym (relabelled-kind k) ∙ (ap (λ (q : KeptChain). q.chain.kind) is ∙ kind) in
            (k, was, cached, λ s. subst (SaysBelow schema (below id)) is (says-relabelled laws phase (below id) k (sound-at id k was) (λ attached newest last. since id k was cached attached off newest last) schema s)))
      ]))

  pub invalidated-pins : (id pin : ℕ) → PinsAlike (below id) (below id) id pin old new
  invalidated-pins id pin h = pins-at (below id) id pin old new (λ k j there on. elim (number-or ids id) [
    | inl gone ↦ (on_shown shown_detached k, laws.gone ids phase id k old new i gone there, refl, on, same-source (below id (phase_at k.chain.versions j)))
    | inr off ↦ (
      relabelled_chain phase k,
      laws.others ids phase id k old new i off there,
      relabelled-kind k,
      relabelled-by (λ now. pin_at now.chain.pins pin ≡ Some j) phase k (λ _. on) on,
      pinned-alike laws phase (below id) k (sound-at id k there) (λ attached newest last. since id k there (ap (λ (q : KeptChain). q.chain.kind) (same_some k h.chain (sym there ∙ h.there)) ∙ h.cached) attached off newest last) j (pin-is-pinned k.chain.pins pin j on),
    )
  ]) h

-- for whatever says the same at the phases of the chains' versions
pub alike-says : PhaseLaws → (schema : SchemaValue) (below other : Below) (m : Memory) → ((id : ℕ) (k : KeptChain) → chain_at m id ≡ Some k → k.chain.kind ≡ Cache → (j : ℕ) → j < length k.chain.versions → SameSource (below id (phase_at k.chain.versions j)) (other id (phase_at k.chain.versions j))) →
    CacheSays schema below m → CacheSays schema other m
alike-says laws schema below other m same h id k e kind = let s = h id k e kind in record {
  settled = s.settled;
  form = s.form;
  continuous = laws.alike (below id) (other id) Head k.chain s.form (same id k e kind) s.continuous;
  rows = s.rows;
}
