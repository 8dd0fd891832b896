-- Versions whose newest one gets another phase, or which are the same but for their phases.
use Rattle.std.proofs.Common.{inl, inr, ◌≡◌, ◌<◌, ℕ, zero, suc, List, [], ◌∷◌, length, map, take, refl, sym, ap, ◌∙◌, arith}
use Rattle.std.specs.List.{cons_option, take-map}
use Rattle.rc_cell.specs.Orders.{tomb_cmp}
use Rattle.rc_cell.specs.Winner.{greatest}
use Rattle.rc_position.specs.Position.{Place}
use Rattle.rc_mutation.specs.declared.mutations.Mutation.{Mutation}
use Rattle.rc_core.specs.declared.entries.ChainKind.TheVariants.{Memtable}
use Rattle.rc_core.specs.Chain.{states_at}
use Rattle.rc_core.specs.Chains.{AllInherit, IsMemtableChain, at_place, phase_at, upto}
use Rattle.rc_core.specs.Continuity.{EachOf, static_states, version_tombs}
use Rattle.rc_core.specs.Merge.{IsSeenAlike}
use Rattle.rc_core.specs.SpotState.{through}
use Rattle.rc_core.specs.StandsFor.{StandsFor}
use Rattle.rc_core.specs.Steps.{on_newest, with_phase}
use Rattle.rc_core.specs.Version.{Spot, Version, state_at, static_state}
use Rattle.rc_core.specs.laws.Merging.{alike-even, equal_alike}
use Rattle.rc_core.specs.laws.Written.{alike-stands}
use Rattle.rc_memory.specs.Memory.{KeptChain, on_shown, shown_detached}
use Rattle.rc_chain.specs.Lives.{relabelled_chain}
use Rattle.rc_chain.specs.laws.PlaceBeside.{relabelled-by}
use Rattle.rc_entries.specs.Invalidated.{AreSameButPhases, KeepsReaders}

-- ---- versions that are the same but for their phases are seen alike

bare-states : (s : Spot) (vs : List Version) → states_at s (map (with_phase 0) vs) ≡ states_at s vs
bare-states s [] = refl
bare-states s (v ∷ vs) = ap (λ cs. state_at s v ∷ cs) (bare-states s vs)

bare-statics : (vs : List Version) → static_states (map (with_phase 0) vs) ≡ static_states vs
bare-statics [] = refl
bare-statics (v ∷ vs) = ap (λ cs. static_state v ∷ cs) (bare-statics vs)

bare-tombs : (vs : List Version) → version_tombs (map (with_phase 0) vs) ≡ version_tombs vs
bare-tombs [] = refl
bare-tombs (v ∷ vs) = ap (cons_option v.pt) (bare-tombs vs)

pub same-seen : (before now : List Version) → AreSameButPhases before now → IsSeenAlike before now
same-seen before now same = record {
  statics = equal_alike _ _ (ap through (sym (bare-statics now) ∙ ap static_states same ∙ bare-statics before));
  clustered = λ s. equal_alike _ _ (ap through (sym (bare-states s now) ∙ ap (states_at s) same ∙ bare-states s before));
  head = ap (greatest tomb_cmp) (sym (bare-tombs now) ∙ ap version_tombs same ∙ bare-tombs before);
}

same-upto : (before now : List Version) (j : ℕ) → AreSameButPhases before now → AreSameButPhases (upto before j) (upto now j)
same-upto before now j same = sym (take-map (with_phase 0) (suc j) now) ∙ ap (take (suc j)) same ∙ take-map (with_phase 0) (suc j) before

itself-reading : (k : KeptChain) → KeepsReaders k k
itself-reading k = record { kind = refl; pins = refl; passed = refl; same = refl; older = λ j low. refl; seen = λ j. same-seen (upto k.chain.versions j) (upto k.chain.versions j) refl }

-- ---- the newest version with another phase

module _ (phase : ℕ) where
  newest-same : (vs : List Version) → AreSameButPhases vs (on_newest (with_phase phase) vs)
  newest-same [] = refl
  newest-same (v ∷ []) = refl
  newest-same (v ∷ w ∷ vs) = ap (λ us. with_phase 0 v ∷ us) (newest-same (w ∷ vs))

  newest-long : (vs : List Version) → length (on_newest (with_phase phase) vs) ≡ length vs
  newest-long [] = refl
  newest-long (v ∷ []) = refl
  newest-long (v ∷ w ∷ vs) = ap suc (newest-long (w ∷ vs))

  newest-older : (vs : List Version) (j : ℕ) → suc j < length vs → upto (on_newest (with_phase phase) vs) j ≡ upto vs j
  newest-older [] j low = absurd (omega (arith, low))
  newest-older (v ∷ []) j low = absurd (omega (arith, low))
  newest-older (v ∷ w ∷ vs) zero low = refl
  newest-older (v ∷ w ∷ vs) (suc j) low = ap (λ us. v ∷ us) (newest-older (w ∷ vs) j (omega (arith, low)))

  pub newest-phase : (vs : List Version) (j : ℕ) → suc j ≡ length vs → phase_at (on_newest (with_phase phase) vs) j ≡ phase
  newest-phase [] j e = absurd (omega (arith, e))
  newest-phase (v ∷ []) zero e = refl
  newest-phase (v ∷ []) (suc j) e = absurd (omega (arith, e))
  newest-phase (v ∷ w ∷ vs) zero e = absurd (omega (arith, e))
  newest-phase (v ∷ w ∷ vs) (suc j) e = newest-phase (w ∷ vs) j (omega (arith, e))

  pub older-phase : (vs : List Version) (j : ℕ) → suc j < length vs → phase_at (on_newest (with_phase phase) vs) j ≡ phase_at vs j
  older-phase [] j low = absurd (omega (arith, low))
  older-phase (v ∷ []) j low = absurd (omega (arith, low))
  older-phase (v ∷ w ∷ vs) zero low = refl
  older-phase (v ∷ w ∷ vs) (suc j) low = older-phase (w ∷ vs) j (omega (arith, low))

  newest-inherit : (vs : List Version) → EachOf AllInherit vs → EachOf AllInherit (on_newest (with_phase phase) vs)
  newest-inherit [] h = h
  newest-inherit (v ∷ []) h = (record { statics = h.0.statics; clustered = h.0.clustered }, h.1)
  newest-inherit (v ∷ w ∷ vs) h = (h.0, newest-inherit (w ∷ vs) h.1)

  -- ---- a chain with it

  pub still-long : (k : KeptChain) → length (relabelled_chain phase k).chain.versions ≡ length k.chain.versions
  still-long k = relabelled-by (λ now. length now.chain.versions ≡ length k.chain.versions) phase k (λ _. newest-long k.chain.versions) refl

  pub still-used : (k : KeptChain) → ((relabelled_chain phase k).chain.kind ≡ k.chain.kind) × ((relabelled_chain phase k).chain.attached ≡ k.chain.attached)
  still-used k = relabelled-by (λ now. (now.chain.kind ≡ k.chain.kind) × (now.chain.attached ≡ k.chain.attached)) phase k (λ _. (refl, refl)) (refl, refl)

  pub still-updating : (k : KeptChain) → (relabelled_chain phase k).chain.updating ≡ k.chain.updating
  still-updating k = relabelled-by (λ now. now.chain.updating ≡ k.chain.updating) phase k (λ _. refl) refl

  newest-seen : (vs : List Version) (j : ℕ) → IsSeenAlike (upto vs j) (upto (on_newest (with_phase phase) vs) j)
  newest-seen vs j = same-seen (upto vs j) (upto (on_newest (with_phase phase) vs) j) (same-upto vs (on_newest (with_phase phase) vs) j (newest-same vs))

  pub relabelled-reading : (k : KeptChain) → KeepsReaders k (relabelled_chain phase k)
  relabelled-reading k = relabelled-by (KeepsReaders k) phase k (λ _. record {
    kind = refl;
    pins = refl;
    passed = refl;
    same = newest-same k.chain.versions;
    older = newest-older k.chain.versions;
    seen = newest-seen k.chain.versions;
  }) (itself-reading k)

  pub relabelled-form : (p : Place) (k : KeptChain) → IsMemtableChain (at_place p k.chain) → IsMemtableChain (at_place p (relabelled_chain phase k).chain)
  relabelled-form p k h = relabelled-by (λ now. IsMemtableChain (at_place p now.chain)) phase k (λ _. record {
    flags = newest-inherit k.chain.versions h.flags;
    even = λ j need x. alike-even Memtable (upto k.chain.versions j) (upto (on_newest (with_phase phase) k.chain.versions) j) x (newest-seen k.chain.versions j)
        (h.even j (elim need [ inl on ↦ inl on | inr last ↦ inr (last.0, last.1 ∙ newest-long k.chain.versions) ]) x);
  }) h

  pub relabelled-stands : (writes : List Mutation) (k : KeptChain) → StandsFor writes k.chain.versions → StandsFor writes (relabelled_chain phase k).chain.versions
  relabelled-stands writes k h = relabelled-by (λ now. StandsFor writes now.chain.versions) phase k
      (λ _. alike-stands writes k.chain.versions (on_newest (with_phase phase) k.chain.versions) (same-seen k.chain.versions (on_newest (with_phase phase) k.chain.versions) (newest-same k.chain.versions)) h) h

pub detached-reading : (k : KeptChain) → KeepsReaders k (on_shown shown_detached k)
detached-reading k = record { kind = refl; pins = refl; passed = refl; same = refl; older = λ j low. refl; seen = λ j. same-seen (upto k.chain.versions j) (upto k.chain.versions j) refl }
