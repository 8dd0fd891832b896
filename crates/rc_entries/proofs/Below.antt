-- What chains know, where what lies below them is of another phase.
use Rattle.std.proofs.Common.{inl, inr, ◌≡◌, ◌⊎◌, ◌<◌, ◌-◌, ℕ, zero, suc, true, false, cond, List, [], ◌∷◌, Some, length, nat_eq, refl, sym, ap, ◌∙◌, subst, arith}
use Rattle.std.specs.Option.{option_map}
use Rattle.rc_position.specs.Position.{Head, Place}
use Rattle.rc_mutation.specs.declared.mutations.Mutation.{Mutation}
use Rattle.rc_mutation.specs.Source.{SameSource}
use Rattle.rc_core.specs.Chains.{IsChainContinuous, Shown, at_place, phase_at}
use Rattle.rc_core.specs.Continuity.{EachOf}
use Rattle.rc_core.specs.Steps.{IsChain, on_newest, with_phase}
use Rattle.rc_core.specs.Version.{IsVersion, Version}
use Rattle.rc_memory.specs.Kept.{IsSoundChain}
use Rattle.rc_memory.specs.Memory.{KeptChain, Memory, IsVersionAt, chain_at, on_shown, shown_with}
use Rattle.rc_memory.specs.laws.Rules.{each-at}
use Rattle.rc_chain.specs.Lives.{IsRelabelled, relabelled_chain}
use Rattle.rc_chain.specs.laws.PlaceBeside.{shown-form}
use Rattle.rc_entries.specs.Found.{entry_number}
use Rattle.rc_entries.specs.Entries.{AreContinuous, AreEntries}
use Rattle.rc_entries.specs.Invalidated.{AreWellKept, IsBelowAlike, IsInvalidated, entry_numbers, without_keys}
use Rattle.rc_entries.proofs.Keys.{by-test, number-is, number-itself}
use Rattle.rc_entries.proofs.Ways.{none-is-none, same-some}
use Rattle.rc_entries.proofs.Taken.{there-or-not}
use Rattle.rc_entries.proofs.Phases.{newest-phase, older-phase, still-long, still-updating}
use Rattle.rc_entries.proofs.Invalidating.{invalidated-none, invalidated-others, other-numbers, relabelled-at}

same-source : (writes others : List Mutation) → writes ≡ others → SameSource writes others
same-source writes others e = subst (SameSource writes) e (record { head = refl; statics = refl; clustered = λ x. refl })

-- a number is the last of so many, or a lower one
last-or-lower : (j n : ℕ) → j < n → (suc j ≡ n) ⊎ (suc j < n)
last-or-lower j zero low = absurd (omega (arith, low))
last-or-lower zero (suc zero) low = inl refl
last-or-lower zero (suc (suc n)) low = inr (omega arith)
last-or-lower (suc j) (suc n) low = elim (last-or-lower j n (omega (arith, low))) [ inl e ↦ inl (ap suc e) | inr less ↦ inr (omega (arith, less)) ]

each-version : (vs : List Version) → ((j : ℕ) (v : Version) → IsVersionAt vs j v → IsVersion v) → EachOf IsVersion vs
each-version [] h = tt
each-version (v ∷ vs) h = (
  h 0 v (record { older = []; newer = vs; split = refl; number = refl }),
  each-version vs (λ j w at. h (suc j) w (record { older = v ∷ at.older; newer = at.newer; split = ap (λ us. v ∷ us) at.split; number = ap suc at.number })),
)

module _
    (relabels : (below : ℕ → List Mutation) (p : Place) (k : KeptChain) (newest phase : ℕ) → suc newest ≡ length k.chain.versions → IsChain (at_place p k.chain) → (k.chain.attached ≡ true → SameSource (below (phase_at k.chain.versions newest)) (below phase)) →
    IsChainContinuous below (at_place p k.chain) → IsChainContinuous below (at_place p (relabelled_chain phase k).chain))
    (forms : (p : Place) (k : KeptChain) (newest phase : ℕ) → suc newest ≡ length k.chain.versions → IsChain (at_place p k.chain) → IsChain (at_place p (relabelled_chain phase k).chain))
    (counts : (below other : ℕ → List Mutation) (p : Place) (c : Shown) → IsChain (at_place p c) → ((j : ℕ) → j < length c.versions → SameSource (below (phase_at c.versions j)) (other (phase_at c.versions j))) →
    IsChainContinuous below (at_place p c) → IsChainContinuous other (at_place p c)) where
  -- ---- one chain

  module _ (below other : ℕ → List Mutation) (phase : ℕ) (k : KeptChain) (b : IsBelowAlike below other phase k.chain.versions) (ch : IsChain (at_place Head k.chain)) (attached : k.chain.attached ≡ true) (newest : ℕ) (last : suc newest ≡ length k.chain.versions) where
    -- what lay below, and at the new phase what lies there now
    abbrev between : ℕ → List Mutation
    between p = cond (nat_eq p phase) (other phase) (below p)

    between-new : (p : ℕ) → nat_eq p phase ≡ true → between p ≡ other phase
    between-new p t = ap (λ d. cond d (other phase) (below p)) t

    between-old : (p : ℕ) → nat_eq p phase ≡ false → between p ≡ below p
    between-old p n = ap (λ d. cond d (other phase) (below p)) n

    -- the same source lies below each version then
    first : (j : ℕ) → j < length k.chain.versions → SameSource (below (phase_at k.chain.versions j)) (between (phase_at k.chain.versions j))
    first j low = by-test (SameSource (below (phase_at k.chain.versions j)) (between (phase_at k.chain.versions j))) (nat_eq (phase_at k.chain.versions j) phase)
        (λ t. subst (SameSource (below (phase_at k.chain.versions j))) (sym (between-new (phase_at k.chain.versions j) t)) (elim (last-or-lower j (length k.chain.versions) low) [
          | inl e ↦ b.newest j e
          | inr less ↦ subst (λ p. SameSource (below (phase_at k.chain.versions j)) (other p)) (number-is (phase_at k.chain.versions j) phase t) (b.older j less)
        ]))
        (λ n. same-source (below (phase_at k.chain.versions j)) (between (phase_at k.chain.versions j)) (sym (between-old (phase_at k.chain.versions j) n)))

    -- below the newest one at the new phase, too
    second : SameSource (between (phase_at k.chain.versions newest)) (between phase)
    second = subst (SameSource (between (phase_at k.chain.versions newest))) (sym (between-new phase (number-itself phase)))
        (by-test (SameSource (between (phase_at k.chain.versions newest)) (other phase)) (nat_eq (phase_at k.chain.versions newest) phase)
        (λ t. same-source (between (phase_at k.chain.versions newest)) (other phase) (between-new (phase_at k.chain.versions newest) t))
        (λ n. subst (λ (ms : List Mutation). SameSource ms (other phase)) (sym (between-old (phase_at k.chain.versions newest) n)) (b.newest newest last)))

    abbrev now : List Version
    now = on_newest (with_phase phase) k.chain.versions

    relabelled-is : relabelled_chain phase k ≡ on_shown (shown_with now) k
    relabelled-is = ap (λ d. cond d (on_shown (λ c. shown_with (on_newest (with_phase phase) c.versions) c) k) k) attached

    third : (j : ℕ) → j < length k.chain.versions → SameSource (between (phase_at now j)) (other (phase_at now j))
    third j low = elim (last-or-lower j (length k.chain.versions) low) [
      | inl e ↦ subst (λ p. SameSource (between p) (other p)) (sym (newest-phase phase k.chain.versions j e)) (same-source (between phase) (other phase) (between-new phase (number-itself phase)))
      | inr less ↦ subst (λ p. SameSource (between p) (other p)) (sym (older-phase phase k.chain.versions j less)) (by-test (SameSource (between (phase_at k.chain.versions j)) (other (phase_at k.chain.versions j))) (nat_eq (phase_at k.chain.versions j) phase)
          (λ t. same-source (between (phase_at k.chain.versions j)) (other (phase_at k.chain.versions j)) (between-new (phase_at k.chain.versions j) t ∙ ap other (sym (number-is (phase_at k.chain.versions j) phase t))))
          (λ n. subst (λ (ms : List Mutation). SameSource ms (other (phase_at k.chain.versions j))) (sym (between-old (phase_at k.chain.versions j) n)) (b.older j less)))
    ]

    knows-still : IsChainContinuous below (at_place Head k.chain) → IsChainContinuous other (at_place Head (relabelled_chain phase k).chain)
    knows-still held = counts between other Head (relabelled_chain phase k).chain (forms Head k newest phase last ch)
        (λ j low. subst (λ (q : KeptChain). SameSource (between (phase_at q.chain.versions j)) (other (phase_at q.chain.versions j))) (sym relabelled-is) (third j (subst (λ n. j < n) (still-long phase k) low)))
        (relabels between Head k newest phase last ch (λ _. second) (counts below between Head k.chain ch first held))

  -- ---- the chains of entries

  module _ (below other : List ℕ → ℕ → List Mutation) (entries : List (List ℕ × ℕ)) (phase : ℕ) (old new : Memory) (a : AreEntries entries old) (w : AreWellKept old) where
    entry-attached : (key : List ℕ) (id : ℕ) (k : KeptChain) → entry_number entries key ≡ Some id → chain_at old id ≡ Some k → k.chain.attached ≡ true
    entry-attached key id k e there = elim (a.kept key id e) [
      | inl c ↦ ap (λ (q : KeptChain). q.chain.attached) (same-some k c.kept (sym there ∙ c.there)) ∙ c.attached
      | inr on ↦ absurd (none-is-none k (sym (w.told id on) ∙ there))
    ]

    entry-knows : (key : List ℕ) (id : ℕ) (k now : KeptChain) → entry_number entries key ≡ Some id → chain_at old id ≡ Some k → relabelled_chain phase k ≡ now → IsBelowAlike (below key) (other key) phase k.chain.versions → AreContinuous below entries old →
        now.chain.updating ≡ false → IsChainContinuous (other key) (at_place Head now.chain)
    entry-knows key id k now e there is b h settled =
        let sound : IsSoundChain k.chain = each-at (λ q. IsSoundChain q.chain) old.chains id k w.sound there in
        let some = sound.some in
        subst (λ (q : KeptChain). IsChainContinuous (other key) (at_place Head q.chain)) is
        (knows-still (below key) (other key) phase k b (shown-form Head k.chain sound (each-version k.chain.versions (λ j v at. w.versions id j k v there at))) (entry-attached key id k e there) (length k.chain.versions - 1) (omega (arith, some))
        (h key id k e there (sym (still-updating phase k) ∙ ap (λ (q : KeptChain). q.chain.updating) is ∙ settled)))

    pub relabelled-continuous : IsRelabelled phase old new → ((key : List ℕ) (id : ℕ) (k : KeptChain) → entry_number entries key ≡ Some id → chain_at old id ≡ Some k → IsBelowAlike (below key) (other key) phase k.chain.versions) →
        AreContinuous below entries old → AreContinuous other entries new
    relabelled-continuous r b h key id now e there = there-or-not (chain_at old id)
        (λ none. absurd (none-is-none now (sym (relabelled-at phase old new r id ∙ ap (option_map (relabelled_chain phase)) none) ∙ there)))
        (λ k was. entry-knows key id k now e was (same-some (relabelled_chain phase k) now (sym (relabelled-at phase old new r id ∙ ap (option_map (relabelled_chain phase)) was) ∙ there)) (b key id k e was) h)

    pub invalidated-continuous : (keys : List (List ℕ)) → IsInvalidated (entry_numbers keys entries) phase old new →
        ((key : List ℕ) (id : ℕ) (k : KeptChain) → entry_number (without_keys keys entries) key ≡ Some id → chain_at old id ≡ Some k → IsBelowAlike (below key) (other key) phase k.chain.versions) →
        AreContinuous below entries old → AreContinuous other (without_keys keys entries) new
    invalidated-continuous keys i b h key id now e there = let mine = other-numbers keys entries old a key id e in there-or-not (chain_at old id)
        (λ none. absurd (none-is-none now (sym (invalidated-none (entry_numbers keys entries) phase old new i id none) ∙ there)))
        (λ k was. entry-knows key id k now mine.0 was (same-some (relabelled_chain phase k) now (sym (invalidated-others (entry_numbers keys entries) phase old new i id k mine.1 was) ∙ there)) (b key id k e was) h)
