-- Continuity of the versions of a chain below a number: of all of them, or of all but the newest. No update stands in the chain.
use Rattle.std.proofs.Common.{◌≡◌, ◌⊎◌, ◌<◌, ◌≤◌, ℕ, suc, false, cond, List, ◌∷◌, ◌++◌, Option, Some, None, length, inl, inr, refl, sym, ◌∙◌, subst, arith}
use Rattle.rc_position.specs.Position.{Head, Place}
use Rattle.rc_mutation.specs.declared.mutations.Mutation.{Mutation}
use Rattle.rc_core.specs.Chains.{HasReach, IsChainContinuous, IsNeeded, IsPinned, IsUpdating, Shown, at_place, phase_at, upto}
use Rattle.rc_core.specs.Continuity.{EachOf, HoldNoMore, IsContinuous, IsEvicted}
use Rattle.rc_core.specs.Steps.{IsChain, on_newest, on_version}
use Rattle.rc_core.specs.Version.{IsVersion, Version}
use Rattle.rc_core.specs.laws.Losing.{each-one, evicted-continuous, evicted-within}
use Rattle.rc_memory.specs.Memory.{on_version_of}
use Rattle.rc_memory.specs.laws.Recent.{on-is}
use Rattle.rc_memory.specs.laws.Rules.{length-on}
use Rattle.rc_chain.specs.laws.Numbered.{version-or-none}
use Rattle.rc_chain.specs.laws.PlaceBeside.{beside-none}
use Rattle.rc_entries.specs.Filling.{on_newest_of}
use Rattle.rc_row_cache.proofs.Lists.{low-or, newest-long, newest-phase, newest-upto, same-phases, upto-kept}

-- each version of a lower number holds no more than its source, and is continuous where it is needed
pub record AreSaidUnder (below : ℕ → List Mutation) (n : ℕ) (c : Shown) : Type 0 where
  pub within : (j : ℕ) → j < n → HoldNoMore (below (phase_at c.versions j)) (upto c.versions j)
  pub needed : (j : ℕ) → j < n → IsNeeded (at_place Head c) j → IsContinuous None (below (phase_at c.versions j)) (upto c.versions j)

module _ (below : ℕ → List Mutation) (c : Shown) (settled : c.updating ≡ false) where
  no-place : (at_place Head c).updating ≡ None
  no-place = beside-none c.updating Head settled

  pub said-under : (n : ℕ) → n ≤ length c.versions → IsChainContinuous below (at_place Head c) → AreSaidUnder below n c
  said-under n few on = record {
    within = λ j low. on.within j (omega (arith, low, few));
    needed = λ j low need. on.needed j None ((λ _. sym no-place), (λ _. refl)) need;
  }

  needed-there : IsChain (at_place Head c) → (j : ℕ) → IsNeeded (at_place Head c) j → j < length c.versions
  needed-there ch j (inl pinned) = ch.pins j pinned
  needed-there ch j (inr (inl newest)) = let e = newest.1 in omega (arith, e)
  needed-there ch j (inr (inr under)) = absurd (subst IsUpdating no-place under.0)

  no-reach : (j : ℕ) (reach : Option Place) → HasReach (at_place Head c) j reach → (suc j < length c.versions) ⊎ (length c.versions ≤ suc j) → j < length c.versions → reach ≡ None
  no-reach j reach has (inl low) few = has.1 (λ e. omega (arith, e, low))
  no-reach j reach has (inr high) few = has.0 (omega (arith, high, few)) ∙ no-place

  pub said-whole : IsChain (at_place Head c) → AreSaidUnder below (length c.versions) c → IsChainContinuous below (at_place Head c)
  said-whole ch s = record {
    within = s.within;
    needed = λ j reach has need. let low = needed-there ch j need in
        subst (λ r. IsContinuous r (below (phase_at c.versions j)) (upto c.versions j)) (sym (no-reach j reach has (low-or (suc j) (length c.versions)) low)) (s.needed j low need);
    ahead = λ p e. (let clash : None ≡ Some p = sym no-place ∙ e in absurd (cc));
  }

-- what is needed does not depend on what versions hold
pub needed-alike : (c d : Shown) → d.pins ≡ c.pins → d.attached ≡ c.attached → d.updating ≡ c.updating → length d.versions ≡ length c.versions → (j : ℕ) → IsNeeded (at_place Head d) j → IsNeeded (at_place Head c) j
needed-alike c d pins attached updating long j (inl pinned) = inl (subst (λ ps. IsPinned ps j) pins pinned)
needed-alike c d pins attached updating long j (inr (inl newest)) = inr (inl (sym attached ∙ newest.0, newest.1 ∙ long))
needed-alike c d pins attached updating long j (inr (inr under)) = inr (inr (subst (λ b. IsUpdating (cond b (Some Head) None)) updating under.0, under.1 ∙ long))

-- ---- one version changed

module _ (below : ℕ → List Mutation) (j : ℕ) (f : Version → Version) (c : Shown) (lost : (v : Version) → IsVersion v → IsEvicted v (f v)) (phase : (v : Version) → (f v).phase ≡ v.phase) (are : EachOf IsVersion c.versions) where
  abbrev now : List Version
  now = on_version j f c.versions

  stays-said : (Q : List Mutation → List Version → Type 0) → ((writes : List Mutation) (older newer : List Version) (v w : Version) → IsEvicted v w → Q writes (older ++ v ∷ newer) → Q writes (older ++ w ∷ newer)) →
      (i : ℕ) → Q (below (phase_at c.versions i)) (upto c.versions i) → Q (below (phase_at now i)) (upto now i)
  stays-said Q one i h = elim (version-or-none j c.versions) [
    | inl at ↦ (let k = at.1 in
        let is : IsVersion at.0 = each-one IsVersion k.older k.newer at.0 (subst (EachOf IsVersion) k.split are) in
        subst (λ vs. Q (below (phase_at vs i)) (upto vs i)) (sym (on-is c.versions j at.0 f k))
        (subst (λ p. Q (below p) (upto (k.older ++ f at.0 ∷ k.newer) i)) (sym (same-phases k.older k.newer at.0 (f at.0) (phase at.0) i))
        (upto-kept (Q (below (phase_at (k.older ++ at.0 ∷ k.newer) i))) k.older k.newer at.0 (f at.0) (λ newer. one (below (phase_at (k.older ++ at.0 ∷ k.newer) i)) k.older newer at.0 (f at.0) (lost at.0 is)) i
        (subst (λ vs. Q (below (phase_at vs i)) (upto vs i)) k.split h))))
    | inr none ↦ subst (λ vs. Q (below (phase_at vs i)) (upto vs i)) (sym (none f)) h
  ]

  pub said-evicted : (n : ℕ) → AreSaidUnder below n c → AreSaidUnder below n (on_version_of j f c)
  said-evicted n s = record {
    within = λ i low. stays-said HoldNoMore evicted-within i (s.within i low);
    needed = λ i low need. stays-said (IsContinuous None) (evicted-continuous None) i (s.needed i low (needed-alike c (on_version_of j f c) refl refl refl (length-on j f c.versions) i need));
  }

-- ---- the newest version changed

pub said-filled : (below : ℕ → List Mutation) (f : Version → Version) (c : Shown) → ((v : Version) → (f v).phase ≡ v.phase) → (n : ℕ) → suc n ≡ length c.versions → AreSaidUnder below n c → AreSaidUnder below n (on_newest_of f c)
said-filled below f c phase n last s =
    let same : (Q : List Mutation → List Version → Type 0) (i : ℕ) → i < n → Q (below (phase_at c.versions i)) (upto c.versions i) → Q (below (phase_at (on_newest f c.versions) i)) (upto (on_newest f c.versions) i) =
    λ Q i low h. subst (λ p. Q (below p) (upto (on_newest f c.versions) i)) (sym (newest-phase f phase c.versions i)) (subst (Q (below (phase_at c.versions i))) (sym (newest-upto f c.versions i (omega (arith, low, last)))) h) in
    record {
      within = λ i low. same HoldNoMore i low (s.within i low);
      needed = λ i low need. same (IsContinuous None) i low (s.needed i low (needed-alike c (on_newest_of f c) refl refl refl (newest-long f c.versions) i need));
    }
