-- Pins by their numbers, and by what they pin.
use Rattle.std.specs.Prelude.{◌≡◌, ◌⊎◌, ℕ, zero, suc, List, [], ◌∷◌, Option, Some, None, option_map, map as list_map}
use Rattle.std.proofs.Common.{refl, sym, ap, ⊎_elim, inl, inr}
use Rattle.rc_core.specs.Chains.{IsPinned}
use Rattle.rc_core.specs.Steps.{pin_at, free_number, pins_with, pins_without, number_after_removal}

-- the number in it
abbrev pub version_in : Option ℕ → ℕ
version_in None = zero
version_in (Some p) = p

pub pinned-or-new : (version : ℕ) (pins : List (Option ℕ)) (j : ℕ) → IsPinned (pins_with version pins) j → IsPinned pins j ⊎ (j ≡ version)
pinned-or-new version [] j h = ⊎_elim (λ e. inr (sym (ap version_in e))) (λ n. absurd n) h
pinned-or-new version (None ∷ ps) j h = ⊎_elim (λ e. inr (sym (ap version_in e))) (λ r. inl (inr r)) h
pinned-or-new version (Some p ∷ ps) j h = ⊎_elim (λ e. inl (inl e)) (λ r. ⊎_elim (λ a. inl (inr a)) inr (pinned-or-new version ps j r)) h

pub released-pin : (i : ℕ) (pins : List (Option ℕ)) (j : ℕ) → IsPinned (pins_without i pins) j → IsPinned pins j
released-pin i [] j h = h
released-pin zero (p ∷ ps) j h = ⊎_elim (λ e. let u : None ≡ Some j = e in absurd (cc)) inr h
released-pin (suc i) (p ∷ ps) j h = ⊎_elim inl (λ r. inr (released-pin i ps j r)) h

pub pin-was-free : (pins : List (Option ℕ)) → pin_at pins (free_number pins) ≡ None
pin-was-free [] = refl
pin-was-free (None ∷ ps) = refl
pin-was-free (Some p ∷ ps) = pin-was-free ps

pub pin-given : (version : ℕ) (pins : List (Option ℕ)) → pin_at (pins_with version pins) (free_number pins) ≡ Some version
pin-given version [] = refl
pin-given version (None ∷ ps) = refl
pin-given version (Some p ∷ ps) = pin-given version ps

pub pin-others : (version : ℕ) (pins : List (Option ℕ)) (i : ℕ) → (i ≡ free_number pins → ⊥) → pin_at (pins_with version pins) i ≡ pin_at pins i
pin-others version [] zero off = absurd (off refl)
pin-others version [] (suc i) off = refl
pin-others version (None ∷ ps) zero off = absurd (off refl)
pin-others version (None ∷ ps) (suc i) off = refl
pin-others version (Some p ∷ ps) zero off = refl
pin-others version (Some p ∷ ps) (suc i) off = pin-others version ps i (λ e. off (ap suc e))

pub pin-freed : (i : ℕ) (pins : List (Option ℕ)) → pin_at (pins_without i pins) i ≡ None
pin-freed i [] = refl
pin-freed zero (p ∷ ps) = refl
pin-freed (suc i) (p ∷ ps) = pin-freed i ps

pub pin-kept : (i k : ℕ) (pins : List (Option ℕ)) → (k ≡ i → ⊥) → pin_at (pins_without i pins) k ≡ pin_at pins k
pin-kept i k [] off = refl
pin-kept zero zero (p ∷ ps) off = absurd (off refl)
pin-kept zero (suc k) (p ∷ ps) off = refl
pin-kept (suc i) zero (p ∷ ps) off = refl
pin-kept (suc i) (suc k) (p ∷ ps) off = pin-kept i k ps (λ e. off (ap suc e))

pub pin-is-pinned : (pins : List (Option ℕ)) (i j : ℕ) → pin_at pins i ≡ Some j → IsPinned pins j
pin-is-pinned [] i j e = let u : None ≡ Some j = e in absurd (cc)
pin-is-pinned (p ∷ ps) zero j e = inl e
pin-is-pinned (p ∷ ps) (suc i) j e = inr (pin-is-pinned ps i j e)

pub pinned-by-number : (pins : List (Option ℕ)) (j : ℕ) → IsPinned pins j → (i : ℕ) × (pin_at pins i ≡ Some j)
pinned-by-number [] j h = absurd h
pinned-by-number (p ∷ ps) j h = ⊎_elim (λ e. (zero, e)) (λ r. let k = pinned-by-number ps j r in (suc k.0, k.1)) h

pub pin-renumbered : (n i : ℕ) (pins : List (Option ℕ)) → pin_at (list_map (option_map (number_after_removal n)) pins) i ≡ option_map (number_after_removal n) (pin_at pins i)
pin-renumbered n i [] = refl
pin-renumbered n zero (p ∷ ps) = refl
pin-renumbered n (suc i) (p ∷ ps) = pin-renumbered n i ps
