-- Versions of shown chains by their numbers: one that is changed, the newest, and what a snapshot pins.
use Rattle.std.specs.Prelude.{◌≡◌, ◌⊎◌, ◌++◌, ◌∷◌, [], ℕ, zero, suc, Bool, true, false, List, Option, Some, None, cond, length, map, option_map}
use Rattle.std.proofs.Common.{refl, sym, ap, ◌∙◌, subst, ⊎_elim, inl, inr, arith}
use Rattle.rc_position.specs.Position.{Place}
use Rattle.rc_mutation.specs.declared.mutations.Mutation.{Mutation}
use Rattle.rc_core.specs.Chains.{IsChainContinuous, IsPinned, IsUpdating, NewestIs, Shown, at_place, phase_at, upto, with_versions}
use Rattle.rc_core.specs.Continuity.{IsContinuous}
use Rattle.rc_core.specs.Free.{IsAbandoned}
use Rattle.rc_core.specs.Steps.{IsChain, all_but, number_after_removal, on_newest, on_version}
use Rattle.rc_core.specs.Version.{Version}
use Rattle.rc_core.specs.laws.Merged.{all_but-parts}
use Rattle.rc_core.specs.laws.Standing.{NewestIs-back}
use Rattle.rc_memory.specs.Memory.{IsVersionAt, on_version_of, shown_without}
use Rattle.rc_chain.specs.laws.PlaceBeside.{beside-none, updating-or-not}

-- ---- one version changed

-- there is a version of the number, or nothing is done to it
pub version-or-none : (j : ℕ) (versions : List Version) → ((v : Version) × IsVersionAt versions j v) ⊎ ((f : Version → Version) → on_version j f versions ≡ versions)
version-or-none j [] = inr (λ f. refl)
version-or-none zero (v ∷ vs) = inl (v, record { older = []; newer = vs; split = refl; number = refl })
version-or-none (suc j) (v ∷ vs) = ⊎_elim
    (λ k. inl (k.0, record { older = v ∷ k.1.older; newer = k.1.newer; split = ap (λ us. v ∷ us) k.1.split; number = ap suc k.1.number }))
    (λ h. inr (λ f. ap (λ us. v ∷ us) (h f)))
    (version-or-none j vs)

-- the chain with one version in the place of another, where that is what is done to the version of its number
pub replaced-beside : (p : Place) (c : Shown) (older newer : List Version) (v : Version) (f : Version → Version) → c.versions ≡ older ++ v ∷ newer → on_version (length older) f (older ++ v ∷ newer) ≡ older ++ f v ∷ newer →
    at_place p (on_version_of (length older) f c) ≡ with_versions (older ++ f v ∷ newer) (at_place p c)
replaced-beside p c older newer v f parts one = ap (λ vs. with_versions vs (at_place p c)) (ap (on_version (length older) f) parts ∙ one)

-- what is done to the newest version is done to the one of its number
pub on-newest : (j : ℕ) (f : Version → Version) (versions : List Version) → suc j ≡ length versions → on_version j f versions ≡ on_newest f versions
on-newest j f [] e = refl
on-newest zero f (v ∷ []) e = refl
on-newest zero f (v ∷ w ∷ vs) e = absurd (omega (arith, e))
on-newest (suc j) f (v ∷ []) e = absurd (omega (arith, e))
on-newest (suc j) f (v ∷ w ∷ vs) e = ap (λ us. v ∷ us) (on-newest j f (w ∷ vs) (omega (arith, e)))

-- what each version says stays, where it does of the one that is changed
pub said-alike : {A : Type 0} (T : Version → A) (f : Version → Version) → ((v : Version) → T (f v) ≡ T v) → (j : ℕ) (versions : List Version) → map T (on_version j f versions) ≡ map T versions
said-alike T f same j [] = refl
said-alike T f same zero (v ∷ vs) = ap (λ t. t ∷ map T vs) (same v)
said-alike T f same (suc j) (v ∷ vs) = ap (λ ts. T v ∷ ts) (said-alike T f same j vs)

-- what holds of the newest version stays, where it does of one that is changed
pub newest-stays : (P : Version → Type 0) (older newer : List Version) (v now : Version) → (newer ≡ [] → P now) → NewestIs P (older ++ v ∷ newer) → NewestIs P (older ++ now ∷ newer)
newest-stays P older [] v now one h = subst (λ (T : Type 0). T) (sym (NewestIs-back P older now [])) (one refl)
newest-stays P older (w ∷ ws) v now one h = subst (λ (T : Type 0). T) (sym (NewestIs-back P older now (w ∷ ws))) (subst (λ (T : Type 0). T) (NewestIs-back P older v (w ∷ ws)) h)

-- ---- what a snapshot pins

-- a chain under update has the place beside it
beside-is : (b : Bool) (p : Place) → b ≡ true → IsUpdating (cond b (Some p) None)
beside-is true p e = tt
beside-is false p e = cc e

-- the version that a snapshot pins is continuous at each place
pub pinned-continuous : (below : ℕ → List Mutation) (p : Place) (c : Shown) (j : ℕ) → IsChain (at_place p c) → IsChainContinuous below (at_place p c) → IsPinned c.pins j → IsContinuous None (below (phase_at c.versions j)) (upto c.versions j)
pinned-continuous below p c j ch k on = k.needed j None (λ e. sym (none e), λ _. refl) (inl on)
  where
    none : suc j ≡ length c.versions → ◌≡◌ {A = Option Place} (cond c.updating (Some p) None) None
    none e = updating-or-not (cond c.updating (Some p) None ≡ None) c.updating (λ u. absurd (omega (arith, e, ch.unpinned (beside-is c.updating p u) j on))) (λ u. beside-none c.updating p u)

-- ---- a version gone

-- pins that pin nothing have no number that could change
unpinned-same : (n : ℕ) (pins : List (Option ℕ)) → ((j : ℕ) → IsPinned pins j → ⊥) → map (option_map (number_after_removal n)) pins ≡ pins
unpinned-same n [] free = refl
unpinned-same n (None ∷ ps) free = ap (λ qs. None ∷ qs) (unpinned-same n ps (λ j on. free j (inr on)))
unpinned-same n (Some j ∷ ps) free = absurd (free j (inl refl))

pub gone-versions : (c : Shown) (older newer : List Version) (v : Version) → c.versions ≡ older ++ v ∷ newer → (shown_without (length older) c).versions ≡ older ++ newer
gone-versions c older newer v parts = ap (all_but (length older)) parts ∙ all_but-parts older newer v

pub gone-same : (p : Place) (c : Shown) (older newer : List Version) (v : Version) → c.versions ≡ older ++ v ∷ newer → IsAbandoned (at_place p c) → at_place p (shown_without (length older) c) ≡ with_versions (older ++ newer) (at_place p c)
gone-same p c older newer v parts left = λ i. record {
  kind = c.kind;
  versions = gone-versions c older newer v parts i;
  attached = c.attached;
  updating = cond c.updating (Some p) None;
  pins = unpinned-same (length older) c.pins left.unpinned i;
}
