-- Evictions on a whole chain, the version under update at its place; and a version at its place seen over others.
use Rattle.std.specs.Prelude.{◌≡◌, ℕ, List, [], ◌∷◌, ◌++◌, Some, None}
use Rattle.std.proofs.Common.{refl, sym, ap, ◌∙◌, subst}
use Rattle.std.specs.declared.cmp.Ordering.TheVariants.{Less}
use Rattle.rc_position.specs.declared.positions.Pos.{Pos}
use Rattle.rc_position.specs.Position.{Place, Clustered, place_cmp, IsBefore}
use Rattle.rc_mutation.specs.declared.mutations.Mutation.{Mutation}
use Rattle.rc_core.specs.SpotState.{through}
use Rattle.rc_core.specs.Version.{Spot, Version, IsVersion, state_at, end_position}
use Rattle.rc_core.specs.Chain.{states_at}
use Rattle.rc_core.specs.Change.{position_of, drop_at, lose_last_gap}
use Rattle.rc_core.specs.AtPlace.{HasEntryAt, IsAtPlace}
use Rattle.rc_core.specs.Continuity.{with_entries, without_statics}
use Rattle.rc_core.specs.Chains.{Chain, IsUpdating, NewestIs, IsChainContinuous, with_versions}
use Rattle.rc_core.specs.laws.Keeping.{evicted-chain}
use Rattle.rc_core.specs.laws.Losing.{entry-evicted, end-evicted, statics-evicted}
use Rattle.rc_core.specs.laws.MemtableChains.{silent_top}
use Rattle.rc_core.specs.laws.Placed.{evicted-at-place, statics-evicted-at-place}
use Rattle.rc_core.specs.laws.Standing.{NewestIs-back}

-- what holds of the newest version still holds where another version changed, or where the newest one did and it holds of that
newest_kept : (P : Version → Type 0) (front back : List Version) (v w : Version) → (back ≡ [] → P v → P w) → NewestIs P (front ++ v ∷ back) → NewestIs P (front ++ w ∷ back)
newest_kept P front [] v w step h = subst (λ (T : Type 0). T) (sym (NewestIs-back P front w [])) (step refl (subst (λ (T : Type 0). T) (NewestIs-back P front v []) h))
newest_kept P front (b ∷ bs) v w step h = subst (λ (T : Type 0). T) (NewestIs-back P front v (b ∷ bs) ∙ sym (NewestIs-back P front w (b ∷ bs))) h

module _ (below : ℕ → List Mutation) (c : Chain) (front back : List Version) (v : Version) (vs : c.versions ≡ front ++ v ∷ back) (k : IsChainContinuous below c) where
  pub entry-evicted-chain : (x : Pos) → IsVersion v → HasEntryAt x v.entries → IsBefore x end_position → (back ≡ [] → c.updating ≡ Some (Clustered x) → ⊥) → IsChainContinuous below (with_versions (front ++ with_entries (drop_at x v.entries) v ∷ back) c)
  entry-evicted-chain x i h b off =
      evicted-chain below c front back v (with_entries (drop_at x v.entries) v) vs (entry-evicted v x i b) refl
      (λ p e. newest_kept (IsAtPlace p) front back v (with_entries (drop_at x v.entries) v)
      (λ none a. evicted-at-place p v x i h b (λ d. off none (e ∙ ap Some d)) a)
      (subst (NewestIs (IsAtPlace p)) vs (k.ahead p e)))
      k

  pub end-evicted-chain : (back ≡ [] → IsUpdating c.updating → ⊥) → IsChainContinuous below (with_versions (front ++ with_entries (lose_last_gap v.entries) v ∷ back) c)
  end-evicted-chain off =
      evicted-chain below c front back v (with_entries (lose_last_gap v.entries) v) vs (end-evicted v) refl
      (λ p e. newest_kept (IsAtPlace p) front back v (with_entries (lose_last_gap v.entries) v)
      (λ none a. absurd (off none (subst IsUpdating (sym e) tt)))
      (subst (NewestIs (IsAtPlace p)) vs (k.ahead p e)))
      k

  pub statics-evicted-chain : (v.statics ≡ None → ⊥) → IsChainContinuous below (with_versions (front ++ without_statics v ∷ back) c)
  statics-evicted-chain some =
      evicted-chain below c front back v (without_statics v) vs (statics-evicted v) refl
      (λ p e. newest_kept (IsAtPlace p) front back v (without_statics v) (λ _ a. statics-evicted-at-place p v some a) (subst (NewestIs (IsAtPlace p)) vs (k.ahead p e)))
      k

-- from the place on the version under update is seen through
pub seen-through : (p : Place) (older : List Version) (v : Version) (s : Spot) → IsAtPlace p v → (place_cmp (Clustered (position_of s)) p ≡ Less → ⊥) → through (states_at s (older ++ v ∷ [])) ≡ through (states_at s older)
seen-through p older v s a n = silent_top (state_at s) older v (a.silent.clustered s n)
