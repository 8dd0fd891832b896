-- An update, from its begin on and unit by unit to its end.
use Rattle.std.specs.Prelude.{◌≡◌, ℕ, List, [], ◌∷◌, ◌++◌, Option, Some, None, map as list_map}
use Rattle.std.proofs.Common.{refl, sym, subst}
use Rattle.std.specs.declared.cmp.Ordering.TheVariants.{Less}
use Rattle.rc_cell.specs.declared.writes.Tomb.{Tomb}
use Rattle.rc_position.specs.declared.positions.Pos.{Pos}
use Rattle.rc_position.specs.Position.{Place, Clustered, End, place_cmp}
use Rattle.rc_mutation.specs.declared.fragments.Frag.{Frag}
use Rattle.rc_mutation.specs.declared.fragments.Frag.TheVariants as frag
use Rattle.rc_mutation.specs.declared.mutations.Mutation.{Mutation}
use Rattle.rc_mutation.specs.Fragments.{changes_of, fragments, in_order, placed_change, placed_row, static_fragment}
use Rattle.rc_mutation.specs.Source.{IsMutation, SameSource}
use Rattle.rc_core.specs.declared.entries.ChainKind.TheVariants.{Cache}
use Rattle.rc_core.specs.Version.{Version, IsVersion}
use Rattle.rc_core.specs.Chain.{IsKnown}
use Rattle.rc_core.specs.AtPlace.{IsAtPlace}
use Rattle.rc_core.specs.Continuity.{IsContinuous}
use Rattle.rc_core.specs.Merge.{new_version}
use Rattle.rc_core.specs.laws.Placed.{new-at-place}
use Rattle.rc_core.specs.laws.Units.{unit-continuous, unit-known}
use Rattle.rc_core.specs.laws.Updates.{more-says, wider-hold}
use Rattle.rc_core.specs.laws.Updating.{begun, ended}
use Rattle.rc_units.specs.Update.{AreFragmentsOf, force_after, unit_place, updated_by, updated_version}
use Rattle.rc_units.proofs.Cuts.{updated-version}
use Rattle.rc_units.proofs.Fragmented.{are-stretches}
use Rattle.rc_units.proofs.Updates.{unit-is, unit-placed}

pub same-as-itself : (writes : List Mutation) → SameSource writes writes
same-as-itself writes = record { head = refl; statics = refl; clustered = λ _. refl }

pub new-version : (phase : ℕ) → IsVersion (new_version None phase)
new-version phase = record { ascend = tt; ends = (refl, refl) }

-- ---- one unit after another

abbrev last_place : Frag → List Frag → Place
last_place f [] = unit_place f
last_place f (g ∷ gs) = last_place g gs

last_end : (f : Frag) (fs : List Frag) → last_place f (fs ++ frag.End ∷ []) ≡ End
last_end f [] = refl
last_end f (g ∷ gs) = last_end g gs

module _ (writes : List Mutation) (change : Mutation) (older : List Version) where
  run-continuous : IsContinuous None writes older → (fs : List Frag) (force : Option Tomb) (f : Frag) (v : Version) → AreFragmentsOf change force (f ∷ fs) → IsVersion v → IsAtPlace (unit_place f) v →
      IsContinuous (Some (unit_place f)) (writes ++ change ∷ []) (older ++ v ∷ []) → IsContinuous (Some (last_place f fs)) (writes ++ change ∷ []) (older ++ updated_by force (f ∷ fs) v ∷ [])
  run-continuous k [] force f v st i a c = c
  run-continuous k (g ∷ gs) force f v st i a c =
      run-continuous k gs (force_after force f) g (updated_version force f (unit_place g) v) st.1
      (updated-version force f (unit_place g) v i) (unit-placed change force f (unit_place g) v i a st.0)
      (unit-continuous writes (writes ++ change ∷ []) change older v (updated_version force f (unit_place g) v) (unit_place f) (unit_place g) (unit-is change force f (unit_place g) v i a st.0) k c (same-as-itself (writes ++ change ∷ [])))

  -- what is known below stays known before the place
  run-known : (x : Pos) → IsKnown Cache older x → (fs : List Frag) (force : Option Tomb) (f : Frag) (v : Version) → AreFragmentsOf change force (f ∷ fs) → IsVersion v → IsAtPlace (unit_place f) v →
      (place_cmp (Clustered x) (unit_place f) ≡ Less → IsKnown Cache (older ++ v ∷ []) x) → place_cmp (Clustered x) (last_place f fs) ≡ Less → IsKnown Cache (older ++ updated_by force (f ∷ fs) v ∷ []) x
  run-known x k [] force f v st i a c = c
  run-known x k (g ∷ gs) force f v st i a c =
      run-known x k gs (force_after force f) g (updated_version force f (unit_place g) v) st.1
      (updated-version force f (unit_place g) v i) (unit-placed change force f (unit_place g) v i a st.0)
      (λ l. unit-known writes writes change older v (updated_version force f (unit_place g) v) (unit_place f) (unit_place g) (unit-is change force f (unit_place g) v i a st.0) x l k c)

  abbrev behind_head : List Frag
  behind_head = static_fragment change.statics ++ in_order (list_map placed_row change.rows ++ list_map placed_change (changes_of change.ranges))

  module _ (phase : ℕ) (is : IsMutation change) where
    pub whole-continuous : IsContinuous None writes older → IsContinuous None (writes ++ change ∷ []) (older ++ updated_by None (fragments change) (new_version None phase) ∷ [])
    unfolding fragments
    whole-continuous k =
        ended (writes ++ change ∷ []) (older ++ updated_by None (fragments change) (new_version None phase) ∷ [])
        (subst (λ p. IsContinuous (Some p) (writes ++ change ∷ []) (older ++ updated_by None (fragments change) (new_version None phase) ∷ [])) (last_end (frag.Start change.pt) behind_head)
        (run-continuous k (behind_head ++ frag.End ∷ []) None (frag.Start change.pt) (new_version None phase) (are-stretches change is) (new-version phase) (new-at-place phase)
        (begun (writes ++ change ∷ []) older None phase (wider-hold writes (writes ++ change ∷ []) older (more-says writes (writes ++ change ∷ []) change (same-as-itself (writes ++ change ∷ []))) k.within))))

    pub whole-known : (x : Pos) → IsKnown Cache older x → IsKnown Cache (older ++ updated_by None (fragments change) (new_version None phase) ∷ []) x
    unfolding fragments
    whole-known x k =
        run-known x k (behind_head ++ frag.End ∷ []) None (frag.Start change.pt) (new_version None phase) (are-stretches change is) (new-version phase) (new-at-place phase) (λ l. absurd (cc))
        (subst (λ p. place_cmp (Clustered x) p ≡ Less) (sym (last_end (frag.Start change.pt) behind_head)) refl)
