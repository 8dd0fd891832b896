-- Units of an update on a whole chain: each is one of the core.
use Rattle.std.specs.Prelude.{◌≡◌, ℕ, suc, true, false, IsTrue, cond, List, [], ◌∷◌, ◌++◌, Option, Some, None, length}
use Rattle.std.proofs.Common.{refl, sym, ap, ◌∙◌, subst, arith}
use Rattle.std.proofs.lemmas.List.{append_assoc}
use Rattle.std.specs.declared.cmp.Ordering.TheVariants.{Less}
use Rattle.rc_cell.specs.declared.writes.Tomb.{Tomb}
use Rattle.rc_position.specs.declared.positions.Pos.{Pos}
use Rattle.rc_position.specs.Position.{Place, Head, place_cmp}
use Rattle.rc_mutation.specs.declared.fragments.Frag.{Frag}
use Rattle.rc_mutation.specs.declared.fragments.Frag.TheVariants as frag
use Rattle.rc_mutation.specs.declared.mutations.Mutation.{Mutation}
use Rattle.rc_mutation.specs.Source.{SameSource}
use Rattle.rc_core.specs.Version.{Version, IsVersion}
use Rattle.rc_core.specs.AtPlace.{IsAtPlace}
use Rattle.rc_core.specs.Chains.{Chain, IsChainContinuous, IsUpdating, NewestIs, Shown, at_place, phase_at, with_versions}
use Rattle.rc_core.specs.Continuity.{EachOf}
use Rattle.rc_core.specs.Merge.{new_version}
use Rattle.rc_core.specs.Steps.{IsCarriedIn, IsChain, begin_update, with_updating}
use Rattle.rc_core.specs.laws.Carrying.{begun-carried, unit-carried}
use Rattle.rc_core.specs.laws.Freeing.{replaced-form}
use Rattle.rc_core.specs.laws.Losing.{each-one}
use Rattle.rc_core.specs.laws.Standing.{NewestIs-back, Stand, above-zero, length-cons, stand-at}
use Rattle.rc_core.specs.laws.Updates.{begun-chain, begun-form, given-chain, more-says, same-form}
use Rattle.rc_core.specs.laws.Updates as core
use Rattle.rc_units.specs.Update.{IsFragmentOf, lost_from, unit_place, updated_version}
use Rattle.rc_units.proofs.Cuts.{precedes-le, updated-version}
use Rattle.rc_units.proofs.Losses.{lost-is, lost-phase, lost_from-version}
use Rattle.rc_units.proofs.Updates.{unit-is}

pub updated-phase : (force : Option Tomb) (f : Frag) (next : Place) (v : Version) → (updated_version force f next v).phase ≡ v.phase
updated-phase force (frag.Start pt) next v = refl
updated-phase force (frag.Static row) next v = refl
updated-phase force (frag.Row key row) next v = refl
updated-phase force (frag.Change from tomb) next v = refl
updated-phase force frag.End next v = refl

module _ (below : ℕ → List Mutation) (c : Chain) (older : List Version) (v : Version) (vs : c.versions ≡ older ++ v ∷ []) (ch : IsChain c) where
  newest_version : IsVersion v
  newest_version = each-one IsVersion older [] v (subst (EachOf IsVersion) vs ch.versions)

  -- the newest version stands at the update's place
  newest_placed : (p : Place) → c.updating ≡ Some p → IsChainContinuous below c → IsAtPlace p v
  newest_placed p up k = subst (λ (T : Type 0). T) (NewestIs-back (IsAtPlace p) older v []) (subst (NewestIs (IsAtPlace p)) vs (k.ahead p up))

  pub lost-form : (p : Place) → IsChain (with_updating None (with_versions (older ++ lost_from p v ∷ []) c))
  lost-form p = same-form (with_versions (older ++ lost_from p v ∷ []) c) None (λ u. absurd u) (replaced-form c older [] v (lost_from p v) vs (lost_from-version p v newest_version) ch)

  pub lost-chain : (p : Place) → c.attached ≡ true → c.updating ≡ Some p → place_cmp Head p ≡ Less → IsChainContinuous below c →
      IsChainContinuous below (with_updating None (with_versions (older ++ lost_from p v ∷ []) c))
  lost-chain p att up begun k = given-chain below c older v (lost_from p v) p vs ch att up begun (lost-is p v newest_version (newest_placed p up k)) (lost-phase p v) k

module _ (below : ℕ → List Mutation) (change : Mutation) (c : Chain) (front : List Version) (under v : Version) (vs : c.versions ≡ front ++ under ∷ v ∷ []) (ch : IsChain c)
    (force : Option Tomb) (f : Frag) (next : Place) (up : c.updating ≡ Some (unit_place f)) (st : IsFragmentOf change force f next) where
  abbrev unit : Version
  unit = updated_version force f next v

  parts : c.versions ≡ (front ++ under ∷ []) ++ v ∷ []
  parts = vs ∙ sym (append_assoc front (under ∷ []) (v ∷ []))

  form : IsVersion v
  form = newest_version below c (front ++ under ∷ []) v parts ch

  placed : IsChainContinuous below c → IsAtPlace (unit_place f) v
  placed k = newest_placed below c (front ++ under ∷ []) v parts ch (unit_place f) up k

  pub unit-chain : c.attached ≡ true → SameSource (below under.phase ++ change ∷ []) (below v.phase) → IsChainContinuous below c → IsChainContinuous below (with_updating (Some next) (with_versions (front ++ under ∷ unit ∷ []) c))
  unit-chain att src k =
      core.unit-chain below c front under v unit change (unit_place f) next vs ch att up (precedes-le f next st.precedes) (unit-is change force f next v form (placed k) st) (updated-phase force f next v) src k

  pub unit-form : IsChain (with_updating (Some next) (with_versions (front ++ under ∷ unit ∷ []) c))
  unit-form =
      same-form (with_versions (front ++ under ∷ unit ∷ []) c) (Some next) (λ _. subst IsUpdating (sym up) tt)
      (subst (λ us. IsChain (with_versions us c)) (append_assoc front (under ∷ []) (unit ∷ [])) (replaced-form c (front ++ under ∷ []) [] v unit parts (updated-version force f next v form) ch))

  pub unit-carried-in : IsChainContinuous below c → (x : Pos) → IsCarriedIn c x → IsCarriedIn (with_updating (Some next) (with_versions (front ++ under ∷ unit ∷ []) c)) x
  unit-carried-in k x h =
      subst (λ us. IsCarriedIn (with_updating (Some next) (with_versions us c)) x) (append_assoc front (under ∷ []) (unit ∷ []))
      (unit-carried c (front ++ under ∷ []) v unit change (unit_place f) next x parts up (unit-is change force f next v form (placed k) st) h)

-- ---- the begin

module _ (below : ℕ → List Mutation) (change : Mutation) (c : Chain) (front : List Version) (under : Version) (phase : ℕ) (vs : c.versions ≡ front ++ under ∷ []) (ch : IsChain c) (att : c.attached ≡ true) (none : c.updating ≡ None)
    (src : SameSource (below under.phase ++ change ∷ []) (below phase)) (k : IsChainContinuous below c) where
  number : suc (length front) ≡ length c.versions
  number = omega (arith, ap length vs, length-cons front under [])

  phase_is : phase_at c.versions (length front) ≡ under.phase
  phase_is = ap (λ us. phase_at us (length front)) vs ∙ ap (λ (s : Stand). s.0) (stand-at (length front) front [] under (sym (above-zero (length front))))

  abbrev begun : Chain
  begun = begin_update phase c

  begun_versions : begun.versions ≡ front ++ under ∷ new_version None phase ∷ []
  begun_versions = ap (λ us. us ++ new_version None phase ∷ []) vs ∙ append_assoc front (under ∷ []) (new_version None phase ∷ [])

  begun_form : IsChain begun
  begun_form = begun-form below c (length front) phase number ch

  begun_continuous : IsChainContinuous below begun
  begun_continuous = begun-chain below c (length front) phase number ch att none (more-says (below (phase_at c.versions (length front))) (below phase) change (subst (λ n. SameSource (below n ++ change ∷ []) (below phase)) (sym phase_is) src)) k

  module _ (pt : Option Tomb) (next : Place) (st : IsFragmentOf change None (frag.Start pt) next) where
    abbrev unit_begun : Chain
    unit_begun = with_updating (Some next) (with_versions (front ++ under ∷ updated_version None (frag.Start pt) next (new_version None phase) ∷ []) c)

    pub begin-chain : IsChainContinuous below unit_begun
    begin-chain = unit-chain below change begun front under (new_version None phase) begun_versions begun_form None (frag.Start pt) next refl st att src begun_continuous

    pub begin-form : IsChain unit_begun
    begin-form = unit-form below change begun front under (new_version None phase) begun_versions begun_form None (frag.Start pt) next refl st

    pub begin-carried : (x : Pos) → IsCarriedIn c x → IsCarriedIn unit_begun x
    begin-carried x h = unit-carried-in below change begun front under (new_version None phase) begun_versions begun_form None (frag.Start pt) next refl st begun_continuous x (begun-carried c phase x none h)

-- ---- a chain as it is shown

pub shown-updating : (p : Place) (c : Shown) → (IsTrue c.updating → IsUpdating (at_place p c).updating) × (IsUpdating (at_place p c).updating → IsTrue c.updating)
shown-updating p c = elim c.updating as (λ b. (IsTrue b → IsUpdating (cond b (Some p) None)) × (IsUpdating (cond b (Some p) None) → IsTrue b)) [
  | true ↦ (λ _. tt, λ _. refl)
  | false ↦ (λ h. let u : false ≡ true = h in absurd (cc), λ u. absurd u)
]
