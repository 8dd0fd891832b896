use Rattle.std.specs.Prelude.{◌≡◌, ◌∷◌, [], ℕ, zero, suc, List, Some, None}
use Rattle.std.proofs.Common.{refl, sym, ap, ◌∙◌, subst, inl}
use Rattle.std.specs.List.{cons_option}
use Rattle.rc_cell.specs.Orders.{tomb_cmp}
use Rattle.rc_cell.specs.Winner.{greatest}
use Rattle.rc_position.specs.declared.positions.Pos.{Pos}
use Rattle.rc_core.specs.AtPlace.{IsAtPlace}
use Rattle.rc_core.specs.Chains.{IsChainContinuous, NewestIs, at_place}
use Rattle.rc_core.specs.Change.{gap_split}
use Rattle.rc_core.specs.Continuity.{version_tombs, with_entries}
use Rattle.rc_core.specs.SpotState.{SpotState, through, joined_state}
use Rattle.rc_core.specs.Merge.{Alike}
use Rattle.rc_core.specs.Steps.{on_version}
use Rattle.rc_core.specs.Version.{Version, state_at, state_of, static_state}
use Rattle.rc_chain.specs.laws.PlaceBeside.{beside-none}
use Rattle.rc_chain.specs.laws.Numbered.{newest-stays, replaced-beside, said-alike}
use Rattle.rc_chain.proofs.laws.a_split_version_keeps_what_is_said.Goals as goal

-- a version with an entry at a position
abbrev is_split : Pos → Version → Version
is_split x v = with_entries (gap_split x v.entries) v

-- the same states are seen alike
alike : {now before : List SpotState} → now ≡ before → Alike (through now) (through before)
alike e = (λ i. (through (e i)).flag, λ i. joined_state (through (e i)))

tombs-stay : (x : Pos) (j : ℕ) (versions : List Version) → version_tombs (on_version j (is_split x) versions) ≡ version_tombs versions
tombs-stay x j [] = refl
tombs-stay x zero (v ∷ vs) = refl
tombs-stay x (suc j) (v ∷ vs) = ap (cons_option v.pt) (tombs-stay x j vs)

pub returns : goal.returns
returns c = record {
  chain = λ below p d older newer v x parts settled k. subst (IsChainContinuous below) (sym (replaced-beside p d older newer v (is_split x) parts (c.one_version_is_changed.ensures older v newer (is_split x))))
      (c.an_eviction_keeps_the_whole_chain.ensures below (at_place p d) older newer v (is_split x v) parts (record { statics = inl refl; clustered = λ s. inl (ap state_of (c.a_split_changes_nothing.ensures s x v.entries)); head = refl }) refl
      (λ q e. newest-stays (IsAtPlace q) older newer v (is_split x v) (λ none. let u : None ≡ Some q = sym (beside-none d.updating p (settled none)) ∙ e in absurd (cc)) (subst (NewestIs (IsAtPlace q)) parts (k.ahead q e)))
      k);
  seen = λ d j x. record {
    statics = alike (said-alike static_state (is_split x) (λ v. refl) j d.versions);
    clustered = λ s. alike (said-alike (state_at s) (is_split x) (λ v. ap state_of (c.a_split_changes_nothing.ensures s x v.entries)) j d.versions);
    head = ap (greatest tomb_cmp) (tombs-stay x j d.versions);
  };
}
