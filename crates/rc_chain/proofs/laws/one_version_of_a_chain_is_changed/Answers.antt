use Rattle.std.specs.Prelude.{ℕ}
use Rattle.std.proofs.Common.{ap, sym, subst, ⊎_elim}
use Rattle.rc_position.specs.Position.{Place}
use Rattle.rc_core.specs.Chains.{Shown, at_place, with_versions}
use Rattle.rc_core.specs.Continuity.{EachOf}
use Rattle.rc_core.specs.Steps.{IsChain}
use Rattle.rc_core.specs.Version.{IsVersion, Version}
use Rattle.rc_core.specs.laws.Losing.{each-one}
use Rattle.rc_memory.specs.Memory.{on_version_of}
use Rattle.rc_chain.specs.laws.Numbered.{version-or-none, on-newest, replaced-beside}
use Rattle.rc_chain.proofs.laws.one_version_of_a_chain_is_changed.Goals as goal

pub returns : goal.returns
returns c = record {
  replaced = λ p d older newer v f parts. replaced-beside p d older newer v f parts (c.one_version_is_changed.ensures older v newer f);
  form = form;
  newest = λ p d j f e keep ch. (ap (λ vs. with_versions vs (at_place p d)) (on-newest j f d.versions e), c.what_leaves_a_chain.ensures.newest (at_place p d) j f e keep ch);
}
  where
    form : (p : Place) (d : Shown) (j : ℕ) (f : Version → Version) → ((v : Version) → IsVersion v → IsVersion (f v)) → IsChain (at_place p d) → IsChain (at_place p (on_version_of j f d))
    form p d j f keep ch = ⊎_elim
        (λ k. let v = k.0 in let at = k.1 in subst (λ n. IsChain (at_place p (on_version_of n f d))) at.number
        (subst IsChain (sym (replaced-beside p d at.older at.newer v f at.split (c.one_version_is_changed.ensures at.older v at.newer f)))
        (c.a_replaced_version_leaves_a_chain.ensures (at_place p d) at.older at.newer v (f v) at.split (keep v (each-one IsVersion at.older at.newer v (subst (EachOf IsVersion) at.split ch.versions))) ch)))
        (λ h. subst (λ vs. IsChain (with_versions vs (at_place p d))) (sym (h f)) ch)
        (version-or-none j d.versions)
