use Rattle.std.proofs.Common.{[], refl, sym, ap, ◌∙◌, subst}
use Rattle.rc_core.specs.declared.entries.ChainKind.TheVariants.{Cache}
use Rattle.rc_core.specs.Chain.{IsKnown, states_at}
use Rattle.rc_core.specs.Chains.{at_place}
use Rattle.rc_core.specs.Continuity.{static_states, version_tombs}
use Rattle.rc_core.specs.SpotState.{through}
use Rattle.rc_core.specs.Steps.{gap_filled, on_newest}
use Rattle.rc_core.specs.Version.{Behind, On, static_state}
use Rattle.rc_core.specs.laws.Losing.{map-append, tombs-same}
use Rattle.rc_core.specs.laws.Spots.{gap-reached, position-reached}
use Rattle.rc_position.specs.Position.{Head}
use Rattle.rc_populate.proofs.Newest.{after, all-after, all-before, before, carried-of, is-version, known-of, newest}
use Rattle.rc_populate.proofs.laws.a_filled_gap_keeps_what_is_said.Goals as goal

pub returns : goal.returns
returns c = record {
  known = λ d j from to tomb x m vs in_gap.
      let f = gap_filled from to tomb in let n = newest f d.versions j m.newest in
      subst (λ us. IsKnown Cache us x) (sym (after f d.versions j m.newest)) (c.a_filled_gap_is_seen_as_known.ensures.inside n.older n.newest from to tomb (is-version f d.versions j m.newest vs) x in_gap);
  elsewhere = λ d j from to tomb x m vs off.
      let f = gap_filled from to tomb in let n = newest f d.versions j m.newest in let i = is-version f d.versions j m.newest vs in
      ap (λ us. through (states_at (On x) us)) (after f d.versions j m.newest)
      ∙ c.a_filled_gap_is_seen_as_known.ensures.outside n.older n.newest from to tomb i (On x) (position-reached x n.newest.entries i.ends) off
      ∙ sym (ap (λ us. through (states_at (On x) us)) (before f d.versions j m.newest));
  gaps = λ d j from to tomb x m vs b off.
      let f = gap_filled from to tomb in let n = newest f d.versions j m.newest in let i = is-version f d.versions j m.newest vs in
      ap (λ us. through (states_at (Behind x) us)) (after f d.versions j m.newest)
      ∙ c.a_filled_gap_is_seen_as_known.ensures.outside n.older n.newest from to tomb i (Behind x) (gap-reached x n.newest.entries i.ends b) off
      ∙ sym (ap (λ us. through (states_at (Behind x) us)) (before f d.versions j m.newest));
  head = λ d j from to tomb m.
      let f = gap_filled from to tomb in let n = newest f d.versions j m.newest in (
        ap version_tombs (after f d.versions j m.newest) ∙ tombs-same n.older [] n.newest (f n.newest) refl ∙ sym (ap version_tombs (before f d.versions j m.newest)),
        ap static_states (after f d.versions j m.newest) ∙ map-append static_state n.older (f n.newest) [] ∙ sym (map-append static_state n.older n.newest []) ∙ sym (ap static_states (before f d.versions j m.newest)),
      );
  kept = λ d j from to tomb x m ch h.
      let f = gap_filled from to tomb in
      subst (λ us. IsKnown Cache us x) (sym (all-after f d.versions j m.newest))
      (known-of (at_place Head d).updating (on_newest f d.versions) x m.settled
      (c.a_filled_gap_is_carried.ensures.kept (at_place Head d) j m ch from to tomb x
      (carried-of (at_place Head d).updating d.versions x m.settled (subst (λ us. IsKnown Cache us x) (all-before f d.versions j m.newest) h))));
  chain = λ below p d j from to tomb m ch given k. c.a_filled_gap_keeps_the_whole_chain.ensures.chain below (at_place p d) j m from to tomb ch given k;
  form = λ p d j from to tomb m ch. c.a_filled_gap_keeps_the_whole_chain.ensures.form (at_place p d) j from to tomb m ch;
  carried = λ p d j from to tomb x m ch h. c.a_filled_gap_is_carried.ensures.kept (at_place p d) j m ch from to tomb x h;
}
