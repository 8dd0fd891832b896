use Rattle.std.proofs.Common.{[], refl, sym, ap, ◌∙◌, subst}
use Rattle.rc_core.specs.declared.entries.ChainKind.TheVariants.{Cache}
use Rattle.rc_core.specs.Chain.{IsKnown, states_at}
use Rattle.rc_core.specs.Chains.{at_place}
use Rattle.rc_core.specs.Continuity.{static_states, version_tombs}
use Rattle.rc_core.specs.SpotState.{through}
use Rattle.rc_core.specs.Steps.{on_newest, row_filled}
use Rattle.rc_core.specs.Version.{static_state}
use Rattle.rc_core.specs.laws.Losing.{map-append, tombs-same}
use Rattle.rc_position.specs.Position.{Head}
use Rattle.rc_populate.proofs.Newest.{after, all-after, all-before, before, carried-of, is-version, known-of, newest}
use Rattle.rc_populate.proofs.laws.a_filled_row_keeps_what_is_said.Goals as goal

pub returns : goal.returns
returns c = record {
  known = λ below d j x row tomb m ch given some k.
      let f = row_filled x row tomb in
      subst (λ us. IsKnown Cache us x) (sym (all-after f d.versions j m.newest))
      (known-of (at_place Head d).updating (on_newest f d.versions) x m.settled (c.a_filled_row_is_carried.ensures.filled (at_place Head d) j m ch below x row tomb given some k));
  elsewhere = λ d j x row tomb s m vs off.
      let f = row_filled x row tomb in let n = newest f d.versions j m.newest in
      ap (λ us. through (states_at s us)) (after f d.versions j m.newest)
      ∙ c.a_filled_row_is_seen_as_known.ensures.elsewhere n.older n.newest x row tomb (is-version f d.versions j m.newest vs) s off
      ∙ sym (ap (λ us. through (states_at s us)) (before f d.versions j m.newest));
  head = λ d j x row tomb m.
      let f = row_filled x row tomb in let n = newest f d.versions j m.newest in (
        ap version_tombs (after f d.versions j m.newest) ∙ tombs-same n.older [] n.newest (f n.newest) refl ∙ sym (ap version_tombs (before f d.versions j m.newest)),
        ap static_states (after f d.versions j m.newest) ∙ map-append static_state n.older (f n.newest) [] ∙ sym (map-append static_state n.older n.newest []) ∙ sym (ap static_states (before f d.versions j m.newest)),
      );
  kept = λ below d j x row tomb m ch given some k y h.
      let f = row_filled x row tomb in
      subst (λ us. IsKnown Cache us y) (sym (all-after f d.versions j m.newest))
      (known-of (at_place Head d).updating (on_newest f d.versions) y m.settled
      (c.a_filled_row_is_carried.ensures.kept (at_place Head d) j m ch below x row tomb given some k y
      (carried-of (at_place Head d).updating d.versions y m.settled (subst (λ us. IsKnown Cache us y) (all-before f d.versions j m.newest) h))));
  chain = λ below p d j x row tomb m ch given some k. c.a_filled_row_keeps_the_whole_chain.ensures.chain below (at_place p d) j m x row tomb ch given some k;
  form = λ p d j x row tomb m b ch. c.a_filled_row_keeps_the_whole_chain.ensures.form (at_place p d) j x row tomb m b ch;
  carried = λ below p d j x row tomb m ch given some k y h. c.a_filled_row_is_carried.ensures.kept (at_place p d) j m ch below x row tomb given some k y h;
}
