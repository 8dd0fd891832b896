use Rattle.std.proofs.Common.{◌≡◌, ℕ, [], Option, refl, sym, ap, ◌∙◌, subst}
use Rattle.std.specs.Prelude.{IsTrue}
use Rattle.rc_core.specs.declared.entries.ChainKind.TheVariants.{Cache}
use Rattle.rc_core.specs.Chain.{has_flag, states_at}
use Rattle.rc_cell.specs.declared.rows.Row.{Row}
use Rattle.rc_position.specs.Position.{Head}
use Rattle.rc_core.specs.Chains.{Shown, at_place, upto}
use Rattle.rc_core.specs.Continuity.{fill_statics, static_states, version_tombs}
use Rattle.rc_core.specs.SpotState.{through}
use Rattle.rc_core.specs.Steps.{MayPopulate}
use Rattle.rc_core.specs.Version.{Behind, On, Spot, state_at}
use Rattle.rc_core.specs.laws.Losing.{map-append, tombs-same}
use Rattle.rc_core.specs.laws.Units.{known_same}
use Rattle.rc_populate.specs.Filling.{on_newest_of}
use Rattle.rc_populate.proofs.Newest.{after, before, newest}
use Rattle.rc_populate.proofs.laws.a_filled_static_row_keeps_what_is_said.Goals as goal

pub returns : goal.returns
returns c = record {
  known = λ d j statics m.
      let f = fill_statics statics in let n = newest f d.versions j m.newest in
      subst (λ us. IsTrue (has_flag Cache (static_states us))) (sym (after f d.versions j m.newest)) (c.a_filled_static_row_is_known_and_keeps_continuity.ensures.known n.older n.newest statics);
  elsewhere = same;
  head = λ d j statics m.
      let f = fill_statics statics in let n = newest f d.versions j m.newest in
      ap version_tombs (after f d.versions j m.newest) ∙ tombs-same n.older [] n.newest (f n.newest) refl ∙ sym (ap version_tombs (before f d.versions j m.newest));
  kept = λ d j statics x m h. known_same _ _ x (ap through (same d j statics (On x) m)) (λ _. ap through (same d j statics (Behind x) m)) h;
  chain = λ below p d j statics m ch given k. c.a_filled_static_row_keeps_the_whole_chain.ensures.chain below (at_place p d) j m statics ch given k;
  form = λ p d j statics m ch. c.a_filled_static_row_keeps_the_whole_chain.ensures.form (at_place p d) j statics m ch;
  carried = λ p d j statics x m ch h. c.a_filled_static_row_keeps_what_is_carried.ensures (at_place p d) j m ch statics x h;
}
  where
    same : (d : Shown) (j : ℕ) (statics : Option Row) (s : Spot) → MayPopulate (at_place Head d) j → states_at s (upto (on_newest_of (fill_statics statics) d).versions j) ≡ states_at s (upto d.versions j)
    same d j statics s m =
        let f = fill_statics statics in let n = newest f d.versions j m.newest in
        ap (states_at s) (after f d.versions j m.newest) ∙ map-append (state_at s) n.older (f n.newest) [] ∙ sym (map-append (state_at s) n.older n.newest []) ∙ sym (ap (states_at s) (before f d.versions j m.newest))
