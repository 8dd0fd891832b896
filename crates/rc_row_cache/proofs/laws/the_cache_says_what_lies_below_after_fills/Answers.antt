use Rattle.std.proofs.Common.{refl}
use Rattle.rc_row_cache.proofs.Filling.{ChainLaws}
use Rattle.rc_row_cache.proofs.Fills.{EvictionLaws, fills-both, fills-say}
use Rattle.rc_row_cache.specs.Saying.{phase_pinned}
use Rattle.rc_row_cache.proofs.laws.the_cache_says_what_lies_below_after_fills.Goals as goal

pub returns : goal.returns
returns c =
    let use_of = c.evictions_leave_the_use_of_a_chain.ensures in
    let evictions : EvictionLaws = record { kind = use_of.kind; pins = use_of.pins; phases = use_of.phases; pinned = c.evictions_spare_memtables_and_readers.ensures.pinned } in
    let chains : ChainLaws = record {
      lost = c.an_evicted_object_leaves_a_version.ensures.lost;
      phase = c.an_evicted_object_leaves_a_version.ensures.phase;
      form = c.what_was_evicted_is_seen_as_before_or_lost.ensures.form;
      updating = use_of.updating;
      count = use_of.count;
      gap_form = c.a_filled_gap_keeps_what_is_said.ensures.form;
      row_form = c.a_filled_row_keeps_what_is_said.ensures.form;
      statics_form = c.a_filled_static_row_keeps_what_is_said.ensures.form;
    } in record {
      filled = λ S schema below id pin old new h writes d fit same s says. fills-say evictions chains schema below S id pin h.number (phase_pinned h) old new h.chain h.there h.pinned h.cached refl d writes fit same s says;
      none = λ S id pin m. (0, refl);
      one = λ S id pin old new d. (1, (new, d, refl));
      both = fills-both;
    }
