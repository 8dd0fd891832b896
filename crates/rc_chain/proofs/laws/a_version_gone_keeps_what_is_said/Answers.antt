use Rattle.std.specs.Prelude.{◌++◌, ◌∷◌}
use Rattle.std.proofs.Common.{sym, subst}
use Rattle.rc_core.specs.Chains.{at_place}
use Rattle.rc_core.specs.StandsFor.{StandsFor}
use Rattle.rc_chain.specs.laws.Numbered.{gone-versions}
use Rattle.rc_chain.proofs.laws.a_version_gone_keeps_what_is_said.Goals as goal

pub returns : goal.returns
returns c = record {
  chain = λ below p d older newer v next parts off s t k. c.a_dropped_version_keeps_the_whole_chain.ensures.chain below (at_place p d) older newer v next parts off s t k;
  form = λ p d older newer v next parts off ch. c.a_dropped_version_keeps_the_whole_chain.ensures.form (at_place p d) older newer v next parts off ch;
  seen = λ p d older newer v next parts off s t j need. c.a_dropped_version_keeps_the_whole_chain.ensures.seen (at_place p d) older newer v next parts off s t j need;
  carried = λ p d older newer v next x parts off s t k. c.a_dropped_version_keeps_what_is_carried.ensures (at_place p d) older newer v next x parts off s t k;
  memtable = λ p d older newer v next parts off s t k. c.merging_keeps_the_memtables_form.ensures.dropped (at_place p d) older newer v next parts off s t k;
  stands = λ writes d older newer v next parts s t k. subst (StandsFor writes) (sym (gone-versions d older (next ∷ newer) v parts))
      (c.a_memtable_stands_for_its_writes.ensures.alike writes (older ++ v ∷ next ∷ newer) (older ++ next ∷ newer) (c.a_dropped_version_changes_nothing.ensures older newer v next s t) (subst (StandsFor writes) parts k));
  pins = λ d j pin. c.a_snapshots_number_stays.ensures.dropped j pin d.pins;
}
