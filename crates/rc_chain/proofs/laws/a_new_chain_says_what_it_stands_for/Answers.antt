use Rattle.std.specs.Prelude.{◌≡◌, [], ℕ, None, Option, Some}
use Rattle.std.proofs.Common.{refl}
use Rattle.rc_cell.specs.declared.writes.Tomb.{Tomb}
use Rattle.rc_position.specs.Position.{Place}
use Rattle.rc_mutation.specs.Source.{source_at_static, static_rows}
use Rattle.rc_core.specs.declared.entries.ChainKind.{ChainKind}
use Rattle.rc_core.specs.declared.entries.ChainKind.TheVariants.{Cache, Memtable}
use Rattle.rc_core.specs.declared.entries.Flag.TheVariants.{Unknown}
use Rattle.rc_core.specs.Chains.{at_place}
use Rattle.rc_core.specs.Steps.{IsChain, opened_version, new_chain, version_of}
use Rattle.rc_core.specs.laws.Losing.{joined-again}
use Rattle.rc_chain.specs.Lives.{chain_of_new}
use Rattle.rc_chain.proofs.laws.a_new_chain_says_what_it_stands_for.Goals as goal

pub returns : goal.returns
returns c = record {
  form = form;
  memtable = λ p pt phase. c.a_new_memtable_has_the_form.ensures.memtable pt phase;
  stands = λ phase. c.a_memtable_stands_for_its_writes.ensures.fresh phase;
  unknown = λ below p pt phase h. c.an_eviction_keeps_the_whole_chain.ensures below (new_chain Cache (opened_version pt (Some (source_at_static (below phase))) phase)) [] [] (opened_version pt (Some (source_at_static (below phase))) phase) (version_of Unknown pt phase)
      refl (c.each_eviction_is_one.ensures.statics (opened_version pt (Some (source_at_static (below phase))) phase)) refl (λ q e. let u : None ≡ Some q = e in absurd (cc))
      (c.an_opened_entry_is_continuous.ensures.chain pt (Some (source_at_static (below phase))) phase below h (joined-again (static_rows (below phase))));
  opened = λ below p pt statics phase h s. c.an_opened_entry_is_continuous.ensures.chain pt statics phase below h s;
}
  where
    form : (p : Place) (kind : ChainKind) (pt : Option Tomb) (phase : ℕ) → IsChain (at_place p (chain_of_new kind pt phase).chain)
    form p Memtable pt phase = c.a_new_memtable_has_the_form.ensures.form pt phase
    form p Cache pt phase = c.a_replaced_version_leaves_a_chain.ensures (new_chain Cache (opened_version pt None phase)) [] [] (opened_version pt None phase) (version_of Unknown pt phase) refl (record { ascend = tt; ends = (refl, refl) }) (c.an_opened_entry_is_continuous.ensures.form pt None phase)
