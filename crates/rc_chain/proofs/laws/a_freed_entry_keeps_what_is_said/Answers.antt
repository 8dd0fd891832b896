use Rattle.std.specs.Prelude.{◌<◌, ◌++◌, ◌∷◌, length}
use Rattle.std.proofs.Common.{refl, sym, subst}
use Rattle.rc_core.specs.declared.entries.ChainKind.TheVariants.{Cache, Memtable}
use Rattle.rc_core.specs.Chains.{IsChainContinuous, IsMemtableChain, at_place}
use Rattle.rc_core.specs.Free.{free_entry}
use Rattle.rc_core.specs.Steps.{IsChain, on_version}
use Rattle.rc_units.specs.Chained.{objects_of}
use Rattle.rc_chain.specs.laws.Numbered.{replaced-beside}
use Rattle.rc_chain.proofs.laws.a_freed_entry_keeps_what_is_said.Goals as goal

pub returns : goal.returns
returns c = record {
  chain = λ below p d older newer v x parts left i b k. subst (IsChainContinuous below) (sym (replaced-beside p d older newer v (free_entry Cache x) parts (c.one_version_is_changed.ensures older v newer (free_entry Cache x))))
      (c.a_freed_object_keeps_the_whole_chain.ensures.entry below (at_place p d) older newer v x parts left i b k);
  memtable = λ p d older newer v x parts left i b k. subst IsMemtableChain (sym (replaced-beside p d older newer v (free_entry Memtable x) parts (c.one_version_is_changed.ensures older v newer (free_entry Memtable x))))
      (c.a_freed_object_keeps_the_memtables_form.ensures.entry (at_place p d) older newer v x parts left i b k);
  form = λ p d older newer v kind x parts b ch. subst IsChain (sym (replaced-beside p d older newer v (free_entry kind x) parts (c.one_version_is_changed.ensures older v newer (free_entry kind x))))
      (c.a_freed_object_leaves_a_chain.ensures.entry (at_place p d) older newer v parts ch kind x b);
  less = λ d older newer v kind x parts there. subst (λ vs. objects_of (on_version (length older) (free_entry kind x) vs) < objects_of vs) (sym parts)
      (subst (λ vs. objects_of vs < objects_of (older ++ v ∷ newer)) (sym (c.one_version_is_changed.ensures older v newer (free_entry kind x))) (c.a_freed_object_leaves_less.ensures.entry kind older newer v x there));
  said = λ kind v x s i b. c.a_freed_entry_is_said_no_more.ensures kind v x i b s;
  lost = λ v x. refl;
}
