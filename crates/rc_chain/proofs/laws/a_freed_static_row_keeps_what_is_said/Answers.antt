use Rattle.std.specs.Prelude.{◌<◌, ◌++◌, ◌∷◌, length}
use Rattle.std.proofs.Common.{refl, sym, subst}
use Rattle.rc_core.specs.declared.entries.ChainKind.TheVariants.{Cache, Memtable}
use Rattle.rc_core.specs.Chains.{IsChainContinuous, IsMemtableChain, at_place}
use Rattle.rc_core.specs.Free.{free_statics}
use Rattle.rc_core.specs.Steps.{IsChain, on_version}
use Rattle.rc_units.specs.Chained.{objects_of}
use Rattle.rc_chain.specs.laws.Numbered.{replaced-beside}
use Rattle.rc_chain.proofs.laws.a_freed_static_row_keeps_what_is_said.Goals as goal

pub returns : goal.returns
returns c = record {
  chain = λ below p d older newer v parts left k. subst (IsChainContinuous below) (sym (replaced-beside p d older newer v (free_statics Cache) parts (c.one_version_is_changed.ensures older v newer (free_statics Cache))))
      (c.a_freed_object_keeps_the_whole_chain.ensures.statics below (at_place p d) older newer v parts left k);
  memtable = λ p d older newer v parts left k. subst IsMemtableChain (sym (replaced-beside p d older newer v (free_statics Memtable) parts (c.one_version_is_changed.ensures older v newer (free_statics Memtable))))
      (c.a_freed_object_keeps_the_memtables_form.ensures.statics (at_place p d) older newer v parts left k);
  form = λ p d older newer v kind parts ch. subst IsChain (sym (replaced-beside p d older newer v (free_statics kind) parts (c.one_version_is_changed.ensures older v newer (free_statics kind))))
      (c.a_freed_object_leaves_a_chain.ensures.statics (at_place p d) older newer v parts ch kind);
  less = λ d older newer v kind parts some. subst (λ vs. objects_of (on_version (length older) (free_statics kind) vs) < objects_of vs) (sym parts)
      (subst (λ vs. objects_of vs < objects_of (older ++ v ∷ newer)) (sym (c.one_version_is_changed.ensures older v newer (free_statics kind))) (c.a_freed_object_leaves_less.ensures.statics kind older newer v some));
  lost = λ v. refl;
}
