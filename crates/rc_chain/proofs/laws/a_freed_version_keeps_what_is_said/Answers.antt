use Rattle.std.specs.Prelude.{◌<◌, ◌++◌, ◌∷◌, length}
use Rattle.std.proofs.Common.{sym, subst}
use Rattle.rc_core.specs.Chains.{IsChainContinuous, IsMemtableChain, at_place}
use Rattle.rc_core.specs.Steps.{IsChain, all_but}
use Rattle.rc_units.specs.Chained.{objects_of}
use Rattle.rc_core.specs.laws.Merged.{all_but-parts}
use Rattle.rc_chain.specs.laws.Numbered.{gone-same}
use Rattle.rc_chain.proofs.laws.a_freed_version_keeps_what_is_said.Goals as goal

pub returns : goal.returns
returns c = record {
  same = gone-same;
  chain = λ below p d older newer v parts left k. subst (IsChainContinuous below) (sym (gone-same p d older newer v parts left)) (c.a_freed_object_keeps_the_whole_chain.ensures.version below (at_place p d) older newer v parts left k);
  memtable = λ p d older newer v parts left k. subst IsMemtableChain (sym (gone-same p d older newer v parts left)) (c.a_freed_object_keeps_the_memtables_form.ensures.version (at_place p d) older newer v parts left k);
  form = λ p d older newer v parts left ch. subst IsChain (sym (gone-same p d older newer v parts left)) (c.a_freed_object_leaves_a_chain.ensures.version (at_place p d) older newer v parts ch left);
  less = λ d older newer v parts i. subst (λ vs. objects_of (all_but (length older) vs) < objects_of vs) (sym parts)
      (subst (λ vs. objects_of vs < objects_of (older ++ v ∷ newer)) (sym (all_but-parts older newer v)) (c.a_freed_object_leaves_less.ensures.version older newer v i));
}
