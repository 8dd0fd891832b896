use Rattle.std.proofs.Common.{◌∙◌, arith}
use Rattle.lsa_region.specs.declared.end.End.TheVariants.{Slot}
use Rattle.lsa_tree_tests.proofs.Walks.{home-made}
use Rattle.lsa_tree_tests.proofs.tree.empty.Goals as goal

pub link-requires : goal.link-requires
link-requires c = let added = c.alloc_obj-version.ensures.added in let slot = Slot c.args.slot in
    (omega arith, (added.ends slot c.requires.there, (added.own 1 (omega arith), (added.links slot ∙ c.requires.unset, (added.unset 1, (λ e. cc))))))

pub invariant_of-result : goal.invariant_of-result
invariant_of-result c = home-made c.args.slot c.args.region c.alloc_obj-version.new.self c.link.new.self c.alloc_obj-version.result _ c.alloc_obj-version.ensures.added c.link.ensures.tied c.link.ensures.objects.bodies
