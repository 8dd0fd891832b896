use Rattle.std.proofs.Common.{◌∙◌, arith}
use Rattle.lsa_region.specs.declared.end.End.TheVariants.{Slot}
use Rattle.lsa_bench.proofs.works.hold.Goals as goal

pub link-requires : goal.link-requires
link-requires c =
    let slot = c.in_ok-slot.slot in let root = c.in_ok-slot.ensures.added in let object = c.alloc_obj-object.ensures.added in
    (omega arith, (object.ends (Slot slot) root.here, (object.own 0 (omega arith), (object.links (Slot slot) ∙ root.unset, (object.unset 0, (λ e. cc))))))
