use Rattle.std.proofs.Common.{◌≡◌, sym, ap, ◌∙◌, arith}
use Rattle.lsa_region.specs.declared.end.End.TheVariants.{Obj}
use Rattle.lsa_region.specs.Region.{body}
use Rattle.lsa_bench.proofs.ties.change_links.Goals as goal

pub change_often-requires : goal.change_often-requires
change_often-requires c =
    let first = c.alloc_obj-first.result in let second = c.alloc_obj-second.result in let one = c.alloc_obj-first.ensures.added in let two = c.alloc_obj-second.ensures.added in record {
      first = two.ends (Obj first 0) (one.own 0 (omega arith));
      second = two.own 0 (omega arith);
      first_unset = two.links (Obj first 0) ∙ one.unset 0;
      second_unset = two.unset 0;
      differ = λ e. let same : first ≡ second = cc in let clash = sym one.here ∙ ap (body c.alloc_obj-first.new.self) same ∙ two.fresh in cc;
    }
