use Rattle.std.proofs.Common.{is_some, sym, ap, ◌∙◌, arith}
use Rattle.lsa_region.specs.declared.end.End.TheVariants.{Obj}
use Rattle.lsa_list.specs.calls.Recency.{object_of}
use Rattle.rc_partition.proofs.Passing.{same_ref_of}
use Rattle.rc_partition.proofs.walks.owner_of_static.Goals as goal

pub named-requires : goal.named-requires
named-requires g c = let well = c.known.ensures.well in let n = c.requires.0 in let r = c.args.r in
    (omega arith, (well.ends (Obj n 3) (Obj r 2) c.requires.1, ap (λ o. is_some (object_of o)) (well.paired.mates (Obj n 3) (Obj r 2) c.requires.1)))

pub returns : goal.returns
returns g c = λ n link. same_ref_of c.named.result n (sym c.named.ensures ∙ ap object_of (c.known.ensures.well.paired.mates (Obj n 3) (Obj c.args.r 2) link))
