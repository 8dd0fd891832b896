use Rattle.std.proofs.Common.{◌≡◌, None, arith}
use Rattle.lsa_kinds.specs.declared.kind.Kind.TheVariants.{Dummy}
use Rattle.lsa_region.specs.declared.end.End.TheVariants.{Obj}
use Rattle.lsa_region.specs.Region.{body, link_of}
use Rattle.lsa_tree_tests.proofs.Furnished.{kind-end, kind_there, all-unset, five, stands-freed}
use Rattle.lsa_tree_tests.proofs.rooms.free_entry.Goals as goal

pub is_unset-requires : goal.is_unset-requires
is_unset-requires c = kind-end c.args.region.now c.args.r Dummy 2 c.requires.dummy (omega arith)

pub free_obj-requires : goal.free_obj-requires
free_obj-requires c = let v = c.args.region.now in let r = c.args.r in let q = c.requires in
    (omega arith, (kind_there (body v r) Dummy q.dummy, all-unset v c.known.ensures.well r Dummy q.dummy (five (λ f. link_of v (Obj r f) ≡ None) q.less q.more (c.is_unset.ensures c.if-not-is_unset.false) q.left q.right)))

pub returns : goal.returns
returns c = λ chain slots versions top entries listed s. let v = c.args.region.now in let r = c.args.r in let q = c.requires in
    stands-freed v c.free_obj.new.self c.known.ensures.well r c.free_obj.ensures.freed (all-unset v c.known.ensures.well r Dummy q.dummy (five (λ f. link_of v (Obj r f) ≡ None) q.less q.more (c.is_unset.ensures c.if-not-is_unset.false) q.left q.right))
    chain slots versions top entries listed s
