use Rattle.std.proofs.Common.{◌≡◌, ◌<◌, None, arith}
use Rattle.lsa_kinds.specs.declared.kind.Kind.TheVariants.{Version}
use Rattle.lsa_region.specs.declared.end.End.TheVariants.{Obj}
use Rattle.lsa_region.specs.Region.{body, link_of}
use Rattle.lsa_tree_tests.proofs.Furnished.{kind-end, kind_there, all-unset, four, stands-freed}
use Rattle.lsa_tree_tests.proofs.rooms.free_version.Goals as goal

pub is_unset-requires : goal.is_unset-requires
is_unset-requires c = kind-end c.args.region.now c.args.r Version 2 c.requires.version (omega arith)

pub is_unset-requires-2 : goal.is_unset-requires-2
is_unset-requires-2 c = kind-end c.args.region.now c.args.r Version 3 c.requires.version (omega arith)

pub free_obj-requires : goal.free_obj-requires
free_obj-requires c = let v = c.args.region.now in let r = c.args.r in let q = c.requires in
    (omega arith, (kind_there (body v r) Version q.version, all-unset v c.known.ensures.well r Version q.version (four (λ f. link_of v (Obj r f) ≡ None) q.older q.newer (c.is_unset.ensures c.if-not-is_unset.false) (c.is_unset-2.ensures c.if-not-is_unset-2.false))))

pub returns : goal.returns
returns c = λ chain slots versions top entries listed s. let v = c.args.region.now in let r = c.args.r in let q = c.requires in
    stands-freed v c.free_obj.new.self c.known.ensures.well r c.free_obj.ensures.freed (all-unset v c.known.ensures.well r Version q.version (four (λ f. link_of v (Obj r f) ≡ None) q.older q.newer (c.is_unset.ensures c.if-not-is_unset.false) (c.is_unset-2.ensures c.if-not-is_unset-2.false)))
    chain slots versions top entries listed s
