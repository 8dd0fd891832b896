use Rattle.std.proofs.Common.{ap, is_some, arith}
use Rattle.lsa_kinds.specs.declared.kind.Kind.TheVariants.{Dummy}
use Rattle.lsa_tree_tests.proofs.Furnished.{stands-added, stands-freed}
use Rattle.lsa_tree_tests.proofs.rooms.pass.Goals as goal

pub free_obj-requires : goal.free_obj-requires
free_obj-requires c = (omega arith, (ap is_some c.alloc_obj-r.ensures.added.here, c.alloc_obj-r.ensures.added.unset))

pub returns : goal.returns
returns c =
    let x = c.requires.0 in let t = c.requires.1 in let a = c.alloc_obj-r.ensures.added in let mid = c.alloc_obj-r.new.self in
    let s = stands-added c.args.region.now mid c.known.ensures.well c.alloc_obj-r.result Dummy _ a c.args._chain c.args._list _ x t.1 t.2 t.3 in
    (x, (t.0, t.1, t.2, stands-freed mid c.free_obj.new.self c.alloc_obj-r.ensures.well c.alloc_obj-r.result c.free_obj.ensures.freed a.unset c.args._chain c.args._list _ x t.1 t.2 s, t.4))
