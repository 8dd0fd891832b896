use Rattle.std.proofs.Common.{◌<◌, ◌∙◌, arith}
use Rattle.lsa_kinds.specs.Kinds.{links_of}
use Rattle.lsa_region.specs.declared.end.End.TheVariants.{Obj}
use Rattle.lsa_region.specs.calls.Moves.{view_in}
use Rattle.lsa_region.proofs.Movers.{carry-init, carry-step, linked-there, links-apart}
use Rattle.lsa_region.proofs.Regions.{well-exchange}
use Rattle.lsa_region.proofs.mover.carry_links.Goals as goal

pub loop-field-init : goal.loop-field-init
loop-field-init g c = record { carried = carry-init c.args.r c.args.q c.requires.differ (view_in c.args.store.now c.args.roots.now); well = c.requires.well }

pub carry_link-requires : goal.carry_link-requires
carry_link-requires g c =
    let w = c.loop-field.invariant in let old = c.args.store.now.cells in let now = c.loop-field.store.cells in let r = c.args.r in let q = c.args.q in let field = c.loop-field.field in
    let lt : field < links_of c.kind.result = omega (arith, c.loop-field-test.true, c.links-fields.ensures) in (
      omega arith,
      (
        linked-there old now r r c.kind.result field (w.carried.shape.bodies r) c.kind.ensures lt,
        (linked-there old now r q c.kind.result field (w.carried.shape.bodies q ∙ c.requires.alike) c.kind.ensures lt, (c.requires.differ, w.well)),
      ),
    )

pub loop-field-preserved : goal.loop-field-preserved
loop-field-preserved g c =
    let w = c.loop-field.invariant in let old = c.args.store.now.cells in let now = c.loop-field.store.cells in let r = c.args.r in let q = c.args.q in let field = c.loop-field.field in
    let lt : field < links_of c.kind.result = omega (arith, c.loop-field-test.true, c.links-fields.ensures) in
    let mid = view_in c.loop-field.store c.loop-field.roots in let new = view_in c.carry_link.new.store c.carry_link.new.roots in let e = c.carry_link.ensures in
    let first = linked-there old now r r c.kind.result field (w.carried.shape.bodies r) c.kind.ensures lt in
    let second = linked-there old now r q c.kind.result field (w.carried.shape.bodies q ∙ c.requires.alike) c.kind.ensures lt in record {
      carried = carry-step r q c.requires.differ (view_in c.args.store.now c.args.roots.now) mid new field w.carried e.exchanged e.shape e.usages e.ends e.back e.slots;
      well = well-exchange mid new w.well e.ends (Obj r field) (Obj q field) e.exchanged (links-apart r q field c.requires.differ) first second;
    }
