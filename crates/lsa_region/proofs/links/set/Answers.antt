use Rattle.std.proofs.Common.{subst, sym}
use Rattle.lsa_store.specs.Cells.{with_link}
use Rattle.lsa_store.specs.Objects.{IsChangedIn}
use Rattle.lsa_region.specs.declared.end.End.TheVariants.{Slot}
use Rattle.lsa_region.specs.calls.Ends.{IsSetIn}
use Rattle.lsa_region.proofs.Codes.{codable-some}
use Rattle.lsa_region.proofs.Sets.{set-field, set-root}
use Rattle.lsa_region.proofs.links.set.Goals as goal

pub code-requires : goal.code-requires
code-requires g c = codable-some g.row.S c.args.store.now c.args.roots.now c.args.named c.known.ensures c.known-2.ensures c.requires.named

pub returns-in-Obj-clause-set : goal.returns-in-Obj-clause-set
returns-in-Obj-clause-set g c =
    let linked = rw c.in-Obj.is at c.requires.end in
    let coded = codable-some g.row.S c.args.store.now c.args.roots.now c.args.named c.known.ensures c.known-2.ensures c.requires.named in
    let changed = subst (λ k. IsChangedIn c.args.store.now.cells c.set_word.new.self.cells c.in-Obj.object (with_link c.in-Obj.field k)) c.code.ensures c.set_word.ensures.changed in
    rw c.in-Obj.is (set-field g.row.S c.args.store.now c.known.ensures c.set_word.new.self.cells c.args.roots.now c.in-Obj.object c.in-Obj.field c.args.named coded linked changed)

pub returns-in-Slot-clause-set : goal.returns-in-Slot-clause-set
returns-in-Slot-clause-set g c =
    let has = rw c.in-Slot.is at c.requires.end in
    rw c.in-Slot.is (subst (λ l. IsSetIn c.args.store.now.cells c.args.roots.now c.args.store.now.cells l (Slot c.in-Slot.root) c.args.named) (sym c.set.ensures)
    (set-root c.args.store.now.cells c.args.roots.now c.in-Slot.root c.args.named has))
