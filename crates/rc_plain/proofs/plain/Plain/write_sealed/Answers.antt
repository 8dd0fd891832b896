-- The parts of the sealed writes fit a table, and the number is no file's; then they stand in it.
use Rattle.std.proofs.Common.{inl, All, List, refl, sym, subst}
use Rattle.rc_mutation.specs.declared.mutations.Partition.{Partition}
use Rattle.rc_mutation.specs.Source.{IsMutation}
use Rattle.rc_tfile.specs.TableText.{PartsFit}
use Rattle.rc_lines.specs.declared.commands.Reply.TheVariants as replies
use Rattle.rc_machine.specs.State.{State}
use Rattle.rc_folder.specs.Tabled.{IsTableAdded}
use Rattle.rc_plain.specs.Stands.{Keeping, PlainStands}
use Rattle.rc_plain.specs.calls.Storing.{folder_of, IsTableKept, IsFlushKept}
use Rattle.rc_plain.proofs.Tabled.{no_file, parts_of_sealed}
use Rattle.rc_plain.proofs.plain.Plain.write_sealed.Goals as goal

pub add-requires-clause-fit : goal.add-requires-clause-fit
add-requires-clause-fit g c =
    subst (λ (parts : List Partition). PartsFit c.self.inside.folder.schema parts) (sym c.as_slice.ensures.value)
    (parts_of_sealed (g.W.Store.files c.args.store.now) _ c.in_ok-parts.parts.items (subst (λ (k : Keeping). (m : State) × PlainStands (g.W.Store.files c.args.store.now) k m) (sym c.self.view_is) c.requires.stands) c.in_ok-parts.ensures)

pub add-requires-clause-mutations : goal.add-requires-clause-mutations
add-requires-clause-mutations g c = subst (λ (parts : List Partition). All (λ p. IsMutation p.change) parts) (sym c.as_slice.ensures.value) c.in_ok-parts.ensures.mutations

pub add-requires-clause-fresh : goal.add-requires-clause-fresh
add-requires-clause-fresh g c = no_file (g.W.Store.files c.args.store.now) c.args.self.now c.args.number c.requires.stands c.requires.number

pub returns-in-Ok-clause-written : goal.returns-in-Ok-clause-written
returns-in-Ok-clause-written g c =
    let kept : Keeping = record { schema = c.self.inside.folder.schema; infos = c.self.inside.folder.infos; sealed = c.self.inside.sealed; active = c.self.inside.active; readers = c.self.inside.readers.items; segments = c.self.inside.segments; answered = c.self.inside.answered; asked = c.self.inside.asked } in
    let new : Keeping = record { schema = c.add.new.self.schema; infos = c.add.new.self.infos; sealed = c.new.result; active = c.self.inside.active; readers = c.self.inside.readers.items; segments = c.self.inside.segments; answered = c.self.inside.answered; asked = c.self.inside.asked } in
    let parts : List Partition = c.in_ok-parts.parts.items in
    let added : IsTableAdded (g.W.Store.files c.args.store.now) (folder_of kept) c.args.number parts (g.W.Store.files c.add.new.store) (folder_of new) =
    subst (λ (parts : List Partition). IsTableAdded (g.W.Store.files c.args.store.now) (folder_of kept) c.args.number parts (g.W.Store.files c.add.new.store) (folder_of new)) c.as_slice.ensures.value c.in-Ok.ensures.added in
    let stored : IsTableKept (g.W.Store.files c.args.store.now) kept c.args.number (g.W.Store.files c.add.new.store) new = record {
      parts = parts;
      of_writes = c.in_ok-parts.ensures;
      added = added;
      keeps = λ i. record { schema = (added.keeps i).schema; infos = c.add.new.self.infos; sealed = c.new.ensures i; active = c.self.inside.active; readers = c.self.inside.readers.items; segments = c.self.inside.segments; answered = c.self.inside.answered; asked = c.self.inside.asked };
    } in
    subst (λ (k : Keeping). IsFlushKept (g.W.Store.files c.args.store.now) k c.args.number (g.W.Store.files c.add.new.store) new replies.Fine) c.self.view_is (inl (refl, stored))
