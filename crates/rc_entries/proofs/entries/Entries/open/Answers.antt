use Rattle.std.proofs.Common.{sym, ◌∙◌}
use Rattle.rc_populate.specs.Filling.{filled_statics}
use Rattle.rc_entries.proofs.Opening.{added-index, added-is, now-entries, now-free, now-settled, room-gone, room-there}
use Rattle.rc_entries.proofs.Ways.{index-same}
use Rattle.rc_entries.proofs.entries.Entries.open.Goals as goal

pub set_number-requires-clause-there : goal.set_number-requires-clause-there
set_number-requires-clause-there g c =
    room-there c.args.self.now c.self.inside.numbers.entries c.make_room.new.numbers.entries c.make_room.new.numbers.entries c.args.key.now c.in_ok-name.name c.self.view_is c.in_ok-name.ensures c.requires.absent c.in_ok-make_room.ensures.placed

pub invariant_of-self-in-Ok : goal.invariant_of-self-in-Ok
invariant_of-self-in-Ok g c =
    let head = c.args.head.now in
    let free = now-free c.args.self.now c.self.inside.numbers.entries c.make_room.new.numbers.entries c.set_number.new.numbers.entries c.args.key.now c.in_ok-name.name c.self.view_is c.in_ok-name.ensures c.requires.absent c.in_ok-make_room.ensures.placed c.in-Ok.id c.set_number.ensures.numbers
    head.pt (filled_statics head.statics) c.args.phase c.args.chains.now c.open_entry.new.chains c.requires.entries c.in-Ok.ensures.opened c.self.inside.keys.entries c.self.invariant in
    added-index c.args.self.now c.self.inside.numbers.entries c.make_room.new.numbers.entries c.set_number.new.numbers.entries c.args.key.now c.in_ok-name.name c.self.view_is c.in_ok-name.ensures c.requires.absent c.in_ok-make_room.ensures.placed c.in-Ok.id c.set_number.ensures.numbers
    c.self.inside.keys.entries c.make_room.new.keys.entries c.set_number.new.keys.entries c.self.invariant free c.in_ok-make_room.ensures.keys c.set_number.ensures.keys

pub invariant_of-self-in-Err-1 : goal.invariant_of-self-in-Err-1
invariant_of-self-in-Err-1 g c =
    index-same c.self.inside.numbers.entries c.drop_room.new.numbers.entries c.self.inside.keys.entries c.make_room.new.keys.entries c.self.invariant
    (room-gone c.args.self.now c.self.inside.numbers.entries c.make_room.new.numbers.entries c.make_room.new.numbers.entries c.args.key.now c.in_ok-name.name c.self.view_is c.in_ok-name.ensures c.requires.absent c.in_ok-make_room.ensures.placed c.drop_room.new.numbers.entries c.drop_room.ensures ∙ sym c.self.view_is)
    c.in_ok-make_room.ensures.keys

pub returns-in-Ok-clause-added : goal.returns-in-Ok-clause-added
returns-in-Ok-clause-added g c =
    added-is c.args.self.now c.self.inside.numbers.entries c.make_room.new.numbers.entries c.set_number.new.numbers.entries c.args.key.now c.in_ok-name.name c.self.view_is c.in_ok-name.ensures c.requires.absent c.in_ok-make_room.ensures.placed c.in-Ok.id c.set_number.ensures.numbers

pub returns-in-Ok-clause-entries : goal.returns-in-Ok-clause-entries
returns-in-Ok-clause-entries g c =
    let head = c.args.head.now in
    now-entries c.args.self.now c.self.inside.numbers.entries c.make_room.new.numbers.entries c.set_number.new.numbers.entries c.args.key.now c.in_ok-name.name c.self.view_is c.in_ok-name.ensures c.requires.absent c.in_ok-make_room.ensures.placed c.in-Ok.id c.set_number.ensures.numbers
    head.pt (filled_statics head.statics) c.args.phase c.args.chains.now c.open_entry.new.chains c.requires.entries c.in-Ok.ensures.opened c.in_ok-make_room.ensures.ascend c.set_number.new.keys.entries (invariant_of-self-in-Ok g c)

pub returns-in-Ok-clause-settled : goal.returns-in-Ok-clause-settled
returns-in-Ok-clause-settled g c =
    let head = c.args.head.now in
    now-settled c.args.self.now c.self.inside.numbers.entries c.make_room.new.numbers.entries c.set_number.new.numbers.entries c.args.key.now c.in_ok-name.name c.self.view_is c.in_ok-name.ensures c.requires.absent c.in_ok-make_room.ensures.placed c.in-Ok.id c.set_number.ensures.numbers
    head.pt (filled_statics head.statics) c.args.phase c.args.chains.now c.open_entry.new.chains c.requires.entries c.in-Ok.ensures.opened

pub returns-in-Err-clause-same : goal.returns-in-Err-clause-same
returns-in-Err-clause-same g c =
    room-gone c.args.self.now c.self.inside.numbers.entries c.make_room.new.numbers.entries c.make_room.new.numbers.entries c.args.key.now c.in_ok-name.name c.self.view_is c.in_ok-name.ensures c.requires.absent c.in_ok-make_room.ensures.placed c.drop_room.new.numbers.entries c.drop_room.ensures
