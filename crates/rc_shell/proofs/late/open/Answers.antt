-- The machine is opened, or a table is bad.
use Rattle.std.proofs.Common.{inl, ◌++◌, ◌∙◌, ap, subst, Some, None}
use Rattle.rc_lines.specs.declared.commands.Reply.TheVariants.{Fine}
use Rattle.rc_lines.specs.Texts.{reply_text}
use Rattle.rc_outside.specs.Faults.{Rose}
use Rattle.rc_folder.specs.Opening.{IsOpeningRefused, OnOpenFault}
use Rattle.rc_shell.proofs.Staged.{bad_answered, fault_answered, free_closes, left_waiting, open_closes, opened_answered}
use Rattle.rc_shell.proofs.late.open.Goals as goal

pub close-requires : goal.close-requires
close-requires g c = (g.W.Store.files c.open.new.store, _, c.in-Ok.ensures.stands.4)

pub returns-in-Ok-print_reply-clause-answered : goal.returns-in-Ok-print_reply-clause-answered
returns-in-Ok-print_reply-clause-answered g c = λ old line s p.
    opened_answered g.M.Machine.stands g.M.Machine.figures g.M.Machine.folder g.met.M.Machine.over c.args.segments (g.W.Store.files c.args.store.now, g.W.Store.faults c.args.store.now, g.W.Store.asks c.args.store.now) (g.W.Store.files c.open.new.store, g.W.Store.faults c.open.new.store, g.W.Store.asks c.open.new.store) old c.args.schema c.put.new.place c.in-Ok.machine
    c.in-Ok.ensures.stands.0 c.in-Ok.ensures.stands.1 line c.args.text.now.items c.print_reply.new.out.items c.put.ensures s p c.in-Ok.ensures.stands.2 c.in-Ok.ensures.stands.3 c.in-Ok.ensures.stands.4 c.in-Ok.ensures.figures c.in-Ok.ensures.faults.0 c.in-Ok.ensures.asks
    (c.in-Ok-print_reply.ensures.ok ∙ ap (λ z. c.args.text.now.items ++ reply_text z Fine) c.schema.ensures)

pub returns-in-Ok-print_reply-clause-closes : goal.returns-in-Ok-print_reply-clause-closes
returns-in-Ok-print_reply-clause-closes g c = open_closes g.M.Machine.stands g.M.Machine.figures (g.W.Store.files c.open.new.store) c.put.new.place c.in-Ok.machine _ c.put.ensures c.in-Ok.ensures.stands.4

pub returns-in-Err-clause-answered : goal.returns-in-Err-clause-answered
returns-in-Err-clause-answered g c = λ old line s p.
    inl (left_waiting c.args.segments (g.W.Store.files c.args.store.now, g.W.Store.faults c.args.store.now, g.W.Store.asks c.args.store.now) (g.W.Store.files c.open.new.store, g.W.Store.faults c.open.new.store, g.W.Store.asks c.open.new.store) old s c.in-Ok.ensures.store.0 c.in-Ok.ensures.faults.0 c.in-Ok.ensures.asks)

pub returns-in_ok-print_damaged-in-Err-Damaged-clause-answered : goal.returns-in_ok-print_damaged-in-Err-Damaged-clause-answered
returns-in_ok-print_damaged-in-Err-Damaged-clause-answered g c = λ old line s p.
    bad_answered c.args.segments (g.W.Store.files c.args.store.now, g.W.Store.faults c.args.store.now, g.W.Store.asks c.args.store.now) (g.W.Store.files c.open.new.store, g.W.Store.faults c.open.new.store, g.W.Store.asks c.open.new.store) old c.args.schema (λ m. ⊥)
    c.in-Err-Damaged.table (Some c.in-Err-Damaged.offset) line c.args.text.now.items c.print_damaged.new.text.items s p c.in-Err-Damaged.ensures.store.0 (subst (λ e. IsOpeningRefused (g.W.Store.files c.args.store.now) c.args.schema e) c.in-Err-Damaged.field-0-is c.in-Err-Damaged.ensures.refused) c.in-Err-Damaged.ensures.faults.0 c.in-Err-Damaged.ensures.asks
    (rw c.in-Err-Damaged.field-0-is at c.in_ok-print_damaged-in-Err-Damaged.ensures)

pub returns-in_ok-print_other_schema-in-Err-OtherSchema-clause-answered : goal.returns-in_ok-print_other_schema-in-Err-OtherSchema-clause-answered
returns-in_ok-print_other_schema-in-Err-OtherSchema-clause-answered g c = λ old line s p.
    bad_answered c.args.segments (g.W.Store.files c.args.store.now, g.W.Store.faults c.args.store.now, g.W.Store.asks c.args.store.now) (g.W.Store.files c.open.new.store, g.W.Store.faults c.open.new.store, g.W.Store.asks c.open.new.store) old c.args.schema (λ m. ⊥)
    c.in-Err-OtherSchema.table None line c.args.text.now.items c.print_other_schema.new.text.items s p c.in-Err-OtherSchema.ensures.store.0 (subst (λ e. IsOpeningRefused (g.W.Store.files c.args.store.now) c.args.schema e) c.in-Err-OtherSchema.field-0-is c.in-Err-OtherSchema.ensures.refused) c.in-Err-OtherSchema.ensures.faults.0 c.in-Err-OtherSchema.ensures.asks
    (rw c.in-Err-OtherSchema.field-0-is at c.in_ok-print_other_schema-in-Err-OtherSchema.ensures)

pub returns-in_ok-extend_from_slice-in-Err-Fault-clause-answered : goal.returns-in_ok-extend_from_slice-in-Err-Fault-clause-answered
returns-in_ok-extend_from_slice-in-Err-Fault-clause-answered g c = λ old line s p.
    fault_answered c.args.segments (g.W.Store.files c.args.store.now, g.W.Store.faults c.args.store.now, g.W.Store.asks c.args.store.now) (g.W.Store.files c.open.new.store, g.W.Store.faults c.open.new.store, g.W.Store.asks c.open.new.store) old c.args.schema (λ m. ⊥)
    line c.args.text.now.items c.extend_from_slice.new.self.items s p c.in-Err-Fault.ensures.store.0
    (subst (λ e. OnOpenFault e (Rose (g.W.Store.faults c.args.store.now) (g.W.Store.faults c.open.new.store))) c.in-Err-Fault.field-0-is c.in-Err-Fault.ensures.faults.1) c.in-Err-Fault.ensures.faults.0 c.in-Err-Fault.ensures.asks
    c.in_ok-extend_from_slice-in-Err-Fault.ensures.items

pub returns-in_err-print_damaged-in-Err-Damaged-clause-closes : goal.returns-in_err-print_damaged-in-Err-Damaged-clause-closes
returns-in_err-print_damaged-in-Err-Damaged-clause-closes g c = free_closes g.M.Machine.stands g.M.Machine.figures c.args.place.now c.requires.free

pub returns-in_err-print_other_schema-in-Err-OtherSchema-clause-closes : goal.returns-in_err-print_other_schema-in-Err-OtherSchema-clause-closes
returns-in_err-print_other_schema-in-Err-OtherSchema-clause-closes g c = free_closes g.M.Machine.stands g.M.Machine.figures c.args.place.now c.requires.free

pub returns-in_err-extend_from_slice-in-Err-Fault-clause-closes : goal.returns-in_err-extend_from_slice-in-Err-Fault-clause-closes
returns-in_err-extend_from_slice-in-Err-Fault-clause-closes g c = free_closes g.M.Machine.stands g.M.Machine.figures c.args.place.now c.requires.free

pub returns-in-Err-clause-closes : goal.returns-in-Err-clause-closes
returns-in-Err-clause-closes g c = free_closes g.M.Machine.stands g.M.Machine.figures c.args.place.now c.requires.free

pub returns-in_ok-print_damaged-in-Err-Damaged-clause-closes : goal.returns-in_ok-print_damaged-in-Err-Damaged-clause-closes
returns-in_ok-print_damaged-in-Err-Damaged-clause-closes g c = free_closes g.M.Machine.stands g.M.Machine.figures c.args.place.now c.requires.free

pub returns-in_ok-print_other_schema-in-Err-OtherSchema-clause-closes : goal.returns-in_ok-print_other_schema-in-Err-OtherSchema-clause-closes
returns-in_ok-print_other_schema-in-Err-OtherSchema-clause-closes g c = free_closes g.M.Machine.stands g.M.Machine.figures c.args.place.now c.requires.free

pub returns-in_ok-extend_from_slice-in-Err-Fault-clause-closes : goal.returns-in_ok-extend_from_slice-in-Err-Fault-clause-closes
returns-in_ok-extend_from_slice-in-Err-Fault-clause-closes g c = free_closes g.M.Machine.stands g.M.Machine.figures c.args.place.now c.requires.free

pub returns-in-Err-NoMemory-clause-closes : goal.returns-in-Err-NoMemory-clause-closes
returns-in-Err-NoMemory-clause-closes g c = free_closes g.M.Machine.stands g.M.Machine.figures c.args.place.now c.requires.free
