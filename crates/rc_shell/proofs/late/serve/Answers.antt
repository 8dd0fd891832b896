-- A command is answered by its reply, and a refused line by its refusal.
use Rattle.std.proofs.Common.{◌≡◌, ◌++◌, ◌∙◌, ap, sym, subst, Some, Ok, Err}
use Rattle.rc_lines.specs.laws.FittingCommands.{commands_fit}
use Rattle.rc_lines.specs.Grammar.{parse, ReadsLine}
use Rattle.rc_lines.specs.Texts.{reply_text}
use Rattle.rc_machine.specs.Built.{served_meaning}
use Rattle.rc_shell.proofs.Served.{served_ok}
use Rattle.rc_shell.proofs.Staged.{command_answered, command_unanswered, left_files, refusal_answered, stopped_answered}
use Rattle.rc_shell.proofs.late.serve.Goals as goal

pub serve-requires-clause-fits : goal.serve-requires-clause-fits
serve-requires-clause-fits g c =
    commands_fit (g.M.Machine.folder c.args.machine.now).schema c.args.line.now c.in-Ok.command
    (served_ok (parse (Some (g.M.Machine.folder c.args.machine.now).schema) c.args.line.now) c.in-Ok.command (subst (λ z. served_meaning (parse (Some z) c.args.line.now) ≡ Ok c.in-Ok.command) c.schema.ensures c.in-Ok.ensures.reads))

pub returns-in_err-print_reply-in-Ok-clause-answered : goal.returns-in_err-print_reply-in-Ok-clause-answered
returns-in_err-print_reply-in-Ok-clause-answered g c = λ old s.
    let step = c.in_ok-reply-in-Ok.ensures.step s.0 s.1 in
    command_unanswered g.M.Machine.stands g.M.Machine.figures g.M.Machine.folder g.met.M.Machine.over (g.W.Store.files c.args.store.now, g.W.Store.faults c.args.store.now, g.W.Store.asks c.args.store.now) (g.W.Store.files c.serve.new.store, g.W.Store.faults c.serve.new.store, g.W.Store.asks c.serve.new.store)
    c.args.machine.now c.serve.new.self old c.args.line.now c.in-Ok.command c.in_ok-reply-in-Ok.reply s (subst (λ z. served_meaning (parse (Some z) c.args.line.now) ≡ Ok c.in-Ok.command) c.schema.ensures c.in-Ok.ensures.reads)
    (record { next = step.0; step = step.1; stands = step.2; faults = c.in_ok-reply-in-Ok.ensures.faults.0; faulty = c.in_ok-reply-in-Ok.ensures.faults.1; asks = c.in_ok-reply-in-Ok.ensures.asks s.0 s.1; counted = c.in_ok-reply-in-Ok.ensures.figures })
    c.args.text.now.items c.print_reply.new.out.items c.from_residual-in_err-print_reply-in-Ok.result c.from_residual-in_err-print_reply-in-Ok.ensures.0

pub returns-in_ok-print_reply-in-Ok-clause-answered : goal.returns-in_ok-print_reply-in-Ok-clause-answered
returns-in_ok-print_reply-in-Ok-clause-answered g c = λ old s.
    let step = c.in_ok-reply-in-Ok.ensures.step s.0 s.1 in
    command_answered g.M.Machine.stands g.M.Machine.figures g.M.Machine.folder g.met.M.Machine.over (g.W.Store.files c.args.store.now, g.W.Store.faults c.args.store.now, g.W.Store.asks c.args.store.now) (g.W.Store.files c.serve.new.store, g.W.Store.faults c.serve.new.store, g.W.Store.asks c.serve.new.store)
    c.args.machine.now c.serve.new.self old c.args.line.now c.in-Ok.command c.in_ok-reply-in-Ok.reply s (subst (λ z. served_meaning (parse (Some z) c.args.line.now) ≡ Ok c.in-Ok.command) c.schema.ensures c.in-Ok.ensures.reads)
    (record { next = step.0; step = step.1; stands = step.2; faults = c.in_ok-reply-in-Ok.ensures.faults.0; faulty = c.in_ok-reply-in-Ok.ensures.faults.1; asks = c.in_ok-reply-in-Ok.ensures.asks s.0 s.1; counted = c.in_ok-reply-in-Ok.ensures.figures })
    c.args.text.now.items c.print_reply.new.out.items (c.in_ok-print_reply-in-Ok.ensures.ok ∙ ap (λ z. c.args.text.now.items ++ reply_text z c.in_ok-reply-in-Ok.reply) c.schema-in-Ok.ensures)

pub returns-in_ok-print_refusal-in-Err-Refused-clause-answered : goal.returns-in_ok-print_refusal-in-Err-Refused-clause-answered
returns-in_ok-print_refusal-in-Err-Refused-clause-answered g c = λ old s.
    refusal_answered g.M.Machine.stands g.M.Machine.figures g.M.Machine.folder g.met.M.Machine.over (g.W.Store.files c.args.store.now, g.W.Store.faults c.args.store.now, g.W.Store.asks c.args.store.now) c.args.machine.now old c.args.line.now c.args.text.now.items c.print_refusal.new.out.items c.in-Err-Refused.refusal s
    (subst (λ z. served_meaning (parse (Some z) c.args.line.now) ≡ Err c.in-Err-Refused.refusal) c.schema.ensures
    (subst (λ e. ReadsLine (Err e) (served_meaning (parse (Some c.schema.result.now) c.args.line.now))) c.in-Err-Refused.field-0-is c.in-Err-Refused.ensures.reads)) c.in_ok-print_refusal-in-Err-Refused.ensures.ok

pub returns-in_err-reply-in-Ok-clause-answered : goal.returns-in_err-reply-in-Ok-clause-answered
returns-in_err-reply-in-Ok-clause-answered g c = λ old s.
    let stops = c.in_err-reply-in-Ok.ensures.err s.0 s.1 in
    stopped_answered g.M.Machine.stands g.M.Machine.figures g.M.Machine.folder g.met.M.Machine.over (g.W.Store.files c.args.store.now, g.W.Store.faults c.args.store.now, g.W.Store.asks c.args.store.now) (g.W.Store.files c.serve.new.store, g.W.Store.faults c.serve.new.store, g.W.Store.asks c.serve.new.store)
    c.args.machine.now c.serve.new.self old c.args.line.now c.in-Ok.command c.args.text.now.items c.args.text.now.items c.from_residual.result c.from_residual.ensures.0 s
    (sym (g.met.M.Machine.over _ _ _ stops.2).files ∙ left_files s.0 c.in-Ok.command stops.0 stops.1 ∙ (g.met.M.Machine.over _ _ _ s.1).files) c.in_err-reply-in-Ok.ensures.faults.0 c.in_err-reply-in-Ok.ensures.asks

pub returns-in_ok-print_reply-in-Ok-clause-closes : goal.returns-in_ok-print_reply-in-Ok-clause-closes
returns-in_ok-print_reply-in-Ok-clause-closes g c = let step = c.in_ok-reply-in-Ok.ensures.step c.requires.0 c.requires.1 in (g.W.Store.files c.serve.new.store, step.0, step.2)

pub returns-in_err-print_reply-in-Ok-clause-closes : goal.returns-in_err-print_reply-in-Ok-clause-closes
returns-in_err-print_reply-in-Ok-clause-closes g c = let step = c.in_ok-reply-in-Ok.ensures.step c.requires.0 c.requires.1 in (g.W.Store.files c.serve.new.store, step.0, step.2)

pub returns-in_err-reply-in-Ok-clause-closes : goal.returns-in_err-reply-in-Ok-clause-closes
returns-in_err-reply-in-Ok-clause-closes g c = let stops = c.in_err-reply-in-Ok.ensures.err c.requires.0 c.requires.1 in (g.W.Store.files c.serve.new.store, stops.0, stops.2)
