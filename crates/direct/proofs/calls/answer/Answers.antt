-- What is answered, by what the line means; the command of a line fits the schema; and the program stands after a step, or after want of memory.
use Rattle.std.proofs.Common.{◌≡◌, Some, Ok, Err, sym, subst}
use Rattle.rc_lines.specs.laws.FittingCommands.{commands_fit}
use Rattle.rc_lines.specs.Grammar.{parse, ReadsLine}
use Rattle.rc_lines.specs.declared.commands.Reply.TheVariants.{Refused}
use Rattle.direct.proofs.Answering.{Answers, by_step, by_bad_line, by_refusal, stands_then}
use Rattle.direct.proofs.calls.answer.Goals as goal

pub serve-requires-clause-fits : goal.serve-requires-clause-fits
serve-requires-clause-fits g c =
    commands_fit c.args.machine.now.schema c.args.line.now c.in-Ok.command
    (subst (λ z. parse (Some z) c.args.line.now ≡ Ok c.in-Ok.command) c.schema.ensures c.in-Ok.ensures)

pub returns-then-is_built-clause-answered : goal.returns-then-is_built-clause-answered
returns-then-is_built-clause-answered g c =
    by_step (g.W.Store.files c.args.store.now) (g.W.Store.files c.serve.new.store) c.args.machine.now c.serve.new.self c.args.line.now c.in-Ok.command c.serve.result
    (subst (λ z. parse (Some z) c.args.line.now ≡ Ok c.in-Ok.command) c.schema.ensures c.in-Ok.ensures) (sym c.if-is_built.ensures) c.serve.ensures.step

pub returns-then-is_built-clause-stands : goal.returns-then-is_built-clause-stands
returns-then-is_built-clause-stands g c =
    stands_then (g.W.Store.files c.args.store.now) (g.W.Store.files c.serve.new.store) c.args.machine.now c.serve.new.self c.args.line.now c.in-Ok.command c.serve.result c.serve.ensures.step c.serve.ensures.err c.requires

pub returns-in-Ok-clause-answered : goal.returns-in-Ok-clause-answered
returns-in-Ok-clause-answered g c =
    by_bad_line (g.W.Store.files c.args.store.now) c.args.machine.now c.args.line.now c.in-Ok.command
    (subst (λ z. parse (Some z) c.args.line.now ≡ Ok c.in-Ok.command) c.schema.ensures c.in-Ok.ensures) (sym c.if-is_built.ensures)

pub returns-in-Err-Refused-clause-answered : goal.returns-in-Err-Refused-clause-answered
returns-in-Err-Refused-clause-answered g c =
    subst (λ r. Answers (g.W.Store.files c.args.store.now) c.args.machine.now c.args.line.now (g.W.Store.files c.args.store.now) c.args.machine.now (Refused r)) (sym c.in-Err-Refused.refusal-is)
    (by_refusal (g.W.Store.files c.args.store.now) c.args.machine.now c.args.line.now c.in-Err-Refused.refusal
    (subst (λ z. parse (Some z) c.args.line.now ≡ Err c.in-Err-Refused.refusal) c.schema.ensures
    (subst (λ e. ReadsLine (Err e) (parse (Some c.schema.result.now) c.args.line.now)) c.in-Err-Refused.field-0-is c.in-Err-Refused.ensures)))
