-- A line that means nothing, a refused line, or a schema line.
use Rattle.std.proofs.Common.{◌∙◌, sym, subst, None, Err}
use Rattle.rc_lines.specs.Grammar.{parse, ReadsLine}
use Rattle.rc_machine.specs.Built.{served_meaning}
use Rattle.rc_shell.proofs.Staged.{free_closes, none_answered, refused_answered, schema_line}
use Rattle.rc_shell.proofs.late.begin.Goals as goal

pub returns-in-None-clause-answered : goal.returns-in-None-clause-answered
returns-in-None-clause-answered g c = λ old s.
    none_answered g.M.Machine.stands g.M.Machine.figures c.args.segments c.args.place.now (g.W.Store.files c.args.store.now, g.W.Store.faults c.args.store.now, g.W.Store.asks c.args.store.now) old c.args.line.now c.in-Ok.command c.args.text.now.items c.requires.free s c.in-Ok.ensures.reads (sym c.schema_set.ensures ∙ c.in-None.is)

pub returns-in-None-clause-closes : goal.returns-in-None-clause-closes
returns-in-None-clause-closes g c = free_closes g.M.Machine.stands g.M.Machine.figures c.args.place.now c.requires.free

pub returns-in_ok-print_refusal-in-Err-Refused-clause-answered : goal.returns-in_ok-print_refusal-in-Err-Refused-clause-answered
returns-in_ok-print_refusal-in-Err-Refused-clause-answered g c = λ old s.
    refused_answered g.M.Machine.stands g.M.Machine.figures c.args.segments c.args.place.now (g.W.Store.files c.args.store.now, g.W.Store.faults c.args.store.now, g.W.Store.asks c.args.store.now) old c.args.line.now c.in-Err-Refused.early c.args.text.now.items c.print_refusal.new.out.items
    c.requires.free s (subst (λ e. ReadsLine (Err e) (served_meaning (parse None c.args.line.now))) c.in-Err-Refused.field-0-is c.in-Err-Refused.ensures.reads) c.in_ok-print_refusal-in-Err-Refused.ensures.ok

pub returns-in_ok-print_refusal-in-Err-Refused-clause-closes : goal.returns-in_ok-print_refusal-in-Err-Refused-clause-closes
returns-in_ok-print_refusal-in-Err-Refused-clause-closes g c = free_closes g.M.Machine.stands g.M.Machine.figures c.args.place.now c.requires.free

pub returns-in_err-print_refusal-in-Err-Refused-clause-closes : goal.returns-in_err-print_refusal-in-Err-Refused-clause-closes
returns-in_err-print_refusal-in-Err-Refused-clause-closes g c = free_closes g.M.Machine.stands g.M.Machine.figures c.args.place.now c.requires.free

pub returns-in-Err-NoMemory-clause-closes : goal.returns-in-Err-NoMemory-clause-closes
returns-in-Err-NoMemory-clause-closes g c = free_closes g.M.Machine.stands g.M.Machine.figures c.args.place.now c.requires.free

pub returns-in-Some-clause-answered : goal.returns-in-Some-clause-answered
returns-in-Some-clause-answered g c = λ old s.
    c.open.ensures.answered old c.args.line.now s (schema_line c.args.line.now c.in-Ok.command c.in-Some.schema c.in-Ok.ensures.reads (sym c.schema_set.ensures ∙ c.in-Some.is))
