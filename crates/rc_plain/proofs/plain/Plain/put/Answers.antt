-- One write more.
use Rattle.std.proofs.Common.{sym, subst}
use Rattle.rc_lines.specs.Fits.{CommandFits}
use Rattle.rc_lines.specs.declared.commands.Command.TheVariants.{Put}
use Rattle.rc_lines.specs.declared.commands.Reply.TheVariants as replies
use Rattle.rc_plain.specs.Stands.{Keeping}
use Rattle.rc_plain.proofs.Standing.{from, takes_copy}
use Rattle.rc_plain.proofs.plain.Plain.put.Goals as goal

pub returns-clause-step : goal.returns-clause-step
returns-clause-step c = λ files.
    from (Put c.args.write.now) replies.Fine c.self.view_is
    (takes_copy files _ c.args.write.now c.in_ok-write.write c.put.new.self (subst (λ (k : Keeping). CommandFits k.schema (Put c.args.write.now)) (sym c.self.view_is) c.requires) c.in_ok-write.ensures c.in_ok-put.ensures.ok)
