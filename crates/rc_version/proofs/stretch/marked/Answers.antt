use Rattle.std.proofs.Common.{sym, ap, ◌∙◌}
use Rattle.rc_version.specs.Versions.{mark_after}
use Rattle.rc_version.specs.declared.stretch.Marking.{Marking}
use Rattle.rc_version.proofs.stretch.marked.Goals as goal

pub returns-in-Raise : goal.returns-in-Raise
returns-in-Raise c = c.raised_mark.ensures ∙ sym (ap (λ (how : Marking). mark_after how c.args.old) c.in-Raise.is)

pub returns-in-Know : goal.returns-in-Know
returns-in-Know c = sym (ap (λ (how : Marking). mark_after how c.args.old) c.in-Know.is)
