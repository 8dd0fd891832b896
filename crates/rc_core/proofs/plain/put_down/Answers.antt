use Rattle.std.proofs.Common.{sym, ap, ◌∙◌}
use Rattle.rc_core.specs.declared.entries.Flag.{Flag}
use Rattle.rc_core.specs.Change.{mark}
use Rattle.rc_core.specs.Plain.{mark_by}
use Rattle.rc_core.proofs.Putting.{put_alike}
use Rattle.rc_core.proofs.plain.put_down.Goals as goal

pub returns-in-Inherit : goal.returns-in-Inherit
returns-in-Inherit c = record {
  rule = ap (mark c.args.older.flag) c.greater_tomb.ensures ∙ sym (ap (λ (f : Flag). mark_by f c.args.older c.args.newer) c.in-Inherit.is);
  seen = put_alike c.args.older c.args.newer c.greater_tomb.result c.in-Inherit.is c.greater_tomb.ensures;
}
