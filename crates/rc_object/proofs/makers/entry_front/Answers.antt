use Rattle.std.proofs.Common.{inl, ◌∙◌, arith}
use Rattle.rc_object.proofs.PutFields.{marks_stay}
use Rattle.rc_object.proofs.makers.entry_front.Goals as goal

pub returns-clause-marks : goal.returns-clause-marks
returns-clause-marks c = marks_stay _ _ c.args.at c.args.gap c.args.size c.put_marks.ensures.marks c.put.ensures.put

pub returns-clause-level : goal.returns-clause-level
returns-clause-level c = c.put.ensures.put.others 1 1 (inl (omega arith)) ∙ c.put_marks.ensures.level
