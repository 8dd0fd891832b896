-- What is read first is the first of what is listed.
use Rattle.std.proofs.Common.{sym, arith}
use Rattle.rc_rowcode.specs.calls.Views.{seen_comp}
use Rattle.rc_rowcode.proofs.Comparing.{comps_end, comps_stuck, comps_step}
use Rattle.rc_rowcode.proofs.compare.first_coded.Goals as goal

pub returns-then-count-eq0 : goal.returns-then-count-eq0
returns-then-count-eq0 c = comps_end c.args.count c.args.bytes.now (omega arith)

pub returns-in_default : goal.returns-in_default
returns-in_default c = comps_stuck c.args.count c.args.bytes.now (sym c.in_default.ensures)

pub returns : goal.returns
returns c = comps_step c.args.count c.args.bytes.now (seen_comp c.in-Some.comp) c.in-Some.bytes.now (omega arith) (sym c.in-Some.ensures)
