-- All lines in front and some behind them; or none.
use Rattle.std.proofs.Common.{◌∙◌}
use Rattle.rc_opened.proofs.InFront.{gave_all, kept_all, refused_all}
use Rattle.rc_opened.proofs.behind.OpenedBehind.read_on.Goals as goal

pub returns-in-Ok-settle-clause-ok : goal.returns-in-Ok-settle-clause-ok
returns-in-Ok-settle-clause-ok g c = λ rest h.
    gave_all _ c.read.new.chains c.settle.new.self c.read.new.self _ c.replace.new.dest rest c.args.wanted c.read.result _ c.in-Ok.is c.in-Ok-settle.ensures.ok (c.replace.ensures.after ∙ c.empty.ensures) (c.read.ensures.left rest h)

pub returns-in-Err-settle-clause-err : goal.returns-in-Err-settle-clause-err
returns-in-Err-settle-clause-err g c = λ rest h.
    kept_all _ c.read.new.chains c.settle.new.self c.read.new.self c.args.self.now.front c.in-Ok.lines rest c.args.wanted c.read.result _ c.in-Ok.is c.in-Err-settle.ensures.err (c.in-Ok.ensures.gives rest h) (c.read.ensures.left rest h)

pub returns-in-Err-clause-err : goal.returns-in-Err-clause-err
returns-in-Err-clause-err g c = λ rest h.
    refused_all _ c.read.new.chains c.read.new.self c.args.self.now.front c.args.self.now.ahead rest c.args.wanted c.read.result _ c.in-Err.is c.requires.ahead (c.read.ensures.left rest h)
