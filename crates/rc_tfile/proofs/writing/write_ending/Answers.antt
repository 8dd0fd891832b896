use Rattle.rc_tfile.proofs.writing.write_ending.Goals as goal

pub returns-in-Ok-clause-building : goal.returns-in-Ok-clause-building
returns-in-Ok-clause-building g c = λ before is. c.write_listed.ensures.building _ (c.in-Ok.ensures before is)

pub returns-in-Ok-clause-items : goal.returns-in-Ok-clause-items
returns-in-Ok-clause-items g c = λ before is. c.write_listed.ensures.items _ (c.in-Ok.ensures before is)
