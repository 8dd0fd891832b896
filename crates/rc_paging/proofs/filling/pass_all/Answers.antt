-- What was kept and passed so far, and by one call more.
use Rattle.std.proofs.Common.{◌∙◌}
use Rattle.rc_paging.proofs.Called.{cache_then}
use Rattle.rc_paging.proofs.filling.pass_all.Goals as goal

pub returns-in-Ok-false-clause-kept : goal.returns-in-Ok-false-clause-kept
returns-in-Ok-false-clause-kept g c = cache_then g.row.S c.args.cached.now.stream c.args.chains.now c.args.readings.now c.loop-rounds.cached.stream c.loop-rounds.chains c.loop-rounds.readings c.pass_one.new.cached.stream c.pass_one.new.chains c.pass_one.new.readings c.loop-rounds.invariant.0 c.pass_one.ensures.kept

pub returns-in-Ok-false-clause-still : goal.returns-in-Ok-false-clause-still
returns-in-Ok-false-clause-still g c = λ x snap ahead. (let i = c.loop-rounds.invariant.2 x snap ahead in let e = c.pass_one.ensures.still x snap i.2 in (e.0 ∙ i.0, e.1 ∙ i.1))

pub returns-in-Err-clause-kept : goal.returns-in-Err-clause-kept
returns-in-Err-clause-kept g c = cache_then g.row.S c.args.cached.now.stream c.args.chains.now c.args.readings.now c.loop-rounds.cached.stream c.loop-rounds.chains c.loop-rounds.readings c.pass_one.new.cached.stream c.pass_one.new.chains c.pass_one.new.readings c.loop-rounds.invariant.0 c.pass_one.ensures.kept

pub returns-in-Err-clause-still : goal.returns-in-Err-clause-still
returns-in-Err-clause-still g c = λ x snap ahead. (let i = c.loop-rounds.invariant.2 x snap ahead in let e = c.pass_one.ensures.still x snap i.2 in (e.0 ∙ i.0, e.1 ∙ i.1))

pub returns-in-Ok-false-clause-passed : goal.returns-in-Ok-false-clause-passed
returns-in-Ok-false-clause-passed g c = λ x passed. c.in-Ok-false.ensures.passed x (c.loop-rounds.invariant.3 x passed)

pub loop-rounds-preserved : goal.loop-rounds-preserved
loop-rounds-preserved g c = (
  cache_then g.row.S c.args.cached.now.stream c.args.chains.now c.args.readings.now c.loop-rounds.cached.stream c.loop-rounds.chains c.loop-rounds.readings c.pass_one.new.cached.stream c.pass_one.new.chains c.pass_one.new.readings c.loop-rounds.invariant.0 c.pass_one.ensures.kept,
  c.pass_one.ensures.ready,
  λ x snap ahead. (let i = c.loop-rounds.invariant.2 x snap ahead in let e = c.pass_one.ensures.still x snap i.2 in (e.0 ∙ i.0, e.1 ∙ i.1, c.in-Ok-true.ensures.ahead x snap i.2)),
  λ x passed. c.in-Ok-true.ensures.passed x (c.loop-rounds.invariant.3 x passed),
)
