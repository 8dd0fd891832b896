-- One more is out of the cache.
use Rattle.std.proofs.Common.{refl, ◌∙◌}
use Rattle.rc_shard.proofs.Forgotten.{forgets-end, forgets-next, written-itself, written-then}
use Rattle.rc_shard.proofs.forgetting.forget_all.Goals as goal

pub loop-left-init : goal.loop-left-init
loop-left-init c = record { has = c.requires; rest = λ entries m h. h; keeps = written-itself c.args.unstored.now; counts = refl }

pub loop-left-preserved : goal.loop-left-preserved
loop-left-preserved c = record {
  has = c.forget_one.ensures.forgets.has c.loop-left.invariant.has;
  rest = λ entries m h. c.loop-left.invariant.rest entries m
      (forgets-next c.loop-left.left.now c.part-item.result c.loop-left.cache.entries c.forget_one.new.cache.entries entries c.loop-left.unstored.chains c.forget_one.new.unstored.chains m c.part-item.is c.in-len1-up.len_at_least c.forget_one.ensures.forgets h);
  keeps = written-then c.args.unstored.now c.loop-left.unstored c.forget_one.new.unstored c.loop-left.invariant.keeps c.forget_one.ensures.keeps;
  counts = c.forget_one.ensures.counts ∙ c.loop-left.invariant.counts;
}

pub returns-clause-forgets : goal.returns-clause-forgets
returns-clause-forgets c = c.loop-left.invariant.rest c.loop-left.cache.entries c.loop-left.unstored.chains (forgets-end c.loop-left.left.now c.loop-left.cache.entries c.loop-left.unstored.chains c.in_default.len_below)
