-- The seek is due in place of an earlier one.
use Rattle.std.proofs.Common.{refl, sym, ap, subst, Some}
use Rattle.rc_position.specs.declared.positions.Pos.{Pos}
use Rattle.rc_stream.specs.Both.{AfterDue, HoldBoth, MaySeekBoth, SpotsOfBoth}
use Rattle.rc_stream.specs.Stream.{sought_stream}
use Rattle.rc_stream.proofs.Blaming.{blames-none}
use Rattle.rc_stream.proofs.Due.{sought-due, sought-later}
use Rattle.rc_stream.proofs.Going.{both-later}
use Rattle.rc_stream.proofs.merges.MergeFrags.seek.Goals as goal

pub returns-in-Ok-clause-seen : goal.returns-in-Ok-clause-seen
returns-in-Ok-clause-seen g c = λ s b. subst (λ (z : Pos). AfterDue (Some z) (HoldBoth g.A.Frags.seen g.B.Frags.seen c.args.self.now c.args._home.now c.args._store.now) (sought_stream c.args.to.now s)) (sym c.in-Ok.ensures) (sought-later (HoldBoth g.A.Frags.seen g.B.Frags.seen c.args.self.now c.args._home.now c.args._store.now) (MaySeekBoth g.A.Frags.ahead g.B.Frags.ahead c.args.self.now) c.args.self.now.due c.args.to.now s c.requires.ahead b)

pub returns-in-Ok-clause-ready : goal.returns-in-Ok-clause-ready
returns-in-Ok-clause-ready g c = (
  c.requires.ready.0,
  c.requires.ready.1,
  subst (MaySeekBoth g.A.Frags.ahead g.B.Frags.ahead c.args.self.now) (sym c.in-Ok.ensures) (sought-due (MaySeekBoth g.A.Frags.ahead g.B.Frags.ahead c.args.self.now) (both-later g.A.Frags.ahead g.B.Frags.ahead c.args.self.now) c.args.self.now.due c.args.to.now c.requires.ready.2 c.requires.ahead),
)

pub returns-in-Ok-clause-did : goal.returns-in-Ok-clause-did
returns-in-Ok-clause-did g c = record { calls = refl; leaves = ap Some c.in-Ok.ensures }

pub returns-in-Err-clause-did : goal.returns-in-Err-clause-did
returns-in-Err-clause-did g c = record { calls = refl; leaves = tt }

pub returns-in-Ok-clause-damage : goal.returns-in-Ok-clause-damage
returns-in-Ok-clause-damage g c = blames-none (SpotsOfBoth g.A.Frags.damage g.B.Frags.damage c.args.self.now) _ tt

pub returns-in-Err-clause-damage : goal.returns-in-Err-clause-damage
returns-in-Err-clause-damage g c = blames-none (SpotsOfBoth g.A.Frags.damage g.B.Frags.damage c.args.self.now) _ tt
