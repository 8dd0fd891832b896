use Rattle.std.proofs.Common.{subst}
use Rattle.rc_chain_guarded.proofs.Steps.{known-sub}
use Rattle.rc_chain_guarded.proofs.Wholes.{known-held}
use Rattle.std.specs.Prelude.{Contains}
use Rattle.rc_chain_guarded.proofs.snaps.hold.Goals as goal

pub returns-in-Ok : goal.returns-in-Ok
returns-in-Ok c = known-held c.args._chains.now c.args.known.now c.hold.new.self c.args.held c.requires.known c.in-Ok.ensures.ok c.requires.there c.hold.ensures.full c.hold.ensures.bare

pub returns-in-Err : goal.returns-in-Err
returns-in-Err c = known-sub c.args._chains.now c.args.known.now c.hold.new.self (λ s on. subst (λ l. Contains l s) c.in-Err.ensures.err on) c.hold.ensures.full c.hold.ensures.bare c.requires.known
