use Rattle.std.proofs.Common.{[], IsSome, sym, subst, arith}
use Rattle.rc_chain_guarded.proofs.Steps.{from-if}
use Rattle.lsa_region.specs.Region.{body}
use Rattle.rc_chain_guarded.proofs.Turns.{member-there, turned}
use Rattle.rc_chain_guarded.proofs.turning.turn.Goals as goal

pub position_of-x-requires : goal.position_of-x-requires
position_of-x-requires c =
    let m = c.args.chains.now in let f = from-if _ c.front.result c.in-Some.r c.front.ensures.some c.in-Some.is in subst (λ v. IsSome (body v c.in-Some.r)) (sym c.region.ensures) (member-there m c.in-Some.r f.0 c.known.ensures.well f.3)

pub touch-requires : goal.touch-requires
touch-requires c = let f = from-if _ c.front.result c.in-Some.r c.front.ensures.some c.in-Some.is in (omega arith, (f.0, [], f.1, f.2, f.3))

pub returns-in_err-x-in-Some : goal.returns-in_err-x-in-Some
returns-in_err-x-in-Some c = turned c.args.chains.now c.touch.new.self c.front.result c.in-Some.r c.in-Some.is c.front.ensures.some c.args._known.now c.requires c.touch.ensures.touched

pub returns-in_ok-x-in-Some : goal.returns-in_ok-x-in-Some
returns-in_ok-x-in-Some c = turned c.args.chains.now c.touch.new.self c.front.result c.in-Some.r c.in-Some.is c.front.ensures.some c.args._known.now c.requires c.touch.ensures.touched
