use Rattle.std.proofs.Common.{◌≡◌, Some, None, sym, ap, ◌∙◌, arith}
use Rattle.rc_chain_guarded.proofs.Steps.{from-if, from-some}
use Rattle.rc_chain_guarded.proofs.Wholes.{known-without}
use Rattle.std.specs.Prelude.{is_some}
use Rattle.rc_memory.specs.Memory.{chain_at}
use Rattle.rc_chain_guarded.proofs.lives.drop_version.Goals as goal

pub may_drop-requires : goal.may_drop-requires
may_drop-requires c = let b = from-if _ c.args.known.now.bare c.in-Some.bare c.requires.bare c.in-Some.is in ap is_some (from-some _ (chain_at c.args.chains.now c.in-Some.bare.chain) b).1

pub drop_version-requires : goal.drop_version-requires
drop_version-requires c = let yes = c.if-not-may_drop.false in (omega arith, (from-if _ c.args.known.now.bare c.in-Some.bare c.requires.bare c.in-Some.is, (c.may_drop.ensures.free yes, c.may_drop.ensures.older yes)))

pub returns-else-not-may_drop : goal.returns-else-not-may_drop
returns-else-not-may_drop c =
    known-without c.args.chains.now c.drop_version.new.self c.in-Some.bare.chain c.in-Some.bare.version c.drop_version.ensures.dropped.chains c.args.known.now c.forget.new.self c.requires c.forget.ensures.held c.forget.ensures.full
    (λ b e. absurd (let clash : None ≡ Some b = sym c.forget.ensures.bare ∙ e in cc))
