use Rattle.std.proofs.Common.{ℕ, ap, arith}
use Rattle.rc_chain_guarded.proofs.Fresh.{home-none}
use Rattle.rc_chain_guarded.proofs.likes.is_home.Goals as goal

pub returns : goal.returns
returns c = λ row yes lone.
    let m = c.args.chains.now in let w = c.requires.0 in let list = c.requires.2 in let home = c.home-chain.ensures w c.requires.3 in let one = ap (λ (p : ℕ × ℕ). p.0) home in let two = ap (λ (p : ℕ × ℕ). p.1) home in let not = c.if-chain-id.false in
    home-none m c.args.r w c.requires.1 list c.requires.3 c.args.id c.args.number row lone c.known.ensures.rule c.known.ensures.versions (omega (arith, one, not)) (omega (arith, two, c.if-version-number.false))
