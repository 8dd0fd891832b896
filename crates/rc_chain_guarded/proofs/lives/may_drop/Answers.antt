use Rattle.std.proofs.Common.{◌≡◌, true, false, sym, ◌∙◌, arith}
use Rattle.rc_chain_guarded.proofs.lives.may_drop.Goals as goal

pub returns-clause-free : goal.returns-clause-free
returns-clause-free c = λ yes k there.
    let all = c.versions-versions.ensures k there in let low = c.if-number-saturating_sub.false in record {
      unpinned = λ pinned. let told : true ≡ false = sym ((c.is_pinned.ensures k there).1 pinned) ∙ c.if-is_pinned.false in cc told;
      others = omega (arith, all, low);
      settled = λ u. omega (arith, all, low);
      below = λ u. omega (arith, all, c.if-versions-le2.false);
    }
