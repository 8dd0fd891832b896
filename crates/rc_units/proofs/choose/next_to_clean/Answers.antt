use Rattle.std.proofs.Common.{◌≡◌, ◌-◌, true, false, sym, ◌∙◌, subst, arith}
use Rattle.rc_units.specs.Clean.{MayMerge}
use Rattle.rc_units.proofs.choose.next_to_clean.Goals as goal

pub returns-then-may_merge-clause-some : goal.returns-then-may_merge-clause-some
returns-then-may_merge-clause-some c = λ k l p u. (
  (c.may_merge.ensures k l p u).0 c.if-may_merge.true,
  λ j above m. omega (arith, above, c.loop-left.invariant.1 k l p u j m),
)

pub loop-left-preserved : goal.loop-left-preserved
loop-left-preserved c = (
  omega (arith, c.loop-left.invariant.0),
  λ k l p u j m.
      let off : j ≡ c.loop-left.left - 1 → ⊥ = λ e. let h : true ≡ false = sym ((c.may_merge.ensures k l p u).1 (subst (MayMerge k) e m)) ∙ c.if-may_merge.false in absurd (cc) in
      omega (arith, c.loop-left.invariant.1 k l p u j m, off),
)
