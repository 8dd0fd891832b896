use Rattle.std.proofs.Common.{inl, inr, arith}
use Rattle.std.proofs.lemmas.Bool.{cases_lt}
use Rattle.lsa_region.specs.declared.end.End.TheVariants.{Obj}
use Rattle.lsa_region.specs.laws.Ends.{no-end, few-links}
use Rattle.lsa_tests.proofs.region.is_loose.Goals as goal

pub returns : goal.returns
returns c = λ _ field. elim (cases_lt field 5) [
  | inl low ↦ c.loop-field.invariant field (omega (arith, low, c.loop-field-test.false))
  | inr high ↦ no-end c.args.region.now c.known.ensures.well (Obj c.args.r field) (λ h. let low = few-links c.args.region.now c.args.r field h in absurd (omega (arith, low, high)))
]
