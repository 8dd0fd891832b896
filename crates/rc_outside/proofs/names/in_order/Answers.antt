use Rattle.std.proofs.Common.{sym, subst, nat_eq, Contains}
use Rattle.std.specs.List.Sorted.{IsStrictlyIncreasing}
use Rattle.std.proofs.lemmas.List.Filters.{dedup_is}
use Rattle.std.proofs.lemmas.List.Kept.{Contains-dedup_nat, Contains-from_dedup}
use Rattle.std.proofs.lemmas.List.Sorted.{Contains-permutation, IsPermutation-sym}
use Rattle.std.proofs.lemmas.Map.Keys.{IsStrictlyIncreasing-dedup}
use Rattle.rc_outside.proofs.names.in_order.Goals as goal

pub returns-clause-ascending : goal.returns-clause-ascending
returns-clause-ascending c =
    let sorted = c.sort_unstable.new.self.items in
    subst IsStrictlyIncreasing (sym (dedup_is nat_eq sorted c.dedup.new.self.items c.dedup.ensures.filtered)) (IsStrictlyIncreasing-dedup sorted c.sort_unstable.ensures.sorted)

pub returns-clause-same : goal.returns-clause-same
returns-clause-same c = λ n.
    let sorted = c.sort_unstable.new.self.items in
    let is = dedup_is nat_eq sorted c.dedup.new.self.items c.dedup.ensures.filtered in (
      λ there. Contains-permutation sorted c.args.numbers.items n (IsPermutation-sym c.args.numbers.items sorted c.sort_unstable.ensures.permutation) (Contains-from_dedup nat_eq sorted n (subst (λ l. Contains l n) is there)),
      λ there. subst (λ l. Contains l n) (sym is) (Contains-dedup_nat sorted n (Contains-permutation c.args.numbers.items sorted n c.sort_unstable.ensures.permutation there)),
    )
