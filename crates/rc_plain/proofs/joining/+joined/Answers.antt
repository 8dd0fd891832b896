-- No write, one write, and the writes of both halves.
use Rattle.std.proofs.Common.{◌-◌, ◌/◌, ℕ, [], length, take, drop, sym, subst}
use Rattle.std.proofs.lemmas.Result.{IfOk-weaker}
use Rattle.rc_mutation.specs.declared.mutations.Mutation.{Mutation}
use Rattle.rc_mutation.specs.Source.{IsJoinOf}
use Rattle.rc_mutation.specs.laws.Sources.{IsJoinOf-none}
use Rattle.rc_plain.proofs.Numbers.{joined_none, joined_one, joined_parts, split}
use Rattle.rc_plain.proofs.joining.+joined.Goals as goal

pub returns-in-empty : goal.returns-in-empty
returns-in-empty n c =
    joined_none c.args.log.now c.empty.result c.args.numbers.now c.in-empty.len_below (subst (λ (m : Mutation). IsJoinOf m []) (sym c.empty.ensures) IsJoinOf-none)

pub returns-in-len1 : goal.returns-in-len1
returns-in-len1 n c =
    IfOk-weaker c.copied.result _ _ (λ (m : Mutation) is. joined_one c.args.log.now c.index-log-number.result m c.args.numbers.now c.in-len1.len_at_least c.in-len1.len_below c.requires c.index-log-number.is is) c.copied.ensures

pub returns-in_ok-join-in_default : goal.returns-in_ok-join-in_default
returns-in_ok-join-in_default n c =
    let numbers = c.args.numbers.now in
    let half : ℕ = length numbers / 2 in
    joined_parts c.args.log.now c.in_ok-first-in_default.first c.in_ok-rest-in_default.rest c.join.new.self numbers (take half numbers) (take (length numbers - half) (drop half numbers))
    (split numbers half) c.in_ok-first-in_default.ensures c.in_ok-rest-in_default.ensures c.in_ok-join-in_default.ensures.ok
