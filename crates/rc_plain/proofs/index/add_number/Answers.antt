-- At a key that is there the value grows, at another one it is put; elsewhere nothing changes.
use Rattle.std.proofs.Common.{ℕ, List, [], ◌∷◌, ◌++◌, Option, Some, Result, Ok, Err, refl, sym, ap, subst, ◌∙◌}
use Rattle.std.specs.Option.{IsSome}
use Rattle.std.specs.Result.{OnErr}
use Rattle.std.specs.BTreeMap.{get}
use Rattle.rc_position.specs.Position.{bytes_cmp}
use Rattle.rc_plain.proofs.Keyed.{HasPut, found_put, found_kept, found_is, numbers_are, numbers_none}
use Rattle.rc_plain.proofs.index.add_number.Goals as goal

on_err : {T E : Type 0} (r : Result T E) {P : Type 0} → P → OnErr r P
on_err (Ok x) p = tt
on_err (Err e) p = p

some : {X : Type 0} (x : X) → IsSome (Some x)
some x = refl

pub returns-in_err-push-in-Some-clause-err : goal.returns-in_err-push-in-Some-clause-err
returns-in_err-push-in-Some-clause-err c =
    let there : IsSome (get bytes_cmp c.args.index.now c.args.key.now) = subst IsSome c.in-Some.ensures.value (some c.in-Some.numbers.now) in
    let put : HasPut c.args.index.now (c.get_mut.follows.lender c.push.new.self) c.args.key.now c.push.new.self = ((c.get_mut.follows.holds c.push.new.self).3 there).0 in
    on_err c.from_residual.result (found_kept c.args.index.now (c.get_mut.follows.lender c.push.new.self) c.args.key.now c.push.new.self put (◌∙◌ {A = Option (List ℕ)} (ap Some c.in_err-push-in-Some.ensures.items) (found_is c.args.index.now c.args.key.now c.in-Some.numbers.now c.in-Some.ensures.value)))

pub returns-in_ok-push-in-Some-clause-ok : goal.returns-in_ok-push-in-Some-clause-ok
returns-in_ok-push-in-Some-clause-ok c =
    let there : IsSome (get bytes_cmp c.args.index.now c.args.key.now) = subst IsSome c.in-Some.ensures.value (some c.in-Some.numbers.now) in
    let put : HasPut c.args.index.now (c.get_mut.follows.lender c.push.new.self) c.args.key.now c.push.new.self = ((c.get_mut.follows.holds c.push.new.self).3 there).0 in
    found_put c.args.index.now (c.get_mut.follows.lender c.push.new.self) c.args.key.now c.push.new.self c.args.number put
    (◌∙◌ {A = List ℕ} c.in_ok-push-in-Some.ensures.items (ap (λ ns. ns ++ c.args.number ∷ []) (numbers_are c.args.index.now c.args.key.now c.in-Some.numbers.now c.in-Some.ensures.value)))

pub returns-in_ok-insert-in-None-clause-ok : goal.returns-in_ok-insert-in-None-clause-ok
returns-in_ok-insert-in-None-clause-ok c =
    let updates = c.in_ok-insert-in-None.ensures.updates in
    let put : HasPut c.args.index.now c.insert.new.self c.args.key.now c.in_ok-numbers-in-None.numbers = rw (sym c.get_mut.follows.holds-at-none, sym c.in_ok-key-in-None.ensures) updates.0 in
    found_put c.args.index.now c.insert.new.self c.args.key.now c.in_ok-numbers-in-None.numbers c.args.number put
    (◌∙◌ {A = List ℕ} c.in_ok-numbers-in-None.ensures.items (ap (λ ns. ns ++ c.args.number ∷ []) (numbers_none c.args.index.now c.args.key.now c.in-None.ensures.value)))
