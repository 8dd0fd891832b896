-- What was read is the list that the bytes spell, and it was asked whether it may come.
use Rattle.std.proofs.Common.{◌≡◌, ◌++◌, ◌∷◌, [], List, Some, None, true, false, ap, sym, subst, ◌∙◌}
use Rattle.std.specs.Prelude.{IfSome}
use Rattle.std.specs.List.{flat_map, AllByRecursion}
use Rattle.std.specs.Option.{option_map}
use Rattle.rc_mutation.specs.declared.fragments.Frag.{Frag}
use Rattle.rc_tables.specs.calls.Rebuilt.{AllCome, IsSpellable, frag_code}
use Rattle.rc_tables.proofs.decoding.read_coming.Goals as goal

same_list : (xs ys : List Frag) → Some xs ≡ Some ys → xs ≡ ys
same_list xs ys e = cc

clash : {P : Type 0} → true ≡ false → P
clash e = absurd cc

pub returns-in_default-clause-found : goal.returns-in_default-clause-found
returns-in_default-clause-found c = λ fs is e come. sym (ap (option_map (λ v. v.items)) c.in_default.is) ∙ c.in_ok-frags.ensures.found fs is e

pub returns-then-not-branch-clause-found : goal.returns-then-not-branch-clause-found
returns-then-not-branch-clause-found c = λ fs is e come.
    let frags = same_list c.in-Some.frags.items fs (sym (ap (option_map (λ v. v.items)) c.in-Some.is) ∙ c.in_ok-frags.ensures.found fs is e) in
    clash (sym (c.in_ok-all_come.ensures.1 (subst (AllCome c.args.schema.now None None) (sym (c.as_slice.ensures.value ∙ frags)) come)) ∙ c.if-not-branch.true)

pub returns-clause-found : goal.returns-clause-found
returns-clause-found c = λ fs is e come. sym (ap (option_map (λ v. v.items)) c.in-Some.is) ∙ c.in_ok-frags.ensures.found fs is e

pub returns-clause-spelled : goal.returns-clause-spelled
returns-clause-spelled c =
    let read = subst (λ f. IfSome f (λ v. AllByRecursion IsSpellable v.items × (c.args.bytes.now ≡ flat_map frag_code v.items ++ 4 ∷ []))) c.in-Some.is c.in_ok-frags.ensures.spelled in
    (read.0, read.1, subst (AllCome c.args.schema.now None None) c.as_slice.ensures.value (c.in_ok-all_come.ensures.0 c.if-not-branch.false))
