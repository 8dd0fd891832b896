-- One fragment more, or none, or the end.
use Rattle.std.proofs.Common.{◌≡◌, ◌∷◌, ◌++◌, [], ℕ, List, ap, sym, subst, ◌∙◌, None, Some, true, false, length, take, drop, ◌-◌}
use Rattle.std.proofs.lemmas.List.{take_rest}
use Rattle.rc_mutation.specs.declared.fragments.Frag.{Frag}
use Rattle.std.specs.Prelude.{IfSome}
use Rattle.std.specs.List.{flat_map, AllByRecursion}
use Rattle.rc_tables.specs.calls.Rebuilt.{IsSpellable, frag_code}
use Rattle.rc_tables.proofs.Spelled.{Finds, Going, going_on, going_stops, going_ends, spelled_on, text_on}
use Rattle.rc_tables.proofs.decoding.read_fragments.Goals as goal

no_end : {P : Type 0} → false ≡ true → P
no_end e = absurd cc

pub returns-in_default-clause-found : goal.returns-in_default-clause-found
returns-in_default-clause-found c = λ fs is e.
    let finds : Finds c.loop-left.left.now None = subst (λ f. Finds c.loop-left.left.now f) c.in_default.is c.in_ok-frag.ensures.value in
    absurd (going_stops c.args.bytes.now c.loop-left.made.items c.loop-left.left.now c.loop-left.invariant.going (λ end. no_end (sym c.loop-left-test.true ∙ c.is_end.ensures.1 end)) finds fs is e)

pub loop-left-preserved : goal.loop-left-preserved
loop-left-preserved c =
    let finds : Finds c.loop-left.left.now (Some (c.in-Some.frag, c.in-Some.size)) = subst (λ f. Finds c.loop-left.left.now f) c.in-Some.is c.in_ok-frag.ensures.value in
    let on = going_on c.args.bytes.now c.loop-left.made.items c.loop-left.left.now c.in-Some.frag c.in-Some.size c.loop-left.invariant.going (λ end. no_end (sym c.loop-left-test.true ∙ c.is_end.ensures.1 end)) finds in
    let starts = subst (λ f. IfSome f (λ x. IsSpellable x.0 × (c.loop-left.left.now ≡ frag_code x.0 ++ drop x.1 c.loop-left.left.now))) c.in-Some.is c.in_ok-frag.ensures.starts in
    let items = sym c.in_ok-push.ensures.items in
    let rest = sym (take_rest c.loop-left.left.now c.in-Some.size) in
    record {
      going = subst (λ (m : List Frag). Going c.args.bytes.now m (take (length c.loop-left.left.now - c.in-Some.size) (drop c.in-Some.size c.loop-left.left.now))) items
          (subst (λ (l : List ℕ). Going c.args.bytes.now (c.loop-left.made.items ++ c.in-Some.frag ∷ []) l) rest on);
      spelled = subst (AllByRecursion IsSpellable) items (spelled_on c.loop-left.made.items c.in-Some.frag c.loop-left.invariant.spelled starts.0);
      text = text_on c.args.bytes.now c.loop-left.made.items c.loop-left.left.now c.in-Some.frag c.in-Some.size c.loop-left.invariant.text starts.1 ∙ (λ i. flat_map frag_code (items i) ++ rest i);
    }

pub returns-clause-found : goal.returns-clause-found
returns-clause-found c = λ fs is e. ap Some (going_ends c.args.bytes.now c.loop-left.made.items c.loop-left.left.now c.loop-left.invariant.going (c.is_end.ensures.0 c.loop-left-test.false) fs is e)

pub returns-clause-spelled : goal.returns-clause-spelled
returns-clause-spelled c = (c.loop-left.invariant.spelled, c.loop-left.invariant.text ∙ ap (λ t. flat_map frag_code c.loop-left.made.items ++ t) (c.is_end.ensures.0 c.loop-left-test.false))

pub returns-in_default-clause-spelled : goal.returns-in_default-clause-spelled
returns-in_default-clause-spelled c = tt
