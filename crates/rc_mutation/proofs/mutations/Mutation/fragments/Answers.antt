-- The parts, one behind the other.
use Rattle.std.proofs.Common.{[], ◌∷◌, ◌++◌, map, IsTrue, subst, sym, ap, ◌∙◌}
use Rattle.std.specs.FinMap.{is_sorted}
use Rattle.rc_mutation.specs.declared.fragments.Frag.TheVariants as frag
use Rattle.rc_mutation.specs.Fragments.{changes_of, fragments, in_order, place_order, placed_change, placed_row, static_fragment}
use Rattle.rc_mutation.specs.laws.FragMerge.{rows-placed, changes-placed}
use Rattle.rc_mutation.proofs.mutations.Mutation.fragments.Goals as goal

pub append_in_order-requires-clause-rows : goal.append_in_order-requires-clause-rows
append_in_order-requires-clause-rows c =
    subst (λ rs. IsTrue (is_sorted place_order (map placed_row rs))) (sym c.as_slice-2.ensures.value) (rows-placed c.args.self.now.rows c.as_slice-2.ensures.rows.ascend)

pub append_in_order-requires-clause-changes : goal.append_in_order-requires-clause-changes
append_in_order-requires-clause-changes c =
    subst (λ cs. IsTrue (is_sorted place_order (map placed_change cs))) (sym (c.deref.ensures.value ∙ c.in_ok-changes.ensures ∙ ap changes_of c.as_slice.ensures.value)) (changes-placed c.args.self.now.ranges c.as_slice.ensures.canonical)

pub returns : goal.returns
unfolding fragments
returns c =
    let m = c.args.self.now in
    let rows = c.as_slice-2.ensures.value in
    let changes = c.deref.ensures.value ∙ c.in_ok-changes.ensures ∙ ap changes_of c.as_slice.ensures.value in
    c.of.ensures
    ∙ c.in_ok-push-2.ensures.items
    ∙ ap (λ fs. fs ++ frag.End ∷ [])
    (c.in_ok-append_in_order.ensures
    ∙ (λ i. c.push_statics.new.made.items ++ in_order (map placed_row (rows i) ++ map placed_change (changes i)))
    ∙ ap (λ fs. fs ++ in_order (map placed_row m.rows ++ map placed_change (changes_of m.ranges)))
    (c.in_ok-push_statics.ensures ∙ (λ i. c.push.new.self.items ++ static_fragment (c.as_row.ensures.value i)) ∙ ap (λ fs. fs ++ static_fragment m.statics) (c.in_ok-push.ensures.items ∙ ap (λ fs. fs ++ frag.Start m.pt ∷ []) c.new-made.ensures.items)))
