-- What was taken out comes back, longer or followed by the new block.
use Rattle.std.proofs.Common.{◌≡◌, ◌++◌, ◌∷◌, [], List, sym, ap, subst, ◌∙◌}
use Rattle.std.specs.List.{AllByRecursion}
use Rattle.rc_rowcode.specs.Spelling.{KeyFits}
use Rattle.rc_items.specs.declared.blocks.Block.{Block}
use Rattle.rc_items.specs.Blocks.{with_fragment}
use Rattle.rc_items.proofs.Grouping.{joins_last, begins_behind, all_more, all_front}
use Rattle.rc_items.proofs.blocks.Blocks.take_in.Goals as goal

pub returns-in_ok-push-in-Some : goal.returns-in_ok-push-in-Some
returns-in_ok-push-in-Some c =
    let old : c.args.self.now ≡ c.pop.new.self.items ++ c.in-Some.last ∷ [] = ◌∙◌ {A = List Block} (sym c.self.view_is) c.in-Some.ensures.items in
    c.in_ok-push-in-Some.ensures.items ∙ ap (λ b. c.pop.new.self.items ++ b ∷ []) c.joined.ensures
    ∙ sym (joins_last c.pop.new.self.items c.in-Some.last c.args.new (sym c.may_join.ensures ∙ c.if-may_join.true))
    ∙ ap (λ bs. with_fragment bs c.args.new) (sym old)

pub returns-in_ok-push-in-Some-3 : goal.returns-in_ok-push-in-Some-3
returns-in_ok-push-in-Some-3 c =
    let old : c.args.self.now ≡ c.pop.new.self.items ++ c.in-Some.last ∷ [] = ◌∙◌ {A = List Block} (sym c.self.view_is) c.in-Some.ensures.items in
    c.in_ok-push-in-Some-3.ensures.items ∙ ap (λ bs. bs ++ c.args.new ∷ []) c.in_ok-push-in-Some-2.ensures.items
    ∙ sym (begins_behind c.pop.new.self.items c.in-Some.last c.args.new (sym c.may_join.ensures ∙ c.if-may_join.false))
    ∙ ap (λ bs. with_fragment bs c.args.new) (sym old)

pub invariant_of-self-then-may_join : goal.invariant_of-self-then-may_join
invariant_of-self-then-may_join c =
    let P : Block → Type 0 = λ x. KeyFits x.first.prefix in
    let parts = all_front P c.pop.new.self.items c.in-Some.last (subst (λ (bs : List Block). AllByRecursion P bs) c.in-Some.ensures.items c.self.invariant) in
    subst (λ (bs : List Block). AllByRecursion P bs) (sym c.in_ok-push-in-Some.ensures.items) (all_more P c.pop.new.self.items c.joined.result parts.0 (subst P (sym c.joined.ensures) parts.1))
