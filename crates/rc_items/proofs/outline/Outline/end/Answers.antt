-- The partition's entry comes behind those that are listed.
use Rattle.std.proofs.Common.{rules, refl, ap, ◌∙◌, ◌++◌, ◌∷◌, [], sym, Some}
use Rattle.rc_items.proofs.Outlines.{ended}
use Rattle.rc_items.proofs.outline.Outline.end.Goals as goal

pub returns-clause-outline : goal.returns-clause-outline
returns-clause-outline c = λ before is.
    ended before c.args.self.now _ c.in_ok-key.key is (c.in-Some.is ∙ ap Some (sym c.in_ok-key.ensures)) c.in_ok-off.ensures.1 refl refl refl refl refl (search rules)
    (c.in_ok-push.ensures.items ∙ (λ i. c.args.self.now.listed.items ++ (c.new.ensures ∙ (λ j. record { key = c.in_ok-key.key; off = c.args.self.now.part; blocks = c.replace-blocks.ensures.value j })) i ∷ []))
