use Rattle.std.proofs.Common.{refl, ap, ◌∙◌, Some}
use Rattle.rc_items.specs.Blocks.{with_fragment}
use Rattle.rc_items.proofs.Outlines.{fragment_taken}
use Rattle.rc_items.proofs.outline.Outline.fragment.Goals as goal

pub returns-clause-outline : goal.returns-clause-outline
returns-clause-outline c = λ before item is f s.
    fragment_taken before item c.args.self.now _ c.args.x.now c.args.tomb c.args.size is f s c.in_ok-off.ensures.1 refl c.requires.opened refl refl (ap Some c.in_ok-copy-2.ensures) refl
    (c.in_ok-take_in.ensures ∙ (λ i. with_fragment c.args.self.now.blocks (record { off = c.args.self.now.off; len = c.in_ok-short.ensures.1 i; tomb = c.args.self.now.tomb; first = c.in_ok-copy.ensures i }))) refl
