-- The part, then the canonical fragments, which are within the limits.
use Rattle.std.proofs.Common.{subst, sym, ◌∙◌}
use Rattle.std.specs.Prelude.{All}
use Rattle.rc_tfile.specs.calls.Limits.{FragFits}
use Rattle.rc_tfile.proofs.Limiting.{fragments_fit}
use Rattle.rc_tfile.proofs.writing.spell_part.Goals as goal

pub spell_fragments-requires-clause-fit : goal.spell_fragments-requires-clause-fit
spell_fragments-requires-clause-fit c = subst (λ fs. All FragFits fs) (sym (c.as_slice.ensures ∙ c.in_ok-list.ensures)) (fragments_fit c.args.part.now.change c.holds_together.ensures c.requires)
