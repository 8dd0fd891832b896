use Rattle.std.proofs.Common.{sym, ◌∙◌}
use Rattle.rc_spelling.proofs.Pieces.{first_seen, none_seen, all_seen}
use Rattle.rc_spelling.proofs.reading.read_first.Goals as goal

pub returns-then-not-are_components : goal.returns-then-not-are_components
returns-then-not-are_components c = sym (none_seen (λ piece. piece.now) c.args.most c.args.pieces.now _ c.split_at.ensures.back (sym c.are_components.ensures ∙ c.if-not-are_components.true))

pub returns : goal.returns
returns c = rw (first_seen (λ piece. piece.now) c.args.most c.args.pieces.now _ _ c.split_at.ensures.front c.split_at.ensures.back (sym c.are_components.ensures ∙ c.if-not-are_components.false)) c.read_pieces-2.ensures

pub returns-then-pieces-most : goal.returns-then-pieces-most
returns-then-pieces-most c = rw (all_seen (λ piece. piece.now) c.args.most c.args.pieces.now c.if-pieces-most.true) c.read_pieces.ensures
