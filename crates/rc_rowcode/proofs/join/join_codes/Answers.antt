-- The parts of the two codes are those of the two rows, so what is put is the code of the joined row.
use Rattle.std.proofs.Common.{◌++◌, length, sym, ap, subst, ◌∙◌}
use Rattle.rc_cell.specs.declared.rows.Row.{Row}
use Rattle.rc_rowcode.specs.Spelling.{row_code}
use Rattle.rc_rowcode.specs.Space.{Space, HasRoom}
use Rattle.rc_rowcode.proofs.Joins.{seen_coded, joined_parts, few_of_heads}
use Rattle.rc_rowcode.proofs.join.join_codes.Goals as goal

pub put_parts-requires-clause-few : goal.put_parts-requires-clause-few
put_parts-requires-clause-few c =
    few_of_heads c.head_of-ours.result c.head_of-theirs.result
    (seen_coded c.head_of-ours.result c.requires.ours.0 (c.head_of-ours.ensures c.requires.ours.0 c.requires.ours.1 c.requires.ours.2) c.requires.ours.1)
    (seen_coded c.head_of-theirs.result c.requires.theirs.0 (c.head_of-theirs.ensures c.requires.theirs.0 c.requires.theirs.1 c.requires.theirs.2) c.requires.theirs.1)

pub put_parts-requires-clause-room : goal.put_parts-requires-clause-room
put_parts-requires-clause-room c =
    subst (λ (w : Row). HasRoom c.args.out.now (length (row_code w)))
    (sym (joined_parts c.head_of-ours.result c.head_of-theirs.result c.requires.ours.0 c.requires.theirs.0 c.greater_of-marker.ensures c.greater_of-tomb.ensures
    (c.head_of-ours.ensures c.requires.ours.0 c.requires.ours.1 c.requires.ours.2) (c.head_of-theirs.ensures c.requires.theirs.0 c.requires.theirs.1 c.requires.theirs.2)))
    (c.requires.room c.requires.ours.0 c.requires.theirs.0 c.requires.ours.1 c.requires.theirs.1 c.requires.ours.2 c.requires.theirs.2)

abbrev grown : Space → Row → Space
grown space w = record { bytes = space.bytes ++ row_code w; size = space.size }

pub returns : goal.returns
returns c = λ r q f g e h.
    c.put_parts.ensures
    ∙ ap (grown c.args.out.now) (joined_parts c.head_of-ours.result c.head_of-theirs.result r q c.greater_of-marker.ensures c.greater_of-tomb.ensures (c.head_of-ours.ensures r f e) (c.head_of-theirs.ensures q g h))
