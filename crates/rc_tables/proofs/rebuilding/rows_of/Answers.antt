-- One row more, an empty one, or the end.
use Rattle.std.proofs.Common.{◌≡◌, true, false, ap, sym, ◌∙◌, Some}
use Rattle.rc_tables.proofs.Apart.{first_written, one_joined, all_joined}
use Rattle.rc_tables.proofs.rebuilding.rows_of.Goals as goal

pub returns-then-not-branch : goal.returns-then-not-branch
returns-then-not-branch c = λ is.
    let ok : c.in_ok-take_row.field-0 ≡ true = c.in_ok-take_row.ensures.written (first_written c.first-item.result c.loop-left.left.now c.in-len1-up.len_at_least c.first-item.is (c.loop-left.invariant.1 is.written)) in
    absurd (let q : false ≡ true = sym c.if-not-branch.true ∙ ok in cc)

pub loop-left-preserved : goal.loop-left-preserved
loop-left-preserved c =
    one_joined c.args.frags.now c.loop-left.left.now c.first-item.result c.loop-left.rows c.take_row.new.rows c.in-len1-up.len_at_least c.first-item.is
    (c.in_ok-take_row.ensures.taken c.if-not-branch.false) c.loop-left.invariant

pub returns : goal.returns
returns c = λ is. ap Some (all_joined c.args.frags.now c.loop-left.left.now c.loop-left.rows c.in_default.len_below c.as_slice-rows.ensures.rows is c.loop-left.invariant.0)
