use Rattle.rc_units.proofs.entries.put_under_gap.Goals as goal

pub returns : goal.returns
returns c = λ i. record {
  position = (c.in_ok-made.ensures i).position;
  row = (c.in_ok-made.ensures i).row;
  at = (c.in_ok-made.ensures i).at;
  gap = c.put_down-made.ensures.rule i;
}
