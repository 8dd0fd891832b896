use Rattle.std.proofs.Common.{◌∙◌}
use Rattle.rc_object.proofs.PutFields.{marks_put}
use Rattle.rc_object.proofs.bytes.put_marks.Goals as goal

pub returns-clause-marks : goal.returns-clause-marks
returns-clause-marks c =
    let h = marks_put _ _ _ _ _ _ _ _ _ _ _ c.put.ensures.put c.put-2.ensures.put c.put-3.ensures.put c.put-4.ensures.put c.put-5.ensures.put in record {
      flags = h.flags_is ∙ cc (c.flag_bits.ensures.value, c.flag_bits-2.ensures.value, c.tomb_parts-at_there.ensures.present, c.tomb_parts-gap_there.ensures.present);
      deletion_at = h.deletion_is ∙ c.tomb_parts-at_there.ensures.deletion;
      timestamp_at = h.timestamp_is ∙ c.tomb_parts-at_there.ensures.timestamp;
      timestamp_gap = h.gap_timestamp_is ∙ c.tomb_parts-gap_there.ensures.timestamp;
      deletion_gap = h.gap_deletion_is ∙ c.tomb_parts-gap_there.ensures.deletion;
      tomb_at = c.tomb_parts-at_there.ensures.coded;
      tomb_gap = c.tomb_parts-gap_there.ensures.coded;
    }

pub returns-clause-level : goal.returns-clause-level
returns-clause-level c = (marks_put _ _ _ _ _ _ _ _ _ _ _ c.put.ensures.put c.put-2.ensures.put c.put-3.ensures.put c.put-4.ensures.put c.put-5.ensures.put).level

pub returns-clause-rest : goal.returns-clause-rest
returns-clause-rest c = (marks_put _ _ _ _ _ _ _ _ _ _ _ c.put.ensures.put c.put-2.ensures.put c.put-3.ensures.put c.put-4.ensures.put c.put-5.ensures.put).rest
