use Rattle.std.proofs.Common.{refl, ◌∙◌, arith}
use Rattle.rc_object.proofs.PutFields.{head_put}
use Rattle.rc_object.proofs.heads.head_bytes.Goals as goal

pub returns-clause-spells : goal.returns-clause-spells
returns-clause-spells c =
    let h = head_put _ _ _ _ _ _ _ _ _ c.put.ensures.put c.put-2.ensures.put c.put-3.ensures.put c.put-4.ensures.put in record {
      kind = refl;
      long = omega arith;
      flags = h.flags_is ∙ cc (c.tomb_parts-present.ensures.present, c.flag_bits.ensures.value);
      deletion = h.deletion_is ∙ c.tomb_parts-present.ensures.deletion;
      timestamp = h.timestamp_is ∙ c.tomb_parts-present.ensures.timestamp;
      phase = h.phase_is;
      tomb = c.tomb_parts-present.ensures.coded;
    }

pub returns-clause-level : goal.returns-clause-level
returns-clause-level c = (head_put _ _ _ _ _ _ _ _ _ c.put.ensures.put c.put-2.ensures.put c.put-3.ensures.put c.put-4.ensures.put).level
