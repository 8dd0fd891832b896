use Rattle.rc_agreement.proofs.Known.{seen-agrees}
use Rattle.rc_agreement.proofs.laws.an_agreement_stays.Goals as goal

pub returns : goal.returns
returns c = record {
  moved = λ m n s writes u a. seen-agrees m n s writes (c.a_snapshot_stays_where_objects_move.ensures.versions m n s u) (c.a_snapshot_stays_where_objects_move.ensures.kind m n s u) a;
  seen = λ m n s writes k a. seen-agrees m n s writes k.versions k.kind a;
}
