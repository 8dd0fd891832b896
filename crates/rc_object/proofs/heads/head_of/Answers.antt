use Rattle.std.proofs.Common.{◌∙◌}
use Rattle.lsa_region.specs.Region.{body}
use Rattle.rc_object.specs.laws.Spelled.{seen_head, head_bits, head_is}
use Rattle.rc_object.proofs.heads.head_of.Goals as goal

pub returns : goal.returns
returns g c = λ h holds.
    let w = seen_head (body c.args.region.now c.args.v) h c.bytes-bytes.result.now holds c.bytes-bytes.ensures in
    let bits = head_bits c.get-flags.result h (c.get-flags.ensures ∙ w.flags) in
    head_is h _ _ _
    (c.tomb_from.ensures h.partition_tombstone w.tomb bits.0 (c.get-timestamp.ensures ∙ w.timestamp) (c.get-deletion.ensures ∙ w.deletion))
    (c.flag_from.ensures h.static_flag bits.1)
    (c.get.ensures ∙ w.phase)
