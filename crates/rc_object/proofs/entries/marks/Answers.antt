use Rattle.std.proofs.Common.{◌∙◌, arith}
use Rattle.lsa_region.specs.Region.{body}
use Rattle.rc_object.specs.laws.Spelled.{seen_entry, entry_long, entry_bits, deletion_small, mark_is}
use Rattle.rc_object.proofs.entries.marks.Goals as goal

pub get-gap_timestamp-requires-clause-inside : goal.get-gap_timestamp-requires-clause-inside
get-gap_timestamp-requires-clause-inside g c =
    let w = seen_entry (body c.args.region.now c.args.e) c.requires.0 c.bytes-bytes.result.now c.requires.1 c.bytes-bytes.ensures in omega (arith, entry_long _ c.requires.0 w)

pub get-gap_deletion-requires-clause-inside : goal.get-gap_deletion-requires-clause-inside
get-gap_deletion-requires-clause-inside g c =
    let w = seen_entry (body c.args.region.now c.args.e) c.requires.0 c.bytes-bytes.result.now c.requires.1 c.bytes-bytes.ensures in omega (arith, entry_long _ c.requires.0 w)

pub tomb_from-requires : goal.tomb_from-requires
tomb_from-requires g c =
    let w = seen_entry (body c.args.region.now c.args.e) c.requires.0 c.bytes-bytes.result.now c.requires.1 c.bytes-bytes.ensures in
    omega (arith, c.get-at_deletion.ensures, w.marks.deletion_at, deletion_small c.requires.0.at.tomb w.marks.tomb_at)

pub tomb_from-requires-2 : goal.tomb_from-requires-2
tomb_from-requires-2 g c =
    let w = seen_entry (body c.args.region.now c.args.e) c.requires.0 c.bytes-bytes.result.now c.requires.1 c.bytes-bytes.ensures in
    omega (arith, c.get-gap_deletion.ensures, w.marks.deletion_gap, deletion_small c.requires.0.gap.tomb w.marks.tomb_gap)

pub returns : goal.returns
returns g c = λ x holds.
    let w = (seen_entry (body c.args.region.now c.args.e) x c.bytes-bytes.result.now holds c.bytes-bytes.ensures).marks in
    let bits = entry_bits c.get-flags.result x.at x.gap (c.get-flags.ensures ∙ w.flags) in (
      mark_is x.at _ _
          (c.flag_from.ensures x.at.flag bits.at_flag)
          (c.tomb_from.ensures x.at.tomb w.tomb_at bits.at_tomb (c.get-at_timestamp.ensures ∙ w.timestamp_at) (c.get-at_deletion.ensures ∙ w.deletion_at)),
      mark_is x.gap _ _
          (c.flag_from-2.ensures x.gap.flag bits.gap_flag)
          (c.tomb_from-2.ensures x.gap.tomb w.tomb_gap bits.gap_tomb (c.get-gap_timestamp.ensures ∙ w.timestamp_gap) (c.get-gap_deletion.ensures ∙ w.deletion_gap)),
    )
