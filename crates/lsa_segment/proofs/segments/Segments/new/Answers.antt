use Rattle.std.proofs.Common.{ℕ, Option, None, ◌*◌, length, ap, ◌∙◌}
use Rattle.std.proofs.lemmas.List.{length-replicate}
use Rattle.lsa_segment.proofs.Held.{none_held}
use Rattle.lsa_segment.proofs.segments.Segments.new.Goals as goal

pub returns : goal.returns
returns g c = (none_held g.row.S c.args.count c.in_ok-zeros.field-0.items c.in_ok-new.field-0 c.in_ok-zeros.ensures (ap length c.in_ok-new.ensures ∙ length-replicate {A = Option ℕ} (c.args.count * g.row.S) None) c.requires.few c.requires.small).1
