use Rattle.std.proofs.Common.{◌∙◌}
use Rattle.lsa_segment.proofs.Held.{known-used}
use Rattle.lsa_segment.proofs.segments.Segments.count.Goals as goal

pub returns : goal.returns
returns g c = c.len.ensures ∙ c.self.inside.used.ok.0 ∙ known-used g.row.S c.self.inside.used.items c.self.inside.block c.args.self.now c.self.view_is
