use Rattle.std.proofs.Common.{is_some, sym, ap, ◌∙◌}
use Rattle.rc_partition.proofs.walks.named.Goals as goal

pub unreachable-requires : goal.unreachable-requires
unreachable-requires g c = let clash = sym c.requires.set ∙ ap is_some (sym c.object_at.ensures ∙ c.in-None.is) in cc
