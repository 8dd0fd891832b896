-- Texts are the same where neither is above the other.
use Rattle.std.proofs.Common.{refl}
use Rattle.std.specs.Ordering.{eq_by_cmp}
use Rattle.std.proofs.lemmas.Slice.Eq.{slice_eq-Decides}
use Rattle.rc_position.specs.Position.{bytes_cmp}
use Rattle.rc_position.specs.laws.Orders.{bytes_cmp_total, bytes_cmp_same, eq_by_cmp-same}
use Rattle.rc_schema.proofs.schemas.are_same_names.Goals as goal

pub returns : goal.returns
returns c = slice_eq-Decides {E = eq_by_cmp bytes_cmp} (λ a b. eq_by_cmp-same bytes_cmp_total bytes_cmp_same a b (eq_by_cmp bytes_cmp a b) refl) c.args.names.now c.args.others.now c.eq.result c.eq.ensures
