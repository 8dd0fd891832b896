-- The parts that are read are those of the one position that has the code.
use Rattle.std.proofs.Common.{◌∷◌, sym, ap, ◌∙◌}
use Rattle.rc_rowcode.proofs.Comparing.{whole_pos}
use Rattle.rc_rowcode.proofs.compare.PosView.of_code.Goals as goal

pub returns : goal.returns
returns c = λ x fits e.
    whole_pos c.in-Some.weight c.in-Some-byte_at.count c.in-Some-byte_at.bytes.now c.weight_of.result x fits
    (ap (λ rest. c.in-Some.weight ∷ rest) (sym c.in-Some-byte_at.ensures) ∙ sym c.in-Some.ensures ∙ e) c.weight_of.ensures
