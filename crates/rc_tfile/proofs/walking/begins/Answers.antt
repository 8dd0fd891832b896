-- The front of the bytes decides.
use Rattle.std.proofs.Common.{length, drop}
use Rattle.std.proofs.lemmas.Slice.Eq.{starts_is}
use Rattle.std.proofs.lemmas.Bool.Decides.{Decides-eqb}
use Rattle.rc_tfile.proofs.walking.begins.Goals as goal

pub returns : goal.returns
returns c =
    let is = starts_is Decides-eqb c.args.bytes.now c.args.code.now c.starts_with.result c.starts_with.ensures.value in
    (λ t. (drop (length c.args.code.now) c.args.bytes.now, is.0 t), λ found. is.1 found.0 found.1)
