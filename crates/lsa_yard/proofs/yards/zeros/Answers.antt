use Rattle.std.proofs.lemmas.List.{take-replicate}
use Rattle.lsa_yard.proofs.yards.zeros.Goals as goal

pub returns : goal.returns
returns c = take-replicate c.args.count 40 0 c.requires
