use Rattle.rc_core.specs.laws.Folding.{flagged-through, content-through}
use Rattle.rc_core.proofs.laws.seeing.the_fold_is_what_is_seen.Goals as goal

pub returns : goal.returns
returns c = record { flag = flagged-through; content = content-through }
