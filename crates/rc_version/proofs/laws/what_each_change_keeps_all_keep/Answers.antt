use Rattle.std.specs.Prelude.{Contains}
use Rattle.rc_version.specs.laws.Staying.{kept-then}
use Rattle.rc_version.proofs.laws.what_each_change_keeps_all_keep.Goals as goal

pub returns : goal.returns
returns c = λ n old mid new these a b. kept-then (Contains these) n old mid new a b
