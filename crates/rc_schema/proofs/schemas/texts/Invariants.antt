use Rattle.std.proofs.Common.{◌≡◌, take, map}
use Rattle.rc_schema.proofs.schemas.texts.Given as goal

abbrev pub invariant-loop-name : goal.invariant-loop-name
invariant-loop-name l = l.made.items ≡ map (λ name. name.now) (take l.name-index l.names)
