use Rattle.std.proofs.Common.{◌≡◌, ◌∷◌, ◌++◌, take}
use Rattle.std.specs.List.{flat_map}
use Rattle.rc_schema.specs.SchemaText.{kind_text}
use Rattle.rc_schema.proofs.printing.print_more_kinds.Given as goal

abbrev pub invariant-loop-kind : goal.invariant-loop-kind
invariant-loop-kind l = l.text.items ≡ l.initial.text.items ++ flat_map (λ kind. 44 ∷ kind_text kind) (take l.kind-index l.kinds)
