-- How a component behind another is printed: what printing a whole key is cut into.
use Rattle.std.specs.Prelude.{ℕ, List, ◌∷◌}
use Rattle.rc_position.specs.declared.comps.Comp.{Comp}
use Rattle.rc_spelling.specs.Printed.{component_text}

-- a comma and a component
abbrev pub other_component : Comp → List ℕ
other_component component = 44 ∷ component_text component
