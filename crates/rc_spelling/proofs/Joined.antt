-- A key, printed component by component.
use Rattle.std.proofs.Common.{◌≡◌, ℕ, List, [], ◌∷◌, ◌++◌, sym, ap, append-nil, append_assoc, ◌∙◌}
use Rattle.std.specs.List.{flat_map}
use Rattle.rc_position.specs.declared.comps.Comp.{Comp}
use Rattle.rc_spelling.specs.Printed.{component_text, key_text}
use Rattle.rc_spelling.specs.calls.Joining.{other_component}

components_joined : (first : Comp) (rest : List Comp) → key_text (first ∷ rest) ≡ component_text first ++ flat_map other_component rest
components_joined first [] = sym (append-nil (component_text first))
components_joined first (next ∷ rest) = ap (λ text. component_text first ++ (44 ∷ text)) (components_joined next rest)

-- the same behind what was printed before
pub others_behind : (text : List ℕ) (first : Comp) (rest : List Comp) → (text ++ component_text first) ++ flat_map other_component rest ≡ text ++ key_text (first ∷ rest)
others_behind text first rest = append_assoc text (component_text first) (flat_map other_component rest) ∙ ap (λ more. text ++ more) (sym (components_joined first rest))
