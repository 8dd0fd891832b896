-- What is joined by commas, printed piece by piece.
use Rattle.std.proofs.Common.{◌≡◌, ℕ, List, [], ◌∷◌, ◌++◌, sym, ap, map, append-nil, append_assoc, ◌∙◌}
use Rattle.std.specs.List.{flat_map, join_with_byte}
use Rattle.rc_schema.specs.declared.kinds.CkKind.{CkKind}
use Rattle.rc_schema.specs.SchemaText.{kind_text}

pub names_joined : (first : List ℕ) (rest : List (List ℕ)) → join_with_byte 44 (first ∷ rest) ≡ first ++ flat_map (λ name. 44 ∷ name) rest
names_joined first [] = sym (append-nil first)
names_joined first (name ∷ rest) = ap (λ text. first ++ (44 ∷ text)) (names_joined name rest)

pub kinds_joined : (first : CkKind) (rest : List CkKind) → join_with_byte 44 (map kind_text (first ∷ rest)) ≡ kind_text first ++ flat_map (λ kind. 44 ∷ kind_text kind) rest
kinds_joined first [] = sym (append-nil (kind_text first))
kinds_joined first (kind ∷ rest) = ap (λ text. kind_text first ++ (44 ∷ text)) (kinds_joined kind rest)

-- the same behind what was printed before
pub names_behind : (text first : List ℕ) (rest : List (List ℕ)) → (text ++ first) ++ flat_map (λ name. 44 ∷ name) rest ≡ text ++ join_with_byte 44 (first ∷ rest)
names_behind text first rest = append_assoc text first (flat_map (λ name. 44 ∷ name) rest) ∙ ap (λ more. text ++ more) (sym (names_joined first rest))

pub kinds_behind : (text : List ℕ) (first : CkKind) (rest : List CkKind) → (text ++ kind_text first) ++ flat_map (λ kind. 44 ∷ kind_text kind) rest ≡ text ++ join_with_byte 44 (map kind_text (first ∷ rest))
kinds_behind text first rest = append_assoc text (kind_text first) (flat_map (λ kind. 44 ∷ kind_text kind) rest) ∙ ap (λ more. text ++ more) (sym (kinds_joined first rest))
