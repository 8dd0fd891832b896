-- What words list, over what references point to.
use Rattle.std.proofs.Common.{◌≡◌, ℕ, suc, Bool, ◌&&◌, ◌∙◌, List, [], ◌∷◌, ◌++◌, length, Bor, refl, ap, map}
use Rattle.std.specs.List.{list_all}
use Rattle.rc_schema.specs.calls.Tests.{is_kind, kind_named, are_listed}
use Rattle.rc_schema.specs.SchemaValue.{are_few, are_names}
use Rattle.rc_schema.proofs.Seen.{all_seen, lengths_seen}

abbrev now : Bor (List ℕ) → List ℕ
now x = x.now

kinds_length : (xs : List (List ℕ)) → length (map kind_named xs) ≡ length xs
kinds_length [] = refl
kinds_length (x ∷ xs) = ap (λ (n : ℕ). suc n) (kinds_length xs)

-- the same of few numbers
few_same : (a b c d e f : ℕ) → a ≡ b → c ≡ d → e ≡ f → are_few a c e ≡ are_few b d f
few_same a b c d e f p q r = cc

pub listed_seen : (ck statics cols : List (Bor (List ℕ))) →
    are_listed (map now ck) (map now statics) (map now cols)
    ≡ list_all (λ x. is_kind x.now) ck && (are_few (length ck) (length statics) (length cols) && are_names (map now statics ++ map now cols))
listed_seen ck statics cols =
    let names = are_names (map now statics ++ map now cols) in
    let few = few_same (length (map kind_named (map now ck))) (length ck) (length (map now statics)) (length statics) (length (map now cols)) (length cols)
    (kinds_length (map now ck) ∙ lengths_seen ck) (lengths_seen statics) (lengths_seen cols) in
    ap (λ (b : Bool). b && (are_few (length (map kind_named (map now ck))) (length (map now statics)) (length (map now cols)) && names)) (all_seen is_kind ck)
    ∙ ap (λ (b : Bool). list_all (λ x. is_kind x.now) ck && (b && names)) few
