-- Bytes are cut into whole lines and a rest in one way.
use Rattle.std.proofs.Common.{◌≡◌, ℕ, List, [], ◌∷◌, ◌++◌, refl, sym, ◌∙◌, append_assoc}
use Rattle.std.specs.List.{AllByRecursion}
use Rattle.std.specs.List.{flat_map}
use Rattle.rc_shell.specs.Lines.{IsLine, BeginsWithLines}

-- the bytes of whole lines, a newline behind each
abbrev pub joined_lines : List (List ℕ) → List ℕ
joined_lines lines = flat_map (λ line. line ++ 10 ∷ []) lines

-- the first newline ends the first line
first_line : (l m x y : List ℕ) → IsLine l → IsLine m → l ++ 10 ∷ x ≡ m ++ 10 ∷ y → (l ≡ m) × (x ≡ y)
first_line [] [] x y p q e = (refl, cc)
first_line [] (b ∷ m) x y p q e = absurd (q.0 (cc))
first_line (a ∷ l) [] x y p q e = absurd (p.0 (cc))
first_line (a ∷ l) (b ∷ m) x y p q e =
    let heads : a ≡ b = cc in
    let tails : l ++ 10 ∷ x ≡ m ++ 10 ∷ y = cc in
    let rest = first_line l m x y p.1 q.1 tails in
    (λ i. heads i ∷ rest.0 i, rest.1)

-- what has no newline holds no whole line
no_line : (rest l x : List ℕ) → IsLine rest → rest ≡ l ++ 10 ∷ x → ⊥
no_line [] [] x p e = cc
no_line [] (b ∷ l) x p e = cc
no_line (a ∷ rest) [] x p e = p.0 (cc)
no_line (a ∷ rest) (b ∷ l) x p e = let tails : rest ≡ l ++ 10 ∷ x = cc in no_line rest l x p.1 tails

grouped : (l : List ℕ) (ls : List (List ℕ)) (more : List ℕ) → joined_lines (l ∷ ls) ++ more ≡ l ++ 10 ∷ (joined_lines ls ++ more)
grouped l ls more = append_assoc (l ++ 10 ∷ []) (joined_lines ls) more ∙ append_assoc l (10 ∷ []) (joined_lines ls ++ more)

same : (ls ms : List (List ℕ)) (rest more : List ℕ) → AllByRecursion IsLine ls → AllByRecursion IsLine ms → IsLine rest → IsLine more
    → joined_lines ls ++ rest ≡ joined_lines ms ++ more → (ls ≡ ms) × (rest ≡ more)
same [] [] rest more p q r s e = (refl, e)
same [] (m ∷ ms) rest more p q r s e = absurd (no_line rest m (joined_lines ms ++ more) r (e ∙ grouped m ms more))
same (l ∷ ls) [] rest more p q r s e = absurd (no_line more l (joined_lines ls ++ rest) s (sym e ∙ grouped l ls rest))
same (l ∷ ls) (m ∷ ms) rest more p q r s e =
    let first = first_line l m (joined_lines ls ++ rest) (joined_lines ms ++ more) p.0 q.0 (sym (grouped l ls rest) ∙ e ∙ grouped m ms more) in
    let later = same ls ms rest more p.1 q.1 r s first.1 in
    (λ i. first.0 i ∷ later.0 i, later.1)

pub lines_are_determined_lem : (bytes : List ℕ) (lines others : List (List ℕ)) (rest more : List ℕ) → BeginsWithLines bytes lines rest → IsLine rest → BeginsWithLines bytes others more → IsLine more → (lines ≡ others) × (rest ≡ more)
lines_are_determined_lem bytes lines others rest more p r q s = same lines others rest more p.1 q.1 r s (sym p.0 ∙ q.0)
