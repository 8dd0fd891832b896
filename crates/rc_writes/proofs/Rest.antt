-- A list is walked from its front: all hold where those that are left do.
use Rattle.std.proofs.Common.{◌≡◌, zero, suc, ◌-◌, ◌≤◌, List, [], ◌∷◌, length, get_or, take, drop, sym, subst, arith}
use Rattle.std.specs.Prelude.{All, ◌↔◌}
use Rattle.std.proofs.lemmas.List.{take_rest}

first_and_more : {X : Type 0} (P : X → Type 0) (x : X) (xs : List X) → P x → All P xs → All P (x ∷ xs)
first_and_more P x xs p h zero d lt = p
first_and_more P x xs p h (suc k) d lt = h k d (omega (arith, lt))

-- the first is settled, so all hold where the rest do
all_behind : {X : Type 0} (P : X → Type 0) (xs ys : List X) (x : X) → 1 ≤ length xs → x ≡ get_or xs 0 x → P x → All P ys ↔ All P xs → All P ys ↔ All P (drop 1 xs)
all_behind P [] ys x n e p both = absurd (omega (arith, n))
all_behind P (y ∷ xs) ys x n e p both = (λ h k d lt. both.0 h (suc k) d (omega (arith, lt)), λ h. both.1 (first_and_more P y xs (subst P e p) h))

pub all_rest : {X : Type 0} (P : X → Type 0) (xs ys : List X) (x : X) → 1 ≤ length xs → x ≡ get_or xs 0 x → P x → All P ys ↔ All P xs → All P ys ↔ All P (take (length xs - 1) (drop 1 xs))
all_rest P xs ys x n e p both = subst (λ t. All P ys ↔ All P t) (sym (take_rest xs 1)) (all_behind P xs ys x n e p both)
