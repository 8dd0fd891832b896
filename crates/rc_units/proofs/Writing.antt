-- What the plain functions make: one element after another, and in place.
use Rattle.std.specs.Prelude.{◌≡◌, ◌+◌, ◌<◌, ◌≤◌, ℕ, zero, suc, true, not, ◌==◌, List, [], ◌∷◌, ◌++◌, Option, drop, length, take, map as list_map}
use Rattle.std.proofs.Common.{refl, sym, ap, ◌∙◌, subst, arith, slice_index_or, slice_set}
use Rattle.std.proofs.lemmas.List.{take_all}
use Rattle.std.specs.Ordering.{is_lt}
use Rattle.rc_cell.specs.declared.rows.Row.{Row}
use Rattle.rc_cell.specs.declared.writes.Tomb.{Tomb}
use Rattle.rc_cell.specs.Winner.{joined_row}
use Rattle.rc_position.specs.declared.comps.Comp.{Comp}
use Rattle.rc_position.specs.declared.positions.Pos.{Pos}
use Rattle.rc_position.specs.declared.positions.Weight.{Weight}
use Rattle.rc_position.specs.declared.positions.Weight.TheVariants.{Before, At, After}
use Rattle.rc_position.specs.Position.{pos_cmp, prefix_cmp}
use Rattle.rc_core.specs.declared.entries.Flag.{Flag}
use Rattle.rc_core.specs.declared.entries.Flag.TheVariants.{Known, Unknown, Inherit}
use Rattle.rc_core.specs.declared.entries.Mark.{Mark}
use Rattle.rc_core.specs.SpotState.{SpotState, over, under}
use Rattle.rc_core.specs.Change.{mark}
use Rattle.rc_core.specs.Merge.{Alike}
use Rattle.rc_core.specs.Plain.{mark_state, mark_by, mark_under}
use Rattle.rc_core.specs.Version.{end_position}
use Rattle.rc_core.specs.laws.Losing.{tomb-alone}
use Rattle.rc_units.proofs.Under.{greater_says}

-- ---- each element made

pub all-made : {A B : Type 0} (f : A → B) (made : List B) (items : List A) (n : ℕ) → length items ≤ n → made ≡ list_map f (take n items) → made ≡ list_map f items
all-made f made items n le e = e ∙ ap (list_map f) (take_all n items le)

-- ---- elements written in place

pub step-set : {A : Type 0} (f : A → A) (xs ys : List A) (i : ℕ) (d y : A) → i < length xs → ys ≡ list_map f (take i xs) ++ drop i xs → y ≡ f (slice_index_or ys i d) → slice_set ys i y ≡ list_map f (take (i + 1) xs) ++ drop (i + 1) xs
step-set f xs ys i d y lt e h =
    let k : suc i ≡ i + 1 = omega arith in
    subst (λ k. slice_set ys i y ≡ list_map f (take k xs) ++ drop k xs) k
    (subst (λ zs. slice_set zs i y ≡ list_map f (take (suc i) xs) ++ drop (suc i) xs) (sym e)
    (subst (λ z. slice_set (list_map f (take i xs) ++ drop i xs) i z ≡ list_map f (take (suc i) xs) ++ drop (suc i) xs) (sym (h ∙ ap (λ zs. f (slice_index_or zs i d)) e)) (at_index f xs i d lt)))
  where
    at_index : {A : Type 0} (f : A → A) (xs : List A) (i : ℕ) (d : A) → i < length xs →
        slice_set (list_map f (take i xs) ++ drop i xs) i (f (slice_index_or (list_map f (take i xs) ++ drop i xs) i d)) ≡ list_map f (take (suc i) xs) ++ drop (suc i) xs
    at_index f [] i d lt = absurd (omega arith)
    at_index f (x ∷ xs) zero d lt = refl
    at_index f (x ∷ xs) (suc i) d lt = ap (λ zs. f x ∷ zs) (at_index f xs i d (omega arith))

pub whole-set : {A : Type 0} (f : A → A) (xs : List A) (i : ℕ) → length xs ≤ i → list_map f (take i xs) ++ drop i xs ≡ list_map f xs
whole-set f [] zero le = refl
whole-set f [] (suc i) le = refl
whole-set f (x ∷ xs) zero le = absurd (omega arith)
whole-set f (x ∷ xs) (suc i) le = ap (λ zs. f x ∷ zs) (whole-set f xs i (omega arith))

-- ---- marks that say the same are one

pub same-mark : (m n : Mark) (c : SpotState) → Alike (mark_state m) c → Alike (mark_state n) c → m ≡ n
same-mark m n c h k = λ i. mark ((h.0 ∙ sym k.0) i) ((sym (tomb-alone m.tomb) ∙ ap (λ (a : Row × Option Tomb). a.1) (h.1 ∙ sym k.1) ∙ tomb-alone n.tomb) i)

mark_alike : (f : Flag) (m : Mark) (t : Option Tomb) → Alike (mark_state (mark_by f m (mark f t))) (over f (mark_state m) (mark_state (mark f t)))
mark_alike Known m t = (refl, refl)
mark_alike Unknown m t = (refl, refl)
mark_alike Inherit m t = (refl, λ i. (joined_row [], greater_says m.tomb t i))

pub mark-down : (older newer m : Mark) → Alike (mark_state m) (under (mark_state older) (mark_state newer)) → m ≡ mark_under older newer
mark-down older newer m h = same-mark m (mark_under older newer) (under (mark_state older) (mark_state newer)) h (mark_alike newer.flag older newer.tomb)

-- ---- the end

before_by : (p : List Comp) (w : Weight) → (w ≡ After → ⊥) → true ≡ is_lt (prefix_cmp p w [] After)
before_by [] Before off = refl
before_by [] At off = refl
before_by [] After off = absurd (off refl)
before_by (c ∷ cs) w off = refl

-- a position that is not behind what begins with its prefix stands before the end
pub before-end : (x : Pos) → (x.weight ≡ After → ⊥) → true ≡ is_lt (pos_cmp x end_position)
unfolding pos_cmp
before-end x off = before_by x.prefix x.weight off

after_by : (p : List Comp) → not (length p == 0) ≡ is_lt (prefix_cmp p After [] After)
after_by [] = refl
after_by (c ∷ cs) = grind arith

-- one that is, stands before it where it has a prefix
pub after-end : (x : Pos) → x.weight ≡ After → not (length x.prefix == 0) ≡ is_lt (pos_cmp x end_position)
unfolding pos_cmp
after-end x h = after_by x.prefix ∙ ap (λ w. is_lt (prefix_cmp x.prefix w [] After)) (sym h)
