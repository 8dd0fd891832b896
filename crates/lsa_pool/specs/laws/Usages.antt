-- Laws of a pool's usages: which segments are there, how one change of a list shows, and which closed segment is the sparsest.
use Rattle.std.proofs.Common.{◌≡◌, ◌≢◌, ℕ, zero, suc, ◌<◌, ◌≤◌, Bool, true, false, not, ◌&&◌, ◌||◌, cond, List, [], ◌∷◌, length, get_or, Option, Some, None, refl, sym, ap, ◌∙◌, subst, arith, inl, inr, ◌⊎◌}
use Rattle.std.specs.Prelude.{nat_lt, nat_le}
use Rattle.std.specs.List.{position, list_all}
use Rattle.std.proofs.Math.ListN.{set}
use Rattle.std.proofs.lemmas.Bool.{lt-ltb, le-ltb, le-leb, lt-leb}
use Rattle.std.proofs.lemmas.List.{get_or-set_same, get_or-set_other}
use Rattle.std.proofs.lemmas.List.Folds.{list_all_at}
use Rattle.std.proofs.lemmas.List.Quantifiers.{position-Some}
use Rattle.std.proofs.lemmas.List.Sums.{position_or_len_is}
use Rattle.lsa_pool.specs.declared.State.{State}
use Rattle.lsa_pool.specs.declared.State.TheVariants.{Free, Active, Closed}
use Rattle.lsa_pool.specs.declared.Usage.{Usage}
use Rattle.lsa_pool.specs.Room.{nothing, usage_of, active_of, is_state_active, is_state_closed, is_sparsest, sparsest_of}
use Rattle.lsa_pool.specs.calls.Sparsest.{IsBest}

-- a segment that is not free is in the list
pub within : (us : List Usage) (n : ℕ) → (usage_of us n).state ≢ Free → n < length us
within [] n h = absurd (h refl)
within (u ∷ us) zero h = omega arith
within (u ∷ us) (suc n) h = omega (arith, within us n h)

pub decided : (m n : ℕ) → (m ≡ n) ⊎ (m ≢ n)
decided zero zero = inl refl
decided zero (suc n) = inr (omega arith)
decided (suc m) zero = inr (omega arith)
decided (suc m) (suc n) = elim (decided m n) [ inl e ↦ inl (ap (λ k. suc k) e) | inr e ↦ inr (λ x. e (omega arith)) ]

-- what holds of the new element at its index and of the old ones elsewhere holds of each
pub set_elim : {X : Type 0} (d : X) (P : ℕ → X → Type 0) (xs : List X) (n : ℕ) (x : X) (m : ℕ) → n < length xs → P n x → (m ≢ n → P m (get_or xs m d)) → P m (get_or (set xs n x) m d)
set_elim d P xs n x m lt here there = elim (decided m n) [
  | inl e ↦ subst (λ k. P k (get_or (set xs n x) k d)) (sym e) (subst (P n) (sym (get_or-set_same xs n x d lt)) here)
  | inr e ↦ subst (P m) (sym (get_or-set_other xs n m x d e)) (there e)
]

pub position-at : (p : Usage → Bool) (us : List Usage) (n : ℕ) → n < length us → p (usage_of us n) ≡ true → ((k : ℕ) → k < n → p (usage_of us k) ≡ false) → position p us ≡ Some n
position-at p us n lt here before =
    ap (λ k. cond (nat_lt k (length us)) (Some k) None) (position_or_len_is p us n nothing (omega arith) before (λ _. here)) ∙ ap (λ b. cond b (Some n) None) (lt-ltb n (length us) lt)

pub position-none : (p : Usage → Bool) (us : List Usage) → ((k : ℕ) → k < length us → p (usage_of us k) ≡ false) → position p us ≡ None
position-none p us none =
    ap (λ k. cond (nat_lt k (length us)) (Some k) None) (position_or_len_is p us (length us) nothing (omega arith) none (λ h. absurd (omega arith)))
    ∙ ap (λ b. cond b (Some (length us)) None) (le-ltb (length us) (length us) (omega arith))

not_closed : (s : State) → (s ≡ Closed → ⊥) → is_state_closed s ≡ false
not_closed Free h = refl
not_closed Active h = refl
not_closed Closed h = absurd (h refl)

list_all-each : (p : Usage → Bool) (us : List Usage) → ((k : ℕ) → k < length us → p (usage_of us k) ≡ true) → list_all p us ≡ true
list_all-each p [] each = refl
list_all-each p (u ∷ us) each = let first = each 0 (omega arith) in let others = list_all-each p us (λ k lt. each (suc k) (omega arith)) in
    ap (λ b. b && list_all p us) first ∙ others

passes : (s : State) (b : Bool) → (s ≡ Closed → b ≡ true) → (not (is_state_closed s) || b) ≡ true
passes Free b h = refl
passes Active b h = refl
passes Closed b h = h refl

and-no : (a b : Bool) → b ≡ false → (a && b) ≡ false
and-no true b h = h
and-no false b h = refl

closed_or_not : (s : State) → (s ≡ Closed) ⊎ (s ≡ Closed → ⊥)
closed_or_not Free = inr (λ e. cc)
closed_or_not Active = inr (λ e. cc)
closed_or_not Closed = inl refl

is_sparsest-no : (us : List Usage) (u : Usage) → (u.state ≡ Closed → ⊥) → is_sparsest us u ≡ false
is_sparsest-no us u h = ap (λ b. b && list_all (λ other. not (is_state_closed other.state) || nat_le u.live other.live) us) (not_closed u.state h)

is_sparsest-yes : (us : List Usage) (u : Usage) → u.state ≡ Closed → ((k : ℕ) → k < length us → (usage_of us k).state ≡ Closed → u.live ≤ (usage_of us k).live) → is_sparsest us u ≡ true
is_sparsest-yes us u closed least =
    ap (λ b. b && list_all (λ other. not (is_state_closed other.state) || nat_le u.live other.live) us) (ap is_state_closed closed)
    ∙ list_all-each (λ other. not (is_state_closed other.state) || nat_le u.live other.live) us
    (λ k lt. passes (usage_of us k).state (nat_le u.live (usage_of us k).live) (λ e. le-leb u.live (usage_of us k).live (least k lt e)))

is_sparsest-beaten : (us : List Usage) (u : Usage) (n : ℕ) → n < length us → (usage_of us n).state ≡ Closed → (usage_of us n).live < u.live → is_sparsest us u ≡ false
is_sparsest-beaten us u n lt closed less =
    and-no (is_state_closed u.state) _ (list_all_at (λ other. not (is_state_closed other.state) || nat_le u.live other.live) us n nothing lt
    (ap (λ s. not (is_state_closed s) || nat_le u.live (usage_of us n).live) closed ∙ lt-leb u.live (usage_of us n).live less))

pub sparsest-best : (us : List Usage) (best : Option ℕ) → IsBest us (length us) best → sparsest_of us ≡ best
sparsest-best us None none = position-none (is_sparsest us) us (λ k lt. is_sparsest-no us (usage_of us k) (none k lt))
sparsest-best us (Some n) best =
    position-at (is_sparsest us) us n best.below (is_sparsest-yes us (usage_of us n) best.closed best.least)
    (λ k lt. elim (closed_or_not (usage_of us k).state) [
      | inl e ↦ is_sparsest-beaten us (usage_of us k) n best.below best.closed (best.first k lt e)
      | inr e ↦ is_sparsest-no us (usage_of us k) e
    ])

is_closed : (s : State) → is_state_closed s ≡ true → s ≡ Closed
is_closed Free e = cc
is_closed Active e = cc
is_closed Closed e = refl

is_active_state : (s : State) → is_state_active s ≡ true → s ≡ Active
is_active_state Free e = cc
is_active_state Active e = refl
is_active_state Closed e = cc

pub active-state : (us : List Usage) (n : ℕ) → active_of us ≡ Some n → (usage_of us n).state ≡ Active
active-state us n e = is_active_state (usage_of us n).state (position-Some (λ u. is_state_active u.state) us n nothing e).1

-- a closed segment is one of the list, and not the active one
pub closed-inside : (us : List Usage) (n : ℕ) → (usage_of us n).state ≡ Closed → n < length us
closed-inside [] n e = cc
closed-inside (u ∷ us) zero e = omega arith
closed-inside (u ∷ us) (suc n) e = omega (arith, closed-inside us n e)

both_true : (a b : Bool) → a && b ≡ true → a ≡ true
both_true true b e = refl
both_true false b e = cc

pub sparsest-closed : (us : List Usage) (u : Usage) → is_sparsest us u ≡ true → u.state ≡ Closed
sparsest-closed us u e = is_closed u.state (both_true (is_state_closed u.state) (list_all (λ other. not (is_state_closed other.state) || nat_le u.live other.live) us) e)
