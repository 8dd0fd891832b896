-- A region is tight exactly where the search for a sparse segment finds none; how much of it is live then.
use Rattle.std.proofs.Common.{◌≡◌, ◌≢◌, ℕ, zero, suc, ◌+◌, ◌-◌, ◌*◌, ◌/◌, ◌<◌, ◌≤◌, Bool, false, List, [], ◌∷◌, length, cond, Option, Some, None, inl, inr, refl, sym, ap, ◌∙◌, subst, arith}
use Rattle.std.specs.Prelude.{nat_le, count_by, IsSome}
use Rattle.std.specs.Option.{option_and_then}
use Rattle.std.proofs.lemmas.Bool.Decides.{leb_tells}
use Rattle.std.proofs.Math.ListN.{set}
use Rattle.std.proofs.lemmas.List.Sums.{sum_by-cons, sum_by-set}
use Rattle.lsa_pool.specs.declared.Usage.{Usage}
use Rattle.lsa_pool.specs.declared.State.{State}
use Rattle.lsa_pool.specs.declared.State.TheVariants.{Free, Active, Closed}
use Rattle.lsa_pool.specs.Account.{IsSound}
use Rattle.lsa_pool.specs.Room.{nothing, usage_of, is_state_free, is_state_active, is_state_closed, free_count, live_sum, active_of, spare_of}
use Rattle.lsa_pool.specs.calls.Sparsest.{IsBest}
use Rattle.lsa_pool.specs.laws.Usages.{within, set_elim, sparsest-best, active-state, closed-inside}
use Rattle.lsa_region.specs.Stock.{sparse_of}
use Rattle.lsa_region.specs.Sparse.{sparse-is}
use Rattle.lsa_move.specs.Room.{Tight, closed_count}

-- ---- there is a best segment below each number

kept : (us : List Usage) (k : ℕ) (best : Option ℕ) → IsBest us k best → (usage_of us k).state ≢ Closed → IsBest us (suc k) best
kept us k None is other = λ j lt. elim (leb_tells k j) [
  | inl w ↦ subst (λ n. (usage_of us n).state ≢ Closed) (omega (arith, lt, w.1)) other
  | inr w ↦ is j w.1
]
kept us k (Some m) is other = record {
  below = omega (arith, is.below);
  closed = is.closed;
  least = λ j lt e. elim (leb_tells k j) [
    | inl w ↦ absurd (other (ap (λ n. (usage_of us n).state) (omega (arith, lt, w.1)) ∙ e))
    | inr w ↦ is.least j w.1 e
  ];
  first = is.first;
}

same-live : (us : List Usage) (j k : ℕ) → j < suc k → k ≤ j → (usage_of us k).live ≡ (usage_of us j).live
same-live us j k lt le = ap (λ n. (usage_of us n).live) (omega (arith, lt, le))

met : (us : List Usage) (k : ℕ) (best : Option ℕ) → IsBest us k best → (usage_of us k).state ≡ Closed → (next : Option ℕ) × IsBest us (suc k) next
met us k None is closed = (
  Some k,
  record {
    below = omega arith;
    closed = closed;
    least = λ j lt e. elim (leb_tells k j) [
      | inl w ↦ omega (arith, same-live us j k lt w.1)
      | inr w ↦ absurd (is j w.1 e)
    ];
    first = λ j lt e. absurd (is j lt e);
  },
)
met us k (Some m) is closed = elim (leb_tells (usage_of us m).live (usage_of us k).live) [
  | inl w ↦ (
    Some m,
    record {
      below = omega (arith, is.below);
      closed = is.closed;
      least = λ j lt e. elim (leb_tells k j) [
        | inl v ↦ omega (arith, w.1, same-live us j k lt v.1)
        | inr v ↦ is.least j v.1 e
      ];
      first = is.first;
    },
  )
  | inr w ↦ (
    Some k,
    record {
      below = omega arith;
      closed = closed;
      least = λ j lt e. elim (leb_tells k j) [
        | inl v ↦ omega (arith, same-live us j k lt v.1)
        | inr v ↦ omega (arith, is.least j v.1 e, w.1)
      ];
      first = λ j lt e. omega (arith, is.least j lt e, w.1);
    },
  )
]

more : (us : List Usage) (k : ℕ) (best : Option ℕ) → IsBest us k best → (s : State) → (usage_of us k).state ≡ s → (next : Option ℕ) × IsBest us (suc k) next
more us k best is Closed e = met us k best is e
more us k best is Free e = (best, kept us k best is (λ c. let clash = sym e ∙ c in cc))
more us k best is Active e = (best, kept us k best is (λ c. let clash = sym e ∙ c in cc))

best-below : (us : List Usage) (k : ℕ) → (best : Option ℕ) × IsBest us k best
best-below us zero = (None, λ j lt. absurd (omega (arith, lt)))
best-below us (suc k) = let b = best-below us k in more us k b.0 b.1 (usage_of us k).state refl

-- ---- what tight means

above : (size : ℕ) (us : List Usage) (best : Option ℕ) → IsBest us (length us) best → option_and_then (λ m. cond (nat_le (usage_of us m).live (3 * size / 4)) (Some m) None) best ≡ None → Tight size us
above size us None is none n closed = absurd (is n (closed-inside us n closed) closed)
above size us (Some m) is none n closed = elim (leb_tells (usage_of us m).live (3 * size / 4)) [
  | inl w ↦ let clash : Some m ≡ None = sym (ap (λ t. cond t (Some m) None) w.0) ∙ none in cc
  | inr w ↦ omega (arith, w.1, is.least n (closed-inside us n closed) closed)
]

pub tight-none : (size : ℕ) (us : List Usage) → sparse_of size us ≡ None → Tight size us
tight-none size us none = let b = best-below us (length us) in
    above size us b.0 b.1 (ap (option_and_then (λ m. cond (nat_le (usage_of us m).live (3 * size / 4)) (Some m) None)) (sym (sparsest-best us b.0 b.1)) ∙ none)

pub tight-not : (size n : ℕ) (us : List Usage) → sparse_of size us ≡ Some n → Tight size us → ⊥
tight-not size n us some tight = let s = sparse-is size n us some in absurd (omega (arith, tight n s.0, s.1))

-- ---- how much is live

-- how many segments are in a state
abbrev count_of : (State → Bool) → List Usage → ℕ
count_of p us = count_by (λ u. p u.state) us

one-more : (p : State → Bool) (u : Usage) (us : List Usage) (s : State) → u.state ≡ s → count_of p (u ∷ us) ≡ cond (p s) 1 0 + count_of p us
one-more p u us s e = sum_by-cons (λ (v : Usage). cond (p v.state) 1 0) u us ∙ ap (λ t. cond (p t) 1 0 + count_of p us) e

counted : (u : Usage) (us : List Usage) (s : State) → u.state ≡ s → closed_count (u ∷ us) ≡ cond (is_state_closed s) 1 0 + closed_count us
counted u us s e = one-more is_state_closed u us s e

closed-more : (q : ℕ) (u : Usage) (us : List Usage) → closed_count us * (q + 1) ≤ live_sum us → (u.state ≡ Closed → q < u.live) → (s : State) → u.state ≡ s → closed_count (u ∷ us) * (q + 1) ≤ live_sum (u ∷ us)
closed-more q u us others here Closed e = let product : closed_count (u ∷ us) * (q + 1) ≡ (1 + closed_count us) * (q + 1) = ap (λ k. k * (q + 1)) (counted u us Closed e) in
    omega (arith, product, others, here e, sum_by-cons (λ (v : Usage). v.live) u us)
closed-more q u us others here Free e = let product : closed_count (u ∷ us) * (q + 1) ≡ (0 + closed_count us) * (q + 1) = ap (λ k. k * (q + 1)) (counted u us Free e) in
    omega (arith, product, others, sum_by-cons (λ (v : Usage). v.live) u us)
closed-more q u us others here Active e = let product : closed_count (u ∷ us) * (q + 1) ≡ (0 + closed_count us) * (q + 1) = ap (λ k. k * (q + 1)) (counted u us Active e) in
    omega (arith, product, others, sum_by-cons (λ (v : Usage). v.live) u us)

closed-live : (q : ℕ) (us : List Usage) → ((n : ℕ) → (usage_of us n).state ≡ Closed → q < (usage_of us n).live) → closed_count us * (q + 1) ≤ live_sum us
closed-live q [] each = omega arith
closed-live q (u ∷ us) each = closed-more q u us (closed-live q us (λ n. each (suc n))) (each 0) u.state refl

pub tight-free : (size need : ℕ) (us : List Usage) → 0 < free_count us → need ≤ 7 * size / 8 → spare_of size us < need → free_count us ≡ 1
tight-free size need us some few less = one (free_count us) refl
  where
    pred : {k : ℕ} → free_count us ≡ suc (suc k) → free_count us - 1 ≡ k + 1
    pred e = omega (arith, e)

    one : (k : ℕ) → free_count us ≡ k → k ≡ 1
    one zero e = absurd (omega (arith, e, some))
    one (suc zero) e = refl
    one (suc (suc k)) e = let frees : (free_count us - 1) * (7 * size / 8) ≡ (k + 1) * (7 * size / 8) = ap (λ j. j * (7 * size / 8)) (pred e) in
        absurd (omega (arith, few, less, frees))

-- ---- how many segments are closed

abbrev Parts : List Usage → Type 0
Parts us = closed_count us + free_count us + count_of is_state_active us ≡ length us

parts-more : (u : Usage) (us : List Usage) → Parts us → (s : State) → u.state ≡ s → Parts (u ∷ us)
parts-more u us others Closed e =
    let closed : closed_count (u ∷ us) ≡ 1 + closed_count us = one-more is_state_closed u us Closed e in let free : free_count (u ∷ us) ≡ 0 + free_count us = one-more is_state_free u us Closed e in
    let active : count_of is_state_active (u ∷ us) ≡ 0 + count_of is_state_active us = one-more is_state_active u us Closed e in omega (arith, others, closed, free, active)
parts-more u us others Free e =
    let closed : closed_count (u ∷ us) ≡ 0 + closed_count us = one-more is_state_closed u us Free e in let free : free_count (u ∷ us) ≡ 1 + free_count us = one-more is_state_free u us Free e in
    let active : count_of is_state_active (u ∷ us) ≡ 0 + count_of is_state_active us = one-more is_state_active u us Free e in omega (arith, others, closed, free, active)
parts-more u us others Active e =
    let closed : closed_count (u ∷ us) ≡ 0 + closed_count us = one-more is_state_closed u us Active e in let free : free_count (u ∷ us) ≡ 0 + free_count us = one-more is_state_free u us Active e in
    let active : count_of is_state_active (u ∷ us) ≡ 1 + count_of is_state_active us = one-more is_state_active u us Active e in omega (arith, others, closed, free, active)

parts : (us : List Usage) → Parts us
parts [] = refl
parts (u ∷ us) = parts-more u us (parts us) u.state refl

not-active : (s : State) → (s ≡ Active → ⊥) → is_state_active s ≡ false
not-active Free h = refl
not-active Active h = absurd (h refl)
not-active Closed h = refl

none-active : (us : List Usage) → ((k : ℕ) → (usage_of us k).state ≡ Active → ⊥) → count_of is_state_active us ≡ 0
none-active [] none = refl
none-active (u ∷ us) none =
    let here : ◌≡◌ {A = ℕ} (cond (is_state_active u.state) 1 0) 0 = ap (λ b. cond b 1 0) (not-active u.state (none 0)) in
    omega (arith, one-more is_state_active u us u.state refl, here, none-active us (λ k. none (suc k)))

-- one segment is active, and no other
one-active : (us : List Usage) (n : ℕ) → n < length us → (usage_of us n).state ≡ Active → ((k : ℕ) → (usage_of us k).state ≡ Active → k ≡ n) → count_of is_state_active us ≡ 1
one-active us n lt here only =
    let none : (k : ℕ) → (usage_of (set us n nothing) k).state ≡ Active → ⊥ = λ k. set_elim nothing (λ j v. v.state ≡ Active → ⊥) us n nothing k lt (λ e. cc) (λ ne e. ne (only k e)) in
    let was : ◌≡◌ {A = ℕ} (cond (is_state_active (usage_of us n).state) 1 0) 1 = ap (λ s. cond (is_state_active s) 1 0) here in
    omega (arith, sum_by-set (λ v. cond (is_state_active v.state) 1 0) us n nothing nothing lt, was, none-active (set us n nothing) none)

some-active : (o : Option ℕ) → IsSome o → (n : ℕ) × (o ≡ Some n)
some-active None h = cc
some-active (Some n) h = (n, refl)

pub tight-closed : (size need : ℕ) (us : List Usage) → 0 < free_count us → IsSome (active_of us) → IsSound size us → need ≤ 7 * size / 8 → spare_of size us < need → closed_count us + 2 ≡ length us
tight-closed size need us some active sound few less =
    let at = some-active (active_of us) active in let here = active-state us at.0 at.1 in let inside = within us at.0 (λ e. let clash = sym e ∙ here in cc) in
    omega (arith, parts us, tight-free size need us some few less, one-active us at.0 inside here (λ k e. sound.one_active k at.0 e here))

pub tight-live : (size : ℕ) (us : List Usage) → 4 ≤ length us → Tight size us → closed_count us + 2 ≡ length us → 3 * size / 4 * (length us - 2) < live_sum us
tight-live size us some tight count =
    let q = 3 * size / 4 in let closed : length us - 2 ≡ closed_count us = omega (arith, count) in let product : q * (length us - 2) ≡ q * closed_count us = ap (λ k. q * k) closed in
    omega (arith, product, closed-live q us tight, some, count)
