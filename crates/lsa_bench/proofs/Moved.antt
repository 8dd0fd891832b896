-- What a move leaves as it was.
use Rattle.std.proofs.Common.{◌≡◌, ℕ, zero, suc, ◌<◌, ◌≤◌, ⊎_elim, inl, inr, List, Option, Some, None, IsSome, refl, sym, ap, ◌∙◌, subst, arith}
use Rattle.std.specs.Prelude.{◌⊎◌, ◌+◌, ◌*◌, ◌/◌, ◌-◌, ◌%◌, ◌^◌, Bool, true, false, cond, nat_eq, min, length, IsSomeAnd}
use Rattle.std.specs.Option.{option_map, option_map_or}
use Rattle.lsa_kinds.specs.declared.kind.Kind.{Kind}
use Rattle.lsa_pool.specs.Room.{spare_of, usage_of}
use Rattle.lsa_store.specs.declared.place.Ref.{Ref}
use Rattle.lsa_region.specs.declared.end.Root.{Root}
use Rattle.lsa_region.specs.declared.end.End.{End}
use Rattle.lsa_region.specs.declared.end.End.TheVariants.{Obj, Slot}
use Rattle.lsa_region.specs.Ends.{end_as}
use Rattle.lsa_region.specs.Region.{View, body, link_of, IsEnd, IsWell, Renamed, Risen}
use Rattle.lsa_store.specs.laws.Sparse.{sparse-is}
use Rattle.lsa_move.specs.Room.{Tight, Compactions}
use Rattle.lsa_bench.specs.Works.{named_object, length_of, IsStep, StepsDone}

-- ---- an object that a slot names is as long as before

some_body : (o : Option (Kind × List ℕ)) (P : Kind × List ℕ → Type 0) → IsSomeAnd o P → IsSome o
some_body None P h = absurd h
some_body (Some b) P h = refl

moved_size : (old new : View) (names : List (Ref × Ref)) (o : Option End) → Renamed old new names → ((e : End) → o ≡ Some e → IsEnd old e) → length_of new (named_object (option_map (end_as names) o)) ≡ length_of old (named_object o)
moved_size old new names None renamed there = refl
moved_size old new names (Some (Obj r field)) renamed there = ap (λ b. option_map_or (λ (b : Kind × List ℕ). length b.1) b 0) (renamed.bodies r (some_body (body old r) _ (there (Obj r field) refl)))
moved_size old new names (Some (Slot s)) renamed there = refl

pub size-moved : (old new : View) (names : List (Ref × Ref)) (s : Root) → IsWell old → Renamed old new names → length_of new (named_object (link_of new (Slot s))) ≡ length_of old (named_object (link_of old (Slot s)))
size-moved old new names s well renamed = ap (λ o. length_of new (named_object o)) (renamed.roots s) ∙ moved_size old new names (link_of old (Slot s)) renamed (λ e is. well.ends (Slot s) e is)

-- ---- rounds of compaction

-- where no segment is sparse, nothing is moved
tight_stays : (size need rounds : ℕ) (old new : View) → Tight size old.usages → Compactions size need rounds old new → new ≡ old
tight_stays size need zero old new tight same = same
tight_stays size need (suc rounds) old new tight w =
    let same = tight_stays size need rounds old w.0 tight w.2 in
    let is = sparse-is size w.1 w.0.usages w.4.sparse in
    let state = ap (λ (v : View). (usage_of v.usages w.1)) same in
    absurd (lt-not (subst (λ (v : View). 3 * size / 4 < (usage_of v.usages w.1).live) (sym same) (tight w.1 (ap (λ u. u.state) (sym state) ∙ is.0))) is.1)
  where
    lt-not : {m n : ℕ} → m < n → n ≤ m → ⊥
    lt-not l k = omega (arith, l, k)

more_rounds : (size need m n : ℕ) (a b c : View) → Compactions size need m a b → Compactions size need n b c → (rounds : ℕ) × Compactions size need rounds a c
more_rounds size need m zero a b c first same = (m, subst (Compactions size need m a) (sym same) first)
more_rounds size need m (suc n) a b c first w = let h = more_rounds size need m n a b w.0 first w.2 in (suc h.0, (w.0, w.1, h.1, w.3, w.4))

-- what was answered so far, asked for so many bytes: nothing but that there is room, or nothing but that there is none
pub record IsAsked (size need : ℕ) (old new : View) (asked full : ℕ) : Type 0 where
  pub rounds : (rounds : ℕ) × Compactions size need rounds old new
  pub answers : ((full ≡ 0) × (0 < asked → need ≤ spare_of size new.usages)) ⊎ ((full ≡ asked) × (spare_of size new.usages < need) × Tight size new.usages)

pub asked-more : (size need : ℕ) (old mid new : View) (asked full found : ℕ) → IsAsked size need old mid asked full → asked + 1 < 2 ^ 64 →
    (0 < found → found ≡ 1) → (0 < found → spare_of size new.usages < need) → (0 < found → Tight size new.usages) → (found ≡ 0 → need ≤ spare_of size new.usages) →
    (need ≤ spare_of size mid.usages → new ≡ mid) → (rounds : ℕ) × Compactions size need rounds mid new → IsAsked size need old new (asked + 1) (min (full + found) (2 ^ 64 - 1))
asked-more size need old mid new asked full zero before few one less tight room idle more = record {
  rounds = more_rounds size need before.rounds.0 more.0 old mid new before.rounds.1 more.1;
  answers = inl (⊎_elim
      (λ h. let e = h.0 in (omega (arith, e), λ _. room refl))
      (λ h.
      let same = ap (λ (v : View). spare_of size v.usages) (tight_stays size need more.0 mid new h.2 more.1) in let l = h.1 in let r = room refl in
      absurd (omega (arith, same, l, r)))
      before.answers);
}
asked-more size need old mid new asked full (suc found) before few one less tight room idle more = record {
  rounds = more_rounds size need before.rounds.0 more.0 old mid new before.rounds.1 more.1;
  answers = inr (
    ⊎_elim
        (λ h. ⊎_elim
        (λ (none : asked ≡ 0). let is = one some in let e = h.0 in omega (arith, none, e, is))
        (λ (again : 0 < asked). let l = less some in let same = ap (λ (v : View). spare_of size v.usages) (idle (h.1 again)) in let k = h.1 again in absurd (omega (arith, l, same, k)))
        (zero_or_more asked))
        (λ h. let is = one some in let e = h.0 in omega (arith, e, few, is))
        before.answers,
    less some,
    tight some,
  );
}
  where
    some : 0 < suc found
    some = omega arith

    zero_or_more : (n : ℕ) → (n ≡ 0) ⊎ (0 < n)
    zero_or_more zero = inl refl
    zero_or_more (suc n) = inr (omega arith)

-- ---- steps

-- the epoch after a dummy was made, and after it went again
pub made-gone : (goes : Bool) (a b c : ℕ) → goes ≡ true → Risen a b → Risen b c → c ≡ min (a + cond goes 2 1) (2 ^ 64 - 1)
made-gone true a b c is first second = omega (arith, first, second)
made-gone false a b c is first second = cc is

pub made-stays : (goes : Bool) (a b : ℕ) → goes ≡ false → Risen a b → b ≡ min (a + cond goes 2 1) (2 ^ 64 - 1)
made-stays true a b is first = cc is
made-stays false a b is first = omega (arith, first)

pub steps-none : (v : View) → StepsDone 0 v v
unfolding StepsDone
steps-none v = refl

next_step : (n : ℕ) (old mid new : View) → StepsDone n old mid → IsStep (nat_eq (n % 2) 0) mid new → StepsDone (suc n) old new
unfolding StepsDone
next_step n old mid new steps step = (mid, steps, step)

pub steps-more : (n : ℕ) (old mid new : View) → StepsDone n old mid → IsStep (nat_eq (n % 2) 0) mid new → StepsDone (n + 1) old new
steps-more n old mid new steps step = subst (λ k. StepsDone k old new) (omega arith) (next_step n old mid new steps step)
