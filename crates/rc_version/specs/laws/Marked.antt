-- What each change does to the epoch, and which objects are there after it.
use Rattle.std.proofs.Common.{◌≡◌, ℕ, ◌-◌, ◌^◌, ◌<◌, Bool, true, false, List, Option, Some, None, IsSome, is_some, inl, inr, refl, sym, ap, ◌∙◌, subst, arith}
use Rattle.std.specs.Prelude.{IsSomeAnd}
use Rattle.lsa_kinds.specs.declared.kind.Kind.{Kind}
use Rattle.lsa_store.specs.declared.place.Ref.{Ref}
use Rattle.lsa_region.specs.Region.{View, body, SameObjects, IsFreed, IsWritten, Risen}
use Rattle.lsa_region.specs.laws.Refs.{refs_decided}
use Rattle.lsa_tree.specs.Entries.{IsAlike}
use Rattle.lsa_tree.specs.Tree.{SameButBalances}
use Rattle.rc_version.specs.Versions.{IsMarked, IsNoneMade}

-- the epoch of both is the same, and so are the objects that are there
pub marked-same : (old new : View) → new.epoch ≡ old.epoch → ((r : Ref) → is_some (body new r) ≡ is_some (body old r)) → IsMarked old new
marked-same old new same there = record { rises = omega (arith, same); steady = λ e low. there }

-- an object was made or freed
pub marked-risen : (old new : View) → Risen old.epoch new.epoch → IsMarked old new
marked-risen old new risen = record { rises = omega (arith, risen); steady = λ e low. absurd (omega (arith, risen, e, low)) }

-- one change after another
pub marked-then : (old mid new : View) → IsMarked old mid → IsMarked mid new → IsMarked old new
marked-then old mid new a b = record {
  rises = omega (arith, a.rises, b.rises);
  steady = λ e low. let middle : mid.epoch ≡ old.epoch = omega (arith, a.rises, b.rises, e, low) in let last : new.epoch ≡ mid.epoch = e ∙ sym middle in let below : mid.epoch < 2 ^ 64 - 1 = omega (arith, last, low) in
      λ r. b.steady last low r ∙ a.steady middle below r;
}

pub marked-itself : (v : View) → IsMarked v v
marked-itself v = marked-same v v refl (λ r. refl)

-- links alone
pub marked-objects : (old new : View) → SameObjects old new → IsMarked old new
marked-objects old new same = marked-same old new same.epoch (λ r. ap is_some (same.bodies r))

written_there : (o p : Option (Kind × List ℕ)) (change : List ℕ → List ℕ) → IsSomeAnd o (λ b. p ≡ Some (b.0, change b.1)) → is_some p ≡ is_some o
written_there None p change h = absurd h
written_there (Some b) p change h = ap is_some h

-- the bytes of an object
there_written : (old new : View) (r : Ref) (change : List ℕ → List ℕ) → IsWritten old new r change → (q : Ref) → is_some (body new q) ≡ is_some (body old q)
there_written old new r change written q = elim (refs_decided q r) [
  | inl is ↦ subst (λ x. is_some (body new x) ≡ is_some (body old x)) (sym is) (written_there (body old r) (body new r) change written.here)
  | inr ne ↦ ap is_some (written.others q ne)
]

pub marked-written : (old new : View) (r : Ref) (change : List ℕ → List ℕ) → IsWritten old new r change → IsMarked old new
marked-written old new r change written = marked-same old new written.epoch (there_written old new r change written)

alike_there : (o p : Option (Kind × List ℕ)) → IsAlike o p → is_some p ≡ is_some o
alike_there None None same = refl
alike_there None (Some d) same = cc same
alike_there (Some b) None same = cc same
alike_there (Some b) (Some d) same = refl

-- what holds unless it does not
unless_not : (a b : Bool) → ((a ≡ b → ⊥) → a ≡ b) → a ≡ b
unless_not true true h = refl
unless_not true false h = h (λ e. cc)
unless_not false true h = h (λ e. cc)
unless_not false false h = refl

-- the links of a tree, and balances
there_balances : (old new : View) (refs : List Ref) → SameButBalances old new refs → (r : Ref) → is_some (body new r) ≡ is_some (body old r)
there_balances old new refs same r = unless_not (is_some (body new r)) (is_some (body old r)) (λ differ. ap is_some (same.bodies r (λ k. differ (alike_there (body old r) (body new r) (same.alike r k)))))

pub marked-balances : (old new : View) (refs : List Ref) → SameButBalances old new refs → IsMarked old new
marked-balances old new refs same = marked-same old new same.epoch (there_balances old new refs same)

-- ---- objects that were there

-- nothing is not there
pub none-there : {X : Type 0} (o : Option X) → o ≡ None → IsSome o → ⊥
none-there o gone there = let clash : false ≡ true = sym (ap is_some gone) ∙ there in cc

not_there : {X : Type 0} (o p : Option X) → is_some p ≡ is_some o → o ≡ None → p ≡ None
not_there o None same gone = refl
not_there o (Some x) same gone = absurd (none-there o gone (sym same))

-- what each change does not make
pub none-balances : (old new : View) (refs : List Ref) → SameButBalances old new refs → IsNoneMade old new
none-balances old new refs same r gone = not_there (body old r) (body new r) (there_balances old new refs same r) gone

pub none-written : (old new : View) (q : Ref) (change : List ℕ → List ℕ) → IsWritten old new q change → IsNoneMade old new
none-written old new q change written r gone = not_there (body old r) (body new r) (there_written old new q change written r) gone

pub none-freed : (old new : View) (q : Ref) → IsFreed old new q → IsNoneMade old new
none-freed old new q freed r gone = elim (refs_decided r q) [ inl is ↦ subst (λ x. body new x ≡ None) (sym is) freed.here | inr ne ↦ freed.others r ne ∙ gone ]
