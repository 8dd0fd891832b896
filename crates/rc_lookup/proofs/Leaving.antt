-- A partition leaves the cache.
use Rattle.std.proofs.Common.{inl, inr, ◌≡◌, ℕ, Bool, true, false, cond, List, Option, Some, None, refl, sym, ap, ◌∙◌, subst, eq-eqb}
use Rattle.std.specs.Cmp.{eq_by_cmp_equiv}
use Rattle.std.specs.Ordering.{eq_by_cmp}
use Rattle.rc_position.specs.Position.{bytes_cmp}
use Rattle.rc_position.specs.laws.Orders.{bytes_cmp_total}
use Rattle.rc_core.specs.declared.entries.ChainKind.TheVariants.{Cache}
use Rattle.rc_registry.specs.Registry.{IsNumberIn}
use Rattle.rc_memory.specs.Memory.{KeptChain, Memory, chain_at}
use Rattle.rc_memory.specs.laws.Places.{same_some}
use Rattle.rc_mutation.specs.declared.mutations.Mutation.{Mutation}
use Rattle.rc_mutation.specs.Source.{SameSource}
use Rattle.rc_row_cache.specs.Entries.{AreEntries}
use Rattle.rc_row_cache.specs.Found.{entry_number}
use Rattle.rc_row_cache.specs.Calls.{below_entry}
use Rattle.rc_row_cache.specs.Saying.{Below}
use Rattle.rc_lookup.proofs.Numbered.{none-is-none}

-- the chain of an entry, where it is there, is one of the cache
pub entry-cached : (entries : List (List ℕ × ℕ)) (m : Memory) (key : List ℕ) (id : ℕ) → AreEntries entries m → ((i : ℕ) → IsNumberIn m.dropped i → chain_at m i ≡ None) → entry_number entries key ≡ Some id → (k : KeptChain) → chain_at m id ≡ Some k → k.chain.kind ≡ Cache
entry-cached entries m key id are told e k there = elim (are.kept key id e) [
  | inl cached ↦ ap (λ (q : KeptChain). q.chain.kind) (same_some k cached.kept (sym there ∙ cached.there)) ∙ cached.kind
  | inr gone ↦ absurd (none-is-none k (sym (told id gone) ∙ there))
]

-- how entries are found once one was taken out
abbrev pub FoundBeside : List ℕ → List (List ℕ × ℕ) → List (List ℕ × ℕ) → Type 0
FoundBeside key old new = (q : List ℕ) → entry_number new q ≡ cond (eq_by_cmp bytes_cmp key q) None (entry_number old q)

pub none-left : (key : List ℕ) (old new : List (List ℕ × ℕ)) → FoundBeside key old new → entry_number new key ≡ None
none-left key old new found = found key ∙ ap (λ b. cond b None (entry_number old key)) ((eq_by_cmp_equiv bytes_cmp_total).refl key)

was-found : (b : Bool) (o : Option ℕ) (id : ℕ) → cond b None o ≡ Some id → o ≡ Some id
was-found true o id e = absurd (none-is-none id e)
was-found false o id e = e

pub others-were : (key : List ℕ) (old new : List (List ℕ × ℕ)) → FoundBeside key old new → (q : List ℕ) (id : ℕ) → entry_number new q ≡ Some id → entry_number old q ≡ Some id
others-were key old new found q id e = was-found (eq_by_cmp bytes_cmp key q) (entry_number old q) id (sym (found q) ∙ e)

-- below the chain of an entry lie its own writes
pub own-below : (entry : Option ℕ) (id phase : ℕ) (writes : List Mutation) (below : Below) → entry ≡ Some id → SameSource (below_entry entry (λ _. writes) below id phase) writes
own-below entry id phase writes below is =
    subst (λ o. SameSource (below_entry o (λ _. writes) below id phase) writes) (sym is)
    (subst (λ b. SameSource (cond b (λ (_ : ℕ). writes) (below id) phase) writes) (sym (eq-eqb id id refl)) (record { head = refl; statics = refl; clustered = λ x. refl }))
