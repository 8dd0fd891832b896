-- What leaves the chains of both memtables as they were leaves their writes.
use Rattle.std.proofs.Common.{◌≡◌, ℕ, Bool, true, false, List, [], ◌∷◌, ◌++◌, Some, is_some, refl, sym, ap, ◌∙◌}
use Rattle.std.specs.Prelude.{OnErr, Result, Ok, Err}
use Rattle.std.specs.Ordering.{eq_by_cmp, is_eq}
use Rattle.std.specs.Cmp.{eq_by_cmp_equiv}
use Rattle.std.specs.declared.cmp.Ordering.{Ordering}
use Rattle.std.specs.declared.cmp.Ordering.TheVariants.{Less, Equal, Greater}
use Rattle.rc_position.specs.Position.{bytes_cmp}
use Rattle.rc_position.specs.laws.Orders.{bytes_cmp_same, bytes_cmp_total}
use Rattle.rc_schema.specs.SchemaValue.{SchemaValue}
use Rattle.rc_mutation.specs.declared.mutations.Write.{Write}
use Rattle.rc_memory.specs.Memory.{Memory, chain_at}
use Rattle.rc_memtable.specs.Writes.{HasWrites, chain_of}
use Rattle.rc_unstored.specs.declared.unstored.Unstored.{Unstored}
use Rattle.rc_unstored.specs.Memtables.{HaveWrites, NoneShared, in_chains}
use Rattle.rc_unstored.specs.Steps.{AreSameKeys}
use Rattle.rc_unstored.proofs.Chains.{chain-same}

-- ---- keys

equal-is : (r : Ordering) → is_eq r ≡ true → r ≡ Equal
equal-is Less e = absurd (cc)
equal-is Equal e = refl
equal-is Greater e = absurd (cc)

-- keys that compare equal are the same
pub key-is : (key q : List ℕ) → eq_by_cmp bytes_cmp key q ≡ true → key ≡ q
key-is key q e = bytes_cmp_same key q (equal-is (bytes_cmp key q) e)

pub key-itself : (key : List ℕ) → eq_by_cmp bytes_cmp key key ≡ true
key-itself key = (eq_by_cmp_equiv bytes_cmp_total).refl key

pub either : (P : Type 0) (b : Bool) → (b ≡ true → P) → (b ≡ false → P) → P
either P true t f = t refl
either P false t f = f refl

-- ---- one memtable

pub beside-has : (schema : SchemaValue) (chains : List (List ℕ × ℕ)) (m n : Memory) (writes : List Write) → ((key : List ℕ) (id : ℕ) → chain_of chains key ≡ Some id → chain_at n id ≡ chain_at m id) → HasWrites schema chains m writes → HasWrites schema chains n writes
beside-has schema chains m n writes same h = record {
  keys = h.keys;
  kept = λ key id e. let k = h.kept key id e in (k.0, same key id e ∙ k.1, k.2);
  apart = h.apart;
}

-- where no write is kept no key has a chain
pub none-found : (schema : SchemaValue) (chains : List (List ℕ × ℕ)) (m : Memory) → HasWrites schema chains m [] → (key : List ℕ) (id : ℕ) → chain_of chains key ≡ Some id → ⊥
none-found schema chains m h key id e = let f : true ≡ false = sym (ap is_some e) ∙ h.keys key in absurd (cc)

-- ---- both

-- two memtables in chains
abbrev pub both_in : (S : ℕ) → Memory → List (List ℕ × ℕ) → List (List ℕ × ℕ) → Unstored S
both_in S m sealed active = record { chains = m; sealed = sealed; active = active }

-- other chains, under the same keys
pub same-keys : {S : ℕ} (u : Unstored S) (m : Memory) → AreSameKeys u (in_chains m u)
same-keys u m = record { sealed = refl; active = refl }

pub both-none : {S : ℕ} (schema : SchemaValue) (u : Unstored S) → HasWrites schema u.sealed u.chains [] → HasWrites schema u.active u.chains [] → HaveWrites schema u [] []
both-none schema u s a = record { sealed = s; active = a; apart = λ key other id e f. none-found schema u.sealed u.chains s key id e }

pub both-beside : {S : ℕ} (schema : SchemaValue) (u : Unstored S) (m : Memory) (writes later : List Write) → ((key : List ℕ) (id : ℕ) → chain_of u.sealed key ≡ Some id → chain_at m id ≡ chain_at u.chains id) → ((key : List ℕ) (id : ℕ) → chain_of u.active key ≡ Some id → chain_at m id ≡ chain_at u.chains id) →
    HaveWrites schema u writes later → HaveWrites schema (in_chains m u) writes later
both-beside schema u m writes later s a h = record { sealed = beside-has schema u.sealed u.chains m writes s h.sealed; active = beside-has schema u.active u.chains m later a h.active; apart = h.apart }

pub both-moved : {S : ℕ} (schema : SchemaValue) (u : Unstored S) (m : Memory) (writes later : List Write) → m.chains ≡ u.chains.chains → HaveWrites schema u writes later → HaveWrites schema (in_chains m u) writes later
both-moved schema u m writes later same = both-beside schema u m writes later (λ key id e. chain-same u.chains m same id) (λ key id e. chain-same u.chains m same id)

-- the later writes are sealed, where none were
pub both-sealed : {S : ℕ} (schema : SchemaValue) (u : Unstored S) (later : List Write) → HaveWrites schema u [] later → HaveWrites schema (both_in S u.chains u.active u.sealed) later []
both-sealed schema u later h = record { sealed = h.active; active = h.sealed; apart = λ key other id e f. h.apart other key id f e }

pub flipped : (these those : List (List ℕ × ℕ)) → NoneShared these those → NoneShared those these
flipped these those h key other id e f = h other key id f e

-- ---- what calls give

-- what holds holds after a failure
pub on-err : {A E : Type 0} (r : Result A E) (P : Type 0) → P → OnErr r P
on-err (Ok x) P h = tt
on-err (Err e) P h = h

-- where both together are none the first is none
pub first-none : (xs ys : List Write) → xs ++ ys ≡ [] → xs ≡ []
first-none [] ys e = refl
first-none (x ∷ xs) ys e = absurd (cc)
