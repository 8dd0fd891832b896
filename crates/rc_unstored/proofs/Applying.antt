-- One write more behind the later ones.
use Rattle.std.proofs.Common.{inl, inr, ◌≡◌, ◌⊎◌, ◌≤◌, ◌<◌, ◌+◌, ◌-◌, ◌^◌, ℕ, Bool, true, false, cond, is_some, IfSome, le_refl, List, [], ◌∷◌, ◌++◌, Option, Some, None, length, refl, sym, ap, ◌∙◌, subst, arith}
use Rattle.std.specs.Prelude.{IsSomeAnd}
use Rattle.std.specs.Ordering.{eq_by_cmp}
use Rattle.std.proofs.Math.Nat.{min-eq_left, min-eq_right}
use Rattle.std.proofs.lemmas.Bool.{cases_lt}
use Rattle.lsa_move.specs.Room.{IsCompacted, Tight}
use Rattle.lsa_pool.specs.Room.{spare_of}
use Rattle.lsa_region.specs.Region.{Renamed, objects_in}
use Rattle.lsa_store.specs.declared.place.Ref.{Ref}
use Rattle.rc_position.specs.Position.{bytes_cmp}
use Rattle.rc_schema.specs.SchemaValue.{SchemaValue}
use Rattle.rc_mutation.specs.declared.mutations.Write.{Write}
use Rattle.rc_core.specs.Chains.{IsPinned}
use Rattle.rc_memory.specs.Kept.{IsLiveInChains}
use Rattle.rc_memory.specs.Memory.{IsUntouched, KeptChain, Memory, chain_at, under_new_names}
use Rattle.rc_memory.specs.laws.Places.{no_some, same_some}
use Rattle.rc_evict.specs.Lives.{IsSameButSlots}
use Rattle.rc_evict.specs.Evictions.{IsRoomMade}
use Rattle.rc_memtable.specs.Steps.{IsApplied}
use Rattle.rc_memtable.specs.Writes.{HasWrites, IsRoomFor, TakesVersion, chain_of}
use Rattle.rc_unstored.specs.declared.unstored.Unstored.{Unstored}
use Rattle.rc_unstored.specs.Memtables.{HaveWrites, IsFullFor, NoneShared, in_chains}
use Rattle.rc_snapshots.specs.Seeing.{AllStillSee, NothingIsLost}
use Rattle.rc_snapshots.specs.laws.Seeing.{all-see, seen-then}
use Rattle.rc_unstored.specs.Steps.{AreObjectsMoved, IsNotPut, IsPutBehind, IsPutRefused}
use Rattle.rc_unstored.proofs.Chains.{chain-same, same-or-not}
use Rattle.rc_unstored.proofs.Keeping.{beside-has, both_in, same-keys}
use Rattle.rc_unstored.proofs.Pins.{KeptIn, all-seen, chains-same, more-in, nothing-in, same-in}

-- ---- room, once it was made

takes-same : (m n : Memory) (o : Option ℕ) → ((id : ℕ) → o ≡ Some id → chain_at n id ≡ chain_at m id) → TakesVersion n o → TakesVersion m o
takes-same m n None same h = tt
takes-same m n (Some id) same h = subst (λ (q : Option KeptChain). IsSomeAnd q (λ k. IsPinned k.chain.pins (length k.chain.versions - 1))) (same id refl) h

pub room-more : (schema : SchemaValue) (chains : List (List ℕ × ℕ)) (w : Write) (m n : Memory) (bytes more : ℕ) → ((id : ℕ) → chain_of chains w.key ≡ Some id → chain_at n id ≡ chain_at m id) → bytes ≤ more → IsRoomFor schema chains m w bytes → IsRoomFor schema chains n w more
room-more schema chains w m n bytes more same up h = record {
  joined = let j = h.joined in omega (arith, j, up);
  version = λ t. let v = h.version (takes-same m n (chain_of chains w.key) same t) in omega (arith, v, up);
}

-- no room, where fewer bytes are spare than the least that are enough
pub full-for : (S : ℕ) (schema : SchemaValue) (w : Write) (u : Unstored S) (m : Memory) (need : ℕ) → ((id : ℕ) → chain_of u.active w.key ≡ Some id → chain_at u.chains id ≡ chain_at m id) → ((bytes : ℕ) → IsRoomFor schema u.active m w bytes → need ≤ bytes) →
    (u.chains.recency ≡ []) × Tight S u.chains.region.usages × (spare_of S u.chains.region.usages < need) → IsFullFor S schema w u
full-for S schema w u m need same least none = record {
  few = λ room. let few = none.2 in
      let low = least (spare_of S u.chains.region.usages) (room-more schema u.active w u.chains m (spare_of S u.chains.region.usages) (spare_of S u.chains.region.usages) (λ id e. sym (same id e)) (omega arith) room) in omega (arith, low, few);
  tight = none.1;
  none = none.0;
}

-- ---- a write applied to one of two memtables

one-of-two : (b : Bool) (id : ℕ) (o : Option ℕ) (i : ℕ) → cond b (Some id) o ≡ Some i → (id ≡ i) ⊎ (o ≡ Some i)
one-of-two true id o i e = inl (same_some id i e)
one-of-two false id o i e = inr e

module _ (S : ℕ) (schema : SchemaValue) (w : Write) (sealed before now : List (List ℕ × ℕ)) (m n : Memory) (a : IsApplied S schema w before now m n) where
  -- its chain is none of the other one
  off : (o : Option ℕ) → chain_of before w.key ≡ o → (writes : List Write) → HasWrites schema sealed m writes → NoneShared sealed before → (key : List ℕ) (i : ℕ) → chain_of sealed key ≡ Some i → i ≡ a.id → ⊥
  off None none writes h apart key i e same = let k = h.kept key i e in no_some k.0 (sym (a.made none).0 ∙ ap (chain_at m) (sym same) ∙ k.1)
  off (Some j) some writes h apart key i e same = apart key w.key i e (some ∙ ap Some ((a.had j some).0 ∙ sym same))

  pub applied-beside : (writes : List Write) → HasWrites schema sealed m writes → NoneShared sealed before → (key : List ℕ) (i : ℕ) → chain_of sealed key ≡ Some i → chain_at n i ≡ chain_at m i
  applied-beside writes h apart key i e = a.others.others i (off (chain_of before w.key) refl writes h apart key i e)

  pub applied-apart : (writes : List Write) → HasWrites schema sealed m writes → NoneShared sealed before → NoneShared sealed now
  applied-apart writes h apart key other i e f = elim (one-of-two (eq_by_cmp bytes_cmp w.key other) a.id (chain_of before other) i (sym (a.keys other) ∙ f)) [
    | inl same ↦ off (chain_of before w.key) refl writes h apart key i e (sym same)
    | inr was ↦ apart key other i e was
  ]

  pub applied-stands : (writes later : List Write) → HaveWrites schema (both_in S m sealed before) writes later → HaveWrites schema (both_in S n sealed now) writes (later ++ w ∷ [])
  applied-stands writes later h = record {
    sealed = beside-has schema sealed m n writes (applied-beside writes h.sealed h.apart) h.sealed;
    active = a.stands later h.active;
    apart = applied-apart writes h.sealed h.apart;
  }

  -- what snapshots see stays
  its-chain : (o : Option ℕ) → chain_of before w.key ≡ o → KeptIn (chain_at m a.id) (chain_at n a.id)
  its-chain None none = nothing-in (chain_at m a.id) (chain_at n a.id) (a.made none).0
  its-chain (Some j) some = more-in (chain_at m a.id) (chain_at n a.id) (λ k there. (a.had j some).1 k there)

  each-chain : (i : ℕ) → KeptIn (chain_at m i) (chain_at n i)
  each-chain i = elim (same-or-not i a.id) [
    | inl same ↦ subst (λ (j : ℕ). KeptIn (chain_at m j) (chain_at n j)) (sym same) (its-chain (chain_of before w.key) refl)
    | inr ne ↦ same-in (chain_at m i) (chain_at n i) (a.others.others i ne)
  ]

  pub applied-seen : NothingIsLost m n
  applied-seen = all-seen m n each-chain

-- ---- once room was made

module _ {S : ℕ} (schema : SchemaValue) (w : Write) (u : Unstored S) (now : List (List ℕ × ℕ)) (mid n : Memory) (a : IsApplied S schema w u.active now mid n) where
  pub put-stands : (writes later : List Write) → HaveWrites schema (in_chains mid u) writes later → HaveWrites schema (both_in S n u.sealed now) writes (later ++ w ∷ [])
  put-stands writes later h = applied-stands S schema w u.sealed u.active now mid n a writes later h

  pub put-seen : AllStillSee u.chains mid → AllStillSee u.chains n
  put-seen seen = seen-then u.chains mid n seen (all-see mid n (applied-seen S schema w u.sealed u.active now mid n a))

-- root slots were made
pub slots-seen : (m mid n : Memory) → AllStillSee m mid → IsSameButSlots mid n → AllStillSee m n
slots-seen m mid n seen slots = seen-then m mid n seen (all-see mid n (chains-same mid n (chain-same mid n (ap (λ (q : Memory). q.chains) slots.same))).alike)

-- ---- what is left of both, whatever came of it

-- after one segment was emptied, or none, no moved object is forgotten
pub moved-more : (S : ℕ) (m n : Memory) (o : Option ℕ) (told : Bool) → m.region.moved ≤ 2 ^ 64 - 1 → IfSome o (IsCompacted S m.region n.region) → told ≡ is_some o → (told ≡ false → n ≡ m) → m.region.moved ≤ n.region.moved
moved-more S m n None told most done tells same = subst (λ (x : Memory). m.region.moved ≤ x.region.moved) (sym (same tells)) (le_refl m.region.moved)
moved-more S m n (Some k) told most done tells same = subst (λ x. m.region.moved ≤ x) (sym done.moved) (elim (cases_lt (m.region.moved + objects_in m.region k) (2 ^ 64 - 1)) [
  | inl low ↦ subst (λ x. m.region.moved ≤ x) (sym (min-eq_left (omega (arith, low)))) (omega arith)
  | inr high ↦ subst (λ x. m.region.moved ≤ x) (sym (min-eq_right high)) most
])

-- objects that got new names
pub objects-moved : (m n : Memory) → ((names : List (Ref × Ref)) × Renamed m.region n.region names × (n ≡ under_new_names names n.region m)) → IsUntouched m n → m.region.moved ≤ n.region.moved → AreObjectsMoved m n
objects-moved m n renamed untouched moved = record { untouched = untouched; budget = renamed.1.budget; live = renamed.1.live; moved = moved }

pub put-left : {S : ℕ} (schema : SchemaValue) (w : Write) (u : Unstored S) (now : List (List ℕ × ℕ)) (mid n : Memory) → IsRoomMade S u.chains mid → IsLiveInChains mid → IsApplied S schema w u.active now mid n → IsPutBehind schema w u (both_in S n u.sealed now)
put-left schema w u now mid n room live applied = record { mid = mid; room = room; live = live; applied = applied; sealed = refl }

pub full-left : {S : ℕ} (u : Unstored S) (m : Memory) → IsRoomMade S u.chains m → IsNotPut u (in_chains m u)
full-left u m room = record { room = room; keys = same-keys u m }

pub refused-left : {S : ℕ} (u : Unstored S) (now : List (List ℕ × ℕ)) (mid n : Memory) → IsRoomMade S u.chains mid → IsSameButSlots mid n → now ≡ u.active → IsPutRefused u (both_in S n u.sealed now)
refused-left u now mid n room slots same = record { mid = mid; room = room; slots = slots; keys = record { sealed = refl; active = same } }
