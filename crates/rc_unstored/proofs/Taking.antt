-- A snapshot of what one memtable has of a key.
use Rattle.std.proofs.Common.{inl, inr, ◌≡◌, ℕ, zero, suc, false, List, [], ◌∷◌, Option, Some, None, IsSome, is_some, take, refl, sym, ap, ◌∙◌, subst}
use Rattle.std.specs.Prelude.{IfNone, IfOk, IfSome, OnErr, Result, Ok, Err}
use Rattle.std.specs.Option.{option_map}
use Rattle.rc_position.specs.Position.{Head, Place}
use Rattle.rc_schema.specs.SchemaValue.{SchemaValue}
use Rattle.rc_mutation.specs.declared.mutations.Mutation.{Mutation}
use Rattle.rc_mutation.specs.declared.mutations.Write.{Write}
use Rattle.rc_mutation.specs.Source.{changes_to}
use Rattle.rc_core.specs.declared.entries.ChainKind.TheVariants.{Memtable}
use Rattle.rc_core.specs.Chains.{AllInherit, IsMemtableChain, IsPinned, Shown, at_place, upto}
use Rattle.rc_core.specs.Continuity.{EachOf}
use Rattle.rc_core.specs.StandsFor.{StandsFor}
use Rattle.rc_core.specs.Steps.{free_number, pin_at}
use Rattle.rc_core.specs.Version.{Version}
use Rattle.rc_core.specs.laws.Pins.{pin-is-pinned}
use Rattle.rc_memory.specs.Memory.{HasPin, IsSnapshotTaken, KeptChain, Memory, chain_at, without_snapshot}
use Rattle.rc_memory.specs.laws.Places.{no_some}
use Rattle.rc_evict.specs.Snap.{Snap}
use Rattle.rc_snapshots.specs.Snapshots.{AreReadable, kind_in, kind_seen, versions_in, versions_seen, versions_upto}
use Rattle.rc_memtable.specs.Partitions.{AreAsBefore, IsAsBefore}
use Rattle.rc_memtable.specs.Writes.{HasWrites, chain_of, names}
use Rattle.rc_unstored.specs.calls.Giving.{given_back}
use Rattle.rc_unstored.specs.Memtables.{NoneShared}
use Rattle.rc_snapshots.specs.Seeing.{AreSameSnapshots, NothingIsLost, StillSees}
use Rattle.rc_snapshots.specs.Streams.{SeesChanges}
use Rattle.rc_unstored.specs.Readers.{IsSnapshotOfKey, IsTakenIf}
use Rattle.rc_unstored.proofs.Before.{before-of, before-same}
use Rattle.rc_unstored.proofs.Chains.{chain-beside, chain-done, is-chain, of-chain, same-or-not}
use Rattle.rc_unstored.proofs.Keeping.{beside-has}
use Rattle.rc_unstored.proofs.Pins.{KeptIn, PinIn, all-seen, back-in, chains-same, none-in, not-free, same-back, same-in, taken-in, with_one}

-- what holds of each version holds of the first ones
each-taken : (P : Version → Type 0) (n : ℕ) (vs : List Version) → EachOf P vs → EachOf P (take n vs)
each-taken P zero vs h = tt
each-taken P (suc n) [] h = tt
each-taken P (suc n) (v ∷ vs) h = (h.0, each-taken P n vs h.1)

-- a snapshot of a memtable's chain can be read by its parts
abbrev pub CanBeRead : Type 0
CanBeRead = (writes : List Mutation) (p : Place) (c : Shown) (j : ℕ) → c.kind ≡ Memtable → IsMemtableChain (at_place p c) → StandsFor writes (upto c.versions j) → IsPinned c.pins j → AreReadable c.kind (upto c.versions j)

module _ (m n : Memory) (keys : List (List ℕ × ℕ)) (key : List ℕ) where
  -- what the call says of a snapshot that it took
  abbrev pub IsTaken : Snap → Type 0
  IsTaken s = (chain_of keys key ≡ Some s.chain) × IsSnapshotTaken m n s.chain s.pin s.phase

  abbrev pub IsSeen : Snap → Type 0
  IsSeen s = (schema : SchemaValue) (writes : List Write) → HasWrites schema keys m writes → (k : KeptChain) → chain_at n s.chain ≡ Some k → (j : ℕ) × (pin_at k.chain.pins s.pin ≡ Some j) × StandsFor (changes_to key writes) (upto k.chain.versions j)

  abbrev pub IsNone : Type 0
  IsNone = (n ≡ m) × ((schema : SchemaValue) (writes : List Write) → HasWrites schema keys m writes → names key writes ≡ false)

  -- ---- one that was taken

  module _ (s : Snap) (taken : IsTaken s) where
    at-chain : chain_at n s.chain ≡ option_map with_one (chain_at m s.chain)
    at-chain = chain-done m n s.chain with_one (ap (λ (q : Memory). q.chains) taken.1.now)

    at-others : (i : ℕ) → (i ≡ s.chain → ⊥) → chain_at n i ≡ chain_at m i
    at-others i ne = chain-beside m n s.chain (option_map with_one (chain_at m s.chain)) i (ap (λ (q : Memory). q.chains) taken.1.now) ne

    fresh : HasPin m s.chain s.pin → ⊥
    fresh on = of-some (chain_at m s.chain) on taken.1.number
      where
        of-some : (o : Option KeptChain) → PinIn o s.pin → IfSome o (λ k. s.pin ≡ free_number k.chain.pins) → ⊥
        of-some None on e = absurd on
        of-some (Some k) on e = not-free k.chain.pins s.pin on e

    each-chain : (i : ℕ) → KeptIn (chain_at m i) (chain_at n i)
    each-chain i = elim (same-or-not i s.chain) [
      | inl same ↦ subst (λ (j : ℕ). KeptIn (chain_at m j) (chain_at n j)) (sym same) (subst (KeptIn (chain_at m s.chain)) (sym at-chain) (taken-in (chain_at m s.chain)))
      | inr ne ↦ same-in (chain_at m i) (chain_at n i) (at-others i ne)
    ]

    module _ (read : CanBeRead) (sees : IsSeen s) (schema : SchemaValue) (writes : List Write) (h : HasWrites schema keys m writes) (now : HasWrites schema keys n writes) where
      sees-now : IsSnapshotOfKey key writes m n (Some s)
      sees-now =
          let k = now.kept key s.chain taken.0 in
          let j = sees schema writes h k.0 k.1 in
          let versions : versions_seen n s ≡ upto k.0.chain.versions j.0 = ap (λ o. versions_in o s.pin) k.1 ∙ ap (versions_upto k.0.chain.versions) j.1 in
          let kind : kind_seen n s ≡ k.0.chain.kind = ap kind_in k.1 in (
            sym (now.keys key) ∙ ap is_some taken.0,
            record {
              pin = is-chain (λ q. IsSome (pin_at q.chain.pins s.pin)) (chain_at n s.chain) k.0 k.1 (ap is_some j.1);
              kind = kind ∙ k.2.kind;
              inherit = subst (EachOf AllInherit) (sym versions) (each-taken AllInherit (suc j.0) k.0.chain.versions k.2.form.flags);
              stands = subst (StandsFor (changes_to key writes)) (sym versions) j.2;
              readable = subst (λ q. AreReadable q (versions_seen n s)) (sym kind) (subst (AreReadable k.0.chain.kind) (sym versions)
                  (read (changes_to key writes) Head k.0.chain j.0 k.2.kind k.2.form j.2 (pin-is-pinned k.0.chain.pins s.pin j.0 j.1)));
            },
            fresh,
          )

    -- and given back at once: all is as it was
    at-back : chain_at (given_back (Some s) n) s.chain ≡ option_map (without_snapshot s.pin) (option_map with_one (chain_at m s.chain))
    at-back = chain-done n (given_back (Some s) n) s.chain (without_snapshot s.pin) refl ∙ ap (option_map (without_snapshot s.pin)) at-chain

    back-others : (i : ℕ) → (i ≡ s.chain → ⊥) → chain_at (given_back (Some s) n) i ≡ chain_at m i
    back-others i ne = chain-beside n (given_back (Some s) n) s.chain (option_map (without_snapshot s.pin) (chain_at n s.chain)) i refl ne ∙ at-others i ne

    back-chain : (i : ℕ) → KeptIn (chain_at m i) (chain_at (given_back (Some s) n) i) × ((pin : ℕ) → PinIn (chain_at (given_back (Some s) n) i) pin → PinIn (chain_at m i) pin)
    back-chain i = elim (same-or-not i s.chain) [
      | inl same ↦ subst (λ (j : ℕ). KeptIn (chain_at m j) (chain_at (given_back (Some s) n) j) × ((pin : ℕ) → PinIn (chain_at (given_back (Some s) n) j) pin → PinIn (chain_at m j) pin)) (sym same)
          (subst (λ (q : Option KeptChain). KeptIn (chain_at m s.chain) q × ((pin : ℕ) → PinIn q pin → PinIn (chain_at m s.chain) pin)) (sym at-back) (back-in (chain_at m s.chain) s.pin taken.1.number, none-in (chain_at m s.chain) s.pin taken.1.number))
      | inr ne ↦ (same-in (chain_at m i) (chain_at (given_back (Some s) n) i) (back-others i ne), λ pin on. subst (λ (q : Option KeptChain). PinIn q pin) (back-others i ne) on)
    ]

    pub taken-back : AreSameSnapshots m (given_back (Some s) n)
    taken-back = record { alike = all-seen m (given_back (Some s) n) (λ i. (back-chain i).0); none_more = λ t on. (back-chain t.chain).1 t.pin on }

    back-kept : (k : KeptChain) → chain_at m s.chain ≡ Some k → (now : KeptChain) × (chain_at (given_back (Some s) n) s.chain ≡ Some now) × IsAsBefore k now
    back-kept k e = (
      without_snapshot s.pin (with_one k),
      at-back ∙ ap (λ (q : Option KeptChain). option_map (without_snapshot s.pin) (option_map with_one q)) e,
      record { kind = refl; versions = refl; attached = refl; updating = refl; pins = same-back k s.pin (of-chain (λ (q : KeptChain). s.pin ≡ free_number q.chain.pins) (chain_at m s.chain) k e taken.1.number); passed = refl },
    )

    back-there : (i : ℕ) (k : KeptChain) → chain_at m i ≡ Some k → (now : KeptChain) × (chain_at (given_back (Some s) n) i ≡ Some now) × IsAsBefore k now
    back-there i k e = elim (same-or-not i s.chain) [
      | inl same ↦ subst (λ (j : ℕ). (now : KeptChain) × (chain_at (given_back (Some s) n) j ≡ Some now) × IsAsBefore k now) (sym same) (back-kept k (ap (chain_at m) (sym same) ∙ e))
      | inr ne ↦ before-same k (chain_at m i) (chain_at (given_back (Some s) n) i) e (back-others i ne)
    ]

    back-absent : (i : ℕ) → chain_at m i ≡ None → chain_at (given_back (Some s) n) i ≡ None
    back-absent i e = elim (same-or-not i s.chain) [
      | inl same ↦ ap (chain_at (given_back (Some s) n)) same ∙ at-back ∙ ap (λ (q : Option KeptChain). option_map (without_snapshot s.pin) (option_map with_one q)) (ap (chain_at m) (sym same) ∙ e)
      | inr ne ↦ back-others i ne ∙ e
    ]

    pub back-before : AreAsBefore m (given_back (Some s) n)
    back-before = record {
      there = back-there;
      absent = back-absent;
      recency = ap (λ (q : Memory). q.recency) taken.1.now;
      dropped = ap (λ (q : Memory). q.dropped) taken.1.now;
      counts = ap (λ (q : Memory). q.counts) taken.1.now;
      region = ap (λ (q : Memory). q.region) taken.1.now;
      standing = ap (λ (q : Memory). q.standing) taken.1.now;
    }

  -- ---- what the call gave

  pub found-sees : CanBeRead → (found : Option Snap) → IfNone found IsNone → IfSome found IsTaken → IfSome found IsSeen → (schema : SchemaValue) (writes : List Write) → HasWrites schema keys m writes → HasWrites schema keys n writes → IsSnapshotOfKey key writes m n found
  found-sees read None none taken sees schema writes h now = none.1 schema writes h
  found-sees read (Some s) none taken sees schema writes h now = sees-now s taken read sees schema writes h now

  pub found-seen : (found : Option Snap) → IfNone found IsNone → IfSome found IsTaken → NothingIsLost m n
  found-seen None none taken = (chains-same m n (λ i. ap (λ (q : Memory). chain_at q i) none.0)).alike
  found-seen (Some s) none taken = all-seen m n (each-chain s taken)

  pub found-beside : (found : Option Snap) → IfNone found IsNone → IfSome found IsTaken → (other : List (List ℕ × ℕ)) → NoneShared keys other → (schema : SchemaValue) (writes : List Write) → HasWrites schema other m writes → HasWrites schema other n writes
  found-beside None none taken other apart schema writes h = beside-has schema other m n writes (λ q i e. ap (λ (z : Memory). chain_at z i) none.0) h
  found-beside (Some s) none taken other apart schema writes h = beside-has schema other m n writes (λ q i e. at-others s taken i (λ same. apart key q i (taken.0 ∙ ap Some (sym same)) e)) h

  found-same : (found : Option Snap) → IfNone found IsNone → found ≡ None → n ≡ m
  found-same None none e = none.0
  found-same (Some s) none e = absurd (no_some s (sym e))

  -- ---- whether it gave anything or not

  module _ {E : Type 0} (r : Result (Option Snap) E) (none : IfOk r (λ f. IfNone f IsNone)) (taken : IfOk r (λ f. IfSome f IsTaken)) where
    pub ok-sees : CanBeRead → IfOk r (λ f. IfSome f IsSeen) → ((schema : SchemaValue) (writes : List Write) → HasWrites schema keys m writes → HasWrites schema keys n writes) → IfOk r (λ f. (schema : SchemaValue) (writes : List Write) → HasWrites schema keys m writes → IsSnapshotOfKey key writes m n f)
    ok-sees read sees stands = elim r as (λ q. IfOk q (λ f. IfNone f IsNone) → IfOk q (λ f. IfSome f IsTaken) → IfOk q (λ f. IfSome f IsSeen) → IfOk q (λ f. (schema : SchemaValue) (writes : List Write) → HasWrites schema keys m writes → IsSnapshotOfKey key writes m n f)) [
      | Ok f ↦ λ a b c schema writes h. found-sees read f a b c schema writes h (stands schema writes h)
      | Err e ↦ λ a b c. tt
    ] none taken sees

    pub ok-same : IfOk r (λ f. f ≡ None → n ≡ m)
    ok-same = elim r as (λ q. IfOk q (λ f. IfNone f IsNone) → IfOk q (λ f. f ≡ None → n ≡ m)) [ Ok f ↦ λ a. found-same f a | Err e ↦ λ a. tt ] none

    module _ (err : OnErr r (n ≡ m)) where
      pub any-seen : NothingIsLost m n
      any-seen = elim r as (λ q. IfOk q (λ f. IfNone f IsNone) → IfOk q (λ f. IfSome f IsTaken) → OnErr q (n ≡ m) → NothingIsLost m n) [
        | Ok f ↦ λ a b e. found-seen f a b
        | Err x ↦ λ a b e. (chains-same m n (λ i. ap (λ (q : Memory). chain_at q i) e)).alike
      ] none taken err

      pub any-beside : (other : List (List ℕ × ℕ)) → NoneShared keys other → (schema : SchemaValue) (writes : List Write) → HasWrites schema other m writes → HasWrites schema other n writes
      any-beside = elim r as (λ q. IfOk q (λ f. IfNone f IsNone) → IfOk q (λ f. IfSome f IsTaken) → OnErr q (n ≡ m) → (other : List (List ℕ × ℕ)) → NoneShared keys other → (schema : SchemaValue) (writes : List Write) → HasWrites schema other m writes → HasWrites schema other n writes) [
        | Ok f ↦ λ a b e. found-beside f a b
        | Err x ↦ λ a b e other apart schema writes h. beside-has schema other m n writes (λ k i f. ap (λ (z : Memory). chain_at z i) e) h
      ] none taken err

-- ---- two snapshots, one after the other

-- one that was given back
pub back-same : (m n : Memory) (keys : List (List ℕ × ℕ)) (key : List ℕ) (o : Option Snap) → IfSome o (IsTaken m n keys key) → (o ≡ None → n ≡ m) → AreSameSnapshots m (given_back o n)
back-same m n keys key None taken none = chains-same m n (λ i. ap (λ (q : Memory). chain_at q i) (none refl))
back-same m n keys key (Some s) taken none = taken-back m n keys key s taken

pub back-as-before : (m n : Memory) (keys : List (List ℕ × ℕ)) (key : List ℕ) (o : Option Snap) → IfSome o (IsTaken m n keys key) → (o ≡ None → n ≡ m) → AreAsBefore m (given_back o n)
back-as-before m n keys key None taken none = before-of m n (none refl)
back-as-before m n keys key (Some s) taken none = back-before m n keys key s taken

-- what the call did
pub taken-if : (m n : Memory) (keys : List (List ℕ × ℕ)) (key : List ℕ) (o : Option Snap) → IfSome o (IsTaken m n keys key) → (o ≡ None → n ≡ m) → IsTakenIf m n o
taken-if m n keys key None taken none = none refl
taken-if m n keys key (Some s) taken none = taken.1

-- the first one sees what it saw
pub key-then : (key : List ℕ) (writes : List Write) (m mid n : Memory) (o : Option Snap) → ((changes : List Mutation) (old new : Memory) (s : Snap) → SeesChanges changes old s → StillSees s old new → SeesChanges changes new s) →
    NothingIsLost mid n → IsSnapshotOfKey key writes m mid o → IsSnapshotOfKey key writes m n o
key-then key writes m mid n None sees a h = h
key-then key writes m mid n (Some s) sees a h = (h.0, sees (changes_to key writes) mid n s h.1 (a s h.1.pin), h.2)

-- the second one was not there before the first one
pub key-before : (key : List ℕ) (writes : List Write) (m mid n : Memory) (o : Option Snap) → NothingIsLost m mid → IsSnapshotOfKey key writes mid n o → IsSnapshotOfKey key writes m n o
key-before key writes m mid n None a h = h
key-before key writes m mid n (Some s) a h = (h.0, h.1, λ on. h.2 (a s on).pin)

-- they are of two chains
pub two-chains : (these those : List (List ℕ × ℕ)) (key : List ℕ) (a b c d : Memory) (o p : Option Snap) → NoneShared these those → IfSome o (IsTaken a b these key) → IfSome p (IsTaken c d those key) → IfSome o (λ s. IfSome p (λ t. s.chain ≡ t.chain → ⊥))
two-chains these those key a b c d None p apart x y = tt
two-chains these those key a b c d (Some s) None apart x y = tt
two-chains these those key a b c d (Some s) (Some t) apart x y = λ same. apart key key t.chain (x.0 ∙ ap Some same) y.0
