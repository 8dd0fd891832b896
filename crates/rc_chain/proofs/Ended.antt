-- An update that has ended: what goes to the back of the recency list, and that it may.
use Rattle.std.proofs.Common.{◌≡◌, ◌≢◌, ℕ, suc, ◌<◌, ◌-◌, Bool, true, false, List, [], ◌∷◌, ◌++◌, Option, Some, None, IsSome, length, inl, inr, refl, sym, ap, ◌∙◌, subst, slice_index_or, arith}
use Rattle.std.specs.Prelude.{Contains, IfSome, IsSomeAnd}
use Rattle.std.specs.Option.{option_map, option_to_list}
use Rattle.std.proofs.lemmas.List.{append-nil}
use Rattle.rc_position.specs.declared.positions.Pos.{Pos}
use Rattle.rc_position.specs.Position.{IsBefore}
use Rattle.lsa_region.specs.Region.{View, SameObjects}
use Rattle.rc_core.specs.AtPlace.{HasEntryAt}
use Rattle.rc_core.specs.declared.entries.Entry.{Entry}
use Rattle.rc_core.specs.Version.{Ascend, EndsWithDummy, Version, IsVersion, end_position}
use Rattle.rc_core.specs.laws.Placed.{not_end}
use Rattle.rc_registry.specs.Registry.{put_at_number}
use Rattle.rc_memory.specs.Memory.{KeptChain, Member, Memory, HasChain, HasVersion, IsVersionAt, chain_at, listed_as, on_chain, on_shown, shown_updating, with_chains}
use Rattle.rc_memory.specs.Recency.{HasObject, IsLastInner, IsRecency, IsUnderUpdate, MayBeListed}
use Rattle.rc_memory.specs.Kept.{IsSoundChain}
use Rattle.rc_memory.specs.Changes.{IsUnmoved, LastIsListed, Nowhere, OfVersion, StandStill, member_at}
use Rattle.rc_memory.specs.laws.At.{number-there}
use Rattle.rc_memory.specs.laws.Listed.{one-at}
use Rattle.rc_memory.specs.laws.Places.{heads, same_some, tails}
use Rattle.rc_memory.specs.laws.Put.{put-at, put-same}
use Rattle.rc_memory.specs.laws.Still.{still-then, unmoved-itself, unmoved-objects, unmoved-then}
use Rattle.rc_chain.specs.Lives.{IsChainChanged, IsEndListed, IsLastUnlisted}
use Rattle.rc_chain.proofs.Bare.{some-chain}

-- ---- the last entry before the end

short : (gs : List Entry) (e f : Entry) → [] ≡ gs ++ (e ∷ f ∷ []) → ⊥
short [] e f h = cc h
short (g ∷ gs) e f h = cc h

one-short : (gs : List Entry) (x e f : Entry) → x ∷ [] ≡ gs ++ (e ∷ f ∷ []) → ⊥
one-short [] x e f h = short [] f f (cc h)
one-short (g ∷ gs) x e f h = short gs e f (tails x g [] (gs ++ (e ∷ f ∷ [])) h)

two-last : (fs gs : List Entry) (a b c d : Entry) → fs ++ (a ∷ b ∷ []) ≡ gs ++ (c ∷ d ∷ []) → a ≡ c
two-last [] [] a b c d h = heads a c (b ∷ []) (d ∷ []) h
two-last [] (g ∷ gs) a b c d h = absurd (one-short gs b c d (tails a g (b ∷ []) (gs ++ (c ∷ d ∷ [])) h))
two-last (f ∷ fs) [] a b c d h = absurd (one-short fs d a b (sym (tails f c (fs ++ (a ∷ b ∷ [])) (d ∷ []) h)))
two-last (f ∷ fs) (g ∷ gs) a b c d h = two-last fs gs a b c d (tails f g (fs ++ (a ∷ b ∷ [])) (gs ++ (c ∷ d ∷ [])) h)

-- there is one at most
pub last-one : (v : Version) (a b : Option Pos) → IsLastInner v a → IsLastInner v b → a ≡ b
last-one v a b h k = h.4 ∙ ap (λ (e : Entry). Some e.position) (two-last h.0 k.0 h.1 h.2 k.1 k.2 (sym h.3 ∙ k.3)) ∙ sym k.4

pub has-among : (front : List Entry) (e : Entry) (back : List Entry) → HasEntryAt e.position (front ++ (e ∷ back))
has-among [] e back = inl refl
has-among (f ∷ front) e back = inr (has-among front e back)

-- it is an object of the version
pub last-there : (v : Version) (at : Option Pos) → IsLastInner v at → HasObject v at
last-there v at h = subst (HasObject v) (sym h.4) (subst (HasEntryAt h.1.position) (sym h.3) (has-among h.0 h.1 (h.2 ∷ [])))

ascend-last : (front : List Entry) (e f : Entry) → Ascend (front ++ (e ∷ f ∷ [])) → IsBefore e.position f.position
ascend-last [] e f h = h.0
ascend-last (g ∷ []) e f h = h.1.0
ascend-last (g ∷ k ∷ front) e f h = ascend-last (k ∷ front) e f h.1

pub ends-last : (front : List Entry) (e f : Entry) → EndsWithDummy (front ++ (e ∷ f ∷ [])) → f.position ≡ end_position
ends-last [] e f h = h.0
ends-last (g ∷ []) e f h = h.0
ends-last (g ∷ k ∷ front) e f h = ends-last (k ∷ front) e f h

-- and it is not the end dummy
pub last-inside : (v : Version) (at : Option Pos) → IsVersion v → IsLastInner v at → at ≢ Some end_position
last-inside v at is h e =
    let before : IsBefore h.1.position end_position = subst (IsBefore h.1.position) (ends-last h.0 h.1 h.2 (subst EndsWithDummy h.3 is.ends)) (ascend-last h.0 h.1 h.2 (subst Ascend h.3 is.ascend)) in
    not_end h.1.position before (same_position (sym h.4 ∙ e))
  where
    same_position : Some h.1.position ≡ Some end_position → h.1.position ≡ end_position
    same_position k = cc k

pub end-there : (v : Version) → IsVersion v → HasObject v (Some end_position)
end-there v is = of v.entries is.ends
  where
    of : (es : List Entry) → EndsWithDummy es → HasEntryAt end_position es
    of [] h = absurd h
    of (e ∷ []) h = inl h.0
    of (e ∷ f ∷ es) h = inr (of (f ∷ es) h)

-- ---- a chain under update

abbrev pub IsUnder : Memory → ℕ → ℕ → Type 0
IsUnder m id j = IsSomeAnd (chain_at m id) (λ k. (k.chain.updating ≡ true) × (suc j ≡ length k.chain.versions))

pub under-version : (m : Memory) (id j : ℕ) → IsUnder m id j → HasVersion m id j
under-version m id j h = of (chain_at m id) h
  where
    of : (o : Option KeptChain) → IsSomeAnd o (λ k. (k.chain.updating ≡ true) × (suc j ≡ length k.chain.versions)) → IsSomeAnd o (λ k. j < length k.chain.versions)
    of None h = absurd h
    of (Some k) h = let e = h.1 in omega (arith, e)

pub sound-of : (m : Memory) (id : ℕ) (k : KeptChain) → chain_at m id ≡ Some k → ((i : ℕ) → IfSome (chain_at m i) (λ q. IsSoundChain q.chain)) → IsSoundChain k.chain
sound-of m id k e sound = subst (λ (o : Option KeptChain). IfSome o (λ q. IsSoundChain q.chain)) e (sound id)

module _ (m : Memory) (sound : (i : ℕ) → IfSome (chain_at m i) (λ q. IsSoundChain q.chain)) (versions : (i j : ℕ) → OfVersion m i j (λ k v. IsVersion v)) (id j : ℕ) (under : IsUnder m id j) where
  -- the last entry before the end may be listed
  pub may-last : (at : Option Pos) → OfVersion m id j (λ k v. IsLastInner v at) → IsSomeAnd (chain_at m id) (λ k. MayBeListed k.chain j at)
  may-last at last =
      let k = some-chain (chain_at m id) (λ k. (k.chain.updating ≡ true) × (suc j ≡ length k.chain.versions)) under in let e = k.2.1 in
      let v = number-there k.0.chain.versions j (omega (arith, e)) in
      subst (λ (o : Option KeptChain). IsSomeAnd o (λ q. MayBeListed q.chain j at)) (sym k.1) (record {
        cached = (sound-of m id k.0 k.1 sound).cached k.2.0;
        version = v.0;
        number = v.1;
        object = last-there v.0 at (last k.0 v.0 k.1 v.1);
        settled = λ u. last-inside v.0 at (versions id j k.0 v.0 k.1 v.1) (last k.0 v.0 k.1 v.1);
      })

-- ---- nothing changed

pub same-objects : (v : View) → SameObjects v v
same-objects v = record { bodies = λ r. refl; ends = λ e there. there; gone = λ e there. there; spots = λ r. refl; slots = refl; usages = refl; epoch = refl; moved = refl; compacted = refl }

pub same-listed : (m : Memory) → m ≡ listed_as (m.recency ++ []) m.region m
same-listed m = λ i. record { chains = m.chains; recency = sym (append-nil m.recency) i; dropped = m.dropped; counts = m.counts; region = m.region; standing = m.standing }

pub true-false : (b : Bool) → b ≡ true → b ≡ false → ⊥
true-false b t f = let clash : true ≡ false = sym t ∙ f in cc

-- ---- the update ends

-- what is read of a chain to which something was done
pub on-at : (cs : List (Option KeptChain)) (id : ℕ) (f : KeptChain → KeptChain) (k : KeptChain) → slice_index_or cs id None ≡ Some k → slice_index_or (on_chain id f cs) id None ≡ Some (f k)
on-at cs id f k e = put-at cs id (option_map f (slice_index_or cs id None)) ∙ ap (option_map f) e

-- nothing is done to a chain by what leaves it as it is
pub on-itself : (cs : List (Option KeptChain)) (id : ℕ) (f : KeptChain → KeptChain) (k : KeptChain) → slice_index_or cs id None ≡ Some k → f k ≡ k → cs ≡ on_chain id f cs
on-itself cs id f k e same = sym (ap (λ o. put_at_number id (option_map f o) cs) e ∙ ap (λ x. put_at_number id (Some x) cs) same ∙ put-same cs id k e)

abbrev pub ended : KeptChain → KeptChain
ended = on_shown (shown_updating false)

module _ (m : Memory) (id j : ℕ) (k : KeptChain) (e : chain_at m id ≡ Some k) (u : k.chain.updating ≡ true) (newest : suc j ≡ length k.chain.versions) (sound : IsSoundChain k.chain) (versions : (i l : ℕ) → OfVersion m i l (λ k v. IsVersion v)) where
  abbrev end_place : Member
  end_place = member_at id j (Some end_position)

  pub newest-one : (v : Version) × IsVersionAt k.chain.versions j v
  newest-one = number-there k.chain.versions j (omega (arith, newest))

  module _ (one : Memory) (listed : OfVersion m id j (λ q v. (last : Option Member) × IsLastUnlisted id j v m.recency last × (one ≡ listed_as (m.recency ++ option_to_list last) one.region m)))
      (there : OfVersion m id j (λ q v. (at : Option Pos) → IsLastInner v at → Contains one.recency (member_at id j at))) where
    pub told : (last : Option Member) × IsLastUnlisted id j newest-one.0 m.recency last × (one ≡ listed_as (m.recency ++ option_to_list last) one.region m)
    told = listed k newest-one.0 e newest-one.1

    chains_one : one.chains ≡ m.chains
    chains_one = ap (λ (x : Memory). x.chains) told.2

    at_one : chain_at one id ≡ Some k
    at_one = ap (λ cs. slice_index_or cs id None) chains_one ∙ e

    pub chain-one : HasChain one id
    chain-one = subst (λ (o : Option KeptChain). IsSome o) (sym at_one) refl

    pub last-listed : LastIsListed id one
    last-listed q i v at e' under number last =
        let same : k ≡ q = same_some k q (sym at_one ∙ e') in let n : suc i ≡ length k.chain.versions = under.1 ∙ ap (λ (x : KeptChain). length x.chain.versions) (sym same) in
        let is : j ≡ i = omega (arith, n, newest) in
        subst (λ l. Contains one.recency (member_at id l at)) is (there k v e (subst (λ l. IsVersionAt k.chain.versions l v) (sym is) (subst (λ (x : KeptChain). IsVersionAt x.chain.versions i v) (sym same) number)) at last)

    module _ (rule : IsRecency one) (two : Memory) (settled : two ≡ with_chains (on_chain id ended one.chains) one) where
      at_two : chain_at two id ≡ Some (ended k)
      at_two = ap (λ (x : Memory). chain_at x id) settled ∙ on-at one.chains id ended k at_one

      pub version-two : HasVersion two id j
      version-two = subst (λ (o : Option KeptChain). IsSomeAnd o (λ q. j < length q.chain.versions)) (sym at_two) (omega (arith, newest))

      pub end-off : Contains two.recency end_place → ⊥
      end-off on =
          let may = some-chain (chain_at one id) (λ q. MayBeListed q.chain j (Some end_position)) (rule.members end_place (subst (λ (x : Memory). Contains x.recency end_place) settled on)) in
          let same : k ≡ may.0 = same_some k may.0 (sym at_one ∙ may.1) in
          may.2.settled (subst (λ (x : KeptChain). IsUnderUpdate x.chain j) same (u, newest)) refl

      pub end-may : IsSomeAnd (chain_at two id) (λ q. MayBeListed q.chain j (Some end_position))
      end-may = subst (λ (o : Option KeptChain). IsSomeAnd o (λ q. MayBeListed q.chain j (Some end_position))) (sym at_two) (record {
        cached = sound.cached u;
        version = newest-one.0;
        number = newest-one.1;
        object = end-there newest-one.0 (versions id j k newest-one.0 e newest-one.1);
        settled = λ under. absurd (true-false false under.0 refl);
      })

      module _ (objects_one : SameObjects m.region one.region) (still_one : StandStill Nowhere m one) (three : Memory) (end_listed : three ≡ listed_as (two.recency ++ (end_place ∷ [])) three.region two)
          (objects_three : SameObjects two.region three.region) (still_three : StandStill Nowhere two three) where
        abbrev whole : List Member
        whole = (m.recency ++ option_to_list told.0) ++ (end_place ∷ [])

        pub ended-changed : IsChainChanged id ended ((m.recency ++ option_to_list told.0) ++ (end_place ∷ [])) m three
        ended-changed = record {
          chains = ap (λ (x : Memory). x.chains) end_listed ∙ ap (λ (x : Memory). x.chains) settled ∙ ap (on_chain id ended) chains_one;
          recency = ap (λ (x : Memory). x.recency) end_listed ∙ ap (λ (x : Memory). x.recency ++ (end_place ∷ [])) settled ∙ ap (λ (x : Memory). x.recency ++ (end_place ∷ [])) told.2;
          dropped = ap (λ (x : Memory). x.dropped) end_listed ∙ ap (λ (x : Memory). x.dropped) settled ∙ ap (λ (x : Memory). x.dropped) told.2;
          counts = ap (λ (x : Memory). x.counts) end_listed ∙ ap (λ (x : Memory). x.counts) settled ∙ ap (λ (x : Memory). x.counts) told.2;
          still = still-then Nowhere m two three (still-then Nowhere m one two still_one (subst (StandStill Nowhere one) (sym settled) (record { versions = λ i l n is. is; objects = λ r w off at. at }))) still_three;
          region = unmoved-then m.region one.region three.region (unmoved-objects m.region one.region objects_one)
              (subst (λ v. IsUnmoved v three.region) (ap (λ (x : Memory). x.region) settled) (unmoved-objects two.region three.region objects_three));
        }

        pub ended-listed : IsEndListed id k.chain m.recency ((m.recency ++ option_to_list told.0) ++ (end_place ∷ []))
        ended-listed = record {
          settled = λ s. absurd (true-false k.chain.updating u s);
          updated = λ u' i v n number.
              let is : j ≡ i = omega (arith, n, newest) in let one_version : newest-one.0 ≡ v = one-at k.chain.versions j newest-one.0 v newest-one.1 (subst (λ l. IsVersionAt k.chain.versions l v) (sym is) number) in
              (told.0, subst (λ l. IsLastUnlisted id l v m.recency told.0) is (subst (λ x. IsLastUnlisted id j x m.recency told.0) one_version told.1), ap (λ l. (m.recency ++ option_to_list told.0) ++ (member_at id l (Some end_position) ∷ [])) is);
        }

-- where no update stood all is as it was
pub unended : (m : Memory) (id : ℕ) (k : KeptChain) → chain_at m id ≡ Some k → k.chain.updating ≡ false → (list : List Member) × IsEndListed id k.chain m.recency list × IsChainChanged id ended list m m
unended m id k e s = (
  m.recency,
  record { settled = λ s'. refl; updated = λ u j v n at. absurd (true-false k.chain.updating u s) },
  record {
    chains = on-itself m.chains id ended k e (λ i. record { chain = record { kind = k.chain.kind; versions = k.chain.versions; attached = k.chain.attached; updating = sym s i; pins = k.chain.pins }; passed = k.passed });
    recency = refl;
    dropped = refl;
    counts = refl;
    still = record { versions = λ i j n is. is; objects = λ r w off at. at };
    region = unmoved-itself m.region;
  },
)

-- the number of the newest version
pub newest-of : (n : ℕ) (k : KeptChain) → n ≡ length k.chain.versions → IsSoundChain k.chain → suc (n - 1) ≡ length k.chain.versions
newest-of n k e sound = let some = sound.some in omega (arith, e, some)
