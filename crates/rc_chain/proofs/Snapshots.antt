-- Snapshots of a chain by their numbers, and the numbers that are told.
use Rattle.std.proofs.Common.{◌≡◌, ◌<◌, ◌≤◌, ◌-◌, ℕ, suc, Bool, true, false, cond, [], ◌∷◌, Option, Some, None, IsSome, is_some, refl, sym, ap, ◌∙◌, subst, length, arith}
use Rattle.std.specs.Prelude.{IfSome, IsSomeAnd, IsTrue, MatchOption, OnErr, OnOk}
use Rattle.std.specs.Option.{option_map}
use Rattle.std.specs.declared.result.Result.{Result}
use Rattle.std.specs.declared.result.Result.TheVariants.{Ok, Err}
use Rattle.rc_core.specs.Chains.{Shown, at_place}
use Rattle.rc_position.specs.Position.{Head}
use Rattle.rc_core.specs.Version.{Version}
use Rattle.lsa_region.specs.Region.{View}
use Rattle.lsa_list.specs.declared.recency.List.{List as Slots}
use Rattle.rc_core.specs.Steps.{MayPopulate, free_number, pin_at}
use Rattle.rc_registry.specs.Registry.{Registry, on_use, put_at_number, use_at, with_pin}
use Rattle.rc_memory.specs.declared.counts.Counts.{Counts}
use Rattle.rc_memory.specs.Memory.{HasChain, HasPin, HasVersion, IsTold, IsVersionAt, KeptChain, Memory, chain_at, on_chain, snapshot_number, with_chains, with_dropped, with_snapshot}
use Rattle.rc_memory.specs.Kept.{AreKept, HoldMemory, IsMemory, IsSoundChain}
use Rattle.rc_memory.specs.laws.Keeping.{memory-pinned}
use Rattle.rc_chain.proofs.Reading.{chain-kept, number-there}
use Rattle.rc_memory.specs.laws.Places.{no_some, same_some}

module _ {X : Type 0} where
  pub from-some : (P : X → Type 0) (o : Option X) → IsSomeAnd o P → (x : X) × (o ≡ Some x) × P x
  from-some P None h = absurd h
  from-some P (Some x) h = (x, refl, h)

  pub to-some : (P : X → Type 0) (o : Option X) (x : X) → o ≡ Some x → P x → IsSomeAnd o P
  to-some P o x e h = subst (λ z. IsSomeAnd z P) (sym e) h

  pub if-some : (P : X → Type 0) (o : Option X) (x : X) → IfSome o P → o ≡ Some x → P x
  if-some P None x h e = absurd (no_some x e)
  if-some P (Some y) x h e = subst P (same_some y x e) h

pub pin-chain : (m : Memory) (id pin : ℕ) → HasPin m id pin → HasChain m id
pin-chain m id pin h = let a = from-some (λ k. IsSome (pin_at k.chain.pins pin)) (chain_at m id) h in ap is_some a.1

module _ (slots : Slots) (v : View) (registry : Registry) (counts : Counts) (m : Memory) (h : HoldMemory slots v registry counts m) where
  pub pin-used : (id pin : ℕ) → HasPin m id pin → IsSomeAnd (use_at registry.uses id) (λ u. IsSome (pin_at u.pins pin))
  pin-used id pin has =
      let a = from-some (λ k. IsSome (pin_at k.chain.pins pin)) (chain_at m id) has in let k = chain-kept slots v registry counts m h id a.0 a.1 in
      to-some (λ u. IsSome (pin_at u.pins pin)) (use_at registry.uses id) k.used k.at (subst (λ (x : KeptChain). IsSome (pin_at x.chain.pins pin)) k.same a.2)

  pub pin-told : (id pin : ℕ) (o : Option ℕ) → IfSome (use_at registry.uses id) (λ u. o ≡ pin_at u.pins pin) → (number : ℕ) → o ≡ Some number → (k : KeptChain) → chain_at m id ≡ Some k → pin_at k.chain.pins pin ≡ Some number
  pin-told id pin o told number is k e =
      let a = chain-kept slots v registry counts m h id k e in
      ap (λ (x : KeptChain). pin_at x.chain.pins pin) a.same ∙ sym (if-some (λ u. o ≡ pin_at u.pins pin) (use_at registry.uses id) a.used told a.at) ∙ is

  pub pin-unset : (id pin : ℕ) → HasPin m id pin → (o : Option ℕ) → IfSome (use_at registry.uses id) (λ u. o ≡ pin_at u.pins pin) → o ≡ None → ⊥
  pin-unset id pin has o told none =
      let a = from-some (λ u. IsSome (pin_at u.pins pin)) (use_at registry.uses id) (pin-used id pin has) in
      lacks (pin_at a.0.pins pin) (sym (if-some (λ u. o ≡ pin_at u.pins pin) (use_at registry.uses id) a.0 told a.1) ∙ none) a.2
    where
      lacks : (o : Option ℕ) → o ≡ None → IsSome o → ⊥
      lacks o none is = let clash = sym (ap is_some none) ∙ is in cc

-- ---- numbers told

same_uses : (old new : Registry) (o : Option ℕ) → MatchOption o ((old.dropped ≡ []) × (new ≡ old)) (λ id. old ≡ record { uses = new.uses; dropped = id ∷ new.dropped }) → old.uses ≡ new.uses
same_uses old new None h = ap (λ (r : Registry). r.uses) (sym h.1)
same_uses old new (Some id) h = ap (λ (r : Registry). r.uses) h

module _ (slots : Slots) (v : View) (old new : Registry) (counts : Counts) (m : Memory) (o : Option ℕ) where
  pub told : HoldMemory slots v old counts m → MatchOption o ((old.dropped ≡ []) × (new ≡ old)) (λ id. old ≡ record { uses = new.uses; dropped = id ∷ new.dropped }) → IsTold m (with_dropped new.dropped m) o
  told h t = of o t
    where
      of : (o : Option ℕ) → MatchOption o ((old.dropped ≡ []) × (new ≡ old)) (λ id. old ≡ record { uses = new.uses; dropped = id ∷ new.dropped }) → IsTold m (with_dropped new.dropped m) o
      of None t = (h.dropped ∙ t.0, ap (λ ds. with_dropped ds m) (ap (λ (r : Registry). r.dropped) t.1 ∙ sym h.dropped))
      of (Some id) t = (h.dropped ∙ ap (λ (r : Registry). r.dropped) t, refl)

pub told-memory : (S : ℕ) (slots : Slots) (v : View) (old new : Registry) (counts : Counts) (m : Memory) (o : Option ℕ) → IsMemory S slots v old counts m → MatchOption o ((old.dropped ≡ []) × (new ≡ old)) (λ id. old ≡ record { uses = new.uses; dropped = id ∷ new.dropped })
    → IsMemory S slots v new counts (with_dropped new.dropped m)
told-memory S slots v old new counts m o h t = record {
  held = record {
    well = h.held.well;
    region = h.held.region;
    kept = subst (λ us. AreKept us m.standing m.chains) (same_uses old new o t) h.held.kept;
    listed = h.held.listed;
    stands = h.held.stands;
    recency = h.held.recency;
    roots = h.held.roots;
    dropped = refl;
    counted = h.held.counted;
  };
  sound = h.sound;
  rule = record { once = h.rule.once; members = h.rule.members; complete = h.rule.complete };
  fit = h.fit;
}

-- ---- a snapshot taken

low_by : (u : Bool) (n : ℕ) → 0 < n → (u ≡ true → 2 ≤ n) → cond u (n - 2) (n - 1) < n
low_by true n some two = let at = two refl in omega (arith, at)
low_by false n some two = omega (arith, some)

inner_by : (u : Bool) (n : ℕ) → (u ≡ true → 2 ≤ n) → u ≡ true → suc (cond u (n - 2) (n - 1)) < n
inner_by true n two e = let at = two refl in omega (arith, at)
inner_by false n two e = cc e

pub number-low : (c : Shown) → IsSoundChain c → snapshot_number c < length c.versions
number-low c h = low_by c.updating (length c.versions) h.some h.below

pub number-inner : (c : Shown) → IsSoundChain c → c.updating ≡ true → suc (snapshot_number c) < length c.versions
number-inner c h u = inner_by c.updating (length c.versions) h.below u

maps_same : {X : Type 0} (f g : X → X) (o : Option X) → ((x : X) → o ≡ Some x → f x ≡ g x) → option_map f o ≡ option_map g o
maps_same f g None same = refl
maps_same f g (Some x) same = ap (λ y. Some y) (same x refl)

module _ (S : ℕ) (slots : Slots) (v : View) (registry : Registry) (counts : Counts) (m : Memory) (h : IsMemory S slots v registry counts m) (id number : ℕ) (there : HasChain m id)
    (told : (k : KeptChain) → chain_at m id ≡ Some k → number ≡ snapshot_number k.chain) where
  sound-at : (k : KeptChain) → chain_at m id ≡ Some k → IsSoundChain k.chain
  sound-at k e = if-some (λ k. IsSoundChain k.chain) (chain_at m id) k (h.sound id) e

  abbrev pub pinned_memory : Memory
  pinned_memory = with_chains (on_chain id (with_snapshot number) m.chains) m

  pub memory-snapped : (new : Registry) → new ≡ on_use id (with_pin number) registry → IsMemory S slots v new counts pinned_memory
  memory-snapped new e = subst (λ r. IsMemory S slots v r counts pinned_memory) (sym e) (memory-pinned S slots v registry counts m id h there number
      (λ k at. subst (λ n. n < length k.chain.versions) (sym (told k at)) (number-low k.chain (sound-at k at)))
      (λ k at u. subst (λ n. suc n < length k.chain.versions) (sym (told k at)) (number-inner k.chain (sound-at k at) u)))

  -- whatever was answered
  pub after-pin : {N E : Type 0} (r : Result N E) (new : Registry) → OnOk r (new ≡ on_use id (with_pin number) registry) → OnErr r (new ≡ registry) → (x : Memory) × IsMemory S slots v new counts x
  after-pin (Ok n) new a b = (pinned_memory, memory-snapped new a)
  after-pin (Err e) new a b = (m, subst (λ r. IsMemory S slots v r counts m) (sym b) h)

  pub snapped-now : pinned_memory ≡ with_chains (on_chain id (λ k. with_snapshot (snapshot_number k.chain) k) m.chains) m
  snapped-now = ap (λ o. with_chains (put_at_number id o m.chains) m) (maps_same (with_snapshot number) (λ k. with_snapshot (snapshot_number k.chain) k) (chain_at m id) (λ k e. ap (λ n. with_snapshot n k) (told k e)))

  pub snapped-number : (pin : ℕ) → IfSome (use_at registry.uses id) (λ u. pin ≡ free_number u.pins) → IfSome (chain_at m id) (λ k. pin ≡ free_number k.chain.pins)
  snapped-number pin given = all (λ k. pin ≡ free_number k.chain.pins) (chain_at m id)
      (λ k e. let a = chain-kept slots v registry counts m h.held id k e in if-some (λ u. pin ≡ free_number u.pins) (use_at registry.uses id) a.used given a.at ∙ ap (λ (x : KeptChain). free_number x.chain.pins) (sym a.same))
    where
      all : (P : KeptChain → Type 0) (o : Option KeptChain) → ((k : KeptChain) → o ≡ Some k → P k) → IfSome o P
      all P None h = tt
      all P (Some k) h = h k refl

  pub snapped-version : (phase : ℕ) → ((k : KeptChain) (w : Version) → chain_at m id ≡ Some k → IsVersionAt k.chain.versions number w → phase ≡ w.phase) → IfSome (chain_at m id) (λ k. (w : Version) × IsVersionAt k.chain.versions (snapshot_number k.chain) w × (phase ≡ w.phase))
  snapped-version phase is = all (chain_at m id) (λ k e. let a = number-there k.chain.versions (snapshot_number k.chain) (number-low k.chain (sound-at k e)) in
      (a.0, a.1, is k a.0 e (subst (λ n. IsVersionAt k.chain.versions n a.0) (sym (told k e)) a.1)))
    where
      all : (o : Option KeptChain) → ((k : KeptChain) → o ≡ Some k → (w : Version) × IsVersionAt k.chain.versions (snapshot_number k.chain) w × (phase ≡ w.phase)) → IfSome o (λ k. (w : Version) × IsVersionAt k.chain.versions (snapshot_number k.chain) w × (phase ≡ w.phase))
      all None h = tt
      all (Some k) h = h k refl

  pub snapped-there : HasVersion m id number
  snapped-there = let a = found (chain_at m id) there in to-some (λ k. number < length k.chain.versions) (chain_at m id) a.0 a.1 (subst (λ n. n < length a.0.chain.versions) (sym (told a.0 a.1)) (number-low a.0.chain (sound-at a.0 a.1)))
    where
      found : (o : Option KeptChain) → IsSome o → (k : KeptChain) × (o ≡ Some k)
      found None some = cc some
      found (Some k) some = (k, refl)

pub has-chain : (m : Memory) (id : ℕ) → IsSomeAnd (chain_at m id) (λ k. k.chain.attached ≡ true) → HasChain m id
has-chain m id h = let a = from-some (λ k. k.chain.attached ≡ true) (chain_at m id) h in ap is_some a.1

pub numbered : (c : Shown) (n : ℕ) (u : Bool) → n ≡ length c.versions → u ≡ c.updating → cond u (n - 2) (n - 1) ≡ snapshot_number c
numbered c n u a b = ap (λ x. cond u (x - 2) (x - 1)) a ∙ ap (λ x. cond x (length c.versions - 2) (length c.versions - 1)) b

pub sound-here : (S : ℕ) (slots : Slots) (v : View) (registry : Registry) (counts : Counts) (m : Memory) → IsMemory S slots v registry counts m → (id : ℕ) (k : KeptChain) → chain_at m id ≡ Some k → IsSoundChain k.chain
sound-here S slots v registry counts m h id k e = if-some (λ k. IsSoundChain k.chain) (chain_at m id) k (h.sound id) e

pub on-err : {N E : Type 0} (P : Type 0) (r : Result N E) → P → OnErr r P
on-err P (Ok n) h = tt
on-err P (Err e) h = h

-- ---- who fills

settled_of : (u : Bool) → u ≡ false → cond u (Some Head) None ≡ None
settled_of true e = cc e
settled_of false e = refl

unsettled_of : (u : Bool) → cond u (Some Head) None ≡ None → u ≡ false
unsettled_of true e = cc e
unsettled_of false e = refl

pub same-number : (i j : ℕ) → Some i ≡ Some j → i ≡ j
same-number i j e = same_some i j e

pub fills-is : (c : Shown) (j pinned versions : ℕ) (attached updating result : Bool) → IsSoundChain c → pinned ≡ j → versions ≡ length c.versions → attached ≡ c.attached → updating ≡ c.updating
    → (IsTrue result → (pinned ≡ versions - 1) × (attached ≡ true) × (updating ≡ false)) × ((pinned ≡ versions - 1) × (attached ≡ true) × (updating ≡ false) → IsTrue result)
    → (IsTrue result → MayPopulate (at_place Head c) j) × (MayPopulate (at_place Head c) j → IsTrue result)
fills-is c j pinned versions attached updating result h p v a u told = (
  λ is. let t = told.0 is in record {
    newest = let low = h.some in let e = t.0 in omega (arith, low, p, v, e);
    attached = sym a ∙ t.1;
    settled = settled_of c.updating (sym u ∙ t.2);
  },
  λ m. told.1 (let n = m.newest in omega (arith, n, p, v), a ∙ m.attached, u ∙ unsettled_of c.updating m.settled),
)
