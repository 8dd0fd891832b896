-- What is left where a snapshot was taken and taken back.
use Rattle.std.proofs.Common.{inl, inr, ◌≡◌, ◌≢◌, ◌⊎◌, ℕ, zero, suc, List, [], ◌∷◌, Option, Some, None, IsSome, refl, sym, ap, ◌∙◌, subst, slice_index_or, arith}
use Rattle.std.specs.Option.{option_map}
use Rattle.std.specs.Prelude.{Contains, IfSome, IsSomeAnd, length, take}
use Rattle.lsa_region.specs.Region.{SameObjects, View}
use Rattle.rc_core.specs.declared.entries.ChainKind.{ChainKind}
use Rattle.rc_core.specs.declared.entries.ChainKind.TheVariants.{Cache, Memtable}
use Rattle.rc_position.specs.Position.{Head}
use Rattle.rc_mutation.specs.declared.mutations.Mutation.{Mutation}
use Rattle.rc_mutation.specs.Source.{SameSource}
use Rattle.rc_core.specs.Chains.{at_place}
use Rattle.rc_core.specs.Steps.{MayPopulate, free_number, pin_at}
use Rattle.rc_core.specs.laws.Pins.{pin-freed, pin-is-pinned, pin-kept, pin-others, pin-was-free, pinned-by-number}
use Rattle.rc_memory.specs.Changes.{member_at}
use Rattle.rc_memory.specs.Memory.{HasPin, IsSnapshotTaken, KeptChain, Memory, chain_at, on_chain, snapshot_number, with_dropped, with_snapshot, without_snapshot}
use Rattle.rc_memory.specs.laws.Places.{same_some}
use Rattle.rc_memory.specs.laws.Put.{put-at, put-beside}
use Rattle.rc_chain.specs.declared.chains.Snap.{Snap}
use Rattle.rc_cached.specs.Lives.{IsIdle}
use Rattle.rc_cached.specs.Filling.{MayFill}
use Rattle.rc_cached.specs.Opening.{some-and}
use Rattle.rc_cursor.specs.Snapshots.{kind_in, kind_seen, versions_in, versions_seen, versions_upto}
use Rattle.rc_cached.specs.Stands.{HasCacheSnapshot}
use Rattle.rc_snapshots.specs.Seeing.{StillSees}
use Rattle.rc_core.specs.Version.{Version}
use Rattle.rc_row_cache.specs.Footprint.{AreInUse}
use Rattle.rc_lookup.specs.Looked.{IsStill, IsUnread}
use Rattle.rc_lookup.specs.Staying.{IsStillThere}
use Rattle.rc_lookup.specs.calls.Reading.{IsLookedUp, without_snap}

-- ---- lists and answers

take-all : (vs : List Version) → take (length vs) vs ≡ vs
take-all [] = refl
take-all (v ∷ vs) = ap (λ us. v ∷ us) (take-all vs)

pub same-number : (m n : ℕ) → Some m ≡ Some n → m ≡ n
same-number m n e = cc

pub none-there : (n : ℕ) → None ≡ Some n → ⊥
none-there n e = cc

-- ---- the chain of a number, and those of others

decided : (m n : ℕ) → (m ≡ n) ⊎ (m ≢ n)
decided zero zero = inl refl
decided zero (suc n) = inr (omega arith)
decided (suc m) zero = inr (omega arith)
decided (suc m) (suc n) = elim (decided m n) [ inl e ↦ inl (ap (λ k. suc k) e) | inr e ↦ inr (λ x. e (omega arith)) ]

pub here-or-beside : {P : Type 0} (id i : ℕ) → (i ≡ id → P) → ((i ≡ id → ⊥) → P) → P
here-or-beside id i here beside = elim (decided i id) [ inl same ↦ here same | inr ne ↦ beside ne ]

module _ (old new : Memory) (id : ℕ) (f : KeptChain → KeptChain) (is : new.chains ≡ on_chain id f old.chains) where
  pub at-here : chain_at new id ≡ option_map f (chain_at old id)
  at-here = ap (λ cs. slice_index_or cs id None) is ∙ put-at old.chains id (option_map f (chain_at old id))

  pub at-beside : (i : ℕ) → (i ≡ id → ⊥) → chain_at new i ≡ chain_at old i
  at-beside i ne = ap (λ cs. slice_index_or cs i None) is ∙ put-beside old.chains id (option_map f (chain_at old id)) i ne

-- a region that is as it was
pub unchanged : (v : View) → SameObjects v v
unchanged v = record { bodies = λ r. refl; ends = λ e there. there; gone = λ e there. there; spots = λ r. refl; slots = refl; usages = refl; epoch = refl; moved = refl; compacted = refl }

-- ---- a snapshot more, and then it is taken back

-- the chain with one snapshot more, and then without it
abbrev passed_by : ℕ → KeptChain → KeptChain
passed_by pin k = without_snapshot pin (with_snapshot (snapshot_number k.chain) k)

abbrev PinIn : ℕ → Option KeptChain → Type 0
PinIn pin o = IsSomeAnd o (λ k. IsSome (pin_at k.chain.pins pin))

not-some : (o : Option ℕ) → o ≡ None → IsSome o → ⊥
not-some None e on = cc
not-some (Some j) e on = cc

-- each number pins what it pinned
same-pins : (k : KeptChain) (pin other : ℕ) → pin ≡ free_number k.chain.pins → pin_at (passed_by pin k).chain.pins other ≡ pin_at k.chain.pins other
same-pins k pin other e = here-or-beside pin other
    (λ same. subst (λ n. pin_at (passed_by pin k).chain.pins n ≡ pin_at k.chain.pins n) (sym same) (pin-freed pin (with_snapshot (snapshot_number k.chain) k).chain.pins ∙ sym (ap (pin_at k.chain.pins) e ∙ pin-was-free k.chain.pins)))
    (λ ne. pin-kept pin other (with_snapshot (snapshot_number k.chain) k).chain.pins ne ∙ pin-others (snapshot_number k.chain) k.chain.pins other (λ free. ne (free ∙ sym e)))

module _ (s : Snap) (old mid : Memory) (taken : IsSnapshotTaken old mid s.chain s.pin s.phase) (h : HasCacheSnapshot mid s.chain s.pin) where
  abbrev new : Memory
  new = without_snap s mid

  mid-here : chain_at mid s.chain ≡ option_map (λ k. with_snapshot (snapshot_number k.chain) k) (chain_at old s.chain)
  mid-here = at-here old mid s.chain (λ k. with_snapshot (snapshot_number k.chain) k) (ap (λ (m : Memory). m.chains) taken.now)

  here : (k : KeptChain) → chain_at old s.chain ≡ Some k → chain_at new s.chain ≡ Some (passed_by s.pin k)
  here k e = at-here mid new s.chain (without_snapshot s.pin) refl ∙ ap (option_map (without_snapshot s.pin)) (mid-here ∙ ap (option_map (λ (q : KeptChain). with_snapshot (snapshot_number q.chain) q)) e)

  beside : (i : ℕ) → (i ≡ s.chain → ⊥) → chain_at new i ≡ chain_at old i
  beside i ne = at-beside mid new s.chain (without_snapshot s.pin) refl i ne ∙ at-beside old mid s.chain (λ k. with_snapshot (snapshot_number k.chain) k) (ap (λ (m : Memory). m.chains) taken.now) i ne

  number : (k : KeptChain) → chain_at old s.chain ≡ Some k → s.pin ≡ free_number k.chain.pins
  number k e = subst (λ (o : Option KeptChain). IfSome o (λ q. s.pin ≡ free_number q.chain.pins)) e taken.number

  sees : (t : Snap) (k now : KeptChain) → chain_at old t.chain ≡ Some k → chain_at new t.chain ≡ Some now → now.chain.versions ≡ k.chain.versions → now.chain.kind ≡ k.chain.kind → pin_at now.chain.pins t.pin ≡ pin_at k.chain.pins t.pin → IsSome (pin_at k.chain.pins t.pin) → StillSees t old new
  sees t k now e f versions kind pins on = record {
    pin = subst (PinIn t.pin) (sym f) (subst (λ (o : Option ℕ). IsSome o) (sym pins) on);
    versions = ap (λ o. versions_in o t.pin) f ∙ (λ i. versions_upto (versions i) (pins i)) ∙ sym (ap (λ o. versions_in o t.pin) e);
    kind = ap kind_in f ∙ kind ∙ sym (ap kind_in e);
  }

  alike : (t : Snap) → HasPin old t.chain t.pin → StillSees t old new
  alike t on =
      let k = some-and (chain_at old t.chain) (λ q. IsSome (pin_at q.chain.pins t.pin)) on in
      here-or-beside s.chain t.chain
      (λ same. (let there = sym (ap (chain_at old) same) ∙ k.1 in sees t k.0 (passed_by s.pin k.0) k.1 (ap (chain_at new) same ∙ here k.0 there) refl refl (same-pins k.0 s.pin t.pin (number k.0 there)) k.2))
      (λ ne. sees t k.0 k.0 k.1 (beside t.chain ne ∙ k.1) refl refl refl k.2)

  -- the chain was there
  was : (o : Option KeptChain) → chain_at old s.chain ≡ o → (k : KeptChain) × (chain_at old s.chain ≡ Some k) × (k.chain.kind ≡ Cache)
  was None e = (let none : None ≡ Some h.chain = sym (mid-here ∙ ap (option_map (λ (q : KeptChain). with_snapshot (snapshot_number q.chain) q)) e) ∙ h.there in absurd (cc))
  was (Some k) e = (k, e, ap (λ (q : KeptChain). q.chain.kind) (same_some (with_snapshot (snapshot_number k.chain) k) h.chain (sym (mid-here ∙ ap (option_map (λ (q : KeptChain). with_snapshot (snapshot_number q.chain) q)) e) ∙ h.there)) ∙ h.cached)

  none-more : (t : Snap) → HasPin new t.chain t.pin → HasPin old t.chain t.pin
  none-more t on =
      let k = was (chain_at old s.chain) refl in
      here-or-beside s.chain t.chain
      (λ same. subst (PinIn t.pin) (sym (ap (chain_at old) same ∙ k.1)) (subst (λ (o : Option ℕ). IsSome o) (same-pins k.0 s.pin t.pin (number k.0 k.1)) (subst (PinIn t.pin) (ap (chain_at new) same ∙ here k.0 k.1) on)))
      (λ ne. subst (PinIn t.pin) (beside t.chain ne) on)

  memtable : (id : ℕ) (k : KeptChain) → chain_at old id ≡ Some k → k.chain.kind ≡ Memtable → chain_at new id ≡ Some k
  memtable id k e kind = here-or-beside s.chain id
      (λ same. (let c = was (chain_at old s.chain) refl in
      let clash : Memtable ≡ Cache = sym kind ∙ ap (λ (q : KeptChain). q.chain.kind) (same_some k c.0 (sym e ∙ ap (chain_at old) same ∙ c.1)) ∙ c.2 in absurd (cc)))
      (λ ne. beside id ne ∙ e)

  -- each chain is there still, with what it had
  pub still : (id : ℕ) → IsStillThere old new id
  still id k e = here-or-beside s.chain id
      (λ same. (passed_by s.pin k, ap (chain_at new) same ∙ here k (sym (ap (chain_at old) same) ∙ e), record { kind = refl; attached = refl; versions = refl }))
      (λ ne. (k, beside id ne ∙ e, record { kind = refl; attached = refl; versions = refl }))

  -- what holds of a chain by its kind and its versions holds by what the snapshot sees, which pins the newest version
  pub snap-known : (P : ChainKind → List Version → Type 0) → MayFill mid s.chain s.pin → IsSomeAnd (chain_at old s.chain) (λ k. P k.chain.kind k.chain.versions) → P (kind_seen mid s) (versions_seen mid s)
  snap-known P may whole =
      let k = was (chain_at old s.chain) refl in
      let here : h.chain ≡ with_snapshot (snapshot_number k.0.chain) k.0 = same_some h.chain (with_snapshot (snapshot_number k.0.chain) k.0) (sym h.there ∙ mid-here ∙ ap (option_map (λ (q : KeptChain). with_snapshot (snapshot_number q.chain) q)) k.1) in
      let fills : MayPopulate (at_place Head h.chain.chain) h.number =
      subst (λ (o : Option ℕ). IsSomeAnd o (MayPopulate (at_place Head h.chain.chain))) h.pinned (subst (λ (o : Option KeptChain). IsSomeAnd o (λ q. IsSomeAnd (pin_at q.chain.pins s.pin) (MayPopulate (at_place Head q.chain)))) h.there may) in
      let versions : versions_seen mid s ≡ k.0.chain.versions =
      ap (λ o. versions_in o s.pin) h.there ∙ ap (versions_upto h.chain.chain.versions) h.pinned ∙ ap (λ n. take n h.chain.chain.versions) fills.newest ∙ take-all h.chain.chain.versions ∙ ap (λ (q : KeptChain). q.chain.versions) here in
      let kind : kind_seen mid s ≡ k.0.chain.kind = ap kind_in h.there ∙ ap (λ (q : KeptChain). q.chain.kind) here in
      let all : P k.0.chain.kind k.0.chain.versions = subst (λ (o : Option KeptChain). IsSomeAnd o (λ q. P q.chain.kind q.chain.versions)) k.1 whole in
      subst (λ q. P q (versions_seen mid s)) (sym kind) (subst (P k.0.chain.kind) (sym versions) all)

  -- and what holds of the chain held of it before
  pub chain-known : (P : ChainKind → List Version → Type 0) → IsSomeAnd (chain_at mid s.chain) (λ k. P k.chain.kind k.chain.versions) → IsSomeAnd (chain_at old s.chain) (λ k. P k.chain.kind k.chain.versions)
  chain-known P on =
      let k = was (chain_at old s.chain) refl in
      let there : chain_at mid s.chain ≡ Some (with_snapshot (snapshot_number k.0.chain) k.0) = mid-here ∙ ap (option_map (λ (q : KeptChain). with_snapshot (snapshot_number q.chain) q)) k.1 in
      let now : P k.0.chain.kind k.0.chain.versions = subst (λ (o : Option KeptChain). IsSomeAnd o (λ q. P q.chain.kind q.chain.versions)) there on in
      subst (λ (o : Option KeptChain). IsSomeAnd o (λ q. P q.chain.kind q.chain.versions)) (sym k.1) now

  -- its chain is to be dropped only if it was before
  was-idle : (id : ℕ) (n : KeptChain) → chain_at new id ≡ Some n → IsIdle new id n.chain → (k : KeptChain) × (chain_at old id ≡ Some k) × IsIdle old id k.chain
  was-idle id n e idle = here-or-beside s.chain id
      (λ same. (let k = was (chain_at old s.chain) refl in
      let there = ap (chain_at old) same ∙ k.1 in
      let now : n ≡ passed_by s.pin k.0 = same_some n (passed_by s.pin k.0) (sym e ∙ ap (chain_at new) same ∙ here k.0 k.1) in
      let left = subst (λ (q : KeptChain). IsIdle new id q.chain) now idle in (
        k.0,
        there,
        record {
          cached = left.cached;
          settled = left.settled;
          unpinned = λ j on. (let p = pinned-by-number k.0.chain.pins j on in left.unpinned j (pin-is-pinned (passed_by s.pin k.0).chain.pins p.0 j (same-pins k.0 s.pin p.0 (number k.0 k.1) ∙ p.1)));
          unlisted = λ j at on. left.unlisted j at (subst (λ l. Contains l (member_at id j at)) (sym (ap (λ (m : Memory). m.recency) taken.now)) on);
        },
      )))
      (λ ne. (
        n,
        sym (beside id ne) ∙ e,
        record {
          cached = idle.cached;
          settled = idle.settled;
          unpinned = idle.unpinned;
          unlisted = λ j at on. idle.unlisted j at (subst (λ l. Contains l (member_at id j at)) (sym (ap (λ (m : Memory). m.recency) taken.now)) on);
        },
      ))

  pub back-used : AreInUse old → AreInUse new
  back-used used id n e idle = let k = was-idle id n e idle in used id k.0 k.1 k.2

  pub looked : IsLookedUp old new
  looked = record {
    still = record {
      region = subst (SameObjects old.region) (sym (ap (λ (m : Memory). m.region) taken.now)) (unchanged old.region);
      counts = ap (λ (m : Memory). m.counts) taken.now;
      memtables = memtable;
    };
    snapshots = record { alike = alike; none_more = none-more };
  }

  pub unread : IsUnread old new
  unread = record { region = ap (λ (m : Memory). m.region) taken.now; recency = ap (λ (m : Memory). m.recency) taken.now }

-- numbers that were told change nothing of this
pub told-still : (old now : Memory) → IsStill (with_dropped [] old) now → IsStill old now
told-still old now a = record { region = a.region; counts = a.counts; memtables = a.memtables }

pub told-looked : (old now : Memory) → IsLookedUp (with_dropped [] old) now → IsLookedUp old now
told-looked old now a = record { still = told-still old now a.still; snapshots = record { alike = λ s on. (let x = a.snapshots.alike s on in record { pin = x.pin; versions = x.versions; kind = x.kind }); none_more = a.snapshots.none_more } }

-- a snapshot of a cache chain is one
pub has-pin : (m : Memory) (id pin : ℕ) → HasCacheSnapshot m id pin → HasPin m id pin
has-pin m id pin h = subst (PinIn pin) (sym h.there) (subst (λ (o : Option ℕ). IsSome o) (sym h.pinned) refl)

pub same-source : (writes : List Mutation) → SameSource writes writes
same-source writes = record { head = refl; statics = refl; clustered = λ x. refl }

pub looked-none : (old : Memory) → IsLookedUp old old
looked-none old = record { still = record { region = unchanged old.region; counts = refl; memtables = λ id k e kind. e }; snapshots = record { alike = λ s on. record { pin = on; versions = refl; kind = refl }; none_more = λ s on. on } }
