-- A snapshot that may fill pins the newest version of its chain; and what was done to that version is done to the newest.
use Rattle.std.proofs.Common.{◌≡◌, ◌<◌, ◌-◌, ℕ, suc, false, Option, Some, None, length, refl, sym, ap, ◌∙◌, subst, arith}
use Rattle.std.specs.Prelude.{IfSome, IsSome, IsSomeAnd}
use Rattle.std.specs.Option.{option_map}
use Rattle.lsa_region.specs.Region.{live_bytes}
use Rattle.rc_position.specs.Position.{Head}
use Rattle.rc_core.specs.Chains.{at_place}
use Rattle.rc_core.specs.Steps.{MayPopulate, on_newest, on_version, pin_at}
use Rattle.rc_core.specs.Version.{Version}
use Rattle.rc_registry.specs.Registry.{put_at_number}
use Rattle.rc_memory.specs.declared.counts.Counts.{Counts}
use Rattle.rc_memory.specs.Memory.{HasPin, HasVersion, KeptChain, Member, Memory, IsVersionAt, chain_at, counts_raised, on_shown, on_version_of, shown_with}
use Rattle.rc_memory.specs.Room.{FitTogether}
use Rattle.rc_memory.specs.Changes.{FitsChanged, IsVersionChanged, OfVersion}
use Rattle.rc_memory.specs.laws.At.{number-there}
use Rattle.rc_memory.specs.laws.Places.{same_some}
use Rattle.rc_chain.specs.laws.Numbered.{on-newest}
use Rattle.rc_populate.specs.laws.Opening.{some-and}
use Rattle.rc_populate.proofs.Changed.{settled-of}
use Rattle.rc_populate.specs.Filling.{IsFilled, MayFill, OfPinned, on_newest_of}

is-some : {X : Type 0} (o : Option X) (P : X → Type 0) → IsSomeAnd o P → IsSome o
is-some None P h = absurd h
is-some (Some x) P h = refl

some-wider : {X : Type 0} (o : Option X) (P Q : X → Type 0) → ((x : X) → P x → Q x) → IsSomeAnd o P → IsSomeAnd o Q
some-wider None P Q wider h = absurd h
some-wider (Some x) P Q wider h = wider x h

module _ (m : Memory) (id pin : ℕ) (may : MayFill m id pin) where
  pub has-pin : HasPin m id pin
  has-pin = some-wider (chain_at m id) (λ k. IsSomeAnd (pin_at k.chain.pins pin) (MayPopulate (at_place Head k.chain))) (λ k. IsSome (pin_at k.chain.pins pin)) (λ k h. is-some (pin_at k.chain.pins pin) (MayPopulate (at_place Head k.chain)) h) may

  -- the number of the version that it pins
  module _ (j : ℕ) (pins : (k : KeptChain) → chain_at m id ≡ Some k → pin_at k.chain.pins pin ≡ Some j) where
    pub populates : (k : KeptChain) → chain_at m id ≡ Some k → MayPopulate (at_place Head k.chain) j
    populates k e =
        let own = some-and (chain_at m id) (λ k. IsSomeAnd (pin_at k.chain.pins pin) (MayPopulate (at_place Head k.chain))) may in
        let same : own.0 ≡ k = same_some own.0 k (sym own.1 ∙ e) in
        let on = some-and (pin_at k.chain.pins pin) (MayPopulate (at_place Head k.chain)) (subst (λ (q : KeptChain). IsSomeAnd (pin_at q.chain.pins pin) (MayPopulate (at_place Head q.chain))) same own.2) in
        subst (MayPopulate (at_place Head k.chain)) (same_some on.0 j (sym on.1 ∙ pins k e)) on.2

    pub newest-number : (k : KeptChain) → chain_at m id ≡ Some k → suc j ≡ length k.chain.versions
    newest-number k e = (populates k e).newest

    -- no update stands in the chain
    pub settled : (k : KeptChain) → chain_at m id ≡ Some k → k.chain.updating ≡ false
    settled k e = settled-of k.chain.updating (populates k e).settled

    pub has-newest : HasVersion m id j
    has-newest = let own = some-and (chain_at m id) (λ k. IsSomeAnd (pin_at k.chain.pins pin) (MayPopulate (at_place Head k.chain))) may in
        subst (λ (o : Option KeptChain). IsSomeAnd o (λ k. j < length k.chain.versions)) (sym own.1) (omega (arith, newest-number own.0 own.1))

    -- what holds of what a snapshot pins holds of the version of that number
    pub of-pinned : (P : KeptChain → ℕ → Version → Type 0) → OfPinned m id pin P → OfVersion m id j (λ k v. P k j v)
    of-pinned P h k v e at = h k j v e (pins k e) at

    pub pinned-of : (P : KeptChain → ℕ → Version → Type 0) → OfVersion m id j (λ k v. P k j v) → OfPinned m id pin P
    pinned-of P h k i v e on at = subst (λ i. P k i v) (sym (at-j k i e on)) (h k v e (subst (λ i. IsVersionAt k.chain.versions i v) (at-j k i e on) at))
      where
        at-j : (k : KeptChain) (i : ℕ) → chain_at m id ≡ Some k → pin_at k.chain.pins pin ≡ Some i → i ≡ j
        at-j k i e on = same_some i j (sym on ∙ pins k e)

    -- what fits with something done to the newest version fits with that done to the one of its number
    pub fits-newest : (S : ℕ) (f : Version → Version) → OfPinned m id pin (λ k i v. FitTogether S (on_newest f k.chain.versions)) → FitsChanged S id j f m
    fits-newest S f h =
        let own = some-and (chain_at m id) (λ k. IsSomeAnd (pin_at k.chain.pins pin) (MayPopulate (at_place Head k.chain))) may in let k = own.0 in
        let v = number-there k.chain.versions j (omega (arith, newest-number k own.1)) in
        subst (λ (o : Option KeptChain). IfSome o (λ k. FitTogether S (on_version j f k.chain.versions))) (sym own.1)
        (subst (FitTogether S) (sym (on-newest j f k.chain.versions (newest-number k own.1))) (h k j v.0 own.1 (pins k own.1) v.1))

-- ---- counted

-- the counts of one memory raised as those of another are, where they are equal
raised-alike : (more : ℕ) (a b : Memory) → a.counts ≡ b.counts → (counts_raised 0 0 more a).counts ≡ (counts_raised 0 0 more b).counts
raised-alike more a b e = ap (λ (c : Counts). (counts_raised 0 0 more (record { chains = b.chains; recency = b.recency; dropped = b.dropped; counts = c; region = b.region; standing = b.standing })).counts) e

module _ (id j : ℕ) (f : Version → Version) (these : Member → Type 0) (old mid new : Memory) (before : ℕ) (h : IsVersionChanged id j f these old mid) (live : before ≡ live_bytes old.region) (now : new ≡ counts_raised 0 0 (before - live_bytes mid.region) mid) where
  pub filled-then : ((k : KeptChain) → chain_at old id ≡ Some k → suc j ≡ length k.chain.versions) → (k : KeptChain) → chain_at old id ≡ Some k → IsFilled id f these old new
  filled-then newest k e = subst (IsFilled id f these old) (sym now) (record {
    chains = h.chains ∙ ap (λ o. put_at_number id o old.chains)
        (ap (option_map (on_shown (on_version_of j f))) e
        ∙ ap (λ vs. Some (on_shown (λ c. shown_with vs c) k)) (on-newest j f k.chain.versions (newest k e))
        ∙ sym (ap (option_map (on_shown (on_newest_of f))) e));
    dropped = h.dropped;
    counts = ap (λ n. (counts_raised 0 0 (n - live_bytes mid.region) mid).counts) live ∙ raised-alike (live_bytes old.region - live_bytes mid.region) mid old h.counts;
    still = record { versions = h.still.versions; objects = h.still.objects };
    region = h.region;
  })

  pub list-then : new.recency ≡ mid.recency
  list-then = ap (λ (m : Memory). m.recency) now

  pub region-then : new.region ≡ mid.region
  region-then = ap (λ (m : Memory). m.region) now
