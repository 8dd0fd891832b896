-- One version of a chain that was changed twice, or in two ways that are alike there; and what stands there then.
use Rattle.std.proofs.Common.{⊎_elim, ◌≡◌, ◌⊎◌, ◌<◌, ℕ, zero, suc, Bool, true, false, List, [], ◌∷◌, ◌++◌, Option, Some, None, cond, length, slice_index_or, refl, sym, ap, ◌∙◌, subst}
use Rattle.std.specs.Prelude.{Contains, IfSome, IsSomeAnd}
use Rattle.std.specs.Option.{option_map}
use Rattle.rc_position.specs.declared.positions.Pos.{Pos}
use Rattle.rc_position.specs.Position.{Head, Place}
use Rattle.rc_core.specs.Steps.{on_version}
use Rattle.rc_core.specs.Version.{Version}
use Rattle.rc_registry.specs.Registry.{put_at_number}
use Rattle.rc_memory.specs.Memory.{HasVersion, KeptChain, Member, Memory, IsVersionAt, chain_at, on_chain, on_shown, on_version_of, shown_with}
use Rattle.rc_memory.specs.Recency.{IsLastInner, IsUnderUpdate}
use Rattle.rc_memory.specs.Changes.{IsVersionChanged, KeepsLast, Nowhere, OfVersion, member_at}
use Rattle.rc_memory.specs.laws.At.{found-version, number-low}
use Rattle.rc_memory.specs.laws.Listed.{one-at}
use Rattle.rc_memory.specs.laws.Places.{same_some}
use Rattle.rc_memory.specs.laws.Put.{put-at}
use Rattle.rc_memory.specs.laws.Recent.{on-is}
use Rattle.rc_memory.specs.laws.Still.{still-then, still-wider, unmoved-then}
use Rattle.rc_chain.specs.laws.Numbered.{version-or-none}
use Rattle.rc_populate.specs.laws.Opening.{put-put}

on-both : (j : ℕ) (f g : Version → Version) (vs : List Version) → on_version j g (on_version j f vs) ≡ on_version j (λ v. g (f v)) vs
on-both j f g [] = refl
on-both zero f g (v ∷ vs) = refl
on-both (suc j) f g (v ∷ vs) = ap (λ l. v ∷ l) (on-both j f g vs)

both-chains : (id j : ℕ) (f g : Version → Version) (cs : List (Option KeptChain)) → on_chain id (on_shown (on_version_of j g)) (on_chain id (on_shown (on_version_of j f)) cs) ≡ on_chain id (on_shown (on_version_of j (λ v. g (f v)))) cs
both-chains id j f g cs =
    ap (λ o. put_at_number id (option_map (on_shown (on_version_of j g)) o) (on_chain id (on_shown (on_version_of j f)) cs)) (put-at cs id (option_map (on_shown (on_version_of j f)) (slice_index_or cs id None)))
    ∙ put-put cs id (option_map (on_shown (on_version_of j g)) (option_map (on_shown (on_version_of j f)) (slice_index_or cs id None))) (option_map (on_shown (on_version_of j f)) (slice_index_or cs id None)) ∙ ap (λ o. put_at_number id o cs) (mapped (slice_index_or cs id None))
  where
    mapped : (o : Option KeptChain) → option_map (on_shown (on_version_of j g)) (option_map (on_shown (on_version_of j f)) o) ≡ option_map (on_shown (on_version_of j (λ v. g (f v)))) o
    mapped None = refl
    mapped (Some k) = ap (λ vs. Some (on_shown (shown_with vs) k)) (on-both j f g k.chain.versions)

module _ (id j : ℕ) (these : Member → Type 0) where
  -- one change after another
  pub changed-both : (f g : Version → Version) (m n o : Memory) → IsVersionChanged id j f these m n → IsVersionChanged id j g Nowhere n o → IsVersionChanged id j (λ v. g (f v)) these m o
  changed-both f g m n o a b = record {
    chains = b.chains ∙ ap (on_chain id (on_shown (on_version_of j g))) a.chains ∙ both-chains id j f g m.chains;
    dropped = b.dropped ∙ a.dropped;
    counts = b.counts ∙ a.counts;
    still = still-then these m n o a.still (still-wider Nowhere these n o (λ w no. absurd no) b.still);
    region = unmoved-then m.region n.region o.region a.region b.region;
  }

  -- two changes that are alike for the version that is there
  pub changed-alike : (f g : Version → Version) (m o : Memory) → ((k : KeptChain) (v : Version) → chain_at m id ≡ Some k → IsVersionAt k.chain.versions j v → f v ≡ g v) → IsVersionChanged id j f these m o → IsVersionChanged id j g these m o
  changed-alike f g m o alike h = record {
    chains = h.chains ∙ ap (λ x. put_at_number id x m.chains) (of (chain_at m id) refl);
    dropped = h.dropped;
    counts = h.counts;
    still = h.still;
    region = h.region;
  }
    where
      each : (vs : List Version) → ((v : Version) → IsVersionAt vs j v → f v ≡ g v) → on_version j f vs ≡ on_version j g vs
      each vs same = ⊎_elim
          (λ k. on-is vs j k.0 f k.1 ∙ ap (λ v. k.1.older ++ (v ∷ k.1.newer)) (same k.0 k.1) ∙ sym (on-is vs j k.0 g k.1))
          (λ none. none f ∙ sym (none g))
          (version-or-none j vs)

      of : (x : Option KeptChain) → chain_at m id ≡ x → option_map (on_shown (on_version_of j f)) x ≡ option_map (on_shown (on_version_of j g)) x
      of None e = refl
      of (Some k) e = ap (λ vs. Some (on_shown (shown_with vs) k)) (each k.chain.versions (λ v at. alike k v e at))

  -- ---- what stands there then

  module _ (f : Version → Version) (m n : Memory) (changed : IsVersionChanged id j f these m n) where
    pub chain-after : (k : KeptChain) → chain_at m id ≡ Some k → chain_at n id ≡ Some (on_shown (on_version_of j f) k)
    chain-after k there = ap (λ cs. slice_index_or cs id None) changed.chains ∙ put-at m.chains id (option_map (on_shown (on_version_of j f)) (chain_at m id)) ∙ ap (option_map (on_shown (on_version_of j f))) there

    pub number-after : (k : KeptChain) (v : Version) → IsVersionAt k.chain.versions j v → IsVersionAt (on_version j f k.chain.versions) j (f v)
    number-after k v number = record { older = number.older; newer = number.newer; split = on-is k.chain.versions j v f number; number = number.number }

    module _ (has : HasVersion m id j) where
      abbrev was : (k : KeptChain) × (v : Version) × (chain_at m id ≡ Some k) × IsVersionAt k.chain.versions j v
      was = found-version m id j has

      pub has-then : HasVersion n id j
      has-then = subst (λ (o : Option KeptChain). IsSomeAnd o (λ k. j < length k.chain.versions)) (sym (chain-after was.0 was.2)) (number-low (on_version j f was.0.chain.versions) j (f was.1) (number-after was.0 was.1 was.3))

      pub of-then : (P : KeptChain → Version → Type 0) → OfVersion m id j (λ k v. P (on_shown (on_version_of j f) k) (f v)) → OfVersion n id j P
      of-then P each q d e on =
          let k = on_shown (on_version_of j f) was.0 in
          let same : k ≡ q = same_some k q (sym (chain-after was.0 was.2) ∙ e) in
          let one = one-at q.chain.versions j (f was.1) d (subst (λ (x : KeptChain). IsVersionAt x.chain.versions j (f was.1)) same (number-after was.0 was.1 was.3)) on in
          subst (P q) one (subst (λ x. P x (f was.1)) same (each was.0 was.1 was.2 was.3))

      -- nor does an update stand in the chain then
      pub settled-then : ((k : KeptChain) → chain_at m id ≡ Some k → k.chain.updating ≡ false) → (k : KeptChain) → chain_at n id ≡ Some k → k.chain.updating ≡ false
      settled-then settled q e = subst (λ (x : KeptChain). x.chain.updating ≡ false) (same_some (on_shown (on_version_of j f) was.0) q (sym (chain-after was.0 was.2) ∙ e)) (settled was.0 was.2)

-- ---- no update

pub settled-of : (b : Bool) → ◌≡◌ {A = Option Place} (cond b (Some Head) None) None → b ≡ false
settled-of true e = absurd (cc)
settled-of false e = refl

-- where no update stands in a chain there is no entry at an update's place
pub last-free : (m : Memory) (id j : ℕ) (f : Version → Version) → ((k : KeptChain) → chain_at m id ≡ Some k → k.chain.updating ≡ false) → KeepsLast id j f m
last-free m id j f settled = of (chain_at m id) refl
  where
    of : (o : Option KeptChain) → chain_at m id ≡ o → IfSome o (λ k. (v : Version) → IsVersionAt k.chain.versions j v → IsUnderUpdate k.chain j → (at : Option Pos) → IsLastInner v at → IsLastInner (f v) at ⊎ Contains m.recency (member_at id j at))
    of None e = tt
    of (Some k) e = λ v number under at inner. (let no : false ≡ true = sym (settled k e) ∙ under.0 in absurd (cc))
