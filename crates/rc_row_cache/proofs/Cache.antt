-- What the chains of the cache say, and what their snapshots pin, where something is done to the shard's memory.
use Rattle.std.proofs.Common.{inl, inr, ◌≡◌, ◌≢◌, ℕ, true, false, cond, List, Option, Some, None, get_or, refl, sym, ap, ◌∙◌, subst, slice_index_or, eq-eqb, ne_eqb}
use Rattle.std.specs.Option.{option_to_list}
use Rattle.std.specs.Prelude.{All, IfSome, IsTrue}
use Rattle.rc_cell.specs.declared.rows.Row.{Row}
use Rattle.rc_cell.specs.declared.writes.Tomb.{Tomb}
use Rattle.rc_cell.specs.Winner.{IsRow, joined_row}
use Rattle.rc_position.specs.Position.{Head, Place}
use Rattle.rc_schema.specs.SchemaValue.{SchemaValue, is_schema}
use Rattle.rc_mutation.specs.declared.mutations.Mutation.{Mutation}
use Rattle.rc_mutation.specs.Source.{SameSource, source_at_head, source_at_static}
use Rattle.rc_writes.specs.Allowed.{ChangeFits, IsStaticOf}
use Rattle.rc_core.specs.declared.entries.ChainKind.TheVariants.{Cache}
use Rattle.rc_core.specs.Chains.{IsChainContinuous, Shown, at_place, phase_at, phases}
use Rattle.rc_core.specs.Steps.{IsChain, pin_at}
use Rattle.rc_memory.specs.Memory.{KeptChain, Member, Memory, chain_at, on_chain, on_shown, shown_detached}
use Rattle.rc_memory.specs.laws.Places.{same_some}
use Rattle.rc_filler.specs.Writes.{AreSmall}
use Rattle.rc_chain.specs.Lives.{IsChainDropped}
use Rattle.rc_filler.specs.Evictions.{AreEvicted, evicted_of}
use Rattle.rc_entries.specs.Filling.{IsEntryOpened, chain_opened, filled_statics}
use Rattle.rc_entries.specs.Detached.{IsDetached}
use Rattle.rc_filler.specs.Stands.{HasCacheSnapshot, StandsForWrites}
use Rattle.rc_row_cache.specs.Saying.{Below, CacheSays, PinsAlike, SaysBelow, phase_pinned, with_below}
use Rattle.rc_row_cache.proofs.Filling.{ChainLaws, says-without}
use Rattle.rc_row_cache.proofs.Numbered.{among-or, chain-beside, chain-here, changed-beside, changed-now, changed-was, here-or-beside, mapped, none-is-none, there-or-not}
use Rattle.rc_row_cache.proofs.Rows.{given-static}

-- ---- the same source

pub same-source : (writes : List Mutation) → SameSource writes writes
same-source writes = record { head = refl; statics = refl; clustered = λ x. refl }

pub source-then : (xs ys zs : List Mutation) → SameSource xs ys → SameSource ys zs → SameSource xs zs
source-then xs ys zs a b = record { head = a.head ∙ b.head; statics = a.statics ∙ b.statics; clustered = λ x. a.clustered x ∙ b.clustered x }

pub source-back : (xs ys : List Mutation) → SameSource xs ys → SameSource ys xs
source-back xs ys a = record { head = sym a.head; statics = sym a.statics; clustered = λ x. sym (a.clustered x) }

pub equal-source : (xs ys : List Mutation) → xs ≡ ys → SameSource xs ys
equal-source xs ys e = subst (SameSource xs) e (same-source xs)

-- ---- a snapshot stands for what lies below

module _ (schema : SchemaValue) (below : Below) where
  pub there-stands : (S : ℕ) (m : Memory) (id pin : ℕ) (h : HasCacheSnapshot m id pin) (writes : List Mutation) → IsTrue (is_schema schema) → AreSmall S schema → All (ChangeFits schema) writes → CacheSays schema below m → SameSource (below id (phase_pinned h)) writes → StandsForWrites S m id pin writes
  there-stands S m id pin h writes limits small fit says same =
      let s = says id h.chain h.there h.cached in record {
        snapshot = h;
        place = Head;
        below = below id;
        form = s.form;
        continuous = s.continuous;
        unlisted = λ x j is up last on. (let clash : true ≡ false = sym up ∙ s.settled in cc);
        source = same;
        schema = schema;
        limits = limits;
        small = small;
        changes = fit;
        rows = s.rows;
      }

  -- ---- what is said of each chain

  -- each chain that is there then was there as another one, and says what lies below if that did
  pub each-says : (other : Below) (old new : Memory) →
      ((id : ℕ) (now : KeptChain) → chain_at new id ≡ Some now → now.chain.kind ≡ Cache → (was : KeptChain) × (chain_at old id ≡ Some was) × (was.chain.kind ≡ Cache) × (SaysBelow schema (below id) was → SaysBelow schema (other id) now)) →
      CacheSays schema below old → CacheSays schema other new
  each-says other old new each h id now e kind = let was = each id now e kind in was.3 (h id was.0 was.1 was.2)

  pub back-says : (old new : Memory) → ((id : ℕ) (k : KeptChain) → k.chain.kind ≡ Cache → chain_at new id ≡ Some k → chain_at old id ≡ Some k) → CacheSays schema below old → CacheSays schema below new
  back-says old new back h id now e kind = h id now (back id now kind e) kind

  pub same-says : (old new : Memory) → new.chains ≡ old.chains → CacheSays schema below old → CacheSays schema below new
  same-says old new same = back-says old new (λ id k kind e. sym (ap (λ cs. slice_index_or cs id None) same) ∙ e)

  -- where the chain of one number changes
  pub changed-says : (id : ℕ) (f : KeptChain → KeptChain) (old new : Memory) → new.chains ≡ on_chain id f old.chains → ((k : KeptChain) → (f k).chain.kind ≡ k.chain.kind) →
      ((k : KeptChain) → chain_at old id ≡ Some k → SaysBelow schema (below id) k → SaysBelow schema (below id) (f k)) → CacheSays schema below old → CacheSays schema below new
  changed-says id f old new is kinds keeps h i = here-or-beside (λ n. (k : KeptChain) → chain_at new n ≡ Some k → k.chain.kind ≡ Cache → SaysBelow schema (below n) k) id i
      (λ k e kind. let was = changed-was old new id f is k e in
      subst (SaysBelow schema (below id)) was.2 (keeps was.0 was.1 (h id was.0 was.1 (sym (kinds was.0) ∙ ap (λ (q : KeptChain). q.chain.kind) was.2 ∙ kind))))
      (λ ne k e kind. h i k (sym (changed-beside old new id f is i ne) ∙ e) kind)

  -- ---- chains that go, come, and are detached

  pub dropped-says : (id : ℕ) (list : List Member) (old new : Memory) → IsChainDropped id list old new → CacheSays schema below old → CacheSays schema below new
  dropped-says id list old new d = back-says old new (λ i. here-or-beside (λ n. (k : KeptChain) → k.chain.kind ≡ Cache → chain_at new n ≡ Some k → chain_at old n ≡ Some k) id i
      (λ k kind e. absurd (none-is-none k (sym (chain-here old new id None d.chains) ∙ e)))
      (λ ne k kind e. sym (chain-beside old new id None d.chains i ne) ∙ e))

  module _ (detached_chain : (below : ℕ → List Mutation) (p q : Place) (c : Shown) → IsChain (at_place p c) → IsChainContinuous below (at_place p c) → IsChainContinuous below (at_place q (shown_detached c)))
      (detached_form : (p q : Place) (c : Shown) → IsChain (at_place p c) → IsChain (at_place q (shown_detached c))) where
    pub says-detached : (below : ℕ → List Mutation) (k : KeptChain) → SaysBelow schema below k → SaysBelow schema below (on_shown shown_detached k)
    says-detached below k s = record { settled = refl; form = detached_form Head Head k.chain s.form; continuous = detached_chain below Head Head k.chain s.form s.continuous; rows = s.rows }

    pub detached-says : (id : ℕ) (old new : Memory) → IsDetached id old new → CacheSays schema below old → CacheSays schema below new
    detached-says id old new d h = there-or-not (chain_at old id)
        (λ e. subst (CacheSays schema below) (sym (d.gone e)) h)
        (λ k e. changed-says id (on_shown shown_detached) old new (d.there k e).2.chains (λ q. refl) (λ q on s. says-detached (below id) q s) h)

  pub opened-says : ((below : ℕ → List Mutation) (p : Place) (pt : Option Tomb) (statics : Option Row) (phase : ℕ) → pt ≡ source_at_head (below phase) → joined_row (option_to_list statics) ≡ source_at_static (below phase) → IsChainContinuous below (at_place p (chain_opened pt statics phase).chain)) →
      ((p : Place) (pt : Option Tomb) (statics : Option Row) (phase : ℕ) → IsChain (at_place p (chain_opened pt statics phase).chain)) →
      ((writes : List Mutation) → joined_row (option_to_list (filled_statics (source_at_static writes))) ≡ source_at_static writes) →
      (id phase : ℕ) (pt : Option Tomb) (statics : Option Row) (writes : ℕ → List Mutation) (old new : Memory) → IsEntryOpened id pt statics phase old new → All (ChangeFits schema) (writes phase) → pt ≡ source_at_head (writes phase) → statics ≡ filled_statics (source_at_static (writes phase)) →
      CacheSays schema below old → CacheSays schema (with_below id writes below) new
  opened-says chain form given_is id phase pt statics writes old new o fit head row h i = here-or-beside (λ n. (k : KeptChain) → chain_at new n ≡ Some k → k.chain.kind ≡ Cache → SaysBelow schema (with_below id writes below n) k) id i
      (λ k e kind. subst (λ (b : ℕ → List Mutation). SaysBelow schema b k) (sym (ap (λ b. cond b writes (below id)) (eq-eqb id id refl)))
      (subst (SaysBelow schema writes) (same_some (chain_opened pt statics phase) k (sym (chain-here old new id (Some (chain_opened pt statics phase)) o.chains) ∙ e)) (record {
        settled = refl;
        form = form Head pt statics phase;
        continuous = chain writes Head pt statics phase head (ap (λ (g : Option Row). joined_row (option_to_list g)) row ∙ given_is (writes phase));
        rows = (record { entries = (tt, tt); statics = subst (λ (g : Option Row). IfSome g (λ r. IsStaticOf schema r × IsRow r)) (sym row) (given-static schema (writes phase) fit) }, tt);
      })))
      (λ ne k e kind. subst (λ (b : ℕ → List Mutation). SaysBelow schema b k) (sym (ap (λ b. cond b writes (below i)) (ne_eqb id i (λ same. ne (sym same))))) (h i k (sym (chain-beside old new id (Some (chain_opened pt statics phase)) o.chains i ne) ∙ e) kind))

  -- ---- evictions

  module _ (laws : ChainLaws) (kinds : (id : ℕ) (went : List Member) (k : KeptChain) → (evicted_of id went k).chain.kind ≡ k.chain.kind) where
    pub evicted-was : (went : List Member) (gone : List ℕ) (old new : Memory) → AreEvicted went gone old new → (id : ℕ) (now : KeptChain) → chain_at new id ≡ Some now → (was : KeptChain) × (chain_at old id ≡ Some was) × (evicted_of id went was ≡ now)
    evicted-was went gone old new a id now e = elim (among-or gone id) [
      | inl on ↦ absurd (none-is-none now (sym (a.absent id on) ∙ e))
      | inr off ↦ mapped (evicted_of id went) (chain_at old id) now (sym (a.chains id off) ∙ e)
    ]

    pub evicted-says : (went : List Member) (gone : List ℕ) (old new : Memory) → AreEvicted went gone old new → CacheSays schema below old → CacheSays schema below new
    evicted-says went gone old new a = each-says below old new (λ id now e kind. let was = evicted-was went gone old new a id now e in
        (was.0, was.1, sym (kinds id went was.0) ∙ ap (λ (q : KeptChain). q.chain.kind) was.2 ∙ kind, λ s. subst (SaysBelow schema (below id)) was.2 (says-without laws schema (below id) id went was.0 s)))

-- ---- what snapshots pin

-- a snapshot whose chain is another one then, of the same kind, with the same version of a phase at its number
pub pins-at : (below : ℕ → List Mutation) (id pin : ℕ) (old new : Memory) →
    ((k : KeptChain) (j : ℕ) → chain_at old id ≡ Some k → pin_at k.chain.pins pin ≡ Some j → (now : KeptChain) × (chain_at new id ≡ Some now) × (now.chain.kind ≡ k.chain.kind) × (pin_at now.chain.pins pin ≡ Some j) × SameSource (below (phase_at k.chain.versions j)) (below (phase_at now.chain.versions j))) → PinsAlike below below id pin old new
pins-at below id pin old new step h = let n = step h.chain h.number h.there h.pinned in (record { chain = n.0; number = h.number; there = n.1; pinned = n.3; cached = n.2 ∙ h.cached }, n.4)

module _ (below : ℕ → List Mutation) (id pin : ℕ) (old new : Memory) where
  pub pins-same : ((k : KeptChain) → k.chain.kind ≡ Cache → chain_at old id ≡ Some k → chain_at new id ≡ Some k) → PinsAlike below below id pin old new
  pins-same stays h = (record { chain = h.chain; number = h.number; there = stays h.chain h.cached h.there; pinned = h.pinned; cached = h.cached }, same-source (below (phase_pinned h)))

  -- where the versions of all chains have the phases that they had, and the snapshot is there
  pub pins-kept : (f : KeptChain → KeptChain) → ((k : KeptChain) (j : ℕ) → chain_at old id ≡ Some k → pin_at k.chain.pins pin ≡ Some j → chain_at new id ≡ Some (f k)) → ((k : KeptChain) → (f k).chain.kind ≡ k.chain.kind) → ((k : KeptChain) (j : ℕ) → chain_at old id ≡ Some k → pin_at k.chain.pins pin ≡ Some j → pin_at (f k).chain.pins pin ≡ Some j) → ((k : KeptChain) → phases (f k).chain.versions ≡ phases k.chain.versions) →
      PinsAlike below below id pin old new
  pins-kept f there kinds pins same = pins-at below id pin old new (λ k j e on. (f k, there k j e on, kinds k, pins k j e on, equal-source (below (phase_at k.chain.versions j)) (below (phase_at (f k).chain.versions j)) (sym (ap (λ ps. below (get_or ps j 0)) (same k)))))

  -- where the chain of one number changes
  pub pins-changed : (n : ℕ) (f : KeptChain → KeptChain) → new.chains ≡ on_chain n f old.chains → ((k : KeptChain) → (f k).chain.kind ≡ k.chain.kind) → (id ≡ n → (k : KeptChain) (j : ℕ) → chain_at old n ≡ Some k → pin_at k.chain.pins pin ≡ Some j → pin_at (f k).chain.pins pin ≡ Some j) → ((k : KeptChain) → phases (f k).chain.versions ≡ phases k.chain.versions) →
      PinsAlike below below id pin old new
  pins-changed n f is kinds pins same = here-or-beside (λ i. (id ≡ i → PinsAlike below below id pin old new)) n id
      (λ e. pins-kept f (λ k j there on. ap (chain_at new) e ∙ changed-now old new n f is k (sym (ap (chain_at old) e) ∙ there)) kinds (λ k j there on. pins e k j (sym (ap (chain_at old) e) ∙ there) on) same)
      (λ ne e. pins-same (λ k kind there. changed-beside old new n f is id ne ∙ there)) refl

  pub detached-pins : (chain : ℕ) → IsDetached chain old new → PinsAlike below below id pin old new
  detached-pins chain d = there-or-not (chain_at old chain)
      (λ e. pins-same (λ k kind there. ap (λ (m : Memory). chain_at m id) (d.gone e) ∙ there))
      (λ k e. pins-changed chain (on_shown shown_detached) (d.there k e).2.chains (λ q. refl) (λ same q j there on. on) (λ q. refl))

-- the chain of a snapshot that is there is another one than that which comes to be
pub opened-stays : (below : ℕ → List Mutation) (id pin chain phase : ℕ) (pt : Option Tomb) (statics : Option Row) (old new : Memory) → IsEntryOpened chain pt statics phase old new → (h : HasCacheSnapshot old id pin) → (id ≢ chain) × ((n : HasCacheSnapshot new id pin) × SameSource (below (phase_pinned h)) (below (phase_pinned n)))
opened-stays below id pin chain phase pt statics old new o h =
    let ne : id ≢ chain = λ same. none-is-none h.chain (sym o.vacant ∙ sym (ap (chain_at old) same) ∙ h.there) in
    (ne, pins-same below id pin old new (λ k kind there. chain-beside old new chain (Some (chain_opened pt statics phase)) o.chains id ne ∙ there) h)

pub opened-pins : (below : Below) (id pin chain phase : ℕ) (pt : Option Tomb) (statics : Option Row) (writes : ℕ → List Mutation) (old new : Memory) → IsEntryOpened chain pt statics phase old new → PinsAlike (below id) (with_below chain writes below id) id pin old new
opened-pins below id pin chain phase pt statics writes old new o h =
    let n = opened-stays (below id) id pin chain phase pt statics old new o h in
    (n.1.0, subst (λ (b : ℕ → List Mutation). SameSource (below id (phase_pinned h)) (b (phase_pinned n.1.0))) (sym (ap (λ b. cond b writes (below id)) (ne_eqb chain id (λ same. n.0 (sym same))))) n.1.1)
