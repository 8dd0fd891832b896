-- Fills through one snapshot, one after another: what the cache says then, and what snapshots pin.
use Rattle.std.proofs.Common.{inl, inr, ◌≡◌, ◌≢◌, ℕ, zero, suc, List, Option, Some, None, get_or, length, refl, sym, ap, ◌∙◌, subst}
use Rattle.std.specs.Prelude.{All, IsSomeAnd}
use Rattle.lsa_pool.specs.laws.Usages.{decided}
use Rattle.rc_position.specs.Position.{Head}
use Rattle.rc_schema.specs.SchemaValue.{SchemaValue}
use Rattle.rc_mutation.specs.declared.mutations.Mutation.{Mutation}
use Rattle.rc_mutation.specs.Source.{SameSource}
use Rattle.rc_writes.specs.Allowed.{ChangeFits}
use Rattle.rc_core.specs.declared.entries.ChainKind.TheVariants.{Cache}
use Rattle.rc_core.specs.Chains.{IsPinned, at_place, phase_at, phases, upto}
use Rattle.rc_core.specs.Continuity.{EachOf, IsContinuous}
use Rattle.rc_core.specs.Steps.{MayPopulate, pin_at}
use Rattle.rc_core.specs.laws.Pins.{pin-is-pinned}
use Rattle.rc_core.specs.laws.Updating.{relabelled}
use Rattle.rc_memory.specs.Memory.{KeptChain, Member, Memory, chain_at, on_shown}
use Rattle.rc_memory.specs.laws.Places.{same_some}
use Rattle.rc_chain.specs.laws.Numbered.{pinned-continuous}
use Rattle.rc_filler.specs.Evictions.{AreEvicted, IsRoomMade, evicted_of}
use Rattle.rc_entries.specs.Filling.{MayFill, on_newest_of}
use Rattle.rc_stream.specs.Did.{StepsInTurn}
use Rattle.rc_filler.specs.Fills.{IsFillDone, IsPortionFilled, Portion, filled_with}
use Rattle.rc_filler.specs.Stands.{HoldsRowsOf, StandsForWrites}
use Rattle.rc_row_cache.specs.Saying.{AreFillsDone, Below, CacheSays, PinsAlike, SaysBelow, phase_pinned}
use Rattle.rc_row_cache.proofs.Lists.{newest-long, newest-phase, newest-phases}
use Rattle.rc_row_cache.proofs.Filling.{ChainLaws, IsFilling, filling-filled, filling-from, filling-without, phase-kept, says-then, says-without}
use Rattle.rc_row_cache.proofs.Numbered.{changed-beside, changed-now, here-or-beside}
use Rattle.rc_row_cache.proofs.Cache.{evicted-was, pins-changed, pins-kept, pins-same, source-back, source-then}

-- what is known of evictions, of all chains
pub record EvictionLaws : Type 0 where
  pub kind : (id : ℕ) (went : List Member) (k : KeptChain) → (evicted_of id went k).chain.kind ≡ k.chain.kind
  pub pins : (id : ℕ) (went : List Member) (k : KeptChain) → (evicted_of id went k).chain.pins ≡ k.chain.pins
  pub phases : (id : ℕ) (went : List Member) (k : KeptChain) → phases (evicted_of id went k).chain.versions ≡ phases k.chain.versions
  pub pinned : (went : List Member) (gone : List ℕ) (old new : Memory) (id j : ℕ) (k : KeptChain) → AreEvicted went gone old new → chain_at old id ≡ Some k → IsPinned k.chain.pins j → chain_at new id ≡ Some (evicted_of id went k)

-- ---- what snapshots pin

pub pins-then : (below : ℕ → List Mutation) (id pin : ℕ) (old mid new : Memory) → PinsAlike below below id pin old mid → PinsAlike below below id pin mid new → PinsAlike below below id pin old new
pins-then below id pin old mid new f g h = let n = f h in let o = g n.0 in (o.0, source-then (below (phase_pinned h)) (below (phase_pinned n.0)) (below (phase_pinned o.0)) n.1 o.1)

module _ (laws : EvictionLaws) (below : ℕ → List Mutation) (id pin : ℕ) where
  pub evicted-pins : (went : List Member) (gone : List ℕ) (old new : Memory) → AreEvicted went gone old new → PinsAlike below below id pin old new
  evicted-pins went gone old new a = pins-kept below id pin old new (evicted_of id went) (λ k j e on. laws.pinned went gone old new id j k a e (pin-is-pinned k.chain.pins pin j on)) (laws.kind id went)
      (λ k j e on. ap (λ ps. pin_at ps pin) (laws.pins id went k) ∙ on) (laws.phases id went)

  pub done-pins : (S chain of_pin : ℕ) (old new : Memory) → IsFillDone S chain of_pin old new → PinsAlike below below id pin old new
  done-pins S chain of_pin old new (inl same) = pins-same below id pin old new (λ k kind e. ap (λ (m : Memory). chain_at m id) same ∙ e)
  done-pins S chain of_pin old new (inr (mid, q, room, inl f)) = pins-then below id pin old mid new (evicted-pins room.went room.gone old mid room.evicted)
      (pins-changed below id pin mid new chain (on_shown (on_newest_of (filled_with q))) f.filled.chains (λ k. refl) (λ e k j there on. on) (λ k. newest-phases (filled_with q) (phase-kept q) k.chain.versions))
  done-pins S chain of_pin old new (inr (mid, q, room, inr skip)) = pins-then below id pin old mid new (evicted-pins room.went room.gone old mid room.evicted) (pins-same below id pin mid new (λ k kind e. ap (λ (m : Memory). chain_at m id) skip.1 ∙ e))

  steps-pins : (S chain of_pin n : ℕ) (old new : Memory) → StepsInTurn (IsFillDone S chain of_pin) n old new → PinsAlike below below id pin old new
  steps-pins S chain of_pin zero old new same = pins-same below id pin old new (λ k kind e. sym (ap (λ (m : Memory). chain_at m id) same) ∙ e)
  steps-pins S chain of_pin (suc n) old new (mid, d, more) = pins-then below id pin old mid new (done-pins S chain of_pin old mid d) (steps-pins S chain of_pin n mid new more)

  pub fills-pin : (S chain of_pin : ℕ) (old new : Memory) → AreFillsDone S chain of_pin old new → PinsAlike below below id pin old new
  fills-pin S chain of_pin old new d = steps-pins S chain of_pin d.0 old new d.1

-- ---- fills one after another

steps-both : (S id pin i j : ℕ) (old mid new : Memory) → StepsInTurn (IsFillDone S id pin) i old mid → StepsInTurn (IsFillDone S id pin) j mid new → AreFillsDone S id pin old new
steps-both S id pin zero j old mid new same more = (j, subst (λ (m : Memory). StepsInTurn (IsFillDone S id pin) j m new) (sym same) more)
steps-both S id pin (suc i) j old mid new (next, d, rest) more = let all = steps-both S id pin i j next mid new rest more in (suc all.0, (next, d, all.1))

pub fills-both : (S id pin : ℕ) (old mid new : Memory) → AreFillsDone S id pin old mid → AreFillsDone S id pin mid new → AreFillsDone S id pin old new
fills-both S id pin old mid new a b = steps-both S id pin a.0 b.0 old mid new a.1 b.1

-- ---- what the cache says

module _ (laws : EvictionLaws) (chains : ChainLaws) (schema : SchemaValue) (below : Below) (S id pin j phase : ℕ) where
  -- all other chains of the cache say what lies below them, and the one that is filled does but for its newest version, which the snapshot pins; where the snapshot pins an older one it says so too
  record IsUnderway (m : Memory) : Type 0 where
    others : (i : ℕ) (k : KeptChain) → i ≢ id → chain_at m i ≡ Some k → k.chain.kind ≡ Cache → SaysBelow schema (below i) k
    kept : KeptChain
    there : chain_at m id ≡ Some kept
    pinned : pin_at kept.chain.pins pin ≡ Some j
    phase_is : phase_at kept.chain.versions j ≡ phase
    filling : suc j ≡ length kept.chain.versions → IsFilling schema (below id) j kept
    said : (suc j ≡ length kept.chain.versions → ⊥) → SaysBelow schema (below id) kept

  underway-same : (m n : Memory) → ((i : ℕ) → chain_at n i ≡ chain_at m i) → IsUnderway m → IsUnderway n
  underway-same m n same u = record {
    others = λ i k ne e kind. u.others i k ne (sym (same i) ∙ e) kind;
    kept = u.kept;
    there = same id ∙ u.there;
    pinned = u.pinned;
    phase_is = u.phase_is;
    filling = u.filling;
    said = u.said;
  }

  underway-room : (m n : Memory) → IsRoomMade S m n → IsUnderway m → IsUnderway n
  underway-room m n room u =
      let long = chains.count id room.went u.kept in record {
        others = λ i now ne e kind. (let was = evicted-was schema below chains laws.kind room.went room.gone m n room.evicted i now e in
            subst (SaysBelow schema (below i)) was.2 (says-without chains schema (below i) i room.went was.0 (u.others i was.0 ne was.1 (sym (laws.kind i room.went was.0) ∙ ap (λ (q : KeptChain). q.chain.kind) was.2 ∙ kind))));
        kept = evicted_of id room.went u.kept;
        there = laws.pinned room.went room.gone m n id j u.kept room.evicted u.there (pin-is-pinned u.kept.chain.pins pin j u.pinned);
        pinned = ap (λ ps. pin_at ps pin) (laws.pins id room.went u.kept) ∙ u.pinned;
        phase_is = ap (λ ps. get_or ps j 0) (laws.phases id room.went u.kept) ∙ u.phase_is;
        filling = λ last. filling-without chains schema (below id) id room.went j u.kept (u.filling (last ∙ long));
        said = λ older. says-without chains schema (below id) id room.went u.kept (u.said (λ last. older (last ∙ sym long)));
      }

  may-of : (m : Memory) (k : KeptChain) → chain_at m id ≡ Some k → pin_at k.chain.pins pin ≡ Some j → MayFill m id pin → MayPopulate (at_place Head k.chain) j
  may-of m k there pinned may = subst (λ (o : Option ℕ). IsSomeAnd o (MayPopulate (at_place Head k.chain))) pinned
      (subst (λ (o : Option KeptChain). IsSomeAnd o (λ q. IsSomeAnd (pin_at q.chain.pins pin) (MayPopulate (at_place Head q.chain)))) there may)

  underway-filled : (q : Portion) (m n : Memory) → IsPortionFilled q id pin m n → IsUnderway m → IsUnderway n
  underway-filled q m n f u =
      let may = may-of m u.kept u.there u.pinned f.may in
      let is = f.filled.chains in
      let change = on_shown (on_newest_of (filled_with q)) in record {
        others = λ i now ne e kind. u.others i now ne (sym (changed-beside m n id change is i ne) ∙ e) kind;
        kept = change u.kept;
        there = changed-now m n id change is u.kept u.there;
        pinned = u.pinned;
        phase_is = newest-phase (filled_with q) (phase-kept q) u.kept.chain.versions j ∙ u.phase_is;
        filling = λ last. filling-filled chains schema (below id) q f.whole j u.kept may (u.filling may.newest);
        said = λ older. absurd (older (may.newest ∙ sym (newest-long (filled_with q) u.kept.chain.versions)));
      }

  underway-done : (m n : Memory) → IsFillDone S id pin m n → IsUnderway m → IsUnderway n
  underway-done m n (inl same) u = underway-same m n (λ i. ap (λ (x : Memory). chain_at x i) same) u
  underway-done m n (inr (mid, q, room, inl f)) u = underway-filled q mid n f (underway-room m mid room u)
  underway-done m n (inr (mid, q, room, inr skip)) u = underway-same mid n (λ i. ap (λ (x : Memory). chain_at x i) skip.1) (underway-room m mid room u)

  underway-steps : (i : ℕ) (m n : Memory) → StepsInTurn (IsFillDone S id pin) i m n → IsUnderway m → IsUnderway n
  underway-steps zero m n same u = underway-same m n (λ i. sym (ap (λ (x : Memory). chain_at x i) same)) u
  underway-steps (suc i) m n (mid, d, more) u = underway-steps i mid n more (underway-done m mid d u)

  underway-from : (m : Memory) (k : KeptChain) → chain_at m id ≡ Some k → pin_at k.chain.pins pin ≡ Some j → k.chain.kind ≡ Cache → phase_at k.chain.versions j ≡ phase → CacheSays schema below m → IsUnderway m
  underway-from m k there pinned cached is says = record {
    others = λ i now ne e kind. says i now e kind;
    kept = k;
    there = there;
    pinned = pinned;
    phase_is = is;
    filling = λ last. filling-from chains schema (below id) j k last (says id k there cached);
    said = λ older. says id k there cached;
  }

  -- once the snapshot stands for what lies below
  module _ (n : Memory) (u : IsUnderway n) (writes : List Mutation) (fit : All (ChangeFits schema) writes) (same : SameSource (below id phase) writes) (s : StandsForWrites S n id pin writes) where
    chain_is : s.snapshot.chain ≡ u.kept
    chain_is = same_some s.snapshot.chain u.kept (sym s.snapshot.there ∙ u.there)

    number_is : s.snapshot.number ≡ j
    number_is = (let two : Some s.snapshot.number ≡ Some j = sym s.snapshot.pinned ∙ (ap (λ (x : KeptChain). pin_at x.chain.pins pin) chain_is ∙ u.pinned) in cc)

    on_own : IsContinuous None writes (upto s.snapshot.chain.chain.versions s.snapshot.number)
    on_own = relabelled None (s.below (phase_at s.snapshot.chain.chain.versions s.snapshot.number)) writes (upto s.snapshot.chain.chain.versions s.snapshot.number) s.source
        (pinned-continuous s.below s.place s.snapshot.chain.chain s.snapshot.number s.form s.continuous (pin-is-pinned s.snapshot.chain.chain.pins pin s.snapshot.number s.snapshot.pinned))

    on_kept : IsContinuous None writes (upto u.kept.chain.versions j)
    on_kept = subst (λ i. IsContinuous None writes (upto u.kept.chain.versions i)) number_is (subst (λ (x : KeptChain). IsContinuous None writes (upto x.chain.versions s.snapshot.number)) chain_is on_own)

    kept-says : SaysBelow schema (below id) u.kept
    kept-says = elim (decided (suc j) (length u.kept.chain.versions)) [
      | inl last ↦ says-then chains schema (below id) j u.kept (u.filling last) writes fit
          (subst (λ p. SameSource writes (below id p)) (sym u.phase_is) (source-back (below id phase) writes same)) on_kept s.schema (subst (λ (x : KeptChain). EachOf (HoldsRowsOf s.schema) x.chain.versions) chain_is s.rows)
      | inr older ↦ u.said older
    ]

    settled-says : CacheSays schema below n
    settled-says i = here-or-beside (λ x. (k : KeptChain) → chain_at n x ≡ Some k → k.chain.kind ≡ Cache → SaysBelow schema (below x) k) id i
        (λ k e kind. subst (SaysBelow schema (below id)) (same_some u.kept k (sym u.there ∙ e)) kept-says)
        (λ ne k e kind. u.others i k ne e kind)

  pub fills-say : (m n : Memory) (k : KeptChain) → chain_at m id ≡ Some k → pin_at k.chain.pins pin ≡ Some j → k.chain.kind ≡ Cache → phase_at k.chain.versions j ≡ phase → AreFillsDone S id pin m n → (writes : List Mutation) → All (ChangeFits schema) writes → SameSource (below id phase) writes → StandsForWrites S n id pin writes →
      CacheSays schema below m → CacheSays schema below n
  fills-say m n k there pinned cached is d writes fit same s says = settled-says n (underway-steps d.0 m n d.1 (underway-from m k there pinned cached is says)) writes fit same s
