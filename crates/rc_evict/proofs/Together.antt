-- Evictions one after another are evictions of all these objects.
use Rattle.std.proofs.Common.{◌≡◌, ◌≢◌, ℕ, List, [], ◌∷◌, ◌++◌, Option, Some, None, inl, inr, refl, sym, ap, ◌∙◌, subst, append_assoc, slice_index_or}
use Rattle.std.specs.Prelude.{Contains, IsSomeAnd}
use Rattle.std.specs.Option.{option_map}
use Rattle.std.proofs.lemmas.List.{append-nil}
use Rattle.std.proofs.lemmas.List.Elements.{Contains-append_cases, Contains-append_left, Contains-append_right}
use Rattle.lsa_pool.specs.laws.Usages.{decided}
use Rattle.rc_partition.specs.laws.Lists.{elem-cases, elem-first, elem-none, once-both, once-cons, once-none}
use Rattle.rc_registry.specs.Registry.{put_at_number}
use Rattle.rc_memory.specs.declared.counts.Counts.{Counts}
use Rattle.rc_memory.specs.Memory.{IsUntouched, KeptChain, Member, Memory, chain_at, on_shown, on_version_of}
use Rattle.rc_memory.specs.Recency.{MayBeListed}
use Rattle.rc_memory.specs.Changes.{IsVersionChanged, member_at}
use Rattle.rc_memory.specs.laws.Places.{same_some}
use Rattle.rc_memory.specs.laws.Put.{put-at, put-beside}
use Rattle.rc_chain.specs.Lives.{IsChainDropped, IsIdle}
use Rattle.rc_evict.specs.declared.evicting.Evicted.{Evicted}
use Rattle.rc_evict.specs.Evictions.{AreEvicted, IsOneEvicted, TakenOut, eviction_counted, evicted_at, evicted_of, evictions_counted, one_eviction_more}
use Rattle.rc_evict.proofs.Chains.{evicted-append, one-own, same-use, untouched, use-kept}
use Rattle.rc_evict.proofs.Idle.{idle-again, idle-alike, own-or-none}

-- what is there, with what holds of it
pub some-of : (P : KeptChain → Type 0) (o : Option KeptChain) → IsSomeAnd o P → (k : KeptChain) × (o ≡ Some k) × P k
some-of P None h = absurd h
some-of P (Some k) h = (k, refl, h)

same_map : (id : ℕ) (o : Option KeptChain) → o ≡ option_map (evicted_of id []) o
same_map id None = refl
same_map id (Some k) = refl

pub none-evicted : (old new : Memory) → IsUntouched old new → AreEvicted [] [] old new
none-evicted old new u = record {
  recency = sym u.recency;
  chains = λ id off. ap (λ cs. slice_index_or cs id None) u.chains ∙ same_map id (chain_at old id);
  absent = λ id on. absurd (elem-none id on);
  idle = λ id on. absurd (elem-none id on);
  cause = λ id on. absurd (elem-none id on);
  kept = λ w k on. absurd (elem-none w on);
  once = once-none;
  dropped = u.dropped ∙ sym (append-nil old.dropped);
  counts = u.counts;
}

-- ---- both

counted_append : (ws vs : List Member) (c : Counts) → evictions_counted (ws ++ vs) c ≡ evictions_counted vs (evictions_counted ws c)
counted_append [] vs c = refl
counted_append (w ∷ ws) vs c = counted_append ws vs (one_eviction_more c)

map_append : (id : ℕ) (ws vs : List Member) (o : Option KeptChain) → option_map (evicted_of id vs) (option_map (evicted_of id ws) o) ≡ option_map (evicted_of id (ws ++ vs)) o
map_append id ws vs None = refl
map_append id ws vs (Some k) = ap (λ x. Some x) (sym (evicted-append id ws vs k))

none_there : (P : KeptChain → Type 0) (o : Option KeptChain) → o ≡ None → IsSomeAnd o P → ⊥
none_there P o e h = subst (λ (x : Option KeptChain). IsSomeAnd x P) e h

module _ (went more : List Member) (gone others : List ℕ) (old mid new : Memory) (a : AreEvicted went gone old mid) (b : AreEvicted more others mid new) where
  left_off : (id : ℕ) → (Contains (gone ++ others) id → ⊥) → Contains gone id → ⊥
  left_off id off on = off (Contains-append_left gone others id on)

  right_off : (id : ℕ) → (Contains (gone ++ others) id → ⊥) → Contains others id → ⊥
  right_off id off on = off (Contains-append_right gone others id on)

  -- what went with the first is not there for the second
  pub never-both : (id : ℕ) → Contains gone id → Contains others id → ⊥
  never-both id on later = none_there (λ k. IsIdle new id k.chain) (chain_at mid id) (a.absent id on) (b.idle id later)

  shorter : (x : Member) → Contains new.recency x → Contains mid.recency x
  shorter x on = subst (λ l. Contains l x) (sym b.recency) (Contains-append_right more new.recency x on)

  both_chains : (id : ℕ) → (Contains (gone ++ others) id → ⊥) → chain_at new id ≡ option_map (evicted_of id (went ++ more)) (chain_at old id)
  both_chains id off = b.chains id (right_off id off) ∙ ap (option_map (evicted_of id more)) (a.chains id (left_off id off)) ∙ map_append id went more (chain_at old id)

  both_absent : (id : ℕ) → Contains (gone ++ others) id → chain_at new id ≡ None
  both_absent id on = elim (Contains-append_cases gone others id on) [
    | inl first ↦ b.chains id (never-both id first) ∙ ap (option_map (evicted_of id more)) (a.absent id first)
    | inr later ↦ b.absent id later
  ]

  at_mid : (id : ℕ) (k : KeptChain) → (Contains gone id → ⊥) → chain_at old id ≡ Some k → chain_at mid id ≡ Some (evicted_of id went k)
  at_mid id k off e = a.chains id off ∙ ap (option_map (evicted_of id went)) e

  back : (id : ℕ) (P : KeptChain → Type 0) (o : Option KeptChain) → IsSomeAnd (option_map (evicted_of id went) o) P → IsSomeAnd o (λ k. P (evicted_of id went k))
  back id P None h = h
  back id P (Some k) h = h

  some_map : (P Q : KeptChain → Type 0) (o : Option KeptChain) → ((k : KeptChain) → P k → Q k) → IsSomeAnd o P → IsSomeAnd o Q
  some_map P Q None f h = h
  some_map P Q (Some k) f h = f k h

  both_idle : (id : ℕ) → Contains (gone ++ others) id → IsSomeAnd (chain_at old id) (λ k. IsIdle new id k.chain)
  both_idle id on = elim (Contains-append_cases gone others id on) [
    | inl first ↦ some_map (λ k. IsIdle mid id k.chain) (λ k. IsIdle new id k.chain) (chain_at old id) (λ k i. idle-alike mid new id k k (same-use k) (λ j at. shorter (member_at id j at)) i) (a.idle id first)
    | inr later ↦
        some_map (λ k. IsIdle new id (evicted_of id went k).chain) (λ k. IsIdle new id k.chain) (chain_at old id)
        (λ k i. idle-alike new new id k (evicted_of id went k) (use-kept id went k) (λ j at on_list. on_list) i)
        (back id (λ k. IsIdle new id k.chain) (chain_at old id) (subst (λ (o : Option KeptChain). IsSomeAnd o (λ k. IsIdle new id k.chain)) (a.chains id (λ first. never-both id first later)) (b.idle id later)))
  ]

  both_cause : (id : ℕ) → Contains (gone ++ others) id → (w : Member) × Contains (went ++ more) w × (w.chain ≡ id)
  both_cause id on = elim (Contains-append_cases gone others id on) [
    | inl first ↦ let w = a.cause id first in (w.0, Contains-append_left went more w.0 w.1, w.2)
    | inr later ↦ let w = b.cause id later in (w.0, Contains-append_right went more w.0 w.1, w.2)
  ]

  -- one of the second kind of a chain that stays: the chain is not to be dropped
  kept_second : (w : Member) (id : ℕ) (k : KeptChain) → Contains more w → w.chain ≡ id → (Contains (gone ++ others) id → ⊥) → chain_at old id ≡ Some k → IsIdle new id k.chain → ⊥
  kept_second w id k on e off there i =
      b.kept w (evicted_of id went k) on (λ later. right_off id off (subst (Contains others) e later)) (ap (chain_at mid) e ∙ at_mid id k (left_off id off) there)
      (subst (λ n. IsIdle new n (evicted_of id went k).chain) (sym e) (idle-again new new id k (evicted_of id went k) (use-kept id went k) (λ j at on_list. on_list) i))

  both_kept : (w : Member) (k : KeptChain) → Contains (went ++ more) w → (Contains (gone ++ others) w.chain → ⊥) → chain_at old w.chain ≡ Some k → IsIdle new w.chain k.chain → ⊥
  both_kept w k on off there i = elim (Contains-append_cases went more w on) [
    | inr second ↦ kept_second w w.chain k second refl off there i
    | inl first ↦ elim (own-or-none more w.chain) [
      | inl own ↦ kept_second own.0 w.chain k own.1 own.2 off there i
      | inr none ↦ a.kept w k first (left_off w.chain off) there (record {
        cached = i.cached;
        settled = i.settled;
        unpinned = i.unpinned;
        unlisted = λ j at listed. elim (Contains-append_cases more new.recency (member_at w.chain j at) (subst (λ l. Contains l (member_at w.chain j at)) b.recency listed)) [
          | inl early ↦ none (member_at w.chain j at) early refl
          | inr late ↦ i.unlisted j at late
        ];
      })
    ]
  ]

  pub both-evicted : AreEvicted (went ++ more) (gone ++ others) old new
  both-evicted = record {
    recency = a.recency ∙ ap (λ l. went ++ l) b.recency ∙ sym (append_assoc went more new.recency);
    chains = both_chains;
    absent = both_absent;
    idle = both_idle;
    cause = both_cause;
    kept = both_kept;
    once = once-both gone others a.once b.once never-both;
    dropped = b.dropped ∙ ap (λ l. l ++ others) a.dropped ∙ append_assoc old.dropped gone others;
    counts = b.counts ∙ ap (evictions_counted more) a.counts ∙ sym (counted_append went more old.counts);
  }

-- ---- one

module _ (place : Member) (old lost new : Memory) (k : KeptChain) (these : Member → Type 0) (front : old.recency ≡ place ∷ lost.recency) (there : chain_at old place.chain ≡ Some k) (changed : IsVersionChanged place.chain place.version (evicted_at place.position) these old lost) where
  abbrev pub now : KeptChain
  now = on_shown (on_version_of place.version (evicted_at place.position)) k

  pub lost-this : chain_at lost place.chain ≡ Some (on_shown (on_version_of place.version (evicted_at place.position)) k)
  lost-this = ap (λ cs. slice_index_or cs place.chain None) changed.chains ∙ put-at old.chains place.chain (option_map (on_shown (on_version_of place.version (evicted_at place.position))) (chain_at old place.chain))
      ∙ ap (option_map (on_shown (on_version_of place.version (evicted_at place.position)))) there

  lost_other : (id : ℕ) → id ≢ place.chain → chain_at lost id ≡ chain_at old id
  lost_other id ne = ap (λ cs. slice_index_or cs id None) changed.chains ∙ put-beside old.chains place.chain (option_map (on_shown (on_version_of place.version (evicted_at place.position))) (chain_at old place.chain)) id ne

  map_other : (id : ℕ) (o : Option KeptChain) → id ≢ place.chain → o ≡ option_map (evicted_of id (place ∷ [])) o
  map_other id None ne = refl
  map_other id (Some x) ne = ap (λ y. Some y) (sym (untouched id (place ∷ []) x (λ w on. elim (elem-cases place w [] on) [ inl same ↦ (λ e. ne (sym e ∙ sym (ap (λ (y : Member). y.chain) same))) | inr none ↦ absurd (elem-none w none) ])))

  only_this : (w : Member) → Contains (place ∷ []) w → place ≡ w
  only_this w on = elim (elem-cases place w [] on) [ inl same ↦ same | inr none ↦ absurd (elem-none w none) ]

  only_number : (id : ℕ) → Contains (place.chain ∷ []) id → place.chain ≡ id
  only_number id on = elim (elem-cases place.chain id [] on) [ inl same ↦ same | inr none ↦ absurd (elem-none id none) ]

  pub dropped-with : IsIdle (eviction_counted lost) place.chain k.chain → IsChainDropped place.chain lost.recency (eviction_counted lost) new → AreEvicted (place ∷ []) (place.chain ∷ []) old new
  dropped-with i d = record {
    recency = front ∙ ap (λ l. place ∷ l) (sym d.recency);
    chains = λ id off. let ne : id ≢ place.chain = λ e. off (subst (Contains (place.chain ∷ [])) (sym e) (elem-first place.chain [])) in
        ap (λ cs. slice_index_or cs id None) d.chains ∙ put-beside lost.chains place.chain None id ne ∙ lost_other id ne ∙ map_other id (chain_at old id) ne;
    absent = λ id on. let e = only_number id on in ap (λ cs. slice_index_or cs id None) d.chains ∙ ap (λ n. slice_index_or (put_at_number place.chain None lost.chains) n None) (sym e) ∙ put-at lost.chains place.chain None;
    idle = λ id on. let e = only_number id on in subst (λ n. IsSomeAnd (chain_at old n) (λ x. IsIdle new n x.chain)) e
        (subst (λ (o : Option KeptChain). IsSomeAnd o (λ x. IsIdle new place.chain x.chain)) (sym there) (idle-alike (eviction_counted lost) new place.chain k k (same-use k) (λ j at listed. subst (λ l. Contains l (member_at place.chain j at)) d.recency listed) i));
    cause = λ id on. (place, elem-first place [], only_number id on);
    kept = λ w x on off. absurd (off (subst (λ (y : Member). Contains (place.chain ∷ []) y.chain) (only_this w on) (elem-first place.chain [])));
    once = once-cons place.chain [] (elem-none place.chain) once-none;
    dropped = d.dropped ∙ ap (λ l. l ++ (place.chain ∷ [])) changed.dropped;
    counts = d.counts ∙ ap one_eviction_more changed.counts;
  }

  stays_at : (id : ℕ) → chain_at lost id ≡ option_map (evicted_of id (place ∷ [])) (chain_at old id)
  stays_at id = elim (decided id place.chain) [
    | inl e ↦ subst (λ n. chain_at lost n ≡ option_map (evicted_of n (place ∷ [])) (chain_at old n)) (sym e)
        (lost-this ∙ ap (λ x. Some x) (sym (one-own place.chain place k refl)) ∙ ap (option_map (evicted_of place.chain (place ∷ []))) (sym there))
    | inr ne ↦ lost_other id ne ∙ map_other id (chain_at old id) ne
  ]

  pub kept-with : (IsIdle (eviction_counted lost) place.chain k.chain → ⊥) → new ≡ eviction_counted lost → AreEvicted (place ∷ []) [] old new
  kept-with busy same = record {
    recency = front ∙ ap (λ l. place ∷ l) (sym (ap (λ (m : Memory). m.recency) same));
    chains = λ id off. ap (λ (m : Memory). chain_at m id) same ∙ stays_at id;
    absent = λ id on. absurd (elem-none id on);
    idle = λ id on. absurd (elem-none id on);
    cause = λ id on. absurd (elem-none id on);
    kept = λ w x on off is i.
        let e = only_this w on in let here : chain_at old place.chain ≡ Some x = ap (λ (y : Member). chain_at old y.chain) e ∙ is in let one : x ≡ k = same_some x k (sym here ∙ there) in
        busy (subst (λ (y : KeptChain). IsIdle (eviction_counted lost) place.chain y.chain) one
        (subst (λ (y : Member). IsIdle (eviction_counted lost) y.chain x.chain) (sym e)
        (idle-alike new (eviction_counted lost) w.chain x x (same-use x) (λ j at listed. subst (λ (m : Memory). Contains m.recency (member_at w.chain j at)) (sym same) listed) i)));
    once = once-none;
    dropped = ap (λ (m : Memory). m.dropped) same ∙ changed.dropped ∙ sym (append-nil old.dropped);
    counts = ap (λ (m : Memory). m.counts) same ∙ ap one_eviction_more changed.counts;
  }

pub one-evicted : (sort : Evicted) (old new : Memory) (e : IsOneEvicted sort old new) → (gone : List ℕ) × AreEvicted (e.place ∷ []) gone old new
one-evicted sort old new e =
    let k = some-of (λ k. MayBeListed k.chain e.place.version e.place.position) (chain_at old e.place.chain) e.taken.listed in elim (e.swept k.0 k.1) [
      | inl gone ↦ (e.place.chain ∷ [], dropped-with e.place old e.lost new k.0 (TakenOut sort e.place) e.taken.front k.1 e.taken.changed gone.0 gone.1)
      | inr stays ↦ ([], kept-with e.place old e.lost new k.0 (TakenOut sort e.place) e.taken.front k.1 e.taken.changed stays.0 stays.1)
    ]
