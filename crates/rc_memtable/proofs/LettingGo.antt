-- The chains of a memtable are let go, one after another.
use Rattle.std.proofs.Common.{inl, inr, ◌≡◌, ◌≢◌, ◌<◌, length, arith, ℕ, Bool, true, false, cond, List, [], ◌∷◌, ◌++◌, Option, Some, None, map, refl, sym, ap, ◌∙◌, subst}
use Rattle.std.specs.Prelude.{AllPairs, Contains, IfSome, IsSome, IsSomeAnd}
use Rattle.std.specs.Option.{option_map}
use Rattle.std.specs.Ordering.{eq_by_cmp}
use Rattle.lsa_region.specs.Region.{live_bytes}
use Rattle.rc_position.specs.Position.{bytes_cmp}
use Rattle.rc_core.specs.declared.entries.ChainKind.TheVariants.{Memtable}
use Rattle.rc_partition.specs.laws.Lists.{elem-first, elem-later, once-head, once-tail}
use Rattle.rc_registry.specs.Registry.{AreFree, put_at_number}
use Rattle.rc_memory.specs.Kept.{IsSoundChain}
use Rattle.rc_memory.specs.Memory.{HasChain, KeptChain, Member, Memory, chain_at, on_chain, on_shown, shown_detached, with_chains, without_snapshot}
use Rattle.rc_memory.specs.laws.Places.{no_some, same_some}
use Rattle.rc_chain.specs.Lives.{IsChainChanged, IsEndListed}
use Rattle.rc_chain.specs.laws.PlaceBeside.{memtable-settled}
use Rattle.rc_memtable.specs.LetGo.{AreLetGo, HasLeft, IsFreedUnpinned, IsLetGo, TakesNoMore}
use Rattle.rc_memtable.specs.laws.NoMore.{counts-same, no-more-itself, no-more-then}
use Rattle.rc_memtable.specs.Writes.{chain_of}
use Rattle.rc_memtable.specs.calls.Steps.{chains_bytes}
use Rattle.rc_memtable.specs.calls.Writing.{AreMemtables}
use Rattle.rc_memtable.proofs.Grown.{chain-differs}
use Rattle.rc_memtable.proofs.Named.{key-differs}
use Rattle.rc_memtable.proofs.Steps.{chain-beside, chain-now, is-chain, of-chain}
use Rattle.rc_memtable.proofs.Freed.{put-put}

-- ---- one chain

pub some-memtable : (o : Option KeptChain) → IsSomeAnd o (λ k. k.chain.kind ≡ Memtable) → (k : KeptChain) × (o ≡ Some k) × (k.chain.kind ≡ Memtable)
some-memtable None h = absurd h
some-memtable (Some k) h = (k, refl, h)

-- a snapshot of it is taken back
pub released-there : (m n : Memory) (id pin : ℕ) (k : KeptChain) → n ≡ with_chains (on_chain id (without_snapshot pin) m.chains) m → chain_at m id ≡ Some k → chain_at n id ≡ Some (without_snapshot pin k)
released-there m n id pin k e there = chain-now m n id (without_snapshot pin) k (ap (λ (o : Memory). o.chains) e) there

-- a memtable's chain is detached, and freed where nobody pins it
module _ (id : ℕ) (old mid new : Memory) (memtable : IsSomeAnd (chain_at old id) (λ k. k.chain.kind ≡ Memtable)) (sound : (i : ℕ) → IfSome (chain_at old i) (λ k. IsSoundChain k.chain))
    (detached : (k : KeptChain) → chain_at old id ≡ Some k → (list : List Member) × IsEndListed id k.chain old.recency list × IsChainChanged id (on_shown shown_detached) list old mid)
    (live : live_bytes old.region ≡ chains_bytes old) (live_mid : live_bytes mid.region ≡ chains_bytes mid) where
  its : (k : KeptChain) × (chain_at old id ≡ Some k) × (k.chain.kind ≡ Memtable)
  its = some-memtable (chain_at old id) memtable

  mid-left : HasLeft (on_chain id (on_shown shown_detached) old.chains) old.dropped old mid
  mid-left = let d = detached its.0 its.1 in record {
    chains = d.2.chains;
    dropped = d.2.dropped;
    recency = d.2.recency ∙ d.1.settled (memtable-settled its.0.chain (of-chain (λ k. IsSoundChain k.chain) (chain_at old id) its.0 its.1 (sound id)) its.2);
    counts = d.2.counts;
    budget = d.2.region.budget;
    moved = d.2.region.moved;
    live = let same = (chain-differs old mid id (on_shown shown_detached) 0 0 its.0 d.2.chains its.1 (omega arith, omega arith)).0 in omega (arith, same, live, live_mid);
  }

  mid-there : chain_at mid id ≡ Some (on_shown shown_detached its.0)
  mid-there = chain-now old mid id (on_shown shown_detached) its.0 mid-left.chains its.1

  pub detached-is : IsSomeAnd (chain_at mid id) (λ k. (k.chain.kind ≡ Memtable) × (k.chain.attached ≡ false))
  detached-is = is-chain (λ k. (k.chain.kind ≡ Memtable) × (k.chain.attached ≡ false)) (chain_at mid id) (on_shown shown_detached its.0) mid-there (its.2, refl)

  pub let-go-then : IsFreedUnpinned id mid new → IsLetGo id old new
  let-go-then freed k e = let same : its.0 ≡ k = same_some its.0 k (sym its.1 ∙ e) in elim (freed (on_shown shown_detached its.0) mid-there) [
    | inl gone ↦ inl (
      subst (λ (q : KeptChain). AreFree q.chain.pins) same gone.0,
      record {
        chains = gone.1.chains ∙ ap (put_at_number id None) mid-left.chains ∙ put-put old.chains id None (option_map (on_shown shown_detached) (chain_at old id));
        dropped = gone.1.dropped ∙ ap (λ ns. ns ++ id ∷ []) mid-left.dropped;
        recency = gone.1.recency ∙ mid-left.recency;
        counts = gone.1.counts ∙ mid-left.counts;
        budget = gone.1.budget ∙ mid-left.budget;
        moved = gone.1.moved ∙ mid-left.moved;
        live = let less = gone.1.live in let first = mid-left.live in omega (arith, less, first);
      },
    )
    | inr kept ↦ inr (subst (λ (q : KeptChain). AreFree q.chain.pins → ⊥) same kept.0, subst (HasLeft (on_chain id (on_shown shown_detached) old.chains) old.dropped old) (sym kept.1) mid-left)
  ]

-- ---- one after another

-- other chains are as they were
let-go-beside : (id : ℕ) (old new : Memory) (k : KeptChain) → chain_at old id ≡ Some k → IsLetGo id old new → (i : ℕ) → (i ≡ id → ⊥) → chain_at new i ≡ chain_at old i
let-go-beside id old new k there h i ne = elim (h k there) [
  | inl gone ↦ chain-beside old new id None i gone.1.chains ne
  | inr kept ↦ chain-beside old new id (option_map (on_shown shown_detached) (chain_at old id)) i kept.1.chains ne
]

left-beside : (id : ℕ) (old new : Memory) → IsSomeAnd (chain_at old id) (λ k. k.chain.kind ≡ Memtable) → IsLetGo id old new → (i : ℕ) → (i ≡ id → ⊥) → chain_at new i ≡ chain_at old i
left-beside id old new memtable h i ne = let k = some-memtable (chain_at old id) memtable in let-go-beside id old new k.0 k.1 h i ne

none-none : (b : Bool) (o : Option ℕ) (i : ℕ) → cond b None o ≡ Some i → (b ≡ false) × (o ≡ Some i)
none-none true o i e = absurd (no_some i e)
none-none false o i e = (refl, e)

-- the chains that are left are memtables' still
pub memtables-then : (key : List ℕ) (id : ℕ) (before now : List (List ℕ × ℕ)) (old new : Memory) → AreMemtables before old → chain_of before key ≡ Some id → ((q : List ℕ) → chain_of now q ≡ cond (eq_by_cmp bytes_cmp key q) None (chain_of before q)) →
    IsLetGo id old new → AreMemtables now new
memtables-then key id before now old new a found less h = record {
  kept = λ q i e. let was = none-none (eq_by_cmp bytes_cmp key q) (chain_of before q) i (sym (less q) ∙ e) in
      let ne : i ≡ id → ⊥ = λ same. key-differs key q was.0 (a.apart key q id found (was.1 ∙ ap Some same)) in
      subst (λ (o : Option KeptChain). IsSomeAnd o (λ k. k.chain.kind ≡ Memtable)) (sym (left-beside id old new (a.kept key id found) h i ne)) (a.kept q i was.1);
  apart = λ q r i e f. a.apart q r i (none-none (eq_by_cmp bytes_cmp key q) (chain_of before q) i (sym (less q) ∙ e)).1 (none-none (eq_by_cmp bytes_cmp key r) (chain_of before r) i (sym (less r) ∙ f)).1;
}

-- what is left to be let go, and then all of it
pub record IsLettingGo (all left : List (List ℕ × ℕ)) (old now : Memory) : Type 0 where
  pub memtables : AreMemtables left now
  pub rest : (end : Memory) → AreLetGo (map (λ e. e.1) left) now end → AreLetGo (map (λ e. e.1) all) old end

pub letting-start : (all : List (List ℕ × ℕ)) (m : Memory) → AreMemtables all m → IsLettingGo all all m m
letting-start all m h = record { memtables = h; rest = λ end gone. gone }

pub letting-step : (all left less : List (List ℕ × ℕ)) (p : List ℕ × ℕ) (old now new : Memory) → IsLettingGo all left old now → left ≡ p ∷ less → chain_of left p.0 ≡ Some p.1 → ((q : List ℕ) → chain_of less q ≡ cond (eq_by_cmp bytes_cmp p.0 q) None (chain_of left q)) →
    IsLetGo p.1 now new → IsLettingGo all less old new
letting-step all left less p old now new h first found fewer gone = record {
  memtables = memtables-then p.0 p.1 left less now new h.memtables found fewer gone;
  rest = λ end more. h.rest end (subst (λ (es : List (List ℕ × ℕ)). AreLetGo (map (λ e. e.1) es) now end) (sym first) (new, gone, more));
}

pub letting-over : (all left : List (List ℕ × ℕ)) (old now : Memory) → IsLettingGo all left old now → left ≡ [] → AreLetGo (map (λ e. e.1) all) old now
letting-over all left old now h none = h.rest now (subst (λ (es : List (List ℕ × ℕ)). AreLetGo (map (λ e. e.1) es) now now) (sym none) refl)

-- no entry is left where the first one is none
pub empty-unless : {X : Type 0} (xs : List X) → (0 < length xs → false ≡ true) → xs ≡ []
empty-unless [] h = refl
empty-unless (x ∷ xs) h = let e = h (omega arith) in absurd (cc)

-- ---- what is let go takes no more

some-there : (o : Option KeptChain) → IsSome o → (k : KeptChain) × (o ≡ Some k)
some-there None h = absurd (cc)
some-there (Some k) h = (k, refl)

left-no-more : (those : List (Option KeptChain)) (told : List ℕ) (old new : Memory) → HasLeft those told old new → TakesNoMore old new
left-no-more those told old new h = record { budget = h.budget; live = h.live; counts = counts-same old new h.counts h.moved }

pub let-go-no-more : (id : ℕ) (old new : Memory) → HasChain old id → IsLetGo id old new → TakesNoMore old new
let-go-no-more id old new there h = let k = some-there (chain_at old id) there in elim (h k.0 k.1) [ inl gone ↦ left-no-more _ _ old new gone.1 | inr kept ↦ left-no-more _ _ old new kept.1 ]

same-no-more : (old new : Memory) → new ≡ old → TakesNoMore old new
same-no-more old new e = subst (TakesNoMore old) (sym e) (no-more-itself old)

pub freed-no-more : (id : ℕ) (old new : Memory) → HasChain old id → IsFreedUnpinned id old new → TakesNoMore old new
freed-no-more id old new there h = let k = some-there (chain_at old id) there in elim (h k.0 k.1) [ inl gone ↦ left-no-more _ _ old new gone.1 | inr kept ↦ same-no-more old new kept.1 ]

pub all-no-more : (ids : List ℕ) (old new : Memory) → AllPairs ◌≢◌ ids → ((id : ℕ) → Contains ids id → HasChain old id) → AreLetGo ids old new → TakesNoMore old new
all-no-more [] old new once there h = same-no-more old new h
all-no-more (id ∷ ids) old new once there h =
    let k = some-there (chain_at old id) (there id (elem-first id ids)) in
    let first = let-go-no-more id old h.0 (there id (elem-first id ids)) h.1 in
    let rest = all-no-more ids h.0 new (once-tail id ids once)
    (λ i on. subst IsSome (sym (let-go-beside id old h.0 k.0 k.1 h.1 i (λ same. once-head id ids once (subst (Contains ids) same on)))) (there i (elem-later id i ids on))) h.2 in
    no-more-then old h.0 new first rest
