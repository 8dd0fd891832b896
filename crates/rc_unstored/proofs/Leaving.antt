-- What each call leaves of the room.
use Rattle.std.proofs.Common.{◌≡◌, ◌≤◌, ◌+◌, ℕ, Bool, true, false, List, [], ◌∷◌, Option, Some, None, IsSome, is_some, length, map, refl, ap, ◌∙◌, subst, sym, le_refl, arith}
use Rattle.std.specs.Option.{option_map}
use Rattle.lsa_pool.specs.declared.Usage.{Usage}
use Rattle.lsa_pool.specs.Room.{live_sum}
use Rattle.lsa_region.specs.Region.{live_bytes}
use Rattle.rc_schema.specs.SchemaValue.{SchemaValue}
use Rattle.rc_mutation.specs.declared.mutations.Write.{Write}
use Rattle.rc_writes.specs.Weight.{weight}
use Rattle.rc_core.specs.Steps.{pin_at}
use Rattle.rc_memory.specs.declared.counts.Counts.{Counts}
use Rattle.rc_memory.specs.Memory.{HasChain, HasPin, KeptChain, Memory, chain_at, without_snapshot}
use Rattle.rc_evict.specs.Snap.{Snap}
use Rattle.rc_evict.specs.Evictions.{IsRoomMade}
use Rattle.rc_memtable.specs.LetGo.{AreLetGo, IsFreedUnpinned, IsLetGo, NoCountFell, TakesNoMore}
use Rattle.rc_memtable.specs.Partitions.{AreAsBefore}
use Rattle.rc_memtable.specs.laws.NoMore.{counts-same, counts-then, no-more-beside, no-more-then}
use Rattle.rc_unstored.specs.declared.unstored.Unstored.{Unstored}
use Rattle.rc_unstored.specs.Readers.{IsReleased, IsTakenIf, taken_back}
use Rattle.rc_unstored.specs.Steps.{AreObjectsMoved, IsNotPut, IsPutBehind, IsPutRefused}
use Rattle.rc_unstored.proofs.Chains.{chain-done, some-chain}
use Rattle.rc_unstored.proofs.Going.{AreTheirs, first-of, theirs-then}

pub moved-no-more : (m n : Memory) → AreObjectsMoved m n → TakesNoMore m n
moved-no-more m n h = record {
  budget = h.budget;
  live = let live = h.live in omega (arith, live);
  counts = record {
    evicted = subst (λ (c : Counts). m.counts.evicted ≤ c.evicted) (sym h.untouched.counts) (le_refl m.counts.evicted);
    moved = h.moved;
    skipped = subst (λ (c : Counts). m.counts.skipped ≤ c.skipped) (sym h.untouched.counts) (le_refl m.counts.skipped);
  };
}

pub made-no-more : (S : ℕ) (m n : Memory) → IsRoomMade S m n → TakesNoMore m n
made-no-more S m n h = record { budget = h.budget; live = h.live; counts = record { evicted = h.counted; moved = h.moved; skipped = let same = h.skipped in omega (arith, same) } }

-- ---- a write

pub put-more : {S : ℕ} (schema : SchemaValue) (w : Write) (old new : Unstored S) → IsPutBehind schema w old new → (length new.chains.region.usages ≡ length old.chains.region.usages) × (live_bytes new.chains.region ≤ live_bytes old.chains.region + weight w.change) × NoCountFell old.chains new.chains
put-more {S = S} schema w old new h = (
  h.applied.others.region.budget ∙ h.room.budget,
  (let live = h.room.live in let grows = h.applied.grows in omega (arith, live, grows)),
  counts-then old.chains h.mid new.chains (made-no-more S old.chains h.mid h.room).counts (counts-same h.mid new.chains h.applied.others.counts h.applied.others.region.moved),
)

pub not-put-no-more : {S : ℕ} (old new : Unstored S) → IsNotPut old new → TakesNoMore old.chains new.chains
not-put-no-more {S = S} old new h = made-no-more S old.chains new.chains h.room

pub refused-no-more : {S : ℕ} (old new : Unstored S) → IsPutRefused old new → TakesNoMore old.chains new.chains
refused-no-more {S = S} old new h = no-more-then old.chains h.mid new.chains (made-no-more S old.chains h.mid h.room) (record {
  budget = ap (λ (us : List Usage). length us) h.slots.region.usages;
  live = let same : live_bytes new.chains.region ≡ live_bytes h.mid.region = ap live_sum h.slots.region.usages in omega (arith, same);
  counts = counts-same h.mid new.chains (ap (λ (q : Memory). q.counts) h.slots.same) h.slots.region.moved;
})

-- ---- snapshots

-- it is another one, with the counts and the region that were there
from-same : (m n q : Memory) → n ≡ q → q.counts ≡ m.counts → q.region ≡ m.region → TakesNoMore m n
from-same m n q e counts region = no-more-beside m n (ap (λ (x : Memory). x.counts) e ∙ counts) (ap (λ (x : Memory). x.region) e ∙ region)

taken-no-more : (m n : Memory) (o : Option Snap) → IsTakenIf m n o → TakesNoMore m n
taken-no-more m n None h = from-same m n m h refl refl
taken-no-more m n (Some s) h = from-same m n _ h.now refl refl

pub both-no-more : (old mid new : Memory) (first second : Option Snap) → IsTakenIf old mid first → IsTakenIf mid new second → TakesNoMore old new
both-no-more old mid new first second a b = no-more-then old mid new (taken-no-more old mid first a) (taken-no-more mid new second b)

module _ (freed : (id : ℕ) (old new : Memory) → HasChain old id → IsFreedUnpinned id old new → TakesNoMore old new) (s : Snap) (m n : Memory) (h : IsReleased s m n) where
  back-there : (k : KeptChain) → chain_at m s.chain ≡ Some k → HasChain (taken_back s m) s.chain
  back-there k e = ap is_some (chain-done m (taken_back s m) s.chain (without_snapshot s.pin) refl ∙ ap (option_map (without_snapshot s.pin)) e)

  by-found : (k : KeptChain) → chain_at m s.chain ≡ Some k → (b : Bool) → k.chain.attached ≡ b → TakesNoMore m n
  by-found k e true a = from-same m n (taken_back s m) (h.found k e a) refl refl
  by-found k e false a = no-more-then m (taken_back s m) n (no-more-beside m (taken_back s m) refl refl) (freed s.chain (taken_back s m) n (back-there k e) (h.freed k e a))

  pub released-no-more : HasPin m s.chain s.pin → TakesNoMore m n
  released-no-more pin = let k = some-chain (λ q. IsSome (pin_at q.chain.pins s.pin)) (chain_at m s.chain) pin in by-found k.0 k.1 k.0.chain.attached refl

-- ---- the sealed writes go

pub all-no-more : ((id : ℕ) (old new : Memory) → HasChain old id → IsLetGo id old new → TakesNoMore old new) → (es : List (List ℕ × ℕ)) (m n : Memory) → AreTheirs es m → AreLetGo (map (λ e. e.1) es) m n → TakesNoMore m n
all-no-more one [] m n a h = from-same m n m h refl refl
all-no-more one (e ∷ es) m n a h =
    let first = a.there e.0 e.1 (first-of e es) in
    no-more-then m h.0 n (one e.1 m h.0 (ap is_some first.1) h.1) (all-no-more one es h.0 n (theirs-then e es m h.0 a h.1) h.2)

pub before-no-more : (m n : Memory) → AreAsBefore m n → TakesNoMore m n
before-no-more m n h = no-more-beside m n h.counts h.region
