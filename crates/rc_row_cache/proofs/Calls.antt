-- What the calls of a shard's memory leave of memtables' chains, and of how many versions chains of the cache have.
use Rattle.std.proofs.Common.{inl, inr, ◌≡◌, ℕ, suc, Bool, true, false, List, [], ◌∷◌, Option, Some, None, IsSome, length, refl, sym, ap, ◌∙◌}
use Rattle.std.specs.Prelude.{IsSomeAnd}
use Rattle.rc_cell.specs.declared.rows.Row.{Row}
use Rattle.rc_cell.specs.declared.writes.Tomb.{Tomb}
use Rattle.rc_core.specs.declared.entries.ChainKind.TheVariants.{Cache, Memtable}
use Rattle.rc_core.specs.Steps.{on_newest, pin_at}
use Rattle.rc_core.specs.Version.{Version}
use Rattle.rc_memory.specs.Memory.{HasPin, KeptChain, Member, Memory, chain_at, on_shown, without_snapshot}
use Rattle.rc_memory.specs.laws.Places.{same_some}
use Rattle.rc_filler.specs.Snap.{Snap}
use Rattle.rc_filler.specs.Lives.{IsChainDropped}
use Rattle.rc_filler.specs.Evictions.{IsRoomMade}
use Rattle.rc_filler.specs.LetGo.{IsFreedUnpinned}
use Rattle.rc_entries.specs.Filling.{IsEntryOpened, chain_opened, on_newest_of}
use Rattle.rc_filler.specs.Fills.{IsFillDone, IsPortionFilled, Portion, filled_with}
use Rattle.rc_unstored.specs.Readers.{IsReleased, taken_back}
use Rattle.rc_row_cache.proofs.Alike.{alike-back, alike-leaves}
use Rattle.rc_row_cache.proofs.Leaving.{Leaves, UseLaws, leaves-changed, leaves-evicted, leaves-gone, leaves-opened, leaves-same, leaves-then}
use Rattle.rc_row_cache.proofs.Numbered.{changed-now}

-- ---- snapshots

some-chain : (P : KeptChain → Type 0) (o : Option KeptChain) → IsSomeAnd o P → (k : KeptChain) × (o ≡ Some k)
some-chain P None h = absurd h
some-chain P (Some k) h = (k, refl)

module _ (s : Snap) (old new : Memory) (h : IsReleased s old new) where
  freed-leaves : (k : KeptChain) → chain_at (taken_back s old) s.chain ≡ Some k → IsFreedUnpinned s.chain (taken_back s old) new → Leaves (taken_back s old) new
  freed-leaves k e f = elim (f k e) [
    | inl gone ↦ leaves-gone (taken_back s old) new s.chain gone.1.chains
    | inr kept ↦ leaves-same (taken_back s old) new (ap (λ (m : Memory). m.chains) kept.1)
  ]

  by-found : (k : KeptChain) → chain_at old s.chain ≡ Some k → (b : Bool) → k.chain.attached ≡ b → Leaves old new
  by-found k e true found = leaves-then old (taken_back s old) new (alike-leaves old (taken_back s old) (alike-back s.chain s.pin old)) (leaves-same (taken_back s old) new (ap (λ (m : Memory). m.chains) (h.found k e found)))
  by-found k e false gone = leaves-then old (taken_back s old) new (alike-leaves old (taken_back s old) (alike-back s.chain s.pin old))
      (freed-leaves (without_snapshot s.pin k) (changed-now old (taken_back s old) s.chain (without_snapshot s.pin) refl k e) (h.freed k e gone))

  pub released-leaves : HasPin old s.chain s.pin → Leaves old new
  released-leaves pin = let k = some-chain (λ q. IsSome (pin_at q.chain.pins s.pin)) (chain_at old s.chain) pin in by-found k.0 k.1 k.0.chain.attached refl

  -- the recency list is as it was
  freed-list : (k : KeptChain) → chain_at (taken_back s old) s.chain ≡ Some k → IsFreedUnpinned s.chain (taken_back s old) new → new.recency ≡ old.recency
  freed-list k e f = elim (f k e) [ inl gone ↦ gone.1.recency | inr kept ↦ ap (λ (m : Memory). m.recency) kept.1 ]

  list-by : (k : KeptChain) → chain_at old s.chain ≡ Some k → (b : Bool) → k.chain.attached ≡ b → new.recency ≡ old.recency
  list-by k e true found = ap (λ (m : Memory). m.recency) (h.found k e found)
  list-by k e false gone = freed-list (without_snapshot s.pin k) (changed-now old (taken_back s old) s.chain (without_snapshot s.pin) refl k e) (h.freed k e gone)

  pub released-list : HasPin old s.chain s.pin → new.recency ≡ old.recency
  released-list pin = let k = some-chain (λ q. IsSome (pin_at q.chain.pins s.pin)) (chain_at old s.chain) pin in list-by k.0 k.1 k.0.chain.attached refl

-- ---- chains that come and go

pub dropped-leaves : (id : ℕ) (list : List Member) (old new : Memory) → IsChainDropped id list old new → Leaves old new
dropped-leaves id list old new d = leaves-gone old new id d.chains

pub opened-leaves : (id : ℕ) (pt : Option Tomb) (statics : Option Row) (phase : ℕ) (old new : Memory) → IsEntryOpened id pt statics phase old new → Leaves old new
opened-leaves id pt statics phase old new o = leaves-opened old new id (chain_opened pt statics phase) o.chains (refl, refl)

newest-long : (f : Version → Version) (vs : List Version) → length (on_newest f vs) ≡ length vs
newest-long f [] = refl
newest-long f (v ∷ []) = refl
newest-long f (v ∷ w ∷ vs) = ap suc (newest-long f (w ∷ vs))

-- ---- where room is made

module _ (laws : UseLaws) (S : ℕ) where
  pub made-leaves : (old new : Memory) → IsRoomMade S old new → Leaves old new
  made-leaves old new r = leaves-evicted laws r.went r.gone old new r.evicted

  module _ (id pin : ℕ) where
    portion-leaves : (portion : Portion) (old new : Memory) → IsPortionFilled portion id pin old new → Leaves old new
    portion-leaves portion old new f = leaves-changed old new id (on_shown (on_newest_of (filled_with portion))) f.filled.chains (λ k e. record {
      kind = refl;
      count = newest-long (filled_with portion) k.chain.versions;
      bytes = λ memtable. absurd (let cached = ap (λ (q : KeptChain). q.chain.kind) (same_some k f.snapshot.chain (sym e ∙ f.snapshot.there)) ∙ f.snapshot.cached in let clash : Memtable ≡ Cache = sym memtable ∙ cached in cc clash);
    })

    pub fill-leaves : (old new : Memory) → IsFillDone S id pin old new → Leaves old new
    fill-leaves old new (inl same) = leaves-same old new (ap (λ (m : Memory). m.chains) same)
    fill-leaves old new (inr (mid, portion, room, inl filled)) = leaves-then old mid new (made-leaves old mid room) (portion-leaves portion mid new filled)
    fill-leaves old new (inr (mid, portion, room, inr skipped)) = leaves-then old mid new (made-leaves old mid room) (leaves-same mid new (ap (λ (m : Memory). m.chains) skipped.1))
