-- What a reader holds, and the writes, from call to call.
use Rattle.std.proofs.Common.{◌≡◌, ℕ, Bool, cond, List, [], ◌∷◌, ◌++◌, Option, Some, None, sym, ◌∙◌, subst}
use Rattle.std.specs.Prelude.{IfOk, IfSome, OnErr, Result, Ok, Err}
use Rattle.rc_schema.specs.SchemaValue.{SchemaValue}
use Rattle.rc_mutation.specs.declared.mutations.Write.{Write}
use Rattle.rc_memory.specs.Memory.{HasPin, Memory}
use Rattle.rc_chain.specs.declared.chains.Snap.{Snap}
use Rattle.rc_snapshots.specs.declared.snaps.Snaps.{Snaps}
use Rattle.rc_snapshots.specs.Seeing.{AreThere, HasSnap, StillSees}
use Rattle.rc_unstored.specs.declared.unstored.Unstored.{Unstored}
use Rattle.rc_unstored.specs.Memtables.{HaveWrites}
use Rattle.rc_unstored.specs.Readers.{IsNoneOf, IsSnapshotOfKey}
use Rattle.rc_cache_tests.specs.Holding.{HaveSome}

-- ---- writes

pub put-some : {S : ℕ} {E : Type 0} (r : Result Bool E) (schema : SchemaValue) (w : Write) (old new : Unstored S) → HaveSome schema old → IfOk r (λ done. (writes later : List Write) → HaveWrites schema old writes later → HaveWrites schema new writes (cond done (later ++ w ∷ []) later)) →
    OnErr r ((writes later : List Write) → HaveWrites schema old writes later → HaveWrites schema new writes later) → HaveSome schema new
put-some (Ok done) schema w old new h ok err = (h.0, cond done (h.1 ++ w ∷ []) h.1, ok h.0 h.1 h.2)
put-some (Err e) schema w old new h ok err = (h.0, h.1, err h.0 h.1 h.2)

pub seal-some : {S : ℕ} (schema : SchemaValue) (old new : Unstored S) → ((schema : SchemaValue) (later : List Write) → HaveWrites schema old [] later → HaveWrites schema new later []) → ((schema : SchemaValue) (w : Write) (writes later : List Write) → HaveWrites schema old (w ∷ writes) later → new ≡ old) →
    HaveSome schema old → HaveSome schema new
seal-some schema old new sealed kept h = by h.0 h.1 h.2
  where
    by : (writes later : List Write) → HaveWrites schema old writes later → HaveSome schema new
    by [] later k = (later, [], sealed schema later k)
    by (w ∷ ws) later k = subst (HaveSome schema) (sym (kept schema w ws later k)) (w ∷ ws, later, k)

-- ---- a reader that was opened

taken-there : (key : List ℕ) (writes : List Write) (m n : Memory) (o : Option Snap) → IsSnapshotOfKey key writes m n o → IfSome o (HasSnap n)
taken-there key writes m n None h = tt
taken-there key writes m n (Some s) h = record { pin = h.1.pin; kind = h.1.kind }

taken-fresh : (key : List ℕ) (writes : List Write) (m n : Memory) (o : Option Snap) → IsSnapshotOfKey key writes m n o → (s : Snap) → HasPin m s.chain s.pin → IfSome o (λ x. s.chain ≡ x.chain → s.pin ≡ x.pin → ⊥)
taken-fresh key writes m n None h s on = tt
taken-fresh key writes m n (Some x) h s on = λ same pin. h.2 (subst (λ (p : ℕ). HasPin m x.chain p) pin (subst (λ (i : ℕ). HasPin m i s.pin) same on))

module _ {S : ℕ} (key : List ℕ) (schema : SchemaValue) (u : Unstored S) (n : Memory) (some : HaveSome schema u) where
  abbrev pub IsOf : (Snaps → Option Snap) → (List Write → List Write → List Write) → Snaps → Type 0
  IsOf part which t = (schema : SchemaValue) (writes later : List Write) → HaveWrites schema u writes later → IsSnapshotOfKey key (which writes later) u.chains n (part t)

  module _ {E : Type 0} (r : Result Snaps E) (sealed : IfOk r (IsOf (λ t. t.sealed) (λ writes later. writes))) (active : IfOk r (IsOf (λ t. t.active) (λ writes later. later))) where
    pub ok-there : IfOk r (AreThere n)
    ok-there = elim r as (λ q. IfOk q (IsOf (λ t. t.sealed) (λ writes later. writes)) → IfOk q (IsOf (λ t. t.active) (λ writes later. later)) → IfOk q (AreThere n)) [
      | Ok t ↦ λ a b. record { sealed = taken-there key some.0 u.chains n t.sealed (a schema some.0 some.1 some.2); active = taken-there key some.1 u.chains n t.active (b schema some.0 some.1 some.2) }
      | Err e ↦ λ a b. tt
    ] sealed active

    pub ok-fresh : IfOk r (λ t. (s : Snap) → HasPin u.chains s.chain s.pin → IsNoneOf t s)
    ok-fresh = elim r as (λ q. IfOk q (IsOf (λ t. t.sealed) (λ writes later. writes)) → IfOk q (IsOf (λ t. t.active) (λ writes later. later)) → IfOk q (λ t. (s : Snap) → HasPin u.chains s.chain s.pin → IsNoneOf t s)) [
      | Ok t ↦ λ a b s on. (
        taken-fresh key some.0 u.chains n t.sealed (a schema some.0 some.1 some.2) s on,
        taken-fresh key some.1 u.chains n t.active (b schema some.0 some.1 some.2) s on,
      )
      | Err e ↦ λ a b. tt
    ] sealed active

-- ---- a reader that is kept open

one-kept : (m n : Memory) (o : Option Snap) → ((s : Snap) → HasPin m s.chain s.pin → StillSees s m n) → IfSome o (HasSnap m) → IfSome o (HasSnap n)
one-kept m n None keeps h = tt
one-kept m n (Some s) keeps h = let k = keeps s h.pin in record { pin = k.pin; kind = k.kind ∙ h.kind }

pub there-then : (m n : Memory) (t : Snaps) → ((s : Snap) → HasPin m s.chain s.pin → StillSees s m n) → AreThere m t → AreThere n t
there-then m n t keeps h = record { sealed = one-kept m n t.sealed keeps h.sealed; active = one-kept m n t.active keeps h.active }
