-- Shown chains with the update's place beside them.
use Rattle.std.specs.Prelude.{◌≡◌, ◌-◌, ◌<◌, ℕ, suc, Bool, true, false, Option, Some, None, cond, length, ◌++◌, ◌∷◌, []}
use Rattle.std.proofs.Common.{refl, sym, ap, ◌∙◌, ⊎_elim, arith}
use Rattle.rc_position.specs.Position.{Head, Place}
use Rattle.rc_core.specs.declared.entries.ChainKind.{ChainKind}
use Rattle.rc_core.specs.declared.entries.ChainKind.TheVariants.{Cache, Memtable}
use Rattle.rc_core.specs.Chains.{IsNeeded, IsPinned, IsUpdating, Shown, at_place}
use Rattle.rc_core.specs.Free.{IsAbandoned}
use Rattle.rc_core.specs.Continuity.{EachOf}
use Rattle.rc_core.specs.Merge.{new_version}
use Rattle.rc_core.specs.Steps.{IsChain, IsSnapshotOf, MayPopulate, add_version, begin_update, on_newest, with_phase, with_updating}
use Rattle.rc_core.specs.Version.{IsVersion}
use Rattle.rc_memory.specs.Kept.{IsSoundChain}
use Rattle.rc_memory.specs.Memory.{KeptChain, on_shown, shown_with, snapshot_number}
use Rattle.rc_chain.specs.Lives.{is_cache, relabelled_chain, with_version_over}

-- ---- the place beside

-- where a place stands beside, the chain says so
pub beside-true : (b : Bool) (p : Place) → IsUpdating (cond b (Some p) None) → b ≡ true
beside-true true p u = refl
beside-true false p u = absurd u

-- that a place stands beside does not depend on where it is
pub beside-other : (b : Bool) (p q : Place) → IsUpdating (cond b (Some p) None) → IsUpdating (cond b (Some q) None)
beside-other true p q u = u
beside-other false p q u = u

pub beside-none : (b : Bool) (p : Place) → b ≡ false → ◌≡◌ {A = Option Place} (cond b (Some p) None) None
beside-none b p e = ap (λ d. cond d (Some p) None) e

pub beside-some : (b : Bool) (p : Place) → b ≡ true → ◌≡◌ {A = Option Place} (cond b (Some p) None) (Some p)
beside-some b p e = ap (λ d. cond d (Some p) None) e

-- where a chain is under update, and where it is not
pub updating-or-not : (P : Type 0) (b : Bool) → (b ≡ true → P) → (b ≡ false → P) → P
updating-or-not P true t f = t refl
updating-or-not P false t f = f refl

-- ---- the chain

pub shown-form : (p : Place) (c : Shown) → IsSoundChain c → EachOf IsVersion c.versions → IsChain (at_place p c)
shown-form p c s vs = record { versions = vs; pins = s.pins; unpinned = λ u j on. s.unpinned (beside-true c.updating p u) j on }

pub anywhere-form : (p q : Place) (c : Shown) → IsChain (at_place p c) → IsChain (at_place q c)
anywhere-form p q c ch = record { versions = ch.versions; pins = ch.pins; unpinned = λ u j on. ch.unpinned (beside-other c.updating q p u) j on }

-- where no update stands in it the place is nowhere
pub anywhere-same : (p q : Place) (c : Shown) → c.updating ≡ false → at_place p c ≡ at_place q c
anywhere-same p q c e = λ i. record { kind = c.kind; versions = c.versions; attached = c.attached; updating = (beside-none c.updating p e ∙ sym (beside-none c.updating q e)) i; pins = c.pins }

pub anywhere-fills : (p q : Place) (c : Shown) (pin : ℕ) → MayPopulate (at_place p c) pin → MayPopulate (at_place q c) pin
anywhere-fills p q c pin m = record {
  newest = m.newest;
  attached = m.attached;
  settled = updating-or-not (◌≡◌ {A = Option Place} (cond c.updating (Some q) None) None) c.updating
      (λ u. let e : ◌≡◌ {A = Option Place} (Some p) None = sym (beside-some c.updating p u) ∙ m.settled in absurd (cc))
      (λ u. beside-none c.updating q u);
}

-- nobody finds or reads a sound chain that is detached and not pinned
pub abandoned-is : (p : Place) (c : Shown) → IsSoundChain c → c.attached ≡ false → ((j : ℕ) → IsPinned c.pins j → ⊥) → IsAbandoned (at_place p c)
abandoned-is p c s gone free = record {
  detached = gone;
  settled = updating-or-not (◌≡◌ {A = Option Place} (cond c.updating (Some p) None) None) c.updating (λ u. let e : false ≡ true = sym gone ∙ s.attached u in absurd (cc)) (λ u. beside-none c.updating p u);
  unpinned = free;
}

-- nobody needs a version that nobody pins, which is not the newest, nor the one below the newest under update
pub unneeded-is : (p : Place) (c : Shown) (j : ℕ) → (IsPinned c.pins j → ⊥) → suc j < length c.versions → (c.updating ≡ true → suc (suc j) < length c.versions) → IsNeeded (at_place p c) j → ⊥
unneeded-is p c j free low inner need = ⊎_elim free (λ h. ⊎_elim (λ a. omega (arith, a.1, low)) (λ u. omega (arith, u.1, inner (beside-true c.updating p u.0))) h) need

-- ---- a version put over

pub added-beside : (p : Place) (phase : ℕ) (c : Shown) → c.kind ≡ Memtable → c.updating ≡ false → at_place p (with_version_over phase c) ≡ add_version None phase (at_place p c)
added-beside p phase c k e = λ i. record {
  kind = c.kind;
  versions = c.versions ++ (new_version None phase ∷ []);
  attached = c.attached;
  updating = (beside-none (is_cache c.kind) p (ap is_cache k) ∙ sym (beside-none c.updating p e)) i;
  pins = c.pins;
}

pub begun-beside : (p : Place) (phase : ℕ) (c : Shown) → c.kind ≡ Cache → at_place Head (with_version_over phase c) ≡ begin_update phase (at_place p c)
begun-beside p phase c k = λ i. record {
  kind = c.kind;
  versions = c.versions ++ (new_version None phase ∷ []);
  attached = c.attached;
  updating = beside-some (is_cache c.kind) Head (ap is_cache k) i;
  pins = c.pins;
}

-- where it is a memtable's, and where a cache chain
pub either-kind : (P : Type 0) (kind : ChainKind) → (kind ≡ Memtable → P) → (kind ≡ Cache → P) → P
either-kind P Memtable m c = m refl
either-kind P Cache m c = c refl

-- ---- an update that is over

pub settled-same : (p : Place) (c : Shown) → c.updating ≡ false → at_place p c ≡ with_updating None (at_place p c)
settled-same p c e = λ i. record { kind = c.kind; versions = c.versions; attached = c.attached; updating = beside-none c.updating p e i; pins = c.pins }

-- ---- another phase

-- a detached chain is as it was
pub relabelled-by : (P : KeptChain → Type 0) (phase : ℕ) (k : KeptChain) → (k.chain.attached ≡ true → P (on_shown (λ c. shown_with (on_newest (with_phase phase) c.versions) c) k)) → P k → P (relabelled_chain phase k)
relabelled-by P phase k f h = by k.chain.attached refl
  where
    by : (b : Bool) → k.chain.attached ≡ b → P (cond b (on_shown (λ c. shown_with (on_newest (with_phase phase) c.versions) c) k) k)
    by true e = f e
    by false e = h

-- ---- snapshots

pub snapshot-is : (p : Place) (c : Shown) → IsSoundChain c → IsSnapshotOf (at_place p c) (snapshot_number c)
snapshot-is p c s = by c.updating refl
  where
    by : (b : Bool) → c.updating ≡ b → (◌≡◌ {A = Option Place} (cond b (Some p) None) None → suc (cond b (length c.versions - 2) (length c.versions - 1)) ≡ length c.versions) × (IsUpdating (cond b (Some p) None) → suc (suc (cond b (length c.versions - 2) (length c.versions - 1))) ≡ length c.versions)
    by true e = ((λ n. let u : Some p ≡ None = n in absurd (cc)), (λ _. omega (arith, s.below e)))
    by false e = ((λ _. omega (arith, s.some)), (λ u. absurd u))

-- no update stands in a memtable's chain
pub memtable-settled : (c : Shown) → IsSoundChain c → c.kind ≡ Memtable → c.updating ≡ false
memtable-settled c s m = updating-or-not (c.updating ≡ false) c.updating (λ e. let u : Memtable ≡ Cache = sym m ∙ s.cached e in absurd (cc)) (λ e. e)
