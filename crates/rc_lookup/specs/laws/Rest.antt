-- What calls leave of everything else, one after another.
use Rattle.std.proofs.Common.{inl, inr, ◌≡◌, ℕ, List, IsSome, None, Option, sym, refl, ap, ◌∙◌, subst, slice_index_or, sum_by, length, arith}
use Rattle.std.specs.Prelude.{Contains, IsSomeAnd, filter}
use Rattle.rc_core.specs.declared.entries.ChainKind.TheVariants.{Cache, Memtable}
use Rattle.rc_core.specs.Steps.{pin_at}
use Rattle.rc_memory.specs.Changes.{member_at}
use Rattle.rc_memory.specs.Kept.{present}
use Rattle.rc_memory.specs.Memory.{KeptChain, Memory, chain_at, with_dropped}
use Rattle.rc_memory.specs.Room.{chain_bytes}
use Rattle.rc_chain.specs.declared.chains.Snap.{Snap}
use Rattle.rc_cached.specs.LetGo.{NoCountFell}
use Rattle.rc_cached.specs.NoMore.{counts-then}
use Rattle.rc_cursor.specs.Snapshots.{kind_in, versions_in}
use Rattle.rc_snapshots.specs.laws.Seeing.{seen-then}
use Rattle.rc_row_cache.specs.Footprint.{cache_snapshots, is_chain_of, memtable_bytes, snapshots_of}
use Rattle.rc_lookup.specs.Rest.{LeavesBut, LeavesRest}

-- a snapshot of this number is there
abbrev Pins : ℕ → Option KeptChain → Type 0
Pins pin o = IsSomeAnd o (λ k. IsSome (pin_at k.chain.pins pin))

-- ---- nothing

-- chains and list are as they were
pub rest-same : (old new : Memory) → new.chains ≡ old.chains → new.recency ≡ old.recency → length new.region.usages ≡ length old.region.usages → NoCountFell old new → LeavesRest old new
rest-same old new chains list segments counts =
    let at : (id : ℕ) → chain_at new id ≡ chain_at old id = λ id. ap (λ cs. slice_index_or cs id None) chains in
    record {
      memtables = λ id k e kind. at id ∙ e;
      seen = record {
        see = λ s h. record { pin = subst (Pins s.pin) (sym (at s.chain)) h.pin; versions = ap (λ o. versions_in o s.pin) (at s.chain); kind = ap kind_in (at s.chain) };
        there = λ s on. subst (Pins s.pin) (sym (at s.chain)) on;
      };
      none_more = λ s on. subst (Pins s.pin) (at s.chain) on;
      segments = segments;
      counts = counts;
      bytes = (let e : memtable_bytes new ≡ memtable_bytes old = ap (λ cs. sum_by chain_bytes (filter (is_chain_of Memtable) (present cs))) chains in omega (arith, e));
      one = λ h id k e cached. h id k (sym (at id) ∙ e) cached;
      used = λ h u id k e idle. u id k (sym (at id) ∙ e) (record { cached = idle.cached; settled = idle.settled; unpinned = idle.unpinned; unlisted = λ j x on. idle.unlisted j x (subst (λ l. Contains l (member_at id j x)) (sym list) on) });
      pins = λ id pin h. record { chain = h.chain; number = h.number; there = at id ∙ h.there; pinned = h.pinned; cached = h.cached };
      snapshots = (let e : cache_snapshots new ≡ cache_snapshots old = ap (λ cs. sum_by snapshots_of (filter (is_chain_of Cache) (present cs))) chains in omega (arith, e));
    }

pub no-count-fell : (m : Memory) → NoCountFell m m
no-count-fell m = record { evicted = omega arith; moved = omega arith; skipped = omega arith }

pub rest-none : (m : Memory) → LeavesRest m m
rest-none m = rest-same m m refl refl refl (no-count-fell m)

-- numbers that were told
pub rest-told : (told : List ℕ) (m : Memory) → LeavesRest m (with_dropped told m)
rest-told told m = rest-same m (with_dropped told m) refl refl refl (record { evicted = omega arith; moved = omega arith; skipped = omega arith })

-- ---- one after another

pub rest-then : (old mid new : Memory) → LeavesRest old mid → LeavesRest mid new → LeavesRest old new
rest-then old mid new a b = record {
  memtables = λ id k e kind. b.memtables id k (a.memtables id k e kind) kind;
  seen = seen-then old mid new a.seen b.seen;
  none_more = λ s on. a.none_more s (b.none_more s on);
  segments = b.segments ∙ a.segments;
  counts = counts-then old mid new a.counts b.counts;
  bytes = omega (arith, a.bytes, b.bytes);
  one = λ h. b.one (a.one h);
  used = λ h u. b.used (a.one h) (a.used h u);
  pins = λ id pin h. b.pins id pin (a.pins id pin h);
  snapshots = omega (arith, a.snapshots, b.snapshots);
}

-- what is left but for a snapshot, and then all else
pub but-then : (s : Snap) (old mid new : Memory) → LeavesBut s old mid → LeavesRest mid new → LeavesBut s old new
but-then s old mid new a b = record {
  memtables = λ id k e kind. b.memtables id k (a.memtables id k e kind) kind;
  seen = seen-then old mid new a.seen b.seen;
  none_more = λ t on. a.none_more t (b.none_more t on);
  segments = b.segments ∙ a.segments;
  counts = counts-then old mid new a.counts b.counts;
  bytes = omega (arith, a.bytes, b.bytes);
  one = λ h. b.one (a.one h);
  used = λ h u. b.used (a.one h) (a.used h u);
  pins = λ id pin h. b.pins id pin (a.pins id pin h);
  snapshots = omega (arith, a.snapshots, b.snapshots);
}

-- all else, and then what is left but for a snapshot
pub but-after : (s : Snap) (old mid new : Memory) → LeavesRest old mid → LeavesBut s mid new → LeavesBut s old new
but-after s old mid new a b = record {
  memtables = λ id k e kind. b.memtables id k (a.memtables id k e kind) kind;
  seen = seen-then old mid new a.seen b.seen;
  none_more = λ t on. elim (b.none_more t on) [ inl was ↦ inl (a.none_more t was) | inr mine ↦ inr mine ];
  segments = b.segments ∙ a.segments;
  counts = counts-then old mid new a.counts b.counts;
  bytes = omega (arith, a.bytes, b.bytes);
  one = λ h. b.one (a.one h);
  used = λ h u. b.used (a.one h) (a.used h u);
  pins = λ id pin h. b.pins id pin (a.pins id pin h);
  snapshots = omega (arith, a.snapshots, b.snapshots);
}
