-- What stays where the recency list has its members in another order.
use Rattle.std.proofs.Common.{◌≡◌, ℕ, List, Some, inl, inr, refl, sym, ap, ◌∙◌, subst, length, arith}
use Rattle.lsa_path.specs.laws.Steps.{objects-trans}
use Rattle.rc_memory.specs.Changes.{member_at}
use Rattle.rc_memory.specs.Memory.{HasPin, Memory, chain_at}
use Rattle.rc_row_cache.specs.Entries.{AreEntries}
use Rattle.rc_snapshots.specs.Seeing.{StillSees}
use Rattle.rc_row_cache.specs.Footprint.{HaveOneVersion, cache_snapshots, memtable_bytes}
use Rattle.rc_lookup.specs.Looked.{IsStill, IsUnread}
use Rattle.rc_lookup.specs.Rest.{LeavesRest}
use Rattle.rc_lookup.specs.calls.Touched.{IsReordered}
use Rattle.rc_lookup.proofs.Kept.{unchanged}

pub same-reordered : (m : Memory) → IsReordered m m
same-reordered m = record { kept = λ w on. on; same = refl; objects = unchanged m.region }

-- ---- what stays

module _ (old new : Memory) (r : IsReordered old new) where
  -- the rest
  pub rest-reordered : LeavesRest old new
  rest-reordered = record {
    memtables = λ id k e kind. subst (λ (m : Memory). chain_at m id ≡ Some k) (sym r.same) e;
    seen = record {
      see = λ s h. subst (StillSees s old) (sym r.same) (record { pin = h.pin; versions = refl; kind = refl });
      there = λ s on. subst (λ (m : Memory). HasPin m s.chain s.pin) (sym r.same) on;
    };
    none_more = λ s on. subst (λ (m : Memory). HasPin m s.chain s.pin) r.same on;
    segments = ap length r.objects.usages;
    counts = record {
      evicted = (let e : new.counts.evicted ≡ old.counts.evicted = ap (λ (m : Memory). m.counts.evicted) r.same in omega (arith, e));
      moved = (let e : new.region.moved ≡ old.region.moved = r.objects.moved in omega (arith, e));
      skipped = (let e : new.counts.skipped ≡ old.counts.skipped = ap (λ (m : Memory). m.counts.skipped) r.same in omega (arith, e));
    };
    bytes = (let e : memtable_bytes new ≡ memtable_bytes old = ap memtable_bytes r.same in omega (arith, e));
    one = λ h. subst HaveOneVersion (sym r.same) h;
    used = λ h u id k e idle. u id k (subst (λ (m : Memory). chain_at m id ≡ Some k) r.same e)
        (record { cached = idle.cached; settled = idle.settled; unpinned = idle.unpinned; unlisted = λ j x on. idle.unlisted j x (r.kept (member_at id j x) on) });
    pins = λ id pin h. record { chain = h.chain; number = h.number; there = subst (λ (m : Memory). chain_at m id ≡ Some h.chain) (sym r.same) h.there; pinned = h.pinned; cached = h.cached };
    snapshots = (let e : cache_snapshots new ≡ cache_snapshots old = ap cache_snapshots r.same in omega (arith, e));
  }

  -- what did not move
  pub still-moved : (before : Memory) → IsStill before old → IsStill before new
  still-moved before l = record {
    region = objects-trans before.region old.region new.region l.region r.objects;
    counts = ap (λ (m : Memory). m.counts) r.same ∙ l.counts;
    memtables = λ id k e kind. subst (λ (m : Memory). chain_at m id ≡ Some k) (sym r.same) (l.memtables id k e kind);
  }

  -- the entries
  pub entries-reordered : (entries : List (List ℕ × ℕ)) → AreEntries entries old → AreEntries entries new
  entries-reordered entries a = subst (AreEntries entries) (sym r.same) (record {
    ascend = a.ascend;
    apart = a.apart;
    kept = λ key id e. elim (a.kept key id e) [ inl c ↦ inl (record { kept = c.kept; there = c.there; kind = c.kind; attached = c.attached }) | inr gone ↦ inr gone ];
    all = λ id c. a.all id (record { kept = c.kept; there = c.there; kind = c.kind; attached = c.attached });
  })

-- ---- where nothing is found

-- the list and the region are as they were
pub none-unread : (before old : Memory) (now : Memory) → IsUnread before old → now ≡ old → IsUnread before now
none-unread before old now u e = record { region = ap (λ (m : Memory). m.region) e ∙ u.region; recency = ap (λ (m : Memory). m.recency) e ∙ u.recency }
