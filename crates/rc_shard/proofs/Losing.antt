-- What an opening loses it loses in a crowded region.
use Rattle.std.proofs.Common.{◌≡◌, ◌⊎◌, ◌+◌, ◌-◌, ◌*◌, ◌/◌, ◌<◌, ◌≤◌, ap, ℕ, zero, suc, Option, Some, None, length, inl, inr, sym, subst, arith}
use Rattle.lsa_pool.specs.Room.{spare_of}
use Rattle.lsa_region.specs.Region.{live_bytes}
use Rattle.rc_memory.specs.declared.counts.Counts.{Counts}
use Rattle.rc_memory.specs.Memory.{Memory}
use Rattle.rc_chain.specs.declared.chains.Snap.{Snap}
use Rattle.rc_lookup.specs.Crowding.{LosesWhereCrowded, versions_of}
use Rattle.rc_lookup.specs.Crowds.{loses-after, loses-nothing}
use Rattle.rc_lookup.specs.Footprint.{LosesBeforeWrite}
use Rattle.rc_lookup.specs.Losing.{loses-taken}
use Rattle.rc_lookup.specs.Readers.{IsTakenIf}
use Rattle.rc_shard.specs.Losing.{LosesForWrite, LosesInCrowd}

since : (least live eighth before now h i : ℕ) → least + 152 * now + h < live + eighth + 152 * (before + 1) + i → now ≤ before + 1 → h ≤ i → least < live + eighth + 152 * (before + 1 - now) + (i - h)
since least live eighth before now h i c p q = omega (arith, c, p, q)

pub crowded-since : (old new : Memory) → LosesWhereCrowded 131072 1 old new → LosesInCrowd old new
crowded-since old new l = elim l.cause [
  | inl kept ↦ inl kept.0
  | inr lost ↦ elim lost [
    | inl c ↦ inr (inl (since (3 * 131072 / 4 * (length new.region.usages - 2)) (live_bytes new.region) (131072 / 8) (versions_of old) (versions_of new) old.counts.shrunk new.counts.shrunk c l.versions l.shrunk))
    | inr top ↦ inr (inr top)
  ]
]

taken-loses : (m n : Memory) (taken : Option Snap) → IsTakenIf m n taken → LosesWhereCrowded 131072 0 m n
taken-loses m n None same = subst (LosesWhereCrowded 131072 0 m) (sym same) (loses-nothing 131072 m)
taken-loses m n (Some s) taken = loses-taken 131072 s.chain s.pin s.phase m n taken

-- both snapshots of a reader are taken
pub pinned-loses : (m mid n : Memory) (first second : Option Snap) → IsTakenIf m mid first → IsTakenIf mid n second → LosesWhereCrowded 131072 0 m n
pinned-loses m mid n first second a b = loses-after 131072 0 m mid n (taken-loses m mid first a) (taken-loses mid n second b)

-- ---- a write

low_or : (a b : ℕ) → (a < b) ⊎ (b ≤ a)
low_or zero zero = inr (omega arith)
low_or zero (suc b) = inl (omega arith)
low_or (suc a) zero = inr (omega arith)
low_or (suc a) (suc b) = elim (low_or a b) [ inl l ↦ inl (omega (arith, l)) | inr h ↦ inr (omega (arith, h)) ]

pub write-crowds : (old new : Memory) → (7 * 131072 / 8 ≤ spare_of 131072 old.region.usages → new.counts ≡ old.counts) → LosesBeforeWrite 131072 old new → LosesForWrite old new
write-crowds old new spared lost = elim (low_or (spare_of 131072 old.region.usages) (7 * 131072 / 8)) [
  | inr enough ↦ (let same = spared enough in inl (ap (λ (c : Counts). c.evicted) same, ap (λ (c : Counts). c.skipped) same))
  | inl few ↦ elim lost [ inl none ↦ inl none | inr c ↦ inr (few, c) ]
]
