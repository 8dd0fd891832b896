-- There is a root slot more for each chain and two for the recency list: in a region of 4096 segments there is room for another one.
use Rattle.std.proofs.Common.{◌≡◌, ℕ, suc, ◌+◌, ◌*◌, ◌^◌, ◌<◌, ◌≤◌, List, [], ◌∷◌, Option, Some, None, length, sym, subst, map, slice_index_or, arith}
use Rattle.std.specs.Prelude.{Contains, IfSome, sum_by}
use Rattle.std.proofs.lemmas.List.Sums.{sum_by-cons}
use Rattle.lsa_pool.specs.declared.Usage.{Usage}
use Rattle.lsa_pool.specs.Account.{IsSound}
use Rattle.lsa_pool.specs.Room.{live_sum, usage_of}
use Rattle.lsa_region.specs.Region.{View, live_bytes, slots_of}
use Rattle.rc_partition.specs.List.{List as Slots}
use Rattle.rc_registry.specs.Entry.{Entry}
use Rattle.rc_registry.specs.Version.{EndsWithDummy, Version, end_position}
use Rattle.rc_partition.specs.Versions.{IsVersionOf, bytes_at, entries_bytes, version_bytes}
use Rattle.rc_partition.specs.Partitions.{IsPartitionEntry, PartitionEntry, StandingVersion}
use Rattle.rc_partition.specs.laws.Lists.{elem-first, elem-later}
use Rattle.rc_registry.specs.declared.uses.Use.{Use}
use Rattle.rc_registry.specs.Registry.{Registry}
use Rattle.rc_memory.specs.declared.counts.Counts.{Counts}
use Rattle.rc_memory.specs.Memory.{KeptChain, Memory, chain_at}
use Rattle.rc_memory.specs.Kept.{AreKept, HoldMemory, IsSoundChain, chain_of_use, present}
use Rattle.rc_memory.specs.Room.{chain_bytes}
use Rattle.rc_memory.specs.laws.Each.{bytes-told}
use Rattle.rc_memory.specs.laws.Places.{no_some, same_some}

-- ---- what a chain takes at least

entries-heavy : (es : List Entry) → EndsWithDummy es → 88 ≤ entries_bytes es
entries-heavy [] h = absurd h
entries-heavy (e ∷ []) h = let is : bytes_at e.position e.row ≡ bytes_at end_position None = λ i. bytes_at (h.0 i) (h.1 i) in omega (arith, is)
entries-heavy (e ∷ f ∷ es) h = omega (arith, entries-heavy (f ∷ es) h)

-- a version takes 152 bytes at least, those of its head and of its end dummy
pub version-heavy : (c : Version) → EndsWithDummy c.entries → 152 ≤ version_bytes c
version-heavy c h = omega (arith, entries-heavy c.entries h)

module _ (v : View) where
  some-heavy : (ss : List StandingVersion) → ((s : StandingVersion) → Contains ss s → IsVersionOf v s.object s.entries s.version) → 0 < length (map (λ (s : StandingVersion). s.version) ss) → 152 ≤ sum_by version_bytes (map (λ (s : StandingVersion). s.version) ss)
  some-heavy [] stand some = absurd (omega (arith, some))
  some-heavy (s ∷ ss) stand some = omega (arith, version-heavy s.version (stand s (elem-first s ss)).version.ends, sum_by-cons version_bytes s.version (map (λ (t : StandingVersion). t.version) ss))

  -- so do chains that are sound
  chains-heavy : (us : List (Option Use)) (ps : List (Option PartitionEntry)) (cs : List (Option KeptChain)) → AreKept us ps cs → ((p : PartitionEntry) → Contains (present ps) p → IsPartitionEntry v p)
      → ((id : ℕ) → IfSome (slice_index_or cs id None) (λ k. IsSoundChain k.chain)) → 152 * length (present cs) ≤ sum_by chain_bytes (present cs)
  chains-heavy [] [] [] h stand sound = omega arith
  chains-heavy [] [] (c ∷ cs) h stand sound = absurd h
  chains-heavy [] (p ∷ ps) cs h stand sound = absurd h
  chains-heavy (u ∷ us) [] cs h stand sound = absurd h
  chains-heavy (u ∷ us) (p ∷ ps) [] h stand sound = absurd h
  chains-heavy (None ∷ us) (None ∷ ps) (None ∷ cs) h stand sound = chains-heavy us ps cs h.1 stand (λ id. sound (suc id))
  chains-heavy (None ∷ us) (None ∷ ps) (Some k ∷ cs) h stand sound = absurd (no_some k (sym h.0))
  chains-heavy (None ∷ us) (Some p ∷ ps) (c ∷ cs) h stand sound = absurd h.0
  chains-heavy (Some u ∷ us) (None ∷ ps) (c ∷ cs) h stand sound = absurd h.0
  chains-heavy (Some u ∷ us) (Some p ∷ ps) (None ∷ cs) h stand sound = absurd (no_some (chain_of_use u p) h.0.1)
  chains-heavy (Some u ∷ us) (Some p ∷ ps) (Some k ∷ cs) h stand sound =
      let rest = chains-heavy us ps cs h.1 (λ q on. stand q (elem-later p q (present ps) on)) (λ id. sound (suc id)) in
      let same : k ≡ chain_of_use u p = same_some k (chain_of_use u p) h.0.1 in
      let one : 152 ≤ chain_bytes (chain_of_use u p) = some-heavy p.versions (stand p (elem-first p (present ps))).versions (subst (λ (x : KeptChain). 0 < length x.chain.versions) same (sound 0).some) in
      let this : 152 ≤ chain_bytes k = subst (λ x. 152 ≤ chain_bytes x) (sym same) one in
      omega (arith, rest, this, sum_by-cons chain_bytes k (present cs))

-- ---- what a region holds at most

most-live : (us : List Usage) → ((n : ℕ) → (usage_of us n).live ≤ 2 ^ 27) → live_sum us ≤ length us * 2 ^ 27
most-live [] small = omega arith
most-live (u ∷ us) small = omega (arith, sum_by-cons (λ (w : Usage). w.live) u us, most-live us (λ n. small (suc n)), small 0)

within : (live used size : ℕ) → live ≤ used → used ≤ size → size ≤ 2 ^ 27 → live ≤ 2 ^ 27
within live used size a b c = omega (arith, a, b, c)

few-chains : (chains live segments there : ℕ) → 152 * chains ≤ live → live ≤ segments * 2 ^ 27 → segments ≤ 4096 → there ≡ 2 + chains → there < 2 ^ 32
few-chains chains live segments there heavy most few is = omega (arith, heavy, most, few, is)

module _ (slots : Slots) (v : View) (registry : Registry) (counts : Counts) (m : Memory) (h : HoldMemory slots v registry counts m) where
  pub room-for : (S : ℕ) → ((id : ℕ) → IfSome (chain_at m id) (λ k. IsSoundChain k.chain)) → IsSound S v.usages → length v.usages ≤ 4096 → S ≤ 2 ^ 27 → (slots_of v).there < 2 ^ 32
  room-for S sound books few small = few-chains (length (present m.chains)) (live_bytes v) (length v.usages) (slots_of v).there
      (subst (λ n. 152 * length (present m.chains) ≤ n) (sym (bytes-told slots v registry counts m h)) (chains-heavy v registry.uses m.standing m.chains h.kept h.stands.entries sound))
      (most-live v.usages (λ n. within (usage_of v.usages n).live (usage_of v.usages n).used S (books.live n) (books.used n) small)) few h.roots
