use Rattle.std.proofs.Common.{ℕ, List, [], refl}
use Rattle.rc_memory.specs.Memory.{Member, Memory}
use Rattle.rc_cached.specs.Stands.{HasCacheSnapshot}
use Rattle.rc_lookup.specs.Evictions.{AreEvicted}
use Rattle.rc_shard.proofs.Snapshots.{UseLaws, keeps-before, keeps-beside, keeps-detached, keeps-evicted, keeps-same, keeps-then}
use Rattle.rc_shard.proofs.releasing.calls_leave_the_snapshots_of_the_cache.Goals as goal

pub returns : goal.returns
returns c =
    let same = c.calls_on_memtables_leave_the_cache.ensures in
    let uses : UseLaws = record { kind = c.evictions_leave_the_use_of_a_chain.ensures.kind; pins = c.evictions_leave_the_use_of_a_chain.ensures.pins } in
    let each : (went : List Member) (gone : List ℕ) (old new : Memory) → AreEvicted went gone old new → (id pin : ℕ) → HasCacheSnapshot old id pin → HasCacheSnapshot new id pin =
    λ went gone old new a id pin h. (c.each_snapshot_pins_what_it_pinned.ensures.evicted (λ _. []) id pin went gone old new a h).0 in
    record {
      taken = λ old new s kind t. keeps-beside old new (same.taken old new s kind t);
      released = λ s old new there r. keeps-beside old new (same.released s old new there r);
      moved = λ old new u. keeps-same old new u.chains;
      evicted = λ went gone old new a. keeps-evicted uses went gone old new a (each went gone old new a);
      made = λ S old new r. keeps-evicted uses r.went r.gone old new r.evicted (each r.went r.gone old new r.evicted);
      beside = keeps-beside;
      before = keeps-before;
      detached = keeps-detached;
      itself = λ m. keeps-same m m refl;
      both = keeps-then;
    }
