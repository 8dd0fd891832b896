-- Each call leaves chains of the cache as they were, or room was made.
use Rattle.std.proofs.Common.{◌+◌, ◌∙◌, ap, arith}
use Rattle.rc_memory.specs.declared.counts.Counts.{Counts}
use Rattle.rc_memory.specs.Memory.{IsUntouched, Memory}
use Rattle.rc_chain.specs.declared.chains.Snap.{Snap}
use Rattle.rc_lookup.specs.Fillers.{losses}
use Rattle.rc_shard.specs.calls.Caching.{KeepsCache}
use Rattle.rc_shard.proofs.Caching.{BesideLaws, ReadLaws, RoomLaws, SameLaws, back-if, keeps-itself, keeps-then, kinds-taken, leaves-beside, leaves-evicted, leaves-read, leaves-untouched, lost-neither, taken-if, there-behind}
use Rattle.rc_shard.proofs.leaving.what_calls_leave_of_the_cache.Goals as goal

pub returns : goal.returns
returns c =
    let says = c.the_cache_says_what_lies_below.ensures in
    let calls = c.calls_on_memtables_leave_the_cache.ensures in
    let entries = c.what_leaves_the_caches_chains_leaves_the_entries.ensures.entries in
    let ones = c.each_chain_of_the_cache_has_one_version.ensures in
    let uses = c.chains_of_the_cache_stay_in_use.ensures in
    let takes = c.what_calls_leave_of_memtables.ensures in
    let snaps = c.calls_leave_the_snapshots_of_the_cache.ensures in
    let rooms = c.what_a_call_leaves_of_the_room.ensures in
    let same : SameLaws = record { says = says.same; cached = c.each_change_leaves_the_caches_chains.ensures.moved; entries = entries; one = ones.moved; used = uses.moved; snapshots = snaps.moved } in
    let beside : BesideLaws = record { says = says.beside; cached = calls.entries; entries = entries; one = ones.beside; snapshots = snaps.beside } in
    let room : RoomLaws = record { says = says.evicted; cached = c.room_leaves_the_entries.ensures.evicted; entries = entries; one = ones.evicted; used = uses.evicted; snapshots = snaps.evicted } in
    let read : ReadLaws = record { says = says.before; entries = entries; one = ones.before; used = uses.before; snapshots = snaps.before } in
    record {
      moved = λ old new h. record { left = leaves-untouched same old new h.untouched; bytes = takes.moved old new h.untouched };
      slots = λ old new h. (
          let u : IsUntouched old new = record { chains = ap (λ (m : Memory). m.chains) h.same; recency = ap (λ (m : Memory). m.recency) h.same; dropped = ap (λ (m : Memory). m.dropped) h.same; counts = ap (λ (m : Memory). m.counts) h.same } in
          record { left = leaves-untouched same old new u; bytes = takes.moved old new u });
      before = λ old new h. record { left = leaves-read old new h read; bytes = (let e = takes.before old new h in omega (arith, e)) };
      taken = λ old mid new first second seen more a b. (
          let step = taken-if beside calls.taken uses.taken takes.taken rooms.taken in
          keeps-then old mid new (step old mid first (kinds-taken mid new first second b seen) a) (step mid new second more b));
      back = λ old mid new snaps there two a b. (
          let step : (s : Snap) (m n : Memory) → _ = λ s m n h r. record { left = leaves-beside beside m n (calls.released s m n h r) (uses.released s m n h r) (rooms.released s m n h r).counts; bytes = takes.released s m n h.pin r } in
          keeps-then old mid new (back-if KeepsCache keeps-itself step snaps.sealed old mid there.sealed a) (back-if KeepsCache keeps-itself step snaps.active mid new (there-behind snaps.sealed snaps.active old mid there.sealed there.active two a) b));
      let_go = λ schema u new writes later ascend h gone. record {
        left = leaves-beside beside u.chains new (calls.let_go 131072 schema u new writes later ascend h gone) (uses.let_go 131072 schema u new writes later ascend h gone) (rooms.let_go 131072 schema u new writes later ascend h gone).counts;
        bytes = takes.let_go 131072 schema u new writes later ascend h gone;
      };
      evicted = λ went gone old new told fell a. record { left = leaves-evicted room went gone old new told a fell; bytes = takes.evicted went gone old new a };
      made = λ S old new told h. record { left = leaves-evicted room h.went h.gone old new told h.evicted (rooms.made S old new h).counts; bytes = takes.made S old new h };
      put = λ schema w old new writes later p rule told live h. (
        let b = calls.put 131072 schema w old new writes later rule h p in
            let first = leaves-evicted room b.room.went b.room.gone old.chains b.mid told b.room.evicted (rooms.made 131072 old.chains b.mid b.room).counts in
            let since = ap (λ (c : Counts). c.evicted + c.skipped) b.counts in
            record {
              says = λ t below x. says.beside t below b.mid new.chains b.same (first.says t below x);
              entries = λ es x. entries es b.mid new.chains (calls.entries b.mid new.chains b.same) (first.entries es x);
              one = λ x. ones.beside b.mid new.chains b.same (first.one x);
              used = uses.put 131072 schema w old new writes later rule h p;
              snapshots = snaps.both old.chains b.mid new.chains first.snapshots (snaps.beside b.mid new.chains b.same);
              lost = (let before = first.lost in omega (arith, before, since));
              still = λ none id k there kind. (
                  let u = lost-neither (losses old.chains) (losses b.mid) (losses new.chains) first.lost (omega (arith, since)) none in
                  let now = first.still u.0 id k there kind in
                  (now.0, b.same.stays id now.0 (now.2.kind ∙ kind) now.1, now.2));
            },
        c.a_write_is_of_a_memtable.ensures.put 131072 schema w old new writes later p rule h live,
      );
    }
