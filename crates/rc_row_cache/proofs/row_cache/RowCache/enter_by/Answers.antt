use Rattle.std.proofs.Common.{inr, ◌≡◌, ◌+◌, ◌≤◌, ◌/◌, ℕ, [], List, Some, refl, sym, ap, ◌∙◌, subst, arith}
use Rattle.lsa_pool.specs.Room.{spare_of}
use Rattle.rc_schema.specs.SchemaValue.{SchemaValue}
use Rattle.rc_mutation.specs.declared.mutations.Mutation.{Mutation}
use Rattle.rc_version.specs.Versions.{statics_bytes}
use Rattle.rc_memory.specs.Memory.{Memory, chain_at, counts_raised, raised_by, with_dropped}
use Rattle.rc_entries.specs.Filling.{IsEntryOpened, filled_statics}
use Rattle.rc_chain.specs.declared.chains.Snap.{Snap}
use Rattle.rc_row_cache.specs.Calls.{IsEnterRefused, IsEntered, IsKeptOut, IsOpenRefused, IsTakenOf, below_entry}
use Rattle.rc_row_cache.specs.Saying.{Below, CacheSays}
use Rattle.rc_entries.specs.Found.{entry_number}
use Rattle.rc_filler.specs.Crowding.{LosesWhereCrowded}
use Rattle.rc_filler.specs.Stands.{HasCacheSnapshot}
use Rattle.rc_filler.specs.Crowds.{loses-after, loses-same}
use Rattle.rc_row_cache.specs.laws.Losing.{loses-kept-out, loses-wider}
use Rattle.rc_row_cache.proofs.Cache.{pins-same}
use Rattle.rc_row_cache.proofs.Entering.{if-none, if-some, on-err, same-entries, same-settled, still-absent}
use Rattle.rc_row_cache.proofs.Fills.{pins-then}
use Rattle.rc_row_cache.proofs.Taking.{same-lost}
use Rattle.rc_row_cache.proofs.row_cache.RowCache.enter_by.Goals as goal

pub open-requires : goal.open-requires
open-requires g c =
    let old = c.args.chains.now in
    let made = c.make_room-room.new.chains in
    let told = c.forget_dropped.new.chains in
    let room = c.make_room-room.ensures.made in
    let entries = c.forget_dropped.ensures.entries (c.what_leaves_the_caches_chains_leaves_the_entries.ensures.entries c.args.self.now.entries old made (c.room_leaves_the_entries.ensures.room g.row.S old made c.known.ensures.told room) c.requires.entries) in
    let absent = still-absent c.args.self.now.entries c.forget_dropped.new.self c.args.key.now (λ id e. (c.forget_dropped.ensures.forgotten.left c.args.key.now id e).0) c.requires.absent in
    let fits : 88 ≤ g.row.S / 8 = let roomy = c.requires.roomy in omega (arith, roomy) in
    let spare : 152 + statics_bytes (filled_statics c.args.head.now.statics) ≤ spare_of g.row.S told.region.usages =
    subst (λ (m : Memory). 152 + statics_bytes (filled_statics c.args.head.now.statics) ≤ spare_of g.row.S m.region.usages) (sym c.forget_dropped.ensures.told)
    (subst (λ n. 152 + n ≤ spare_of g.row.S made.region.usages) c.static_need-need.ensures.value (c.in-Room.ensures.room refl)) in
    (omega arith, (entries, (c.forget_dropped.ensures.settled, (absent, (fits, (c.requires.row, (c.requires.small, spare)))))))

pub returns-in-Room-clause-entered : goal.returns-in-Room-clause-entered
returns-in-Room-clause-entered g c =
    let old = c.args.chains.now in
    let made = c.make_room-room.new.chains in
    let told = c.forget_dropped.new.chains in
    let room = c.make_room-room.ensures.made in
    let new = c.open.new.chains in
    if-some c.open.result
    (λ (s : Snap). (mid : Memory) × IsEntryOpened s.chain c.args.head.now.pt (filled_statics c.args.head.now.statics) c.args.phase told mid × IsTakenOf c.args.key.now c.open.new.self.entries mid new s)
    (IsEntered g.row.S c.args.key.now c.args.head.now.pt c.args.head.now.statics c.args.phase c.open.new.self.entries old new)
    (λ s h. record {
      made = made;
      room = room;
      between = h.0;
      opened = subst (λ (m : Memory). IsEntryOpened s.chain c.args.head.now.pt (filled_statics c.args.head.now.statics) c.args.phase m h.0) c.forget_dropped.ensures.told h.1;
      taken = h.2;
    })
    c.open.ensures.entered

pub returns-in-Room-clause-may : goal.returns-in-Room-clause-may
returns-in-Room-clause-may g c = c.open.ensures.may

pub returns-in-Room-clause-kept_out : goal.returns-in-Room-clause-kept_out
returns-in-Room-clause-kept_out g c = if-none c.open.result ((entry_number c.open.new.self.entries c.args.key.now ≡ Rattle.std.proofs.Common.None) × IsKeptOut g.row.S c.args.chains.now c.open.new.chains) c.open.ensures.some

pub returns-in-Room-clause-refused : goal.returns-in-Room-clause-refused
returns-in-Room-clause-refused g c =
    let old = c.args.chains.now in
    let made = c.make_room-room.new.chains in
    let new = c.open.new.chains in
    on-err c.open.result (IsOpenRefused c.args.head.now.pt c.args.head.now.statics c.args.phase c.forget_dropped.new.chains new) (IsEnterRefused g.row.S c.args.head.now.pt c.args.head.now.statics c.args.phase old new)
    (λ r. inr (made, c.make_room-room.ensures.made, subst (λ (m : Memory). IsOpenRefused c.args.head.now.pt c.args.head.now.statics c.args.phase m new) c.forget_dropped.ensures.told r)) c.open.ensures.refused

pub returns-in-Room-clause-others : goal.returns-in-Room-clause-others
returns-in-Room-clause-others g c = λ q id e ne. (c.forget_dropped.ensures.forgotten.left q id (c.open.ensures.others q id e ne)).0

pub returns-in-Room-clause-entries : goal.returns-in-Room-clause-entries
returns-in-Room-clause-entries g c = c.open.ensures.entries

pub returns-in-Room-clause-settled : goal.returns-in-Room-clause-settled
returns-in-Room-clause-settled g c = c.open.ensures.settled

pub returns-in-Room-clause-says : goal.returns-in-Room-clause-says
returns-in-Room-clause-says g c =
    let old = c.args.chains.now in
    let made = c.make_room-room.new.chains in
    let told = c.forget_dropped.new.chains in
    let room = c.make_room-room.ensures.made in
    let says_told = λ (schema : SchemaValue) (below : Below) (says : CacheSays schema below old). subst (CacheSays schema below) (sym c.forget_dropped.ensures.told) (c.the_cache_says_what_lies_below.ensures.room schema below g.row.S old made room says) in
    λ schema below writes fit head row says. c.open.ensures.says schema below writes fit head row (says_told schema below says)

pub returns-in-Room-clause-pins : goal.returns-in-Room-clause-pins
returns-in-Room-clause-pins g c =
    let old = c.args.chains.now in
    let made = c.make_room-room.new.chains in
    let told = c.forget_dropped.new.chains in
    let room = c.make_room-room.ensures.made in
    let pins_told = λ (below : ℕ → List Mutation) (id pin : ℕ). pins-then below id pin old made told (c.each_snapshot_pins_what_it_pinned.ensures.room below id pin g.row.S old made room) (pins-same below id pin made told (λ k kind there. ap (λ (m : Memory). chain_at m id) c.forget_dropped.ensures.told ∙ there)) in
    λ below id pin. pins-then below id pin old told c.open.new.chains (pins_told below id pin) (c.open.ensures.pins below id pin)

pub returns-in-Room-clause-seen : goal.returns-in-Room-clause-seen
returns-in-Room-clause-seen g c =
    let old = c.args.chains.now in
    let made = c.make_room-room.new.chains in
    let told = c.forget_dropped.new.chains in
    let room = c.make_room-room.ensures.made in
    let sees = c.a_snapshot_sees_what_it_saw.ensures in
    let seen_told = sees.along old made told (c.room_is_made_beside_what_memtables_see.ensures g.row.S old made c.known.ensures.rule room) (sees.all made told (same-lost made told (λ id. ap (λ (m : Memory). chain_at m id) c.forget_dropped.ensures.told))) in
    sees.along old told c.open.new.chains seen_told (sees.all told c.open.new.chains c.open.ensures.seen)

pub returns-in-NoRoom-clause-kept_out : goal.returns-in-NoRoom-clause-kept_out
returns-in-NoRoom-clause-kept_out g c =
    let old = c.args.chains.now in
    let made = c.make_room-room.new.chains in
    let told = c.forget_dropped.new.chains in
    let room = c.make_room-room.ensures.made in
    let absent = still-absent c.args.self.now.entries c.forget_dropped.new.self c.args.key.now (λ id e. (c.forget_dropped.ensures.forgotten.left c.args.key.now id e).0) c.requires.absent in
    let none = c.in-NoRoom.ensures.none refl in
    (absent, (made, room, (none.0, none.1, none.3), c.count.ensures ∙ ap (counts_raised 0 1 0) c.forget_dropped.ensures.told))

pub returns-in-NoRoom-clause-others : goal.returns-in-NoRoom-clause-others
returns-in-NoRoom-clause-others g c = λ q id e ne. (c.forget_dropped.ensures.forgotten.left q id e).0

pub returns-in-NoRoom-clause-entries : goal.returns-in-NoRoom-clause-entries
returns-in-NoRoom-clause-entries g c =
    let old = c.args.chains.now in
    let made = c.make_room-room.new.chains in
    let told = c.forget_dropped.new.chains in
    let room = c.make_room-room.ensures.made in
    let entries = c.forget_dropped.ensures.entries (c.what_leaves_the_caches_chains_leaves_the_entries.ensures.entries c.args.self.now.entries old made (c.room_leaves_the_entries.ensures.room g.row.S old made c.known.ensures.told room) c.requires.entries) in
    same-entries c.forget_dropped.new.self told c.count.new.self (ap (λ (m : Memory). m.chains) c.count.ensures) (ap (λ (m : Memory). m.dropped) c.count.ensures) entries

pub returns-in-NoRoom-clause-settled : goal.returns-in-NoRoom-clause-settled
returns-in-NoRoom-clause-settled g c = same-settled c.forget_dropped.new.self c.forget_dropped.new.chains c.count.new.self (ap (λ (m : Memory). m.chains) c.count.ensures) (ap (λ (m : Memory). m.dropped) c.count.ensures) c.forget_dropped.ensures.settled

pub returns-in-NoRoom-clause-says : goal.returns-in-NoRoom-clause-says
returns-in-NoRoom-clause-says g c =
    let old = c.args.chains.now in
    let made = c.make_room-room.new.chains in
    let told = c.forget_dropped.new.chains in
    let room = c.make_room-room.ensures.made in
    let absent = still-absent c.args.self.now.entries c.forget_dropped.new.self c.args.key.now (λ id e. (c.forget_dropped.ensures.forgotten.left c.args.key.now id e).0) c.requires.absent in
    let says_told = λ (schema : SchemaValue) (below : Below) (says : CacheSays schema below old). subst (CacheSays schema below) (sym c.forget_dropped.ensures.told) (c.the_cache_says_what_lies_below.ensures.room schema below g.row.S old made room says) in
    λ schema below writes fit head row says. subst (λ o. CacheSays schema (below_entry o writes below) c.count.new.self) (sym absent)
    (c.the_cache_says_what_lies_below.ensures.same schema below told c.count.new.self (ap (λ (m : Memory). m.chains) c.count.ensures) (says_told schema below says))

pub returns-in-NoRoom-clause-pins : goal.returns-in-NoRoom-clause-pins
returns-in-NoRoom-clause-pins g c =
    let old = c.args.chains.now in
    let made = c.make_room-room.new.chains in
    let told = c.forget_dropped.new.chains in
    let room = c.make_room-room.ensures.made in
    let pins_told = λ (below : ℕ → List Mutation) (id pin : ℕ). pins-then below id pin old made told (c.each_snapshot_pins_what_it_pinned.ensures.room below id pin g.row.S old made room) (pins-same below id pin made told (λ k kind there. ap (λ (m : Memory). chain_at m id) c.forget_dropped.ensures.told ∙ there)) in
    λ below id pin. pins-then below id pin old told c.count.new.self (pins_told below id pin) (pins-same below id pin told c.count.new.self (λ k kind there. ap (λ (m : Memory). chain_at m id) c.count.ensures ∙ there))

pub returns-in-NoRoom-clause-seen : goal.returns-in-NoRoom-clause-seen
returns-in-NoRoom-clause-seen g c =
    let old = c.args.chains.now in
    let made = c.make_room-room.new.chains in
    let told = c.forget_dropped.new.chains in
    let room = c.make_room-room.ensures.made in
    let sees = c.a_snapshot_sees_what_it_saw.ensures in
    let seen_told = sees.along old made told (c.room_is_made_beside_what_memtables_see.ensures g.row.S old made c.known.ensures.rule room) (sees.all made told (same-lost made told (λ id. ap (λ (m : Memory). chain_at m id) c.forget_dropped.ensures.told))) in
    sees.along old told c.count.new.self seen_told (sees.all told c.count.new.self (same-lost told c.count.new.self (λ id. ap (λ (m : Memory). chain_at m id) c.count.ensures)))

pub returns-in-Room-clause-loses : goal.returns-in-Room-clause-loses
returns-in-Room-clause-loses g c =
    let old = c.args.chains.now in
    let made = c.make_room-room.new.chains in
    let told = c.forget_dropped.new.chains in
    loses-after g.row.S 1 old told c.open.new.chains (subst (LosesWhereCrowded g.row.S 0 old) (sym c.forget_dropped.ensures.told) (loses-after g.row.S 0 old made (with_dropped [] made) c.make_room-room.ensures.made.loses (loses-same g.row.S made (with_dropped [] made) refl refl refl refl)))
    c.open.ensures.loses

pub returns-in-NoRoom-clause-loses : goal.returns-in-NoRoom-clause-loses
returns-in-NoRoom-clause-loses g c =
    let old = c.args.chains.now in
    let made = c.make_room-room.new.chains in
    let room = c.make_room-room.ensures.made in
    let none = c.in-NoRoom.ensures.none refl in
    let low : raised_by 0 made.counts.shrunk ≡ made.counts.shrunk = subst (λ n. raised_by 0 n ≡ n) (sym room.shrunk) c.counts_in_range.ensures in
    loses-wider g.row.S 1 old c.count.new.self (loses-after g.row.S 0 old made c.count.new.self room.loses (loses-kept-out g.row.S made c.count.new.self low none.3 (c.count.ensures ∙ ap (counts_raised 0 1 0) c.forget_dropped.ensures.told)))

-- ---- no snapshot was there of the chain that came to be

pub returns-in-Room-clause-apart : goal.returns-in-Room-clause-apart
returns-in-Room-clause-apart g c =
    let old = c.args.chains.now in
    let made = c.make_room-room.new.chains in
    let told = c.forget_dropped.new.chains in
    let room = c.make_room-room.ensures.made in
    let pins_told = λ (below : ℕ → List Mutation) (id pin : ℕ). pins-then below id pin old made told (c.each_snapshot_pins_what_it_pinned.ensures.room below id pin g.row.S old made room) (pins-same below id pin made told (λ k kind there. ap (λ (m : Memory). chain_at m id) c.forget_dropped.ensures.told ∙ there)) in
    let found : ℕ → Type 0 = λ id. entry_number c.open.new.self.entries c.args.key.now ≡ Some id in
    on-err c.open.result ((id pin : ℕ) → found id → HasCacheSnapshot told id pin → ⊥) ((id pin : ℕ) → found id → HasCacheSnapshot old id pin → ⊥)
    (λ apart id pin e h. apart id pin e (pins_told (λ _. []) id pin h).0) c.open.ensures.apart
