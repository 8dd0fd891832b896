use Rattle.std.proofs.Common.{◌∙◌, ◌<◌, ◌-◌, ◌*◌, ◌/◌, length, sym, ap, refl, subst, arith}
use Rattle.lsa_move.specs.Room.{Tight}
use Rattle.lsa_pool.specs.Room.{spare_of}
use Rattle.lsa_region.specs.Region.{View, live_bytes}
use Rattle.rc_memory.specs.Memory.{Memory}
use Rattle.rc_unstored.specs.Memtables.{HaveWrites, in_chains}
use Rattle.rc_unstored.proofs.Applying.{full-for, full-left, put-left, put-seen, put-stands, refused-left, room-more, slots-seen}
use Rattle.rc_unstored.proofs.Keeping.{both_in, both-moved, on-err}
use Rattle.rc_unstored.proofs.Making.{both-made, made-beside, made-seen}
use Rattle.rc_unstored.proofs.unstored.Unstored.put.Goals as goal

-- what stood before room was made stands then, and also once root slots were made
pub returns-in_err-apply-in-Room-clause-err : goal.returns-in_err-apply-in-Room-clause-err
returns-in_err-apply-in-Room-clause-err g c =
    let e = c.in_err-apply-in-Room.ensures in
    let spares = c.evictions_spare_memtables_and_readers.ensures in
    on-err c.from_residual.result _ (λ writes later h.
    subst (λ active. HaveWrites c.args.schema.now (both_in g.row.S c.apply.new.chains c.args.self.now.sealed active) writes later) (sym e.same)
    (both-moved c.args.schema.now (in_chains c.make_room.new.chains c.args.self.now) c.apply.new.chains writes later (ap (λ (m : Memory). m.chains) e.err.same)
    (both-made spares.memtable g.row.S c.args.self.now.chains c.make_room.new.chains c.known.ensures.rule c.make_room.ensures.made c.args.schema.now c.args.self.now refl writes later h)))

pub returns-in-NoRoom-clause-stands : goal.returns-in-NoRoom-clause-stands
returns-in-NoRoom-clause-stands g c writes later h =
    both-made c.evictions_spare_memtables_and_readers.ensures.memtable g.row.S c.args.self.now.chains c.make_room.new.chains c.known.ensures.rule c.make_room.ensures.made c.args.schema.now c.args.self.now refl writes later h

pub returns-in-NoRoom-clause-full : goal.returns-in-NoRoom-clause-full
returns-in-NoRoom-clause-full g c e =
    let r = c.requires.kept in
    full-for g.row.S c.args.schema.now c.args.w.now (both_in g.row.S c.make_room.new.chains c.args.self.now.sealed c.args.self.now.active) c.args.self.now.chains c.need-need.result
    (made-beside c.evictions_spare_memtables_and_readers.ensures.memtable g.row.S c.args.self.now.chains c.make_room.new.chains c.known.ensures.rule c.make_room.ensures.made c.args.schema.now c.args.self.now.active r.1 r.2.active c.args.w.now.key)
    c.need-need.ensures.least (let none = c.make_room.ensures.none c.in-NoRoom.is in (none.0, none.1, none.2))

pub returns-in_ok-apply-in-Room-clause-stands : goal.returns-in_ok-apply-in-Room-clause-stands
returns-in_ok-apply-in-Room-clause-stands g c writes later h =
    put-stands c.args.schema.now c.args.w.now c.args.self.now c.apply.new.self c.make_room.new.chains c.apply.new.chains c.in_ok-apply-in-Room.ensures.applied writes later
    (both-made c.evictions_spare_memtables_and_readers.ensures.memtable g.row.S c.args.self.now.chains c.make_room.new.chains c.known.ensures.rule c.make_room.ensures.made c.args.schema.now c.args.self.now refl writes later h)

-- what snapshots see
pub returns-in-NoRoom-clause-seen : goal.returns-in-NoRoom-clause-seen
returns-in-NoRoom-clause-seen g c =
    let spares = c.evictions_spare_memtables_and_readers.ensures in
    made-seen spares.memtable g.row.S c.args.self.now.chains c.make_room.new.chains c.known.ensures.rule c.make_room.ensures.made spares.pinned c.evictions_leave_the_use_of_a_chain.ensures.pins

pub returns-in_ok-apply-in-Room-clause-seen : goal.returns-in_ok-apply-in-Room-clause-seen
returns-in_ok-apply-in-Room-clause-seen g c =
    let spares = c.evictions_spare_memtables_and_readers.ensures in
    put-seen c.args.schema.now c.args.w.now c.args.self.now c.apply.new.self c.make_room.new.chains c.apply.new.chains c.in_ok-apply-in-Room.ensures.applied
    (made-seen spares.memtable g.row.S c.args.self.now.chains c.make_room.new.chains c.known.ensures.rule c.make_room.ensures.made spares.pinned c.evictions_leave_the_use_of_a_chain.ensures.pins)

pub returns-in_err-apply-in-Room-clause-seen : goal.returns-in_err-apply-in-Room-clause-seen
returns-in_err-apply-in-Room-clause-seen g c =
    let spares = c.evictions_spare_memtables_and_readers.ensures in
    slots-seen c.args.self.now.chains c.make_room.new.chains c.apply.new.chains
    (made-seen spares.memtable g.row.S c.args.self.now.chains c.make_room.new.chains c.known.ensures.rule c.make_room.ensures.made spares.pinned c.evictions_leave_the_use_of_a_chain.ensures.pins)
    c.in_err-apply-in-Room.ensures.err

-- what was enough before room was made is enough then, and so much is spare
pub apply-requires : goal.apply-requires
apply-requires g c =
    let r = c.requires.kept in
    let spares = c.evictions_spare_memtables_and_readers.ensures in
    let made = both-made spares.memtable g.row.S c.args.self.now.chains c.make_room.new.chains c.known.ensures.rule c.make_room.ensures.made c.args.schema.now c.args.self.now refl r.0 r.1 r.2 in
    let beside = made-beside spares.memtable g.row.S c.args.self.now.chains c.make_room.new.chains c.known.ensures.rule c.make_room.ensures.made c.args.schema.now c.args.self.now.active r.1 r.2.active c.args.w.now.key in
    let room = room-more c.args.schema.now c.args.self.now.active c.args.w.now c.args.self.now.chains c.make_room.new.chains c.need-need.result _ beside (c.make_room.ensures.room c.in-Room.is) c.need-need.ensures.room in
    (omega arith, (c.requires.small, (c.requires.single, (c.requires.fits, ((r.1, made.active), room)))))

-- what is left, whatever came of it
pub returns-in_ok-apply-in-Room-clause-applied : goal.returns-in_ok-apply-in-Room-clause-applied
returns-in_ok-apply-in-Room-clause-applied g c e =
    put-left c.args.schema.now c.args.w.now c.args.self.now c.apply.new.self c.make_room.new.chains c.apply.new.chains c.make_room.ensures.made c.known-in-Room.ensures.live c.in_ok-apply-in-Room.ensures.applied

pub returns-in-NoRoom-clause-left : goal.returns-in-NoRoom-clause-left
returns-in-NoRoom-clause-left g c e = full-left c.args.self.now c.make_room.new.chains c.make_room.ensures.made

pub returns-in_err-apply-in-Room-clause-refused : goal.returns-in_err-apply-in-Room-clause-refused
returns-in_err-apply-in-Room-clause-refused g c =
    let e = c.in_err-apply-in-Room.ensures in
    on-err c.from_residual.result _ (refused-left c.args.self.now c.apply.new.self c.make_room.new.chains c.apply.new.chains c.make_room.ensures.made e.err e.same)

-- no room: fewer bytes are spare than are needed, and no closed segment is sparse
pub a_tight_region_is_nearly_full-requires : goal.a_tight_region_is_nearly_full-requires
a_tight_region_is_nearly_full-requires g c =
    let none = c.make_room.ensures.none c.in-NoRoom.is in
    (omega arith, (subst (λ (v : View). Tight g.row.S v.usages) (sym c.region.ensures) none.1, (c.need-need.ensures.few, subst (λ (v : View). spare_of g.row.S v.usages < c.need-need.result) (sym c.region.ensures) none.2)))

pub returns-in-NoRoom-clause-crowded : goal.returns-in-NoRoom-clause-crowded
returns-in-NoRoom-clause-crowded g c e = subst (λ (v : View). 3 * g.row.S / 4 * (length v.usages - 2) < live_bytes v) c.region.ensures c.a_tight_region_is_nearly_full.ensures.live

-- where as much is spare as is ever needed nothing goes
pub returns-in-NoRoom-clause-spared : goal.returns-in-NoRoom-clause-spared
returns-in-NoRoom-clause-spared g c = λ enough.
    let few = c.need-need.ensures.few in
    ap (λ (m : Memory). m.counts) (c.make_room.ensures.idle (omega (arith, few, enough)))

pub returns-in_ok-apply-in-Room-clause-spared : goal.returns-in_ok-apply-in-Room-clause-spared
returns-in_ok-apply-in-Room-clause-spared g c = λ enough.
    let few = c.need-need.ensures.few in
    c.in_ok-apply-in-Room.ensures.applied.others.counts ∙ ap (λ (m : Memory). m.counts) (c.make_room.ensures.idle (omega (arith, few, enough)))
