use Rattle.std.proofs.Common.{refl, sym, ap, ◌∙◌}
use Rattle.rc_memory.specs.Memory.{Memory}
use Rattle.rc_unstored.proofs.Evicting.{EvictLaws, evict-none, evict-seen, evict-some, evict-stands, evict-takes-no-more}
use Rattle.rc_unstored.proofs.Keeping.{same-keys}
use Rattle.rc_unstored.proofs.unstored.Unstored.evict_one.Goals as goal

pub returns-clause-one : goal.returns-clause-one
returns-clause-one g c e =
    let one = c.evictions_follow_one_another.ensures in
    let laws : EvictLaws = record { one = one.one; region = one.region } in
    evict-some laws c.args.self.now.chains c.evict_one.new.chains c.evict_one.result (sym c.is_some.ensures ∙ e) c.evict_one.ensures.some

pub returns-clause-none : goal.returns-clause-none
returns-clause-none g c e =
    let one = c.evictions_follow_one_another.ensures in
    let laws : EvictLaws = record { one = one.one; region = one.region } in
    let none = evict-none laws c.args.self.now.chains c.evict_one.new.chains c.evict_one.result (sym c.is_some.ensures ∙ e) c.evict_one.ensures.none in
    (none.0, ap (λ (m : Memory). record c.args.self.now { chains = m }) none.1)

pub returns-clause-keys : goal.returns-clause-keys
returns-clause-keys g c = same-keys c.args.self.now c.evict_one.new.chains

pub returns-clause-room : goal.returns-clause-room
returns-clause-room g c =
    let one = c.evictions_follow_one_another.ensures in
    let laws : EvictLaws = record { one = one.one; region = one.region } in
    evict-takes-no-more laws c.args.self.now.chains c.evict_one.new.chains c.evict_one.result c.evict_one.ensures.some c.evict_one.ensures.none c.evict_one.ensures.less c.evict_one.ensures.counted

pub returns-clause-stands : goal.returns-clause-stands
returns-clause-stands g c schema writes later h =
    let one = c.evictions_follow_one_another.ensures in
    let laws : EvictLaws = record { one = one.one; region = one.region } in
    evict-stands laws c.args.self.now.chains c.evict_one.new.chains c.evictions_spare_memtables_and_readers.ensures.memtable c.known.ensures.rule g.row.S schema c.args.self.now refl c.evict_one.result c.evict_one.ensures.some c.evict_one.ensures.none writes later h

pub returns-clause-seen : goal.returns-clause-seen
returns-clause-seen g c =
    let one = c.evictions_follow_one_another.ensures in
    let laws : EvictLaws = record { one = one.one; region = one.region } in
    let spares = c.evictions_spare_memtables_and_readers.ensures in
    evict-seen laws c.args.self.now.chains c.evict_one.new.chains spares.memtable c.known.ensures.rule spares.pinned c.evictions_leave_the_use_of_a_chain.ensures.pins c.evict_one.result c.evict_one.ensures.some c.evict_one.ensures.none
