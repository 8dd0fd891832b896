use Rattle.std.proofs.Common.{sym, subst}
use Rattle.rc_position.specs.declared.positions.Pos.{Pos}
use Rattle.rc_memory.specs.Memory.{chain_at}
use Rattle.rc_memtable.specs.calls.Reading.{IsReadUpTo}
use Rattle.rc_memtable.proofs.Ending.{ends-ahead, part-less}
use Rattle.rc_memtable.proofs.Ways.{before-bound, further-of, less-left, over-bound, part-of, read-start}
use Rattle.rc_memtable.proofs.Seen.{seen-in, seen-is}
use Rattle.rc_memtable.proofs.Taking.{read-all, read-more}
use Rattle.rc_memtable.proofs.reading.read_positions.Goals as goal

pub loop-alloc-init : goal.loop-alloc-init
loop-alloc-init g c schema versions changes seen say = read-start versions c.empty-2.result c.args.rows.now c.args.ranges.now c.empty-2.ensures c.requires.rows c.requires.ranges

pub take_part-requires : goal.take_part-requires
take_part-requires g c =
    let r = c.requires.seen in
    ends-ahead r.0 r.1 r.2 r.4 c.loop-alloc.place (before-bound c.loop-alloc.place c.empty.result c.empty.ensures c.loop-alloc-test.ensures) c.in_ok-part.part
    (part-of c.args.chains.now c.args.s.now.chain c.args.s.now.pin r.1 r.3 c.loop-alloc.place c.empty.result c.empty.ensures c.in_ok-part.part c.in_ok-part.ensures)

pub loop-alloc-smaller : goal.loop-alloc-smaller
loop-alloc-smaller g c =
    let r = c.requires.seen in
    less-left r.1 (seen-in (chain_at c.args.chains.now c.args.s.now.chain) c.args.s.now.pin) (seen-is c.args.chains.now c.args.s.now.chain c.args.s.now.pin r.1 r.3) c.loop-alloc.place c.in_ok-place.place c.in_ok-part.part c.in_ok-place.ensures.place
    (part-less r.0 r.1 r.2 r.4 c.loop-alloc.place (before-bound c.loop-alloc.place c.empty.result c.empty.ensures c.loop-alloc-test.ensures) c.in_ok-part.part
    (part-of c.args.chains.now c.args.s.now.chain c.args.s.now.pin r.1 r.3 c.loop-alloc.place c.empty.result c.empty.ensures c.in_ok-part.part c.in_ok-part.ensures))

pub loop-alloc-preserved : goal.loop-alloc-preserved
loop-alloc-preserved g c schema versions changes seen say =
    let inside = before-bound c.loop-alloc.place c.empty.result c.empty.ensures c.loop-alloc-test.ensures in
    let first = part-of c.args.chains.now c.args.s.now.chain c.args.s.now.pin versions seen c.loop-alloc.place c.empty.result c.empty.ensures c.in_ok-part.part c.in_ok-part.ensures in
    subst (λ (z : Pos). IsReadUpTo versions z c.take_part.new.rows c.take_part.new.ranges) (sym c.in_ok-place.ensures.place)
    (read-more c.a_gap_is_seen_alike.ensures schema versions changes say c.loop-alloc.place inside c.in_ok-part.part first (further-of c.in_ok-part.part c.loop-alloc.place (ends-ahead schema versions changes say c.loop-alloc.place inside c.in_ok-part.part first))
    c.loop-alloc.rows c.loop-alloc.ranges c.take_part.new.rows c.take_part.new.ranges (c.loop-alloc.invariant schema versions changes seen say) c.in_ok-place.ensures.taken)

pub returns : goal.returns
returns g c schema versions changes seen say =
    read-all schema versions changes say c.loop-alloc.place c.loop-alloc.rows c.loop-alloc.ranges (over-bound c.loop-alloc.place c.empty.result c.empty.ensures c.loop-alloc-test.ensures) (c.loop-alloc.invariant schema versions changes seen say)
