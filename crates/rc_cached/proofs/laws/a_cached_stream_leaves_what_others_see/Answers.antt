use Rattle.rc_cacheread.specs.Did.{reader_state}
use Rattle.rc_cached.proofs.Calls.{FillLaws, left-all, stays-of}
use Rattle.rc_cached.proofs.laws.a_cached_stream_leaves_what_others_see.Goals as goal

pub returns-clause-moves : goal.returns-clause-moves
returns-clause-moves g c m w n v d =
    let e = c.a_fill_spares_memtables_and_readers.ensures in
    let laws : FillLaws g.row.S = record { sees = e.sees g.row.S; pins = e.pins g.row.S; pinned = e.pinned g.row.S; absent = e.absent g.row.S; budget = c.a_fill_takes_no_segment.ensures.budget g.row.S } in
    let u = left-all g.row.S laws d.c d.ok (d.s.0, d.s.1, d.s.2, m, w) (d.t.0, d.t.1, d.t.2, n, v) d.calls in
    (u.chains, u.begun)

pub returns-clause-did : goal.returns-clause-did
returns-clause-did g c r m w call ok t n v d =
    let e = c.a_fill_spares_memtables_and_readers.ensures in
    let laws : FillLaws g.row.S = record { sees = e.sees g.row.S; pins = e.pins g.row.S; pinned = e.pinned g.row.S; absent = e.absent g.row.S; budget = c.a_fill_takes_no_segment.ensures.budget g.row.S } in
    let u = left-all g.row.S laws call ok (reader_state r m w) (reader_state t n v) d.calls in
    (u.chains, u.begun, stays-of g.row.S r t m n w v u)
