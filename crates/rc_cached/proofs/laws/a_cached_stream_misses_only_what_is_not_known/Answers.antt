use Rattle.std.proofs.Common.{◌∙◌}
use Rattle.rc_cacheread.specs.Did.{reader_state}
use Rattle.rc_cached.proofs.Calls.{FillLaws, answered-all, home-all, left-all}
use Rattle.rc_cached.proofs.laws.a_cached_stream_misses_only_what_is_not_known.Goals as goal

pub returns-clause-known : goal.returns-clause-known
returns-clause-known g c r m w call ok t n v d k =
    let q = d.quiet k in
    (home-all ok (r.known, m) (t.known, n) q.0.0, q.0.3, q.0.1, q.1)

pub returns-clause-handed : goal.returns-clause-handed
returns-clause-handed g c r m w call ok t n v d h =
    let e = c.a_fill_spares_memtables_and_readers.ensures in
    let laws : FillLaws g.row.S = record { sees = e.sees g.row.S; pins = e.pins g.row.S; pinned = e.pinned g.row.S; absent = e.absent g.row.S; budget = c.a_fill_takes_no_segment.ensures.budget g.row.S } in
    let u = left-all g.row.S laws call ok (reader_state r m w) (reader_state t n v) d.calls in
    (u.missed h, u.kept ∙ h)

pub returns-clause-answered : goal.returns-clause-answered
returns-clause-answered g c r m w call t n v d = answered-all g.row.S call (reader_state r m w) (reader_state t n v) d.calls

pub returns-clause-unread : goal.returns-clause-unread
returns-clause-unread g c r m w call ok t n v d h =
    let e = c.a_fill_spares_memtables_and_readers.ensures in
    let laws : FillLaws g.row.S = record { sees = e.sees g.row.S; pins = e.pins g.row.S; pinned = e.pinned g.row.S; absent = e.absent g.row.S; budget = c.a_fill_takes_no_segment.ensures.budget g.row.S } in
    (left-all g.row.S laws call ok (reader_state r m w) (reader_state t n v) d.calls).unread h
