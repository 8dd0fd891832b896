-- What the reader gives that is opened over the slice; and what its calls keep.
use Rattle.std.proofs.Common.{true, false, refl, ◌+◌}
use Rattle.rc_reader.specs.Left.{slice_lines}
use Rattle.rc_paging.specs.calls.Keeping.{Three}
use Rattle.rc_paging.proofs.Called.{CallLaws, kept_then, opened}
use Rattle.rc_paging.proofs.Passing.{opens_passed}
use Rattle.rc_paging.proofs.Quiet.{opens_quiet, quiet_then}
use Rattle.rc_paging.proofs.paging.page.Goals as goal

pub returns-in-Ok-clause-gives : goal.returns-in-Ok-clause-gives
returns-in-Ok-clause-gives g c = λ s seen. c.behind_passed.ensures.gives (slice_lines c.args.slice.now s) (c.in-Ok.ensures.left s seen)

pub returns-in-Ok-clause-more : goal.returns-in-Ok-clause-more
returns-in-Ok-clause-more g c = λ s seen. c.behind_passed.ensures.more (slice_lines c.args.slice.now s) (c.in-Ok.ensures.left s seen)

pub returns-in-Ok-clause-behind : goal.returns-in-Ok-clause-behind
returns-in-Ok-clause-behind g c = λ s seen. c.behind_passed.ensures.behind (slice_lines c.args.slice.now s) (c.in-Ok.ensures.left s seen)

pub returns-in-Ok-clause-kept : goal.returns-in-Ok-clause-kept
returns-in-Ok-clause-kept g c =
    let laws : CallLaws g.row.S = record { leaves = c.a_cached_stream_leaves_what_others_see.ensures.did; handed = c.a_cached_stream_misses_only_what_is_not_known.ensures.handed; unread = c.a_cached_stream_misses_only_what_is_not_known.ensures.unread; known = c.a_cached_stream_misses_only_what_is_not_known.ensures.known } in
    let s : Three = (c.args.layers, c.args.chains.now, c.args.readings.now) in
    let t : Three = (c.in-Ok.reader.stream, c.open.new.home, c.open.new.store) in
    let u : Three = (c.behind_passed.result.0, c.behind_passed.new.chains, c.behind_passed.new.readings) in
    kept_then g.row.S s t u (opened g.row.S laws c.args.slice.now.from true s t c.in-Ok.ensures.did) c.behind_passed.ensures.kept

pub returns-in-Err-clause-kept : goal.returns-in-Err-clause-kept
returns-in-Err-clause-kept g c =
    let laws : CallLaws g.row.S = record { leaves = c.a_cached_stream_leaves_what_others_see.ensures.did; handed = c.a_cached_stream_misses_only_what_is_not_known.ensures.handed; unread = c.a_cached_stream_misses_only_what_is_not_known.ensures.unread; known = c.a_cached_stream_misses_only_what_is_not_known.ensures.known } in
    let s : Three = (c.args.layers, c.args.chains.now, c.args.readings.now) in
    let t : Three = (c.in-Err.layers, c.open.new.home, c.open.new.store) in
    opened g.row.S laws c.args.slice.now.from false s t c.in-Err.ensures.did

pub returns-in-Ok-clause-quiet : goal.returns-in-Ok-clause-quiet
returns-in-Ok-clause-quiet g c = λ y snap found ahead static.
    let laws : CallLaws g.row.S = record { leaves = c.a_cached_stream_leaves_what_others_see.ensures.did; handed = c.a_cached_stream_misses_only_what_is_not_known.ensures.handed; unread = c.a_cached_stream_misses_only_what_is_not_known.ensures.unread; known = c.a_cached_stream_misses_only_what_is_not_known.ensures.known } in
    let s : Three = (c.args.layers, c.args.chains.now, c.args.readings.now) in
    let t : Three = (c.in-Ok.reader.stream, c.open.new.home, c.open.new.store) in
    let u : Three = (c.behind_passed.result.0, c.behind_passed.new.chains, c.behind_passed.new.readings) in
    let one = opens_quiet g.row.S laws c.args.slice.now.from y snap true s t c.in-Ok.ensures.did static ahead in
    let two = c.behind_passed.ensures.quiet c.args.slice.now.from y snap (c.in-Ok.ensures.goes (c.args.passed + c.args.count) y found) (one.1 refl) in
    (quiet_then s t u one.0 two.0, two.1)

pub returns-in-Err-clause-quiet : goal.returns-in-Err-clause-quiet
returns-in-Err-clause-quiet g c = λ y snap found ahead static.
    let laws : CallLaws g.row.S = record { leaves = c.a_cached_stream_leaves_what_others_see.ensures.did; handed = c.a_cached_stream_misses_only_what_is_not_known.ensures.handed; unread = c.a_cached_stream_misses_only_what_is_not_known.ensures.unread; known = c.a_cached_stream_misses_only_what_is_not_known.ensures.known } in
    let s : Three = (c.args.layers, c.args.chains.now, c.args.readings.now) in
    let t : Three = (c.in-Err.layers, c.open.new.home, c.open.new.store) in
    ((opens_quiet g.row.S laws c.args.slice.now.from y snap false s t c.in-Err.ensures.did static ahead).0, tt)

pub returns-in-Ok-clause-passed : goal.returns-in-Ok-clause-passed
returns-in-Ok-clause-passed g c = λ passed.
    let laws : CallLaws g.row.S = record { leaves = c.a_cached_stream_leaves_what_others_see.ensures.did; handed = c.a_cached_stream_misses_only_what_is_not_known.ensures.handed; unread = c.a_cached_stream_misses_only_what_is_not_known.ensures.unread; known = c.a_cached_stream_misses_only_what_is_not_known.ensures.known } in
    let s : Three = (c.args.layers, c.args.chains.now, c.args.readings.now) in
    let t : Three = (c.in-Ok.reader.stream, c.open.new.home, c.open.new.store) in
    let from = c.args.slice.now.from in
    c.behind_passed.ensures.passed from (opens_passed g.row.S laws from from true s t c.in-Ok.ensures.did passed refl)
