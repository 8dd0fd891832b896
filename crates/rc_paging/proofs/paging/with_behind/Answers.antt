-- The line behind those that are given is the next one that is made; and what the read keeps.
use Rattle.std.proofs.Common.{ap, inl, ◌∙◌}
use Rattle.rc_stream.specs.Did.{has_answer}
use Rattle.rc_stream.specs.laws.Ordered.{passes-itself}
use Rattle.rc_paging.specs.calls.Keeping.{Three}
use Rattle.rc_paging.proofs.Called.{CallLaws, called}
use Rattle.rc_paging.proofs.Passing.{reads_passed}
use Rattle.rc_paging.proofs.Quiet.{reads_quiet}
use Rattle.rc_paging.proofs.paging.with_behind.Goals as goal

pub returns-in-Ok-next_made-clause-behind : goal.returns-in-Ok-next_made-clause-behind
returns-in-Ok-next_made-clause-behind g c = λ lines left. c.in-Ok-next_made.ensures ∙ c.in-Ok.ensures.made lines left

pub returns-in-Ok-next_made-clause-kept : goal.returns-in-Ok-next_made-clause-kept
returns-in-Ok-next_made-clause-kept g c =
    let laws : CallLaws g.row.S = record { leaves = c.a_cached_stream_leaves_what_others_see.ensures.did; handed = c.a_cached_stream_misses_only_what_is_not_known.ensures.handed; unread = c.a_cached_stream_misses_only_what_is_not_known.ensures.unread; known = c.a_cached_stream_misses_only_what_is_not_known.ensures.known } in
    let x = c.args.reader.now.work.to in
    let s : Three = (c.args.reader.now.stream, c.args.chains.now, c.args.readings.now) in
    let t : Three = (c.read.new.self.stream, c.read.new.home, c.read.new.store) in
    called g.row.S laws x (has_answer c.read.result) s t (c.read.ensures.did x (inl (passes-itself x)))

pub returns-in-Ok-next_made-clause-quiet : goal.returns-in-Ok-next_made-clause-quiet
returns-in-Ok-next_made-clause-quiet g c = λ x y snap far ahead.
    let laws : CallLaws g.row.S = record { leaves = c.a_cached_stream_leaves_what_others_see.ensures.did; handed = c.a_cached_stream_misses_only_what_is_not_known.ensures.handed; unread = c.a_cached_stream_misses_only_what_is_not_known.ensures.unread; known = c.a_cached_stream_misses_only_what_is_not_known.ensures.known } in
    let s : Three = (c.args.reader.now.stream, c.args.chains.now, c.args.readings.now) in
    let t : Three = (c.read.new.self.stream, c.read.new.home, c.read.new.store) in
    let e = reads_quiet g.row.S laws x y snap (has_answer c.read.result) s t (c.read.ensures.did y far) ahead in
    (e.0, e.1 (ap has_answer c.in-Ok.is))

pub returns-in-Ok-next_made-clause-passed : goal.returns-in-Ok-next_made-clause-passed
returns-in-Ok-next_made-clause-passed g c = λ x passed.
    let laws : CallLaws g.row.S = record { leaves = c.a_cached_stream_leaves_what_others_see.ensures.did; handed = c.a_cached_stream_misses_only_what_is_not_known.ensures.handed; unread = c.a_cached_stream_misses_only_what_is_not_known.ensures.unread; known = c.a_cached_stream_misses_only_what_is_not_known.ensures.known } in
    let y = c.args.reader.now.work.to in
    let s : Three = (c.args.reader.now.stream, c.args.chains.now, c.args.readings.now) in
    let t : Three = (c.read.new.self.stream, c.read.new.home, c.read.new.store) in
    reads_passed g.row.S laws x y (has_answer c.read.result) s t (c.read.ensures.did y (inl (passes-itself y))) passed (ap has_answer c.in-Ok.is)

pub returns-in-Err-next_made-clause-kept : goal.returns-in-Err-next_made-clause-kept
returns-in-Err-next_made-clause-kept g c =
    let laws : CallLaws g.row.S = record { leaves = c.a_cached_stream_leaves_what_others_see.ensures.did; handed = c.a_cached_stream_misses_only_what_is_not_known.ensures.handed; unread = c.a_cached_stream_misses_only_what_is_not_known.ensures.unread; known = c.a_cached_stream_misses_only_what_is_not_known.ensures.known } in
    let x = c.args.reader.now.work.to in
    let s : Three = (c.args.reader.now.stream, c.args.chains.now, c.args.readings.now) in
    let t : Three = (c.read.new.self.stream, c.read.new.home, c.read.new.store) in
    called g.row.S laws x (has_answer c.read.result) s t (c.read.ensures.did x (inl (passes-itself x)))

pub returns-in-Err-next_made-clause-quiet : goal.returns-in-Err-next_made-clause-quiet
returns-in-Err-next_made-clause-quiet g c = λ x y snap far ahead.
    let laws : CallLaws g.row.S = record { leaves = c.a_cached_stream_leaves_what_others_see.ensures.did; handed = c.a_cached_stream_misses_only_what_is_not_known.ensures.handed; unread = c.a_cached_stream_misses_only_what_is_not_known.ensures.unread; known = c.a_cached_stream_misses_only_what_is_not_known.ensures.known } in
    let s : Three = (c.args.reader.now.stream, c.args.chains.now, c.args.readings.now) in
    let t : Three = (c.read.new.self.stream, c.read.new.home, c.read.new.store) in
    ((reads_quiet g.row.S laws x y snap (has_answer c.read.result) s t (c.read.ensures.did y far) ahead).0, tt)

pub returns-in-Err-clause-kept : goal.returns-in-Err-clause-kept
returns-in-Err-clause-kept g c =
    let laws : CallLaws g.row.S = record { leaves = c.a_cached_stream_leaves_what_others_see.ensures.did; handed = c.a_cached_stream_misses_only_what_is_not_known.ensures.handed; unread = c.a_cached_stream_misses_only_what_is_not_known.ensures.unread; known = c.a_cached_stream_misses_only_what_is_not_known.ensures.known } in
    let x = c.args.reader.now.work.to in
    let s : Three = (c.args.reader.now.stream, c.args.chains.now, c.args.readings.now) in
    let t : Three = (c.read.new.self.stream, c.read.new.home, c.read.new.store) in
    called g.row.S laws x (has_answer c.read.result) s t (c.read.ensures.did x (inl (passes-itself x)))

pub returns-in-Err-clause-quiet : goal.returns-in-Err-clause-quiet
returns-in-Err-clause-quiet g c = λ x y snap far ahead.
    let laws : CallLaws g.row.S = record { leaves = c.a_cached_stream_leaves_what_others_see.ensures.did; handed = c.a_cached_stream_misses_only_what_is_not_known.ensures.handed; unread = c.a_cached_stream_misses_only_what_is_not_known.ensures.unread; known = c.a_cached_stream_misses_only_what_is_not_known.ensures.known } in
    let s : Three = (c.args.reader.now.stream, c.args.chains.now, c.args.readings.now) in
    let t : Three = (c.read.new.self.stream, c.read.new.home, c.read.new.store) in
    ((reads_quiet g.row.S laws x y snap (has_answer c.read.result) s t (c.read.ensures.did y far) ahead).0, tt)
