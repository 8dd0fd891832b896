-- What one call keeps.
use Rattle.std.proofs.Common.{inl, ap}
use Rattle.rc_stream.specs.Did.{Call.OfNext, has_answer}
use Rattle.rc_stream.specs.laws.Ordered.{passes-itself}
use Rattle.rc_paging.proofs.Called.{CallLaws, keeps_cache}
use Rattle.rc_paging.proofs.Passing.{passes_one}
use Rattle.rc_paging.proofs.Quiet.{quiet_one}
use Rattle.rc_paging.proofs.filling.pass_one.Goals as goal

pub returns-in-Ok-clause-kept : goal.returns-in-Ok-clause-kept
returns-in-Ok-clause-kept g c =
    let laws : CallLaws g.row.S = record { leaves = c.a_cached_stream_leaves_what_others_see.ensures.did; handed = c.a_cached_stream_misses_only_what_is_not_known.ensures.handed; unread = c.a_cached_stream_misses_only_what_is_not_known.ensures.unread; known = c.a_cached_stream_misses_only_what_is_not_known.ensures.known } in
    let y = c.args.upto.now in
    keeps_cache g.row.S laws c.args.cached.now.stream c.next.new.self.stream c.args.chains.now c.args.readings.now (OfNext y) (has_answer c.next.result) c.next.new.home c.next.new.store (c.next.ensures.did y (inl (passes-itself y)))

pub returns-in-Ok-clause-still : goal.returns-in-Ok-clause-still
returns-in-Ok-clause-still g c = λ x snap ahead.
    let laws : CallLaws g.row.S = record { leaves = c.a_cached_stream_leaves_what_others_see.ensures.did; handed = c.a_cached_stream_misses_only_what_is_not_known.ensures.handed; unread = c.a_cached_stream_misses_only_what_is_not_known.ensures.unread; known = c.a_cached_stream_misses_only_what_is_not_known.ensures.known } in
    let y = c.args.upto.now in
    (quiet_one g.row.S laws x y snap c.args.cached.now.stream c.next.new.self.stream c.args.chains.now c.args.readings.now (has_answer c.next.result) c.next.new.home c.next.new.store (c.next.ensures.did y (inl (passes-itself y))) ahead).0

pub returns-in-Err-clause-kept : goal.returns-in-Err-clause-kept
returns-in-Err-clause-kept g c =
    let laws : CallLaws g.row.S = record { leaves = c.a_cached_stream_leaves_what_others_see.ensures.did; handed = c.a_cached_stream_misses_only_what_is_not_known.ensures.handed; unread = c.a_cached_stream_misses_only_what_is_not_known.ensures.unread; known = c.a_cached_stream_misses_only_what_is_not_known.ensures.known } in
    let y = c.args.upto.now in
    keeps_cache g.row.S laws c.args.cached.now.stream c.next.new.self.stream c.args.chains.now c.args.readings.now (OfNext y) (has_answer c.next.result) c.next.new.home c.next.new.store (c.next.ensures.did y (inl (passes-itself y)))

pub returns-in-Err-clause-still : goal.returns-in-Err-clause-still
returns-in-Err-clause-still g c = λ x snap ahead.
    let laws : CallLaws g.row.S = record { leaves = c.a_cached_stream_leaves_what_others_see.ensures.did; handed = c.a_cached_stream_misses_only_what_is_not_known.ensures.handed; unread = c.a_cached_stream_misses_only_what_is_not_known.ensures.unread; known = c.a_cached_stream_misses_only_what_is_not_known.ensures.known } in
    let y = c.args.upto.now in
    (quiet_one g.row.S laws x y snap c.args.cached.now.stream c.next.new.self.stream c.args.chains.now c.args.readings.now (has_answer c.next.result) c.next.new.home c.next.new.store (c.next.ensures.did y (inl (passes-itself y))) ahead).0

pub returns-in-Ok-clause-ahead : goal.returns-in-Ok-clause-ahead
returns-in-Ok-clause-ahead g c = λ x snap ahead.
    let laws : CallLaws g.row.S = record { leaves = c.a_cached_stream_leaves_what_others_see.ensures.did; handed = c.a_cached_stream_misses_only_what_is_not_known.ensures.handed; unread = c.a_cached_stream_misses_only_what_is_not_known.ensures.unread; known = c.a_cached_stream_misses_only_what_is_not_known.ensures.known } in
    let y = c.args.upto.now in
    (quiet_one g.row.S laws x y snap c.args.cached.now.stream c.next.new.self.stream c.args.chains.now c.args.readings.now (has_answer c.next.result) c.next.new.home c.next.new.store (c.next.ensures.did y (inl (passes-itself y))) ahead).1 (ap has_answer c.in-Ok.is)

pub returns-in-Ok-clause-passed : goal.returns-in-Ok-clause-passed
returns-in-Ok-clause-passed g c = λ x passed.
    let laws : CallLaws g.row.S = record { leaves = c.a_cached_stream_leaves_what_others_see.ensures.did; handed = c.a_cached_stream_misses_only_what_is_not_known.ensures.handed; unread = c.a_cached_stream_misses_only_what_is_not_known.ensures.unread; known = c.a_cached_stream_misses_only_what_is_not_known.ensures.known } in
    let y = c.args.upto.now in
    passes_one g.row.S laws x y c.args.cached.now.stream c.next.new.self.stream c.args.chains.now c.args.readings.now (has_answer c.next.result) c.next.new.home c.next.new.store (c.next.ensures.did y (inl (passes-itself y))) passed (ap has_answer c.in-Ok.is)
