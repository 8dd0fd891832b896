-- The lines that are left behind those that were passed; and what both calls keep.
use Rattle.std.proofs.Common.{arith, inl, sym, ap, subst, ◌∙◌, ◌+◌, ◌-◌, drop}
use Rattle.std.specs.Prelude.{OnOk}
use Rattle.rc_stream.specs.Did.{has_answer}
use Rattle.rc_stream.specs.laws.Ordered.{passes-itself}
use Rattle.rc_reader.specs.Left.{left_after}
use Rattle.rc_paging.specs.calls.Keeping.{AreAhead, ArePassedWhole, IsQuiet, KeptLayers, Three}
use Rattle.rc_paging.proofs.Called.{CallLaws, called, kept_then}
use Rattle.rc_paging.proofs.Passing.{reads_passed}
use Rattle.rc_paging.proofs.Quiet.{fewer, quiet_then, reads_quiet}
use Rattle.rc_paging.proofs.paging.behind_passed.Goals as goal

pub returns-in-Ok-clause-gives : goal.returns-in-Ok-clause-gives
returns-in-Ok-clause-gives g c = λ lines left.
    let r = c.read.ensures.left lines left in
    c.with_behind-gave.ensures.gives (drop c.args.passed lines) (record { stream = r.stream; stands = r.stands; are = ap (λ result. left_after result c.args.passed lines) (sym c.in-Ok.is) ∙ r.are })

pub returns-in-Ok-clause-more : goal.returns-in-Ok-clause-more
returns-in-Ok-clause-more g c = λ lines left.
    let r = c.read.ensures.left lines left in
    c.with_behind-gave.ensures.more (drop c.args.passed lines) (record { stream = r.stream; stands = r.stands; are = ap (λ result. left_after result c.args.passed lines) (sym c.in-Ok.is) ∙ r.are })

pub returns-in-Ok-clause-behind : goal.returns-in-Ok-clause-behind
returns-in-Ok-clause-behind g c = λ lines left.
    let r = c.read.ensures.left lines left in
    c.with_behind-gave.ensures.behind (drop c.args.passed lines) (record { stream = r.stream; stands = r.stands; are = ap (λ result. left_after result c.args.passed lines) (sym c.in-Ok.is) ∙ r.are })

pub returns-in-Ok-clause-ready : goal.returns-in-Ok-clause-ready
returns-in-Ok-clause-ready g c = c.the_same_is_ready.ensures c.with_behind-gave.new.reader.stream c.into_stream.result c.with_behind-gave.new.chains c.with_behind-gave.new.readings c.into_stream.ensures c.with_behind-gave.ensures.may

pub returns-in-Err-clause-ready : goal.returns-in-Err-clause-ready
returns-in-Err-clause-ready g c = c.the_same_is_ready.ensures c.read.new.self.stream c.into_stream-in-Err.result c.read.new.home c.read.new.store c.into_stream-in-Err.ensures c.read.ensures.may

pub returns-in-Ok-clause-kept : goal.returns-in-Ok-clause-kept
returns-in-Ok-clause-kept g c =
    let laws : CallLaws g.row.S = record { leaves = c.a_cached_stream_leaves_what_others_see.ensures.did; handed = c.a_cached_stream_misses_only_what_is_not_known.ensures.handed; unread = c.a_cached_stream_misses_only_what_is_not_known.ensures.unread; known = c.a_cached_stream_misses_only_what_is_not_known.ensures.known } in
    let x = c.args.reader.work.to in
    let s : Three = (c.args.reader.stream, c.args.chains.now, c.args.readings.now) in
    let t : Three = (c.read.new.self.stream, c.read.new.home, c.read.new.store) in
    let u : Three = (c.with_behind-gave.new.reader.stream, c.with_behind-gave.new.chains, c.with_behind-gave.new.readings) in
    let one = called g.row.S laws x (has_answer c.read.result) s t (c.read.ensures.did x (inl (passes-itself x))) in
    subst (λ z. KeptLayers g.row.S s (z, c.with_behind-gave.new.chains, c.with_behind-gave.new.readings)) (sym c.into_stream.ensures) (kept_then g.row.S s t u one c.with_behind-gave.ensures.kept)

pub returns-in-Err-clause-kept : goal.returns-in-Err-clause-kept
returns-in-Err-clause-kept g c =
    let laws : CallLaws g.row.S = record { leaves = c.a_cached_stream_leaves_what_others_see.ensures.did; handed = c.a_cached_stream_misses_only_what_is_not_known.ensures.handed; unread = c.a_cached_stream_misses_only_what_is_not_known.ensures.unread; known = c.a_cached_stream_misses_only_what_is_not_known.ensures.known } in
    let x = c.args.reader.work.to in
    let s : Three = (c.args.reader.stream, c.args.chains.now, c.args.readings.now) in
    let t : Three = (c.read.new.self.stream, c.read.new.home, c.read.new.store) in
    let one = called g.row.S laws x (has_answer c.read.result) s t (c.read.ensures.did x (inl (passes-itself x))) in
    subst (λ z. KeptLayers g.row.S s (z, c.read.new.home, c.read.new.store)) (sym c.into_stream-in-Err.ensures) one

pub returns-in-Ok-clause-quiet : goal.returns-in-Ok-clause-quiet
returns-in-Ok-clause-quiet g c = λ x y snap far ahead.
    let laws : CallLaws g.row.S = record { leaves = c.a_cached_stream_leaves_what_others_see.ensures.did; handed = c.a_cached_stream_misses_only_what_is_not_known.ensures.handed; unread = c.a_cached_stream_misses_only_what_is_not_known.ensures.unread; known = c.a_cached_stream_misses_only_what_is_not_known.ensures.known } in
    let s : Three = (c.args.reader.stream, c.args.chains.now, c.args.readings.now) in
    let t : Three = (c.read.new.self.stream, c.read.new.home, c.read.new.store) in
    let u : Three = (c.with_behind-gave.new.reader.stream, c.with_behind-gave.new.chains, c.with_behind-gave.new.readings) in
    let first = fewer _ c.args.reader.work (c.args.passed + c.args.count) c.args.passed y (omega arith) far in
    let one = reads_quiet g.row.S laws x y snap (has_answer c.read.result) s t (c.read.ensures.did y first) ahead in
    let there = fewer _ c.read.new.self.work (c.args.passed + c.args.count - c.args.passed) c.args.count y (omega arith) (c.in-Ok.ensures.goes (c.args.passed + c.args.count) y (omega arith) far) in
    let two = c.with_behind-gave.ensures.quiet x y snap there (one.1 (ap has_answer c.in-Ok.is)) in
    subst (λ z. IsQuiet s (z, c.with_behind-gave.new.chains, c.with_behind-gave.new.readings) × OnOk c.with_behind-gave.result (AreAhead x y snap (z, c.with_behind-gave.new.chains, c.with_behind-gave.new.readings))) (sym c.into_stream.ensures) (quiet_then s t u one.0 two.0, two.1)

pub returns-in-Err-clause-quiet : goal.returns-in-Err-clause-quiet
returns-in-Err-clause-quiet g c = λ x y snap far ahead.
    let laws : CallLaws g.row.S = record { leaves = c.a_cached_stream_leaves_what_others_see.ensures.did; handed = c.a_cached_stream_misses_only_what_is_not_known.ensures.handed; unread = c.a_cached_stream_misses_only_what_is_not_known.ensures.unread; known = c.a_cached_stream_misses_only_what_is_not_known.ensures.known } in
    let s : Three = (c.args.reader.stream, c.args.chains.now, c.args.readings.now) in
    let t : Three = (c.read.new.self.stream, c.read.new.home, c.read.new.store) in
    let first = fewer _ c.args.reader.work (c.args.passed + c.args.count) c.args.passed y (omega arith) far in
    let one = reads_quiet g.row.S laws x y snap (has_answer c.read.result) s t (c.read.ensures.did y first) ahead in
    (subst (λ z. IsQuiet s (z, c.read.new.home, c.read.new.store)) (sym c.into_stream-in-Err.ensures) one.0, tt)

pub returns-in-Ok-clause-passed : goal.returns-in-Ok-clause-passed
returns-in-Ok-clause-passed g c = λ x passed.
    let laws : CallLaws g.row.S = record { leaves = c.a_cached_stream_leaves_what_others_see.ensures.did; handed = c.a_cached_stream_misses_only_what_is_not_known.ensures.handed; unread = c.a_cached_stream_misses_only_what_is_not_known.ensures.unread; known = c.a_cached_stream_misses_only_what_is_not_known.ensures.known } in
    let y = c.args.reader.work.to in
    let s : Three = (c.args.reader.stream, c.args.chains.now, c.args.readings.now) in
    let t : Three = (c.read.new.self.stream, c.read.new.home, c.read.new.store) in
    let one = reads_passed g.row.S laws x y (has_answer c.read.result) s t (c.read.ensures.did y (inl (passes-itself y))) passed (ap has_answer c.in-Ok.is) in
    subst (λ z. OnOk c.with_behind-gave.result (ArePassedWhole x (z, c.with_behind-gave.new.chains, c.with_behind-gave.new.readings))) (sym c.into_stream.ensures) (c.with_behind-gave.ensures.passed x one)
