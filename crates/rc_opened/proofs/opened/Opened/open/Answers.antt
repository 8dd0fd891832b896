-- The lines of the stream that is opened are the answer; what is given back are the snapshots.
use Rattle.std.proofs.Common.{true, false, sym, ◌∙◌}
use Rattle.rc_opened.specs.Opened.{no_files, snaps_in}
use Rattle.rc_opened.proofs.Called.{Three, gives-at, opened, own_snaps, own_streams, same_snaps, same_streams, still-see}
use Rattle.rc_opened.proofs.opened.Opened.open.Goals as goal

pub open-requires-clause-ready : goal.open-requires-clause-ready
open-requires-clause-ready g c =
    let whole = c.requires.whole in
    let sees = c.requires.sees in
    c.new_sources_say_what_was_written.ensures.ready whole.0 sees.0 sees.1 c.args.snaps c.args.chains.now c.sources-stream.result sees.2 sees.3 (c.sources-stream.ensures whole.0 whole.2)

pub returns-in-Ok-open-clause-gives : goal.returns-in-Ok-open-clause-gives
returns-in-Ok-open-clause-gives g c = λ schema tabled said writes later m is j fits more sealed active.
    let made = c.sources-stream.ensures tabled is in
    let are = c.new_sources_say_what_was_written.ensures.streams tabled c.args.snaps c.sources-stream.result made in
    let seen = c.new_sources_say_what_was_written.ensures.seen schema tabled said writes later c.args.snaps c.args.chains.now c.sources-stream.result m j fits more sealed active made in
    let left = c.in-Ok-open.ensures.left seen.0 seen.1 in
    let s : Three = (c.sources-stream.result, c.args.chains.now, no_files) in
    let t : Three = (c.in-Ok-open.reader.stream, c.open.new.home, c.open.new.store) in
    let kept = opened c.args.slice.now.from true s t c.in-Ok-open.ensures.did in
    gives-at _ _ _ _ _ c.open.new.store kept.2 c.in-Ok-open.ensures.may
    (record { stream = left.stream; stands = left.stands; are = sym (seen.2 c.args.slice.now) ∙ left.are })
    (same_streams s t kept (own_streams c.args.snaps c.sources-stream.result are))
    (still-see c.args.chains.now c.open.new.home c.args.snaps (snaps_in c.in-Ok-open.reader.stream) kept.1 (same_snaps s t kept (own_streams c.args.snaps c.sources-stream.result are) ∙ own_snaps c.args.snaps c.sources-stream.result are)
    (record { writes = writes; later = later; sealed = sealed; active = active }))

pub returns-in-Ok-open-clause-snaps : goal.returns-in-Ok-open-clause-snaps
returns-in-Ok-open-clause-snaps g c =
    let whole = c.requires.whole in
    let made = c.sources-stream.ensures whole.0 whole.2 in
    let are = c.new_sources_say_what_was_written.ensures.streams whole.0 c.args.snaps c.sources-stream.result made in
    let s : Three = (c.sources-stream.result, c.args.chains.now, no_files) in
    let t : Three = (c.in-Ok-open.reader.stream, c.open.new.home, c.open.new.store) in
    let kept = opened c.args.slice.now.from true s t c.in-Ok-open.ensures.did in
    same_snaps s t kept (own_streams c.args.snaps c.sources-stream.result are) ∙ own_snaps c.args.snaps c.sources-stream.result are

pub returns-in-Err-clause-back : goal.returns-in-Err-clause-back
returns-in-Err-clause-back g c =
    let whole = c.requires.whole in
    let made = c.sources-stream.ensures whole.0 whole.2 in
    let are = c.new_sources_say_what_was_written.ensures.streams whole.0 c.args.snaps c.sources-stream.result made in
    let s : Three = (c.sources-stream.result, c.args.chains.now, no_files) in
    let t : Three = (c.in-Err.stream, c.open.new.home, c.open.new.store) in
    let kept = opened c.args.slice.now.from false s t c.in-Err.ensures.did in
    c.given_back.ensures ∙ same_snaps s t kept (own_streams c.args.snaps c.sources-stream.result are) ∙ own_snaps c.args.snaps c.sources-stream.result are
