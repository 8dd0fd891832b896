-- The calls leave chains and streams; what is left of the lines is what is left of the reader's.
use Rattle.std.proofs.Common.{inl, sym, ap, ◌∙◌}
use Rattle.rc_stream.specs.Did.{OfNext, has_answer}
use Rattle.rc_stream.specs.laws.Ordered.{passes-itself}
use Rattle.rc_reader.specs.Left.{left_after}
use Rattle.rc_opened.specs.Opened.{no_files, snaps_in}
use Rattle.rc_opened.proofs.Called.{Three, called, gives-at, same_snaps, same_streams, still-see}
use Rattle.rc_opened.proofs.opened.Opened.read.Goals as goal

pub returns-in-Ok-clause-chains : goal.returns-in-Ok-clause-chains
returns-in-Ok-clause-chains g c =
    let y = c.args.self.now.reader.work.to in
    (called (OfNext y) (has_answer c.read.result) _ _ (c.read.ensures.did y (inl (passes-itself y)))).1

pub returns-in-Ok-clause-snaps : goal.returns-in-Ok-clause-snaps
returns-in-Ok-clause-snaps g c =
    let y = c.args.self.now.reader.work.to in
    let s : Three = (c.args.self.now.reader.stream, c.args.chains.now, no_files) in
    let t : Three = (c.read.new.self.stream, c.read.new.home, c.read.new.store) in
    same_snaps s t (called (OfNext y) (has_answer c.read.result) s t (c.read.ensures.did y (inl (passes-itself y)))) c.requires.1.streams

pub returns-in-Ok-clause-left : goal.returns-in-Ok-clause-left
returns-in-Ok-clause-left g c = λ lines given.
    let y = c.args.self.now.reader.work.to in
    let s : Three = (c.args.self.now.reader.stream, c.args.chains.now, no_files) in
    let t : Three = (c.read.new.self.stream, c.read.new.home, c.read.new.store) in
    let r = c.read.ensures.left lines given.left in
    let kept = called (OfNext y) (has_answer c.read.result) s t (c.read.ensures.did y (inl (passes-itself y))) in
    gives-at _ _ _ _ _ c.read.new.store kept.2 c.read.ensures.may
    (record { stream = r.stream; stands = r.stands; are = ap (λ result. left_after result c.args.count lines) (sym c.in-Ok.is) ∙ r.are })
    (same_streams s t kept given.streams)
    (still-see c.args.chains.now c.read.new.home (snaps_in s.0) (snaps_in t.0) kept.1 (same_snaps s t kept given.streams) given.see)

pub returns-in-Err-NoMemory-clause-chains : goal.returns-in-Err-NoMemory-clause-chains
returns-in-Err-NoMemory-clause-chains g c =
    let y = c.args.self.now.reader.work.to in
    (called (OfNext y) (has_answer c.read.result) _ _ (c.read.ensures.did y (inl (passes-itself y)))).1

pub returns-in-Err-NoMemory-clause-snaps : goal.returns-in-Err-NoMemory-clause-snaps
returns-in-Err-NoMemory-clause-snaps g c =
    let y = c.args.self.now.reader.work.to in
    let s : Three = (c.args.self.now.reader.stream, c.args.chains.now, no_files) in
    let t : Three = (c.read.new.self.stream, c.read.new.home, c.read.new.store) in
    same_snaps s t (called (OfNext y) (has_answer c.read.result) s t (c.read.ensures.did y (inl (passes-itself y)))) c.requires.1.streams

pub returns-in-Err-NoMemory-clause-left : goal.returns-in-Err-NoMemory-clause-left
returns-in-Err-NoMemory-clause-left g c = λ lines given.
    let y = c.args.self.now.reader.work.to in
    let s : Three = (c.args.self.now.reader.stream, c.args.chains.now, no_files) in
    let t : Three = (c.read.new.self.stream, c.read.new.home, c.read.new.store) in
    let r = c.read.ensures.left lines given.left in
    let kept = called (OfNext y) (has_answer c.read.result) s t (c.read.ensures.did y (inl (passes-itself y))) in
    gives-at _ _ _ _ _ c.read.new.store kept.2 c.read.ensures.may
    (record { stream = r.stream; stands = r.stands; are = ap (λ result. left_after result c.args.count lines) (sym c.in-Err-NoMemory.is) ∙ r.are })
    (same_streams s t kept given.streams)
    (still-see c.args.chains.now c.read.new.home (snaps_in s.0) (snaps_in t.0) kept.1 (same_snaps s t kept given.streams) given.see)
