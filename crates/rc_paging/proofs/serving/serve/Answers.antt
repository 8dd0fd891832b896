-- The lines are those of the answer; the layers are those of the snapshots, also afterwards; and what the page passed is known.
use Rattle.std.proofs.Common.{arith, ◌≡◌, ◌++◌, false, sym, ap, subst, ◌∙◌, take, drop, length}
use Rattle.std.specs.Prelude.{nat_lt, IfErr, IfOk, IfSome, OnOk, is_some}
use Rattle.rc_memory.specs.Memory.{Memory}
use Rattle.rc_position.specs.declared.positions.Pos.{Pos}
use Rattle.rc_query.specs.Answer.{answer}
use Rattle.rc_cached.specs.declared.readings.Readings.{Readings}
use Rattle.rc_cached.specs.Streams.{SayBelow}
use Rattle.rc_paging.specs.calls.Layers.{cached_in}
use Rattle.rc_paging.specs.Pages.{IsStretchKnown, page_end}
use Rattle.rc_paging.specs.calls.Pages.{why}
use Rattle.rc_paging.specs.calls.Keeping.{AreAhead, ArePassedWhole, IsStreamPassedTo, Three}
use Rattle.rc_paging.specs.calls.Words.{IsReadIn}
use Rattle.rc_paging.proofs.Called.{kept_then}
use Rattle.rc_paging.proofs.Leaving.{leaves_then}
use Rattle.rc_paging.proofs.Served.{missing_of, next_alone, own_held, passed_of, stand_still}
use Rattle.rc_paging.proofs.serving.serve.Goals as goal

pub paged-layers-requires : goal.paged-layers-requires
paged-layers-requires g c = (let r = c.requires in (omega arith, (r.0, r.1, r.2, r.3, subst (SayBelow r.0) (sym c.readings-readings.ensures) r.4)))

-- ---- a page is given

pub returns-in-Ok-went-clause-gives : goal.returns-in-Ok-went-clause-gives
returns-in-Ok-went-clause-gives g c = λ schema below writes later tables fits more stand say.
    let said = subst (SayBelow below) (sym c.readings-readings.ensures) say in
    let e = c.paged-layers.ensures.gives schema below writes later tables fits more stand said in
    let f = subst (λ r. IfOk r (λ gave. gave.0 ≡ take c.args.count (drop c.given_before-before.result (answer (below ++ (writes ++ later)) c.args.remainder.now.slice)))) c.in-Ok.is e in
    f ∙ (λ i. take c.args.count (drop (c.given_before-before.ensures i) (answer (below ++ (writes ++ later)) c.args.remainder.now.slice)))

pub returns-in-Ok-went-clause-more : goal.returns-in-Ok-went-clause-more
returns-in-Ok-went-clause-more g c = λ schema below writes later tables fits more stand say.
    let said = subst (SayBelow below) (sym c.readings-readings.ensures) say in
    let e = c.paged-layers.ensures.more schema below writes later tables fits more stand said in
    let f = subst (λ r. IfOk r (λ gave. gave.1 ≡ nat_lt c.args.count (length (drop c.given_before-before.result (answer (below ++ (writes ++ later)) c.args.remainder.now.slice))))) c.in-Ok.is e in
    f ∙ (λ i. nat_lt c.args.count (length (drop (c.given_before-before.ensures i) (answer (below ++ (writes ++ later)) c.args.remainder.now.slice))))

pub returns-in-Ok-went-clause-behind : goal.returns-in-Ok-went-clause-behind
returns-in-Ok-went-clause-behind g c = λ schema below writes later tables fits more stand say.
    let said = subst (SayBelow below) (sym c.readings-readings.ensures) say in
    let e = c.paged-layers.ensures.behind schema below writes later tables fits more stand said in
    let f = subst (λ r. IfOk r (λ gave. gave.2 ≡ take 1 (drop c.args.count (drop c.given_before-before.result (answer (below ++ (writes ++ later)) c.args.remainder.now.slice))))) c.in-Ok.is e in
    f ∙ (λ i. take 1 (drop c.args.count (drop (c.given_before-before.ensures i) (answer (below ++ (writes ++ later)) c.args.remainder.now.slice))))

pub returns-in-Ok-went-clause-held : goal.returns-in-Ok-went-clause-held
returns-in-Ok-went-clause-held g c = (let k = c.paged-layers.ensures.kept in c.given_back.ensures ∙ own_held c.args.held c.passed-layers.result.0 (c.passed-layers.ensures.kept.layers c.args.held (k.2.layers c.args.held k.1.layers)))

pub returns-in-Ok-went-clause-stand : goal.returns-in-Ok-went-clause-stand
returns-in-Ok-went-clause-stand g c = λ below writes later stand say.
    let said = subst (SayBelow below) (sym c.readings-readings.ensures) say in
    let k = c.paged-layers.ensures.kept in
    let s : Three = (k.0, c.args.chains.now, c.readings-readings.result) in
    let t : Three = (c.paged-layers.result.0, c.paged-layers.new.chains, c.paged-layers.new.readings) in
    let u : Three = (c.passed-layers.result.0, c.passed-layers.new.chains, c.passed-layers.new.readings) in
    stand_still g.row.S c.args.held below writes later c.args.chains.now c.passed-layers.new.chains c.readings-readings.result c.passed-layers.new.readings k.0 c.passed-layers.result.0 c.a_snapshot_sees_what_it_saw.ensures.sees (kept_then g.row.S s t u k.2 c.passed-layers.ensures.kept) k.1.layers (k.1.reader below writes later stand said) stand

pub returns-in-Ok-went-clause-chains : goal.returns-in-Ok-went-clause-chains
returns-in-Ok-went-clause-chains g c = leaves_then c.args.chains.now c.paged-layers.new.chains c.passed-layers.new.chains c.paged-layers.ensures.kept.2.chains c.passed-layers.ensures.kept.chains

pub returns-in-Ok-went-clause-unread : goal.returns-in-Ok-went-clause-unread
returns-in-Ok-went-clause-unread g c = λ none.
    let start = c.paged-layers.ensures.kept.1.unread (ap (λ (w : Readings). w.list) c.readings-readings.ensures ∙ none) in
    let e = c.paged-layers.ensures.kept.2.unread start in
    (c.passed-layers.ensures.kept.unread e.0).1 ∙ e.1

pub returns-in-Ok-went-clause-passed : goal.returns-in-Ok-went-clause-passed
returns-in-Ok-went-clause-passed g c = λ schema below writes later tables fits more stand say none.
    let said = subst (SayBelow below) (sym c.readings-readings.ensures) say in
    let slice = c.args.remainder.now.slice in
    let unhanded : c.is_some-handed.result ≡ false = c.is_some-handed.ensures ∙ ap is_some none in
    let lines = drop c.args.count (drop c.given_before-before.result (answer (below ++ (writes ++ later)) c.args.remainder.now.slice)) in
    let next = subst (λ r. IfOk r (λ gave. gave.2 ≡ take 1 lines)) c.in-Ok.is (c.paged-layers.ensures.behind schema below writes later tables fits more stand said) in
    let ends : page_end c.in-Ok.gave.2 slice ≡ page_end lines slice = ap (λ ls. page_end ls slice) next ∙ next_alone lines slice in
    let k = c.paged-layers.ensures.kept in
    let list = ap (λ (w : Readings). w.list) c.readings-readings.ensures ∙ none in
    let whole = subst (λ r. OnOk r (ArePassedWhole slice.from (c.paged-layers.result.0, c.paged-layers.new.chains, c.paged-layers.new.readings))) c.in-Ok.is (c.paged-layers.ensures.passed list) in
    let passed = subst (λ r. OnOk r (IfSome (cached_in c.passed-layers.result.0) (IsStreamPassedTo slice.from (page_end c.in-Ok.gave.2 slice) c.passed-layers.new.chains c.passed-layers.new.readings))) c.in-Ok-went.is (c.passed-layers.ensures.passed slice.from unhanded whole) in
    let known = passed_of c.args.held.cached (cached_in c.passed-layers.result.0) c.passed-layers.new.chains c.passed-layers.new.readings slice.from (page_end c.in-Ok.gave.2 slice) (c.passed-layers.ensures.kept.layers c.args.held (k.2.layers c.args.held k.1.layers)).cached passed in
    let start = k.1.unread list in
    let e = k.2.unread start in
    let same = (c.passed-layers.ensures.kept.unread e.0).1 ∙ e.1 in
    let there = ends ∙ (λ i. page_end (drop c.args.count (drop (c.given_before-before.ensures i) (answer (below ++ (writes ++ later)) c.args.remainder.now.slice))) slice) in
    subst (λ (z : Memory × Pos). IfSome c.args.held.cached (IsStretchKnown z.0 slice.from z.1)) (λ i. (same i, there i)) known

-- ---- what it passes is refused

pub returns-in-Ok-clause-held : goal.returns-in-Ok-clause-held
returns-in-Ok-clause-held g c = (let k = c.paged-layers.ensures.kept in c.given_back-in-Err-went.ensures ∙ own_held c.args.held c.passed-layers.result.0 (c.passed-layers.ensures.kept.layers c.args.held (k.2.layers c.args.held k.1.layers)))

pub returns-in-Ok-clause-stand : goal.returns-in-Ok-clause-stand
returns-in-Ok-clause-stand g c = λ below writes later stand say.
    let said = subst (SayBelow below) (sym c.readings-readings.ensures) say in
    let k = c.paged-layers.ensures.kept in
    let s : Three = (k.0, c.args.chains.now, c.readings-readings.result) in
    let t : Three = (c.paged-layers.result.0, c.paged-layers.new.chains, c.paged-layers.new.readings) in
    let u : Three = (c.passed-layers.result.0, c.passed-layers.new.chains, c.passed-layers.new.readings) in
    stand_still g.row.S c.args.held below writes later c.args.chains.now c.passed-layers.new.chains c.readings-readings.result c.passed-layers.new.readings k.0 c.passed-layers.result.0 c.a_snapshot_sees_what_it_saw.ensures.sees (kept_then g.row.S s t u k.2 c.passed-layers.ensures.kept) k.1.layers (k.1.reader below writes later stand said) stand

pub returns-in-Ok-clause-chains : goal.returns-in-Ok-clause-chains
returns-in-Ok-clause-chains g c = leaves_then c.args.chains.now c.paged-layers.new.chains c.passed-layers.new.chains c.paged-layers.ensures.kept.2.chains c.passed-layers.ensures.kept.chains

pub returns-in-Ok-clause-unread : goal.returns-in-Ok-clause-unread
returns-in-Ok-clause-unread g c = λ none.
    let start = c.paged-layers.ensures.kept.1.unread (ap (λ (w : Readings). w.list) c.readings-readings.ensures ∙ none) in
    let e = c.paged-layers.ensures.kept.2.unread start in
    (c.passed-layers.ensures.kept.unread e.0).1 ∙ e.1

pub returns-in-Ok-clause-missing : goal.returns-in-Ok-clause-missing
returns-in-Ok-clause-missing g c = λ e.
    let k = c.paged-layers.ensures.kept in
    missing_of c.args.held.cached c.args.read (cached_in k.0) c.passed-layers.new.readings.missed k.1.layers.cached
    (λ d. (let a = k.2.missed (subst (λ w. IsReadIn w (cached_in k.0)) (sym c.readings-readings.ensures) d) in let b = c.passed-layers.ensures.kept.missed a.0 in b.1 ∙ a.1 ∙ ap (λ (w : Readings). w.missed) c.readings-readings.ensures))
    (sym c.cause.ensures ∙ e)

pub returns-in-Ok-clause-known : goal.returns-in-Ok-clause-known
returns-in-Ok-clause-known g c = λ schema below writes later tables fits more stand say. λ known.
    let said = subst (SayBelow below) (sym c.readings-readings.ensures) say in
    let slice = c.args.remainder.now.slice in
    let lines = drop c.args.count (drop c.given_before-before.result (answer (below ++ (writes ++ later)) c.args.remainder.now.slice)) in
    let next = subst (λ r. IfOk r (λ gave. gave.2 ≡ take 1 lines)) c.in-Ok.is (c.paged-layers.ensures.behind schema below writes later tables fits more stand said) in
    let ends : page_end c.in-Ok.gave.2 slice ≡ page_end lines slice = ap (λ ls. page_end ls slice) next ∙ next_alone lines slice in
    let there = subst (λ n. IfSome c.args.held.cached (IsStretchKnown c.args.chains.now slice.from (page_end (drop c.args.count (drop n (answer (below ++ (writes ++ later)) c.args.remainder.now.slice))) slice))) (sym c.given_before-before.ensures) known in
    let quiet = c.paged-layers.ensures.quiet schema below writes later tables fits more stand said there in
    let ahead = subst (λ r. OnOk r (AreAhead slice.from (page_end lines slice) c.args.held.cached (c.paged-layers.result.0, c.paged-layers.new.chains, c.paged-layers.new.readings))) c.in-Ok.is quiet.1 in
    let unhanded = subst (λ r. IfErr r (λ _. c.is_some-handed.result ≡ false)) c.in-Err-went.is c.passed-layers.ensures.handed in
    let still = c.passed-layers.ensures.still slice.from c.args.held.cached unhanded (subst (λ y. AreAhead slice.from y c.args.held.cached (c.paged-layers.result.0, c.paged-layers.new.chains, c.paged-layers.new.readings)) (sym ends) ahead) in
    c.cause.ensures ∙ ap (λ (w : Readings). why w.missed) (still ∙ quiet.0 ∙ c.readings-readings.ensures)

-- ---- a page is refused

pub returns-clause-held : goal.returns-clause-held
returns-clause-held g c = (let k = c.paged-layers.ensures.kept in c.given_back-in-Err.ensures ∙ own_held c.args.held c.paged-layers.result.0 (k.2.layers c.args.held k.1.layers))

pub returns-clause-stand : goal.returns-clause-stand
returns-clause-stand g c = λ below writes later stand say.
    let said = subst (SayBelow below) (sym c.readings-readings.ensures) say in
    let k = c.paged-layers.ensures.kept in
    stand_still g.row.S c.args.held below writes later c.args.chains.now c.paged-layers.new.chains c.readings-readings.result c.paged-layers.new.readings k.0 c.paged-layers.result.0 c.a_snapshot_sees_what_it_saw.ensures.sees k.2 k.1.layers (k.1.reader below writes later stand said) stand

pub returns-clause-missing : goal.returns-clause-missing
returns-clause-missing g c = λ e.
    let k = c.paged-layers.ensures.kept in
    missing_of c.args.held.cached c.args.read (cached_in k.0) c.paged-layers.new.readings.missed k.1.layers.cached
    (λ d. (k.2.missed (subst (λ w. IsReadIn w (cached_in k.0)) (sym c.readings-readings.ensures) d)).1 ∙ ap (λ (w : Readings). w.missed) c.readings-readings.ensures)
    (sym c.cause-in-Err.ensures ∙ e)

pub returns-clause-chains : goal.returns-clause-chains
returns-clause-chains g c = c.paged-layers.ensures.kept.2.chains

pub returns-clause-unread : goal.returns-clause-unread
returns-clause-unread g c = λ none.
    let start = c.paged-layers.ensures.kept.1.unread (ap (λ (w : Readings). w.list) c.readings-readings.ensures ∙ none) in
    (c.paged-layers.ensures.kept.2.unread start).1

pub returns-clause-known : goal.returns-clause-known
returns-clause-known g c = λ schema below writes later tables fits more stand say. λ known.
    let said = subst (SayBelow below) (sym c.readings-readings.ensures) say in
    let slice = c.args.remainder.now.slice in
    let there = subst (λ n. IfSome c.args.held.cached (IsStretchKnown c.args.chains.now slice.from (page_end (drop c.args.count (drop n (answer (below ++ (writes ++ later)) c.args.remainder.now.slice))) slice))) (sym c.given_before-before.ensures) known in
    let quiet = c.paged-layers.ensures.quiet schema below writes later tables fits more stand said there in
    c.cause-in-Err.ensures ∙ ap (λ (w : Readings). why w.missed) (quiet.0 ∙ c.readings-readings.ensures)
