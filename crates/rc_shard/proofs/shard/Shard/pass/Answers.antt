-- A reader goes on past the row cache, and gives a page there.
use Rattle.std.proofs.Common.{refl, ap, ◌∙◌}
use Rattle.rc_lines.specs.declared.commands.Reply.TheVariants.{Given}
use Rattle.rc_lookup.specs.Crowds.{loses-after}
use Rattle.rc_machine.specs.Steps.{reader_past}
use Rattle.rc_shard.specs.Readers.{cached_of}
use Rattle.rc_shard.specs.calls.Reading.{with_reader}
use Rattle.rc_shard.proofs.Closing.{past-rest}
use Rattle.rc_shard.proofs.Given.{counts-after, given-counts, given-loses, given-of, gone-counts, gone-place, known-gone, known-past, paged-kept, paged-place, past-of, stops-anew, stops-same, takes-told, there-now, told-by, touched-past, untold-counts, untold-known, untold-of}
use Rattle.rc_shard.proofs.Places.{place-of}
use Rattle.rc_shard.proofs.Standing.{on-err}
use Rattle.rc_shard.proofs.Taking.{takes-anew}
use Rattle.rc_shard.proofs.shard.Shard.pass.Goals as goal

pub go_past-requires : goal.go_past-requires
go_past-requires c = let q = c.requires in (q.0, q.1, q.2, q.4, q.5)

pub page-requires : goal.page-requires
page-requires c =
    let q = c.requires in
    let k = c.args.self.now in
    let l = c.go_past.new.self in
    let d = q.3 in
    let here = q.6 in
    let gone = c.in_ok-go_past.ensures.gone d here in
    let told = told-by _ q.1 k l c.args.at d c.args.read here q.7 (λ id files m o said s place there by join is fits. c.in_ok-go_past.ensures.past id files m o said s place there by join is fits) in
    let t = told q.0 q.5 q.2 q.4 in
    (q.0, q.1, with_reader q.0 (record (t.reader) { said = t.said }) q.2, t.stands, gone-place k l q.0 c.args.at d here gone q.5)

pub give-requires : goal.give-requires
give-requires c =
    let q = c.requires in
    let k = c.args.self.now in
    let l = c.go_past.new.self in
    let d = q.3 in
    let here = q.6 in
    let gone = c.in_ok-go_past.ensures.gone d here in
    let mid = c.page.new.self in
    let now = gone-place k l q.0 c.args.at d here gone q.5 in
    let told = told-by _ q.1 k l c.args.at d c.args.read here q.7 (λ id files m o said s place there by join is fits. c.in_ok-go_past.ensures.past id files m o said s place there by join is fits) in
    let t = told q.0 q.5 q.2 q.4 in
    let st = with_reader q.0 (record (t.reader) { said = t.said }) q.2 in
    let p = c.in-Ok.ensures.gives q.0 q.1 st t.stands now in
    (q.0, q.1, with_reader q.0 (reader_past c.args.count p.reader) st, p.stands, paged-place l mid q.0 c.args.at c.page.ensures.beside now)

-- ---- a page was given

pub returns-in-Ok-clause-step : goal.returns-in-Ok-clause-step
returns-in-Ok-clause-step c = λ id files o place there read.
    let q = c.requires in
    let k = c.args.self.now in
    let l = c.go_past.new.self in
    let d = q.3 in
    let here = q.6 in
    let gone = c.in_ok-go_past.ensures.gone d here in
    let mid = c.page.new.self in
    let k2 = c.give.new.self in
    let now = gone-place k l id c.args.at d here gone place in
    let told = told-by _ files k l c.args.at o c.args.read there read (λ id files m o said s place there by join is fits. c.in_ok-go_past.ensures.past id files m o said s place there by join is fits) in
    takes-told _ files files k k2 id c.args.count c.give.result (Given c.in-Ok.lines c.in-Ok.more) c.give.ensures.reply refl
    (takes-anew _ files k l k2 id c.args.count c.in-Ok.lines c.in-Ok.more (told id place)
    (λ m s. paged-kept _ files id c.args.count m (c.in-Ok.lines, c.in-Ok.more) mid k2 c.give.ensures.keeps (c.in-Ok.ensures.gives id files m s now)))

pub returns-in-Ok-clause-same : goal.returns-in-Ok-clause-same
returns-in-Ok-clause-same c =
    let q = c.requires in
    let k = c.args.self.now in
    let l = c.go_past.new.self in
    let d = q.3 in
    let here = q.6 in
    let gone = c.in_ok-go_past.ensures.gone d here in
    let mid = c.page.new.self in
    let k2 = c.give.new.self in
    let x = gone.reader in
    let now = gone-place k l q.0 c.args.at d here gone q.5 in
    let given = given-of l mid k2 q.0 c.args.at x c.in-Ok.lines (place-of q.0 l.readers.items c.args.at now) (there-now k l q.0 c.args.at x (place-of q.0 k.readers.items c.args.at q.5) gone.readers) c.page.ensures.beside c.give.ensures.beside (λ o h. c.give.ensures.touches o h) c.give.ensures.left in
    given.counts ∙ (past-rest (cached_of d.1) k.unstored.chains l.unstored.chains gone.past).counts

pub returns-in-Ok-clause-loses : goal.returns-in-Ok-clause-loses
returns-in-Ok-clause-loses c =
    let q = c.requires in
    let k = c.args.self.now in
    let l = c.go_past.new.self in
    let d = q.3 in
    let here = q.6 in
    let gone = c.in_ok-go_past.ensures.gone d here in
    let mid = c.page.new.self in
    let k2 = c.give.new.self in
    let x = gone.reader in
    let now = gone-place k l q.0 c.args.at d here gone q.5 in
    let given = given-of l mid k2 q.0 c.args.at x c.in-Ok.lines (place-of q.0 l.readers.items c.args.at now) (there-now k l q.0 c.args.at x (place-of q.0 k.readers.items c.args.at q.5) gone.readers) c.page.ensures.beside c.give.ensures.beside (λ o h. c.give.ensures.touches o h) c.give.ensures.left in
    loses-after 131072 0 k.unstored.chains l.unstored.chains k2.unstored.chains c.go_past.ensures.loses (given-loses x c.in-Ok.lines l k2 given)

pub returns-in-Ok-clause-stays : goal.returns-in-Ok-clause-stays
returns-in-Ok-clause-stays c = λ o key there apart none.
    let q = c.requires in
    let k = c.args.self.now in
    let l = c.go_past.new.self in
    let d = o in
    let here = there in
    let gone = c.in_ok-go_past.ensures.gone d here in
    let mid = c.page.new.self in
    let k2 = c.give.new.self in
    let x = gone.reader in
    let now = gone-place k l q.0 c.args.at d here gone q.5 in
    let given = given-of l mid k2 q.0 c.args.at x c.in-Ok.lines (place-of q.0 l.readers.items c.args.at now) (there-now k l q.0 c.args.at x (place-of q.0 k.readers.items c.args.at q.5) gone.readers) c.page.ensures.beside c.give.ensures.beside (λ o h. c.give.ensures.touches o h) c.give.ensures.left in
    known-gone c.args.at d x c.in-Ok.lines k l k2 key q.4.cached.are c.known.ensures.told gone given apart none

pub returns-in-Ok-clause-touches : goal.returns-in-Ok-clause-touches
returns-in-Ok-clause-touches c = λ id o place there.
    let q = c.requires in
    let k = c.args.self.now in
    let l = c.go_past.new.self in
    let d = o in
    let here = there in
    let gone = c.in_ok-go_past.ensures.gone d here in
    let mid = c.page.new.self in
    let k2 = c.give.new.self in
    let x = gone.reader in
    let now = gone-place k l q.0 c.args.at d here gone q.5 in
    let given = given-of l mid k2 q.0 c.args.at x c.in-Ok.lines (place-of q.0 l.readers.items c.args.at now) (there-now k l q.0 c.args.at x (place-of q.0 k.readers.items c.args.at q.5) gone.readers) c.page.ensures.beside c.give.ensures.beside (λ o h. c.give.ensures.touches o h) c.give.ensures.left in
    let own = gone-place k l id c.args.at d here gone place in
    let at = there-now k l id c.args.at x (place-of id k.readers.items c.args.at place) gone.readers in
    let b = c.page.ensures.beside in
    touched-past id d x c.in-Ok.lines c.in-Ok.more c.give.result l k2 c.give.ensures.reply gone.key
    (past-of id c.args.at b.reader mid k2 (place-of id mid.readers.items c.args.at (paged-place l mid id c.args.at b own)) (there-now l mid id c.args.at b.reader (place-of id l.readers.items c.args.at own) b.readers) (b.past x at gone.gone) c.give.ensures.beside.readers) given

pub returns-in-Ok-clause-counts : goal.returns-in-Ok-clause-counts
returns-in-Ok-clause-counts c =
    let q = c.requires in
    let k = c.args.self.now in
    let l = c.go_past.new.self in
    let d = q.3 in
    let here = q.6 in
    let gone = c.in_ok-go_past.ensures.gone d here in
    let mid = c.page.new.self in
    let k2 = c.give.new.self in
    let x = gone.reader in
    let now = gone-place k l q.0 c.args.at d here gone q.5 in
    let given = given-of l mid k2 q.0 c.args.at x c.in-Ok.lines (place-of q.0 l.readers.items c.args.at now) (there-now k l q.0 c.args.at x (place-of q.0 k.readers.items c.args.at q.5) gone.readers) c.page.ensures.beside c.give.ensures.beside (λ o h. c.give.ensures.touches o h) c.give.ensures.left in
    counts-after k l k2 (gone-counts c.args.at d k l gone) (given-counts x c.in-Ok.lines l k2 given)

-- ---- memory ran out

pub returns-in-Err-clause-err : goal.returns-in-Err-clause-err
returns-in-Err-clause-err c = λ id files o place there read.
    let k = c.args.self.now in
    let l = c.go_past.new.self in
    let told = told-by _ files k l c.args.at o c.args.read there read (λ id files m o said s place there by join is fits. c.in_ok-go_past.ensures.past id files m o said s place there by join is fits) in
    stops-anew _ files files k l c.page.new.self id c.args.count refl (told id place) c.in-Err.ensures.err

pub returns-in-Err-clause-same : goal.returns-in-Err-clause-same
returns-in-Err-clause-same c =
    let q = c.requires in
    let k = c.args.self.now in
    let l = c.go_past.new.self in
    let d = q.3 in
    let here = q.6 in
    let gone = c.in_ok-go_past.ensures.gone d here in
    ap (λ u. u.chains.counts) c.page.ensures.beside.unstored ∙ (past-rest (cached_of d.1) k.unstored.chains l.unstored.chains gone.past).counts

pub returns-in-Err-clause-stays : goal.returns-in-Err-clause-stays
returns-in-Err-clause-stays c = λ o key there apart none.
    let q = c.requires in
    let k = c.args.self.now in
    let l = c.go_past.new.self in
    let d = o in
    let here = there in
    let gone = c.in_ok-go_past.ensures.gone d here in
    known-past c.args.at d k l c.page.new.self key q.4.cached.are c.known.ensures.told gone (untold-of c.args.at l c.page.new.self c.page.ensures.beside) apart none

pub returns-in-Err-clause-counts : goal.returns-in-Err-clause-counts
returns-in-Err-clause-counts c =
    let q = c.requires in
    let k = c.args.self.now in
    let l = c.go_past.new.self in
    let d = q.3 in
    let here = q.6 in
    let gone = c.in_ok-go_past.ensures.gone d here in
    counts-after k l c.page.new.self (gone-counts c.args.at d k l gone) (untold-counts l c.page.new.self (untold-of c.args.at l c.page.new.self c.page.ensures.beside))

pub returns-in_err-go_past-clause-err : goal.returns-in_err-go_past-clause-err
returns-in_err-go_past-clause-err c = λ id files o place there read. on-err c.from_residual.result _ (stops-same _ files files c.args.self.now c.go_past.new.self id c.args.count refl c.in_err-go_past.ensures.err.0)

pub returns-in_err-go_past-clause-same : goal.returns-in_err-go_past-clause-same
returns-in_err-go_past-clause-same c = ap (λ u. u.chains.counts) c.in_err-go_past.ensures.err.1.unstored

pub returns-in_err-go_past-clause-stays : goal.returns-in_err-go_past-clause-stays
returns-in_err-go_past-clause-stays c = λ o key there apart none. untold-known c.args.self.now c.go_past.new.self (untold-of c.args.at c.args.self.now c.go_past.new.self c.in_err-go_past.ensures.err.1) key

pub returns-in_err-go_past-clause-counts : goal.returns-in_err-go_past-clause-counts
returns-in_err-go_past-clause-counts c = untold-counts c.args.self.now c.go_past.new.self (untold-of c.args.at c.args.self.now c.go_past.new.self c.in_err-go_past.ensures.err.1)
