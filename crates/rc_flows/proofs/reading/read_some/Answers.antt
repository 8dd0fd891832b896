-- One call after another; the last of them may be refused.
use Rattle.std.proofs.Common.{true, false, refl, sym, ◌∙◌, inl, arith}
use Rattle.rc_stream.specs.Did.{Call.OfHead, Call.OfNext, Call.OfSeek}
use Rattle.rc_flows.proofs.Asking.{reaches_itself}
use Rattle.rc_flows.proofs.reading.read_some.Goals as goal

pub returns-in_err-_head-clause-spends : goal.returns-in_err-_head-clause-spends
returns-in_err-_head-clause-spends g c = λ left sp. omega (arith, sp.refused c.args.stream.now tt c.args.store.now OfHead c.head.new.self c.head.new.home c.head.new.store c.in_err-_head.ensures.did)

pub returns-in_err-seek-clause-spends : goal.returns-in_err-seek-clause-spends
returns-in_err-seek-clause-spends g c = λ left sp. omega (arith, sp.answered c.args.stream.now tt c.args.store.now OfHead c.head.new.self c.head.new.home c.head.new.store c.in_ok-_head.ensures.did, sp.refused c.head.new.self c.head.new.home c.head.new.store (OfSeek c.args.from.now) c.seek.new.self c.seek.new.home c.seek.new.store c.in_err-seek.ensures.did)

pub returns-in_err-_first-clause-spends : goal.returns-in_err-_first-clause-spends
returns-in_err-_first-clause-spends g c = λ left sp. omega (arith, sp.answered c.args.stream.now tt c.args.store.now OfHead c.head.new.self c.head.new.home c.head.new.store c.in_ok-_head.ensures.did, sp.answered c.head.new.self c.head.new.home c.head.new.store (OfSeek c.args.from.now) c.seek.new.self c.seek.new.home c.seek.new.store c.in_ok-seek.ensures.did, sp.refused c.seek.new.self c.seek.new.home c.seek.new.store (OfNext c.args.upto.now) c.next.new.self c.next.new.home c.next.new.store (c.in_err-_first.ensures.did c.args.upto.now (inl (reaches_itself c.args.upto.now))))

pub returns-in_err-_second-clause-spends : goal.returns-in_err-_second-clause-spends
returns-in_err-_second-clause-spends g c = λ left sp. omega (arith, sp.answered c.args.stream.now tt c.args.store.now OfHead c.head.new.self c.head.new.home c.head.new.store c.in_ok-_head.ensures.did, sp.answered c.head.new.self c.head.new.home c.head.new.store (OfSeek c.args.from.now) c.seek.new.self c.seek.new.home c.seek.new.store c.in_ok-seek.ensures.did, sp.answered c.seek.new.self c.seek.new.home c.seek.new.store (OfNext c.args.upto.now) c.next.new.self c.next.new.home c.next.new.store (c.in_ok-_first.ensures.did c.args.upto.now (inl (reaches_itself c.args.upto.now))), sp.refused c.next.new.self c.next.new.home c.next.new.store (OfNext c.args.upto.now) c.next-2.new.self c.next-2.new.home c.next-2.new.store (c.in_err-_second.ensures.did c.args.upto.now (inl (reaches_itself c.args.upto.now))))

pub returns-clause-spends : goal.returns-clause-spends
returns-clause-spends g c = λ left sp. omega (arith, sp.answered c.args.stream.now tt c.args.store.now OfHead c.head.new.self c.head.new.home c.head.new.store c.in_ok-_head.ensures.did, sp.answered c.head.new.self c.head.new.home c.head.new.store (OfSeek c.args.from.now) c.seek.new.self c.seek.new.home c.seek.new.store c.in_ok-seek.ensures.did, sp.answered c.seek.new.self c.seek.new.home c.seek.new.store (OfNext c.args.upto.now) c.next.new.self c.next.new.home c.next.new.store (c.in_ok-_first.ensures.did c.args.upto.now (inl (reaches_itself c.args.upto.now))), sp.answered c.next.new.self c.next.new.home c.next.new.store (OfNext c.args.upto.now) c.next-2.new.self c.next-2.new.home c.next-2.new.store (c.in_ok-_second.ensures.did c.args.upto.now (inl (reaches_itself c.args.upto.now))))

pub returns-clause-quiet : goal.returns-clause-quiet
returns-clause-quiet g c = λ settled q.
    let first = q.head c.args.stream.now tt c.args.store.now c.head.new.self c.head.new.home c.head.new.store c.in_ok-_head.ensures.did in
    let two = q.quiet c.head.new.self c.head.new.home c.head.new.store (OfSeek c.args.from.now) true c.seek.new.self c.seek.new.home c.seek.new.store first c.in_ok-seek.ensures.did in
    let three = q.quiet c.seek.new.self c.seek.new.home c.seek.new.store (OfNext c.args.upto.now) true c.next.new.self c.next.new.home c.next.new.store two.1 (c.in_ok-_first.ensures.did c.args.upto.now (inl (reaches_itself c.args.upto.now))) in
    let four = q.quiet c.next.new.self c.next.new.home c.next.new.store (OfNext c.args.upto.now) true c.next-2.new.self c.next-2.new.home c.next-2.new.store three.1 (c.in_ok-_second.ensures.did c.args.upto.now (inl (reaches_itself c.args.upto.now))) in
    c.asks.ensures ∙ four.0 ∙ three.0 ∙ two.0 ∙ sym c.asks-asked.ensures
