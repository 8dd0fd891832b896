-- No more is read than is left.
use Rattle.std.proofs.Common.{◌≡◌, ◌<◌, ◌-◌, ap, arith, ◌∙◌}
use Rattle.std.specs.Prelude.{min}
use Rattle.std.proofs.lemmas.Result.{on_ok_weaker}
use Rattle.rc_tfile.specs.calls.Windows.{ReadAhead}
use Rattle.rc_tfile.proofs.Ahead.{lies_ahead, one_read, some_left}
use Rattle.rc_tfile.proofs.window.Window.refill.Goals as goal

pub read-requires-clause-lies : goal.read-requires-clause-lies
read-requires-clause-lies g c =
    let size : c.self.inside.size ≡ c.args.self.now.size = ap (λ (w : ReadAhead). w.size) c.self.view_is in
    let read : c.self.inside.end ≡ c.args.self.now.read = ap (λ (w : ReadAhead). w.read) c.self.view_is in
    lies_ahead (g.W.Store.files c.args.store.now) c.args.self.now c.next_count-count.result c.requires (omega (arith, size, read, c.next_count-count.ensures, c.self.invariant.2))

pub returns-clause-asks : goal.returns-clause-asks
returns-clause-asks g c =
    let size : c.self.inside.size ≡ c.args.self.now.size = ap (λ (w : ReadAhead). w.size) c.self.view_is in
    let read : c.self.inside.end ≡ c.args.self.now.read = ap (λ (w : ReadAhead). w.read) c.self.view_is in
    let some : c.args.self.now.read < c.args.self.now.size = omega (arith, size, read, c.if-self.false, c.self.invariant.2) in
    omega (arith, c.read.ensures.asks, some_left c.args.self.now some)

pub returns-clause-spent : goal.returns-clause-spent
returns-clause-spent g c =
    let size : c.self.inside.size ≡ c.args.self.now.size = ap (λ (w : ReadAhead). w.size) c.self.view_is in
    let read : c.self.inside.end ≡ c.args.self.now.read = ap (λ (w : ReadAhead). w.read) c.self.view_is in
    let some : c.args.self.now.read < c.args.self.now.size = omega (arith, size, read, c.if-self.false, c.self.invariant.2) in
    let count : c.next_count-count.result ≡ min (c.args.self.now.size - c.args.self.now.read) 65541 = c.next_count-count.ensures ∙ (λ i. min (size i - read i) 65541) in
    on_ok_weaker c.read.result (λ grown. omega (arith, one_read c.args.self.now c.read.new.self c.next_count-count.result grown.0 c.read.ensures.size count some, c.read.ensures.asks)) c.read.ensures.grown
