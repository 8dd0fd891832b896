-- By the laws of merges, of two lists and tables.
use Rattle.std.specs.Prelude.{◌≡◌, true, ◌≤◌, ◌+◌}
use Rattle.std.specs.Option.{is_some}
use Rattle.std.proofs.Common.{ap, subst, arith}
use Rattle.rc_stream.specs.Did.{both_left, both_settled}
use Rattle.rc_stream.specs.Both.{SoughtBoth}
use Rattle.rc_stream.specs.Stream.{Stream}
use Rattle.rc_tables.specs.Streams.{MayBeCalledOver, Lazy, IsLazyOf, asks_left}
use Rattle.rc_flows.proofs.Asking.{kept, kept_seen, lists_are_quiet, lists_spend, tables_are_quiet, tables_spend}
use Rattle.rc_flows.proofs.reading.read_through.Goals as goal

pub read_some-requires-clause-ready : goal.read_some-requires-clause-ready
read_some-requires-clause-ready g c =
    let files = g.W.Store.files in
    let below = c.a_new_merge_stands_for_both.ensures.ready c.args.two c.args.tables c.new-below.result tt c.args.store.now c.new-below.ensures tt c.requires
    (λ _ _ _ _ _ _ _. tt) (λ t h w g' v e r. kept (λ (x : Lazy) i w. MayBeCalledOver (files w) x) t h w g' v e r) (λ _ _ _ _ _ _ _ e. e) (λ t s h w g' v e r. kept_seen (λ (x : Lazy) i w z. IsLazyOf (files w) x z) t s h w g' v e r) in
    c.a_new_merge_stands_for_both-2.ensures.ready c.args.one c.new-below.result c.new-stream.result tt c.args.store.now c.new-stream.ensures tt below
    (λ _ _ _ _ _ _ _. tt) (λ t h w g' v e r. ((r.0.0, kept (λ (x : Lazy) i w. MayBeCalledOver (files w) x) t.theirs.stream h w g' v e r.0.1), r.1, r.2)) (λ _ _ _ _ _ _ _ e. e) (λ t s h w g' v e r. subst (λ z. SoughtBoth {A = Stream} {B = Lazy} {H = Unit {0}} (λ l _ _ x. x ≡ l) (λ l _ y x. IsLazyOf (files y) l x) t h z s) e.1 r)

pub read_some-requires-clause-ahead : goal.read_some-requires-clause-ahead
read_some-requires-clause-ahead g c =
    c.a_new_merge_stands_for_both-2.ensures.ahead c.args.one c.new-below.result c.new-stream.result c.args.from.now c.new-stream.ensures (λ _ _. tt)
    (λ y r. c.a_new_merge_stands_for_both.ensures.ahead c.args.two c.args.tables c.new-below.result y c.new-below.ensures (λ _ _. tt) (λ _ _. tt))

pub returns-clause-asks : goal.returns-clause-asks
returns-clause-asks g c =
    let asks = g.W.Store.asks in
    let below = c.a_merge_asks_for_what_its_parts_do.ensures.spends (λ _. 0) asks_left asks (lists_spend asks) (tables_spend asks) in
    let whole = c.a_merge_asks_for_what_its_parts_do-2.ensures.spends (λ _. 0) (both_left (λ _. 0) asks_left) asks (lists_spend asks) below in
    let bound = c.read_some.ensures.spends (both_left (λ _. 0) (both_left (λ _. 0) asks_left)) whole in
    omega (arith, bound, ap (both_left (λ _. 0) (both_left (λ _. 0) asks_left)) c.new-stream.ensures, ap (both_left (λ _. 0) asks_left) c.new-below.ensures)

pub returns-clause-quiet : goal.returns-clause-quiet
returns-clause-quiet g c =
    let asks = g.W.Store.asks in
    let below = c.a_merge_asks_for_what_its_parts_do.ensures.quiet (λ _. true) (λ t. is_some t.read) asks (lists_are_quiet asks) (tables_are_quiet asks) in
    let whole = c.a_merge_asks_for_what_its_parts_do-2.ensures.quiet (λ _. true) (both_settled (λ _. true) (λ t. is_some t.read)) asks (lists_are_quiet asks) below in
    c.read_some.ensures.quiet (both_settled (λ _. true) (both_settled (λ _. true) (λ t. is_some t.read))) whole
