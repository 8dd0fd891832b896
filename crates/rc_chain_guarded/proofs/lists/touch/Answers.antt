use Rattle.std.proofs.Common.{Some, ap, arith}
use Rattle.rc_chain_guarded.proofs.Steps.{from-if, known-listed}
use Rattle.rc_chain_guarded.proofs.Turns.{turned-listed}
use Rattle.rc_memory.specs.Memory.{Memory}
use Rattle.rc_memory.specs.Changes.{member_at}
use Rattle.rc_partition.specs.laws.Lists.{elem-split}
use Rattle.rc_chain_guarded.proofs.lists.touch.Goals as goal

pub touch-requires : goal.touch-requires
touch-requires c =
    let m = c.object_at.new.chains in let o = c.object_at.ensures in let e = c.in-Some.e in let w = member_at c.args.at.chain c.args.at.version (Some c.args.x.now) in let here = from-if _ c.object_at.result e o.here c.in-Some.is in let s = elem-split m.recency w ((c.is_listed.ensures w here).0 c.if-not-is_listed.false) in
    (omega arith, (w, s.0, s.1, s.2, here))

pub returns-else-not-is_listed : goal.returns-else-not-is_listed
returns-else-not-is_listed c =
    let m = c.object_at.new.chains in let o = c.object_at.ensures in let e = c.in-Some.e in let w = member_at c.args.at.chain c.args.at.version (Some c.args.x.now) in let here = from-if _ c.object_at.result e o.here c.in-Some.is in let s = elem-split m.recency w ((c.is_listed.ensures w here).0 c.if-not-is_listed.false) in
    let t = c.touch.ensures.touched w s.0 s.1 s.2 here in
    known-listed m c.touch.new.self (ap (λ (x : Memory). x.chains) t) c.object_at.new.known (turned-listed m c.touch.new.self w s.0 s.1 s.2 (ap (λ (x : Memory). x.recency) t)) o.known
