use Rattle.std.proofs.Common.{Some, ap, subst, arith}
use Rattle.rc_chain_guarded.proofs.Steps.{from-if, known-listed}
use Rattle.rc_chain_guarded.proofs.Listed.{end-free, ended-listed}
use Rattle.rc_memory.specs.Memory.{Memory}
use Rattle.rc_memory.specs.Changes.{member_at}
use Rattle.rc_core.specs.Version.{end_position}
use Rattle.rc_memory.specs.Memory.{IsMemberObject}
use Rattle.rc_partition.specs.laws.Lists.{elem-split}
use Rattle.rc_chain_guarded.proofs.lists.unlist_end.Goals as goal

pub unlist-requires : goal.unlist-requires
unlist-requires c =
    let m = c.object_at.new.chains in let o = c.object_at.ensures in let end = c.in-Some.end in let w = member_at c.args.at.chain c.args.at.version (Some end_position) in let here = subst (λ x. IsMemberObject m end (member_at c.args.at.chain c.args.at.version (Some x))) c.end_position.ensures (from-if _ c.object_at.result end o.here c.in-Some.is) in
    let s = elem-split m.recency w ((c.is_listed.ensures w here).0 c.if-not-is_listed.false) in (omega arith, (w, s.0, s.1, s.2, here, end-free m c.args.at.chain c.args.at.version))

pub returns-in-Some : goal.returns-in-Some
returns-in-Some c =
    let m = c.object_at.new.chains in let o = c.object_at.ensures in let end = c.in-Some.end in let w = member_at c.args.at.chain c.args.at.version (Some end_position) in let here = subst (λ x. IsMemberObject m end (member_at c.args.at.chain c.args.at.version (Some x))) c.end_position.ensures (from-if _ c.object_at.result end o.here c.in-Some.is) in
    let s = elem-split m.recency w ((c.is_listed.ensures w here).0 c.if-not-is_listed.false) in let e = c.unlist.ensures.unlisted w s.0 s.1 s.2 here in
    known-listed m c.unlist.new.self (ap (λ (x : Memory). x.chains) e) c.object_at.new.known (ended-listed m c.unlist.new.self c.args.at.chain c.args.at.version s.0 s.1 s.2 (ap (λ (x : Memory). x.recency) e)) o.known
