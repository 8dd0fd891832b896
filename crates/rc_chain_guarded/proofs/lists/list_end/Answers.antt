use Rattle.std.proofs.Common.{◌≡◌, ◌∷◌, [], Some, true, false, sym, ap, ◌∙◌, subst, arith}
use Rattle.rc_chain_guarded.proofs.Steps.{from-if, known-listed}
use Rattle.rc_chain_guarded.proofs.Listed.{may-list}
use Rattle.rc_memory.specs.Memory.{Memory}
use Rattle.rc_memory.specs.Changes.{member_at}
use Rattle.rc_core.specs.Version.{end_position}
use Rattle.std.specs.Prelude.{Contains}
use Rattle.rc_memory.specs.Memory.{IsMemberObject}
use Rattle.rc_partition.specs.laws.Lists.{elem-left}
use Rattle.rc_chain_guarded.proofs.lists.list_end.Goals as goal

pub list-requires : goal.list-requires
list-requires c =
    let m = c.object_at.new.chains in let o = c.object_at.ensures in let end = c.in-Some.end in let w = member_at c.args.at.chain c.args.at.version (Some end_position) in let here = subst (λ x. IsMemberObject m end (member_at c.args.at.chain c.args.at.version (Some x))) c.end_position.ensures (from-if _ c.object_at.result end o.here c.in-Some.is) in (
      omega arith,
      (
        w,
        here,
        (λ on. let told : true ≡ false = sym ((c.is_listed.ensures w here).1 on) ∙ c.if-is_listed.false in cc told),
        may-list m c.args.at.chain c.args.at.version (from-if _ c.object_at.result end o.there c.in-Some.is) c.known.ensures.versions (c.may_list.ensures.cached c.if-not-may_list.false) (c.may_list.ensures.settled c.if-not-may_list.false),
      ),
    )

pub returns-in-Some : goal.returns-in-Some
returns-in-Some c =
    let m = c.object_at.new.chains in let o = c.object_at.ensures in let end = c.in-Some.end in let w = member_at c.args.at.chain c.args.at.version (Some end_position) in let here = subst (λ x. IsMemberObject m end (member_at c.args.at.chain c.args.at.version (Some x))) c.end_position.ensures (from-if _ c.object_at.result end o.here c.in-Some.is) in
    let e = c.list.ensures.listed w here in
    known-listed m c.list.new.self (ap (λ (x : Memory). x.chains) e) c.object_at.new.known (λ i l x inner on. subst (λ ws. Contains ws (member_at i l (Some x))) (sym (ap (λ (x : Memory). x.recency) e)) (elem-left m.recency (w ∷ []) (member_at i l (Some x)) on)) o.known
