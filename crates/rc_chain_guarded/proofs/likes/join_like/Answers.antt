use Rattle.std.proofs.Common.{◌≡◌, Some, None, refl, sym, ap, ◌∙◌, arith}
use Rattle.rc_chain_guarded.proofs.Steps.{from-if, known-changed}
use Rattle.rc_chain_guarded.proofs.Fitting.{like-fits}
use Rattle.rc_chain_guarded.proofs.Listed.{joined-only, renewed-listed}
use Rattle.rc_chain_guarded.proofs.Limits.{limits-joined}
use Rattle.rc_position.specs.Position.{row_pos}
use Rattle.rc_core.specs.Steps.{row_joined}
use Rattle.rc_memory.specs.Memory.{Member}
use Rattle.rc_memory.specs.Changes.{member_at}
use Rattle.rc_memory.specs.laws.Places.{same_some}
use Rattle.rc_chain_guarded.proofs.likes.join_like.Goals as goal

pub join_like-made-requires : goal.join_like-made-requires
join_like-made-requires c =
    let m = c.join_row.new.chains in let e = c.in-Some.e in let o = c.join_row.ensures in let x = row_pos c.args.key.now in let id = c.args.to.chain in let j = c.args.to.version in
    let here = from-if _ c.join_row.result e o.here c.in-Some.is in let room = from-if _ c.join_row.result e o.room c.in-Some.is in let r = from-if _ c.join_row.result e o.row c.in-Some.is in
    let yes = c.if-not-may_make-2.false in let from = member_at c.args.from.chain c.args.from.version (Some x) in (
      omega arith,
      (
        c.may_make-in-Some.ensures.there yes,
        (
          (from, here),
          (
            (λ w y at is. let same = c.known.ensures.place e w from at here in let position : y ≡ x = same_some y x (sym is ∙ ap (λ (z : Member). z.position) same) in
                like-fits m id j o.known.limits c.args.from.chain c.args.from.version w y x same position r.0 r.3 c.requires.key r.1 r.2 _ (omega (arith, room)) (c.may_make-in-Some.ensures.last yes)),
            (λ w row at none. absurd (let clash : None ≡ Some x = sym none ∙ ap (λ (z : Member). z.position) (c.known.ensures.place e w from at here) in cc)),
          ),
        ),
      ),
    )

pub returns-else-not-may_make-2 : goal.returns-else-not-may_make-2
returns-else-not-may_make-2 c =
    let m = c.join_row.new.chains in let n = c.join_like-made.new.self in let e = c.in-Some.e in let o = c.join_row.ensures in let x = row_pos c.args.key.now in let id = c.args.to.chain in let j = c.args.to.version in
    let here = from-if _ c.join_row.result e o.here c.in-Some.is in let r = from-if _ c.join_row.result e o.row c.in-Some.is in let has = c.may_make-in-Some.ensures.there c.if-not-may_make-2.false in
    let joined = c.join_like-made.ensures.entry (member_at c.args.from.chain c.args.from.version (Some x)) x r.0 here refl r.3 in
    known-changed m n id j (row_joined x r.0) joined.0.chains has c.join_row.new.known c.forget_bare.new.self o.known c.forget_bare.ensures.held c.forget_bare.ensures.full c.forget_bare.ensures.bare
    (λ v h. limits-joined x r.0 v c.requires.key r.1 h) (renewed-listed m n id j has (Some x) joined.1) (joined-only m n id j has c.known.ensures.sound x r.0 joined.1)
