use Rattle.std.proofs.Common.{◌≤◌}
use Rattle.std.proofs.Common.{◌≡◌, Some, None, refl, sym, ap, ◌∙◌, subst, arith}
use Rattle.rc_chain_guarded.proofs.Steps.{bare-none, from-if, known-chains, known-lost}
use Rattle.rc_chain_guarded.proofs.Fitting.{static-fits}
use Rattle.rc_chain_guarded.proofs.Limits.{limits-statics}
use Rattle.rc_chain_guarded.proofs.Fresh.{lone-same, lone-statics}
use Rattle.lsa_pool.specs.Room.{spare_of}
use Rattle.rc_core.specs.Steps.{join_statics}
use Rattle.rc_memory.specs.Memory.{Member}
use Rattle.rc_memory.specs.Changes.{member_at}
use Rattle.rc_chain_guarded.proofs.likes.join_first.Goals as goal

pub first_of-requires : goal.first_of-requires
first_of-requires c = c.requires.lone

pub join_like-made-requires : goal.join_like-made-requires
join_like-made-requires c =
    let m = c.args.chains.now in let one = c.first_of.new.chains in let p = c.in-Some.found in let r = p.0 in let first = from-if _ c.first_of.result p c.first_of.ensures.first c.in-Some.is in let lone = member_at c.args.id c.args.number None in
    let row = c.args.row.now in let is = c.row_in_range.ensures.ascending in let room = c.requires.room in let same = c.first_of.ensures.usages in
    let known = known-chains m one c.first_of.ensures.chains c.args.known.now c.requires.full c.requires.known in (
      omega arith,
      (
        c.has_version.ensures c.if-not-has_version.false,
        (
          (lone, first),
          (
            (λ w x at is. absurd (let clash : Some x ≡ None = sym is ∙ ap (λ (z : Member). z.position) (c.known.ensures.place r w lone at first) in cc)),
            (λ w told at none there. static-fits one c.args.to.chain c.args.to.version known.limits c.args.id c.args.number row (lone-same m one c.args.id c.args.number row c.first_of.ensures.chains c.requires.lone) w told (c.known.ensures.place r w lone at first) there c.requires.row is _
                (subst (λ u. 8638 ≤ spare_of 131072 u) (sym same) (omega (arith, room)))),
          ),
        ),
      ),
    )

pub returns-else-not-has_version : goal.returns-else-not-has_version
returns-else-not-has_version c =
    let m = c.args.chains.now in let one = c.first_of.new.chains in let p = c.in-Some.found in let first = from-if _ c.first_of.result p c.first_of.ensures.first c.in-Some.is in let row = c.args.row.now in
    let known = known-chains m one c.first_of.ensures.chains c.args.known.now c.requires.full c.requires.known in
    let joined = c.join_like-made.ensures.statics (member_at c.args.id c.args.number None) row first refl (lone-statics one c.args.id c.args.number row (lone-same m one c.args.id c.args.number row c.first_of.ensures.chains c.requires.lone)) in
    known-lost one c.join_like-made.new.self c.args.to.chain c.args.to.version (join_statics row) joined.0.chains (c.has_version.ensures c.if-not-has_version.false) c.args.known.now c.args.known.now known refl c.requires.full
    (bare-none c.args.known.now c.args.known.now _ c.requires.bare) (λ v h. limits-statics row v c.requires.row h)
