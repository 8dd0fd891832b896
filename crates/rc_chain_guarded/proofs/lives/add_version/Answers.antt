use Rattle.std.proofs.Common.{inl, inr, ◌∙◌, arith}
use Rattle.rc_chain_guarded.proofs.Wholes.{chain-there, known-over}
use Rattle.rc_chain_guarded.proofs.lives.add_version.Goals as goal

pub add_version-requires : goal.add_version-requires
add_version-requires c =
    let room = c.has_room.ensures.room c.if-not-has_room.false in let yes = c.if-not-may_add.false in
    (omega arith, (c.may_add.ensures.there yes, (c.may_add.ensures.settled yes, (c.may_add.ensures.found yes, (omega arith, omega (arith, room))))))

pub returns : goal.returns
returns c =
    let m = c.has_room.new.chains in let n = c.add_version.new.self in let k = chain-there m c.args.id (c.may_add.ensures.there c.if-not-may_add.false) in
    known-over m n c.args.id c.args.phase k.0 k.1 c.add_version.ensures.added.chains c.args.known.now c.begin.new.self c.has_room.ensures.known c.begin.ensures.held c.begin.ensures.full
    (λ b e. elim (c.begin.ensures.bare b e) [ inl old ↦ inl old | inr this ↦ inr (this.0, this.1 ∙ c.versions-version.ensures k.0 k.1) ])
