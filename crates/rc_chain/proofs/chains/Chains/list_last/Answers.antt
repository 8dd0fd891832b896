use Rattle.std.proofs.Common.{[], Option, Some, None, refl, sym, subst, arith}
use Rattle.std.specs.Prelude.{Contains}
use Rattle.rc_position.specs.declared.positions.Pos.{Pos}
use Rattle.rc_memory.specs.Memory.{Memory}
use Rattle.rc_memory.specs.Changes.{Nowhere, member_at}
use Rattle.rc_memory.specs.laws.Still.{still-itself}
use Rattle.rc_memory.specs.Lists.{elem-here}
use Rattle.rc_chain.proofs.Ended.{last-one, may-last, same-listed, same-objects, true-false, under-version}
use Rattle.rc_chain.proofs.chains.Chains.list_last.Goals as goal

pub last_inner-requires : goal.last_inner-requires
last_inner-requires g c =
    (omega arith, under-version c.args.self.now c.args.id c.args.number c.requires)

pub is_listed-requires : goal.is_listed-requires
is_listed-requires g c =
    (omega arith, (member_at c.args.id c.args.number (Some c.in-Some.ensures.some.0), c.in-Some.ensures.some.1))

pub list-requires : goal.list-requires
list-requires g c =
    let l = c.in-Some.ensures.some in let w = member_at c.args.id c.args.number (Some l.0) in
    (omega arith, (w, l.1, (λ on. true-false c.is_listed.result ((c.is_listed.ensures w l.1).1 on) c.if-not-is_listed.true), may-last c.args.self.now c.known.ensures.sound c.known.ensures.versions c.args.id c.args.number c.requires (Some l.0) l.2))

pub returns-in-None-clause-listed : goal.returns-in-None-clause-listed
returns-in-None-clause-listed g c =
    λ k v e at. (None, (λ p last. absurd (c.in-None.ensures.none k v e at p last)), same-listed c.args.self.now)

pub returns-in-None-clause-there : goal.returns-in-None-clause-there
returns-in-None-clause-there g c =
    λ k v e at p last. absurd (c.in-None.ensures.none k v e at p last)

pub returns-in-None-clause-objects : goal.returns-in-None-clause-objects
returns-in-None-clause-objects g c =
    same-objects c.args.self.now.region

pub returns-in-None-clause-still : goal.returns-in-None-clause-still
returns-in-None-clause-still g c =
    still-itself Nowhere c.args.self.now

pub returns-then-not-is_listed-clause-listed : goal.returns-then-not-is_listed-clause-listed
returns-then-not-is_listed-clause-listed g c =
    λ k v e at. let l = c.in-Some.ensures.some in let w = member_at c.args.id c.args.number (Some l.0) in
    (Some w, (Some l.0, l.2 k v e at, refl, (λ on. true-false c.is_listed.result ((c.is_listed.ensures w l.1).1 on) c.if-not-is_listed.true)), c.list.ensures.listed w l.1)

pub returns-then-not-is_listed-clause-there : goal.returns-then-not-is_listed-clause-there
returns-then-not-is_listed-clause-there g c =
    λ k v e at p last. let l = c.in-Some.ensures.some in let w = member_at c.args.id c.args.number (Some l.0) in
    subst (λ (z : Option Pos). Contains c.list.new.self.recency (member_at c.args.id c.args.number z)) (last-one v (Some l.0) p (l.2 k v e at) last) (subst (λ (m : Memory). Contains m.recency w) (sym (c.list.ensures.listed w l.1)) (elem-here c.args.self.now.recency [] w))

pub returns-else-not-is_listed-clause-listed : goal.returns-else-not-is_listed-clause-listed
returns-else-not-is_listed-clause-listed g c =
    λ k v e at. let l = c.in-Some.ensures.some in let w = member_at c.args.id c.args.number (Some l.0) in
    (None, (λ p last. subst (λ (z : Option Pos). Contains c.args.self.now.recency (member_at c.args.id c.args.number z)) (last-one v (Some l.0) p (l.2 k v e at) last) ((c.is_listed.ensures w l.1).0 c.if-not-is_listed.false)), same-listed c.args.self.now)

pub returns-else-not-is_listed-clause-there : goal.returns-else-not-is_listed-clause-there
returns-else-not-is_listed-clause-there g c =
    λ k v e at p last. let l = c.in-Some.ensures.some in let w = member_at c.args.id c.args.number (Some l.0) in
    subst (λ (z : Option Pos). Contains c.args.self.now.recency (member_at c.args.id c.args.number z)) (last-one v (Some l.0) p (l.2 k v e at) last) ((c.is_listed.ensures w l.1).0 c.if-not-is_listed.false)

pub returns-else-not-is_listed-clause-objects : goal.returns-else-not-is_listed-clause-objects
returns-else-not-is_listed-clause-objects g c =
    same-objects c.args.self.now.region

pub returns-else-not-is_listed-clause-still : goal.returns-else-not-is_listed-clause-still
returns-else-not-is_listed-clause-still g c =
    still-itself Nowhere c.args.self.now
