use Rattle.std.proofs.Common.{Some, sym, subst, arith}
use Rattle.std.specs.Prelude.{Contains}
use Rattle.rc_position.specs.Position.{row_pos}
use Rattle.rc_memory.specs.Lists.{elem-here, elem-split}
use Rattle.rc_memory.specs.Changes.{Nowhere, member_at}
use Rattle.rc_memory.specs.laws.Still.{still-itself}
use Rattle.rc_chain.proofs.Ended.{same-objects, true-false}
use Rattle.rc_chain.proofs.Touching.{unfound}
use Rattle.rc_chain.proofs.chains.Chains.touch_one.Goals as goal

pub is_listed-requires : goal.is_listed-requires
is_listed-requires g c =
    (omega arith, ((member_at c.args.id c.args.number (Some (row_pos c.args.key.now))), c.in-Some.ensures))

pub touch-requires : goal.touch-requires
touch-requires g c =
    let k = elem-split c.args.self.now.recency (member_at c.args.id c.args.number (Some (row_pos c.args.key.now))) ((c.is_listed.ensures (member_at c.args.id c.args.number (Some (row_pos c.args.key.now))) c.in-Some.ensures).0 c.if-is_listed.true) in (omega arith, ((member_at c.args.id c.args.number (Some (row_pos c.args.key.now))), k.0, k.1, k.2, c.in-Some.ensures))

pub returns-then-is_listed-clause-touched : goal.returns-then-is_listed-clause-touched
returns-then-is_listed-clause-touched g c =
    λ front back e. c.touch.ensures.touched (member_at c.args.id c.args.number (Some (row_pos c.args.key.now))) front back e c.in-Some.ensures

pub returns-then-is_listed-clause-unlisted : goal.returns-then-is_listed-clause-unlisted
returns-then-is_listed-clause-unlisted g c =
    λ off. absurd (off ((c.is_listed.ensures (member_at c.args.id c.args.number (Some (row_pos c.args.key.now))) c.in-Some.ensures).0 c.if-is_listed.true))

pub returns-else-is_listed-clause-touched : goal.returns-else-is_listed-clause-touched
returns-else-is_listed-clause-touched g c =
    λ front back e. absurd (true-false c.is_listed.result ((c.is_listed.ensures (member_at c.args.id c.args.number (Some (row_pos c.args.key.now))) c.in-Some.ensures).1 (subst (λ l. Contains l (member_at c.args.id c.args.number (Some (row_pos c.args.key.now)))) (sym e) (elem-here front back (member_at c.args.id c.args.number (Some (row_pos c.args.key.now)))))) c.if-is_listed.false)

pub returns-else-is_listed-clause-objects : goal.returns-else-is_listed-clause-objects
returns-else-is_listed-clause-objects g c =
    same-objects c.args.self.now.region

pub returns-else-is_listed-clause-still : goal.returns-else-is_listed-clause-still
returns-else-is_listed-clause-still g c =
    still-itself Nowhere c.args.self.now

pub returns-in_default-clause-touched : goal.returns-in_default-clause-touched
returns-in_default-clause-touched g c =
    λ front back e. absurd (unfound c.args.self.now (member_at c.args.id c.args.number (Some (row_pos c.args.key.now))) c.keyed_entry.result c.in_default.not-Some c.keyed_entry.ensures (subst (λ l. Contains l (member_at c.args.id c.args.number (Some (row_pos c.args.key.now)))) (sym e) (elem-here front back (member_at c.args.id c.args.number (Some (row_pos c.args.key.now))))))

pub returns-in_default-clause-objects : goal.returns-in_default-clause-objects
returns-in_default-clause-objects g c =
    same-objects c.args.self.now.region

pub returns-in_default-clause-still : goal.returns-in_default-clause-still
returns-in_default-clause-still g c =
    still-itself Nowhere c.args.self.now
