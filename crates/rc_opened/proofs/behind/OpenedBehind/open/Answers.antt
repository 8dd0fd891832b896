-- The answer without its static line is left behind the settled lines.
use Rattle.std.proofs.Common.{◌++◌, arith}
use Rattle.rc_query.specs.Answer.{answer}
use Rattle.rc_opened.proofs.InFront.{passed_answer, whole_answer}
use Rattle.rc_opened.proofs.behind.OpenedBehind.open.Goals as goal

pub open-requires : goal.open-requires
open-requires g c = (omega arith, ((c.requires.2, c.requires.3, c.requires.4.sealed, c.requires.4.active), (c.requires.4.tabled, c.requires.4.mutation, c.requires.4.stream)))

pub pass_static-requires : goal.pass_static-requires
pass_static-requires g c =
    let o = c.requires.4 in
    (omega arith, (answer (c.requires.1 ++ (c.requires.2 ++ c.requires.3)) c.args.slice.now, c.in-Ok.ensures.gives c.requires.0 o.tabled c.requires.1 c.requires.2 c.requires.3 o.mutation o.stream o.joined o.of_sealed o.of_active o.sealed o.active))

pub returns-in-None-clause-gives : goal.returns-in-None-clause-gives
returns-in-None-clause-gives g c = λ schema said writes later o.
    whole_answer _ c.open.new.chains c.args.settled (said ++ (writes ++ later)) c.args.slice.now c.in-Ok.opened _ _ c.in-None.is c.empty.ensures c.empty-in-None.ensures
    (c.in-Ok.ensures.gives schema o.tabled said writes later o.mutation o.stream o.joined o.of_sealed o.of_active o.sealed o.active)

pub returns-in-Some-clause-gives : goal.returns-in-Some-clause-gives
returns-in-Some-clause-gives g c = λ schema said writes later o.
    passed_answer _ c.pass_static.new.chains c.args.settled c.in-Some.settled (said ++ (writes ++ later)) c.args.slice.now c.pass_static.result c.in-Some.is
    (c.pass_static.ensures.gives (answer (said ++ (writes ++ later)) c.args.slice.now) (c.in-Ok.ensures.gives schema o.tabled said writes later o.mutation o.stream o.joined o.of_sealed o.of_active o.sealed o.active))
