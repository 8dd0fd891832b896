use Rattle.std.proofs.Common.{[], ◌∷◌, arith}
use Rattle.lsa_tree_tests.proofs.rooms.furnish.Goals as goal

pub returns : goal.returns
returns c = λ _.
    let older = c.in-Some._older in let newer = c.in-Some-make_version._newer in let slots = c.args.list in
    let s = c.make_version-2.ensures.made newer c.in-Some-make_version.is slots (older ∷ []) newer [] [] (c.make_version.ensures.made older c.in-Some.is slots [] newer [] [] (c.begin.ensures.stands newer)) in
    (newer, (older, [], [], s, (λ r h. absurd (omega (arith, h.1)))))
