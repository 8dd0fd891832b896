use Rattle.std.proofs.Common.{◌<◌, ◌≤◌, ◌∙◌, ◌++◌, ◌∷◌, [], length, arith, sym, ap}
use Rattle.rc_shell.specs.calls.Feed.{kept_front}
use Rattle.rc_shell.proofs.Serving.{kept-push, kept-full}
use Rattle.rc_shell.proofs.session.Session.hold.Goals as goal

pub returns-in-Ok-clause-held : goal.returns-in-Ok-clause-held
returns-in-Ok-clause-held g c = λ line is.
    let few : length (kept_front line) < 65537 = omega (arith, ap length is) in
    c.in-Ok.ensures.items ∙ ap (λ t. t ++ c.args.byte ∷ []) is ∙ sym (kept-push line c.args.byte few)

pub returns-clause-held : goal.returns-clause-held
returns-clause-held g c = λ line is.
    let many : 65537 ≤ length (kept_front line) = omega (arith, ap length is) in
    is ∙ sym (kept-full line c.args.byte many)
