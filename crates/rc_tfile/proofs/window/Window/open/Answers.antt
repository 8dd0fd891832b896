-- Nothing is read yet.
use Rattle.std.proofs.Common.{refl, rules, subst}
use Rattle.rc_tfile.specs.Checking.{IsContent}
use Rattle.rc_tfile.proofs.Ahead.{at_start}
use Rattle.rc_tfile.proofs.window.Window.open.Goals as goal

pub returns-in-Ok-clause-told : goal.returns-in-Ok-clause-told
returns-in-Ok-clause-told g c = λ content here.
    let is = subst (λ f. IsContent f c.args.n content) c.in-Ok.ensures.store.0 here in
    at_start (g.W.Store.files c.args.store.now) c.args.n content _ is c.in-Ok.ensures.size refl (search rules)
