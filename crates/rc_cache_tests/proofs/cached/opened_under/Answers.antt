use Rattle.std.proofs.Common.{[], ◌∷◌}
use Rattle.std.proofs.lemmas.Option.{IfSome_then}
use Rattle.std.proofs.lemmas.Result.{IfOk-weaker}
use Rattle.rc_cache_tests.proofs.Written.{headless-one}
use Rattle.rc_cache_tests.proofs.cached.opened_under.Goals as goal

pub returns : goal.returns
returns c =
    let schema = c.args.schema.now in let change = c.args.change.now in
    let headless = headless-one schema change c.requires.schema (c.fits.ensures.small c.if-not-fits.false) c.requires.pt c.requires.statics (c.fits.ensures.change c.if-not-fits.false) in
    IfOk-weaker c.opened.result _ _ (λ o made. IfSome_then o made (λ s stands. stands schema (change ∷ []) headless)) c.opened.ensures
