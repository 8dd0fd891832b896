use Rattle.std.proofs.Common.{Some, sym, ◌∙◌, ap, option_copied}
use Rattle.rc_outside.proofs.Shelved.{get-lookup}
use Rattle.rc_outside.proofs.files.Shelf.get.Goals as goal

pub returns-in-Some : goal.returns-in-Some
returns-in-Some c =
    rw (← c.self.view_is, get-lookup c.self.inside.files.entries c.args.n) (ap Some c.as_slice.ensures ∙ ap option_copied (sym c.in-Some.is) ∙ c.get.ensures.value)

pub returns-in-None : goal.returns-in-None
returns-in-None c =
    rw (← c.self.view_is, get-lookup c.self.inside.files.entries c.args.n) (ap option_copied (sym c.in-None.is) ∙ c.get.ensures.value)
