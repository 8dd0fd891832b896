-- Why a page is refused.
use Rattle.std.specs.Prelude.{Bool, cond}
use Rattle.rc_paging.specs.declared.pages.PageErr.{PageErr}
use Rattle.rc_paging.specs.declared.pages.PageErr.TheVariants.{Missing, NoMemory}

-- why a call was refused, by whether readings missed something: what was not read; else memory
abbrev pub why : Bool → PageErr
why missed = cond missed Missing NoMemory
