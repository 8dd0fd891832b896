-- Where no later table lists the key the first ones say all.
use Rattle.std.proofs.Common.{◌∙◌, sym, ap, subst}
use Rattle.rc_machine.specs.Standing.{IsOver}
use Rattle.rc_folder.specs.Tabled.{Tabled}
use Rattle.rc_folder.proofs.Since.{said_since}
use Rattle.rc_folder.proofs.folder.Folder.lists_since.Goals as goal

pub returns-clause-none : goal.returns-clause-none
returns-clause-none c = λ no files m later said over are first.
    said_since c.args.key.now c.self.inside.schema c.self.inside.tables c.args.first.now (c.lists_behind.ensures.none no) files m later said
    (subst (λ (f : Tabled). IsOver files f.schema f.infos m) (sym c.self.view_is) over)
    (ap (λ (f : Tabled). f.infos) c.self.view_is ∙ are) first
