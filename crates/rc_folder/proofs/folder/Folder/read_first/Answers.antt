-- The first tables can be read, and what they say is joined.
use Rattle.std.proofs.Common.{sym, ap, ◌∙◌, subst}
use Rattle.rc_tables.specs.Located.{WhereTold}
use Rattle.rc_tables.specs.Tables.{AreHeld}
use Rattle.rc_machine.specs.Standing.{IsOver}
use Rattle.rc_folder.specs.Tabled.{Tabled}
use Rattle.rc_folder.proofs.Held.{to_read, is_read}
use Rattle.rc_folder.proofs.folder.Folder.read_first.Goals as goal

pub read_joined-requires : goal.read_joined-requires
read_joined-requires g c =
    let r = c.requires in
    subst (λ (f : Tabled). WhereTold (g.W.Store.files c.args.store.now) (AreHeld (g.W.Store.files c.args.store.now) f.schema c.args.first.now)) (sym c.self.view_is)
    (to_read (g.W.Store.files c.args.store.now) c.args.self.now.schema c.args.self.now.infos c.args.first.now r.1 r.0 r.2 r.3)

pub returns-clause-said : goal.returns-clause-said
returns-clause-said g c = λ m later over e.
    is_read (g.W.Store.files c.args.store.now) c.self.inside.schema c.self.inside.tables c.args.first.now later c.args.key.now c.read_joined.result c.read_joined.ensures.joined c.read_joined.ensures.some m
    (subst (λ (f : Tabled). IsOver (g.W.Store.files c.args.store.now) f.schema f.infos m) (sym c.self.view_is) over)
    (ap (λ (f : Tabled). f.infos) c.self.view_is ∙ e)
