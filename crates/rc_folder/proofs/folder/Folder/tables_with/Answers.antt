-- What is planned of the table stands behind the others.
use Rattle.std.proofs.Common.{◌≡◌, ◌++◌, ◌∙◌, List, [], ◌∷◌, ap, subst}
use Rattle.std.specs.List.{AllByRecursion}
use Rattle.std.proofs.lemmas.Result.{IfOk-weaker}
use Rattle.rc_tfile.specs.Info.{info_of}
use Rattle.rc_tfile.specs.Items.{IsItem}
use Rattle.rc_tfile.specs.TableText.{whole_table}
use Rattle.rc_tfile.specs.declared.info.TableInfo.{TableInfo}
use Rattle.rc_folder.specs.Tabled.{Tabled}
use Rattle.rc_folder.proofs.folder.Folder.tables_with.Goals as goal

pub returns-clause-known : goal.returns-clause-known
returns-clause-known c =
    IfOk-weaker c.with.result _ _
    (λ (infos : List TableInfo) is.
    subst (λ (f : Tabled). infos ≡ f.infos ++ info_of c.args.number f.schema c.args.parts.now ∷ []) c.self.view_is
    (◌∙◌ {A = List TableInfo} is (ap (λ (info : TableInfo). c.self.inside.tables ++ info ∷ []) c.in_ok-info.ensures.info)))
    c.with.ensures

pub returns-clause-items : goal.returns-clause-items
returns-clause-items c =
    IfOk-weaker c.with.result _ _
    (λ (infos : List TableInfo) is. subst (λ (f : Tabled). AllByRecursion IsItem (whole_table f.schema c.args.parts.now)) c.self.view_is c.in_ok-info.ensures.items)
    c.with.ensures
