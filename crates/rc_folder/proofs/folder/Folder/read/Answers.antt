-- All tables are the first ones, behind which there are no others.
use Rattle.std.proofs.Common.{[], List, IfOk, sym, ap, subst, ◌∙◌, append-nil}
use Rattle.rc_mutation.specs.declared.mutations.Mutation.{Mutation}
use Rattle.rc_mutation.specs.Source.{IsJoinOf}
use Rattle.rc_folder.specs.Tabled.{IsSaidByFirst, Tabled}
use Rattle.rc_folder.proofs.Held.{all_read}
use Rattle.rc_folder.proofs.folder.Folder.read.Goals as goal

pub read_first-requires : goal.read_first-requires
read_first-requires g c = (c.requires.0, [], c.requires.1, sym (ap (λ (f : Tabled). f.infos) c.self.view_is) ∙ sym (append-nil c.self.inside.tables))

pub returns-clause-said : goal.returns-clause-said
returns-clause-said g c = λ m over.
    let known = ap (λ (f : Tabled). f.infos) c.self.view_is in
    all_read (g.W.Store.files c.args.store.now) c.args.self.now.schema c.args.self.now.infos c.args.key.now c.read_first.result m over
    (subst (λ infos. IfOk c.read_first.result (λ join. (said : List Mutation) × IsSaidByFirst m infos c.args.key.now said × IsJoinOf join said)) known
    (c.read_first.ensures.said m [] over (sym known ∙ sym (append-nil c.self.inside.tables))))
