-- The last table's number and one.
use Rattle.std.proofs.Common.{Some, subst}
use Rattle.rc_folder.specs.Tabled.{Tabled, IsNextNumber}
use Rattle.rc_folder.proofs.Next.{next_number_is, number_first}
use Rattle.rc_folder.proofs.folder.Folder.next_number.Goals as goal

pub returns-in-Some : goal.returns-in-Some
returns-in-Some c = subst (λ (f : Tabled). IsNextNumber f.infos c.checked_add.result) c.self.view_is (next_number_is c.self.inside.tables c.in-Some.number c.checked_add.result c.in-Some.ensures c.checked_add.ensures)

pub returns-in-None : goal.returns-in-None
returns-in-None c = subst (λ (f : Tabled). IsNextNumber f.infos (Some 1)) c.self.view_is (number_first c.self.inside.tables c.in-None.ensures)
