-- The last of the tables is shown last.
use Rattle.std.proofs.Common.{Some, Option, option_map, ap, ◌∙◌, ℕ, Global}
use Rattle.std.specs.declared.rc.Rc.{Rc}
use Rattle.rc_tfile.specs.declared.info.TableInfo.{TableInfo}
use Rattle.rc_tables.proofs.Numbered.{last_of}
use Rattle.rc_tables.proofs.sets.TableSet.last_number.Goals as goal

abbrev number_of : Rc TableInfo Global → ℕ
number_of t = t.value.number

pub returns-in-Some : goal.returns-in-Some
returns-in-Some c =
    ◌∙◌ {A = Option ℕ} (ap (λ (i : TableInfo). Some i.number) c.deref.ensures)
    (◌∙◌ {A = Option ℕ} (ap (option_map number_of) c.in-Some.ensures.value) (last_of (λ (t : Rc TableInfo Global). t.value) c.tables.result.now c.args.self.now c.tables.ensures))

pub returns-in-None : goal.returns-in-None
returns-in-None c = ◌∙◌ {A = Option ℕ} (ap (option_map number_of) c.in-None.ensures.value) (last_of (λ (t : Rc TableInfo Global). t.value) c.tables.result.now c.args.self.now c.tables.ensures)
