-- The machine stands over a folder also once its writes are sealed, once they stand in one more table, and once there is a write more or other readers.
use Rattle.std.proofs.Common.{◌≡◌, ◌==◌, ℕ, ◌≤◌, ◌+◌, Bool, true, false, cond, List, ◌++◌, ◌∷◌, [], length, map, Option, Some, All, option_map, refl, sym, ap, subst, ◌∙◌, arith}
use Rattle.std.specs.FinMap as finite
use Rattle.std.proofs.lemmas.List.{length-append}
use Rattle.std.proofs.lemmas.List.Elements.{All-append, All-cons}
use Rattle.rc_outside.specs.Files.{Files, IsNoFile}
use Rattle.rc_schema.specs.SchemaValue.{SchemaValue}
use Rattle.rc_mutation.specs.declared.mutations.Partition.{Partition}
use Rattle.rc_mutation.specs.declared.mutations.Write.{Write}
use Rattle.rc_mutation.specs.Source.{IsMutation}
use Rattle.rc_tfile.specs.declared.info.TableInfo.{TableInfo}
use Rattle.rc_tfile.specs.Before.{text}
use Rattle.rc_tfile.specs.Info.{info_of}
use Rattle.rc_tfile.specs.TableText.{whole_table, IsTable}
use Rattle.rc_lines.specs.Fits.{CommandFits}
use Rattle.rc_lines.specs.declared.commands.Command.TheVariants.{Put}
use Rattle.rc_machine.specs.State.{Reader, State, numbers}
use Rattle.rc_machine.specs.Standing.{IsOver}
use Rattle.rc_machine.specs.Steps.{next_number, sealing, with_table, without_sealed}
use Rattle.rc_machine.specs.laws.Folder.{is_no_file}
use Rattle.rc_folder.specs.Tabled.{Tabled, IsTableAdded, IsNextNumber}
use Rattle.rc_folder.specs.laws.Ahead.{numbers_known, tables_more, listed_more}

-- ---- the next number

-- it is the state's
pub next_is : (told : Option Files) (schema : SchemaValue) (infos : List TableInfo) (m : State) (n : ℕ) → IsOver told schema infos m → n ≡ next_number (map (λ (i : TableInfo). i.number) infos) → n ≡ next_number (numbers m.tables)
next_is told schema infos m n over e =
    e ∙ ap (λ (infos : List TableInfo). next_number (map (λ (i : TableInfo). i.number) infos)) (sym over.infos) ∙ ap next_number (numbers_known m.files m.schema m.tables m.infos over.listed)

-- it is no file's
pub fresh : (told : Option Files) (schema : SchemaValue) (infos : List TableInfo) (m : State) (n : ℕ) → IsOver told schema infos m → IsNextNumber infos (Some n) → IsNoFile told n
fresh told schema infos m n over is =
    subst (λ files. IsNoFile files n) over.files (is_no_file m.files m.schema m.tables n over.tables (next_is told schema infos m n over is.0))

-- ---- sealed writes

sealing_at : (m : State) (b : Bool) → (m.stored == m.sealed) ≡ b → sealing m ≡ cond b (length m.log) m.sealed
sealing_at m b e = ap (λ b. cond b (length m.log) m.sealed) e

sealing_within : (m : State) (b : Bool) → (m.stored == m.sealed) ≡ b → m.stored ≤ m.sealed → m.sealed ≤ length m.log → (m.stored ≤ sealing m) × (sealing m ≤ length m.log)
sealing_within m true e before h = (let all = sealing_at m true e in (omega (arith, all, before, h), omega (arith, all)))
sealing_within m false e before h = (let all = sealing_at m false e in (omega (arith, all, before), omega (arith, all, h)))

-- the writes are sealed, unless some are
pub over_sealed : (told : Option Files) (schema : SchemaValue) (infos : List TableInfo) (m : State) → IsOver told schema infos m → IsOver told schema infos (record m { sealed = sealing m })
over_sealed told schema infos m over =
    let within = sealing_within m (m.stored == m.sealed) refl over.stored over.sealed in
    record {
      schema = over.schema;
      files = over.files;
      infos = over.infos;
      tables = over.tables;
      listed = over.listed;
      stored = within.0;
      sealed = within.1;
      fit = over.fit;
    }

-- ---- one more table

-- the sealed writes stand in a table of the next number
pub over_added : (told told' : Option Files) (f f' : Tabled) (n : ℕ) (m : State) (parts : List Partition) → IsOver told f.schema f.infos m → IsNextNumber f.infos (Some n) → IsTableAdded told f n parts told' f' → All (λ p. IsMutation p.change) parts
    → IsOver told' f'.schema f'.infos (with_table m parts)
over_added told told' f f' n m parts over is added whole =
    let new : State = with_table m parts in
    let number : next_number (numbers m.tables) ≡ n = sym (next_is told f.schema f.infos m n over is.0) in
    let is_table : IsTable (text (whole_table m.schema parts)) m.schema parts = subst (λ schema. IsTable (text (whole_table schema parts)) schema parts) (sym over.schema) added.is_table in
    let within = sealing_within m (m.stored == m.sealed) refl over.stored over.sealed in
    subst (λ (f : Tabled). IsOver told' f.schema f.infos new) (sym added.keeps) (record {
      schema = over.schema;
      files = (λ j. option_map (λ told. finite.insert told (number j) (text (whole_table (over.schema j) parts))) (over.files j)) ∙ sym added.written;
      infos = λ j. over.infos j ++ info_of (number j) (over.schema j) parts ∷ [];
      tables = tables_more m.files m.schema m.tables (next_number (numbers m.tables)) parts over.tables refl is_table whole;
      listed = listed_more m.files new.files m.schema m.tables m.infos (next_number (numbers m.tables)) (text (whole_table m.schema parts)) parts over.listed refl;
      stored = within.0;
      sealed = within.1;
      fit = over.fit;
    })

-- and nothing of it is left to the cache
pub over_let_go : (told : Option Files) (schema : SchemaValue) (infos : List TableInfo) (m : State) → IsOver told schema infos m → IsOver told schema infos (without_sealed m)
over_let_go told schema infos m over = record {
  schema = over.schema;
  files = over.files;
  infos = over.infos;
  tables = over.tables;
  listed = over.listed;
  stored = omega arith;
  sealed = over.sealed;
  fit = over.fit;
}

-- ---- a write

-- one write more that fits
pub over_written : (told : Option Files) (schema : SchemaValue) (infos : List TableInfo) (m : State) (w : Write) → CommandFits schema (Put w) → IsOver told schema infos m → IsOver told schema infos (record m { log = m.log ++ w ∷ [] })
over_written told schema infos m w fits over =
    let longer : length (m.log ++ w ∷ []) ≡ length m.log + 1 = length-append m.log (w ∷ []) in
    record {
      schema = over.schema;
      files = over.files;
      infos = over.infos;
      tables = over.tables;
      listed = over.listed;
      stored = over.stored;
      sealed = omega (arith, over.sealed, longer);
      fit =
          All-append (λ w. CommandFits m.schema (Put w)) m.log (w ∷ []) over.fit
          (All-cons (λ w. CommandFits m.schema (Put w)) w [] (subst (λ schema. CommandFits schema (Put w)) (sym over.schema) fits) (λ i d l. absurd (omega arith)));
    }

-- ---- readers

-- other readers
pub over_reading : (told : Option Files) (schema : SchemaValue) (infos : List TableInfo) (m : State) (readers : List (ℕ × Reader)) → IsOver told schema infos m → IsOver told schema infos (record m { readers = readers })
over_reading told schema infos m readers over = record { schema = over.schema; files = over.files; infos = over.infos; tables = over.tables; listed = over.listed; stored = over.stored; sealed = over.sealed; fit = over.fit }
