-- What is answered of one file while a folder is opened.
use Rattle.std.specs.FinMap as map
use Rattle.std.specs.Prelude.{◌≡◌, ℕ, List, Option, None, Some, IfSome, ⊤}
use Rattle.rc_outside.specs.Files.{Files}
use Rattle.rc_schema.specs.SchemaValue.{SchemaValue}
use Rattle.rc_mutation.specs.declared.mutations.Partition.{Partition}
use Rattle.rc_tfile.specs.declared.info.TableInfo.{TableInfo}
use Rattle.rc_tfile.specs.Info.{info_of}
use Rattle.rc_tfile.specs.TableText.{IsOtherSchema, FirstDamage}
use Rattle.rc_folder.specs.declared.opening.OpenErr.{OpenErr}
use Rattle.rc_folder.specs.declared.opening.OpenErr.TheVariants as open_err
use Rattle.rc_machine.specs.Tables.{IsStoredTable}

-- file n is a table of partitions, where the folder is told, and this is known of it
abbrev pub IsChecked : Option Files → SchemaValue → ℕ → TableInfo → Type 0
IsChecked None schema n info = info.number ≡ n
IsChecked (Some files) schema n info = (parts : List Partition) × IsStoredTable files schema (n, parts) × (info ≡ info_of n schema parts)

-- what a refusal says of file n, where the folder is told: it is no table of the schema
abbrev pub IsBadFile : Option Files → SchemaValue → ℕ → OpenErr → Type 0
IsBadFile files schema n open_err.Fault = ⊤
IsBadFile files schema n (open_err.Damaged table offset) = (table ≡ n) × IfSome files (λ told. (bytes : List ℕ) × (map.get told n ≡ Some bytes) × FirstDamage bytes schema offset)
IsBadFile files schema n (open_err.OtherSchema table) = (table ≡ n) × IfSome files (λ told. (bytes : List ℕ) × (map.get told n ≡ Some bytes) × IsOtherSchema bytes schema)
IsBadFile files schema n open_err.NoMemory = ⊤
