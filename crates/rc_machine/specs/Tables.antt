-- Which tables a folder holds, what their directories list, and which of its files is the first bad one.
use Rattle.std.specs.Prelude.{◌≡◌, ℕ, ◌<◌, List, map as list_map, Option, Some, MatchOption, All}
use Rattle.std.specs.List.Sorted.{IsStrictlyIncreasing}
use Rattle.std.specs.FinMap as map
use Rattle.rc_outside.specs.Files.{Files}
use Rattle.rc_schema.specs.SchemaValue.{SchemaValue}
use Rattle.rc_mutation.specs.declared.mutations.Partition.{Partition}
use Rattle.rc_mutation.specs.Source.{IsMutation}
use Rattle.rc_tfile.specs.declared.info.TableInfo.{TableInfo}
use Rattle.rc_tfile.specs.Info.{info_of}
use Rattle.rc_tfile.specs.TableText.{IsTable, IsOtherSchema, FirstDamage}
use Rattle.rc_machine.specs.State.{Table, numbers}

-- the table's file is there and is its text, and each of its partitions says what a mutation says
abbrev pub IsStoredTable : Files → SchemaValue → Table → Type 0
IsStoredTable files schema t = (bytes : List ℕ) × (map.get files t.0 ≡ Some bytes) × IsTable bytes schema t.1 × All (λ p. IsMutation p.change) t.1

-- the tables are those of a folder: each file is one, and no other is. Of a folder that is not told, they have ascending numbers
abbrev pub AreTables : Option Files → SchemaValue → List Table → Type 0
AreTables told schema tables = MatchOption told (IsStrictlyIncreasing (numbers tables)) (λ files. (numbers tables ≡ map.keys files) × All (IsStoredTable files schema) tables)

-- the directories of the tables list so. Of a folder that is not told, what is known of them is what was read or written
abbrev pub AreListed : Option Files → SchemaValue → List Table → List TableInfo → Type 0
AreListed told schema tables infos = MatchOption told (list_map (λ i. i.number) infos ≡ numbers tables) (λ files. infos ≡ list_map (λ t. info_of t.0 schema t.1) tables)

-- file n is the first of the folder, by number, that is no table of the schema: its first damage is at an offset, or it has another schema
pub record IsFirstBad (files : Files) (schema : SchemaValue) (n : ℕ) (damage : Option ℕ) : Type 0 where
  pub bytes : List ℕ
  pub here : map.get files n ≡ Some bytes
  pub bad : MatchOption damage (IsOtherSchema bytes schema) (FirstDamage bytes schema)
  pub earlier : (k : ℕ) (more : List ℕ) → k < n → map.get files k ≡ Some more → (parts : List Partition) × IsTable more schema parts
