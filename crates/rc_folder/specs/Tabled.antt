-- What is known of a folder's tables, the number of the next one, how one more is added, and what the first ones say of a partition.
use Rattle.std.specs.Prelude.{◌≡◌, ℕ, List, [], ◌∷◌, ◌++◌, ◌<◌, ◌≤◌, length, take, map as list_map, Option, None, Some}
use Rattle.rc_outside.specs.Files.{Files}
use Rattle.rc_schema.specs.SchemaValue.{SchemaValue}
use Rattle.rc_mutation.specs.declared.mutations.Mutation.{Mutation}
use Rattle.rc_mutation.specs.declared.mutations.Partition.{Partition}
use Rattle.rc_tfile.specs.Before.{text}
use Rattle.rc_tfile.specs.Info.{info_of}
use Rattle.rc_tfile.specs.Stored.{with_file}
use Rattle.rc_tfile.specs.TableText.{whole_table, IsTable}
use Rattle.rc_tfile.specs.declared.info.TableInfo.{TableInfo}
use Rattle.rc_machine.specs.State.{State}
use Rattle.rc_machine.specs.Steps.{IsSaid, next_number, last_number}

-- the schema, and what is known of each table, by ascending number
pub record Tabled : Type 0 where
  pub schema : SchemaValue
  pub infos : List TableInfo

-- one more than the last of the tables' numbers, or 1; none behind the greatest number
abbrev pub IsNextNumber : List TableInfo → Option ℕ → Type 0
IsNextNumber infos None = last_number < next_number (list_map (λ i. i.number) infos)
IsNextNumber infos (Some n) = (n ≡ next_number (list_map (λ i. i.number) infos)) × (n ≤ last_number)

-- partitions stand in one more table, of number n: its file is the text of the table, and what its directory lists is known behind the others
pub record IsTableAdded (files : Option Files) (f : Tabled) (n : ℕ) (parts : List Partition) (files' : Option Files) (f' : Tabled) : Type 0 where
  pub is_table : IsTable (text (whole_table f.schema parts)) f.schema parts
  pub written : files' ≡ with_file files n (text (whole_table f.schema parts))
  pub keeps : f' ≡ record f { infos = f.infos ++ info_of n f.schema parts ∷ [] }

-- what the first tables of a state, of which so much is known, say of a partition: what the tables say to a reader that is opened, where there are no others
abbrev pub IsSaidByFirst : State → List TableInfo → List ℕ → List Mutation → Type 0
IsSaidByFirst m first key said = IsSaid (record m { tables = take (length first) m.tables; infos = first }) key said
