-- What was found while a whole file is walked from its head to its end.
--     IsRefusalOf    what a refusal says of the file
use Rattle.std.specs.Prelude.{◌≡◌, ℕ, List, All, Result, Ok, Err, ⊤}
use Rattle.rc_schema.specs.SchemaValue.{SchemaValue}
use Rattle.rc_mutation.specs.declared.mutations.Partition.{Partition}
use Rattle.rc_mutation.specs.Source.{IsMutation}
use Rattle.rc_tfile.specs.declared.info.TableInfo.{TableInfo}
use Rattle.rc_tfile.specs.declared.checking.CheckErr.{CheckErr}
use Rattle.rc_tfile.specs.declared.checking.CheckErr.TheVariants.{Fault, Damaged, OtherSchema, NoMemory}
use Rattle.rc_items.specs.TableText.{IsTable, IsOtherSchema, FirstDamage}
use Rattle.rc_tfile.specs.Info.{info_of}

-- what a refusal says of these bytes
abbrev pub IsRefusalOf : List ℕ → SchemaValue → CheckErr → Type 0
IsRefusalOf bytes schema Fault = ⊤
IsRefusalOf bytes schema (Damaged off) = FirstDamage bytes schema off
IsRefusalOf bytes schema OtherSchema = IsOtherSchema bytes schema
IsRefusalOf bytes schema NoMemory = ⊤

-- what must be answered of these bytes as file n: partitions that hold together, of which they are the table, or what is wrong with them
abbrev pub ChecksTable : List ℕ → ℕ → SchemaValue → Result TableInfo CheckErr → Type 0
ChecksTable bytes n schema (Ok info) = (parts : List Partition) × All (λ p. IsMutation p.change) parts × IsTable bytes schema parts × (info ≡ info_of n schema parts)
ChecksTable bytes n schema (Err e) = IsRefusalOf bytes schema e
