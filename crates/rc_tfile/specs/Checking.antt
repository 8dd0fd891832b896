-- What reading a file must answer, given what it holds.
use Rattle.std.specs.Prelude.{◌≡◌, ℕ, ◌+◌, ◌/◌, ◌≤◌, List, ◌++◌, length, Option, None, Some, Result, Ok, Err, ⊤}
use Rattle.std.specs.FinMap as map
use Rattle.rc_outside.specs.Files.{Files}
use Rattle.rc_schema.specs.SchemaValue.{SchemaValue}
use Rattle.rc_tfile.specs.declared.checking.CheckErr.{CheckErr}
use Rattle.rc_tfile.specs.declared.checking.CheckErr.TheVariants.{Fault, Damaged, OtherSchema, NoMemory}
use Rattle.rc_items.specs.Items.{HeadItem, item_code, IsItem}

-- file n has these bytes, where the files are told
abbrev pub IsContent : Option Files → ℕ → List ℕ → Type 0
IsContent None n bytes = ⊥
IsContent (Some files) n bytes = map.get files n ≡ Some bytes

-- the bytes begin with the head of a schema
abbrev pub HasHead : List ℕ → SchemaValue → Type 0
HasHead bytes schema = (more : List ℕ) × IsItem (HeadItem schema) × (bytes ≡ item_code (HeadItem schema) ++ more)

-- what must be answered of the head of these bytes, unless the store fails or memory runs out
abbrev pub ChecksHead : List ℕ → Result SchemaValue CheckErr → Type 0
ChecksHead bytes (Ok schema) = HasHead bytes schema
ChecksHead bytes (Err (Damaged off)) = (off ≡ 0) × ((schema : SchemaValue) → HasHead bytes schema → ⊥)
ChecksHead bytes (Err OtherSchema) = ⊥
ChecksHead bytes (Err Fault) = ⊤
ChecksHead bytes (Err NoMemory) = ⊤

-- the store failed, or memory ran out
abbrev pub IsHostError : CheckErr → Type 0
IsHostError Fault = ⊤
IsHostError (Damaged off) = ⊥
IsHostError OtherSchema = ⊥
IsHostError NoMemory = ⊤

-- so much holds of an error that is a fault
abbrev pub OnCheckFault : CheckErr → Type 0 → Type 0
OnCheckFault Fault P = P
OnCheckFault (Damaged off) P = ⊤
OnCheckFault OtherSchema P = ⊤
OnCheckFault NoMemory P = ⊤

-- the count of asked ranges rises by at most one for each 2048 bytes of the file, and two
abbrev pub AsksFew : (before now : ℕ) → List ℕ → Type 0
AsksFew before now bytes = now ≤ before + (length bytes / 2048 + 2)
