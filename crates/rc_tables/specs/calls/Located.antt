-- What is answered of the directory of one table while a partition is looked for.
use Rattle.std.specs.Prelude.{◌≡◌, ℕ, ◌+◌, List, ◌∷◌, ◌++◌, length, drop, All, Option, ⊤}
use Rattle.std.specs.List.{flat_map}
use Rattle.rc_outside.specs.Files.{Files}
use Rattle.rc_schema.specs.SchemaValue.{SchemaValue}
use Rattle.rc_mutation.specs.declared.mutations.Partition.{Partition}
use Rattle.rc_mutation.specs.Source.{IsMutation}
use Rattle.rc_tfile.specs.declared.info.PartRef.{PartRef}
use Rattle.rc_tfile.specs.Items.{item_code}
use Rattle.rc_tfile.specs.Before.{offset}
use Rattle.rc_tfile.specs.Checking.{IsContent}
use Rattle.rc_tfile.specs.Info.{info_of}
use Rattle.rc_stream.specs.declared.streams.StreamErr.{StreamErr}
use Rattle.rc_stream.specs.declared.streams.StreamErr.TheVariants.{Fault, Damaged, NoMemory}
use Rattle.rc_tfile.specs.TableText.{IsTable, items_to_stop, part_items}
use Rattle.rc_tables.specs.Located.{SaysNoSpan}

-- file n is a table of partitions, of which p is one: the directory begins at an offset, and lists p and those behind it so
pub record IsLocated (files : Option Files) (n dir : ℕ) (listed : List PartRef) (p : Partition) : Type 0 where
  pub schema : SchemaValue
  pub before : List Partition
  pub behind : List Partition
  pub bytes : List ℕ
  pub content : IsContent files n bytes
  pub table : IsTable bytes schema (before ++ p ∷ behind)
  pub mutations : All (λ q. IsMutation q.change) (before ++ p ∷ behind)
  pub directory : dir ≡ offset (items_to_stop schema (before ++ p ∷ behind))
  pub refs : listed ≡ drop (length before) ((info_of n schema (before ++ p ∷ behind)).parts)

-- the same of a table of this schema
abbrev pub IsLocatedOf : Option Files → SchemaValue → ℕ → ℕ → List PartRef → Partition → Type 0
IsLocatedOf files schema n dir listed p = (is : IsLocated files n dir listed p) × (is.schema ≡ schema)

-- the items of p lie in file n from one offset up to another
pub record IsSpan (files : Option Files) (n : ℕ) (p : Partition) (from to : ℕ) : Type 0 where
  pub front : List ℕ
  pub behind : List ℕ
  pub content : IsContent files n (front ++ (flat_map item_code (part_items p) ++ behind))
  pub begins : from ≡ length front
  pub ends : to ≡ from + length (flat_map item_code (part_items p))

-- the store failed, or memory was refused
abbrev pub IsStreamHostError : StreamErr → Type 0
IsStreamHostError Fault = ⊤
IsStreamHostError (Damaged file offset) = ⊥
IsStreamHostError NoMemory = ⊤

-- Damaged names file n, and where bytes of the directory begin that were read and contradict the table as checked
abbrev pub IsAtSpan : ℕ → ℕ → PartRef → List PartRef → StreamErr → Type 0
IsAtSpan n dir here later Fault = ⊤
IsAtSpan n dir here later (Damaged file offset) = (file ≡ n) × (offset ≡ here.dir_off) × SaysNoSpan dir here later
IsAtSpan n dir here later NoMemory = ⊤
