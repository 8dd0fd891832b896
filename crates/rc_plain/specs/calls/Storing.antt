-- How the sealed writes become a table.
use Rattle.std.specs.Prelude.{◌≡◌, ℕ, List, [], length, ◌==◌, ◌⊎◌, Option, if◌then◌else◌}
use Rattle.rc_outside.specs.Files.{Files}
use Rattle.rc_mutation.specs.declared.mutations.Partition.{Partition}
use Rattle.rc_mutation.specs.Fragments.{IsParts}
use Rattle.rc_lines.specs.declared.commands.Refusal.TheVariants.{WriteFault}
use Rattle.rc_lines.specs.declared.commands.Reply.{Reply}
use Rattle.rc_lines.specs.declared.commands.Reply.TheVariants as replies
use Rattle.rc_folder.specs.Tabled.{Tabled, IsTableAdded}
use Rattle.rc_plain.specs.Stands.{Keeping}

-- the writes are sealed, unless some are
abbrev pub sealed_all : Keeping → Keeping
sealed_all k = record k { sealed = if length k.sealed == 0 then k.active else k.sealed; active = if length k.sealed == 0 then [] else k.active }

-- what is known of the folder
abbrev pub folder_of : Keeping → Tabled
folder_of k = record { schema = k.schema; infos = k.infos }

-- the sealed writes stand in table n
pub record IsTableKept (files : Option Files) (k : Keeping) (n : ℕ) (files' : Option Files) (k' : Keeping) : Type 0 where
  pub parts : List Partition
  pub of_writes : IsParts parts k.sealed
  pub added : IsTableAdded files (folder_of k) n parts files' (folder_of k')
  pub keeps : k' ≡ record k { infos = k'.infos; sealed = [] }

-- the reply to a flush: the sealed writes stand in table n, or the store failed and nothing changed
abbrev pub IsFlushKept : Option Files → Keeping → ℕ → Option Files → Keeping → Reply → Type 0
IsFlushKept files k n files' k' reply =
    ((reply ≡ replies.Fine) × IsTableKept files k n files' k') ⊎ ((reply ≡ replies.Refused WriteFault) × (k' ≡ k) × (files' ≡ files))
