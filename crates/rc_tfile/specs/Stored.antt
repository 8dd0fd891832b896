-- What a store holds while a table is written, and what it holds then.
use Rattle.std.specs.Prelude.{ℕ, List, Option, option_map, ⊤}
use Rattle.std.specs.FinMap as map
use Rattle.rc_outside.specs.Files.{Files}
use Rattle.rc_tfile.specs.declared.writing.WriteErr.{WriteErr}
use Rattle.rc_tfile.specs.declared.writing.WriteErr.TheVariants.{Fault, NoMemory}

-- the files with file n besides, told where they are
abbrev pub with_file : Option Files → ℕ → List ℕ → Option Files
with_file files n bytes = option_map (λ told. map.insert told n bytes) files

-- so much holds of an error that is a fault
abbrev pub OnWriteFault : WriteErr → Type 0 → Type 0
OnWriteFault Fault P = P
OnWriteFault NoMemory P = ⊤
