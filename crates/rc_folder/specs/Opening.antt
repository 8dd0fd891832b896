-- What opening a folder must answer.
use Rattle.std.specs.Prelude.{Option, None, Some, IfSome, ⊤}
use Rattle.rc_outside.specs.Files.{Files}
use Rattle.rc_schema.specs.SchemaValue.{SchemaValue}
use Rattle.rc_folder.specs.declared.opening.OpenErr.{OpenErr}
use Rattle.rc_folder.specs.declared.opening.OpenErr.TheVariants as open_err
use Rattle.rc_machine.specs.Tables.{IsFirstBad}

-- what a refusal says of the folder, where it is told: the first file that is no table of the schema is this one
abbrev pub IsOpeningRefused : Option Files → SchemaValue → OpenErr → Type 0
IsOpeningRefused files schema open_err.Fault = ⊤
IsOpeningRefused files schema (open_err.Damaged table offset) = IfSome files (λ told. IsFirstBad told schema table (Some offset))
IsOpeningRefused files schema (open_err.OtherSchema table) = IfSome files (λ told. IsFirstBad told schema table None)
IsOpeningRefused files schema open_err.NoMemory = ⊤

-- so much holds of an error that is a fault
abbrev pub OnOpenFault : OpenErr → Type 0 → Type 0
OnOpenFault open_err.Fault P = P
OnOpenFault e P = ⊤
