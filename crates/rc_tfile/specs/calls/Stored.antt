-- What a store has of a table that is being written, and why it is not written.
use Rattle.std.specs.Prelude.{ℕ, List, Option, Some, option_map}
use Rattle.rc_outside.specs.Files.{Files, Draft}
use Rattle.rc_outside.specs.declared.stores.StoreErr.{StoreErr}
use Rattle.rc_outside.specs.declared.stores.StoreErr.TheVariants as store
use Rattle.rc_tfile.specs.declared.writing.WriteErr.{WriteErr}
use Rattle.rc_tfile.specs.declared.writing.WriteErr.TheVariants.{Fault, NoMemory}

-- file n is being built and has these bytes so far, told where the files are
abbrev pub draft_so_far : Option Files → ℕ → List ℕ → Option (Option Draft)
draft_so_far files n bytes = Some (option_map (λ _. (n, bytes)) files)

-- what the store refused
abbrev pub write_err_of : StoreErr → WriteErr
write_err_of store.Fault = Fault
write_err_of store.NoMemory = NoMemory
