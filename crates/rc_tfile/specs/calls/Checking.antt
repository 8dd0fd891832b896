-- What a check of a file's head answers.
use Rattle.std.specs.Prelude.{◌≡◌, ℕ, List, length, Result, Ok, Err}
use Rattle.rc_schema.specs.SchemaValue.{SchemaValue}
use Rattle.rc_tfile.specs.declared.checking.CheckErr.{CheckErr}
use Rattle.rc_items.specs.Items.{HeadItem, item_code}
use Rattle.rc_tfile.specs.Checking.{HasHead, ChecksHead}

-- the same of a head and its length
abbrev pub ChecksSized : List ℕ → Result (SchemaValue × ℕ) CheckErr → Type 0
ChecksSized bytes (Ok found) = HasHead bytes found.0 × (found.1 ≡ length (item_code (HeadItem found.0)))
ChecksSized bytes (Err e) = ChecksHead bytes (Err e)
