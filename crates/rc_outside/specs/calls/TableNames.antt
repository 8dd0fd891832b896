-- The name of a table that is being built, and names as they are read.
use Rattle.std.specs.Prelude.{◌≡◌, ◌≢◌, ℕ, ◌^◌, ◌<◌, List, ◌++◌, Option, None, Some, codes, decimal, option_to_list}

-- the name of table n in the folder: `n.tbl`, the number in decimal
abbrev pub table_name : ℕ → List ℕ
table_name n = decimal n ++ codes ".tbl"

-- what a name means: the number of the table that has this name; none where it is that of no table
abbrev pub ReadsTableName : List ℕ → Option ℕ → Type 0
ReadsTableName name None = (n : ℕ) → 0 < n → n < 2 ^ 32 → name ≢ table_name n
ReadsTableName name (Some n) = (0 < n) × (name ≡ table_name n)

-- behind some numbers stands then that of a name, where it is that of a table
abbrev pub TakesTableName : (name old new : List ℕ) → Type 0
TakesTableName name old new = (number : Option ℕ) × ReadsTableName name number × (new ≡ old ++ option_to_list number)

-- the name of the file in which table n is built: `n.tmp`
abbrev pub draft_name : ℕ → List ℕ
draft_name n = decimal n ++ codes ".tmp"

-- the name of a file in the folder as it is reached from the working directory
abbrev pub in_folder : List ℕ → List ℕ
in_folder name = codes "tables/" ++ name

-- what a text means: the number from 1 on, of 32 bits, that it is in decimal; none where it is that of no such number
abbrev pub ReadsNumber : List ℕ → Option ℕ → Type 0
ReadsNumber text None = (n : ℕ) → 0 < n → n < 2 ^ 32 → text ≢ decimal n
ReadsNumber text (Some n) = (0 < n) × (text ≡ decimal n)
