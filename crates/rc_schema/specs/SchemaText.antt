-- The text of a schema, `ck=KINDS static=NAMES cols=NAMES`, and the schema of a text.
use Rattle.std.specs.Prelude.{ℕ, ◌&&◌, ◌==◌, nat_eq, List, [], ◌∷◌, ◌++◌, map as list_map, drop, codes, Option, Some, None, option_and_then, Result, Ok, Err, ⊤, ◌≡◌, if◌then◌else◌}
use Rattle.std.specs.List.{find, starts_with, slice_split, join_with_byte}
use Rattle.std.specs.Option.{option_map}
use Rattle.rc_schema.specs.declared.kinds.CkKind.{CkKind}
use Rattle.rc_schema.specs.declared.kinds.CkKind.TheVariants.{Int, Text}
use Rattle.rc_schema.specs.declared.schemas.SchemaTextErr.{SchemaTextErr}
use Rattle.rc_schema.specs.declared.schemas.SchemaTextErr.TheVariants.{Malformed, NoMemory}
use Rattle.rc_schema.specs.SchemaValue.{SchemaValue, is_schema}
use Rattle.rc_spelling.specs.Words.{is_word, words, each_of}

-- the word of a kind
abbrev pub kind_text : CkKind → List ℕ
kind_text Int = codes "int"
kind_text Text = codes "text"

-- names with commas between them, or `-` where there are none
abbrev pub names_text : List (List ℕ) → List ℕ
names_text [] = codes "-"
names_text (name ∷ names) = join_with_byte 44 (name ∷ names)

-- the text of a schema: three words with spaces between them
unfoldable pub schema_text : SchemaValue → List ℕ
schema_text s = join_with_byte 32 ((codes "ck=" ++ join_with_byte 44 (list_map kind_text s.ck)) ∷ (codes "static=" ++ names_text s.statics) ∷ (codes "cols=" ++ names_text s.cols) ∷ [])

-- the kind that a word names
abbrev pub read_kind : List ℕ → Option CkKind
read_kind word = find (λ kind. is_word word (kind_text kind)) (Int ∷ Text ∷ [])

-- the names between the commas of a word, none of `-`
abbrev pub names_of : List ℕ → List (List ℕ)
names_of word = if is_word word (codes "-") then [] else slice_split (λ byte. byte == 44) word

-- the schema of KINDS, NAMES and NAMES, where they are kinds and names within the limits
unfoldable pub schema_listed : List ℕ → List ℕ → List ℕ → Option SchemaValue
schema_listed ck statics cols =
    option_and_then (λ s. if is_schema s then Some s else None) (option_map (λ k. record { ck = k; statics = names_of statics; cols = names_of cols }) (each_of read_kind (slice_split (λ b. b == 44) ck)))

-- the schema of three words, `ck=KINDS`, `static=NAMES` and `cols=NAMES`
abbrev pub schema_of_words : List (List ℕ) → Option SchemaValue
schema_of_words (ck ∷ statics ∷ cols ∷ []) =
    if starts_with nat_eq ck (codes "ck=") && (starts_with nat_eq statics (codes "static=") && starts_with nat_eq cols (codes "cols="))
    then schema_listed (drop 3 ck) (drop 7 statics) (drop 5 cols) else None
schema_of_words other = None

-- the schema of a text, where it has that form and is within the limits
abbrev pub schema_of : List ℕ → Option SchemaValue
schema_of text = schema_of_words (words text)

-- what reading a text gave is its schema, or that there is none, unless memory ran out
abbrev pub ReadsSchema : Result SchemaValue SchemaTextErr → Option SchemaValue → Type 0
ReadsSchema (Ok schema) meaning = meaning ≡ Some schema
ReadsSchema (Err Malformed) meaning = meaning ≡ None
ReadsSchema (Err NoMemory) meaning = ⊤
