-- The tests of a schema and the reading of its text one by one, as functions make them; that together they are what a schema is, and what a text reads as, is proved (laws/SchemaTexts).
use Rattle.std.specs.Prelude.{ℕ, Bool, ◌&&◌, ◌||◌, nat_eq, List, map as list_map, drop, codes, Option, None, if◌then◌else◌}
use Rattle.std.specs.List.{list_all, starts_with}
use Rattle.rc_schema.specs.declared.kinds.CkKind.{CkKind}
use Rattle.rc_schema.specs.declared.kinds.CkKind.TheVariants.{Int, Text}
use Rattle.rc_schema.specs.SchemaValue.{SchemaValue, is_schema}
use Rattle.rc_schema.specs.SchemaText.{schema_listed}
use Rattle.rc_spelling.specs.Words.{is_word}

-- `int` and `text`
abbrev pub is_kind : List ℕ → Bool
is_kind word = is_word word (codes "int") || is_word word (codes "text")

-- the kind that one of both words names
abbrev pub kind_named : List ℕ → CkKind
kind_named word = if is_word word (codes "int") then Int else Text

-- the schema that words name
abbrev pub lists_named : List (List ℕ) → List (List ℕ) → List (List ℕ) → SchemaValue
lists_named ck statics cols = record { ck = list_map kind_named ck; statics = statics; cols = cols }

-- whether words are kinds and names within the limits
abbrev pub are_listed : List (List ℕ) → List (List ℕ) → List (List ℕ) → Bool
are_listed ck statics cols = list_all is_kind ck && is_schema (lists_named ck statics cols)

-- whether a word begins with a text
abbrev pub begins : List ℕ → List ℕ → Bool
begins text word = starts_with nat_eq word text

-- `ck=KINDS`, `static=NAMES` and `cols=NAMES`
abbrev pub schema_of_marked_words : List ℕ → List ℕ → List ℕ → Option SchemaValue
schema_of_marked_words ck statics cols =
    if begins (codes "ck=") ck && (begins (codes "static=") statics && begins (codes "cols=") cols) then schema_listed (drop 3 ck) (drop 7 statics) (drop 5 cols) else None
