-- The parts of an item as they are read.
use Rattle.std.specs.Prelude.{◌<◌, ◌^◌, ℕ, List, ◌++◌, length, IfSome, IsTrue}
use Rattle.rc_position.specs.Position.{IsPartKey}
use Rattle.rc_rowcode.specs.Spelling.{length_code, optional_code, tomb_code, row_code, IsTomb, IsCodedRow}
use Rattle.rc_schema.specs.SchemaValue.{SchemaValue, is_schema}
use Rattle.rc_schema.specs.SchemaText.{schema_text}
use Rattle.rc_mutation.specs.declared.fragments.Head.{Head}
use Rattle.rc_items.specs.declared.reading.Part.{Part}
use Rattle.rc_items.specs.Items.{bytes_code}

-- a partition's head: its tombstone, then its static row
abbrev pub head_code : Head → List ℕ
head_code h = optional_code tomb_code h.pt ++ row_code h.statics

-- the numbers of the head are in range
abbrev pub IsHead : Head → Type 0
IsHead h = IfSome h.pt IsTomb × IsCodedRow h.statics

-- a partition's begin: its key, then its head
abbrev pub part_code : Part → List ℕ
part_code p = bytes_code p.key ++ head_code p.head

-- the key and the head are in range
abbrev pub IsPart : Part → Type 0
IsPart p = IsPartKey p.key × IsHead p.head

-- a schema's text behind its length
abbrev pub text_code : SchemaValue → List ℕ
text_code schema = length_code (length (schema_text schema)) ++ schema_text schema

-- the schema is one, and its text has fewer than 2^16 bytes
abbrev pub HasText : SchemaValue → Type 0
HasText schema = IsTrue (is_schema schema) × (length (schema_text schema) < 2 ^ 16)
