-- The texts of replies.
use Rattle.std.specs.Prelude.{ℕ, List, [], ◌∷◌, ◌++◌, flat_map, codes, decimal, slice_index_or, if◌then◌else◌}
use Rattle.rc_schema.specs.SchemaValue.{SchemaValue}
use Rattle.rc_spelling.specs.Printed.{printed_bytes, key_text}
use Rattle.rc_query.specs.declared.lines.OutLine.{OutLine}
use Rattle.rc_query.specs.declared.lines.OutLine.TheVariants.{Static, Row}
use Rattle.rc_lines.specs.declared.commands.Figures.{Figures}
use Rattle.rc_lines.specs.declared.commands.Refusal.{Refusal}
use Rattle.rc_lines.specs.declared.commands.Refusal.TheVariants.{BadLine, NoSchema, SchemaDiffers, WrongKey, UnknownColumn, TooLong, NoReader, ReaderInUse, TooManyReaders, FlushInProgress, NothingToFlush, NoFlush, Full, ReadFault, WriteFault, Damaged, NoNumber}
use Rattle.rc_lines.specs.declared.commands.Reply.{Reply}
use Rattle.rc_lines.specs.declared.commands.Reply.TheVariants.{Nothing, Fine, Given, Going, Done, Stats, Refused}

-- ` NAME=VALUE` for each value, with the number of its column
unfoldable pub values_text : List (List ℕ) → List (ℕ × List ℕ) → List ℕ
values_text names shown = flat_map (λ e. 32 ∷ (slice_index_or names e.0 [] ++ 61 ∷ printed_bytes e.1)) shown

-- a line that a reader is given
abbrev pub line_text : SchemaValue → OutLine → List ℕ
line_text schema (Static shown) = codes "static" ++ values_text schema.statics shown ++ 10 ∷ []
line_text schema (Row key shown) = codes "row " ++ key_text key ++ values_text schema.cols shown ++ 10 ∷ []

-- the text of a refusal
abbrev pub refusal_text : Refusal → List ℕ
refusal_text BadLine = codes "? bad line\n"
refusal_text NoSchema = codes "? no schema\n"
refusal_text SchemaDiffers = codes "? schema differs\n"
refusal_text WrongKey = codes "? wrong key\n"
refusal_text UnknownColumn = codes "? unknown column\n"
refusal_text TooLong = codes "? too long\n"
refusal_text NoReader = codes "? no reader\n"
refusal_text ReaderInUse = codes "? reader in use\n"
refusal_text TooManyReaders = codes "? too many readers\n"
refusal_text FlushInProgress = codes "? flush in progress\n"
refusal_text NothingToFlush = codes "? nothing to flush\n"
refusal_text NoFlush = codes "? no flush\n"
refusal_text Full = codes "? full\n"
refusal_text ReadFault = codes "? read fault\n"
refusal_text WriteFault = codes "? write fault\n"
refusal_text (Damaged file offset) = codes "? damaged " ++ decimal file ++ codes " at " ++ decimal offset ++ codes "\n"
refusal_text NoNumber = codes "? no number\n"

-- the line of the figures
unfoldable pub figures_text : Figures → List ℕ
figures_text f =
    codes "stats" ++ flat_map (λ (e : List ℕ × ℕ). 32 ∷ (e.0 ++ 61 ∷ decimal e.1)) ((codes "segments", f.segments) ∷ (codes "free", f.free) ∷ (codes "objects", f.objects)
    ∷ (codes "live", f.live) ∷ (codes "partitions", f.partitions) ∷ (codes "rows", f.rows) ∷ (codes "dummies", f.dummies) ∷ (codes "hits", f.hits) ∷ (codes "misses", f.misses)
    ∷ (codes "evicted", f.evicted) ∷ (codes "moved", f.moved) ∷ (codes "skipped", f.skipped) ∷ (codes "asks", f.asks) ∷ []) ++ codes "\n"

-- the text of a reply under a schema: its lines, each ended by a newline
unfoldable pub reply_text : SchemaValue → Reply → List ℕ
reply_text schema Nothing = []
reply_text schema Fine = codes "ok\n"
reply_text schema (Given lines more) = flat_map (line_text schema) lines ++ (if more then codes "more\n" else codes "end\n")
reply_text schema Going = codes "going\n"
reply_text schema Done = codes "done\n"
reply_text schema (Stats figures) = figures_text figures
reply_text schema (Refused refusal) = refusal_text refusal
