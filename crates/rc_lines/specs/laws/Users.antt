-- The lines of deletions and inserts in the words of a user: their text, and the command that it gives.
use Rattle.std.proofs.Common.{◌≡◌, ◌≤◌, ◌<◌, ◌^◌, ℕ, ℤ, pos, negsuc, suc, true, List, [], ◌∷◌, ◌++◌, flat_map, length, refl, sym, ap, ◌∙◌, arith, append-nil}
use Rattle.std.specs.Prelude.{codes, map as list_map, Ok, IsTrue}
use Rattle.std.specs.declared.option.Option.TheVariants.{Some}
use Rattle.std.specs.Char.{is_ascii_alphanumeric}
use Rattle.std.specs.Fmt.{decimal, signed_decimal}
use Rattle.std.specs.Int.{w64}
use Rattle.std.specs.Int.RustNames.{FitsSigned}
use Rattle.std.specs.List.{AllByRecursion, list_all, join_with_byte}
use Rattle.std.specs.Str.Parse.{AllDigits}
use Rattle.std.proofs.lemmas.Bool.Decides.{nat_tests}
use Rattle.std.proofs.lemmas.Fmt.{decimal_is_IsNumeral}
use Rattle.std.proofs.lemmas.Int.{ints}
use Rattle.std.proofs.lemmas.List.Elements.{All-from_recursion, All-nil}
use Rattle.std.proofs.lemmas.Str.Parse.{digit_from_value}
use Rattle.rc_cell.specs.declared.rows.Row.{Row}
use Rattle.rc_cell.specs.declared.writes.Tomb.{Tomb}
use Rattle.rc_cell.specs.Winner.{IsRow, empty_row}
use Rattle.rc_position.specs.declared.comps.Comp.{Comp}
use Rattle.rc_position.specs.declared.comps.Comp.TheVariants as comps
use Rattle.rc_ranges.specs.declared.pieces.Piece.{Piece}
use Rattle.rc_rowcode.specs.Spelling.{IsTomb}
use Rattle.rc_schema.specs.Checks.{is_key_of}
use Rattle.rc_schema.specs.SchemaValue.{SchemaValue, is_schema}
use Rattle.rc_spelling.specs.laws.{plain_values_stay}
use Rattle.rc_spelling.specs.Printed.{IsComponent, bytes_of_component, printed_bytes, component_text, key_text}
use Rattle.rc_writes.specs.Allowed.{ChangeFits, IsRangeBound, IsRowOf, IsStaticOf}
use Rattle.rc_writes.specs.Single.{row_alone, partition_alone}
use Rattle.rc_lines.specs.declared.commands.Command.TheVariants.{Put}
use Rattle.rc_lines.specs.declared.shapes.Stamp.TheVariants.{Alive, Gone}
use Rattle.rc_lines.specs.Grammar.{parse}
use Rattle.rc_lines.specs.Lines.{value_text, pieces_said, cells_said, command_line, delpart_text, delete_text, live_cells, live_row, dead_row, AreValues, IsPartitionKey, AreComponents, HasOneStamp}
use Rattle.rc_lines.specs.Sayable.{prefix_word, cell_word, cells_words, stamp_words, IsStamped}
use Rattle.rc_lines.specs.laws.Lines.{command_back}

-- ---- the texts

-- words with one space between them
spaced : (word : List ℕ) (rest : List (List ℕ)) → join_with_byte 32 (word ∷ rest) ≡ word ++ flat_map (λ other. 32 ∷ other) rest
spaced word [] = sym (append-nil word)
spaced word (next ∷ rest) = ap (λ (line : List ℕ). word ++ 32 ∷ line) (spaced next rest)

digits_stay : (ds : List ℕ) → AllDigits 10 ds → list_all is_ascii_alphanumeric ds ≡ true
digits_stay [] d = refl
digits_stay (c ∷ cs) d =
    let here : is_ascii_alphanumeric c ≡ true = (let within = digit_from_value c d.0 in grind (arith, nat_tests)) in
    rw here (digits_stay cs d.1)

number_stays : (n : ℕ) → n < 2 ^ 64 → printed_bytes (decimal n) ≡ decimal n
number_stays n small = plain_values_stay (decimal n) (digits_stay (decimal n) (decimal_is_IsNumeral n small).0.1)

some_text : (bytes : List ℕ) → 1 ≤ length bytes → component_text (comps.Text bytes) ≡ printed_bytes bytes
some_text [] some = absurd (omega arith)
some_text (byte ∷ bytes) some = refl

component_stays : (component : Comp) → IsComponent component → component_text (comps.Text (bytes_of_component component)) ≡ component_text component
component_stays (comps.Int (pos n)) is =
    some_text (decimal n) (decimal_is_IsNumeral n (omega (arith, ints))).0.0 ∙ number_stays n (omega (arith, ints))
component_stays (comps.Int (negsuc n)) is = ap (λ (more : List ℕ). 45 ∷ more) (number_stays (suc n) (omega (arith, ints)))
component_stays (comps.Text bytes) is = refl

components_stay : (prefix : List Comp) → AreComponents prefix → list_map component_text (list_map (λ piece. comps.Text piece) (pieces_said prefix)) ≡ list_map component_text prefix
components_stay [] is = refl
components_stay (component ∷ prefix) is = λ i. component_stays component is.0 i ∷ components_stay prefix is.1 i

-- a line has a key as replies print it
pub keys_stay : (prefix : List Comp) → AreComponents prefix → prefix_word (pieces_said prefix) ≡ key_text prefix
keys_stay prefix is = ap (join_with_byte 44) (components_stay prefix is)

-- and values as replies print them
values_stay : (names : List (List ℕ)) (ts : ℤ) (values : List (ℕ × List ℕ))
    → flat_map (λ other. 32 ∷ other) (list_map cell_word (cells_said names (live_cells ts values))) ≡ flat_map (value_text names) values
values_stay names ts [] = refl
values_stay names ts (shown ∷ values) = ap (λ (more : List ℕ). value_text names shown ++ more) (values_stay names ts values)

-- ---- the commands

nothing_static : (schema : SchemaValue) → IsStaticOf schema empty_row
nothing_static schema = (refl, refl, refl)

row_fits : (schema : SchemaValue) (ck : List Comp) (row : Row) → IsRowOf schema ck row → ChangeFits schema (row_alone ck row)
row_fits schema ck row fits =
    record {
      statics = nothing_static schema;
      rows = All-from_recursion (λ e. IsRowOf schema e.0 e.1) ((ck, row) ∷ []) (fits, tt);
      ranges = All-nil (λ (q : Piece). IsRangeBound schema q.from × IsRangeBound schema q.to);
    }

row_back : (schema : SchemaValue) (key : List ℕ) (ck : List Comp) (row : Row) (line : List ℕ) → is_schema schema ≡ true → IsPartitionKey key → AreComponents ck → IsRowOf schema ck row → IsRow row
    → HasOneStamp row.marker row.tomb row.cells → command_line schema (Put (record { key = key; change = row_alone ck row })) ≡ Some line
    → parse (Some schema) line ≡ Ok (Put (record { key = key; change = row_alone ck row }))
row_back schema key ck row line is is_key comps_are fits sorted one e =
    command_back schema (Put (record { key = key; change = row_alone ck row })) line is (refl, row_fits schema ck row fits)
    (is_key, record { pt = tt; statics = (refl, tt); rows = ((comps_are, (sorted, one)), tt); ranges = tt }) e

live_stamps : (ts : ℤ) (values : List (ℕ × List ℕ)) → AreValues values → AllByRecursion (λ e. IsStamped (Alive ts) e.1) (live_cells ts values)
live_stamps ts [] are = tt
live_stamps ts (shown ∷ values) are = ((refl, are.0), live_stamps ts values are.1)

-- an insert: a marker and live cells of one timestamp
pub insert_back : (schema : SchemaValue) (key : List ℕ) (ck : List Comp) (ts : ℤ) (values : List (ℕ × List ℕ)) → is_schema schema ≡ true → IsPartitionKey key → AreComponents ck → FitsSigned w64 ts
    → AreValues values → IsRowOf schema ck (live_row ts values) → IsRow (live_row ts values)
    → parse (Some schema) (codes "insert " ++ (printed_bytes key ++ 32 ∷ (key_text ck ++ (codes " ts=" ++ (signed_decimal ts ++ flat_map (value_text schema.cols) values)))))
    ≡ Ok (Put (record { key = key; change = row_alone ck (live_row ts values) }))
insert_back schema key ck ts values is is_key comps_are fits_ts are fits sorted =
    row_back schema key ck (live_row ts values) _ is is_key comps_are fits sorted (fits_ts, live_stamps ts values are)
    (ap (λ (line : List ℕ). Some line)
    (spaced (codes "insert") (printed_bytes key ∷ prefix_word (pieces_said ck) ∷ cells_words (Alive ts) (cells_said schema.cols (live_cells ts values)))
    ∙ (λ i. codes "insert " ++ (printed_bytes key ++ 32 ∷ (keys_stay ck comps_are i ++ (codes " ts=" ++ (signed_decimal ts ++ values_stay schema.cols ts values i)))))))

-- the tombstone of a row
pub delete_back : (schema : SchemaValue) (key : List ℕ) (ck : List Comp) (tomb : Tomb) → is_schema schema ≡ true → IsPartitionKey key → AreComponents ck → IsTomb tomb → IsTrue (is_key_of true schema ck)
    → parse (Some schema) (delete_text key ck tomb) ≡ Ok (Put (record { key = key; change = row_alone ck (dead_row tomb) }))
delete_back schema key ck tomb is is_key comps_are is_tomb fits =
    row_back schema key ck (dead_row tomb) _ is is_key comps_are (fits, refl) refl is_tomb
    (ap (λ (line : List ℕ). Some line)
    (spaced (codes "delete") (printed_bytes key ∷ prefix_word (pieces_said ck) ∷ stamp_words (Gone tomb))
    ∙ (λ i. codes "delete " ++ (printed_bytes key ++ 32 ∷ (keys_stay ck comps_are i ++ (codes " ts=" ++ (signed_decimal tomb.ts ++ (codes " dt=" ++ append-nil (decimal tomb.dt) i))))))))

-- the tombstone of a partition
pub delpart_back : (schema : SchemaValue) (key : List ℕ) (tomb : Tomb) → is_schema schema ≡ true → IsPartitionKey key → IsTomb tomb
    → parse (Some schema) (delpart_text key tomb) ≡ Ok (Put (record { key = key; change = partition_alone tomb }))
delpart_back schema key tomb is is_key is_tomb =
    command_back schema (Put (record { key = key; change = partition_alone tomb })) _ is
    (refl, record { statics = nothing_static schema; rows = All-nil (λ (e : List Comp × Row). IsRowOf schema e.0 e.1); ranges = All-nil (λ (q : Piece). IsRangeBound schema q.from × IsRangeBound schema q.to) })
    (is_key, record { pt = is_tomb; statics = (refl, tt); rows = tt; ranges = tt })
    (ap (λ (line : List ℕ). Some line)
    (spaced (codes "delpart") (printed_bytes key ∷ stamp_words (Gone tomb))
    ∙ (λ i. codes "delpart " ++ (printed_bytes key ++ (codes " ts=" ++ (signed_decimal tomb.ts ++ (codes " dt=" ++ append-nil (decimal tomb.dt) i)))))))
