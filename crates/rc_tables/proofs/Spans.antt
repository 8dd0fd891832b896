-- What is read of the directory gives the span of a partition, and lies in the file.
use Rattle.std.proofs.Common.{◌≡◌, ℕ, ◌+◌, ◌-◌, ◌≤◌, ◌<◌, ◌^◌, List, ◌∷◌, ◌++◌, length, take, drop, Option, Some, None, refl, sym, ap, ◌∙◌, subst, arith, append_assoc}
use Rattle.std.specs.Prelude.{◌↔◌, IsSomeAnd}
use Rattle.std.specs.List.{flat_map, AllByRecursion}
use Rattle.std.proofs.lemmas.List.{drop_at, take_at, length-append}
use Rattle.rc_position.specs.Position.{IsPartKey}
use Rattle.rc_outside.specs.Files.{Files, LiesInFile, AreBytesOf}
use Rattle.rc_rowcode.specs.Spelling.{time_code}
use Rattle.rc_mutation.specs.declared.mutations.Mutation.{Mutation}
use Rattle.rc_mutation.specs.declared.mutations.Partition.{Partition}
use Rattle.rc_tfile.specs.declared.info.PartRef.{PartRef}
use Rattle.rc_tfile.specs.Items.{item_code, offset_code, IsItem, bytes_code}
use Rattle.rc_tfile.specs.Reading.{Starts}
use Rattle.rc_schema.specs.SchemaValue.{SchemaValue}
use Rattle.rc_stream.specs.declared.streams.StreamErr.{StreamErr}
use Rattle.rc_writes.specs.Allowed.{ChangeFits}
use Rattle.rc_tfile.specs.TableText.{part_items}
use Rattle.rc_tfile.specs.Before.{offset}
use Rattle.rc_tfile.specs.laws.Starting.{key_free, rest_of}
use Rattle.std.proofs.lemmas.Nat.{from_le_bytes-to_le_bytes_8}
use Rattle.rc_tables.specs.declared.locating.Span.{Span}
use Rattle.rc_tables.specs.Located.{ArePartItems, IsEntryAt, EndsAt, MayLie, SaysNoPart, SaysNoSpan, SaysOf, SaysSpan, glimpse_length, WhereTold}
use Rattle.rc_tables.specs.calls.Located.{IsLocated, IsLocatedOf, IsSpan}
use Rattle.rc_tables.specs.calls.Rebuilt.{number_at_front}
use Rattle.rc_tables.proofs.Places.{where_from, where_to, begins_there, ends_there, in_order, lies_there, reads_within, key_is, is_mutation, items_there, comes_there}
use Rattle.rc_tables.proofs.Coming.{change_fits}
use Rattle.rc_tables.proofs.Spelled.{found_is}

some_is : (s t : Span) → Some s ≡ Some t → s ≡ t
some_is s t e = cc

-- what answers the offsets that the directory says answers the span of the partition
pub span_found : (files : Option Files) (n at : ℕ) (here : PartRef) (behind : List PartRef) (p : Partition) (piece : List ℕ) (found : Option Span) (span : Span)
    → IsLocated files n at (here ∷ behind) p → AreBytesOf files n here.dir_off piece → length piece ≡ here.dir_len + glimpse_length behind
    → ((from to : ℕ) → IsEntryAt piece here.key from → EndsAt at (drop here.dir_len piece) behind to → MayLie at from to → found ≡ Some (record { from = from; to = to }))
    → found ≡ Some span → IsSpan files n p span.from span.to
span_found files n at here behind p piece found span is read size finds there =
    let from = offset (where_from files n at here behind p is) in
    let to = offset (where_to files n at here behind p is) in
    let same = finds from to (begins_there files n at here behind p is piece read (omega (arith, size))) (ends_there files n at here behind p is piece read size) (in_order files n at here behind p is) in
    let whole : Span = record { from = from; to = to } in
    let equal : whole ≡ span = some_is whole span (sym same ∙ there) in
    subst (λ (s : Span). IsSpan files n p s.from s.to) equal (lies_there files n at here behind p is)

-- where a file is told and is the table, some span is found
pub none_found : (files : Option Files) (n at : ℕ) (here : PartRef) (behind : List PartRef) (piece : List ℕ) (found : Option Span)
    → WhereTold files ((p : Partition) × IsLocated files n at (here ∷ behind) p) → AreBytesOf files n here.dir_off piece → length piece ≡ here.dir_len + glimpse_length behind
    → ((from to : ℕ) → IsEntryAt piece here.key from → EndsAt at (drop here.dir_len piece) behind to → MayLie at from to → found ≡ Some (record { from = from; to = to }))
    → found ≡ None → files ≡ None
none_found None n at here behind piece found told read size finds there = refl
none_found (Some files) n at here behind piece found told read size finds there =
    let is = told.1 in
    let same = finds (offset (where_from (Some files) n at here behind told.0 is)) (offset (where_to (Some files) n at here behind told.0 is))
    (begins_there (Some files) n at here behind told.0 is piece read (omega (arith, size))) (ends_there (Some files) n at here behind told.0 is piece read size) (in_order (Some files) n at here behind told.0 is) in
    absurd (let q = sym there ∙ same in cc)

-- what is read of the directory lies in the file
pub directory_lies : (files : Option Files) (n at : ℕ) (here : PartRef) (behind : List PartRef) (count : ℕ) → WhereTold files ((p : Partition) × IsLocated files n at (here ∷ behind) p) → count ≡ here.dir_len + glimpse_length behind → LiesInFile files n here.dir_off count
directory_lies None n at here behind count told e = tt
directory_lies (Some files) n at here behind count told e =
    let is = told.1 in
    subst (λ o. IsSomeAnd o (λ bytes. here.dir_off + count ≤ length bytes)) (sym is.content) (omega (arith, e, reads_within (Some files) n at here behind told.0 is))

-- and so does the span
pub span_lies : (files : Option Files) (n from to count : ℕ) (p : Partition) → IsSpan files n p from to → count ≡ length (flat_map item_code (part_items p)) → LiesInFile files n from count
span_lies None n from to count p is e = tt
span_lies (Some files) n from to count p is e =
    let mid = flat_map item_code (part_items p) in
    subst (λ o. IsSomeAnd o (λ bytes. from + count ≤ length bytes)) (sym is.content) (omega (arith, e, is.begins, length-append is.front (mid ++ is.behind), length-append mid is.behind))

-- the bytes there are the partition's
pub span_read : (files : Option Files) (n from to : ℕ) (p : Partition) (piece : List ℕ) → IsSpan files n p from to → length piece ≡ length (flat_map item_code (part_items p)) → AreBytesOf files n from piece → piece ≡ flat_map item_code (part_items p)
span_read None n from to p piece is size read = absurd is.content
span_read (Some files) n from to p piece is size read =
    let mid = flat_map item_code (part_items p) in
    read (is.front ++ (mid ++ is.behind)) is.content
    ∙ ap (take (length piece)) (drop_at is.front (mid ++ is.behind) from (sym is.begins))
    ∙ take_at mid is.behind (length piece) (sym size)

-- ---- the first numbers of an entry

length_of_offset : (n : ℕ) → length (offset_code n) ≡ 8
unfolding offset_code
length_of_offset n = refl

number_again : (n : ℕ) (rest : List ℕ) → n < 2 ^ 64 → number_at_front (offset_code n ++ rest) ≡ Some n
unfolding number_at_front offset_code
number_again n rest h = grind (arith, from_le_bytes-to_le_bytes_8 n h)

entry_rest : (bytes rest key : List ℕ) (off : ℕ) → bytes ≡ 6 ∷ rest → (is : IsEntryAt bytes key off) → rest ≡ bytes_code key ++ (offset_code off ++ (time_code is.0 ++ is.1))
entry_rest bytes rest key off p is =
    ap rest_of (sym p ∙ is.3) ∙ append_assoc (bytes_code key) (offset_code off ++ time_code is.0) is.1 ∙ ap (λ t. bytes_code key ++ t) (append_assoc (offset_code off) (time_code is.0) is.1)

-- the key is read
pub entry_key : (bytes rest key : List ℕ) (off : ℕ) (found : Option (List ℕ × ℕ)) → bytes ≡ 6 ∷ rest → IsPartKey key → Starts bytes_code IsPartKey rest found → IsEntryAt bytes key off → found ≡ Some (key, length (bytes_code key))
entry_key bytes rest key off found p fits h is = found_is bytes_code IsPartKey key_free rest key (offset_code off ++ (time_code is.0 ++ is.1)) found fits (entry_rest bytes rest key off p is) h

-- and the offset behind it
pub entry_number : (bytes rest key : List ℕ) (off size : ℕ) → bytes ≡ 6 ∷ rest → size ≡ length (bytes_code key) → IsEntryAt bytes key off → number_at_front (drop size rest) ≡ Some off
entry_number bytes rest key off size p e is =
    ap number_at_front (ap (drop size) (entry_rest bytes rest key off p is) ∙ drop_at (bytes_code key) (offset_code off ++ (time_code is.0 ++ is.1)) size (sym e))
    ∙ number_again off (time_code is.0 ++ is.1) is.2

-- ---- the partition itself

-- the span lies in the file
pub partition_lies : (files : Option Files) (n at : ℕ) (here : PartRef) (behind : List PartRef) (from to count : ℕ) → WhereTold files ((p : Partition) × IsLocated files n at (here ∷ behind) p)
    → ((p : Partition) → IsLocated files n at (here ∷ behind) p → IsSpan files n p from to) → count ≡ to - from → LiesInFile files n from count
partition_lies None n at here behind from to count told spans e = tt
partition_lies (Some files) n at here behind from to count told spans e =
    let span = spans told.0 told.1 in
    span_lies (Some files) n from to count told.0 span (omega (arith, e, span.ends))

-- the table is that of the schema
pub unlocated : (files : Option Files) (schema : SchemaValue) (n at : ℕ) (listed : List PartRef) → WhereTold files ((p : Partition) × IsLocatedOf files schema n at listed p) → WhereTold files ((p : Partition) × IsLocated files n at listed p)
unlocated None schema n at listed h = tt
unlocated (Some files) schema n at listed h = (h.0, h.1.0)

-- its bytes are the items of the key's part
part_there : (files : Option Files) (schema : SchemaValue) (n at : ℕ) (here : PartRef) (behind : List PartRef) (p : Partition) (from to : ℕ) (piece : List ℕ)
    → IsLocatedOf files schema n at (here ∷ behind) p → IsSpan files n p from to → length piece ≡ to - from → AreBytesOf files n from piece → ArePartItems schema here.key p.change piece
part_there files schema n at here behind p from to piece of span size read =
    let is = of.0 in
    let key = sym (key_is files n at here behind p is) in
    let come = comes_there files n at here behind p is in
    let mutation = is_mutation files n at here behind p is in
    record {
      says = (mutation, subst (λ z. ChangeFits z p.change) of.1 (change_fits is.schema p.change mutation come.0 come.1));
      items = subst (λ k. AllByRecursion IsItem (part_items (record { key = k; change = p.change }))) key (items_there files n at here behind p is);
      spelled = span_read files n from to p piece span (omega (arith, size, span.ends)) read ∙ ap (λ k. flat_map item_code (part_items (record { key = k; change = p.change }))) key;
    }

-- what reads exactly what bytes say of the key reads this partition
pub decoded : (files : Option Files) (schema : SchemaValue) (n at : ℕ) (here : PartRef) (behind : List PartRef) (p : Partition) (from to : ℕ) (piece : List ℕ) (found : Option Mutation)
    → IsLocatedOf files schema n at (here ∷ behind) p → IsSpan files n p from to → length piece ≡ to - from → AreBytesOf files n from piece
    → ((m : Mutation) → (found ≡ Some m) ↔ ArePartItems schema here.key m piece) → found ≡ Some p.change
decoded files schema n at here behind p from to piece found of span size read exact = (exact p.change).1 (part_there files schema n at here behind p from to piece of span size read)

-- so where a file is told and is the table, some partition is read
pub none_decoded : (files : Option Files) (schema : SchemaValue) (n at : ℕ) (here : PartRef) (behind : List PartRef) (from to : ℕ) (piece : List ℕ) (found : Option Mutation)
    → WhereTold files ((p : Partition) × IsLocatedOf files schema n at (here ∷ behind) p) → ((p : Partition) → IsLocated files n at (here ∷ behind) p → IsSpan files n p from to) → length piece ≡ to - from → AreBytesOf files n from piece
    → ((m : Mutation) → (found ≡ Some m) ↔ ArePartItems schema here.key m piece) → found ≡ None → files ≡ None
none_decoded None schema n at here behind from to piece found told spans size read exact there = refl
none_decoded (Some files) schema n at here behind from to piece found told spans size read exact there =
    absurd (let q = sym there ∙ decoded (Some files) schema n at here behind told.0 from to piece found told.1 (spans told.0 told.1.0) size read exact in cc)

-- ---- damage

-- where no span is found, the bytes say none
pub no_span : (at : ℕ) (here : PartRef) (behind : List PartRef) (piece : List ℕ) (found : Option Span) → length piece ≡ here.dir_len + glimpse_length behind
    → ((from to : ℕ) → IsEntryAt piece here.key from → EndsAt at (drop here.dir_len piece) behind to → MayLie at from to → found ≡ Some (record { from = from; to = to })) → found ≡ None → SaysNoSpan at here behind
no_span at here behind piece found size finds there = record { piece = piece; size = size; none = λ from to b e o. absurd (let q = sym there ∙ finds from to b e o in cc) }

-- where no partition is found, they are no part's
pub no_part : (schema : SchemaValue) (at : ℕ) (here : PartRef) (behind : List PartRef) (from to : ℕ) (bytes : List ℕ) (found : Option Mutation) → SaysSpan at here behind from to → length bytes ≡ to - from
    → ((m : Mutation) → (found ≡ Some m) ↔ ArePartItems schema here.key m bytes) → found ≡ None → SaysNoPart schema at here behind from
no_part schema at here behind from to bytes found said count exact there = record { to = to; said = said; bytes = bytes; count = count; none = λ m p. absurd (let q = sym there ∙ (exact m).1 p in cc) }

pub says : (schema : SchemaValue) (key bytes : List ℕ) (m : Mutation) → ArePartItems schema key m bytes → SaysOf schema m
says schema key bytes m p = p.says
