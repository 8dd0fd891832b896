-- Reading on in a file: what is read lies in it, and follows what is ahead.
use Rattle.std.proofs.Common.{◌≡◌, ◌≢◌, Result, Err, ℕ, ◌+◌, ◌-◌, ◌<◌, ◌≤◌, ⊎_elim, List, [], ◌∷◌, ◌++◌, append-nil, length, take, drop, Option, Some, None, refl, sym, ap, ◌∙◌, arith, append_assoc, subst}
use Rattle.std.specs.Prelude.{IsSome, IsSomeAnd, min}
use Rattle.std.specs.FinMap as map
use Rattle.std.proofs.lemmas.List.{drop_at, take_at, take-append-drop, take-append-le, length-append}
use Rattle.rc_outside.specs.Files.{Files, IsSizeOf, LiesInFile, AreBytesOf}
use Rattle.rc_tfile.specs.Checking.{IsContent, HasHead, ChecksHead, IsHostError}
use Rattle.rc_tfile.specs.declared.checking.CheckErr.{CheckErr}
use Rattle.rc_tfile.specs.declared.checking.CheckErr.TheVariants.{Fault, Damaged, OtherSchema, NoMemory}
use Rattle.rc_rowcode.specs.Spelling.{length_code}
use Rattle.rc_schema.specs.SchemaValue.{SchemaValue}
use Rattle.rc_schema.specs.SchemaText.{schema_text}
use Rattle.rc_items.specs.Items.{HeadItem, item_code, IsItem}
use Rattle.rc_items.specs.Reading.{Starts}
use Rattle.rc_items.specs.laws.Heads.{length_of_length}
use Rattle.rc_tfile.specs.calls.Windows.{ReadAhead, IsAhead, IsItemAhead, IsOpen, reads_left}

pub lies_ahead : (files : Option Files) (w : ReadAhead) (count : ℕ) → IsOpen files w → w.read + count ≤ w.size → LiesInFile files w.number w.read count
lies_ahead None w count is h = tt
lies_ahead (Some files) w count is h =
    elim (map.get files w.number) as (λ o. map.get files w.number ≡ o → IsSome o → IsSomeAnd o (λ bytes. w.read + count ≤ length bytes)) [
      | Some bytes ↦ λ e _. (let size : w.size ≡ length bytes = is.1 bytes e in omega (arith, size, h))
      | None ↦ λ e none. absurd cc
    ] refl is.0

pub read_on : (content front ahead unread piece : List ℕ) (read : ℕ) (w : ReadAhead) → content ≡ front ++ (ahead ++ unread) → read ≡ length front + length ahead → w.size ≡ length content → piece ≡ take (length piece) (drop read content)
    → w.read ≡ read + length piece → w.ahead ≡ ahead ++ piece → IsAhead content front w
read_on content front ahead unread piece read w e r s p next more =
    let behind = drop (length piece) unread in
    let left : drop read content ≡ unread = ap (drop read) (e ∙ sym (append_assoc front ahead unread)) ∙ drop_at (front ++ ahead) unread read (length-append front ahead ∙ sym r) in
    let parts : unread ≡ piece ++ behind = sym (take-append-drop (length piece) unread) ∙ ap (λ t. t ++ behind) (ap (take (length piece)) (sym left) ∙ sym p) in record {
      unread = behind;
      whole = e ∙ ap (λ t. front ++ t) (ap (λ u. ahead ++ u) parts ∙ sym (append_assoc ahead piece behind) ∙ ap (λ a. a ++ behind) (sym more));
      size = s;
      read = omega (arith, r, next, ap length more, length-append ahead piece);
    }

pub bytes_told : (files : Option Files) (n off : ℕ) (piece content : List ℕ) → IsContent files n content → AreBytesOf files n off piece → piece ≡ take (length piece) (drop off content)
bytes_told None n off piece content is h = absurd is
bytes_told (Some files) n off piece content is h = h content is

pub no_more : (xs : List ℕ) → length xs ≡ 0 → xs ≡ []
no_more [] h = refl
no_more (x ∷ xs) h = absurd (omega (arith, h))

starts_within : (code more ahead unread : List ℕ) → ahead ++ unread ≡ code ++ more → length code ≤ length ahead → ahead ≡ code ++ drop (length code) ahead
starts_within code more ahead unread e h =
    let front : take (length code) ahead ≡ code = sym (take-append-le (length code) ahead unread h) ∙ ap (take (length code)) e ∙ take_at code more (length code) refl in
    sym (take-append-drop (length code) ahead) ∙ ap (λ t. t ++ drop (length code) ahead) front

-- what the file goes on with is ahead, if it is no longer than an item
pub ahead_decides : (content front : List ℕ) (w : ReadAhead) → IsAhead content front w → IsItemAhead w → (code more : List ℕ) → length code ≤ 65541 → content ≡ front ++ (code ++ more) → (rest : List ℕ) × (w.ahead ≡ code ++ rest)
ahead_decides content front w is full code more few e =
    let same : w.ahead ++ is.unread ≡ code ++ more = sym (drop_at front (w.ahead ++ is.unread) (length front) refl) ∙ ap (drop (length front)) (sym is.whole ∙ e) ∙ drop_at front (code ++ more) (length front) refl in
    let lengths : length content ≡ length front + (length w.ahead + length is.unread) = ap length is.whole ∙ length-append front (w.ahead ++ is.unread) ∙ ap (λ n. length front + n) (length-append w.ahead is.unread) in
    ⊎_elim
    (λ whole. (more, sym (append-nil w.ahead) ∙ ap (λ u. w.ahead ++ u) (sym (no_more is.unread (omega (arith, whole, is.size, is.read, lengths)))) ∙ same))
    (λ many. (drop (length code) w.ahead, starts_within code more w.ahead is.unread same (omega (arith, many, few))))
    full

-- what is ahead begins what the file goes on with
pub goes_on : (content front : List ℕ) (w : ReadAhead) (is : IsAhead content front w) (code rest : List ℕ) → w.ahead ≡ code ++ rest → content ≡ front ++ (code ++ (rest ++ is.unread))
goes_on content front w is code rest e = is.whole ∙ ap (λ t. front ++ t) (ap (λ a. a ++ is.unread) e ∙ append_assoc code rest is.unread)

-- the longest head
pub head_within : (z : SchemaValue) → IsItem (HeadItem z) → length (item_code (HeadItem z)) ≤ 65541
head_within z is = omega (arith, length-append (length_code (length (schema_text z))) (schema_text z), length_of_length (length (schema_text z)), is.1)

-- a head that was read is that of the file, and where none was read the file has none
pub head_found : (content : List ℕ) (w : ReadAhead) (z : SchemaValue) (size : ℕ) → IsAhead content [] w → Starts (λ y. item_code (HeadItem y)) (λ y. IsItem (HeadItem y)) w.ahead (Some (z, size)) → HasHead content z
head_found content w z size is found = (drop size w.ahead ++ is.unread, found.0, goes_on content [] w is (item_code (HeadItem z)) (drop size w.ahead) found.1)

pub no_head : (content : List ℕ) (w : ReadAhead) → IsAhead content [] w → IsItemAhead w → Starts (λ y. item_code (HeadItem y)) (λ y. IsItem (HeadItem y)) w.ahead None → (z : SchemaValue) → HasHead content z → ⊥
no_head content w is full none z head =
    let there = ahead_decides content [] w is full (item_code (HeadItem z)) head.0 (head_within z head.1) head.2 in
    none z there.0 head.1 there.1

-- where the store failed or memory ran out, nothing is owed
pub outside_head : (bytes : List ℕ) (e : CheckErr) → IsHostError e → ChecksHead bytes (Err e)
outside_head bytes Fault h = tt
outside_head bytes (Damaged off) h = absurd h
outside_head bytes OtherSchema h = absurd h
outside_head bytes NoMemory h = tt

pub outside_other : {T : Type 0} (e : CheckErr) → IsHostError e → (let r : Result T CheckErr = Err e in r) ≢ Err OtherSchema
outside_other Fault h = λ q. absurd cc
outside_other (Damaged off) h = absurd h
outside_other OtherSchema h = absurd h
outside_other NoMemory h = λ q. absurd cc

size_told : (files : Option Files) (n size : ℕ) (content : List ℕ) → IsContent files n content → IsSizeOf files n size → size ≡ length content
size_told None n size content is h = absurd is
size_told (Some files) n size content is h = h content is

-- before anything is read, all is unread
pub at_start : (files : Option Files) (n : ℕ) (content : List ℕ) (w : ReadAhead) → IsContent files n content → IsSizeOf files n w.size → w.read ≡ 0 → w.ahead ≡ [] → IsAhead content [] w
at_start files n content w is size read ahead = record {
  unread = content;
  whole = ap (λ a. a ++ content) (sym ahead);
  size = size_told files n w.size content is size;
  read = omega (arith, read, ap length ahead);
}

-- the same file
pub same_content : (f g : Option Files) (n m : ℕ) (content : List ℕ) → g ≡ f → m ≡ n → IsContent f n content → IsContent g m content
same_content f g n m content p q is = subst (λ k. IsContent g k content) (sym q) (subst (λ h. IsContent h n content) (sym p) is)

-- a read takes one of those that are left
pub one_read : (w v : ReadAhead) (count : ℕ) → v.read ≡ w.read + count → v.size ≡ w.size → count ≡ min (w.size - w.read) 65541 → w.read < w.size → reads_left v + 1 ≤ reads_left w
unfolding reads_left
one_read w v count r s c h = omega (arith, r, s, c, h)

pub some_left : (w : ReadAhead) → w.read < w.size → 1 ≤ reads_left w
unfolding reads_left
some_left w h = omega (arith, h)
