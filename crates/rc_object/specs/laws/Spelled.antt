-- What bytes behind the links say of a head or of an entry.
use Rattle.std.proofs.Common.{◌≡◌, ◌≢◌, ℕ, ◌+◌, ◌-◌, ◌*◌, ◌/◌, ◌%◌, ◌<◌, ◌≤◌, ◌^◌, List, ◌++◌, length, take, drop, Option, Some, None, inl, inr, ap, sym, ◌∙◌, subst, arith, length-drop, length-append}
use Rattle.std.specs.Prelude.{IsSomeAnd, IfSome}
use Rattle.std.specs.Option.{option_map}
use Rattle.std.proofs.Math.Seq.{drop-append_seam, take-append_seam, drop-length}
use Rattle.std.proofs.lemmas.List.{take-append-le, drop-append-le, drop-drop, append-nil}
use Rattle.std.proofs.lemmas.Slice.{drop-append-drop}
use Rattle.rc_cell.specs.declared.writes.Tomb.{Tomb}
use Rattle.rc_cell.specs.declared.rows.Row.{Row}
use Rattle.rc_rowcode.specs.Spelling.{pos_code, IsTomb, IsCodedRow}
use Rattle.rc_core.specs.declared.entries.Entry.{Entry}
use Rattle.rc_core.specs.declared.entries.Flag.{Flag}
use Rattle.rc_core.specs.declared.entries.Flag.TheVariants.{Known, Unknown, Inherit}
use Rattle.rc_core.specs.declared.entries.Mark.{Mark}
use Rattle.lsa_kinds.specs.declared.kind.Kind.{Kind}
use Rattle.lsa_kinds.specs.declared.kind.Kind.TheVariants.{Version, Static}
use Rattle.lsa_kinds.specs.Fields.{number, number_at}
use Rattle.lsa_segment.specs.Bytes.{overwritten}
use Rattle.lsa_region.specs.Ref.{Ref}
use Rattle.lsa_region.specs.Region.{View, body}
use Rattle.rc_object.specs.declared.heads.Head.{Head}
use Rattle.rc_object.specs.Objects.{flag_code, presence, deletion_code, head_flags, entry_flags, SpellsHead, SpellsMarks, SpellsEntry, entry_kind, row_part, entry_of, HoldsRow, but_marks}

-- ---- flags and bits

bit_small : (t : Option Tomb) → presence t ≤ 1
bit_small None = omega arith
bit_small (Some t) = omega arith

flag_small : (f : Flag) → flag_code f ≤ 2
flag_small Known = omega arith
flag_small Unknown = omega arith
flag_small Inherit = omega arith

pub deletion_small : (t : Option Tomb) → IfSome t IsTomb → deletion_code t < 2 ^ 32
deletion_small None h = omega arith
deletion_small (Some t) h = h.1

head_parts : (p f : ℕ) → p ≤ 1 → ((p + 2 * f) % 2 ≡ p) × ((p + 2 * f) / 2 ≡ f)
head_parts p f small = (omega arith, omega arith)

-- the parts of the byte of flags of a version
pub head_bits : (n : ℕ) (h : Head) → n ≡ head_flags h → (n % 2 ≡ presence h.partition_tombstone) × (n / 2 ≡ flag_code h.static_flag)
head_bits n h is =
    let parts = head_parts (presence h.partition_tombstone) (flag_code h.static_flag) (bit_small h.partition_tombstone) in
    (ap (λ k. k % 2) is ∙ parts.0, ap (λ k. k / 2) is ∙ parts.1)

-- the parts of the byte of flags of an entry
pub record AreBits (n : ℕ) (at gap : Mark) : Type 0 where
  pub at_flag : n % 4 ≡ flag_code at.flag
  pub gap_flag : n / 4 % 4 ≡ flag_code gap.flag
  pub at_tomb : n / 16 % 2 ≡ presence at.tomb
  pub gap_tomb : n / 32 ≡ presence gap.tomb

first_part : (f g p q : ℕ) → f ≤ 2 → (f + 4 * g + 16 * p + 32 * q) % 4 ≡ f
first_part f g p q small = omega arith

second_part : (f g p q : ℕ) → f ≤ 2 → g ≤ 2 → (f + 4 * g + 16 * p + 32 * q) / 4 % 4 ≡ g
second_part f g p q small less = omega arith

third_part : (f g p q : ℕ) → f ≤ 2 → g ≤ 2 → p ≤ 1 → (f + 4 * g + 16 * p + 32 * q) / 16 % 2 ≡ p
third_part f g p q small less one = omega arith

last_part : (f g p q : ℕ) → f ≤ 2 → g ≤ 2 → p ≤ 1 → (f + 4 * g + 16 * p + 32 * q) / 32 ≡ q
last_part f g p q small less one = omega arith

pub entry_bits : (n : ℕ) (at gap : Mark) → n ≡ entry_flags at gap → AreBits n at gap
entry_bits n at gap is =
    let f = flag_small at.flag in let g = flag_small gap.flag in let p = bit_small at.tomb in record {
      at_flag = ap (λ k. k % 4) is ∙ first_part (flag_code at.flag) (flag_code gap.flag) (presence at.tomb) (presence gap.tomb) f;
      gap_flag = ap (λ k. k / 4 % 4) is ∙ second_part (flag_code at.flag) (flag_code gap.flag) (presence at.tomb) (presence gap.tomb) f g;
      at_tomb = ap (λ k. k / 16 % 2) is ∙ third_part (flag_code at.flag) (flag_code gap.flag) (presence at.tomb) (presence gap.tomb) f g p;
      gap_tomb = ap (λ k. k / 32) is ∙ last_part (flag_code at.flag) (flag_code gap.flag) (presence at.tomb) (presence gap.tomb) f g p;
    }

pub mark_is : (m : Mark) (flag : Flag) (tomb : Option Tomb) → flag ≡ m.flag → tomb ≡ m.tomb → record { flag = flag; tomb = tomb } ≡ m
mark_is m flag tomb e f = ap (λ (g : Flag). record { flag = g; tomb = tomb }) e ∙ ap (λ (t : Option Tomb). record { flag = m.flag; tomb = t }) f

pub head_is : (h : Head) (tomb : Option Tomb) (flag : Flag) (phase : ℕ) → tomb ≡ h.partition_tombstone → flag ≡ h.static_flag → phase ≡ h.phase → record { partition_tombstone = tomb; static_flag = flag; phase = phase } ≡ h
head_is h tomb flag phase e f g =
    ap (λ (t : Option Tomb). record { partition_tombstone = t; static_flag = flag; phase = phase }) e
    ∙ ap (λ (k : Flag). record { partition_tombstone = h.partition_tombstone; static_flag = k; phase = phase }) f
    ∙ ap (λ (n : ℕ). record { partition_tombstone = h.partition_tombstone; static_flag = h.static_flag; phase = n }) g

-- ---- bytes that are read

-- what the bytes of a version spell
pub seen_head : (o : Option (Kind × List ℕ)) (h : Head) (bytes : List ℕ) → IsSomeAnd o (λ b. SpellsHead b h) → IsSomeAnd o (λ b. b.1 ≡ bytes) → SpellsHead (Version, bytes) h
seen_head None h bytes w k = absurd w
seen_head (Some b) h bytes w k = subst (λ l. SpellsHead (Version, l) h) k (subst (λ n. SpellsHead (n, b.1) h) w.kind w)

-- what the bytes of an entry spell
pub seen_entry : (o : Option (Kind × List ℕ)) (e : Entry) (bytes : List ℕ) → IsSomeAnd o (λ b. SpellsEntry b e) → IsSomeAnd o (λ b. b.1 ≡ bytes) → SpellsEntry (entry_kind e.row, bytes) e
seen_entry None e bytes w k = absurd w
seen_entry (Some b) e bytes w k = subst (λ l. SpellsEntry (entry_kind e.row, l) e) k (subst (λ n. SpellsEntry (n, b.1) e) w.kind w)

-- how long the bytes of an entry are
pub entry_long : (b : Kind × List ℕ) (e : Entry) → SpellsEntry b e → length b.1 ≡ 32 + (length (pos_code e.position) + length (row_part e.row))
entry_long b e w =
    let more : length b.1 - 32 ≡ length (pos_code e.position) + length (row_part e.row) = sym (length-drop 32 b.1) ∙ ap length w.codes ∙ length-append (pos_code e.position) (row_part e.row) in
    let some : 1 ≤ length (pos_code e.position) = omega arith in omega (arith, more, some)

-- the code of its position, and what follows it
pub position_there : (b : Kind × List ℕ) (e : Entry) → SpellsEntry b e → take (number_at 28 4 b.1) (drop 32 b.1) ≡ pos_code e.position
position_there b e w = ap (λ n. take n (drop 32 b.1)) w.size ∙ ap (take (length (pos_code e.position))) w.codes ∙ take-append_seam (pos_code e.position) (row_part e.row)

pub row_there : (b : Kind × List ℕ) (e : Entry) → SpellsEntry b e → drop (32 + number_at 28 4 b.1) b.1 ≡ row_part e.row
row_there b e w =
    sym (drop-drop (number_at 28 4 b.1) 32 b.1) ∙ ap (λ n. drop n (drop 32 b.1)) w.size ∙ ap (drop (length (pos_code e.position))) w.codes ∙ drop-append_seam (pos_code e.position) (row_part e.row)

-- the entry that holds a row, where the object is no static row
pub seen_row : (v : View) (r : Ref) (row : Row) (kind : Kind) (bytes : List ℕ) → HoldsRow v r row → IsSomeAnd (body v r) (λ b. b.0 ≡ kind) → IsSomeAnd (body v r) (λ b. b.1 ≡ bytes) → kind ≢ Static
    → (e : Entry) × SpellsEntry (entry_kind e.row, bytes) e × (e.row ≡ Some row)
seen_row v r row kind bytes (inl h) w k ne = let P : Option (Kind × List ℕ) → Type 0 = λ o. IsSomeAnd o (λ b. b.0 ≡ kind) in let same : Static ≡ kind = subst P h.0 w in absurd (ne (sym same))
seen_row v r row kind bytes (inr h) w k ne = (h.0, seen_entry (body v r) h.0 bytes h.1 k, h.2)

-- the row that an object holds has a code
coded_as : (row : Option Row) (r : Row) → row ≡ Some r → IfSome row IsCodedRow → IsCodedRow r
coded_as row r is h = subst (λ o. IfSome o IsCodedRow) is h

coded_at : (o : Option (Kind × List ℕ)) (e : Entry) (row : Row) → IsSomeAnd o (λ b. SpellsEntry b e) → e.row ≡ Some row → IsCodedRow row
coded_at None e row h is = absurd h
coded_at (Some b) e row h is = coded_as e.row row is h.row

pub coded_of : (v : View) (r : Ref) (row : Row) → HoldsRow v r row → IsCodedRow row
coded_of v r row (inl h) = h.1
coded_of v r row (inr h) = coded_at (body v r) h.0 row h.1 h.2

-- ---- bytes that are put together

-- a field within the front of bytes
pub number_front : (offset width : ℕ) (front rest : List ℕ) → offset + width ≤ length front → number_at offset width (front ++ rest) ≡ number_at offset width front
number_front offset width front rest inside =
    ap (λ l. number (take width l)) (drop-append-le offset front rest (omega arith))
    ∙ ap number (take-append-le width (drop offset front) rest (omega (arith, length-drop offset front)))

pub marks_front : (front rest : List ℕ) (at gap : Mark) → 28 ≤ length front → SpellsMarks front at gap → SpellsMarks (front ++ rest) at gap
marks_front front rest at gap long w = record {
  flags = number_front 0 1 front rest (omega arith) ∙ w.flags;
  deletion_at = number_front 4 4 front rest (omega arith) ∙ w.deletion_at;
  timestamp_at = number_front 8 8 front rest (omega arith) ∙ w.timestamp_at;
  timestamp_gap = number_front 16 8 front rest (omega arith) ∙ w.timestamp_gap;
  deletion_gap = number_front 24 4 front rest (omega arith) ∙ w.deletion_gap;
  tomb_at = w.tomb_at;
  tomb_gap = w.tomb_gap;
}

-- bytes written over the front
pub over_front : (bytes front : List ℕ) (n : ℕ) → length front ≡ n → overwritten bytes 0 front ≡ front ++ drop n bytes
over_front bytes front n long = let same : 0 + length front ≡ n = omega (arith, long) in ap (λ k. front ++ drop k bytes) same

pub over_whole : (bytes front : List ℕ) → length front ≡ length bytes → overwritten bytes 0 front ≡ front
over_whole bytes front long = over_front bytes front (length bytes) long ∙ ap (λ l. front ++ l) (drop-length bytes) ∙ append-nil front

-- the front of an entry written anew, up to the length of its position
pub remarked : (b : Kind × List ℕ) (e : Entry) (front : List ℕ) (at gap : Mark) → SpellsEntry b e → SpellsMarks front at gap → length front ≡ 28 → SpellsEntry (b.0, front ++ drop 28 b.1) (entry_of e.position e.row at gap)
remarked b e front at gap w marks long = record {
  kind = w.kind;
  marks = marks_front front (drop 28 b.1) at gap (omega (arith, long)) marks;
  size = ap (λ l. number (take 4 l)) (drop-append-drop 28 b.1 front 28 (omega arith) long) ∙ w.size;
  codes = drop-append-drop 28 b.1 front 32 (omega arith) long ∙ w.codes;
  position = w.position;
  row = w.row;
}

pub but_marks_kept : (b : Kind × List ℕ) (front : List ℕ) → length front ≡ 28 → number_at 1 1 front ≡ number_at 1 1 b.1 → but_marks (b.0, front ++ drop 28 b.1) ≡ but_marks b
but_marks_kept b front long level =
    let same : number_at 1 1 (front ++ drop 28 b.1) ≡ number_at 1 1 b.1 = number_front 1 1 front (drop 28 b.1) (omega (arith, long)) ∙ level in
    ap (λ n. (b.0, (n, drop 28 (front ++ drop 28 b.1)))) same ∙ ap (λ l. (b.0, (number_at 1 1 b.1, l))) (drop-append-drop 28 b.1 front 28 (omega arith) long)

-- ---- bytes that are written over those of an object

pub head_written : (old new : Option (Kind × List ℕ)) (bytes : List ℕ) (h k : Head) → IsSomeAnd old (λ b. SpellsHead b h) → IsSomeAnd old (λ b. new ≡ Some (b.0, overwritten b.1 0 bytes)) → SpellsHead (Version, bytes) k → IsSomeAnd new (λ b. SpellsHead b k)
head_written None new bytes h k was is w = absurd was
head_written (Some b) new bytes h k was is w =
    let whole = over_whole b.1 bytes (w.long ∙ sym was.long) in
    let spelled : SpellsHead (b.0, overwritten b.1 0 bytes) k = subst (λ l. SpellsHead (b.0, l) k) (sym whole) (subst (λ n. SpellsHead (n, bytes) k) (sym was.kind) w) in
    subst (λ n. IsSomeAnd n (λ b. SpellsHead b k)) (sym is) spelled

pub entry_written : (old new : Option (Kind × List ℕ)) (front : List ℕ) (e : Entry) (at gap : Mark) → IsSomeAnd old (λ b. SpellsEntry b e) → IsSomeAnd old (λ b. new ≡ Some (b.0, overwritten b.1 0 front))
    → SpellsMarks front at gap → length front ≡ 28 → IsSomeAnd new (λ b. SpellsEntry b (entry_of e.position e.row at gap))
entry_written None new front e at gap was is w long = absurd was
entry_written (Some b) new front e at gap was is w long =
    let f = entry_of e.position e.row at gap in
    let spelled : SpellsEntry (b.0, overwritten b.1 0 front) f = subst (λ l. SpellsEntry (b.0, l) f) (sym (over_front b.1 front 28 long)) (remarked b e front at gap was w long) in
    subst (λ n. IsSomeAnd n (λ b. SpellsEntry b f)) (sym is) spelled

pub alike_written : (old new : Option (Kind × List ℕ)) (front bytes : List ℕ) → IsSomeAnd old (λ b. new ≡ Some (b.0, overwritten b.1 0 front)) → IsSomeAnd old (λ b. b.1 ≡ bytes)
    → length front ≡ 28 → number_at 1 1 front ≡ number_at 1 1 bytes → option_map but_marks new ≡ option_map but_marks old
alike_written None new front bytes is seen long level = absurd is
alike_written (Some b) new front bytes is seen long level =
    ap (option_map but_marks) (is ∙ ap (λ l. Some (b.0, l)) (over_front b.1 front 28 long))
    ∙ ap (λ m. Some m) (but_marks_kept b front long (level ∙ ap (number_at 1 1) (sym seen)))
