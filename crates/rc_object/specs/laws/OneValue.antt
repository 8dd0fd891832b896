-- An object holds one value; an entry is the same where its balance changes.
use Rattle.std.proofs.Common.{◌≡◌, ℕ, ◌+◌, List, [], take, drop, Option, Some, None, refl, ap, sym, ◌∙◌, arith}
use Rattle.std.specs.Prelude.{IsSomeAnd, IfSome}
use Rattle.std.specs.Int.{w64, cast_signed}
use Rattle.std.specs.Option.{option_map}
use Rattle.std.proofs.lemmas.Int.{to_z-of_z}
use Rattle.std.proofs.lemmas.List.{append-nil, drop-drop}
use Rattle.rc_cell.specs.declared.writes.Tomb.{Tomb}
use Rattle.rc_cell.specs.declared.rows.Row.{Row}
use Rattle.rc_rowcode.specs.Spelling.{row_code, IsTomb, IsCodedRow}
use Rattle.rc_rowcode.specs.laws.Codecs.{pos_codec}
use Rattle.rc_rowcode.specs.laws.RowCodec.{row_codec}
use Rattle.rc_rowcode.specs.laws.Fields.{some_is}
use Rattle.rc_rowcode.specs.laws.Read.{one_spelling}
use Rattle.rc_core.specs.declared.entries.Entry.{Entry}
use Rattle.rc_core.specs.declared.entries.Flag.{Flag}
use Rattle.rc_core.specs.declared.entries.Flag.TheVariants.{Known, Unknown, Inherit}
use Rattle.rc_core.specs.declared.entries.Mark.{Mark}
use Rattle.lsa_kinds.specs.declared.kind.Kind.{Kind}
use Rattle.lsa_kinds.specs.declared.kind.Kind.TheVariants.{Static}
use Rattle.lsa_kinds.specs.Fields.{number, number_at}
use Rattle.rc_object.specs.declared.heads.Head.{Head}
use Rattle.rc_object.specs.Objects.{flag_code, presence, timestamp_code, deletion_code, SpellsHead, SpellsMarks, SpellsEntry, entry_kind, row_part, entry_of, but_level}
use Rattle.rc_object.specs.laws.Spelled.{head_bits, entry_bits, mark_is, head_is}

pub row_same : (r q : Row) → IsCodedRow r → IsCodedRow q → row_code r ≡ row_code q → r ≡ q
row_same r q h k e = (one_spelling row_codec r q [] [] h k (append-nil (row_code r) ∙ e ∙ sym (append-nil (row_code q)))).0

flag_same : (f g : Flag) → flag_code f ≡ flag_code g → f ≡ g
flag_same Known Known e = refl
flag_same Known Unknown e = absurd (omega (arith, e))
flag_same Known Inherit e = absurd (omega (arith, e))
flag_same Unknown Known e = absurd (omega (arith, e))
flag_same Unknown Unknown e = refl
flag_same Unknown Inherit e = absurd (omega (arith, e))
flag_same Inherit Known e = absurd (omega (arith, e))
flag_same Inherit Unknown e = absurd (omega (arith, e))
flag_same Inherit Inherit e = refl

tomb_same : (t u : Option Tomb) → IfSome t IsTomb → IfSome u IsTomb → presence t ≡ presence u → timestamp_code t ≡ timestamp_code u → deletion_code t ≡ deletion_code u → t ≡ u
tomb_same None None h k p e f = refl
tomb_same None (Some u) h k p e f = absurd (omega (arith, p))
tomb_same (Some t) None h k p e f = absurd (omega (arith, p))
tomb_same (Some t) (Some u) h k p e f =
    let same : t.ts ≡ u.ts = sym (to_z-of_z w64 t.ts h.0) ∙ ap (cast_signed w64) e ∙ to_z-of_z w64 u.ts k.0 in
    ap (λ z. Some (record { ts = z; dt = t.dt })) same ∙ ap (λ n. Some (record { ts = u.ts; dt = n })) f

mark_same : (m n : Mark) → flag_code m.flag ≡ flag_code n.flag → IfSome m.tomb IsTomb → IfSome n.tomb IsTomb → presence m.tomb ≡ presence n.tomb → timestamp_code m.tomb ≡ timestamp_code n.tomb → deletion_code m.tomb ≡ deletion_code n.tomb → m ≡ n
mark_same m n f h k p e g = mark_is n m.flag m.tomb (flag_same m.flag n.flag f) (tomb_same m.tomb n.tomb h k p e g)

marks_same : (bytes : List ℕ) (at gap m n : Mark) → SpellsMarks bytes at gap → SpellsMarks bytes m n → (at ≡ m) × (gap ≡ n)
marks_same bytes at gap m n h k =
    let a = entry_bits (number_at 0 1 bytes) at gap h.flags in let b = entry_bits (number_at 0 1 bytes) m n k.flags in (
      mark_same at m (sym a.at_flag ∙ b.at_flag) h.tomb_at k.tomb_at (sym a.at_tomb ∙ b.at_tomb) (sym h.timestamp_at ∙ k.timestamp_at) (sym h.deletion_at ∙ k.deletion_at),
      mark_same gap n (sym a.gap_flag ∙ b.gap_flag) h.tomb_gap k.tomb_gap (sym a.gap_tomb ∙ b.gap_tomb) (sym h.timestamp_gap ∙ k.timestamp_gap) (sym h.deletion_gap ∙ k.deletion_gap),
    )

rows_same : (r q : Option Row) → entry_kind r ≡ entry_kind q → IfSome r IsCodedRow → IfSome q IsCodedRow → row_part r ≡ row_part q → r ≡ q
rows_same None None e h k same = refl
rows_same None (Some q) e h k same = cc
rows_same (Some r) None e h k same = cc
rows_same (Some r) (Some q) e h k same = ap (λ s. Some s) (row_same r q h k same)

entry_same : (b : Kind × List ℕ) (x y : Entry) → SpellsEntry b x → SpellsEntry b y → x ≡ y
entry_same b x y h k =
    let codes = one_spelling pos_codec x.position y.position (row_part x.row) (row_part y.row) h.position k.position (sym h.codes ∙ k.codes) in
    let row = rows_same x.row y.row (sym h.kind ∙ k.kind) h.row k.row codes.1 in
    let marks = marks_same b.1 x.at x.gap y.at y.gap h.marks k.marks in
    ap (λ z. entry_of z x.row x.at x.gap) codes.0 ∙ ap (λ r. entry_of y.position r x.at x.gap) row ∙ ap (λ m. entry_of y.position y.row m x.gap) marks.0 ∙ ap (λ m. entry_of y.position y.row y.at m) marks.1

pub entries_same : (o : Option (Kind × List ℕ)) (x y : Entry) → IsSomeAnd o (λ b. SpellsEntry b x) → IsSomeAnd o (λ b. SpellsEntry b y) → x ≡ y
entries_same None x y h k = absurd h
entries_same (Some b) x y h k = entry_same b x y h k

head_same : (b : Kind × List ℕ) (x y : Head) → SpellsHead b x → SpellsHead b y → x ≡ y
head_same b x y h k =
    let a = head_bits (number_at 0 1 b.1) x h.flags in let d = head_bits (number_at 0 1 b.1) y k.flags in
    head_is y x.partition_tombstone x.static_flag x.phase
    (tomb_same x.partition_tombstone y.partition_tombstone h.tomb k.tomb (sym a.0 ∙ d.0) (sym h.timestamp ∙ k.timestamp) (sym h.deletion ∙ k.deletion))
    (flag_same x.static_flag y.static_flag (sym a.1 ∙ d.1))
    (sym h.phase ∙ k.phase)

pub heads_same : (o : Option (Kind × List ℕ)) (x y : Head) → IsSomeAnd o (λ b. SpellsHead b x) → IsSomeAnd o (λ b. SpellsHead b y) → x ≡ y
heads_same None x y h k = absurd h
heads_same (Some b) x y h k = head_same b x y h k

-- ---- another balance

later : (more width : ℕ) (old new : List ℕ) → drop 2 new ≡ drop 2 old → number_at (2 + more) width new ≡ number_at (2 + more) width old
later more width old new same = ap (λ l. number (take width l)) (sym (drop-drop more 2 new) ∙ ap (drop more) same ∙ drop-drop more 2 old)

level_spelled : (b d : Kind × List ℕ) (e : Entry) → d.0 ≡ b.0 → take 1 d.1 ≡ take 1 b.1 → drop 2 d.1 ≡ drop 2 b.1 → SpellsEntry b e → SpellsEntry d e
level_spelled b d e kind first rest w = record {
  kind = kind ∙ w.kind;
  marks = record {
    flags = ap number first ∙ w.marks.flags;
    deletion_at = later 2 4 b.1 d.1 rest ∙ w.marks.deletion_at;
    timestamp_at = later 6 8 b.1 d.1 rest ∙ w.marks.timestamp_at;
    timestamp_gap = later 14 8 b.1 d.1 rest ∙ w.marks.timestamp_gap;
    deletion_gap = later 22 4 b.1 d.1 rest ∙ w.marks.deletion_gap;
    tomb_at = w.marks.tomb_at;
    tomb_gap = w.marks.tomb_gap;
  };
  size = later 26 4 b.1 d.1 rest ∙ w.size;
  codes = sym (drop-drop 30 2 d.1) ∙ ap (drop 30) rest ∙ drop-drop 30 2 b.1 ∙ w.codes;
  position = w.position;
  row = w.row;
}

pub level_kept : (old new : Option (Kind × List ℕ)) (e : Entry) → IsSomeAnd old (λ b. SpellsEntry b e) → option_map but_level new ≡ option_map but_level old → IsSomeAnd new (λ b. SpellsEntry b e)
level_kept None new e h same = absurd h
level_kept (Some b) None e h same = cc
level_kept (Some b) (Some d) e h same =
    let parts : but_level d ≡ but_level b = some_is (but_level d) (but_level b) same in
    level_spelled b d e (ap (λ (p : Kind × (List ℕ × List ℕ)). p.0) parts) (ap (λ (p : Kind × (List ℕ × List ℕ)). p.1.0) parts) (ap (λ (p : Kind × (List ℕ × List ℕ)). p.1.1) parts) h

pub statics_same : (o : Option (Kind × List ℕ)) (x y : Row) → o ≡ Some (Static, row_code x) → o ≡ Some (Static, row_code y) → IsCodedRow x → IsCodedRow y → x ≡ y
statics_same o x y e f h k =
    let a : Kind × List ℕ = (Static, row_code x) in let b : Kind × List ℕ = (Static, row_code y) in
    row_same x y h k (ap (λ (p : Kind × List ℕ). p.1) (some_is a b (sym e ∙ f)))
