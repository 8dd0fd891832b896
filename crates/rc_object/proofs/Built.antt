-- The bytes of an entry that is made: its front, its position, its row.
use Rattle.std.proofs.Common.{◌≡◌, ℕ, ◌+◌, ◌*◌, ◌≤◌, List, [], ◌∷◌, ◌++◌, length, drop, Option, Some, None, refl, ap, sym, ◌∙◌, subst, arith, length-append}
use Rattle.std.specs.Prelude.{IfSome, IsSomeAnd}
use Rattle.std.proofs.Math.Seq.{drop-append_seam}
use Rattle.std.proofs.lemmas.List.{drop-append-le, append-nil}
use Rattle.rc_cell.specs.declared.rows.Row.{Row}
use Rattle.rc_position.specs.declared.positions.Pos.{Pos}
use Rattle.rc_cell.specs.Winner.{joined_row}
use Rattle.rc_rowcode.specs.Objects.{dummy_size, entry_size, static_size}
use Rattle.rc_rowcode.specs.Space.{Space, HasRoom}
use Rattle.rc_rowcode.specs.Spelling.{pos_code, row_code, IsPos, IsCodedRow}
use Rattle.rc_core.specs.declared.entries.Entry.{Entry}
use Rattle.rc_core.specs.Change.{dummy, joined_onto}
use Rattle.rc_core.specs.declared.entries.Mark.{Mark}
use Rattle.lsa_kinds.specs.declared.kind.Kind.{Kind}
use Rattle.lsa_kinds.specs.declared.kind.Kind.TheVariants.{RowEntry, Dummy, Static}
use Rattle.lsa_kinds.specs.Kinds.{up8}
use Rattle.lsa_kinds.specs.Fields.{number_at}
use Rattle.lsa_region.specs.Objects.{rounded_size}
use Rattle.lsa_region.specs.Ref.{Ref}
use Rattle.lsa_region.specs.Region.{View, body}
use Rattle.rc_object.specs.Objects.{SpellsMarks, SpellsEntry, entry_kind, row_part, entry_of, HoldsStatic}
use Rattle.rc_object.specs.calls.Making.{IsEntryBegun, IsEntryBuilt}
use Rattle.rc_object.specs.laws.Spelled.{number_front, marks_front}

pub begun : (front : List ℕ) (x : Pos) (at gap : Mark) → length front ≡ 32 → SpellsMarks front at gap → number_at 1 1 front ≡ 0 → number_at 28 4 front ≡ length (pos_code x) → IsPos x → IsEntryBegun (front ++ pos_code x) x at gap
begun front x at gap long marks level size coded = record {
  marks = marks_front front (pos_code x) at gap (omega (arith, long)) marks;
  level = number_front 1 1 front (pos_code x) (omega (arith, long)) ∙ level;
  size = number_front 28 4 front (pos_code x) (omega (arith, long)) ∙ size;
  codes = ap (λ n. drop n (front ++ pos_code x)) (sym long) ∙ drop-append_seam front (pos_code x);
  position = coded;
  long = length-append front (pos_code x) ∙ ap (λ n. n + length (pos_code x)) long;
}

pub entry_built : (front : List ℕ) (x : Pos) (at gap : Mark) (row : Option Row) → IsEntryBegun front x at gap → IfSome row IsCodedRow → SpellsEntry (entry_kind row, front ++ row_part row) (entry_of x row at gap)
entry_built front x at gap row w coded = record {
  kind = refl;
  marks = marks_front front (row_part row) at gap (omega (arith, w.long)) w.marks;
  size = number_front 28 4 front (row_part row) (omega (arith, w.long)) ∙ w.size;
  codes = drop-append-le 32 front (row_part row) (omega (arith, w.long)) ∙ ap (λ l. l ++ row_part row) w.codes;
  position = w.position;
  row = coded;
}

pub level_built : (front rest : List ℕ) (x : Pos) (at gap : Mark) → IsEntryBegun front x at gap → number_at 1 1 (front ++ rest) ≡ 0
level_built front rest x at gap w = number_front 1 1 front rest (omega (arith, w.long)) ∙ w.level

pub length_built : (front rest : List ℕ) (x : Pos) (at gap : Mark) → IsEntryBegun front x at gap → length (front ++ rest) ≡ 32 + (length (pos_code x) + length rest)
length_built front rest x at gap w = omega (arith, length-append front rest, w.long)

-- ---- what is put into the scratch space

pub put_once : (s t : Space) (size : ℕ) (front : List ℕ) → s ≡ record { bytes = []; size = size } → t ≡ record { bytes = s.bytes ++ front; size = s.size } → t ≡ record { bytes = front; size = size }
put_once s t size front e f = f ∙ ap (λ (u : Space). record { bytes = u.bytes ++ front; size = u.size }) e

pub put_more : (s t : Space) (size : ℕ) (front more rest : List ℕ) → s ≡ record { bytes = front; size = size } → t ≡ record { bytes = s.bytes ++ more; size = s.size } → more ≡ rest → t ≡ record { bytes = front ++ rest; size = size }
put_more s t size front more rest e f same = f ∙ ap (λ (u : Space). record { bytes = u.bytes ++ more; size = u.size }) e ∙ ap (λ (l : List ℕ). record { bytes = front ++ l; size = size }) same

pub bytes_put : (s : Space) (bytes : List ℕ) (size : ℕ) → s ≡ record { bytes = bytes; size = size } → s.bytes ≡ bytes
bytes_put s bytes size e = ap (λ (u : Space). u.bytes) e

pub size_put : (s : Space) (bytes : List ℕ) (size : ℕ) → s ≡ record { bytes = bytes; size = size } → s.size ≡ size
size_put s bytes size e = ap (λ (u : Space). u.size) e

-- ---- the rows of entries

-- a row entry has a row
some_row : (row : Option Row) → entry_kind row ≡ RowEntry → IfSome row IsCodedRow → (r : Row) × (row ≡ Some r) × IsCodedRow r
some_row None e h = cc
some_row (Some r) e h = (r, refl, h)

pub row_of : (o : Option (Kind × List ℕ)) (e : Entry) (kind : Kind) → IsSomeAnd o (λ b. SpellsEntry b e) → IsSomeAnd o (λ b. b.0 ≡ kind) → kind ≡ RowEntry → (r : Row) × (e.row ≡ Some r) × IsCodedRow r
row_of None e kind h k is = absurd h
row_of (Some b) e kind h k is = some_row e.row (sym h.kind ∙ k ∙ is) h.row

-- a row that has no bytes to be joined with
no_row : (row : Option Row) (kind : Kind) → kind ≡ entry_kind row → (kind ≡ RowEntry → ⊥) → row ≡ None
no_row None kind e ne = refl
no_row (Some r) kind e ne = absurd (ne e)

pub onto_is : (have : Option Row) (own row r q : Row) → have ≡ Some own → r ≡ own → q ≡ row → joined_onto have row ≡ joined_row (r ∷ q ∷ [])
onto_is have own row r q is first second =
    ap (λ o. joined_onto o row) is ∙ ap (λ a. joined_row (a ∷ row ∷ [])) (sym first) ∙ ap (λ a. joined_row (r ∷ a ∷ [])) (sym second)

pub place_of : (o : Option (Kind × List ℕ)) (e : Entry) → IsSomeAnd o (λ b. SpellsEntry b e) → IsPos e.position
place_of None e h = absurd h
place_of (Some b) e h = h.position

-- ---- an entry whose bytes are ready

pub ready_dummy : (bytes : List ℕ) (x : Pos) (m : Mark) → IsEntryBegun bytes x m m → IsEntryBuilt bytes Dummy (dummy x m) (dummy_size x)
ready_dummy bytes x m w =
    let same : 8 + 8 * 5 + length bytes ≡ 80 + length (pos_code x) = omega (arith, w.long) in record {
      spelled = subst (λ l. SpellsEntry (Dummy, l) (dummy x m)) (append-nil bytes) (entry_built bytes x m m None w tt);
      level = w.level;
      takes = ap up8 same;
    }

pub ready_row : (bytes front : List ℕ) (x : Pos) (at gap : Mark) (row : Row) → IsEntryBegun front x at gap → IsCodedRow row → front ++ row_code row ≡ bytes → IsEntryBuilt bytes RowEntry (entry_of x (Some row) at gap) (entry_size x.prefix row)
ready_row bytes front x at gap row w coded is =
    let same : 8 + 8 * 5 + length (front ++ row_code row) ≡ 80 + (length (pos_code x) + length (row_code row)) = omega (arith, length_built front (row_code row) x at gap w) in
    subst (λ l. IsEntryBuilt l RowEntry (entry_of x (Some row) at gap) (entry_size x.prefix row)) is (record {
      spelled = entry_built front x at gap (Some row) w coded;
      level = level_built front (row_code row) x at gap w;
      takes = ap up8 same;
    })

-- an object that holds an entry
pub held : (o : Option (Kind × List ℕ)) (kind : Kind) (bytes : List ℕ) (e : Entry) → o ≡ Some (kind, bytes) → SpellsEntry (kind, bytes) e → IsSomeAnd o (λ b. SpellsEntry b e)
held o kind bytes e here w = let P : Option (Kind × List ℕ) → Type 0 = λ p. IsSomeAnd p (λ b. SpellsEntry b e) in subst P (sym here) w

-- ---- rows that have codes

coded_onto : ((r q : Row) → IsCodedRow r → IsCodedRow q → IsCodedRow (joined_row (r ∷ q ∷ []))) → (have : Option Row) (row : Row) → IfSome have IsCodedRow → IsCodedRow row → IsCodedRow (joined_onto have row)
coded_onto law None row h k = k
coded_onto law (Some own) row h k = law own row h k

pub coded_joined : ((r q : Row) → IsCodedRow r → IsCodedRow q → IsCodedRow (joined_row (r ∷ q ∷ []))) → (o : Option (Kind × List ℕ)) (e : Entry) (row : Row) → IsSomeAnd o (λ b. SpellsEntry b e) → IsCodedRow row → IsCodedRow (joined_onto e.row row)
coded_joined law None e row h k = absurd h
coded_joined law (Some b) e row h k = coded_onto law e.row row h.row k

-- ---- static rows

pub static_takes : (bytes : List ℕ) (row : Row) → bytes ≡ row_code row → rounded_size Static (length bytes) ≡ static_size row
static_takes bytes row is = let same : 8 + 8 * 3 + length bytes ≡ 32 + length (row_code row) = omega (arith, ap length is) in ap up8 same

pub static_held : (v : View) (r : Ref) (bytes : List ℕ) (row : Row) → body v r ≡ Some (Static, bytes) → bytes ≡ row_code row → IsCodedRow row → HoldsStatic v r row
static_held v r bytes row here is coded = (here ∙ ap (λ l. Some (Static, l)) is, coded)

-- ---- a row put behind the front of an entry

pub ready_put : (s t : Space) (x : Pos) (at gap : Mark) (row : Row) (code bytes : List ℕ) → IsEntryBegun s.bytes x at gap → t ≡ record { bytes = s.bytes ++ code; size = s.size } → code ≡ row_code row → bytes ≡ t.bytes → IsCodedRow row
    → IsEntryBuilt bytes RowEntry (entry_of x (Some row) at gap) (entry_size x.prefix row)
ready_put s t x at gap row code bytes w put is same coded =
    ready_row bytes s.bytes x at gap row w coded (ap (λ l. s.bytes ++ l) (sym is) ∙ sym (same ∙ bytes_put t (s.bytes ++ code) s.size put))

-- the same with marks by other names
pub begun_as : (bytes : List ℕ) (x : Pos) (at gap m n : Mark) → at ≡ m → gap ≡ n → IsEntryBegun bytes x at gap → IsEntryBegun bytes x m n
begun_as bytes x at gap m n e f w = subst (λ k. IsEntryBegun bytes x m k) f (subst (λ k. IsEntryBegun bytes x k gap) e w)

-- the same bytes in another place
pub built_as : (bytes others : List ℕ) (kind : Kind) (e : Entry) (size : ℕ) → others ≡ bytes → IsEntryBuilt bytes kind e size → IsEntryBuilt others kind e size
built_as bytes others kind e size same w = subst (λ l. IsEntryBuilt l kind e size) (sym same) w

-- ---- rows joined in an empty scratch space

pub room_there : (s : Space) (size n : ℕ) → s ≡ record { bytes = []; size = size } → n ≤ size → HasRoom s n
room_there s size n e less = let P : Space → Type 0 = λ t. HasRoom t n in let there : 0 + n ≤ size = omega arith in subst P (sym e) there

pub joined_is : (r q a b : Row) → a ≡ r → b ≡ q → joined_row (r ∷ q ∷ []) ≡ joined_row (a ∷ b ∷ [])
joined_is r q a b first second = ap (λ z. joined_row (z ∷ q ∷ [])) (sym first) ∙ ap (λ z. joined_row (a ∷ z ∷ [])) (sym second)
