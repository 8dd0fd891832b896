-- There is room for what each call makes.
use Rattle.std.proofs.Common.{◌≡◌, ℕ, ◌+◌, ◌≤◌, List, [], ◌∷◌, length, Option, Some, None, subst, arith}
use Rattle.std.specs.Prelude.{IsSomeAnd, IfSome}
use Rattle.std.specs.declared.cmp.Ordering.{Ordering}
use Rattle.std.specs.declared.cmp.Ordering.TheVariants.{Less, Equal, Greater}
use Rattle.rc_cell.specs.declared.rows.Row.{Row}
use Rattle.rc_cell.specs.Winner.{joined_row}
use Rattle.rc_position.specs.declared.positions.Pos.{Pos}
use Rattle.rc_rowcode.specs.Objects.{dummy_size, static_size}
use Rattle.rc_rowcode.specs.Spelling.{pos_code, row_code, IsCodedRow, IsPos, KeyFits}
use Rattle.rc_rowcode.specs.laws.Limits.{key_limits, row_limits}
use Rattle.rc_rowcode.specs.laws.Sizes.{pos_code_small, row_code_small}
use Rattle.lsa_kinds.specs.declared.kind.Kind.{Kind}
use Rattle.lsa_kinds.specs.Kinds.{up8}
use Rattle.lsa_pool.specs.Room.{spare_of}
use Rattle.lsa_store.specs.declared.place.Ref.{Ref}
use Rattle.lsa_region.specs.Region.{View, body}
use Rattle.rc_core.specs.Change.{joined_onto}
use Rattle.rc_core.specs.declared.entries.Entry.{Entry}
use Rattle.rc_core.specs.Version.{Finding, Spot, On, entry_answers, finding_in, spot_cmp}
use Rattle.rc_object.specs.Objects.{HasRoomFor, HoldsEntry, SpellsEntry, entry_length}
use Rattle.rc_version.specs.Versions.{HasStatics, HoldEntries, bytes_at}

up8_least : (n : ℕ) → up8 n ≤ n + 7
up8_least n = omega arith

row_small : (row : Row) → IsCodedRow row → length (row_code row) ≤ 8599
row_small row h = row_code_small row h.ascending (row_limits row h)

-- ---- what is held has a code

row_in : (o : Option (Kind × List ℕ)) (e : Entry) → IsSomeAnd o (λ b. SpellsEntry b e) → IfSome e.row IsCodedRow
row_in None e h = absurd h
row_in (Some b) e h = h.row

place_in : (o : Option (Kind × List ℕ)) (e : Entry) → IsSomeAnd o (λ b. SpellsEntry b e) → IsPos e.position
place_in None e h = absurd h
place_in (Some b) e h = h.position

pub place-coded : (v : View) (r : Ref) (e : Entry) → HoldsEntry v r e → IsPos e.position
place-coded v r e h = place_in (body v r) e h

answered : (o : Ordering) (e : Entry) (rest : Finding) → IfSome e.row IsCodedRow → IfSome rest.row IsCodedRow → IfSome (entry_answers o e rest).row IsCodedRow
answered Less e rest h k = tt
answered Equal e rest h k = h
answered Greater e rest h k = k

seen_coded : (v : View) (s : Spot) (refs : List Ref) (es : List Entry) → HoldEntries v refs es → IfSome (finding_in s es).row IsCodedRow
seen_coded v s [] [] h = tt
seen_coded v s [] (e ∷ es) h = absurd h
seen_coded v s (r ∷ refs) [] h = absurd h
seen_coded v s (r ∷ refs) (e ∷ es) h = answered (spot_cmp s e.position) e (finding_in s es) (row_in (body v r) e h.0) (seen_coded v s refs es h.1)

-- a joined row has a code, as the crate of codes shows
abbrev pub JoinedCoded : Type 0
JoinedCoded = (r q : Row) → IsCodedRow r → IsCodedRow q → IsCodedRow (joined_row (r ∷ q ∷ []))

joined_coded : JoinedCoded → (o : Option Row) → IfSome o IsCodedRow → (row : Row) → IsCodedRow row → IsCodedRow (joined_onto o row)
joined_coded law None h row k = k
joined_coded law (Some old) h row k = law old row h k

-- ---- room

module _ (v : View) (space : ℕ) (size : space ≡ 16384) (spare : 17904 ≤ spare_of 131072 v.usages) where
  pub dummy-room : (x : Pos) → KeyFits x.prefix → HasRoomFor 131072 v (dummy_size x) space (entry_length x None)
  dummy-room x fits = let small = pos_code_small x fits in let least = up8_least (80 + length (pos_code x)) in record {
    fits = omega (arith, small, least);
    spare = omega (arith, small, least, spare);
    inside = omega (arith, small, size);
  }

  pub dummy-room-like : (x : Pos) → IsPos x → HasRoomFor 131072 v (dummy_size x) space (entry_length x None)
  dummy-room-like x is = dummy-room x (key_limits x.prefix is)

  pub row-room : (x : Pos) → KeyFits x.prefix → (row : Row) → IsCodedRow row → HasRoomFor 131072 v (bytes_at x (Some row)) space (entry_length x (Some row))
  row-room x fits row coded = let small = pos_code_small x fits in let least = up8_least (80 + (length (pos_code x) + length (row_code row))) in let short = row_small row coded in record {
    fits = omega (arith, small, least, short);
    spare = omega (arith, small, least, short, spare);
    inside = omega (arith, small, short, size);
  }

  pub joined-room : JoinedCoded → (refs : List Ref) (es : List Entry) → HoldEntries v refs es → (x : Pos) → KeyFits x.prefix → (row : Row) → IsCodedRow row
      → HasRoomFor 131072 v (bytes_at x (Some (joined_onto (finding_in (On x) es).row row))) space (entry_length x (Some (joined_onto (finding_in (On x) es).row row)))
  joined-room law refs es held x fits row coded = row-room x fits (joined_onto (finding_in (On x) es).row row) (joined_coded law (finding_in (On x) es).row (seen_coded v (On x) refs es held) row coded)

pub static-small : (row : Row) → IsCodedRow row → static_size row ≤ 8638
static-small row coded = let least = up8_least (32 + length (row_code row)) in let short = row_small row coded in omega (arith, least, short)

pub dummy-small : (x : Pos) → KeyFits x.prefix → dummy_size x ≤ 353
dummy-small x fits = let small = pos_code_small x fits in let least = up8_least (80 + length (pos_code x)) in omega (arith, small, least)

module _ (v : View) (space : ℕ) (size : space ≡ 16384) (spare : 17904 ≤ spare_of 131072 v.usages) where
  pub static-room : JoinedCoded → (old : Option Row) → IfSome old IsCodedRow → (row : Row) → IsCodedRow row → HasRoomFor 131072 v (static_size (joined_onto old row)) space (length (row_code (joined_onto old row)))
  static-room law old held row coded = let both = joined_coded law old held row coded in let small = static-small (joined_onto old row) both in let short = row_small (joined_onto old row) both in record {
    fits = omega (arith, small);
    spare = omega (arith, small, spare);
    inside = omega (arith, short, size);
  }

pub statics-coded : (v : View) (n : Ref) (row : Option Row) → HasStatics v n row → IfSome row IsCodedRow
statics-coded v n None h = tt
statics-coded v n (Some row) h = h.2.1

pub place-fits : (v : View) (r : Ref) (e : Entry) → HoldsEntry v r e → KeyFits e.position.prefix
place-fits v r e h = key_limits e.position.prefix (place-coded v r e h)

pub row-coded : (v : View) (r : Ref) (e : Entry) (row : Row) → HoldsEntry v r e → e.row ≡ Some row → IsCodedRow row
row-coded v r e row h is = subst (λ o. IfSome o IsCodedRow) is (row_in (body v r) e h)
