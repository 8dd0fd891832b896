-- What an object of a version holds: the head of a version, an entry, a static row.
--     SpellsHead, SpellsEntry     the kind and the bytes behind the links stand for this head, or this entry
--     HoldsHead, HoldsEntry, HoldsStatic, HoldsRow     the object does
--     IsMade, IsRewritten         an object was made, or the bytes of one were changed, and all else is as it was
--     HasRoomFor                  an object can be made
use Rattle.std.specs.Prelude.{◌≡◌, ◌≢◌, ◌⊎◌, ℕ, ◌+◌, ◌*◌, ◌/◌, ◌≤◌, List, [], ◌++◌, length, take, drop, Option, Some, None, IsSomeAnd, IfSome}
use Rattle.std.specs.Int.{w64, cast_unsigned}
use Rattle.std.specs.Option.{option_map, option_map_or}
use Rattle.rc_cell.specs.declared.writes.Tomb.{Tomb}
use Rattle.rc_cell.specs.declared.rows.Row.{Row}
use Rattle.rc_position.specs.declared.positions.Pos.{Pos}
use Rattle.rc_rowcode.specs.Spelling.{pos_code, row_code, IsPos, IsTomb, IsCodedRow}
use Rattle.rc_core.specs.declared.entries.Entry.{Entry}
use Rattle.rc_core.specs.declared.entries.Flag.{Flag}
use Rattle.rc_core.specs.declared.entries.Flag.TheVariants.{Known, Unknown, Inherit}
use Rattle.rc_core.specs.declared.entries.Mark.{Mark}
use Rattle.lsa_kinds.specs.declared.kind.Kind.{Kind}
use Rattle.lsa_kinds.specs.declared.kind.Kind.TheVariants.{Version, RowEntry, Dummy, Static}
use Rattle.lsa_kinds.specs.Fields.{number_at}
use Rattle.lsa_pool.specs.Room.{spare_of}
use Rattle.lsa_region.specs.Ref.{Ref}
use Rattle.lsa_region.specs.Objects.{rounded_size}
use Rattle.lsa_region.specs.Region.{View, body, objects, live_bytes, IsAdded, IsWritten, Risen}
use Rattle.rc_object.specs.declared.heads.Head.{Head}

-- a flag in two bits
abbrev pub flag_code : Flag → ℕ
flag_code Known = 0
flag_code Unknown = 1
flag_code Inherit = 2

-- one bit: whether there is one
abbrev pub presence : Option Tomb → ℕ
presence None = 0
presence (Some tomb) = 1

-- the timestamp of a tombstone in its field, in two's complement; 0 of none
abbrev pub timestamp_code : Option Tomb → ℕ
timestamp_code tomb = option_map_or (λ t. cast_unsigned w64 t.ts) tomb 0

-- the deletion time of a tombstone in its field; 0 of none
abbrev pub deletion_code : Option Tomb → ℕ
deletion_code tomb = option_map_or (λ t. t.dt) tomb 0

-- the byte of a version's flags: whether there is a partition tombstone, and the static row's flag
abbrev pub head_flags : Head → ℕ
head_flags h = presence h.partition_tombstone + 2 * flag_code h.static_flag

-- the byte of an entry's flags: the flag at it, that of the gap before it, and which of the two tombstones are there
abbrev pub entry_flags : Mark → Mark → ℕ
entry_flags at gap = flag_code at.flag + 4 * flag_code gap.flag + 16 * presence at.tomb + 32 * presence gap.tomb

-- the kind and the bytes behind the links of a version with this head
pub record SpellsHead (b : Kind × List ℕ) (h : Head) : Type 0 where
  pub kind : b.0 ≡ Version
  pub long : length b.1 ≡ 24
  pub flags : number_at 0 1 b.1 ≡ head_flags h
  pub deletion : number_at 4 4 b.1 ≡ deletion_code h.partition_tombstone
  pub timestamp : number_at 8 8 b.1 ≡ timestamp_code h.partition_tombstone
  pub phase : number_at 16 8 b.1 ≡ h.phase
  pub tomb : IfSome h.partition_tombstone IsTomb

-- the bytes of an entry, up to the length of its position, with these marks at it and over the gap before it
pub record SpellsMarks (bytes : List ℕ) (at gap : Mark) : Type 0 where
  pub flags : number_at 0 1 bytes ≡ entry_flags at gap
  pub deletion_at : number_at 4 4 bytes ≡ deletion_code at.tomb
  pub timestamp_at : number_at 8 8 bytes ≡ timestamp_code at.tomb
  pub timestamp_gap : number_at 16 8 bytes ≡ timestamp_code gap.tomb
  pub deletion_gap : number_at 24 4 bytes ≡ deletion_code gap.tomb
  pub tomb_at : IfSome at.tomb IsTomb
  pub tomb_gap : IfSome gap.tomb IsTomb

-- the kind of an entry with this row, or with none
abbrev pub entry_kind : Option Row → Kind
entry_kind None = Dummy
entry_kind (Some row) = RowEntry

-- the code of a row; no bytes of none
abbrev pub row_part : Option Row → List ℕ
row_part row = option_map_or row_code row []

-- the kind and the bytes behind the links of an entry
pub record SpellsEntry (b : Kind × List ℕ) (e : Entry) : Type 0 where
  pub kind : b.0 ≡ entry_kind e.row
  pub marks : SpellsMarks b.1 e.at e.gap
  pub size : number_at 28 4 b.1 ≡ length (pos_code e.position)
  pub codes : drop 32 b.1 ≡ pos_code e.position ++ row_part e.row
  pub position : IsPos e.position
  pub row : IfSome e.row IsCodedRow

-- the object is a version with this head
abbrev pub HoldsHead : View → Ref → Head → Type 0
HoldsHead v r h = IsSomeAnd (body v r) (λ b. SpellsHead b h)

-- the object is this entry
abbrev pub HoldsEntry : View → Ref → Entry → Type 0
HoldsEntry v r e = IsSomeAnd (body v r) (λ b. SpellsEntry b e)

-- the object is a static row with these cells
abbrev pub HoldsStatic : View → Ref → Row → Type 0
HoldsStatic v r row = (body v r ≡ Some (Static, row_code row)) × IsCodedRow row

-- the object is a static row, or a row entry, with this row
abbrev pub HoldsRow : View → Ref → Row → Type 0
HoldsRow v r row = HoldsStatic v r row ⊎ ((e : Entry) × HoldsEntry v r e × (e.row ≡ Some row))

-- the bytes are the code of this row
abbrev pub IsRowCode : List ℕ → Row → Type 0
IsRowCode bytes row = IsCodedRow row × (bytes ≡ row_code row)

-- an entry at this position with this row and these marks
abbrev pub entry_of : Pos → Option Row → Mark → Mark → Entry
entry_of x row at gap = record { position = x; row = row; at = at; gap = gap }

-- how many bytes lie behind the links of an entry at this position with this row, or with none
abbrev pub entry_length : Pos → Option Row → ℕ
entry_length x row = 32 + (length (pos_code x) + length (row_part row))

-- an object can be made that takes so many bytes, by way of a scratch space of this size, in which it needs so much
pub record HasRoomFor (S : ℕ) (v : View) (size space needed : ℕ) : Type 0 where
  pub fits : size ≤ S / 8
  pub spare : size ≤ spare_of S v.usages
  pub inside : needed ≤ space

-- a new object of this kind that takes so many bytes; an entry or a version has the balance 0
pub record IsObjectMade (old new : View) (r : Ref) (size : ℕ) (kind : Kind) (bytes : List ℕ) : Type 0 where
  pub added : IsAdded old new r kind bytes
  pub takes : rounded_size kind (length bytes) ≡ size
  pub level : kind ≢ Static → number_at 1 1 bytes ≡ 0

-- an object was made that takes so many bytes; all else is as it was
pub record IsMade (S : ℕ) (old new : View) (r : Ref) (size : ℕ) : Type 0 where
  pub object : (kind : Kind) × (bytes : List ℕ) × IsObjectMade old new r size kind bytes
  pub count : objects new ≡ objects old + 1
  pub spare : spare_of S old.usages ≤ spare_of S new.usages + size
  pub live : live_bytes new ≡ live_bytes old + size
  pub budget : length new.usages ≡ length old.usages
  pub epoch : Risen old.epoch new.epoch
  pub moved : new.moved ≡ old.moved
  pub compacted : new.compacted ≡ old.compacted

-- the bytes of an object were changed, and all else is as it was
abbrev pub IsRewritten : View → View → Ref → Type 0
IsRewritten old new r = ((change : List ℕ → List ℕ) × IsWritten old new r change) × (objects new ≡ objects old)

-- the kind, the balance, and the bytes from the length of the position on
abbrev pub but_marks : Kind × List ℕ → Kind × (ℕ × List ℕ)
but_marks b = (b.0, (number_at 1 1 b.1, drop 28 b.1))

-- two bodies of entries are the same but for their marks
abbrev pub IsSameButMarks : Option (Kind × List ℕ) → Option (Kind × List ℕ) → Type 0
IsSameButMarks old new = option_map but_marks new ≡ option_map but_marks old

-- the kind and all bytes but the balance
abbrev pub but_level : Kind × List ℕ → Kind × (List ℕ × List ℕ)
but_level b = (b.0, (take 1 b.1, drop 2 b.1))

-- two bodies of entries are the same but for their balance
abbrev pub IsSameButLevel : Option (Kind × List ℕ) → Option (Kind × List ℕ) → Type 0
IsSameButLevel old new = option_map but_level new ≡ option_map but_level old
