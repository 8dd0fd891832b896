-- The bytes of an entry up to its row, and all of them.
use Rattle.std.specs.Prelude.{◌≡◌, ℕ, ◌+◌, List, length, drop}
use Rattle.lsa_kinds.specs.declared.kind.Kind.{Kind}
use Rattle.lsa_region.specs.Objects.{rounded_size}
use Rattle.rc_core.specs.declared.entries.Entry.{Entry}
use Rattle.rc_position.specs.declared.positions.Pos.{Pos}
use Rattle.rc_rowcode.specs.Spelling.{pos_code, IsPos}
use Rattle.rc_core.specs.declared.entries.Mark.{Mark}
use Rattle.lsa_kinds.specs.Fields.{number_at}
use Rattle.rc_object.specs.Objects.{SpellsMarks, SpellsEntry}

-- the bytes of an entry at this position with these marks and the balance 0, up to its row
pub record IsEntryBegun (bytes : List ℕ) (x : Pos) (at gap : Mark) : Type 0 where
  pub marks : SpellsMarks bytes at gap
  pub level : number_at 1 1 bytes ≡ 0
  pub size : number_at 28 4 bytes ≡ length (pos_code x)
  pub codes : drop 32 bytes ≡ pos_code x
  pub position : IsPos x
  pub long : length bytes ≡ 32 + length (pos_code x)

-- the bytes of this entry with the balance 0, which takes so much room as an object of this kind
pub record IsEntryBuilt (bytes : List ℕ) (kind : Kind) (e : Entry) (size : ℕ) : Type 0 where
  pub spelled : SpellsEntry (kind, bytes) e
  pub level : number_at 1 1 bytes ≡ 0
  pub takes : rounded_size kind (length bytes) ≡ size
