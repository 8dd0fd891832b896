-- Links and root slots as numbers, as the store keeps them.
use Rattle.std.specs.Prelude.{◌≡◌, ℕ, ◌+◌, ◌*◌, ◌/◌, ◌%◌, ◌^◌, ◌<◌, Option, Some, None}
use Rattle.lsa_store.specs.declared.place.Ref.{Ref}
use Rattle.lsa_region.specs.declared.end.End.{End}
use Rattle.lsa_region.specs.declared.end.End.TheVariants.{Obj, Slot}

-- 0 for nothing; for a link of an object its segment and 1, then its offset in eights and the link's field; for a root slot all ones, then its number
abbrev pub link_code : Option End → ℕ
link_code None = 0
link_code (Some (Obj r field)) = (r.segment + 1) * 4294967296 + (r.offset / 8 * 256 + field)
link_code (Some (Slot root)) = 4294967295 * 4294967296 + root.number

-- what a link of an object tells fits its bits: offsets are multiples of 8
pub record IsCodedRef (r : Ref) (link : ℕ) : Type 0 where
  pub segment : r.segment + 1 < 4294967295
  pub offset : r.offset < 2 ^ 27
  pub even : r.offset % 8 ≡ 0
  pub field : link < 256

-- the end has a number
abbrev pub IsCodable : End → Type 0
IsCodable (Obj r field) = IsCodedRef r field
IsCodable (Slot root) = root.number < 2 ^ 32
