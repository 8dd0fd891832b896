-- The object of which a link is named, how many bytes it has of its own, and the steps of a region in which objects are made and moved.
use Rattle.std.specs.Prelude.{◌≡◌, ℕ, zero, suc, ◌+◌, ◌-◌, ◌%◌, ◌^◌, ◌<◌, ◌≤◌, ◌⊎◌, Bool, cond, min, nat_eq, Option, Some, None, length}
use Rattle.std.specs.Option.{option_map_or}
use Rattle.lsa_pool.specs.Room.{spare_of}
use Rattle.lsa_store.specs.declared.place.Ref.{Ref}
use Rattle.lsa_region.specs.declared.end.End.{End}
use Rattle.lsa_region.specs.declared.end.End.TheVariants.{Obj, Slot}
use Rattle.lsa_region.specs.Region.{View, body, objects, live_bytes}
use Rattle.lsa_move.specs.Room.{IsCompacted}

-- the object of which a link is named
abbrev pub named_object : Option End → Option Ref
named_object None = None
named_object (Some (Obj r field)) = Some r
named_object (Some (Slot s)) = None

-- how many bytes an object has of its own; 0 where there is none
abbrev pub length_of : View → Option Ref → ℕ
length_of v None = 0
length_of v (Some r) = option_map_or (λ b. length b.1) (body v r) 0

-- a dummy of 88 bytes was made, for which there was room, and it is gone again if it was to go
pub record IsDummyMade (goes : Bool) (old new : View) : Type 0 where
  pub room : 88 ≤ spare_of 4096 old.usages
  pub count : objects new ≡ objects old + cond goes 0 1
  pub live : live_bytes new ≡ live_bytes old + cond goes 0 88
  pub epoch : new.epoch ≡ min (old.epoch + cond goes 2 1) (2 ^ 64 - 1)

-- a dummy was made, or, where there was no room for it, the sparsest segment was emptied
abbrev pub IsStep : Bool → View → View → Type 0
IsStep goes old new = IsDummyMade goes old new ⊎ ((spare_of 4096 old.usages < 88) × (n : ℕ) × IsCompacted 4096 old new n)

-- so many steps were done, one after the other; in each step of an even number, from 0, a dummy that is made goes again
unfoldable pub StepsDone : ℕ → View → View → Type 0
StepsDone zero old new = new ≡ old
StepsDone (suc steps) old new = (mid : View) × StepsDone steps old mid × IsStep (nat_eq (steps % 2) 0) mid new
