-- What a search for a position among entries answers.
use Rattle.std.specs.Prelude.{◌≡◌, List, [], ◌∷◌, ◌++◌, Option, Some, None}
use Rattle.rc_position.specs.declared.positions.Pos.{Pos}
use Rattle.lsa_region.specs.Ref.{Ref}
use Rattle.lsa_region.specs.Region.{View}
use Rattle.lsa_tree.specs.declared.tree.Place.{Place}
use Rattle.lsa_tree.specs.declared.tree.Place.TheVariants.{Here, Before, Last}
use Rattle.lsa_tree.specs.Entries.{IsEntryAtPosition, BelongsBetween}

-- the entry at the position, with all others before or behind it; else the next one behind it; else none, and all stand before it
abbrev pub IsFound : View → List Ref → Pos → Place → Type 0
IsFound v refs x (Here r) = (front : List Ref) × (back : List Ref) × (refs ≡ front ++ (r ∷ back)) × IsEntryAtPosition v r x × BelongsBetween v x front back
IsFound v refs x (Before r) = (front : List Ref) × (back : List Ref) × (refs ≡ front ++ (r ∷ back)) × BelongsBetween v x front (r ∷ back)
IsFound v refs x Last = BelongsBetween v x refs []

-- the first of a list; None where there is none
abbrev pub first_entry : List Ref → Option Ref
first_entry [] = None
first_entry (r ∷ refs) = Some r

-- the last of a list behind another; that one where there is none
abbrev pub last_entry_from : Option Ref → List Ref → Option Ref
last_entry_from found [] = found
last_entry_from found (r ∷ refs) = last_entry_from (Some r) refs

-- the last of a list; None where there is none
abbrev pub last_entry : List Ref → Option Ref
last_entry = last_entry_from None
