-- What is answered while a whole file is walked from its head to its end.
--     IsCheckRefused          what a refusal says of the file
--     StandsAhead, Stopped    the items so far, up to the stop and behind it
--     Awaits, Expects         the items that must come behind the stop, and what was answered of some of them
--     Meets, Misses           bytes that must come next
--     EndsFront, Overruns     nothing may come any more
use Rattle.std.specs.Prelude.{◌≡◌, ◌≢◌, ℕ, Bool, true, false, List, [], ◌∷◌, ◌++◌, length, Option, Result, Ok, Err, ⊤}
use Rattle.rc_outside.specs.Files.{Files}
use Rattle.rc_schema.specs.SchemaValue.{SchemaValue}
use Rattle.rc_tfile.specs.declared.checking.CheckErr.{CheckErr}
use Rattle.rc_tfile.specs.declared.checking.CheckErr.TheVariants.{Fault, Damaged, OtherSchema, NoMemory}
use Rattle.rc_items.specs.declared.outline.Outline.{Outline}
use Rattle.rc_items.specs.Items.{Item, StopItem, TailItem}
use Rattle.rc_items.specs.Before.{ItemsBefore, Behind, text, item_place, followed_by}
use Rattle.rc_items.specs.Blocks.{ending, items_due}
use Rattle.rc_items.specs.TableText.{AllFit}
use Rattle.rc_items.specs.Outlined.{IsOutline, IsListed}
use Rattle.rc_tfile.specs.Checking.{IsContent}
use Rattle.rc_tfile.specs.calls.Windows.{ReadAhead, IsAheadIn}
use Rattle.rc_tfile.specs.Walking.{IsRefusalOf}

-- the items end with the tail
abbrev pub EndsWithTail : ItemsBefore → Type 0
EndsWithTail (TailItem off parts ∷ before) = ⊤
EndsWithTail before = ⊥

-- the same of file n, where the files are told
abbrev pub IsCheckRefused : Option Files → ℕ → SchemaValue → CheckErr → Type 0
IsCheckRefused files n schema e = (bytes : List ℕ) → IsContent files n bytes → IsRefusalOf bytes schema e

-- items that fit stand before what is ahead, and the outline is theirs
pub record StandsAhead (files : Option Files) (schema : SchemaValue) (o : Outline) (w : ReadAhead) : Type 0 where
  pub before : ItemsBefore
  pub fit : AllFit schema before
  pub outline : IsOutline before o
  pub told : IsAheadIn files (text before) w

-- the same behind the stop
pub record Stopped (files : Option Files) (schema : SchemaValue) (o : Outline) (w : ReadAhead) : Type 0 where
  pub before : ItemsBefore
  pub fit : AllFit schema (StopItem ∷ before)
  pub listed : IsListed (StopItem ∷ before) o
  pub told : IsAheadIn files (text (StopItem ∷ before)) w

-- the items so far after one more, which may be the stop
abbrev pub Walks : Bool → Option Files → SchemaValue → Outline → ReadAhead → Type 0
Walks true files schema o w = Stopped files schema o w
Walks false files schema o w = StandsAhead files schema o w

-- behind the stop, some of the items that must come there are done, and these are still to come
pub record Awaits (files : Option Files) (schema : SchemaValue) (start : ItemsBefore) (left : List Item) (w : ReadAhead) : Type 0 where
  pub done : List Item
  pub whole : ending start ≡ done ++ left
  pub next : items_due (followed_by start done) ≡ left
  pub behind : item_place (followed_by start done) ≡ Behind
  pub ended : EndsWithTail (followed_by start done) → left ≡ []
  pub fit : AllFit schema (followed_by start done)
  pub told : IsAheadIn files (text (followed_by start done)) w

-- what was answered of the items that must come next: they came, or the file is refused
abbrev pub Expects : (before now : Option Files) → List Item → Result (Unit {0}) CheckErr → (old new : ReadAhead) → Type 0
Expects before now items (Ok _) old new = (schema : SchemaValue) (start : ItemsBefore) (more : List Item) → Awaits before schema start (items ++ more) old → Awaits now schema start more new
Expects before now items (Err e) old new = (schema : SchemaValue) (start : ItemsBefore) (more : List Item) → Awaits before schema start (items ++ more) old → IsCheckRefused now new.number schema e

-- behind its front the file goes on with other bytes than these
abbrev pub Misses : List ℕ → (front code : List ℕ) → CheckErr → Type 0
Misses bytes front code Fault = ⊤
Misses bytes front code (Damaged off) = (behind : List ℕ) × (off ≡ length front) × (bytes ≡ front ++ behind) × ((more : List ℕ) → behind ≡ code ++ more → ⊥)
Misses bytes front code OtherSchema = ⊥
Misses bytes front code NoMemory = ⊤

-- what was answered of bytes that must come next: they came, or the file does not go on with them
abbrev pub Meets : (before now : Option Files) → List ℕ → Result (Unit {0}) CheckErr → (old new : ReadAhead) → Type 0
Meets before now code (Ok _) old new = (front : List ℕ) → IsAheadIn before front old → IsAheadIn now (front ++ code) new
Meets before now code (Err e) old new = (front : List ℕ) → IsAheadIn before front old → (bytes : List ℕ) → IsContent now new.number bytes → Misses bytes front code e

-- the file goes on behind its front
abbrev pub Overruns : List ℕ → (front : List ℕ) → CheckErr → Type 0
Overruns bytes front Fault = ⊤
Overruns bytes front (Damaged off) = (behind : List ℕ) × (off ≡ length front) × (bytes ≡ front ++ behind) × (behind ≢ [])
Overruns bytes front OtherSchema = ⊥
Overruns bytes front NoMemory = ⊤

-- what was answered where nothing may come: the front is all, or the file goes on
abbrev pub EndsFront : (before now : Option Files) → Result (Unit {0}) CheckErr → (old new : ReadAhead) → Type 0
EndsFront before now (Ok _) old new = (front : List ℕ) → IsAheadIn before front old → (bytes : List ℕ) → IsContent now new.number bytes → bytes ≡ front
EndsFront before now (Err e) old new = (front : List ℕ) → IsAheadIn before front old → (bytes : List ℕ) → IsContent now new.number bytes → Overruns bytes front e

-- the file has all items that must come behind these, and nothing else
abbrev pub IsWholeTable : Option Files → ℕ → SchemaValue → ItemsBefore → Type 0
IsWholeTable files n schema start = AllFit schema (followed_by start (ending start)) × ((bytes : List ℕ) → IsContent files n bytes → bytes ≡ text (followed_by start (ending start)))

-- items that fit up to the stop and what must come behind them are the whole file, and the outline has what the directory lists
pub record IsWalked (files : Option Files) (n : ℕ) (schema : SchemaValue) (o : Outline) : Type 0 where
  pub before : ItemsBefore
  pub fit : AllFit schema (StopItem ∷ before)
  pub listed : IsListed (StopItem ∷ before) o
  pub whole : IsWholeTable files n schema (StopItem ∷ before)
