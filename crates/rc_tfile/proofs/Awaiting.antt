-- The items that must come behind the stop, one after another.
use Rattle.std.proofs.Common.{◌≡◌, ◌≢◌, ℕ, ◌+◌, ◌≤◌, List, [], ◌∷◌, ◌++◌, length, drop, map as list_map, Option, Result, Ok, Err, refl, sym, ap, ◌∙◌, subst, arith, append_assoc, append-nil, ⊎_elim}
use Rattle.std.specs.Prelude.{MatchResult, ⊤}
use Rattle.std.specs.List.{flat_map, AllByRecursion}
use Rattle.rc_outside.specs.Files.{Files}
use Rattle.rc_schema.specs.SchemaValue.{SchemaValue}
use Rattle.rc_items.specs.declared.blocks.Block.{Block}
use Rattle.rc_tfile.specs.declared.checking.CheckErr.{CheckErr}
use Rattle.rc_tfile.specs.declared.checking.CheckErr.TheVariants.{Fault, Damaged, OtherSchema, NoMemory}
use Rattle.rc_items.specs.declared.outline.Outline.{Outline}
use Rattle.rc_items.specs.Items.{Item, HeadItem, PartItem, RowItem, ChangeItem, EndItem, StopItem, EntryItem, BlockItem, TailItem, item_code, IsItem}
use Rattle.rc_items.specs.Before.{ItemsBefore, Start, Between, Inside, Behind, text, offset, item_place, followed_by}
use Rattle.rc_items.specs.Blocks.{DirectoryEntry, entries, entry_items, ending, items_due}
use Rattle.rc_items.specs.TableText.{ItemFits, AllFit, MayStand}
use Rattle.rc_items.specs.Outlined.{IsListed}
use Rattle.rc_tfile.specs.Checking.{IsContent, IsHostError}
use Rattle.rc_tfile.specs.calls.Windows.{ReadAhead, IsItemAhead, IsAheadIn}
use Rattle.rc_tfile.specs.Walking.{IsRefusalOf}
use Rattle.rc_tfile.specs.calls.Walking.{EndsWithTail, IsCheckRefused, Awaits, Expects, Meets, Misses, EndsFront, Overruns, IsWholeTable}
use Rattle.std.proofs.lemmas.List.{length-append}
use Rattle.rc_tfile.specs.laws.Follows.{followed_by-append, all_append}
use Rattle.rc_tfile.proofs.Ahead.{ahead_decides, no_more}
use Rattle.rc_tfile.proofs.Turns.{offset_is, first_damage}

-- ---- bytes that must come next

pub miss : (files : Option Files) (front code : List ℕ) (w : ReadAhead) (off : ℕ) → length code ≤ 65541 → IsAheadIn files front w → IsItemAhead w → off + length w.ahead ≡ w.read → ((rest : List ℕ) → w.ahead ≡ code ++ rest → ⊥)
    → (content : List ℕ) → IsContent files w.number content → Misses content front code (Damaged off)
miss files front code w off few told full h none content is =
    let at = told content is in
    (w.ahead ++ at.unread, offset_is content front w off at h, at.whole, λ more e. (let there = ahead_decides content front w at full code more few (at.whole ∙ ap (λ t. front ++ t) e) in none there.0 there.1))

pub outside_miss : (bytes front code : List ℕ) (e : CheckErr) → IsHostError e → Misses bytes front code e
outside_miss bytes front code Fault h = tt
outside_miss bytes front code (Damaged off) h = absurd h
outside_miss bytes front code OtherSchema h = absurd h
outside_miss bytes front code NoMemory h = tt

-- ---- nothing may come

some_unread : (ahead unread : List ℕ) → (ahead ≡ [] → ⊥) → ahead ++ unread ≢ []
some_unread [] unread h = λ e. h refl
some_unread (x ∷ ahead) unread h = λ e. absurd cc

pub overrun : (files : Option Files) (front : List ℕ) (w : ReadAhead) (off : ℕ) → IsAheadIn files front w → off + length w.ahead ≡ w.read → (w.ahead ≡ [] → ⊥) → (content : List ℕ) → IsContent files w.number content → Overruns content front (Damaged off)
overrun files front w off told h some content is =
    let at = told content is in
    (w.ahead ++ at.unread, offset_is content front w off at h, at.whole, some_unread w.ahead at.unread some)

pub outside_overrun : (bytes front : List ℕ) (e : CheckErr) → IsHostError e → Overruns bytes front e
outside_overrun bytes front Fault h = tt
outside_overrun bytes front (Damaged off) h = absurd h
outside_overrun bytes front OtherSchema h = absurd h
outside_overrun bytes front NoMemory h = tt

pub all_read : (files : Option Files) (front : List ℕ) (w : ReadAhead) → IsAheadIn files front w → IsItemAhead w → w.ahead ≡ [] → (content : List ℕ) → IsContent files w.number content → content ≡ front
all_read files front w told full empty content is =
    let at = told content is in
    let none : length w.ahead ≡ 0 = ap length empty in
    let lengths : length content ≡ length front + (length w.ahead + length at.unread) = ap length at.whole ∙ length-append front (w.ahead ++ at.unread) ∙ ap (λ n. length front + n) (length-append w.ahead at.unread) in
    let read : w.read ≡ w.size = ⊎_elim (λ e. e) (λ many. absurd (omega (arith, many, none))) full in
    let left : at.unread ≡ [] = no_more at.unread (omega (arith, read, at.size, at.read, lengths)) in
    at.whole ∙ ap (λ t. front ++ t) ((λ i. empty i ++ left i)) ∙ append-nil front

-- ---- the items behind the stop

-- a directory's item or the tail
abbrev pub IsLate : Item → Type 0
IsLate (HeadItem schema) = ⊥
IsLate (PartItem key pt statics) = ⊥
IsLate (RowItem key row) = ⊥
IsLate (ChangeItem x tomb) = ⊥
IsLate EndItem = ⊥
IsLate StopItem = ⊥
IsLate (EntryItem key off blocks) = ⊤
IsLate (BlockItem b) = ⊤
IsLate (TailItem off parts) = ⊤

late_place : (x : Item) (before : ItemsBefore) → IsLate x → item_place (x ∷ before) ≡ Behind
late_place (HeadItem schema) before h = absurd h
late_place (PartItem key pt statics) before h = absurd h
late_place (RowItem key row) before h = absurd h
late_place (ChangeItem x tomb) before h = absurd h
late_place EndItem before h = absurd h
late_place StopItem before h = absurd h
late_place (EntryItem key off blocks) before h = refl
late_place (BlockItem b) before h = refl
late_place (TailItem off parts) before h = refl

late_due : (x : Item) (before : ItemsBefore) (more : List Item) → IsLate x → items_due before ≡ x ∷ more → items_due (x ∷ before) ≡ more
late_due (HeadItem schema) before more h e = absurd h
late_due (PartItem key pt statics) before more h e = absurd h
late_due (RowItem key row) before more h e = absurd h
late_due (ChangeItem x tomb) before more h e = absurd h
late_due EndItem before more h e = absurd h
late_due StopItem before more h e = absurd h
late_due (EntryItem key off blocks) before more h e = ap (drop 1) e
late_due (BlockItem b) before more h e = ap (drop 1) e
late_due (TailItem off parts) before more h e = ap (drop 1) e

late_stands : (schema : SchemaValue) (x : Item) (before : ItemsBefore) → IsLate x → ((more : List Item) × (items_due before ≡ x ∷ more)) → MayStand schema before x
late_stands schema (HeadItem other) before h d = absurd h
late_stands schema (PartItem key pt statics) before h d = absurd h
late_stands schema (RowItem key row) before h d = absurd h
late_stands schema (ChangeItem x tomb) before h d = absurd h
late_stands schema EndItem before h d = absurd h
late_stands schema StopItem before h d = absurd h
late_stands schema (EntryItem key off blocks) before h d = d
late_stands schema (BlockItem b) before h d = d
late_stands schema (TailItem off parts) before h d = d

start_no_behind : Start ≡ Behind → ⊥
start_no_behind e = absurd cc

between_no_behind : Between ≡ Behind → ⊥
between_no_behind e = absurd cc

inside_no_behind : Inside ≡ Behind → ⊥
inside_no_behind e = absurd cc

-- behind the stop, only what is due fits
only_due : (schema : SchemaValue) (before : ItemsBefore) (x : Item) → item_place before ≡ Behind → ItemFits schema before x → (more : List Item) × (items_due before ≡ x ∷ more)
only_due schema before (HeadItem other) p f = absurd (start_no_behind (sym (ap item_place f.1.0) ∙ p))
only_due schema before (PartItem key pt statics) p f = absurd (between_no_behind (sym f.1.0 ∙ p))
only_due schema before (RowItem key row) p f = absurd (inside_no_behind (sym f.1.0 ∙ p))
only_due schema before (ChangeItem x tomb) p f = absurd (inside_no_behind (sym f.1.0 ∙ p))
only_due schema before EndItem p f = absurd (inside_no_behind (sym f.1.0 ∙ p))
only_due schema before StopItem p f = absurd (between_no_behind (sym f.1 ∙ p))
only_due schema before (EntryItem key off blocks) p f = f.1
only_due schema before (BlockItem b) p f = f.1
only_due schema before (TailItem off parts) p f = f.1

-- the tail is the last of what must come
abbrev IsListItem : Item → Type 0
IsListItem (HeadItem schema) = ⊤
IsListItem (PartItem key pt statics) = ⊤
IsListItem (RowItem key row) = ⊤
IsListItem (ChangeItem x tomb) = ⊤
IsListItem EndItem = ⊤
IsListItem StopItem = ⊤
IsListItem (EntryItem key off blocks) = ⊤
IsListItem (BlockItem b) = ⊤
IsListItem (TailItem off parts) = ⊥

no_tail : (x : Item) (off parts : ℕ) → IsListItem x → x ≡ TailItem off parts → ⊥
no_tail x off parts h e = subst IsListItem e h

block_items : (bs : List Block) → AllByRecursion IsListItem (list_map BlockItem bs)
block_items [] = tt
block_items (b ∷ bs) = (tt, block_items bs)

list_items : (es : List DirectoryEntry) → AllByRecursion IsListItem (flat_map entry_items es)
list_items [] = tt
list_items (e ∷ es) = (tt, all_append IsListItem (list_map BlockItem e.blocks) (flat_map entry_items es) (block_items e.blocks) (list_items es))

tail_last : (xs : List Item) (t : Item) (done : List Item) (off parts : ℕ) (more : List Item) → AllByRecursion IsListItem xs → xs ++ t ∷ [] ≡ done ++ TailItem off parts ∷ more → more ≡ []
tail_last [] t [] off parts more h e = sym (ap (drop 1) e)
tail_last [] t (d ∷ []) off parts more h e = absurd (let q : [] ≡ TailItem off parts ∷ more = ap (drop 1) e in cc)
tail_last [] t (d ∷ c ∷ done) off parts more h e = absurd (let q : [] ≡ c ∷ (done ++ TailItem off parts ∷ more) = ap (drop 1) e in cc)
tail_last (x ∷ xs) t [] off parts more h e = absurd (no_tail x off parts h.0 (let q : x ∷ (xs ++ t ∷ []) ≡ TailItem off parts ∷ more = e in cc))
tail_last (x ∷ xs) t (d ∷ done) off parts more h e = tail_last xs t done off parts more h.1 (ap (drop 1) e)

late_ended : (start : ItemsBefore) (done : List Item) (x : Item) (more : List Item) (before : ItemsBefore) → IsLate x → ending start ≡ done ++ x ∷ more → EndsWithTail (x ∷ before) → more ≡ []
late_ended start done (HeadItem schema) more before h e t = absurd h
late_ended start done (PartItem key pt statics) more before h e t = absurd h
late_ended start done (RowItem key row) more before h e t = absurd h
late_ended start done (ChangeItem x tomb) more before h e t = absurd h
late_ended start done EndItem more before h e t = absurd h
late_ended start done StopItem more before h e t = absurd h
late_ended start done (EntryItem key off blocks) more before h e t = absurd t
late_ended start done (BlockItem b) more before h e t = absurd t
late_ended start done (TailItem off parts) more before h e t = tail_last (flat_map entry_items (entries start)) (TailItem (offset start) (length (entries start))) done off parts more (list_items (entries start)) e

-- all of them are to come behind the stop
pub at_stop : (files : Option Files) (schema : SchemaValue) (before : ItemsBefore) (w : ReadAhead) → AllFit schema (StopItem ∷ before) → IsAheadIn files (text (StopItem ∷ before)) w → Awaits files schema (StopItem ∷ before) (ending (StopItem ∷ before)) w
at_stop files schema before w fit told = record {
  done = [];
  whole = refl;
  next = refl;
  behind = refl;
  ended = λ t. absurd t;
  fit = fit;
  told = told;
}

came : (f g : Option Files) (schema : SchemaValue) (start : ItemsBefore) (x : Item) (more : List Item) (w v : ReadAhead) → IsLate x → IsItem x → (a : Awaits f schema start (x ∷ more) w) → IsAheadIn g (text (followed_by start a.done) ++ item_code x) v → Awaits g schema start more v
came f g schema start x more w v late is a told =
    let before = followed_by start a.done in
    let next : followed_by start (a.done ++ x ∷ []) ≡ x ∷ before = followed_by-append start a.done (x ∷ []) in record {
      done = a.done ++ x ∷ [];
      whole = a.whole ∙ sym (append_assoc a.done (x ∷ []) more);
      next = subst (λ b. items_due b ≡ more) (sym next) (late_due x before more late a.next);
      behind = subst (λ b. item_place b ≡ Behind) (sym next) (late_place x before late);
      ended = subst (λ b. EndsWithTail b → more ≡ []) (sym next) (late_ended start a.done x more before late a.whole);
      fit = subst (λ b. AllFit schema b) (sym next) (a.fit, (is, late_stands schema x before late (more, a.next)));
      told = subst (λ b. IsAheadIn g (text b) v) (sym next) told;
    }

not_empty : (before : ItemsBefore) → item_place before ≡ Behind → before ≡ [] → ⊥
not_empty before p e = start_no_behind (sym (ap item_place e) ∙ p)

missed : (f : Option Files) (schema : SchemaValue) (start : ItemsBefore) (x : Item) (more : List Item) (w : ReadAhead) (e : CheckErr) (bytes : List ℕ) → (a : Awaits f schema start (x ∷ more) w) → Misses bytes (text (followed_by start a.done)) (item_code x) e → IsRefusalOf bytes schema e
missed f schema start x more w Fault bytes a m = tt
missed f schema start x more w (Damaged off) bytes a m =
    first_damage bytes m.0 schema (followed_by start a.done) off a.fit (not_empty (followed_by start a.done) a.behind) m.2 m.1 (λ t. absurd (let q : x ∷ more ≡ [] = a.ended t in cc))
    (λ y left fits e. (let d = only_due schema (followed_by start a.done) y a.behind fits in let same : y ∷ d.0 ≡ x ∷ more = sym d.1 ∙ a.next in let is : y ≡ x = cc in m.3 left (e ∙ ap (λ z. item_code z ++ left) is)))
missed f schema start x more w OtherSchema bytes a m = absurd m
missed f schema start x more w NoMemory bytes a m = tt

-- its bytes came, so the item did
pub item_expected : (f g : Option Files) (x : Item) (code : List ℕ) (r : Result (Unit {0}) CheckErr) (w v : ReadAhead) → IsLate x → IsItem x → code ≡ item_code x → Meets f g code r w v → Expects f g (x ∷ []) r w v
item_expected f g x code (Ok u) w v late is e m = λ schema start more a. came f g schema start x more w v late is a (subst (λ c. IsAheadIn g (text (followed_by start a.done) ++ c) v) e (m (text (followed_by start a.done)) a.told))
item_expected f g x code (Err err) w v late is e m = λ schema start more a bytes content.
    missed f schema start x more w err bytes a (subst (λ c. Misses bytes (text (followed_by start a.done)) c err) e (m (text (followed_by start a.done)) a.told bytes content))

-- some items came, and then others
pub both_come : (f g h : Option Files) (xs ys : List Item) (r : Result (Unit {0}) CheckErr) (w v u : ReadAhead) → Expects f g xs (Ok tt) w v → Expects g h ys r v u → Expects f h (xs ++ ys) r w u
both_come f g h xs ys (Ok t) w v u first second = λ schema start more a. second schema start more (first schema start (ys ++ more) (subst (λ l. Awaits f schema start l w) (append_assoc xs ys more) a))
both_come f g h xs ys (Err e) w v u first second = λ schema start more a. second schema start more (first schema start (ys ++ more) (subst (λ l. Awaits f schema start l w) (append_assoc xs ys more) a))

pub first_refused : (f g : Option Files) (xs ys : List Item) (e : CheckErr) (w v : ReadAhead) → Expects f g xs (Err e) w v → Expects f g (xs ++ ys) (Err e) w v
first_refused f g xs ys e w v first = λ schema start more a. first schema start (ys ++ more) (subst (λ l. Awaits f schema start l w) (append_assoc xs ys more) a)

-- ---- the end

overran : (f : Option Files) (schema : SchemaValue) (start : ItemsBefore) (w : ReadAhead) (e : CheckErr) (bytes : List ℕ) → (a : Awaits f schema start [] w) → Overruns bytes (text (followed_by start a.done)) e → IsRefusalOf bytes schema e
overran f schema start w Fault bytes a m = tt
overran f schema start w (Damaged off) bytes a m =
    first_damage bytes m.0 schema (followed_by start a.done) off a.fit (not_empty (followed_by start a.done) a.behind) m.2 m.1 (λ t. m.3)
    (λ y left fits e. (let d = only_due schema (followed_by start a.done) y a.behind fits in let same : y ∷ d.0 ≡ [] = sym d.1 ∙ a.next in absurd cc))
overran f schema start w OtherSchema bytes a m = absurd m
overran f schema start w NoMemory bytes a m = tt

-- nothing is to come, and nothing came
pub ended_there : (f g : Option Files) (schema : SchemaValue) (start : ItemsBefore) (r : Result (Unit {0}) CheckErr) (w v : ReadAhead) → Awaits f schema start [] w → EndsFront f g r w v → MatchResult r (λ _. IsWholeTable g v.number schema start) (IsCheckRefused g v.number schema)
ended_there f g schema start (Ok u) w v a e =
    let done : a.done ≡ ending start = sym (a.whole ∙ append-nil a.done) in
    (subst (λ d. AllFit schema (followed_by start d)) done a.fit, λ bytes is. e (text (followed_by start a.done)) a.told bytes is ∙ ap (λ d. text (followed_by start d)) done)
ended_there f g schema start (Err err) w v a e = λ bytes is. overran f schema start w err bytes a (e (text (followed_by start a.done)) a.told bytes is)

-- an outline has what must come
pub ending_is : (start : ItemsBefore) (o : Outline) → IsListed start o → flat_map entry_items o.listed.items ++ TailItem o.off (length o.listed.items) ∷ [] ≡ ending start
ending_is start o is = λ i. flat_map entry_items (is.listed i) ++ TailItem (is.off i) (length (is.listed i)) ∷ []
