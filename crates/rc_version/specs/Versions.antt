-- A version in the region: which objects hold it, and what they hold.
--     IsVersionOf     the object is this version, and these are its entries' objects
--     IsKeptBeside          what a change of one version leaves of all else
use Rattle.std.specs.Prelude.{◌≡◌, ◌≢◌, ℕ, ◌+◌, ◌-◌, ◌^◌, ◌<◌, ◌≤◌, ◌⊎◌, min, List, [], ◌∷◌, ◌++◌, length, map, Option, Some, None, IsSome, is_some, Contains, ⊤}
use Rattle.std.specs.Option.{MatchOption}
use Rattle.rc_cell.specs.declared.rows.Row.{Row}
use Rattle.rc_cell.specs.declared.writes.Tomb.{Tomb}
use Rattle.rc_rowcode.specs.Objects.{dummy_size, static_size, version_size}
use Rattle.rc_rowcode.specs.Spelling.{pos_code, row_code}
use Rattle.rc_position.specs.declared.positions.Pos.{Pos}
use Rattle.rc_position.specs.Position.{IsBefore}
use Rattle.lsa_kinds.specs.Kinds.{up8}
use Rattle.lsa_store.specs.declared.place.Ref.{Ref}
use Rattle.lsa_region.specs.declared.end.End.{End}
use Rattle.lsa_region.specs.declared.end.End.TheVariants.{Obj, Slot}
use Rattle.lsa_region.specs.declared.end.Root.{Root}
use Rattle.lsa_region.specs.Region.{View, body, link_of, live_bytes, slots_of, IsEnd}
use Rattle.lsa_tree.specs.declared.tree.Tree.{Tree}
use Rattle.lsa_tree.specs.Tree.{IsTree}
use Rattle.lsa_tree.specs.Entries.{IsEntryAtPosition}
use Rattle.lsa_pool.specs.Room.{spare_of}
use Rattle.rc_core.specs.declared.entries.Entry.{Entry}
use Rattle.rc_core.specs.declared.entries.Flag.TheVariants.{Known}
use Rattle.rc_core.specs.declared.entries.Mark.{Mark}
use Rattle.rc_core.specs.AtPlace.{HasEntryAt}
use Rattle.rc_core.specs.Change.{entry_changed, gap_split, joined_onto, mark, raised_mark}
use Rattle.rc_core.specs.Continuity.{with_entries}
use Rattle.rc_core.specs.Steps.{join_statics, row_joined}
use Rattle.rc_core.specs.Version.{Version, IsVersion, On, end_position, finding_in}
use Rattle.rc_object.specs.declared.heads.Head.{Head}
use Rattle.rc_object.specs.Objects.{HoldsHead, HoldsEntry, HoldsStatic, HasRoomFor, entry_length}
use Rattle.rc_version.specs.declared.stretch.Marking.{Marking}
use Rattle.rc_version.specs.declared.stretch.Marking.TheVariants.{Know, Raise}

-- the tree of a version's entries
abbrev pub tree_of : Ref → Tree
tree_of n = record { top = Obj n 2 }

-- what the object of a version holds itself
abbrev pub version_head : Version → Head
version_head c = record { partition_tombstone = c.pt; static_flag = c.static_flag; phase = c.phase }

-- the static row of a version: an object that its link names; none where that is unset
abbrev pub HasStatics : View → Ref → Option Row → Type 0
HasStatics v n None = link_of v (Obj n 3) ≡ None
HasStatics v n (Some row) = (s : Ref) × (link_of v (Obj n 3) ≡ Some (Obj s 2)) × HoldsStatic v s row

-- each object holds the entry in its place
abbrev pub HoldEntries : View → List Ref → List Entry → Type 0
HoldEntries v [] [] = ⊤
HoldEntries v [] (e ∷ es) = ⊥
HoldEntries v (r ∷ refs) [] = ⊥
HoldEntries v (r ∷ refs) (e ∷ es) = HoldsEntry v r e × HoldEntries v refs es

-- the object is this version, and these objects hold its entries
pub record IsVersionOf (v : View) (n : Ref) (refs : List Ref) (c : Version) : Type 0 where
  pub head : HoldsHead v n (version_head c)
  pub statics : HasStatics v n c.statics
  pub tree : IsTree (tree_of n) v refs
  pub entries : HoldEntries v refs c.entries
  pub version : IsVersion c

-- ---- what stays

-- the object is the static row that the link of the version names
abbrev pub IsStaticsOf : View → Ref → Ref → Type 0
IsStaticsOf v n s = link_of v (Obj n 3) ≡ Some (Obj s 2)

-- the object is one of the version: its head, one of its entries, or its static row
abbrev pub IsPartOf : View → Ref → Ref → Type 0
IsPartOf v n r = (r ≡ n) ⊎ (((refs : List Ref) × IsTree (tree_of n) v refs × Contains refs r) ⊎ IsStaticsOf v n r)

-- the object is one of the version, or was not there
abbrev pub MayChange : View → Ref → Ref → Type 0
MayChange v n r = (body v r ≡ None) ⊎ IsPartOf v n r

-- the link is none of those that hold a version together: it is of the recency list or of a chain, or a root slot
abbrev pub IsOutward : End → Type 0
IsOutward (Obj r field) = field ≤ 1
IsOutward (Slot root) = ⊤

-- the object is in no list: none of its links outward is set
abbrev pub IsUnlisted : View → Ref → Type 0
IsUnlisted v r = (field : ℕ) → field ≤ 1 → link_of v (Obj r field) ≡ None

-- the epoch, a number of 64 bits, does not fall; and where it has not risen, and is below its greatest value, no object was made or freed
pub record IsMarked (old new : View) : Type 0 where
  pub rises : min old.epoch (2 ^ 64 - 1) ≤ new.epoch
  pub steady : new.epoch ≡ old.epoch → new.epoch < 2 ^ 64 - 1 → (r : Ref) → is_some (body new r) ≡ is_some (body old r)

-- each object that was made is one of the version
abbrev pub HasWhatWasMade : Ref → View → View → Type 0
HasWhatWasMade n old new = (r : Ref) → body old r ≡ None → IsSome (body new r) → IsPartOf new n r

-- no object was made
abbrev pub IsNoneMade : View → View → Type 0
IsNoneMade old new = (r : Ref) → body old r ≡ None → body new r ≡ None

-- Other versions than n stay, with their static rows' objects, and all links outward, so all lists and chains do; the bodies of objects stay but of these.
pub record IsKeptBeside (these : Ref → Type 0) (n : Ref) (old new : View) : Type 0 where
  pub versions : (m : Ref) (refs : List Ref) (c : Version) → m ≢ n → IsVersionOf old m refs c → IsVersionOf new m refs c
  pub statics : (m : Ref) (refs : List Ref) (c : Version) → m ≢ n → IsVersionOf old m refs c → link_of new (Obj m 3) ≡ link_of old (Obj m 3)
  pub links : (e : End) → IsOutward e → link_of new e ≡ link_of old e
  pub bodies : (r : Ref) → (these r → ⊥) → body new r ≡ body old r
  pub roots : (s : Root) → IsEnd old (Slot s) → IsEnd new (Slot s)
  pub gone : (s : Root) → IsEnd new (Slot s) → IsEnd old (Slot s)
  pub slots : slots_of new ≡ slots_of old
  pub budget : length new.usages ≡ length old.usages
  pub moved : new.moved ≡ old.moved
  pub compacted : new.compacted ≡ old.compacted
  pub epoch : IsMarked old new

-- all but the version, and what was not there, is as it was
abbrev pub IsKeptBut : Ref → View → View → Type 0
IsKeptBut n old new = IsKeptBeside (MayChange old n) n old new

-- ---- how many bytes a version takes

-- a row, behind a position
abbrev pub bytes_at : Pos → Option Row → ℕ
bytes_at x None = dummy_size x
bytes_at x (Some row) = up8 (80 + (length (pos_code x) + length (row_code row)))

-- an entry
abbrev pub entry_bytes : Entry → ℕ
entry_bytes e = bytes_at e.position e.row

-- entries together
abbrev pub entries_bytes : List Entry → ℕ
entries_bytes [] = 0
entries_bytes (e ∷ es) = entry_bytes e + entries_bytes es

-- a static row, where there is one
abbrev pub statics_bytes : Option Row → ℕ
statics_bytes None = 0
statics_bytes (Some row) = static_size row

-- a version: its head, its static row and its entries
abbrev pub version_bytes : Version → ℕ
version_bytes c = version_size + (statics_bytes c.statics + entries_bytes c.entries)

-- what is live changed by what a version takes
abbrev pub IsWeighed : View → View → Version → Version → Type 0
IsWeighed old new before after = live_bytes new + version_bytes before ≡ live_bytes old + version_bytes after

-- ---- what a call finds in a version

-- what is answered where the entry of a version at a position is asked for: one of its objects, which stands there; or none, and none of its objects stands there
abbrev pub IsEntryFound : View → List Ref → Version → Pos → Option Ref → Type 0
IsEntryFound v refs c x result = MatchOption result (((r : Ref) → Contains refs r → IsEntryAtPosition v r x → ⊥) × (HasEntryAt x c.entries → ⊥)) (λ r. Contains refs r × IsEntryAtPosition v r x × HasEntryAt x c.entries)

-- what is answered where the static row of a version is asked for: the object that holds it; or none, and it has none
abbrev pub IsStaticRowFound : View → Version → Option Ref → Type 0
IsStaticRowFound v c result = MatchOption result (c.statics ≡ None) (λ s. (row : Row) × (c.statics ≡ Some row) × HoldsStatic v s row)

-- ---- what a call does to the entries of a version

-- what is done to each mark of a stretch: a range tombstone is joined, and the flag stays; or it is known there, with this tombstone or none
abbrev pub mark_after : Marking → Mark → Mark
mark_after (Raise tomb) = raised_mark (Some tomb)
mark_after (Know tomb) = λ m. mark Known tomb

-- a version with a function on the mark at each of its entries from one position on and before another, and over each gap between them; none is made
abbrev pub marked_between : (Mark → Mark) → Pos → Pos → Version → Version
marked_between f from to c = with_entries (map (entry_changed f from to) c.entries) c

-- a version with a range tombstone joined there
abbrev pub raised_between : Pos → Pos → Tomb → Version → Version
raised_between from to tomb = marked_between (raised_mark (Some tomb)) from to

-- a version in which it is known there that there are no rows, and this tombstone or none
abbrev pub known_between : Pos → Pos → Option Tomb → Version → Version
known_between from to tomb = marked_between (λ m. mark Known tomb) from to

-- the entries are those before, of which r is one; or r, which was not there, is put among them
abbrev pub ArePutAmong : View → Ref → List Ref → List Ref → Type 0
ArePutAmong old r refs now = ((now ≡ refs) × Contains refs r) ⊎ ((body old r ≡ None) × ((front : List Ref) × (back : List Ref) × (refs ≡ front ++ back) × (now ≡ front ++ (r ∷ back))))

-- version n was split at a position: r is the entry there, made where there was none, and is in no list then; each entry holds what it held, the static row is the same object, nothing else becomes a part of the version, and all else is as it was
pub record IsSplit (S : ℕ) (old new : View) (n : Ref) (x : Pos) (r : Ref) : Type 0 where
  pub entries : (refs : List Ref) (c : Version) → IsVersionOf old n refs c → (now : List Ref) × ArePutAmong old r refs now × IsVersionOf new n now (with_entries (gap_split x c.entries) c)
  pub at : IsEntryAtPosition new r x
  pub unlisted : (q : Ref) → body old q ≡ None → IsUnlisted new q
  pub own : HasWhatWasMade n old new
  pub statics : link_of new (Obj n 3) ≡ link_of old (Obj n 3)
  pub held : (q : Ref) (e : Entry) → HoldsEntry old q e → HoldsEntry new q e
  pub kept : IsKeptBut n old new
  pub parts : (q : Ref) → MayChange new n q → MayChange old n q
  pub spare : spare_of S old.usages ≤ spare_of S new.usages + dummy_size x
  pub live : (refs : List Ref) (c : Version) → IsVersionOf old n refs c → IsWeighed old new c (with_entries (gap_split x c.entries) c)

-- how many bytes the entry at a position takes with a row joined
abbrev pub joined_bytes : Pos → Row → Version → ℕ
joined_bytes x row c = bytes_at x (Some (joined_onto (finding_in (On x) c.entries).row row))

-- a row can be joined to what version n has at a position: there is room for the entry, in which the row is joined to the one there, and an entry that stands there is in no list
pub record CanJoin (S : ℕ) (v : View) (space : ℕ) (n : Ref) (x : Pos) (row : Row) (refs : List Ref) (c : Version) : Type 0 where
  pub version : IsVersionOf v n refs c
  pub room : HasRoomFor S v (joined_bytes x row c) space (entry_length x (Some (joined_onto (finding_in (On x) c.entries).row row)))
  pub unlisted : (r : Ref) → Contains refs r → IsEntryAtPosition v r x → IsUnlisted v r

-- the entries are those before with r among them, or in the place of one that is gone
abbrev pub ArePutOrExchanged : View → Ref → List Ref → List Ref → Type 0
ArePutOrExchanged new r refs now = (front : List Ref) × (back : List Ref) × (now ≡ front ++ (r ∷ back)) × ((refs ≡ front ++ back) ⊎ ((q : Ref) × (refs ≡ front ++ (q ∷ back)) × (body new q ≡ None)))

-- a row was joined to what version n has at a position: r is the entry there, made anew, and in no list; the static row is the same object, and all else is as it was
pub record IsJoined (S : ℕ) (old new : View) (n : Ref) (x : Pos) (row : Row) (r : Ref) : Type 0 where
  pub entries : (refs : List Ref) (c : Version) → IsVersionOf old n refs c → (now : List Ref) × ArePutOrExchanged new r refs now × IsVersionOf new n now (row_joined x row c)
  pub fresh : body old r ≡ None
  pub at : IsEntryAtPosition new r x
  pub unlisted : (q : Ref) → body old q ≡ None → IsUnlisted new q
  pub own : HasWhatWasMade n old new
  pub statics : link_of new (Obj n 3) ≡ link_of old (Obj n 3)
  pub kept : IsKeptBut n old new
  pub spare : (refs : List Ref) (c : Version) → IsVersionOf old n refs c → spare_of S old.usages ≤ spare_of S new.usages + joined_bytes x row c
  pub live : (refs : List Ref) (c : Version) → IsVersionOf old n refs c → IsWeighed old new c (row_joined x row c)

-- a row can be joined to the static row of version n: there is room for both joined, and the one that is there is in no list
pub record CanJoinStatics (S : ℕ) (v : View) (space : ℕ) (n : Ref) (row : Row) (refs : List Ref) (c : Version) : Type 0 where
  pub version : IsVersionOf v n refs c
  pub room : HasRoomFor S v (static_size (joined_onto c.statics row)) space (length (row_code (joined_onto c.statics row)))
  pub unlisted : (s : Ref) → IsStaticsOf v n s → IsUnlisted v s

-- a row was joined to the static row of version n: r is the static row, made anew, and in no list; all else is as it was, also its flag
pub record IsStaticsJoined (S : ℕ) (old new : View) (n : Ref) (row : Row) (r : Ref) : Type 0 where
  pub statics : (refs : List Ref) (c : Version) → IsVersionOf old n refs c → IsVersionOf new n refs (join_statics row c)
  pub named : IsStaticsOf new n r
  pub fresh : body old r ≡ None
  pub gone : (s : Ref) → IsStaticsOf old n s → body new s ≡ None
  pub unlisted : (q : Ref) → body old q ≡ None → IsUnlisted new q
  pub own : HasWhatWasMade n old new
  pub kept : IsKeptBut n old new
  pub spare : (refs : List Ref) (c : Version) → IsVersionOf old n refs c → spare_of S old.usages ≤ spare_of S new.usages + static_size (joined_onto c.statics row)
  pub live : (refs : List Ref) (c : Version) → IsVersionOf old n refs c → IsWeighed old new c (join_statics row c)

-- the row of an object of another version can be joined to version n: that of an entry before the end, or a static row
abbrev pub CanJoinLike : ℕ → View → ℕ → Ref → Ref → Type 0
CanJoinLike S v space n e =
    ((y : Entry) × (row : Row) × (refs : List Ref) × (c : Version) × HoldsEntry v e y × (y.row ≡ Some row) × IsBefore y.position end_position × CanJoin S v space n y.position row refs c)
    ⊎ ((row : Row) × (refs : List Ref) × (c : Version) × HoldsStatic v e row × CanJoinStatics S v space n row refs c)
