-- A stretch of a version's entries whose marks change by a function, entry by entry.
use Rattle.std.specs.Prelude.{◌≡◌, ℕ, ◌≤◌, List, ◌∷◌, ◌++◌, length, map}
use Rattle.lsa_store.specs.declared.place.Ref.{Ref}
use Rattle.lsa_region.specs.Region.{View}
use Rattle.rc_core.specs.Change.{with_gap, with_mark, with_marks}
use Rattle.rc_core.specs.Continuity.{with_entries}
use Rattle.rc_core.specs.declared.entries.Entry.{Entry}
use Rattle.rc_core.specs.declared.entries.Mark.{Mark}
use Rattle.rc_core.specs.Version.{Version}
use Rattle.rc_object.specs.Objects.{HoldsEntry}
use Rattle.rc_version.specs.Versions.{HoldEntries, IsVersionOf}

-- an entry and the next one hold these, and the objects before and behind them what the version has there
pub record HoldPair (v : View) (n : Ref) (front : List Ref) (e next : Ref) (back : List Ref) (c : Version) (before : List Entry) (x y : Entry) (behind : List Entry) : Type 0 where
  pub version : IsVersionOf v n (front ++ (e ∷ next ∷ back)) c
  pub is : c.entries ≡ before ++ (x ∷ y ∷ behind)
  pub held_before : HoldEntries v front before
  pub holds : HoldsEntry v e x
  pub next_holds : HoldsEntry v next y
  pub held_behind : HoldEntries v back behind

-- the marks are changed up to an entry, so many steps behind the first one, and not yet at it; where they are changed from there up to the last one, the entries are these
pub record IsMarking (v : View) (n passed last : Ref) (f : Mark → Mark) (all : List Ref) (c : Version) (target : List Entry) (steps : ℕ) : Type 0 where
  pub front : List Ref
  pub between : List Ref
  pub back : List Ref
  pub before : List Entry
  pub here : Entry
  pub inner : List Entry
  pub there : Entry
  pub behind : List Entry
  pub all_is : all ≡ front ++ (passed ∷ (between ++ (last ∷ back)))
  pub version : IsVersionOf v n all (with_entries (before ++ (here ∷ (inner ++ (there ∷ behind)))) c)
  pub held_before : HoldEntries v front before
  pub holds : HoldsEntry v passed here
  pub held_inner : HoldEntries v between inner
  pub last_holds : HoldsEntry v last there
  pub held_behind : HoldEntries v back behind
  pub target_is : target ≡ before ++ (with_mark f here ∷ (map (with_marks f) inner ++ (with_gap (f there.gap) there ∷ behind)))
  pub far : steps ≤ length front
