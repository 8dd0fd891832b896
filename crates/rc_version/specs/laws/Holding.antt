-- The objects of entries and the entries, list beside list.
use Rattle.std.proofs.Common.{◌≡◌, ◌+◌, List, [], ◌∷◌, ◌++◌, refl, sym, ap, ◌∙◌, subst, arith}
use Rattle.std.specs.Prelude.{Contains}
use Rattle.std.specs.List.{AllByRecursion}
use Rattle.std.specs.declared.cmp.Ordering.TheVariants.{Less}
use Rattle.rc_position.specs.declared.positions.Pos.{Pos}
use Rattle.rc_position.specs.Position.{IsBefore}
use Rattle.lsa_store.specs.declared.place.Ref.{Ref}
use Rattle.lsa_region.specs.Region.{View}
use Rattle.lsa_path.specs.laws.Members.{member-first, member-later}
use Rattle.lsa_tree.specs.Entries.{StandsEarlier, StandsLater}
use Rattle.lsa_tree.specs.laws.Orders.{before-at, behind-at}
use Rattle.rc_core.specs.AtPlace.{EachEntry}
use Rattle.rc_core.specs.Continuity.{with_entries}
use Rattle.rc_core.specs.declared.entries.Entry.{Entry}
use Rattle.rc_core.specs.laws.Spots.{turn_to}
use Rattle.rc_core.specs.laws.Surgery.{back-above}
use Rattle.rc_core.specs.Version.{Version, IsVersion, Ascend, EndsWithDummy, IsBeforeEnd, IsReachedBy, On, end_position}
use Rattle.rc_object.specs.Objects.{HoldsEntry}
use Rattle.rc_version.specs.Versions.{HoldEntries, entry_bytes, entries_bytes}
use Rattle.rc_version.specs.laws.Objects.{holds-stands}

-- what each of the objects held it holds
pub hold-kept : (v w : View) (refs : List Ref) (es : List Entry) → ((r : Ref) (e : Entry) → Contains refs r → HoldsEntry v r e → HoldsEntry w r e) → HoldEntries v refs es → HoldEntries w refs es
hold-kept v w [] [] keep h = tt
hold-kept v w [] (e ∷ es) keep h = absurd h
hold-kept v w (r ∷ refs) [] keep h = absurd h
hold-kept v w (r ∷ refs) (e ∷ es) keep h = (keep r e (member-first r refs) h.0, hold-kept v w refs es (λ q f c. keep q f (member-later r q refs c)) h.1)

pub hold-both : (v : View) (front back : List Ref) (fe be : List Entry) → HoldEntries v front fe → HoldEntries v back be → HoldEntries v (front ++ back) (fe ++ be)
hold-both v [] back [] be h k = k
hold-both v [] back (e ∷ fe) be h k = absurd h
hold-both v (r ∷ front) back [] be h k = absurd h
hold-both v (r ∷ front) back (e ∷ fe) be h k = (h.0, hold-both v front back fe be h.1 k)

pub none-held : (v : View) (es : List Entry) → HoldEntries v [] es → es ≡ []
none-held v [] h = refl
none-held v (e ∷ es) h = absurd h

pub one-held : (v : View) (r : Ref) (es : List Entry) → HoldEntries v (r ∷ []) es → (e : Entry) × (es ≡ e ∷ []) × HoldsEntry v r e
one-held v r [] h = absurd h
one-held v r (e ∷ es) h = (e, ap (λ (l : List Entry). e ∷ l) (none-held v es h.1), h.0)

-- the entries of objects in front, of one, and of those behind it
pub record IsAround (v : View) (front : List Ref) (r : Ref) (back : List Ref) (es : List Entry) : Type 0 where
  pub before : List Entry
  pub here : Entry
  pub behind : List Entry
  pub is : es ≡ before ++ (here ∷ behind)
  pub held_before : HoldEntries v front before
  pub holds : HoldsEntry v r here
  pub held_behind : HoldEntries v back behind

pub around : (v : View) (front : List Ref) (r : Ref) (back : List Ref) (es : List Entry) → HoldEntries v (front ++ (r ∷ back)) es → IsAround v front r back es
around v [] r back [] h = absurd h
around v [] r back (e ∷ es) h = record { before = []; here = e; behind = es; is = refl; held_before = tt; holds = h.0; held_behind = h.1 }
around v (q ∷ front) r back [] h = absurd h
around v (q ∷ front) r back (e ∷ es) h = let w = around v front r back es h.1 in
    record { before = e ∷ w.before; here = w.here; behind = w.behind; is = ap (λ (l : List Entry). e ∷ l) w.is; held_before = (h.0, w.held_before); holds = w.holds; held_behind = w.held_behind }

-- the entries of objects in front, of one and the next one, and of those behind
pub record AreAround (v : View) (front : List Ref) (r next : Ref) (back : List Ref) (es : List Entry) : Type 0 where
  pub before : List Entry
  pub here : Entry
  pub there : Entry
  pub behind : List Entry
  pub is : es ≡ before ++ (here ∷ there ∷ behind)
  pub held_before : HoldEntries v front before
  pub holds : HoldsEntry v r here
  pub next_holds : HoldsEntry v next there
  pub held_behind : HoldEntries v back behind

pub both-around : (v : View) (front : List Ref) (r next : Ref) (back : List Ref) (es : List Entry) → HoldEntries v (front ++ (r ∷ next ∷ back)) es → AreAround v front r next back es
both-around v [] r next back [] h = absurd h
both-around v [] r next back (e ∷ []) h = absurd h.1
both-around v [] r next back (e ∷ d ∷ es) h = record { before = []; here = e; there = d; behind = es; is = refl; held_before = tt; holds = h.0; next_holds = h.1.0; held_behind = h.1.1 }
both-around v (q ∷ front) r next back [] h = absurd h
both-around v (q ∷ front) r next back (e ∷ es) h = let w = both-around v front r next back es h.1 in
    record { before = e ∷ w.before; here = w.here; there = w.there; behind = w.behind; is = ap (λ (l : List Entry). e ∷ l) w.is; held_before = (h.0, w.held_before); holds = w.holds; next_holds = w.next_holds; held_behind = w.held_behind }

-- ---- positions

-- what stands before a position
pub each-earlier : (v : View) (x : Pos) (refs : List Ref) (es : List Entry) → HoldEntries v refs es → AllByRecursion (λ r. StandsEarlier v r x) refs → EachEntry (λ e. IsBefore e.position x) es
each-earlier v x [] [] h a = tt
each-earlier v x [] (e ∷ es) h a = absurd h
each-earlier v x (r ∷ refs) [] h a = absurd h
each-earlier v x (r ∷ refs) (e ∷ es) h a = (before-at v r e.position x (holds-stands v r e h.0) a.0, each-earlier v x refs es h.1 a.1)

-- what stands behind one
pub later-at : (v : View) (x : Pos) (r : Ref) (e : Entry) → HoldsEntry v r e → StandsLater v r x → IsBefore x e.position
later-at v x r e h k = behind-at v r e.position x (holds-stands v r e h) k

-- not all entries of a version stand before a position
pub never-all : (x : Pos) (es : List Entry) → EachEntry (λ e. IsBefore e.position x) es → IsBeforeEnd (On x) es → ⊥
never-all x [] h k = k
never-all x (e ∷ es) h k = never-all x es h.1 (subst (λ o. IsReachedBy o (IsBeforeEnd (On x) es)) (turn_to e.position x Less h.0) k)

last-behind : (x : Pos) (es : List Entry) → EachEntry (λ f. IsBefore x f.position) es → EndsWithDummy es → IsBefore x end_position
last-behind x [] h d = absurd d
last-behind x (e ∷ []) h d = subst (IsBefore x) d.0 h.0
last-behind x (e ∷ f ∷ es) h d = last-behind x (f ∷ es) h.1 d

pub ends-back : (front : List Entry) (e : Entry) (back : List Entry) → EndsWithDummy (front ++ (e ∷ back)) → EndsWithDummy (e ∷ back)
ends-back [] e back d = d
ends-back (f ∷ []) e back d = d
ends-back (f ∷ g ∷ front) e back d = ends-back (g ∷ front) e back d

-- an entry with one behind it stands before the end
pub before-end : (front : List Entry) (e next : Entry) (back : List Entry) → Ascend (front ++ (e ∷ next ∷ back)) → EndsWithDummy (front ++ (e ∷ next ∷ back)) → IsBefore e.position end_position
before-end front e next back a d = last-behind e.position (next ∷ back) (back-above front e (next ∷ back) a) (ends-back front e (next ∷ back) d)

-- ---- one entry in the place of another one at its position

ascend-replaced : (front : List Entry) (e d : Entry) (back : List Entry) → d.position ≡ e.position → Ascend (front ++ (e ∷ back)) → Ascend (front ++ (d ∷ back))
ascend-replaced [] e d [] at a = tt
ascend-replaced [] e d (f ∷ back) at a = (subst (λ p. IsBefore p f.position) (sym at) a.0, a.1)
ascend-replaced (g ∷ []) e d back at a = (subst (IsBefore g.position) (sym at) a.0, ascend-replaced [] e d back at a.1)
ascend-replaced (g ∷ f ∷ front) e d back at a = (a.0, ascend-replaced (f ∷ front) e d back at a.1)

ends-replaced : (front : List Entry) (e d : Entry) (back : List Entry) → d.position ≡ e.position → d.row ≡ e.row → EndsWithDummy (front ++ (e ∷ back)) → EndsWithDummy (front ++ (d ∷ back))
ends-replaced [] e d [] at row k = (at ∙ k.0, row ∙ k.1)
ends-replaced [] e d (f ∷ back) at row k = k
ends-replaced (g ∷ []) e d back at row k = ends-replaced [] e d back at row k
ends-replaced (g ∷ f ∷ front) e d back at row k = ends-replaced (f ∷ front) e d back at row k

pub replaced-is : (front : List Entry) (e d : Entry) (back : List Entry) (c : Version) → d.position ≡ e.position → d.row ≡ e.row → IsVersion (with_entries (front ++ (e ∷ back)) c) → IsVersion (with_entries (front ++ (d ∷ back)) c)
replaced-is front e d back c at row h = record { ascend = ascend-replaced front e d back at h.ascend; ends = ends-replaced front e d back at row h.ends }

-- ---- bytes

pub bytes-with : (front : List Entry) (e : Entry) (back : List Entry) → entries_bytes (front ++ (e ∷ back)) ≡ entry_bytes e + entries_bytes (front ++ back)
bytes-with [] e back = refl
bytes-with (f ∷ front) e back = let rest = bytes-with front e back in omega (arith, rest)

pub bytes-same : (front : List Entry) (e d : Entry) (back : List Entry) → entry_bytes d ≡ entry_bytes e → entries_bytes (front ++ (d ∷ back)) ≡ entries_bytes (front ++ (e ∷ back))
bytes-same front e d back same = bytes-with front d back ∙ ap (λ n. n + entries_bytes (front ++ back)) same ∙ sym (bytes-with front e back)
