-- A version with a row joined: its entry made in a gap, or anew in the place of the one that stood there.
use Rattle.std.proofs.Common.{◌≡◌, ◌≢◌, ℕ, ◌+◌, ◌≤◌, List, [], ◌∷◌, ◌++◌, length, Some, None, IsSome, inl, inr, refl, sym, ap, ◌∙◌, subst, arith}
use Rattle.std.specs.Prelude.{IsSomeAnd}
use Rattle.std.specs.declared.cmp.Ordering.TheVariants.{Less}
use Rattle.rc_cell.specs.declared.rows.Row.{Row}
use Rattle.rc_position.specs.declared.comps.Comp.{Comp}
use Rattle.rc_position.specs.declared.positions.Pos.{Pos}
use Rattle.rc_position.specs.Position.{IsBefore, pos_cmp, row_pos}
use Rattle.lsa_pool.specs.Room.{spare_of}
use Rattle.lsa_store.specs.declared.place.Ref.{Ref}
use Rattle.lsa_store.specs.Objects.{rounded_size}
use Rattle.lsa_region.specs.declared.end.End.{End}
use Rattle.lsa_region.specs.declared.end.End.TheVariants.{Obj}
use Rattle.lsa_region.specs.Region.{View, body, link_of, live_bytes, IsWell, IsFreed, Risen}
use Rattle.lsa_tree.specs.declared.tree.Tree.{Tree}
use Rattle.lsa_tree.specs.declared.tree.Place.TheVariants.{Before, Here}
use Rattle.lsa_tree.specs.Entries.{IsEntryAtPosition, BelongsBetween}
use Rattle.lsa_tree.specs.Search.{IsFound}
use Rattle.lsa_tree.specs.Tree.{IsTree, IsLoose, IsOffTree, SameButBalances}
use Rattle.lsa_tree.specs.laws.Orders.{stands-once}
use Rattle.rc_core.specs.AtPlace.{EachEntry}
use Rattle.rc_core.specs.Change.{at_entry, dummy, gap_split, join_row_at, joined_onto, with_row}
use Rattle.rc_core.specs.Continuity.{with_entries}
use Rattle.rc_core.specs.declared.entries.Entry.{Entry}
use Rattle.rc_core.specs.declared.entries.Mark.{Mark}
use Rattle.rc_core.specs.laws.Order.{join_row-is, split-ascends}
use Rattle.rc_core.specs.laws.Spots.{turn_to}
use Rattle.rc_core.specs.laws.Surgery.{entry-at, seen-on}
use Rattle.rc_core.specs.Steps.{row_joined}
use Rattle.rc_core.specs.Version.{Version, IsVersion, Ascend, On, end_position, entry_answers, finding_of, finding_in}
use Rattle.rc_object.specs.Objects.{HasRoomFor, HoldsEntry, IsMade, entry_length, entry_of}
use Rattle.rc_version.specs.Versions.{tree_of, CanJoin, IsJoined, IsKeptBut, IsUnlisted, IsVersionOf, IsWeighed, HasWhatWasMade, MayChange, bytes_at, entries_bytes, entry_bytes, joined_bytes, statics_bytes}
use Rattle.rc_version.specs.laws.Holding.{IsAround, bytes-with, each-earlier, later-at}
use Rattle.rc_version.specs.laws.Objects.{holds-stands}
use Rattle.rc_version.specs.laws.Staying.{made-added, version-kind}
use Rattle.rc_version.proofs.Gaps.{changed-at, entries-ascend, entry-of, split-gap, split-here, weighed-with}
use Rattle.rc_version.proofs.Swapped.{swap-alike, swap-kept, swap-live, swap-own, swap-spare, swap-stands, swap-statics, swap-there, swap-unset, swap-version}
use Rattle.rc_version.proofs.Putting.{fresh-unlisted, put-fits, put-held, put-kept, put-live, put-loose, put-own, put-spare, put-statics, put-tree, put-version}

-- the row of a key stands before the end
pub key-before_end : (key : List Comp) → IsBefore (row_pos key) end_position
unfolding pos_cmp
key-before_end [] = refl
key-before_end (c ∷ key) = refl

-- in a gap no row is seen
pub seen-gap : (x : Pos) (front : List Entry) (e : Entry) (back : List Entry) → EachEntry (λ f. IsBefore f.position x) front → IsBefore x e.position → finding_in (On x) (front ++ (e ∷ back)) ≡ finding_of e.gap None
seen-gap x [] e back before less = ap (λ r. entry_answers r e (finding_in (On x) back)) less
seen-gap x (f ∷ front) e back before less = ap (λ r. entry_answers r f (finding_in (On x) (front ++ (e ∷ back)))) (turn_to f.position x Less before.0) ∙ seen-gap x front e back before.1 less

-- at an entry its row
pub seen-there : (v : View) (n : Ref) (refs : List Ref) (c : Version) (h : IsVersionOf v n refs c) (q : Ref) (x : Pos) (f : IsFound v refs x (Here q)) → finding_in (On x) c.entries ≡ finding_of (entry-of v n refs c h f.0 q f.1 f.2).here.at (entry-of v n refs c h f.0 q f.1 f.2).here.row
seen-there v n refs c h q x f =
    let w = entry-of v n refs c h f.0 q f.1 f.2 in
    let at : w.here.position ≡ x = stands-once v q w.here.position x (holds-stands v q w.here w.holds) f.3 in
    ap (finding_in (On x)) w.is ∙ subst (λ y. finding_in (On y) (w.before ++ (w.here ∷ w.behind)) ≡ finding_of w.here.at w.here.row) at (seen-on w.before w.here w.behind (entries-ascend v n refs c h f.0 q f.1 f.2))

-- ---- made in a gap

module _ (S : ℕ) (old mid new : View) (n r next : Ref) (x : Pos) (row : Row) (m : Mark) (made : IsMade S old mid r (bytes_at x (Some row))) (held : HoldsEntry mid r (entry_of x (Some row) m m))
    (before_end : IsBefore x end_position) (well_old : IsWell old) (well : IsWell mid) (marks : (e : Entry) → HoldsEntry old next e → m ≡ e.gap)
    (place : (refs : List Ref) (c : Version) → IsVersionOf old n refs c → IsFound old refs x (Before next))
    (inserted : (front back : List Ref) (y : Pos) → IsTree (tree_of n) mid (front ++ back) → IsEntryAtPosition mid r y → BelongsBetween mid y front back → IsTree (tree_of n) new (front ++ (r ∷ back)))
    (others : (other : Tree) (refs : List Ref) → other.top ≢ Obj n 2 → IsTree other mid refs → IsTree other new refs)
    (elsewhere : (a : End) → IsOffTree mid a → link_of new a ≡ link_of mid a) (objects : (refs : List Ref) → IsTree (tree_of n) mid refs → SameButBalances mid new refs) where
  abbrev e : Entry
  e = entry_of x (Some row) m m

  abbrev size : ℕ
  size = bytes_at x (Some row)

  module _ (refs : List Ref) (c : Version) (h : IsVersionOf old n refs c) where
    abbrev front : List Ref
    front = (place refs c h).0

    abbrev back : List Ref
    back = next ∷ (place refs c h).1

    is : refs ≡ front ++ back
    is = (place refs c h).2

    fits : BelongsBetween old x front back
    fits = (place refs c h).3

    abbrev w : IsAround old front next (place refs c h).1 c.entries
    w = entry-of old n refs c h front next (place refs c h).1 is

    tree : IsTree (tree_of n) old (front ++ back)
    tree = subst (IsTree (tree_of n) old) is h.tree

    mid_tree : IsTree (tree_of n) mid (front ++ back)
    mid_tree = put-tree S old mid n r size e made held front back tree

    splits : gap_split x c.entries ≡ w.before ++ (dummy x w.here.gap ∷ (w.here ∷ w.behind))
    splits = split-gap old n refs c h front next (place refs c h).1 is x fits

    joins : join_row_at x row c.entries ≡ w.before ++ (e ∷ (w.here ∷ w.behind))
    joins = ap (at_entry x (with_row row)) splits
        ∙ entry-at w.before (dummy x w.here.gap) (w.here ∷ w.behind) (with_row row) (subst Ascend splits (split-ascends x c.entries h.version.ascend))
        ∙ ap (λ (g : Mark). w.before ++ (entry_of x (Some row) g g ∷ (w.here ∷ w.behind))) (sym (marks w.here w.holds))

    seen_none : finding_in (On x) c.entries ≡ finding_of w.here.gap None
    seen_none = ap (finding_in (On x)) w.is ∙ seen-gap x w.before w.here w.behind (each-earlier old x front w.before w.held_before fits.before) (later-at old x next w.here w.holds fits.behind.0)

    version : IsVersionOf new n (front ++ (r ∷ back)) (row_joined x row c)
    version = subst (λ es. IsVersionOf new n (front ++ (r ∷ back)) (with_entries es c)) (sym joins)
        (put-version S old mid n r size e made held front back tree well new others elsewhere (objects (front ++ back) mid_tree) c w.before (w.here ∷ w.behind) w.held_before (w.holds, w.held_behind)
        (subst (λ es. IsVersion (with_entries es c)) joins (join_row-is x row c before_end h.version))
        (inserted front back x mid_tree (holds-stands mid r e held) (put-fits S old mid n r size e made held front back tree x fits))
        (subst (λ l. IsVersionOf old n l c) is h))

    kept : IsKeptBut n old new
    kept = put-kept S old mid n r size e made held front back tree well new others elsewhere (objects (front ++ back) mid_tree)

    statics : link_of new (Obj n 3) ≡ link_of old (Obj n 3)
    statics = put-statics S old mid n r size e made held front back tree well new others elsewhere (objects (front ++ back) mid_tree) (version-kind old n refs c h)

    own : HasWhatWasMade n old new
    own = put-own S old mid n r size e made held front back tree well new others elsewhere (objects (front ++ back) mid_tree) version.tree

    stands : IsEntryAtPosition new r x
    stands = holds-stands new r e (put-held S old mid n r size e made held front back tree well new others elsewhere (objects (front ++ back) mid_tree))

    spare : spare_of S old.usages ≤ spare_of S new.usages + joined_bytes x row c
    spare = subst (λ f. spare_of S old.usages ≤ spare_of S new.usages + bytes_at x (Some (joined_onto f.row row))) (sym seen_none)
        (put-spare S old mid n r size e made held front back tree well new others elsewhere (objects (front ++ back) mid_tree))

    live : IsWeighed old new c (row_joined x row c)
    live = subst (λ es. IsWeighed old new c (with_entries es c)) (sym joins) (weighed-with old new c w.before e (w.here ∷ w.behind) w.is
        (put-live S old mid n r size e made held front back tree well new others elsewhere (objects (front ++ back) mid_tree)))

  pub gap-join : (refs : List Ref) (c : Version) → IsVersionOf old n refs c → IsJoined S old new n x row r
  gap-join refs c h = record {
    entries = λ refs c h. (front refs c h ++ (r ∷ back refs c h), (front refs c h, back refs c h, refl, inl (is refs c h)), version refs c h);
    fresh = (made-added S old mid r size made).fresh;
    at = stands refs c h;
    unlisted = fresh-unlisted (MayChange old n) n old new well_old (kept refs c h);
    own = own refs c h;
    statics = statics refs c h;
    kept = kept refs c h;
    spare = spare;
    live = live;
  }

-- ---- room for it

-- in a gap the entry is as large as the row says
pub gap-room : (S : ℕ) (v : View) (n next : Ref) (x : Pos) (row : Row) (space : ℕ) (refs : List Ref) (c : Version) → CanJoin S v space n x row refs c → IsFound v refs x (Before next) → HasRoomFor S v (bytes_at x (Some row)) space (entry_length x (Some row))
gap-room S v n next x row space refs c can f =
    let w = entry-of v n refs c can.version f.0 next f.1 f.2 in
    let none : finding_in (On x) c.entries ≡ finding_of w.here.gap None = ap (finding_in (On x)) w.is ∙ seen-gap x w.before w.here w.behind (each-earlier v x f.0 w.before w.held_before f.3.before) (later-at v x next w.here w.holds f.3.behind.0) in
    subst (λ k. HasRoomFor S v (bytes_at x (Some (joined_onto k.row row))) space (entry_length x (Some (joined_onto k.row row)))) none can.room

-- where a row stands the entry is as large as both together
pub onto-room : (S : ℕ) (v : View) (n q : Ref) (x : Pos) (row : Row) (space : ℕ) (refs : List Ref) (c : Version) → CanJoin S v space n x row refs c → IsFound v refs x (Here q)
    → (e : Entry) × HoldsEntry v q e × HasRoomFor S v (bytes_at e.position (Some (joined_onto e.row row))) space (entry_length e.position (Some (joined_onto e.row row)))
onto-room S v n q x row space refs c can f =
    let w = entry-of v n refs c can.version f.0 q f.1 f.2 in
    let at : w.here.position ≡ x = stands-once v q w.here.position x (holds-stands v q w.here w.holds) f.3 in (
      w.here,
      w.holds,
      subst (λ y. HasRoomFor S v (bytes_at y (Some (joined_onto w.here.row row))) space (entry_length y (Some (joined_onto w.here.row row)))) (sym at)
          (subst (λ k. HasRoomFor S v (bytes_at x (Some (joined_onto k.row row))) space (entry_length x (Some (joined_onto k.row row)))) (seen-there v n refs c can.version q x f) can.room),
    )

-- ---- made anew in the place of another one

-- what `replace` asks for
pub swap-asks : (S : ℕ) (old mid : View) (n q r : Ref) (x : Pos) (row : Row) → ((e : Entry) → HoldsEntry old q e → IsMade S old mid r (bytes_at e.position (Some (joined_onto e.row row)))) → ((e : Entry) → HoldsEntry old q e → HoldsEntry mid r (with_row row e))
    → ((refs : List Ref) (c : Version) → IsVersionOf old n refs c → IsFound old refs x (Here q)) → (refs : List Ref) (c : Version) → IsVersionOf old n refs c
    → ((xs : List Ref) × (ys : List Ref) × IsTree (tree_of n) mid (xs ++ (q ∷ ys))) × (IsLoose mid r × ((y : Pos) × IsEntryAtPosition mid q y × IsEntryAtPosition mid r y))
swap-asks S old mid n q r x row made held place refs c h =
    let f = place refs c h in let z = entry-of old n refs c h f.0 q f.1 f.2 in let d = with_row row z.here in let size = bytes_at z.here.position (Some (joined_onto z.here.row row)) in
    let tree = subst (IsTree (tree_of n) old) f.2 h.tree in let mk = made z.here z.holds in let hd = held z.here z.holds in (
      (f.0, f.1, put-tree S old mid n r size d mk hd f.0 (q ∷ f.1) tree),
      (put-loose S old mid n r size d mk hd, swap-alike S old mid n q r size d mk hd f.0 f.1 tree z.here z.holds refl),
    )

heavier : (new old size e s other : ℕ) → new + e ≡ old + size → new + (64 + (s + (e + other))) ≡ old + (64 + (s + (size + other)))
heavier new old size e s other a = omega arith

module _ (S : ℕ) (old mid put new : View) (n q r : Ref) (x : Pos) (row : Row)
    (made : (e : Entry) → HoldsEntry old q e → IsMade S old mid r (bytes_at e.position (Some (joined_onto e.row row)))) (held : (e : Entry) → HoldsEntry old q e → HoldsEntry mid r (with_row row e))
    (before_end : IsBefore x end_position) (well_old : IsWell old) (well : IsWell mid) (well_put : IsWell put) (unlisted : IsUnlisted old q)
    (place : (refs : List Ref) (c : Version) → IsVersionOf old n refs c → IsFound old refs x (Here q))
    (replaced : (front back : List Ref) → IsTree (tree_of n) mid (front ++ (q ∷ back)) → IsTree (tree_of n) put (front ++ (r ∷ back)))
    (others : (other : Tree) (refs : List Ref) → other.top ≢ Obj n 2 → IsTree other mid refs → IsTree other put refs)
    (elsewhere : (a : End) → IsOffTree mid a → link_of put a ≡ link_of mid a) (objects : (refs : List Ref) → IsTree (tree_of n) mid refs → SameButBalances mid put (r ∷ refs)) (out : IsLoose put q) where
  module _ (refs : List Ref) (c : Version) (h : IsVersionOf old n refs c) where
    abbrev before : List Ref
    before = (place refs c h).0

    abbrev behind : List Ref
    behind = (place refs c h).1

    abbrev there : refs ≡ before ++ (q ∷ behind)
    there = (place refs c h).2

    abbrev z : IsAround old before q behind c.entries
    z = entry-of old n refs c h before q behind there

    abbrev size' : ℕ
    size' = bytes_at z.here.position (Some (joined_onto z.here.row row))

    abbrev d : Entry
    d = with_row row z.here

    old_tree : IsTree (tree_of n) old (before ++ (q ∷ behind))
    old_tree = subst (IsTree (tree_of n) old) there h.tree

    middle : IsTree (tree_of n) mid (before ++ (q ∷ behind))
    middle = put-tree S old mid n r size' d (made z.here z.holds) (held z.here z.holds) before (q ∷ behind) old_tree

    at : z.here.position ≡ x
    at = stands-once old q z.here.position x (holds-stands old q z.here z.holds) (place refs c h).3

    joined : join_row_at x row c.entries ≡ z.before ++ (d ∷ z.behind)
    joined = ap (at_entry x (with_row row)) (split-here old n refs c h before q behind there x (place refs c h).3) ∙ changed-at old n refs c h before q behind there x (with_row row) (place refs c h).3

    -- what `free_obj` asks for
    pub onto-there : IsSome (body put q)
    onto-there = swap-there S old mid n q r size' d (made z.here z.holds) (held z.here z.holds) before behind old_tree well put others elsewhere (objects (before ++ (q ∷ behind)) middle) well_put out unlisted well_old

    pub onto-unset : (field : ℕ) → link_of put (Obj q field) ≡ None
    onto-unset = swap-unset S old mid n q r size' d (made z.here z.holds) (held z.here z.holds) before behind old_tree well put others elsewhere (objects (before ++ (q ∷ behind)) middle) well_put out unlisted well_old

    module _ (freed : IsFreed put new q) (budget : length new.usages ≡ length put.usages) (moved : new.moved ≡ put.moved) (compacted : new.compacted ≡ put.compacted) (risen : Risen put.epoch new.epoch) where
      now : IsVersionOf new n (before ++ (r ∷ behind)) (row_joined x row c)
      now = subst (λ es. IsVersionOf new n (before ++ (r ∷ behind)) (with_entries es c)) (sym joined)
          (swap-version S old mid n q r size' d (made z.here z.holds) (held z.here z.holds) before behind old_tree well put others elsewhere (objects (before ++ (q ∷ behind)) middle) well_put out unlisted well_old new freed budget moved compacted risen
          c z.before z.behind z.held_before z.held_behind (subst (λ es. IsVersion (with_entries es c)) joined (join_row-is x row c before_end h.version)) (replaced before behind middle) (subst (λ l. IsVersionOf old n l c) there h))

      all_kept : IsKeptBut n old new
      all_kept = swap-kept S old mid n q r size' d (made z.here z.holds) (held z.here z.holds) before behind old_tree well put others elsewhere (objects (before ++ (q ∷ behind)) middle) well_put out unlisted well_old new freed budget moved compacted risen

      all_statics : link_of new (Obj n 3) ≡ link_of old (Obj n 3)
      all_statics = swap-statics S old mid n q r size' d (made z.here z.holds) (held z.here z.holds) before behind old_tree well put others elsewhere (objects (before ++ (q ∷ behind)) middle) well_put out unlisted well_old new freed budget moved compacted risen (version-kind old n refs c h)

      all_own : HasWhatWasMade n old new
      all_own = swap-own S old mid n q r size' d (made z.here z.holds) (held z.here z.holds) before behind old_tree well put others elsewhere (objects (before ++ (q ∷ behind)) middle) well_put out unlisted well_old new freed budget moved compacted risen now.tree

      stands_there : IsEntryAtPosition new r x
      stands_there = subst (IsEntryAtPosition new r) at (swap-stands S old mid n q r size' d (made z.here z.holds) (held z.here z.holds) before behind old_tree well put others elsewhere (objects (before ++ (q ∷ behind)) middle) well_put out unlisted well_old new freed budget moved compacted risen (replaced before behind middle))

      less_spare : spare_of S new.usages ≡ spare_of S put.usages → spare_of S old.usages ≤ spare_of S new.usages + joined_bytes x row c
      less_spare same = subst (λ f. spare_of S old.usages ≤ spare_of S new.usages + bytes_at x (Some (joined_onto f.row row))) (sym (seen-there old n refs c h q x (place refs c h)))
          (subst (λ y. spare_of S old.usages ≤ spare_of S new.usages + bytes_at y (Some (joined_onto z.here.row row))) at
          (swap-spare S old mid n q r size' d (made z.here z.holds) (held z.here z.holds) before behind old_tree well put others elsewhere (objects (before ++ (q ∷ behind)) middle) well_put out unlisted well_old new freed budget moved compacted risen same))

      more_live : IsSomeAnd (body put q) (λ b. live_bytes new + rounded_size b.0 (length b.1) ≡ live_bytes put) → IsWeighed old new c (row_joined x row c)
      more_live less = subst (λ es. IsWeighed old new c (with_entries es c)) (sym joined)
          (subst (λ es. IsWeighed old new (with_entries es c) (with_entries (z.before ++ (d ∷ z.behind)) c)) (sym z.is)
          ((λ i. live_bytes new + (64 + (statics_bytes c.statics + bytes-with z.before z.here z.behind i)))
          ∙ heavier (live_bytes new) (live_bytes old) size' (entry_bytes z.here) (statics_bytes c.statics) (entries_bytes (z.before ++ z.behind))
          (swap-live S old mid n q r size' d (made z.here z.holds) (held z.here z.holds) before behind old_tree well put others elsewhere (objects (before ++ (q ∷ behind)) middle) well_put out unlisted well_old new freed budget moved compacted risen less z.here z.holds)
          ∙ sym (λ i. live_bytes old + (64 + (statics_bytes c.statics + bytes-with z.before d z.behind i)))))

  pub onto-join : (refs : List Ref) (c : Version) → IsVersionOf old n refs c → IsFreed put new q → length new.usages ≡ length put.usages → new.moved ≡ put.moved → new.compacted ≡ put.compacted → Risen put.epoch new.epoch
      → spare_of S new.usages ≡ spare_of S put.usages → IsSomeAnd (body put q) (λ b. live_bytes new + rounded_size b.0 (length b.1) ≡ live_bytes put) → IsJoined S old new n x row r
  onto-join refs c h freed budget moved compacted risen same less = record {
    entries = λ refs c h. (before refs c h ++ (r ∷ behind refs c h), (before refs c h, behind refs c h, refl, inr (q, there refs c h, freed.here)), now refs c h freed budget moved compacted risen);
    fresh = (made-added S old mid r (size' refs c h) (made (z refs c h).here (z refs c h).holds)).fresh;
    at = stands_there refs c h freed budget moved compacted risen;
    unlisted = fresh-unlisted (MayChange old n) n old new well_old (all_kept refs c h freed budget moved compacted risen);
    own = all_own refs c h freed budget moved compacted risen;
    statics = all_statics refs c h freed budget moved compacted risen;
    kept = all_kept refs c h freed budget moved compacted risen;
    spare = λ refs c h. less_spare refs c h freed budget moved compacted risen same;
    live = λ refs c h. more_live refs c h freed budget moved compacted risen less;
  }
