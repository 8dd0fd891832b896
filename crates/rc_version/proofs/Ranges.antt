-- A version with a range tombstone joined: split at both ends, and its marks changed between.
use Rattle.std.proofs.Common.{◌≡◌, ℕ, ◌+◌, ◌≤◌, List, [], ◌∷◌, map, Some, None, IsSome, ◌⊎◌, inl, inr, refl, sym, ap, ◌∙◌, subst, arith}
use Rattle.std.specs.Prelude.{Contains}
use Rattle.std.proofs.lemmas.List.Elements.{Contains-append_cases, Contains-append_left, Contains-append_right}
use Rattle.rc_cell.specs.declared.writes.Tomb.{Tomb}
use Rattle.rc_position.specs.declared.positions.Pos.{Pos}
use Rattle.rc_position.specs.Position.{IsBefore}
use Rattle.lsa_store.specs.declared.place.Ref.{Ref}
use Rattle.lsa_region.specs.declared.end.End.{End}
use Rattle.lsa_region.specs.declared.end.End.TheVariants.{Obj}
use Rattle.lsa_region.specs.Region.{View, body, link_of, live_bytes}
use Rattle.lsa_path.specs.laws.Members.{member-here, member-later}
use Rattle.lsa_tree.specs.Entries.{IsEntryAtPosition}
use Rattle.lsa_tree.specs.laws.Orders.{stands-once}
use Rattle.lsa_tree.specs.laws.Trees.{tree-once}
use Rattle.lsa_tree.specs.Tree.{IsTree}
use Rattle.rc_core.specs.Change.{entry_changed, gap_split, join_range, raised_mark}
use Rattle.rc_core.specs.Continuity.{with_entries}
use Rattle.rc_core.specs.declared.entries.Entry.{Entry}
use Rattle.rc_core.specs.declared.entries.Mark.{Mark}
use Rattle.rc_core.specs.Steps.{range_joined}
use Rattle.rc_core.specs.Version.{Version}
use Rattle.rc_version.specs.Versions.{tree_of, ArePutAmong, IsKeptBeside, IsKeptBut, IsSplit, IsVersionOf, IsStaticsOf, IsWeighed, HasWhatWasMade, MayChange, entries_bytes, entry_bytes, statics_bytes, version_bytes}
use Rattle.rc_version.specs.calls.Stretch.{IsMarking}
use Rattle.rc_version.specs.laws.Objects.{holds-stands}
use Rattle.rc_version.specs.laws.Staying.{kept-then, kept-wider}
use Rattle.rc_version.proofs.Between.{stretch-marking}
use Rattle.rc_version.proofs.Gaps.{entry-in}
use Rattle.rc_version.proofs.Putting.{member-decided}
use Rattle.rc_version.proofs.Written.{none_or_some}

put-member : (v : View) (r : Ref) (refs now : List Ref) → ArePutAmong v r refs now → Contains now r
put-member v r refs now (inl k) = subst (λ l. Contains l r) (sym k.0) k.1
put-member v r refs now (inr k) = subst (λ l. Contains l r) (sym k.1.3) (member-here k.1.0 k.1.1 r)

pub put-wider : (v : View) (r : Ref) (refs now : List Ref) → ArePutAmong v r refs now → (q : Ref) → Contains refs q → Contains now q
put-wider v r refs now (inl k) q m = subst (λ l. Contains l q) (sym k.0) m
put-wider v r refs now (inr k) q m = subst (λ l. Contains l q) (sym k.1.3) (elim (Contains-append_cases k.1.0 k.1.1 q (subst (λ l. Contains l q) k.1.2 m)) [
  | inl ahead ↦ Contains-append_left k.1.0 (r ∷ k.1.1) q ahead
  | inr later ↦ Contains-append_right k.1.0 (r ∷ k.1.1) q (member-later r q k.1.1 later)
])

bytes-mapped : (g : Entry → Entry) → ((e : Entry) → entry_bytes (g e) ≡ entry_bytes e) → (es : List Entry) → entries_bytes (map g es) ≡ entries_bytes es
bytes-mapped g same [] = refl
bytes-mapped g same (e ∷ es) = λ i. same e i + bytes-mapped g same es i

two_weighed : (old mid new a b c : ℕ) → mid + a ≡ old + b → new + b ≡ mid + c → new + a ≡ old + c
two_weighed old mid new a b c p q = omega arith

-- what is left for the second
pub left-spare : (old mid a b : ℕ) → a + b ≤ old → old ≤ mid + a → b ≤ mid
left-spare old mid a b p q = omega arith

pub two-spare : (old mid new a b : ℕ) → old ≤ mid + a → mid ≤ new + b → old ≤ new + (a + b)
two-spare old mid new a b p q = omega arith

module _ (S : ℕ) (old mid new : View) (n first last : Ref) (from to : Pos) (tomb : Tomb) (one : IsSplit S old mid n from first) (two : IsSplit S mid new n to last) (less : IsBefore from to) where
  abbrev f : Mark → Mark
  f = raised_mark (Some tomb)

  module _ (refs : List Ref) (c : Version) (h : IsVersionOf old n refs c) where
    abbrev c1 : Version
    c1 = with_entries (gap_split from c.entries) c

    abbrev refs1 : List Ref
    refs1 = (one.entries refs c h).0

    v1 : IsVersionOf mid n refs1 c1
    v1 = (one.entries refs c h).2

    -- the entries behind both splits
    abbrev pub both : List Ref
    both = (two.entries (one.entries refs c h).0 (with_entries (gap_split from c.entries) c) (one.entries refs c h).2).0

    abbrev es : List Entry
    es = gap_split to (gap_split from c.entries)

    v2 : IsVersionOf new n both (with_entries es c)
    v2 = (two.entries (one.entries refs c h).0 (with_entries (gap_split from c.entries) c) (one.entries refs c h).2).2

    pub both-wider : (q : Ref) → Contains refs q → Contains both q
    both-wider q k = put-wider mid last refs1 both (two.entries (one.entries refs c h).0 (with_entries (gap_split from c.entries) c) (one.entries refs c h).2).1 q (put-wider old first refs refs1 (one.entries refs c h).1 q k)

    first_in : Contains both first
    first_in = put-wider mid last refs1 both (two.entries (one.entries refs c h).0 (with_entries (gap_split from c.entries) c) (one.entries refs c h).2).1 first (put-member old first refs refs1 (one.entries refs c h).1)

    last_in : Contains both last
    last_in = put-member mid last refs1 both (two.entries (one.entries refs c h).0 (with_entries (gap_split from c.entries) c) (one.entries refs c h).2).1

    first_at : IsEntryAtPosition new first from
    first_at =
        let e = entry-in mid n refs1 c1 v1 first (put-member old first refs refs1 (one.entries refs c h).1) in
        subst (IsEntryAtPosition new first) (stands-once mid first e.0.position from (holds-stands mid first e.0 e.1) one.at) (holds-stands new first e.0 (two.held first e.0 e.1))

    pub range-marking : (target : List Entry) × IsMarking new n first last f both c target 0 × (join_range from to tomb c.entries ≡ target)
    range-marking = stretch-marking new n first last from to f both (gap_split to (gap_split from c.entries)) c v2 first_in last_in first_at two.at less

    pub range-live : IsWeighed old new c (range_joined from to tomb c)
    range-live = two_weighed (live_bytes old) (live_bytes mid) (live_bytes new) (version_bytes c) (version_bytes c1) (version_bytes (range_joined from to tomb c)) (one.live refs c h)
        (two.live refs1 c1 v1 ∙ ap (λ k. live_bytes mid + (64 + (statics_bytes c.statics + k))) (sym (bytes-mapped (entry_changed f from to) (λ e. refl) es)))

    pub range-kept : (now : View) → IsKeptBeside (Contains both) n new now → IsKeptBut n old now
    range-kept now last_kept = kept-then (MayChange old n) n old mid now one.kept
        (kept-then (MayChange old n) n mid new now (kept-wider (MayChange mid n) (MayChange old n) n mid new one.parts two.kept)
        (kept-wider (Contains both) (MayChange old n) n new now (λ q k. one.parts q (two.parts q (inr (inr (inl (both, v2.tree, k)))))) last_kept))

    -- what was made is of the version, first by one split or by the other
    made_first : (q : Ref) → body old q ≡ None → IsSome (body mid q) → Contains both q ⊎ ((q ≡ n) ⊎ IsStaticsOf new n q)
    made_first q fresh there = elim (one.own q fresh there) [
      | inl is ↦ inr (inl is)
      | inr part ↦ elim part [
        | inl k ↦ inl (put-wider mid last refs1 both (two.entries (one.entries refs c h).0 (with_entries (gap_split from c.entries) c) (one.entries refs c h).2).1 q (subst (λ l. Contains l q) (tree-once (tree_of n) mid k.0 refs1 k.1 v1.tree) k.2))
        | inr named ↦ inr (inr (two.statics ∙ named))
      ]
    ]

    made_last : (q : Ref) → body mid q ≡ None → IsSome (body new q) → Contains both q ⊎ ((q ≡ n) ⊎ IsStaticsOf new n q)
    made_last q fresh there = elim (two.own q fresh there) [
      | inl is ↦ inr (inl is)
      | inr part ↦ elim part [
        | inl k ↦ inl (subst (λ l. Contains l q) (tree-once (tree_of n) new k.0 both k.1 v2.tree) k.2)
        | inr named ↦ inr (inr named)
      ]
    ]

    made_both : (q : Ref) → body old q ≡ None → IsSome (body new q) → Contains both q ⊎ ((q ≡ n) ⊎ IsStaticsOf new n q)
    made_both q fresh there = elim (none_or_some (body mid q)) [ inl gone ↦ made_last q gone there | inr here ↦ made_first q fresh here ]

    pub range-own : (now : View) → IsKeptBeside (Contains both) n new now → IsTree (tree_of n) now both → ((e : End) → link_of now e ≡ link_of new e) → HasWhatWasMade n old now
    range-own now last_kept tree links q fresh there = elim (member-decided both q) [
      | inl k ↦ inr (inl (both, tree, k))
      | inr out ↦ elim (made_both q fresh (subst IsSome (last_kept.bodies q out) there)) [
        | inl k ↦ inr (inl (both, tree, k))
        | inr part ↦ elim part [ inl is ↦ inl is | inr named ↦ inr (inr (links (Obj n 3) ∙ named)) ]
      ]
    ]
