-- Where the open gap behind a position ends, entry by entry and version by version.
use Rattle.std.proofs.Common.{◌≡◌, ℕ, List, [], ◌∷◌, ◌++◌, Option, Some, None, ⊎_elim, inl, inr, refl, sym, ap, ◌∙◌, subst, append_assoc}
use Rattle.std.specs.Prelude.{◌⊎◌, IsSomeAnd}
use Rattle.std.proofs.lemmas.List.{map-append}
use Rattle.std.specs.declared.cmp.Ordering.TheVariants.{Equal, Greater}
use Rattle.rc_position.specs.declared.positions.Pos.{Pos}
use Rattle.rc_position.specs.Position.{pos_cmp, IsBefore}
use Rattle.rc_position.specs.laws.Orders.{pos_cmp_total, pos_cmp_same}
use Rattle.rc_rowcode.specs.Spelling.{IsPos}
use Rattle.lsa_kinds.specs.declared.kind.Kind.{Kind}
use Rattle.lsa_store.specs.declared.place.Ref.{Ref}
use Rattle.lsa_region.specs.Region.{View, body}
use Rattle.lsa_tree.specs.declared.tree.Place.TheVariants.{Before, Last}
use Rattle.lsa_tree.specs.Search.{IsFound, first_entry}
use Rattle.lsa_tree.specs.Entries.{IsEntryAtPosition}
use Rattle.lsa_tree.specs.laws.Orders.{greater-before, not-both, stands-once}
use Rattle.rc_core.specs.AtPlace.{EachEntry, HasEntryAt}
use Rattle.rc_core.specs.Continuity.{EachOf}
use Rattle.rc_core.specs.declared.entries.Entry.{Entry}
use Rattle.rc_core.specs.laws.Surgery.{back-above, each-of-both, front-below}
use Rattle.rc_core.specs.Parts.{IsClear, IsReach, SomeHasEntryAt}
use Rattle.rc_core.specs.calls.Parts.{IsNearer}
use Rattle.rc_core.specs.Version.{Ascend, Version}
use Rattle.rc_object.specs.Objects.{HoldsEntry, SpellsEntry}
use Rattle.rc_partition.specs.Versions.{HoldEntries, IsVersionOf}
use Rattle.rc_partition.specs.Holding.{AreAround, IsAround, around, both-around, each-earlier, later-at, none-held}
use Rattle.rc_partition.specs.Objects.{holds-stands}
use Rattle.rc_partition.specs.Partitions.{StandingVersion}
use Rattle.rc_reading.specs.calls.Gaps.{IsNextBehind}
use Rattle.rc_reading.specs.Reading.{read_versions}

-- ---- entries that do not stand between two positions

clear-both : (x to : Pos) (front back : List Entry) → IsClear x to front → IsClear x to back → IsClear x to (front ++ back)
clear-both x to [] back f b = b
clear-both x to (e ∷ es) back f b = (f.0, clear-both x to es back f.1 b)

-- those before a position
clear-before : (x y to : Pos) (es : List Entry) → EachEntry (λ e. IsBefore e.position y) es → (y ≡ x) ⊎ IsBefore y x → IsClear x to es
clear-before x y to [] h k = tt
clear-before x y to (e ∷ es) h k = (λ l m. not-both x e.position l (⊎_elim (λ same. subst (IsBefore e.position) same h.0) (λ less. pos_cmp_total.trans e.position y x h.0 less) k), clear-before x y to es h.1 k)

-- one that stands no later
clear-at : (x to : Pos) (e : Entry) → (e.position ≡ x) ⊎ (e.position ≡ to) → IsClear x to (e ∷ [])
clear-at x to e (inl at) = (λ l m. not-both x x (subst (IsBefore x) at l) (subst (IsBefore x) at l), tt)
clear-at x to e (inr at) = (λ l m. not-both to to (subst (λ y. IsBefore y to) at m) (subst (λ y. IsBefore y to) at m), tt)

-- those behind the end
clear-behind : (x to : Pos) (es : List Entry) → EachEntry (λ e. IsBefore to e.position) es → IsClear x to es
clear-behind x to [] h = tt
clear-behind x to (e ∷ es) h = (λ l m. not-both to e.position h.0 m, clear-behind x to es h.1)

has-amid : (front : List Entry) (e : Entry) (back : List Entry) → HasEntryAt e.position (front ++ (e ∷ back))
has-amid [] e back = inl refl
has-amid (f ∷ front) e back = inr (has-amid front e back)

-- ---- the next entry behind a position

module _ (v : View) (n : Ref) (x : Pos) where
  -- the first behind it, where none stands at it
  pub next-before : (refs : List Ref) (c : Version) → IsVersionOf v n refs c → (r : Ref) → IsFound v refs x (Before r) → IsNextBehind v x c.entries (Some r)
  next-before refs c h r f =
      let w : IsAround v f.0 r f.1 c.entries = around v f.0 r f.1 c.entries (subst (λ l. HoldEntries v l c.entries) f.2 h.entries) in
      let ascend : Ascend (w.before ++ (w.here ∷ w.behind)) = subst Ascend w.is h.version.ascend in (
        w.here,
        w.holds,
        later-at v x r w.here w.holds f.3.behind.0,
        subst (HasEntryAt w.here.position) (sym w.is) (has-amid w.before w.here w.behind),
        subst (IsClear x w.here.position) (sym w.is) (clear-both x w.here.position w.before (w.here ∷ w.behind) (clear-before x x w.here.position w.before (each-earlier v x f.0 w.before w.held_before f.3.before) (inl refl))
            (clear-both x w.here.position (w.here ∷ []) w.behind (clear-at x w.here.position w.here (inr refl)) (clear-behind x w.here.position w.behind (back-above w.before w.here w.behind ascend)))),
      )

  -- the one behind that at it
  pub next-after : (front : List Ref) (e : Ref) (back : List Ref) (c : Version) → IsVersionOf v n (front ++ (e ∷ back)) c → IsEntryAtPosition v e x → IsNextBehind v x c.entries (first_entry back)
  next-after front e [] c h stands =
      let w : IsAround v front e [] c.entries = around v front e [] c.entries h.entries in
      let at : w.here.position ≡ x = stands-once v e w.here.position x (holds-stands v e w.here w.holds) stands in
      let alone : c.entries ≡ w.before ++ (w.here ∷ []) = w.is ∙ ap (λ (l : List Entry). w.before ++ (w.here ∷ l)) (none-held v w.behind w.held_behind) in
      λ to. subst (IsClear x to) (sym alone) (clear-both x to w.before (w.here ∷ []) (clear-before x w.here.position to w.before (front-below w.before w.here [] (subst Ascend alone h.version.ascend)) (inl at)) (clear-at x to w.here (inl at)))
  next-after front e (q ∷ back) c h stands =
      let w : AreAround v front e q back c.entries = both-around v front e q back c.entries h.entries in
      let at : w.here.position ≡ x = stands-once v e w.here.position x (holds-stands v e w.here w.holds) stands in
      let ascend : Ascend (w.before ++ (w.here ∷ w.there ∷ w.behind)) = subst Ascend w.is h.version.ascend in
      let behind : EachEntry (λ f. IsBefore w.here.position f.position) (w.there ∷ w.behind) = back-above w.before w.here (w.there ∷ w.behind) ascend in
      let grouped : w.before ++ (w.here ∷ w.there ∷ w.behind) ≡ (w.before ++ (w.here ∷ [])) ++ (w.there ∷ w.behind) = sym (append_assoc w.before (w.here ∷ []) (w.there ∷ w.behind)) in (
        w.there,
        w.next_holds,
        subst (λ y. IsBefore y w.there.position) at behind.0,
        subst (HasEntryAt w.there.position) (sym (w.is ∙ grouped)) (has-amid (w.before ++ (w.here ∷ [])) w.there w.behind),
        subst (IsClear x w.there.position) (sym w.is) (clear-both x w.there.position w.before (w.here ∷ w.there ∷ w.behind) (clear-before x w.here.position w.there.position w.before (front-below w.before w.here (w.there ∷ w.behind) ascend) (inl at))
            (clear-both x w.there.position (w.here ∷ []) (w.there ∷ w.behind) (clear-at x w.there.position w.here (inl at))
            (clear-both x w.there.position (w.there ∷ []) w.behind (clear-at x w.there.position w.there (inr refl)) (clear-behind x w.there.position w.behind (back-above (w.before ++ (w.here ∷ [])) w.there w.behind (subst Ascend grouped ascend)))))),
      )

  -- none, where all stand before it
  pub next-none : (refs : List Ref) (c : Version) → IsVersionOf v n refs c → IsFound v refs x Last → IsNextBehind v x c.entries None
  next-none refs c h f = λ to. clear-before x x to c.entries (each-earlier v x refs c.entries h.entries f.before) (inl refl)

-- ---- what is nearer

pub upto-before : (r to q : Pos) → (r ≡ to) ⊎ IsBefore r to → IsBefore q r → IsBefore q to
upto-before r to q h l = ⊎_elim (λ e. subst (IsBefore q) e l) (λ m. pos_cmp_total.trans q r to l m) h

upto_upto : (r mid to : Pos) → (r ≡ mid) ⊎ IsBefore r mid → (mid ≡ to) ⊎ IsBefore mid to → (r ≡ to) ⊎ IsBefore r to
upto_upto r mid to h k = ⊎_elim (λ e. ⊎_elim (λ d. inl (e ∙ d)) (λ m. inr (subst (λ y. IsBefore y to) (sym e) m)) k) (λ l. inr (upto-before mid to r k l)) h

sooner_clear : (x r mid : Pos) (es : List Entry) → (r ≡ mid) ⊎ IsBefore r mid → IsClear x mid es → IsClear x r es
sooner_clear x r mid [] h c = tt
sooner_clear x r mid (e ∷ es) h c = (λ l m. c.0 l (upto-before r mid e.position h m), sooner_clear x r mid es h c.1)

-- no entry stands behind the position
pub none-nearer : (x to : Pos) (es : List Entry) → IsBefore x to → ((y : Pos) → IsClear x y es) → IsNearer x to to es
none-nearer x to es l clear = record { ahead = l; within = inl refl; clear = clear to; stops = inl refl }

-- the next one stands sooner
pub is-nearer : (x to y : Pos) (es : List Entry) → IsBefore x y → HasEntryAt y es → IsClear x y es → IsBefore y to → IsNearer x to y es
is-nearer x to y es l has clear sooner = record { ahead = l; within = inr sooner; clear = clear; stops = inr has }

-- the next one does not
pub not-nearer : (x to y : Pos) (es : List Entry) → IsBefore x to → IsClear x y es → (pos_cmp y to ≡ Equal) ⊎ (pos_cmp y to ≡ Greater) → IsNearer x to to es
not-nearer x to y es l clear late = record { ahead = l; within = inl refl; clear = sooner_clear x to y es (⊎_elim (λ e. inl (sym (pos_cmp_same y to e))) (λ e. inr (greater-before to y e)) late) clear; stops = inl refl }

-- ---- version by version

pub none-reach : (x upto : Pos) → IsBefore x upto → IsReach [] x upto upto
none-reach x upto l = record { ahead = l; within = inl refl; clear = tt; stops = inl refl }

clear_each : (x r mid : Pos) (vs : List Version) → (r ≡ mid) ⊎ IsBefore r mid → EachOf (λ v. IsClear x mid v.entries) vs → EachOf (λ v. IsClear x r v.entries) vs
clear_each x r mid [] h c = tt
clear_each x r mid (v ∷ vs) h c = (sooner_clear x r mid v.entries h c.0, clear_each x r mid vs h c.1)

some_front : (x : Pos) (front back : List Version) → SomeHasEntryAt x front → SomeHasEntryAt x (front ++ back)
some_front x [] back h = absurd h
some_front x (v ∷ vs) back (inl h) = inl h
some_front x (v ∷ vs) back (inr h) = inr (some_front x vs back h)

some_last : (x : Pos) (front : List Version) (v : Version) → HasEntryAt x v.entries → SomeHasEntryAt x (front ++ (v ∷ []))
some_last x [] v h = inl h
some_last x (w ∷ vs) v h = inr (some_last x vs v h)

one-further : (x upto mid r : Pos) (vs : List Version) (v : Version) → IsReach vs x upto mid → IsNearer x mid r v.entries → IsReach (vs ++ (v ∷ [])) x upto r
one-further x upto mid r vs v s n = record {
  ahead = n.ahead;
  within = upto_upto r mid upto n.within s.within;
  clear = each-of-both (λ w. IsClear x r w.entries) vs (v ∷ []) (clear_each x r mid vs n.within s.clear) (n.clear, tt);
  stops = ⊎_elim
      (λ e. ⊎_elim (λ d. inl (e ∙ d)) (λ h. inr (some_front r vs (v ∷ []) (subst (λ y. SomeHasEntryAt y vs) (sym e) h))) s.stops)
      (λ h. inr (some_last r vs v h))
      n.stops;
}

pub further : (x upto mid r : Pos) (older : List StandingVersion) (s : StandingVersion) → IsReach (read_versions older) x upto mid → IsNearer x mid r s.version.entries → IsReach (read_versions (older ++ (s ∷ []))) x upto r
further x upto mid r older s h n = subst (λ vs. IsReach vs x upto r) (sym (map-append (λ (t : StandingVersion). t.version) older (s ∷ []))) (one-further x upto mid r (read_versions older) s.version h n)

-- ---- the code of a position

place_in : (o : Option (Kind × List ℕ)) (e : Entry) → IsSomeAnd o (λ b. SpellsEntry b e) → IsPos e.position
place_in None e h = absurd h
place_in (Some b) e h = h.position

pub place-coded : (v : View) (r : Ref) (e : Entry) → HoldsEntry v r e → IsPos e.position
place-coded v r e h = place_in (body v r) e h
