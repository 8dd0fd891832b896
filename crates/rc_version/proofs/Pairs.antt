-- A version in which the mark at an entry, and over the gap before the next one, was changed by a function.
use Rattle.std.proofs.Common.{◌≡◌, ◌≢◌, ℕ, ◌+◌, ◌<◌, ◌≤◌, List, [], ◌∷◌, ◌++◌, length, map, Some, None, refl, sym, ap, ◌∙◌, subst, arith, append_assoc, length-append}
use Rattle.std.specs.Prelude.{Contains}
use Rattle.std.proofs.lemmas.List.Elements.{Contains-append_left, Contains-append_right}
use Rattle.lsa_store.specs.declared.place.Ref.{Ref}
use Rattle.lsa_region.specs.Region.{View, body, objects, IsSummed, IsWell}
use Rattle.lsa_tree.specs.Tree.{IsTree}
use Rattle.lsa_tree.specs.laws.Trees.{tree-few, tree-once}
use Rattle.lsa_path.specs.laws.Members.{member-first, member-here, member-later}
use Rattle.lsa_tree.specs.Entries.{IsReadAlike}
use Rattle.lsa_tree.specs.Search.{first_entry}
use Rattle.rc_core.specs.Change.{with_gap, with_mark, with_marks}
use Rattle.rc_core.specs.Continuity.{with_entries}
use Rattle.rc_core.specs.declared.entries.Entry.{Entry}
use Rattle.rc_core.specs.declared.entries.Mark.{Mark}
use Rattle.rc_core.specs.Version.{Version}
use Rattle.rc_object.specs.Objects.{HoldsEntry, IsRewritten}
use Rattle.rc_version.specs.Versions.{tree_of, HoldEntries, IsKeptBeside, IsVersionOf}
use Rattle.rc_version.specs.calls.Stretch.{HoldPair, IsMarking}
use Rattle.rc_version.specs.laws.Holding.{hold-both, hold-kept}
use Rattle.rc_version.specs.laws.Staying.{kept-then}
use Rattle.rc_version.proofs.Written.{entry-beside, marked-kept_by, marked-others, marked-version, rewritten-usages}

-- after the first of both changes
module _ (old mid : View) (n e next : Ref) (f : Mark → Mark) (front back : List Ref) (c : Version) (before : List Entry) (x y : Entry) (behind : List Entry) (h : HoldPair old n front e next back c before x y behind)
    (first : IsRewritten old mid e) (first_alike : IsReadAlike (body old e) (body mid e)) (first_held : HoldsEntry mid e (with_mark f x)) where
  mid_others : (q : Ref) (d : Entry) → Contains (front ++ (next ∷ back)) q → HoldsEntry old q d → HoldsEntry mid q d
  mid_others q d k a = marked-others old mid e first first_alike n (front ++ (e ∷ next ∷ back)) c h.version front (next ∷ back) refl q d k a

  mid_version : IsVersionOf mid n (front ++ (e ∷ next ∷ back)) (with_entries (before ++ (with_mark f x ∷ y ∷ behind)) c)
  mid_version = marked-version old mid e first first_alike n (front ++ (e ∷ next ∷ back)) c h.version front (next ∷ back) refl before x (with_mark f x) (y ∷ behind) h.is h.held_before (h.next_holds, h.held_behind) refl refl first_held

  pub pair-next : HoldsEntry mid next y
  pair-next = mid_others next y (member-here front back next) h.next_holds

module _ (old mid new : View) (n e next : Ref) (f : Mark → Mark) (front back : List Ref) (c : Version) (before : List Entry) (x y : Entry) (behind : List Entry) (h : HoldPair old n front e next back c before x y behind)
    (first : IsRewritten old mid e) (first_alike : IsReadAlike (body old e) (body mid e)) (first_held : HoldsEntry mid e (with_mark f x))
    (second : IsRewritten mid new next) (second_alike : IsReadAlike (body mid next) (body new next)) where
  abbrev both : List Ref
  both = front ++ (e ∷ next ∷ back)

  abbrev x' : Entry
  x' = with_mark f x

  abbrev y' : Entry
  y' = with_gap (f y.gap) y

  others_then : (q : Ref) (d : Entry) → Contains (front ++ (next ∷ back)) q → HoldsEntry old q d → HoldsEntry mid q d
  others_then = mid_others old mid n e next f front back c before x y behind h first first_alike first_held

  version_then : IsVersionOf mid n both (with_entries (before ++ (x' ∷ y ∷ behind)) c)
  version_then = mid_version old mid n e next f front back c before x y behind h first first_alike first_held

  module _ (second_held : HoldsEntry new next (with_gap (f y.gap) y)) where
    abbrev ahead : List Ref
    ahead = front ++ (e ∷ [])

    parted : both ≡ ahead ++ (next ∷ back)
    parted = sym (append_assoc front (e ∷ []) (next ∷ back))

    new_others : (q : Ref) (d : Entry) → Contains (ahead ++ back) q → HoldsEntry mid q d → HoldsEntry new q d
    new_others q d k a = marked-others mid new next second second_alike n both _ version_then ahead back parted q d k a

    front_mid : HoldEntries mid front before
    front_mid = hold-kept old mid front before (λ q d k a. others_then q d (Contains-append_left front (next ∷ back) q k) a) h.held_before

    back_mid : HoldEntries mid back behind
    back_mid = hold-kept old mid back behind (λ q d k a. others_then q d (Contains-append_right front (next ∷ back) q (member-later next q back k)) a) h.held_behind

    new_version : IsVersionOf new n both (with_entries (before ++ (x' ∷ y' ∷ behind)) c)
    new_version = subst (λ es. IsVersionOf new n both (with_entries es c)) (append_assoc before (x' ∷ []) (y' ∷ behind))
        (marked-version mid new next second second_alike n both (with_entries (before ++ (x' ∷ y ∷ behind)) c) version_then ahead back parted (before ++ (x' ∷ [])) y y' behind (sym (append_assoc before (x' ∷ []) (y ∷ behind)))
        (hold-both mid front (e ∷ []) before (x' ∷ []) front_mid (first_held, tt)) back_mid refl refl second_held)

    pub pair-marked : HoldPair new n front e next back (with_entries (before ++ (with_mark f x ∷ with_gap (f y.gap) y ∷ behind)) c) before (with_mark f x) (with_gap (f y.gap) y) behind
    pair-marked = record {
      version = new_version;
      is = refl;
      held_before = hold-kept mid new front before (λ q d k a. new_others q d (Contains-append_left ahead back q (Contains-append_left front (e ∷ []) q k)) a) front_mid;
      holds = new_others e x' (Contains-append_left ahead back e (Contains-append_right front (e ∷ []) e (member-first e []))) first_held;
      next_holds = second_held;
      held_behind = hold-kept mid new back behind (λ q d k a. new_others q d (Contains-append_right ahead back q k) a) back_mid;
    }

  pub pair-kept : IsWell old → IsWell mid → IsKeptBeside (Contains (front ++ (e ∷ next ∷ back))) n old new
  pair-kept well_old well_mid = kept-then (Contains both) n old mid new
      (marked-kept_by old mid e first first_alike n both c h.version (Contains both) (member-here front (next ∷ back) e) well_old (member-here front (next ∷ back) e))
      (marked-kept_by mid new next second second_alike n both _ version_then (Contains both) here well_mid here)
    where
      here : Contains both next
      here = Contains-append_right front (e ∷ next ∷ back) next (member-later e next (next ∷ back) (member-first next back))

  pub pair-usages : new.usages ≡ old.usages
  pair-usages = rewritten-usages mid new next second ∙ rewritten-usages old mid e first

-- ---- step by step

hold-parts : (v w : View) (front back : List Ref) (before behind : List Entry) → HoldEntries v front before → HoldEntries w (front ++ back) (before ++ behind) → HoldEntries w front before × HoldEntries w back behind
hold-parts v w [] back [] behind h k = (tt, k)
hold-parts v w [] back (e ∷ before) behind h k = absurd h
hold-parts v w (r ∷ front) back [] behind h k = absurd h
hold-parts v w (r ∷ front) back (e ∷ before) behind h k = let rest = hold-parts v w front back before behind h.1 k.1 in ((k.0, rest.0), rest.1)

pub next-there : (between : List Ref) (last : Ref) (back : List Ref) → first_entry (between ++ (last ∷ back)) ≡ None → ⊥
next-there [] last back e = cc
next-there (q ∷ between) last back e = cc

-- the entry that was reached, and the next one
pair-of : (v : View) (n passed last next : Ref) (front between back : List Ref) (c : Version) (before : List Entry) (here : Entry) (inner : List Entry) (there : Entry) (behind : List Entry)
    → IsVersionOf v n (front ++ (passed ∷ (between ++ (last ∷ back)))) (with_entries (before ++ (here ∷ (inner ++ (there ∷ behind)))) c) → HoldEntries v front before → HoldsEntry v passed here → HoldEntries v between inner → HoldsEntry v last there → HoldEntries v back behind
    → first_entry (between ++ (last ∷ back)) ≡ Some next → (rest : List Ref) × (y : Entry) × (tail : List Entry) × HoldPair v n front passed next rest (with_entries (before ++ (here ∷ (inner ++ (there ∷ behind)))) c) before here y tail
pair-of v n passed last next front [] back c before here [] there behind version a b d z k is =
    let same : last ≡ next = cc in (
      back,
      there,
      behind,
      subst (λ q. HoldPair v n front passed q back (with_entries (before ++ (here ∷ there ∷ behind)) c) before here there behind) same
          (record { version = version; is = refl; held_before = a; holds = b; next_holds = z; held_behind = k }),
    )
pair-of v n passed last next front [] back c before here (i ∷ inner) there behind version a b d z k is = absurd d
pair-of v n passed last next front (q ∷ between) back c before here [] there behind version a b d z k is = absurd d
pair-of v n passed last next front (q ∷ between) back c before here (i ∷ inner) there behind version a b d z k is =
    let same : q ≡ next = cc in (
      between ++ (last ∷ back),
      i,
      inner ++ (there ∷ behind),
      subst (λ p. HoldPair v n front passed p (between ++ (last ∷ back)) (with_entries (before ++ (here ∷ (i ∷ inner) ++ (there ∷ behind))) c) before here i (inner ++ (there ∷ behind))) same
          (record { version = version; is = refl; held_before = a; holds = b; next_holds = d.0; held_behind = hold-both v between (last ∷ back) inner (there ∷ behind) d.1 (z, k) }),
    )

pub marking-pair : (v : View) (n passed last next : Ref) (f : Mark → Mark) (all : List Ref) (c : Version) (target : List Entry) (steps : ℕ) → (w : IsMarking v n passed last f all c target steps) → first_entry (w.between ++ (last ∷ w.back)) ≡ Some next
    → (front : List Ref) × (back : List Ref) × (d : Version) × (before : List Entry) × (x : Entry) × (y : Entry) × (behind : List Entry) × HoldPair v n front passed next back d before x y behind
marking-pair v n passed last next f all c target steps w is =
    let p = pair-of v n passed last next w.front w.between w.back c w.before w.here w.inner w.there w.behind (subst (λ l. IsVersionOf v n l (with_entries (w.before ++ (w.here ∷ (w.inner ++ (w.there ∷ w.behind)))) c)) w.all_is w.version) w.held_before w.holds w.held_inner w.last_holds w.held_behind is in
    (w.front, p.0, with_entries (w.before ++ (w.here ∷ (w.inner ++ (w.there ∷ w.behind)))) c, w.before, w.here, p.1, p.2, p.3)

-- what one step does
abbrev pub Marks : View → View → Ref → Ref → Ref → (Mark → Mark) → Type 0
Marks old new n e next f = (front back : List Ref) (c : Version) (before : List Entry) (x y : Entry) (behind : List Entry) → HoldPair old n front e next back c before x y behind →
    HoldPair new n front e next back (with_entries (before ++ (with_mark f x ∷ with_gap (f y.gap) y ∷ behind)) c) before (with_mark f x) (with_gap (f y.gap) y) behind

abbrev pub Keeps : View → View → Ref → Ref → Ref → Type 0
Keeps old new n e next = (front back : List Ref) (c : Version) (before : List Entry) (x y : Entry) (behind : List Entry) → HoldPair old n front e next back c before x y behind → IsKeptBeside (Contains (front ++ (e ∷ next ∷ back))) n old new

pub pair-keeps : (v w : View) (n passed last next : Ref) (f : Mark → Mark) (all : List Ref) (c : Version) (target : List Entry) (steps : ℕ) → (z : IsMarking v n passed last f all c target steps) → first_entry (z.between ++ (last ∷ z.back)) ≡ Some next → Keeps v w n passed next → IsKeptBeside (Contains all) n v w
pair-keeps v w n passed last next f all c target steps z is keeps =
    let p = pair-of v n passed last next z.front z.between z.back c z.before z.here z.inner z.there z.behind (subst (λ l. IsVersionOf v n l (with_entries (z.before ++ (z.here ∷ (z.inner ++ (z.there ∷ z.behind)))) c)) z.all_is z.version) z.held_before z.holds z.held_inner z.last_holds z.held_behind is in
    subst (λ l. IsKeptBeside (Contains l) n v w) (tree-once (tree_of n) v (z.front ++ (passed ∷ next ∷ p.0)) all p.3.version.tree z.version.tree) (keeps z.front p.0 _ z.before z.here p.1 p.2 p.3)

step-of : (v w : View) (n passed last next : Ref) (f : Mark → Mark) (all : List Ref) (c : Version) (target : List Entry) (steps : ℕ) (front between back : List Ref) (before : List Entry) (here : Entry) (inner : List Entry) (there : Entry) (behind : List Entry)
    → all ≡ front ++ (passed ∷ (between ++ (last ∷ back))) → IsVersionOf v n (front ++ (passed ∷ (between ++ (last ∷ back)))) (with_entries (before ++ (here ∷ (inner ++ (there ∷ behind)))) c) → HoldEntries v front before → HoldsEntry v passed here → HoldEntries v between inner → HoldsEntry v last there → HoldEntries v back behind
    → target ≡ before ++ (with_mark f here ∷ (map (with_marks f) inner ++ (with_gap (f there.gap) there ∷ behind))) → steps ≤ length front
    → first_entry (between ++ (last ∷ back)) ≡ Some next → Marks v w n passed next f → (next ≡ last → IsVersionOf w n all (with_entries target c)) × (next ≢ last → IsMarking w n next last f all c target (steps + 1))
step-of v w n passed last next f all c target steps front [] back before here [] there behind all_is version a b d z k goal far is marks =
    let same : last ≡ next = cc in
    let r = marks front back (with_entries (before ++ (here ∷ there ∷ behind)) c) before here there behind (subst (λ q. HoldPair v n front passed q back (with_entries (before ++ (here ∷ there ∷ behind)) c) before here there behind) same (record { version = version; is = refl; held_before = a; holds = b; next_holds = z; held_behind = k })) in (
      (λ e. subst (λ l. IsVersionOf w n l (with_entries target c)) (sym (all_is ∙ ap (λ q. front ++ (passed ∷ q ∷ back)) same)) (subst (λ es. IsVersionOf w n (front ++ (passed ∷ next ∷ back)) (with_entries es c)) (sym goal) r.version)),
      (λ ne. absurd (ne (sym same))),
    )
step-of v w n passed last next f all c target steps front [] back before here (i ∷ inner) there behind all_is version a b d z k goal far is marks = absurd d
step-of v w n passed last next f all c target steps front (q ∷ between) back before here [] there behind all_is version a b d z k goal far is marks = absurd d
step-of v w n passed last next f all c target steps front (q ∷ between) back before here (i ∷ inner) there behind all_is version a b d z k goal far is marks =
    let same : q ≡ next = cc in let rest = between ++ (last ∷ back) in let tail = inner ++ (there ∷ behind) in
    let r = marks front rest (with_entries (before ++ (here ∷ i ∷ tail)) c) before here i tail (subst (λ p. HoldPair v n front passed p rest (with_entries (before ++ (here ∷ i ∷ tail)) c) before here i tail) same (record { version = version; is = refl; held_before = a; holds = b; next_holds = d.0; held_behind = hold-both v between (last ∷ back) inner (there ∷ behind) d.1 (z, k) })) in
    let x' = with_mark f here in let y' = with_gap (f i.gap) i in
    let parts = hold-parts v w between (last ∷ back) inner (there ∷ behind) d.1 r.held_behind in
    let now : all ≡ front ++ (passed ∷ next ∷ rest) = all_is ∙ ap (λ p. front ++ (passed ∷ p ∷ rest)) same in (
      (λ e. absurd (entry-beside v n (front ++ (passed ∷ [])) rest q (subst (IsTree (tree_of n) v) (sym (append_assoc front (passed ∷ []) (q ∷ rest))) version.tree)
          (Contains-append_right (front ++ (passed ∷ [])) rest q (subst (Contains rest) (sym (same ∙ e)) (member-here between back last))))),
      (λ ne. record {
        front = front ++ (passed ∷ []);
        between = between;
        back = back;
        before = before ++ (x' ∷ []);
        here = y';
        inner = inner;
        there = there;
        behind = behind;
        all_is = now ∙ sym (append_assoc front (passed ∷ []) (next ∷ rest));
        version = subst (λ l. IsVersionOf w n l (with_entries ((before ++ (x' ∷ [])) ++ (y' ∷ tail)) c)) (sym now) (subst (λ es. IsVersionOf w n (front ++ (passed ∷ next ∷ rest)) (with_entries es c)) (sym (append_assoc before (x' ∷ []) (y' ∷ tail))) r.version);
        held_before = hold-both w front (passed ∷ []) before (x' ∷ []) r.held_before (r.holds, tt);
        holds = r.next_holds;
        held_inner = parts.0;
        last_holds = parts.1.0;
        held_behind = parts.1.1;
        target_is = goal ∙ sym (append_assoc before (x' ∷ []) (with_mark f y' ∷ (map (with_marks f) inner ++ (with_gap (f there.gap) there ∷ behind))));
        far = omega (arith, far, length-append front (passed ∷ []));
      }),
    )

pub marking-step : (v w : View) (n passed last next : Ref) (f : Mark → Mark) (all : List Ref) (c : Version) (target : List Entry) (steps : ℕ) → (z : IsMarking v n passed last f all c target steps) → first_entry (z.between ++ (last ∷ z.back)) ≡ Some next → Marks v w n passed next f
    → (next ≡ last → IsVersionOf w n all (with_entries target c)) × (next ≢ last → IsMarking w n next last f all c target (steps + 1))
marking-step v w n passed last next f all c target steps z is marks = step-of v w n passed last next f all c target steps z.front z.between z.back z.before z.here z.inner z.there z.behind z.all_is
    (subst (λ l. IsVersionOf v n l (with_entries (z.before ++ (z.here ∷ (z.inner ++ (z.there ∷ z.behind)))) c)) z.all_is z.version) z.held_before z.holds z.held_inner z.last_holds z.held_behind z.target_is z.far is marks

-- where the walk is
pub marking-at : (v : View) (n passed last : Ref) (f : Mark → Mark) (all : List Ref) (c : Version) (target : List Entry) (steps : ℕ) → (w : IsMarking v n passed last f all c target steps) → IsTree (tree_of n) v (w.front ++ (passed ∷ (w.between ++ (last ∷ w.back))))
marking-at v n passed last f all c target steps w = subst (IsTree (tree_of n) v) w.all_is w.version.tree

-- it comes to its end before all entries are passed
pub marking-ends : (v : View) (n passed last : Ref) (f : Mark → Mark) (all : List Ref) (c : Version) (target : List Entry) (steps : ℕ) → IsMarking v n passed last f all c target steps → steps < length all
marking-ends v n passed last f all c target steps w = omega (arith, w.far, ap length w.all_is, length-append w.front (passed ∷ (w.between ++ (last ∷ w.back))))

pub marking-few : (v : View) (n passed last : Ref) (f : Mark → Mark) (all : List Ref) (c : Version) (target : List Entry) (steps : ℕ) → IsWell v → IsSummed v → IsMarking v n passed last f all c target steps → length all ≤ objects v
marking-few v n passed last f all c target steps well summed w = tree-few (tree_of n) v well summed all w.version.tree
