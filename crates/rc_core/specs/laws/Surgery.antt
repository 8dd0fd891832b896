-- Entries and versions put in, changed and taken out, over lists of a front, what is spoken of, and a back.
use Rattle.std.specs.Prelude.{◌≡◌, ◌&&◌, Bool, true, false, List, [], ◌∷◌, ◌++◌, Option, None, cond, length, map as list_map}
use Rattle.std.proofs.Common.{refl, sym, ap, ◌∙◌, subst}
use Rattle.std.proofs.lemmas.List.{append_assoc}
use Rattle.std.specs.declared.cmp.Ordering.{Ordering}
use Rattle.std.specs.declared.cmp.Ordering.TheVariants.{Less, Greater}
use Rattle.std.specs.Cmp.{tied_itself}
use Rattle.std.specs.Ordering.{is_lt, is_le, is_eq, eq_by_cmp}
use Rattle.rc_cell.specs.declared.writes.Tomb.{Tomb}
use Rattle.rc_position.specs.declared.positions.Pos.{Pos}
use Rattle.rc_position.specs.Position.{pos_cmp, IsBefore}
use Rattle.rc_position.specs.laws.Orders.{pos_cmp_total}
use Rattle.rc_core.specs.declared.entries.Entry.{Entry}
use Rattle.rc_core.specs.declared.entries.Flag.{Flag}
use Rattle.rc_core.specs.declared.entries.Mark.{Mark}
use Rattle.rc_core.specs.AtPlace.{EachEntry}
use Rattle.rc_core.specs.Change.{at_entry, change, dummy, entry_changed, gap_split, lose_last_gap, split_by, with_gap, with_mark, with_marks, without_gap}
use Rattle.rc_core.specs.Continuity.{EachOf, with_entries}
use Rattle.rc_core.specs.Steps.{on_version, set_flags, set_tombs, with_flags, with_tombs}
use Rattle.rc_core.specs.Version.{Ascend, Behind, On, Spot, Version, IsVersion, entry_answers, gap_ordering, finding_of, finding_in, spot_cmp}
use Rattle.rc_core.specs.laws.Losing.{map-append}
use Rattle.rc_core.specs.laws.Order.{ascend-map, ends-map, put_position}
use Rattle.rc_core.specs.laws.Placed.{each-wider}
use Rattle.rc_core.specs.laws.Spots.{ahead, ascend-tail, ascend-back, turn_to}

-- ---- in front and behind

pub front-below : (front : List Entry) (e : Entry) (back : List Entry) → Ascend (front ++ e ∷ back) → EachEntry (λ f. IsBefore f.position e.position) front
front-below [] e back a = tt
front-below (f ∷ fs) e back a = (ahead f fs e back a, front-below fs e back (ascend-tail f (fs ++ e ∷ back) a))

above_first : (e : Entry) (back : List Entry) → Ascend (e ∷ back) → EachEntry (λ f. IsBefore e.position f.position) back
above_first e [] a = tt
above_first e (f ∷ fs) a = (a.0, each-wider (λ g. IsBefore f.position g.position) (λ g. IsBefore e.position g.position) (λ g l. pos_cmp_total.trans e.position f.position g.position a.0 l) fs (above_first f fs a.1))

pub back-above : (front : List Entry) (e : Entry) (back : List Entry) → Ascend (front ++ e ∷ back) → EachEntry (λ f. IsBefore e.position f.position) back
back-above front e back a = above_first e back (ascend-back front (e ∷ back) a)

pub each-both : (P : Entry → Type 0) (front back : List Entry) → EachEntry P front → EachEntry P back → EachEntry P (front ++ back)
each-both P [] back f b = b
each-both P (e ∷ es) back f b = (f.0, each-both P es back f.1 b)

pub each-front : (P : Entry → Type 0) (front back : List Entry) → EachEntry P (front ++ back) → EachEntry P front
each-front P [] back h = tt
each-front P (e ∷ es) back h = (h.0, each-front P es back h.1)

pub each-back : (P : Entry → Type 0) (front back : List Entry) → EachEntry P (front ++ back) → EachEntry P back
each-back P [] back h = h
each-back P (e ∷ es) back h = each-back P es back h.1

pub each-of-both : (P : Version → Type 0) (front back : List Version) → EachOf P front → EachOf P back → EachOf P (front ++ back)
each-of-both P [] back f b = b
each-of-both P (v ∷ vs) back f b = (f.0, each-of-both P vs back f.1 b)

pub each-of-front : (P : Version → Type 0) (front back : List Version) → EachOf P (front ++ back) → EachOf P front
each-of-front P [] back h = tt
each-of-front P (v ∷ vs) back h = (h.0, each-of-front P vs back h.1)

pub each-of-back : (P : Version → Type 0) (front back : List Version) → EachOf P (front ++ back) → EachOf P back
each-of-back P [] back h = h
each-of-back P (v ∷ vs) back h = each-of-back P vs back h.1

-- ---- a split

pub split-in-gap : (x : Pos) (front : List Entry) (e : Entry) (back : List Entry) → EachEntry (λ f. IsBefore f.position x) front → IsBefore x e.position → gap_split x (front ++ e ∷ back) ≡ front ++ dummy x e.gap ∷ e ∷ back
split-in-gap x [] e back b l = ap (λ r. split_by r x e back (gap_split x back)) l
split-in-gap x (f ∷ fs) e back b l =
    ap (λ r. split_by r x f (fs ++ e ∷ back) (gap_split x (fs ++ e ∷ back))) (turn_to f.position x Less b.0)
    ∙ ap (λ es. f ∷ es) (split-in-gap x fs e back b.1 l)

split_below : (front : List Entry) (e : Entry) (back : List Entry) → EachEntry (λ f. IsBefore f.position e.position) front → gap_split e.position (front ++ e ∷ back) ≡ front ++ e ∷ back
split_below [] e back b = ap (λ r. split_by r e.position e back (gap_split e.position back)) (tied_itself pos_cmp_total e.position)
split_below (f ∷ fs) e back b =
    ap (λ r. split_by r e.position f (fs ++ e ∷ back) (gap_split e.position (fs ++ e ∷ back))) (turn_to f.position e.position Less b.0)
    ∙ ap (λ es. f ∷ es) (split_below fs e back b.1)

pub split-at-entry : (front : List Entry) (e : Entry) (back : List Entry) → Ascend (front ++ e ∷ back) → gap_split e.position (front ++ e ∷ back) ≡ front ++ e ∷ back
split-at-entry front e back a = split_below front e back (front-below front e back a)

-- ---- the entry at a position

map_stays : (g : Entry → Entry) (es : List Entry) → EachEntry (λ e. g e ≡ e) es → list_map g es ≡ es
map_stays g [] h = refl
map_stays g (e ∷ es) h = λ i. h.0 i ∷ map_stays g es h.1 i

map_same : (g k : Entry → Entry) (es : List Entry) → EachEntry (λ e. g e ≡ k e) es → list_map g es ≡ list_map k es
map_same g k [] h = refl
map_same g k (e ∷ es) h = λ i. h.0 i ∷ map_same g k es h.1 i

pub entry-at : (front : List Entry) (e : Entry) (back : List Entry) (g : Entry → Entry) → Ascend (front ++ e ∷ back) → at_entry e.position g (front ++ e ∷ back) ≡ front ++ g e ∷ back
entry-at front e back g a =
    map-append there front e back
    ∙ (λ i. map_stays there front below i ++ cond (is_eq (tied_itself pos_cmp_total e.position i)) (g e) e ∷ map_stays there back above i)
  where
    there : Entry → Entry
    there y = cond (eq_by_cmp pos_cmp e.position y.position) (g y) y

    below : EachEntry (λ y. there y ≡ y) front
    below = each-wider (λ y. IsBefore y.position e.position) (λ y. there y ≡ y) (λ y l. ap (λ r. cond (is_eq r) (g y) y) (turn_to y.position e.position Less l)) front (front-below front e back a)

    above : EachEntry (λ y. there y ≡ y) back
    above = each-wider (λ y. IsBefore e.position y.position) (λ y. there y ≡ y) (λ y l. ap (λ r. cond (is_eq r) (g y) y) l) back (back-above front e back a)

-- ---- what is seen at an entry, and right behind it

not_answered : (s : Spot) (front rest : List Entry) → EachEntry (λ f. spot_cmp s f.position ≡ Greater) front → finding_in s (front ++ rest) ≡ finding_in s rest
not_answered s [] rest b = refl
not_answered s (f ∷ fs) rest b = ap (λ r. entry_answers r f (finding_in s (fs ++ rest))) b.0 ∙ not_answered s fs rest b.1

pub seen-on : (front : List Entry) (e : Entry) (back : List Entry) → Ascend (front ++ e ∷ back) → finding_in (On e.position) (front ++ e ∷ back) ≡ finding_of e.at e.row
seen-on front e back a =
    not_answered (On e.position) front (e ∷ back) (each-wider (λ f. IsBefore f.position e.position) (λ f. pos_cmp e.position f.position ≡ Greater) (λ f l. turn_to f.position e.position Less l) front (front-below front e back a))
    ∙ ap (λ r. entry_answers r e (finding_in (On e.position) back)) (tied_itself pos_cmp_total e.position)

pub seen-behind : (front : List Entry) (e n : Entry) (back : List Entry) → Ascend (front ++ e ∷ n ∷ back) → finding_in (Behind e.position) (front ++ e ∷ n ∷ back) ≡ finding_of n.gap None
seen-behind front e n back a =
    not_answered (Behind e.position) front (e ∷ n ∷ back) (each-wider (λ f. IsBefore f.position e.position) (λ f. gap_ordering (pos_cmp e.position f.position) ≡ Greater) (λ f l. ap gap_ordering (turn_to f.position e.position Less l)) front (front-below front e (n ∷ back) a))
    ∙ ap (λ r. entry_answers (gap_ordering r) e (finding_in (Behind e.position) (n ∷ back))) (tied_itself pos_cmp_total e.position)
    ∙ ap (λ r. entry_answers (gap_ordering r) n (finding_in (Behind e.position) back)) (ascend-back front (e ∷ n ∷ back) a).0

-- ---- a change over a stretch

-- by where an entry stands against both ends
abbrev changed_by : (Mark → Mark) → Ordering → Ordering → Entry → Entry
changed_by f r q y = record { position = y.position; row = y.row; at = cond (is_le r && is_lt q) (f y.at) y.at; gap = cond (is_lt r && is_le q) (f y.gap) y.gap }

in_front : (f : Mark → Mark) (q : Ordering) (y : Entry) (r : Ordering) → r ≡ Greater → changed_by f r q y ≡ y
in_front f q y r e = ap (λ o. changed_by f o q y) e

pub change-over : (f : Mark → Mark) (front : List Entry) (a : Entry) (mid : List Entry) (z : Entry) (back : List Entry) → Ascend (front ++ a ∷ (mid ++ z ∷ back)) →
    change f a.position z.position (front ++ a ∷ (mid ++ z ∷ back)) ≡ front ++ with_mark f a ∷ (list_map (with_marks f) mid ++ with_gap (f z.gap) z ∷ back)
change-over f front a mid z back asc =
    ap (λ es. list_map here (gap_split z.position es)) (split-at-entry front a (mid ++ z ∷ back) asc)
    ∙ ap (list_map here) split_again
    ∙ map-append here front a (mid ++ z ∷ back)
    ∙ (λ i. map_stays here front at_front i ++ at_a i ∷ (map-append here mid z back ∙ (λ j. map_same here (with_marks f) mid at_mid j ++ at_z j ∷ map_stays here back at_back j)) i)
  where
    here : Entry → Entry
    here = entry_changed f a.position z.position

    rejoined : (front ++ a ∷ mid) ++ z ∷ back ≡ front ++ a ∷ (mid ++ z ∷ back)
    rejoined = append_assoc front (a ∷ mid) (z ∷ back)

    asc_z : Ascend ((front ++ a ∷ mid) ++ z ∷ back)
    asc_z = subst Ascend (sym rejoined) asc

    split_again : gap_split z.position (front ++ a ∷ (mid ++ z ∷ back)) ≡ front ++ a ∷ (mid ++ z ∷ back)
    split_again = subst (λ es. gap_split z.position es ≡ es) rejoined (split-at-entry (front ++ a ∷ mid) z back asc_z)

    -- what stands before the end of the stretch
    before_z : EachEntry (λ y. IsBefore y.position z.position) (front ++ a ∷ mid)
    before_z = front-below (front ++ a ∷ mid) z back asc_z

    -- what stands behind its beginning
    behind_a : EachEntry (λ y. IsBefore a.position y.position) (mid ++ z ∷ back)
    behind_a = back-above front a (mid ++ z ∷ back) asc

    at_front : EachEntry (λ y. here y ≡ y) front
    at_front = each-wider (λ y. IsBefore y.position a.position) (λ y. here y ≡ y) (λ y l. in_front f (pos_cmp y.position z.position) y (pos_cmp a.position y.position) (turn_to y.position a.position Less l)) front (front-below front a (mid ++ z ∷ back) asc)

    a_before_z : pos_cmp a.position z.position ≡ Less
    a_before_z = (each-back (λ y. IsBefore y.position z.position) front (a ∷ mid) before_z).0

    at_a : here a ≡ with_mark f a
    at_a = λ i. changed_by f (tied_itself pos_cmp_total a.position i) (a_before_z i) a

    mid_marked : (es : List Entry) → EachEntry (λ y. IsBefore a.position y.position) es → EachEntry (λ y. IsBefore y.position z.position) es → EachEntry (λ y. here y ≡ with_marks f y) es
    mid_marked [] p q = tt
    mid_marked (y ∷ ys) p q = ((λ i. changed_by f (p.0 i) (q.0 i) y), mid_marked ys p.1 q.1)

    at_mid : EachEntry (λ y. here y ≡ with_marks f y) mid
    at_mid = mid_marked mid (each-front (λ y. IsBefore a.position y.position) mid (z ∷ back) behind_a) (each-back (λ y. IsBefore y.position z.position) front (a ∷ mid) before_z).1

    at_z : here z ≡ with_gap (f z.gap) z
    at_z = λ i. changed_by f (a_before_z i) (tied_itself pos_cmp_total z.position i) z

    back_stays : (es : List Entry) → EachEntry (λ y. IsBefore a.position y.position) es → EachEntry (λ y. IsBefore z.position y.position) es → EachEntry (λ y. here y ≡ y) es
    back_stays [] p q = tt
    back_stays (y ∷ ys) p q = ((λ i. changed_by f (p.0 i) (turn_to z.position y.position Less q.0 i) y), back_stays ys p.1 q.1)

    at_back : EachEntry (λ y. here y ≡ y) back
    at_back = back_stays back (each-back (λ y. IsBefore a.position y.position) mid (z ∷ back) behind_a).1 (back-above (front ++ a ∷ mid) z back asc_z)

-- ---- the last gap, and one version

pub last-gap-lost : (front : List Entry) (e : Entry) → lose_last_gap (front ++ e ∷ []) ≡ front ++ without_gap e ∷ []
last-gap-lost [] e = refl
last-gap-lost (f ∷ []) e = refl
last-gap-lost (f ∷ g ∷ fs) e = ap (λ es. f ∷ es) (last-gap-lost (g ∷ fs) e)

pub version-at : (front : List Version) (v : Version) (back : List Version) (g : Version → Version) → on_version (length front) g (front ++ v ∷ back) ≡ front ++ g v ∷ back
version-at [] v back g = refl
version-at (f ∷ fs) v back g = ap (λ vs. f ∷ vs) (version-at fs v back g)

-- ---- flags and tombstones that are set

module _ (x : Pos) (g : Entry → Entry) (same : (e : Entry) → (g e).position ≡ e.position) (row : (e : Entry) → (g e).row ≡ e.row) where
  abbrev there : Entry → Entry
  there e = cond (eq_by_cmp pos_cmp x e.position) (g e) e

  there_row : (b : Bool) (e : Entry) → (cond b (g e) e).row ≡ e.row
  there_row true e = row e
  there_row false e = refl

  set-is : (v : Version) → IsVersion v → IsVersion (with_entries (at_entry x g v.entries) v)
  set-is v i = record {
    ascend = ascend-map there (λ e. put_position (eq_by_cmp pos_cmp x e.position) (g e) e (same e)) v.entries i.ascend;
    ends = ends-map there (λ e. put_position (eq_by_cmp pos_cmp x e.position) (g e) e (same e)) (λ e _. there_row (eq_by_cmp pos_cmp x e.position) e) v.entries i.ends;
  }

pub set_flags-is : (x : Pos) (at gap : Flag) (v : Version) → IsVersion v → IsVersion (set_flags x at gap v)
set_flags-is x at gap v i = set-is x (with_flags at gap) (λ _. refl) (λ _. refl) v i

pub set_tombs-is : (x : Pos) (at gap : Option Tomb) (v : Version) → IsVersion v → IsVersion (set_tombs x at gap v)
set_tombs-is x at gap v i = set-is x (with_tombs at gap) (λ _. refl) (λ _. refl) v i
