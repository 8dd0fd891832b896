-- What the cleaner does to what is seen: nothing; and what an update's fragment joins.
use Rattle.std.specs.Prelude.{◌≡◌, List, [], ◌∷◌, ◌++◌, Option, Some, None, map as list_map}
use Rattle.std.proofs.Common.{refl, sym, ap, ◌∙◌, subst, ⊎_elim}
use Rattle.std.proofs.lemmas.List.{append_assoc}
use Rattle.std.proofs.lemmas.List as lists
use Rattle.std.proofs.lemmas.List.Elements.{filter_map-append, filter-append}
use Rattle.std.specs.Ordering.{eq_by_cmp}
use Rattle.std.specs.declared.cmp.Ordering.{Ordering}
use Rattle.std.specs.declared.cmp.Ordering.TheVariants.{Less, Equal, Greater}
use Rattle.std.specs.Option.{option_to_list}
use Rattle.std.specs.List.{filter, cons_option}
use Rattle.rc_cell.specs.declared.rows.Row.{Row}
use Rattle.rc_cell.specs.declared.writes.Tomb.{Tomb}
use Rattle.rc_cell.specs.Orders.{tomb_cmp, tomb_cmp_total}
use Rattle.rc_cell.specs.laws.Beats.{tomb_cmp-IsAntisymmetric}
use Rattle.rc_cell.specs.laws.Greatest.{greatest-append}
use Rattle.rc_cell.specs.laws.{joined_row-append}
use Rattle.rc_cell.specs.Winner.{greatest, joined_row}
use Rattle.rc_position.specs.declared.positions.Pos.{Pos}
use Rattle.rc_position.specs.Position.{Place, pos_cmp, row_pos, covers}
use Rattle.rc_mutation.specs.Piece.{Piece}
use Rattle.rc_mutation.specs.Cover.{cover, tombs_over}
use Rattle.rc_mutation.specs.declared.mutations.Mutation.{Mutation}
use Rattle.rc_mutation.specs.Source.{source_at, source_at_static, static_rows, rows_in, all_rows, all_pieces}
use Rattle.rc_mutation.specs.laws.Sources.{static_rows-append, all_rows-append, all_pieces-append}
use Rattle.rc_core.specs.declared.entries.ChainKind.{ChainKind}
use Rattle.rc_core.specs.declared.entries.ChainKind.TheVariants.{Cache}
use Rattle.rc_core.specs.declared.entries.Flag.{Flag}
use Rattle.rc_core.specs.declared.entries.Flag.TheVariants.{Known, Unknown, Inherit}
use Rattle.rc_core.specs.SpotState.{SpotState, spot_state, silent, over, under, through, joined_state}
use Rattle.rc_core.specs.Version.{Spot, On, Behind, Version, state_at, static_state, state_of, entry_answers, finding_of, spot_cmp, end_position}
use Rattle.rc_core.specs.Change.{dummy, mark}
use Rattle.rc_core.specs.Chain.{has_flag, content, states_at, flag_over, IsBare, IsKnown, IsEvenAt}
use Rattle.rc_core.specs.Continuity.{static_states, version_tombs, HoldNoMore, IsContinuous}
use Rattle.rc_core.specs.Merge.{Alike, IsSeenAlike, IsPutDown, IsMerged, IsSilent, new_version}
use Rattle.rc_core.specs.laws.Folding.{flagged-through, content-through, through-append, under-above, under-below, under-grouping}
use Rattle.rc_core.specs.laws.Losing.{map-append, tomb-alone}

greatest_both : (xs ys : List Tomb) → greatest tomb_cmp (xs ++ ys) ≡ greatest tomb_cmp (option_to_list (greatest tomb_cmp xs) ++ option_to_list (greatest tomb_cmp ys))
greatest_both = greatest-append tomb_cmp_total tomb_cmp-IsAntisymmetric

-- what is said of lists put together depends on what each says
pub rows_by_parts : (xs ys us vs : List Row) → joined_row xs ≡ joined_row us → joined_row ys ≡ joined_row vs → joined_row (xs ++ ys) ≡ joined_row (us ++ vs)
rows_by_parts xs ys us vs e f = joined_row-append xs ys ∙ (λ i. joined_row (e i ∷ f i ∷ [])) ∙ sym (joined_row-append us vs)

pub tombs_by_parts : (xs ys us vs : List Tomb) → greatest tomb_cmp xs ≡ greatest tomb_cmp us → greatest tomb_cmp ys ≡ greatest tomb_cmp vs → greatest tomb_cmp (xs ++ ys) ≡ greatest tomb_cmp (us ++ vs)
tombs_by_parts xs ys us vs e f = greatest_both xs ys ∙ (λ i. greatest tomb_cmp (option_to_list (e i) ++ option_to_list (f i))) ∙ sym (greatest_both us vs)

said_parts : (c d : SpotState) (rs : List Row) (ts : List Tomb) → joined_state c ≡ joined_state d → joined_state (spot_state c.flag (c.rows ++ rs) (c.tombs ++ ts)) ≡ joined_state (spot_state d.flag (d.rows ++ rs) (d.tombs ++ ts))
said_parts c d rs ts e = λ i. (rows_by_parts c.rows rs d.rows rs (ap (λ (a : Row × Option Tomb). a.0) e) refl i, tombs_by_parts c.tombs ts d.tombs ts (ap (λ (a : Row × Option Tomb). a.1) e) refl i)

alike_above_by : (f : Flag) (c d n : SpotState) → Alike c d → Alike (over f c n) (over f d n)
alike_above_by Known c d n h = (refl, refl)
alike_above_by Unknown c d n h = (refl, refl)
alike_above_by Inherit c d n h = (h.0, said_parts c d n.rows n.tombs h.1)

pub alike-above : (c d n : SpotState) → Alike c d → Alike (under c n) (under d n)
alike-above c d n h = alike_above_by n.flag c d n h

alike_below_by : (f : Flag) (o c d : SpotState) → Alike c d → Alike (over f o c) (over f o d)
alike_below_by Known o c d h = h
alike_below_by Unknown o c d h = h
alike_below_by Inherit o c d h = (refl, λ i. (rows_by_parts o.rows c.rows o.rows d.rows refl (ap (λ (a : Row × Option Tomb). a.0) h.1) i, tombs_by_parts o.tombs c.tombs o.tombs d.tombs refl (ap (λ (a : Row × Option Tomb). a.1) h.1) i))

alike-below : (o c d : SpotState) → Alike c d → Alike (under o c) (under o d)
alike-below o c d h = subst (λ g. Alike (over c.flag o c) (over g o d)) h.0 (alike_below_by c.flag o c d h)

-- ---- a unit of merging

pub put_down-seen : (older newer : List SpotState) (a b c d : SpotState) → IsPutDown a b c d → Alike (through (older ++ c ∷ d ∷ newer)) (through (older ++ a ∷ b ∷ newer))
put_down-seen [] newer a b c d h = ⊎_elim
    (λ e. (ap (λ (k : SpotState). k.flag) (same e), ap joined_state (same e)))
    (λ e. subst (λ (k : SpotState). Alike k (under a (under b (through newer)))) (sym (ap (λ x. under x (under d (through newer))) e.0 ∙ under-below (under d (through newer))))
    (subst (λ (k : SpotState). Alike (under d (through newer)) k) (under-grouping a b (through newer)) (alike-above d (under a b) (through newer) e.1)))
    h
  where
    same : (c ≡ a) × (d ≡ b) → under c (under d (through newer)) ≡ under a (under b (through newer))
    same e = λ i. under (e.0 i) (under (e.1 i) (through newer))
put_down-seen (o ∷ os) newer a b c d h = alike-below o (through (os ++ c ∷ d ∷ newer)) (through (os ++ a ∷ b ∷ newer)) (put_down-seen os newer a b c d h)

pub silent-seen : (older newer : List SpotState) → through (older ++ silent ∷ newer) ≡ through (older ++ newer)
silent-seen [] newer = under-below (through newer)
silent-seen (o ∷ os) newer = ap (under o) (silent-seen os newer)

map-two : (f : Version → SpotState) (older newer : List Version) (v w : Version) → list_map f (older ++ v ∷ w ∷ newer) ≡ list_map f older ++ f v ∷ f w ∷ list_map f newer
map-two f older newer v w = map-append f older v (w ∷ newer)

merged_at : (f : Version → SpotState) (older newer : List Version) (a b c d : Version) → IsPutDown (f a) (f b) (f c) (f d) → Alike (through (list_map f (older ++ c ∷ d ∷ newer))) (through (list_map f (older ++ a ∷ b ∷ newer)))
merged_at f older newer a b c d h =
    subst (λ (k : List SpotState). Alike (through k) (through (list_map f (older ++ a ∷ b ∷ newer)))) (sym (map-two f older newer c d))
    (subst (λ (k : List SpotState). Alike (through (list_map f older ++ f c ∷ f d ∷ list_map f newer)) (through k)) (sym (map-two f older newer a b))
    (put_down-seen (list_map f older) (list_map f newer) (f a) (f b) (f c) (f d) h))

pub cons_is : (t : Option Tomb) (ts : List Tomb) → cons_option t ts ≡ option_to_list t ++ ts
cons_is None ts = refl
cons_is (Some x) ts = refl

pts_two : (older newer : List Version) (v w : Version) → version_tombs (older ++ v ∷ w ∷ newer) ≡ version_tombs older ++ ((option_to_list v.pt ++ option_to_list w.pt) ++ version_tombs newer)
pts_two older newer v w =
    filter_map-append (λ (x : Version). x.pt) older (v ∷ w ∷ newer)
    ∙ ap (λ ts. version_tombs older ++ ts) (cons_is v.pt (cons_option w.pt (version_tombs newer)) ∙ ap (λ ts. option_to_list v.pt ++ ts) (cons_is w.pt (version_tombs newer)) ∙ sym (append_assoc (option_to_list v.pt) (option_to_list w.pt) (version_tombs newer)))

pub pts_one : (older newer : List Version) (w : Version) → version_tombs (older ++ w ∷ newer) ≡ version_tombs older ++ (option_to_list w.pt ++ version_tombs newer)
pts_one older newer w = filter_map-append (λ (x : Version). x.pt) older (w ∷ newer) ∙ ap (λ ts. version_tombs older ++ ts) (cons_is w.pt (version_tombs newer))

around : (front back xs ys : List Tomb) → greatest tomb_cmp xs ≡ greatest tomb_cmp ys → greatest tomb_cmp (front ++ (xs ++ back)) ≡ greatest tomb_cmp (front ++ (ys ++ back))
around front back xs ys e = tombs_by_parts front (xs ++ back) front (ys ++ back) refl (tombs_by_parts xs back ys back e refl)

pub merged-seen : (older newer : List Version) (a b c d : Version) → IsMerged a b c d → IsSeenAlike (older ++ a ∷ b ∷ newer) (older ++ c ∷ d ∷ newer)
merged-seen older newer a b c d h = record {
  statics = merged_at static_state older newer a b c d h.statics;
  clustered = λ s. merged_at (state_at s) older newer a b c d (h.clustered s);
  head = ap (greatest tomb_cmp) (pts_two older newer c d)
      ∙ around (version_tombs older) (version_tombs newer) (option_to_list c.pt ++ option_to_list d.pt) (option_to_list a.pt ++ option_to_list b.pt) h.head
      ∙ sym (ap (greatest tomb_cmp) (pts_two older newer a b));
}

dropped_at : (f : Version → SpotState) (older newer : List Version) (v : Version) → f v ≡ silent → through (list_map f (older ++ newer)) ≡ through (list_map f (older ++ v ∷ newer))
dropped_at f older newer v e =
    ap through (lists.map-append f older newer) ∙ sym (silent-seen (list_map f older) (list_map f newer)) ∙ ap (λ c. through (list_map f older ++ c ∷ list_map f newer)) (sym e) ∙ sym (ap through (map-append f older v newer))

pub equal_alike : (c d : SpotState) → c ≡ d → Alike c d
equal_alike c d e = (ap (λ (k : SpotState). k.flag) e, ap joined_state e)

pub dropped-seen : (older newer : List Version) (v w : Version) → IsSilent v → greatest tomb_cmp (option_to_list v.pt ++ option_to_list w.pt) ≡ greatest tomb_cmp (option_to_list w.pt) →
    IsSeenAlike (older ++ v ∷ w ∷ newer) (older ++ w ∷ newer)
dropped-seen older newer v w h t = record {
  statics = equal_alike _ _ (dropped_at static_state older (w ∷ newer) v h.statics);
  clustered = λ s. equal_alike _ _ (dropped_at (state_at s) older (w ∷ newer) v (h.clustered s));
  head = ap (greatest tomb_cmp) (pts_one older newer w)
      ∙ around (version_tombs older) (version_tombs newer) (option_to_list w.pt) (option_to_list v.pt ++ option_to_list w.pt) (sym t)
      ∙ sym (ap (greatest tomb_cmp) (pts_two older newer v w));
}

silent_end : (r : Ordering) → state_of (entry_answers r (dummy end_position (mark Inherit None)) (finding_of (mark Inherit None) None)) ≡ silent
silent_end Less = refl
silent_end Equal = refl
silent_end Greater = refl

pub new-silent : (pt : Option Tomb) (phase : _) → IsSilent (new_version pt phase)
new-silent pt phase = record { statics = refl; clustered = λ s. silent_end (spot_cmp s end_position) }

-- ---- seen alike keeps continuity

alike-flagged : (kind : ChainKind) (before now : List SpotState) → Alike (through now) (through before) → has_flag kind now ≡ has_flag kind before
alike-flagged kind before now h = flagged-through kind now ∙ ap (flag_over kind) h.0 ∙ sym (flagged-through kind before)

alike-content : (before now : List SpotState) → Alike (through now) (through before) → content now ≡ content before
alike-content before now h = content-through now ∙ h.1 ∙ sym (content-through before)

pub alike-even : (kind : ChainKind) (before now : List Version) (x : Pos) → IsSeenAlike before now → IsEvenAt kind before x → IsEvenAt kind now x
alike-even kind before now x h even bare known =
    let on = alike-content (states_at (On x) before) (states_at (On x) now) (h.clustered (On x)) in
    let gap = alike-content (states_at (Behind x) before) (states_at (Behind x) now) (h.clustered (Behind x)) in
    let was_bare : IsBare before x = record { inside = bare.inside; no_row = ap (λ (a : Row × Option Tomb). a.0) (sym on) ∙ bare.no_row } in
    ap (λ (a : Row × Option Tomb). a.1) on
    ∙ even was_bare (record {
      at = sym (alike-flagged kind (states_at (On x) before) (states_at (On x) now) (h.clustered (On x))) ∙ known.at;
      gap = λ _. sym (alike-flagged kind (states_at (Behind x) before) (states_at (Behind x) now) (h.clustered (Behind x))) ∙ known.gap bare;
    })
    ∙ ap (λ (a : Row × Option Tomb). a.1) (sym gap)

pub alike-known : (kind : ChainKind) (before now : List Version) (x : Pos) → IsSeenAlike before now → IsKnown kind before x → IsKnown kind now x
alike-known kind before now x h known = record {
  at = alike-flagged kind (states_at (On x) before) (states_at (On x) now) (h.clustered (On x)) ∙ known.at;
  gap = λ bare. alike-flagged kind (states_at (Behind x) before) (states_at (Behind x) now) (h.clustered (Behind x))
      ∙ known.gap (record { inside = bare.inside; no_row = ap (λ (a : Row × Option Tomb). a.0) (sym (alike-content (states_at (On x) before) (states_at (On x) now) (h.clustered (On x)))) ∙ bare.no_row });
}

pub alike-seen : (before now : List Version) (s : Spot) → IsSeenAlike before now → content (states_at s now) ≡ content (states_at s before)
alike-seen before now s h = alike-content (states_at s before) (states_at s now) (h.clustered s)

pub alike-continuous : (reach : Option Place) (writes : List Mutation) (before now : List Version) → IsSeenAlike before now → HoldNoMore writes now → IsContinuous reach writes before → IsContinuous reach writes now
alike-continuous reach writes before now h within k = record {
  within = within;
  statics = λ r f. alike-content (static_states before) (static_states now) h.statics ∙ k.statics r (sym (alike-flagged Cache (static_states before) (static_states now) h.statics) ∙ f);
  clustered = λ x r f. alike-content (states_at (On x) before) (states_at (On x) now) (h.clustered (On x)) ∙ k.clustered x r (sym (alike-flagged Cache (states_at (On x) before) (states_at (On x) now) (h.clustered (On x))) ∙ f);
  head = λ r. h.head ∙ k.head r;
  even = λ x r. alike-even Cache before now x h (k.even x r);
}

-- ---- what an update's fragments join

pub joins_on_top : (cs : List SpotState) (rs : List Row) (ts : List Tomb) → through (cs ++ spot_state Inherit rs ts ∷ []) ≡ spot_state (through cs).flag ((through cs).rows ++ rs) ((through cs).tombs ++ ts)
joins_on_top cs rs ts = through-append cs (spot_state Inherit rs ts ∷ []) ∙ ap (under (through cs)) (under-above (spot_state Inherit rs ts))

pub update-flagged : (kind : ChainKind) (cs : List SpotState) (rs : List Row) (ts : List Tomb) → has_flag kind (cs ++ spot_state Inherit rs ts ∷ []) ≡ has_flag kind cs
update-flagged kind cs rs ts = flagged-through kind (cs ++ spot_state Inherit rs ts ∷ []) ∙ ap (λ (k : SpotState). flag_over kind k.flag) (joins_on_top cs rs ts) ∙ sym (flagged-through kind cs)

pub rows_in-append : (x : Pos) (xs ys : _) → rows_in x (xs ++ ys) ≡ rows_in x xs ++ rows_in x ys
rows_in-append x xs ys = ap (list_map (λ e. e.1)) (filter-append (λ e. eq_by_cmp pos_cmp x (row_pos e.0)) xs ys) ∙ lists.map-append (λ e. e.1) (filter (λ e. eq_by_cmp pos_cmp x (row_pos e.0)) xs) (filter (λ e. eq_by_cmp pos_cmp x (row_pos e.0)) ys)

pub over-append : (x : Pos) (xs ys : List Piece) → tombs_over (xs ++ ys) x ≡ tombs_over xs x ++ tombs_over ys x
over-append x xs ys = ap (list_map (λ (p : Piece). p.tomb)) (filter-append (λ (p : Piece). covers p.from p.to x) xs ys) ∙ lists.map-append (λ (p : Piece). p.tomb) (filter (λ (p : Piece). covers p.from p.to x) xs) (filter (λ (p : Piece). covers p.from p.to x) ys)

-- the source of writes and one more, by what each says
pub source-more : (writes : List Mutation) (change : Mutation) (x : Pos) → source_at (writes ++ change ∷ []) x ≡
    (joined_row (rows_in x (all_rows writes) ++ rows_in x (all_rows (change ∷ []))), greatest tomb_cmp (tombs_over (all_pieces writes) x ++ tombs_over (all_pieces (change ∷ [])) x))
unfolding cover
source-more writes change x = λ i. (
  joined_row ((ap (rows_in x) (all_rows-append writes (change ∷ [])) ∙ rows_in-append x (all_rows writes) (all_rows (change ∷ []))) i),
  greatest tomb_cmp ((ap (λ ps. tombs_over ps x) (all_pieces-append writes (change ∷ [])) ∙ over-append x (all_pieces writes) (all_pieces (change ∷ []))) i),
)

pub update-content : (writes : List Mutation) (change : Mutation) (x : Pos) (cs : List SpotState) (rs : List Row) (ts : List Tomb) →
    content cs ≡ source_at writes x → (joined_row rs, greatest tomb_cmp ts) ≡ source_at (change ∷ []) x → content (cs ++ spot_state Inherit rs ts ∷ []) ≡ source_at (writes ++ change ∷ []) x
unfolding cover
update-content writes change x cs rs ts e f =
    content-through (cs ++ spot_state Inherit rs ts ∷ []) ∙ ap joined_state (joins_on_top cs rs ts)
    ∙ (λ i. (
      rows_by_parts (through cs).rows rs (rows_in x (all_rows writes)) (rows_in x (all_rows (change ∷ []))) (ap (λ (a : Row × Option Tomb). a.0) (sym (content-through cs) ∙ e)) (ap (λ (a : Row × Option Tomb). a.0) f) i,
      tombs_by_parts (through cs).tombs ts (tombs_over (all_pieces writes) x) (tombs_over (all_pieces (change ∷ [])) x) (ap (λ (a : Row × Option Tomb). a.1) (sym (content-through cs) ∙ e)) (ap (λ (a : Row × Option Tomb). a.1) f) i,
    ))
    ∙ sym (source-more writes change x)

-- the same of static rows
pub update-statics : (writes : List Mutation) (change : Mutation) (cs : List SpotState) (rs : List Row) (ts : List Tomb) →
    content cs ≡ (source_at_static writes, None) → ◌≡◌ {A = Row × Option Tomb} (joined_row rs, greatest tomb_cmp ts) (source_at_static (change ∷ []), None) → content (cs ++ spot_state Inherit rs ts ∷ []) ≡ (source_at_static (writes ++ change ∷ []), None)
update-statics writes change cs rs ts e f =
    content-through (cs ++ spot_state Inherit rs ts ∷ []) ∙ ap joined_state (joins_on_top cs rs ts)
    ∙ (λ i. (
      rows_by_parts (through cs).rows rs (static_rows writes) (static_rows (change ∷ [])) (ap (λ (a : Row × Option Tomb). a.0) (sym (content-through cs) ∙ e)) (ap (λ (a : Row × Option Tomb). a.0) f) i,
      tombs_by_parts (through cs).tombs ts [] [] (ap (λ (a : Row × Option Tomb). a.1) (sym (content-through cs) ∙ e) ∙ no_tombs) (ap (λ (a : Row × Option Tomb). a.1) f ∙ no_tombs) i,
    ))
    ∙ (λ i. (ap joined_row (sym (static_rows-append writes (change ∷ []))) i, sym no_tombs i))
  where
    no_tombs : ◌≡◌ {A = Option Tomb} None (greatest tomb_cmp [])
    no_tombs = sym (tomb-alone None)
