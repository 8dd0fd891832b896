-- What eviction does to what is seen through a chain, and that it keeps continuity.
use Rattle.std.specs.Prelude.{◌≡◌, ◌⊎◌, IsTrue, List, [], ◌∷◌, ◌++◌, Option, None, map as list_map}
use Rattle.std.proofs.Common.{append-nil, refl, sym, ap, ◌∙◌, subst, inl, inr, ⊎_elim}
use Rattle.std.specs.Option.{option_to_list}
use Rattle.std.specs.List.{cons_option}
use Rattle.rc_cell.specs.declared.rows.Row.{Row}
use Rattle.rc_cell.specs.declared.writes.Tomb.{Tomb}
use Rattle.rc_cell.specs.Orders.{tomb_cmp, tomb_cmp_total}
use Rattle.rc_cell.specs.laws.Beats.{tomb_cmp-IsAntisymmetric}
use Rattle.rc_cell.specs.laws.Greatest.{greatest-one}
use Rattle.rc_cell.specs.laws.{joined_row-one, IsRow-joined_row}
use Rattle.rc_cell.specs.Winner.{greatest, joined_row}
use Rattle.rc_position.specs.declared.positions.Pos.{Pos}
use Rattle.rc_position.specs.Position.{Place, IsBefore}
use Rattle.rc_mutation.specs.Source.{source_at_static, source_at, static_rows, rows_in, all_rows}
use Rattle.rc_mutation.specs.declared.mutations.Mutation.{Mutation}
use Rattle.rc_core.specs.declared.entries.ChainKind.TheVariants.{Cache}
use Rattle.rc_core.specs.declared.entries.Flag.{Flag}
use Rattle.rc_core.specs.declared.entries.Flag.TheVariants.{Known, Unknown, Inherit}
use Rattle.rc_core.specs.SpotState.{SpotState, over, under, through, lost_state, joined_state}
use Rattle.rc_core.specs.Version.{On, Behind, Version, IsVersion, state_at, static_state, Finding, finding_of, finding_in, state_of, end_position}
use Rattle.rc_core.specs.Change.{drop_at, lose_last_gap, lost_mark}
use Rattle.rc_core.specs.laws.Spots.{drop-seen, lose_last-seen}
use Rattle.rc_core.specs.Chain.{has_flag, content, states_at, flag_over, IsBare, IsEvenAt}
use Rattle.rc_core.specs.Continuity.{IsWithin, static_states, version_tombs, HoldNoMore, IsContinuous, SameOrLost, IsSameOrLost, IsKeptOrLost, IsEvicted, EachOf, with_entries, without_statics}
use Rattle.rc_core.specs.laws.Folding.{flagged-through, content-through}

decided : (a b newer : SpotState) (f : Flag) → over f a newer ≡ newer → (f ≡ Inherit → ⊥) → over f a newer ≡ over f b newer
decided a b newer Known e h = refl
decided a b newer Unknown e h = refl
decided a b newer Inherit e h = absurd (h refl)

newer_over : (a b newer : SpotState) → b.flag ≡ Unknown → (f : Flag) → newer.flag ≡ f → (over f b newer ≡ over f a newer) ⊎ ((over f b newer).flag ≡ Unknown)
newer_over a b newer l Known e = inl refl
newer_over a b newer l Unknown e = inl refl
newer_over a b newer l Inherit e = inr l

older_under : (older b : SpotState) (f : Flag) → f ≡ Unknown → (over f older b) ≡ b
older_under older b Known e = refl
older_under older b Unknown e = refl
older_under older b Inherit e = absurd (cc)

pub same_or_lost-above : (a b newer : SpotState) → SameOrLost a b → SameOrLost (under a newer) (under b newer)
same_or_lost-above a b newer h = ⊎_elim (λ e. inl (ap (λ c. under c newer) e)) (λ l. newer_over a b newer l newer.flag refl) h

pub same_or_lost-below : (older a b : SpotState) → SameOrLost a b → SameOrLost (under older a) (under older b)
same_or_lost-below older a b h = ⊎_elim (λ e. inl (ap (under older) e)) (λ l. inr (ap (λ (c : SpotState). c.flag) (older_under older b b.flag l) ∙ l)) h

pub same_or_lost-through : (older newer : List SpotState) (a b : SpotState) → SameOrLost a b → SameOrLost (through (older ++ a ∷ newer)) (through (older ++ b ∷ newer))
same_or_lost-through [] newer a b h = same_or_lost-above a b (through newer) h
same_or_lost-through (c ∷ cs) newer a b h = same_or_lost-below c (through (cs ++ a ∷ newer)) (through (cs ++ b ∷ newer)) (same_or_lost-through cs newer a b h)

pub kept-same : (a b : SpotState) → IsKeptOrLost a b → SameOrLost a b
kept-same a b h = ⊎_elim inl (λ e. inr (ap (λ (c : SpotState). c.flag) e)) h

pub map-append : {A B : Type 0} (f : A → B) (xs : List A) (y : A) (ys : List A) → list_map f (xs ++ y ∷ ys) ≡ list_map f xs ++ f y ∷ list_map f ys
map-append f [] y ys = refl
map-append f (x ∷ xs) y ys = ap (λ zs. f x ∷ zs) (map-append f xs y ys)

pub tombs-same : (older newer : List Version) (v w : Version) → w.pt ≡ v.pt → version_tombs (older ++ w ∷ newer) ≡ version_tombs (older ++ v ∷ newer)
tombs-same [] newer v w e = ap (λ t. cons_option t (version_tombs newer)) e
tombs-same (o ∷ os) newer v w e = ap (cons_option o.pt) (tombs-same os newer v w e)

through-one : (f : Version → SpotState) (older newer : List Version) (v w : Version) → SameOrLost (f v) (f w) → SameOrLost (through (list_map f (older ++ v ∷ newer))) (through (list_map f (older ++ w ∷ newer)))
through-one f older newer v w h =
    subst (λ cs. SameOrLost (through (list_map f (older ++ v ∷ newer))) (through cs)) (sym (map-append f older w newer))
    (subst (λ cs. SameOrLost (through cs) (through (list_map f older ++ f w ∷ list_map f newer))) (sym (map-append f older v newer))
    (same_or_lost-through (list_map f older) (list_map f newer) (f v) (f w) h))

pub evicted-seen : (older newer : List Version) (v w : Version) → IsEvicted v w → IsSameOrLost (older ++ v ∷ newer) (older ++ w ∷ newer)
evicted-seen older newer v w h = record {
  statics = through-one static_state older newer v w (kept-same _ _ h.statics);
  clustered = λ s. through-one (state_at s) older newer v w (kept-same _ _ (h.clustered s));
  head = ap (greatest tomb_cmp) (tombs-same older newer v w h.head);
}

-- ---- same or lost keeps continuity

flag_known : (f : Flag) → IsTrue (flag_over Cache f) → f ≡ Unknown → ⊥
flag_known Known h e = cc
flag_known Unknown h e = cc
flag_known Inherit h e = cc

-- where it is flagged, it is seen as before
pub seen_as_before : (before now : List SpotState) → SameOrLost (through before) (through now) → IsTrue (has_flag Cache now) → through now ≡ through before
seen_as_before before now h k = ⊎_elim (λ e. e) (λ l. absurd (flag_known (through now).flag (sym (flagged-through Cache now) ∙ k) l)) h

pub same-flagged : (before now : List SpotState) → through now ≡ through before → has_flag Cache now ≡ has_flag Cache before
same-flagged before now e = flagged-through Cache now ∙ ap (λ (c : SpotState). flag_over Cache c.flag) e ∙ sym (flagged-through Cache before)

pub same-content : (before now : List SpotState) → through now ≡ through before → content now ≡ content before
same-content before now e = content-through now ∙ ap joined_state e ∙ sym (content-through before)

pub known-before : (before now : List SpotState) → SameOrLost (through before) (through now) → IsTrue (has_flag Cache now) → IsTrue (has_flag Cache before) × (content now ≡ content before)
known-before before now h k = let e = seen_as_before before now h k in (sym (same-flagged before now e) ∙ k, same-content before now e)

pub lost-even : (before now : List Version) (x : Pos) → SameOrLost (through (states_at (On x) before)) (through (states_at (On x) now)) → SameOrLost (through (states_at (Behind x) before)) (through (states_at (Behind x) now)) →
    IsEvenAt Cache before x → IsEvenAt Cache now x
lost-even before now x h g even bare known =
    let on = known-before (states_at (On x) before) (states_at (On x) now) h known.at in
    let gap = known-before (states_at (Behind x) before) (states_at (Behind x) now) g (known.gap bare) in
    let was_bare : IsBare before x = record { inside = bare.inside; no_row = ap (λ (a : Row × Option Tomb). a.0) (sym on.1) ∙ bare.no_row } in
    ap (λ (a : Row × Option Tomb). a.1) on.1 ∙ even was_bare (record { at = on.0; gap = λ _. gap.0 }) ∙ ap (λ (a : Row × Option Tomb). a.1) (sym gap.1)

pub same_or_lost-continuous : (reach : Option Place) (writes : List Mutation) (before now : List Version) → IsSameOrLost before now → HoldNoMore writes now → IsContinuous reach writes before → IsContinuous reach writes now
same_or_lost-continuous reach writes before now h within c = record {
  within = within;
  statics = λ r k. let was = known-before (static_states before) (static_states now) h.statics k in was.1 ∙ c.statics r was.0;
  clustered = λ x r k. let was = known-before (states_at (On x) before) (states_at (On x) now) (h.clustered (On x)) k in was.1 ∙ c.clustered x r was.0;
  head = λ r. h.head ∙ c.head r;
  even = λ x r. lost-even before now x (h.clustered (On x)) (h.clustered (Behind x)) (c.even x r);
}

-- ---- no more than the source

pub each-one : (P : Version → Type 0) (older newer : List Version) (v : Version) → EachOf P (older ++ v ∷ newer) → P v
each-one P [] newer v h = h.0
each-one P (o ∷ os) newer v h = each-one P os newer v h.1

pub each-other : (P : Version → Type 0) (older newer : List Version) (v w : Version) → EachOf P (older ++ v ∷ newer) → P w → EachOf P (older ++ w ∷ newer)
each-other P [] newer v w h p = (p, h.1)
each-other P (o ∷ os) newer v w h p = (h.0, each-other P os newer v w h.1 p)

pub joined-again : (rows : List Row) → joined_row (joined_row rows ∷ []) ≡ joined_row rows
joined-again rows = joined_row-one (joined_row rows) (IsRow-joined_row rows)

pub tomb-alone : (t : Option Tomb) → greatest tomb_cmp (option_to_list t) ≡ t
tomb-alone t = greatest-one tomb_cmp_total tomb_cmp-IsAntisymmetric t

pub lost-within : (rows : List Row) (t : Option Tomb) → IsWithin lost_state (joined_row rows, t)
lost-within rows t = (joined-again rows, ap (greatest tomb_cmp) (append-nil (option_to_list t)) ∙ tomb-alone t)

kept-within : (before now : SpotState) (source : Row × Option Tomb) → IsWithin lost_state source → IsKeptOrLost before now → IsWithin before source → IsWithin now source
kept-within before now source l h w = ⊎_elim (λ e. subst (λ c. IsWithin c source) (sym e) w) (λ e. subst (λ c. IsWithin c source) (sym e) l) h

pub evicted-within : (writes : List Mutation) (older newer : List Version) (v w : Version) → IsEvicted v w → HoldNoMore writes (older ++ v ∷ newer) → HoldNoMore writes (older ++ w ∷ newer)
evicted-within writes older newer v w e h = record {
  statics = each-other _ older newer v w h.statics (kept-within (static_state v) (static_state w) (source_at_static writes, None) (lost-within (static_rows writes) None) e.statics (each-one _ older newer v h.statics));
  clustered = λ x. each-other _ older newer v w (h.clustered x) (kept-within (state_at (On x) v) (state_at (On x) w) (source_at writes x) (lost-within (rows_in x (all_rows writes)) (source_at writes x).1) (e.clustered (On x)) (each-one _ older newer v (h.clustered x)));
}

pub evicted-continuous : (reach : Option Place) (writes : List Mutation) (older newer : List Version) (v w : Version) → IsEvicted v w → IsContinuous reach writes (older ++ v ∷ newer) → IsContinuous reach writes (older ++ w ∷ newer)
evicted-continuous reach writes older newer v w e c = same_or_lost-continuous reach writes (older ++ v ∷ newer) (older ++ w ∷ newer) (evicted-seen older newer v w e) (evicted-within writes older newer v w e c.within) c

-- ---- each eviction

found-state : (a b : Finding) → (b ≡ a) ⊎ (b ≡ finding_of lost_mark None) → IsKeptOrLost (state_of a) (state_of b)
found-state a b h = ⊎_elim (λ e. inl (ap state_of e)) (λ e. inr (ap state_of e)) h

pub entry-evicted : (v : Version) (x : Pos) → IsVersion v → IsBefore x end_position → IsEvicted v (with_entries (drop_at x v.entries) v)
entry-evicted v x i b = record { statics = inl refl; clustered = λ s. found-state (finding_in s v.entries) (finding_in s (drop_at x v.entries)) (drop-seen s x v.entries i.ascend i.ends b); head = refl }

pub end-evicted : (v : Version) → IsEvicted v (with_entries (lose_last_gap v.entries) v)
end-evicted v = record { statics = inl refl; clustered = λ s. found-state (finding_in s v.entries) (finding_in s (lose_last_gap v.entries)) (lose_last-seen s v.entries); head = refl }

pub statics-evicted : (v : Version) → IsEvicted v (without_statics v)
statics-evicted v = record { statics = inr refl; clustered = λ s. inl refl; head = refl }
