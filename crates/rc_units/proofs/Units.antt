-- Units of the cleaner on the versions of a chain.
use Rattle.std.specs.Prelude.{◌≡◌, ◌+◌, ◌≤◌, ℕ, zero, suc, true, false, IsTrue, List, [], ◌∷◌, ◌++◌, Option, Some, None, cond, length}
use Rattle.std.proofs.Common.{refl, sym, ap, ◌∙◌, subst, arith, ⊎_elim}
use Rattle.std.specs.Option.{option_to_list}
use Rattle.std.specs.Ordering.{is_eq, is_gt}
use Rattle.std.specs.Cmp.{tied_itself}
use Rattle.std.specs.declared.cmp.Ordering.{Ordering}
use Rattle.std.specs.declared.cmp.Ordering.TheVariants.{Less, Equal, Greater}
use Rattle.rc_cell.specs.declared.rows.Row.{Row}
use Rattle.rc_cell.specs.Orders.{tomb_cmp}
use Rattle.rc_cell.specs.Winner.{greatest}
use Rattle.rc_position.specs.declared.positions.Pos.{Pos}
use Rattle.rc_position.specs.Position.{Place, pos_cmp, IsBefore}
use Rattle.rc_position.specs.laws.Orders.{pos_cmp_total, pos_cmp_same}
use Rattle.rc_position.specs.laws.Bounds.{last_pos-greatest}
use Rattle.rc_mutation.specs.declared.mutations.Mutation.{Mutation}
use Rattle.rc_core.specs.declared.entries.ChainKind.{ChainKind}
use Rattle.rc_core.specs.declared.entries.ChainKind.TheVariants.{Memtable, Cache}
use Rattle.rc_core.specs.declared.entries.Entry.{Entry}
use Rattle.rc_core.specs.declared.entries.Flag.TheVariants.{Inherit}
use Rattle.rc_core.specs.SpotState.{SpotState, over, through}
use Rattle.rc_core.specs.Chains.{AllInherit, IsCarried}
use Rattle.rc_core.specs.Version.{Spot, Version, IsVersion, Ascend, EndsWithDummy, finding_of, finding_in, spot_cmp, entry_answers, end_position}
use Rattle.rc_core.specs.Chain.{states_at, content, has_flag, flag_over, IsEvenAt}
use Rattle.rc_core.specs.Change.{drop_at, without_gap, lose_first_gap, lost_mark}
use Rattle.rc_core.specs.Continuity.{EachOf, IsContinuous, IsEvicted, IsSameOrLost, with_entries, without_statics}
use Rattle.rc_core.specs.Merge.{Alike, IsSeenAlike, IsMerged, IsPutDown, IsSilent}
use Rattle.rc_core.specs.laws.Folding.{flagged-through}
use Rattle.rc_core.specs.laws.Updating.{carried}
use Rattle.rc_core.specs.laws.Losing.{entry-evicted, statics-evicted, evicted-continuous, evicted-seen, known-before}
use Rattle.rc_core.specs.laws.Merging.{merged-seen, dropped-seen, alike-seen, alike-even}
use Rattle.rc_core.specs.laws.Keeping.{dropped-continuous, each_less, each_two, merged-continuous}
use Rattle.rc_units.specs.Clean.{cleaned_versions, cleaned_by, entry_cleaned, cache_cleaned_by, cleaned_without_room, further, clean_times, units_of, static_units, gap_said, merge_entry, end_merged, emptied_version, statics_said, statics_onto}
use Rattle.rc_units.proofs.Under.{pt_known}
use Rattle.rc_units.proofs.Cleaning.{statics-merged, entry-merged, end-merged, emptied-silent}
use Rattle.rc_units.proofs.Versions.{merge_entry-version, end_merged-version, gap_said-version, lost-version}

-- ---- what is seen alike

alike_both : (c d e : SpotState) → Alike d c → Alike e d → Alike e c
alike_both c d e h k = (k.0 ∙ h.0, k.1 ∙ h.1)

pub alike-again : (vs : List Version) → IsSeenAlike vs vs
alike-again vs = record { statics = (refl, refl); clustered = λ s. (refl, refl); head = refl }

pub alike-both : (us vs ws : List Version) → IsSeenAlike us vs → IsSeenAlike vs ws → IsSeenAlike us ws
alike-both us vs ws h k = record {
  statics = alike_both _ _ _ h.statics k.statics;
  clustered = λ s. alike_both _ _ _ (h.clustered s) (k.clustered s);
  head = k.head ∙ h.head;
}

-- ---- versions

-- the first of two entries stands before the next
pub first_before : (v : Version) (e n : Entry) (back : List Entry) → v.entries ≡ e ∷ n ∷ back → IsVersion v → IsBefore e.position n.position
first_before v e n back h i = (subst Ascend h i.ascend).0

pub last_is_dummy : (v : Version) (e : Entry) → v.entries ≡ e ∷ [] → IsVersion v → e.row ≡ None
last_is_dummy v e h i = (subst EndsWithDummy h i.ends).1

pub no_entries : (v : Version) → v.entries ≡ [] → IsVersion v → ⊥
no_entries v h i = subst EndsWithDummy h i.ends

module _ (v w : Version) (i : IsVersion v) (j : IsVersion w) where
  entry_versions : (e n : Entry) (back : List Entry) → v.entries ≡ e ∷ n ∷ back → EachOf IsVersion (entry_cleaned e n back v w)
  entry_versions e n [] h = (end_merged-version (gap_said n) v (with_entries (merge_entry e n w.entries) w) (subst EndsWithDummy h i.ends).1 (merge_entry-version e n (first_before v e n [] h i) w j), tt)
  entry_versions e n (b ∷ back) h = (gap_said-version v e n (b ∷ back) h i, (merge_entry-version e n (first_before v e n (b ∷ back) h i) w j, tt))

  entries_versions : (es : List Entry) → v.entries ≡ es → EachOf IsVersion (cleaned_by None es v w)
  entries_versions [] h = (i, (j, tt))
  entries_versions (e ∷ []) h = (end_merged-version e v w (last_is_dummy v e h i) j, tt)
  entries_versions (e ∷ n ∷ back) h = entry_versions e n back h

  statics_versions : (row : Option Row) → EachOf IsVersion (cleaned_by row v.entries v w)
  statics_versions (Some row) = (record { ascend = i.ascend; ends = i.ends }, (record { ascend = j.ascend; ends = j.ends }, tt))
  statics_versions None = entries_versions v.entries refl

  pub cleaned-versions : EachOf IsVersion (cleaned_versions v w)
  cleaned-versions = statics_versions v.statics

-- ---- a unit keeps whatever merging and dropping keep

module _ (P : List Version → Type 0) (front back : List Version)
    (merging : (a b c d : Version) → IsMerged a b c d → P (front ++ a ∷ b ∷ back) → P (front ++ c ∷ d ∷ back))
    (dropping : (a b : Version) → IsSilent a → greatest tomb_cmp (option_to_list a.pt ++ option_to_list b.pt) ≡ greatest tomb_cmp (option_to_list b.pt) → P (front ++ a ∷ b ∷ back) → P (front ++ b ∷ back)) where
  end_kept : (v w : Version) (e : Entry) → v.entries ≡ e ∷ [] → IsVersion v → IsVersion w → P (front ++ v ∷ w ∷ back) → P (front ++ end_merged e v w ∷ back)
  end_kept v w e h i j p = dropping (emptied_version e v) (end_merged e v w) (emptied-silent e v) (pt_known v.pt w.pt) (merging v w (emptied_version e v) (end_merged e v w) (end-merged v w e h i j) p)

  module _ (v w : Version) (i : IsVersion v) (j : IsVersion w) (p : P (front ++ v ∷ w ∷ back)) where
    entry_kept : (e n : Entry) (more : List Entry) → v.entries ≡ e ∷ n ∷ more → P (front ++ (entry_cleaned e n more v w ++ back))
    entry_kept e n [] h =
        end_kept (with_entries (gap_said n ∷ []) v) (with_entries (merge_entry e n w.entries) w) (gap_said n) refl
        (gap_said-version v e n [] h i) (merge_entry-version e n (first_before v e n [] h i) w j)
        (merging v w (with_entries (gap_said n ∷ []) v) (with_entries (merge_entry e n w.entries) w) (entry-merged v w e n [] h i j) p)
    entry_kept e n (b ∷ more) h = merging v w (with_entries (gap_said n ∷ b ∷ more) v) (with_entries (merge_entry e n w.entries) w) (entry-merged v w e n (b ∷ more) h i j) p

    entries_kept : (es : List Entry) → v.entries ≡ es → P (front ++ (cleaned_by None es v w ++ back))
    entries_kept [] h = p
    entries_kept (e ∷ []) h = end_kept v w e h i j p
    entries_kept (e ∷ n ∷ more) h = entry_kept e n more h

    statics_kept : (row : Option Row) → P (front ++ (cleaned_by row v.entries v w ++ back))
    statics_kept (Some row) = merging v w (statics_said v) (statics_onto v w) (statics-merged v w) p
    statics_kept None = entries_kept v.entries refl

    pub unit-kept : P (front ++ (cleaned_versions v w ++ back))
    unit-kept = statics_kept v.statics

  further_kept : (f : Version → Version → List Version) → ((a b : Version) → IsVersion a → IsVersion b → P (front ++ a ∷ b ∷ back) → P (front ++ (f a b ++ back))) →
      (us : List Version) → EachOf IsVersion us → P (front ++ (us ++ back)) → P (front ++ (further f us ++ back))
  further_kept f more [] is p = p
  further_kept f more (w ∷ []) is p = p
  further_kept f more (v ∷ w ∷ []) is p = more v w is.0 is.1.0 p
  further_kept f more (v ∷ w ∷ u ∷ us) is p = p

  pub times-kept : (k : ℕ) (v w : Version) → IsVersion v → IsVersion w → P (front ++ v ∷ w ∷ back) → P (front ++ (clean_times k v w ++ back))
  times-kept zero v w i j p = p
  times-kept (suc k) v w i j p = further_kept (clean_times k) (times-kept k) (cleaned_versions v w) (cleaned-versions v w i j) (unit-kept v w i j p)

pub unit-seen : (front back : List Version) (v w : Version) → IsVersion v → IsVersion w → IsSeenAlike (front ++ v ∷ w ∷ back) (front ++ (cleaned_versions v w ++ back))
unit-seen front back v w i j =
    unit-kept (IsSeenAlike (front ++ v ∷ w ∷ back)) front back
    (λ a b c d m h. alike-both _ _ _ h (merged-seen front back a b c d m))
    (λ a b s t h. alike-both _ _ _ h (dropped-seen front back a b s t))
    v w i j (alike-again (front ++ v ∷ w ∷ back))

pub unit-continuous : (reach : Option Place) (writes : List Mutation) (front back : List Version) (v w : Version) → IsVersion v → IsVersion w →
    IsContinuous reach writes (front ++ v ∷ w ∷ back) → IsContinuous reach writes (front ++ (cleaned_versions v w ++ back))
unit-continuous reach writes front back v w i j k =
    unit-kept (IsContinuous reach writes) front back (λ a b c d m h. merged-continuous reach writes front back a b c d m h) (λ a b s t h. dropped-continuous reach writes front back a b s t h) v w i j k

pub unit-carried : (updating : Option Place) (front mid back : List Version) (v w : Version) (x : Pos) → IsVersion v → IsVersion w →
    IsCarried updating (front ++ v ∷ w ∷ mid) (front ++ v ∷ w ∷ back) x → IsCarried updating (front ++ (cleaned_versions v w ++ mid)) (front ++ (cleaned_versions v w ++ back)) x
unit-carried updating front mid back v w x i j =
    carried updating (front ++ v ∷ w ∷ mid) (front ++ v ∷ w ∷ back) (front ++ (cleaned_versions v w ++ mid)) (front ++ (cleaned_versions v w ++ back)) x
    (unit-seen front mid v w i j) (unit-seen front back v w i j)

pub unit-even : (kind : ChainKind) (front back : List Version) (v w : Version) (x : Pos) → IsVersion v → IsVersion w → IsEvenAt kind (front ++ v ∷ w ∷ back) x → IsEvenAt kind (front ++ (cleaned_versions v w ++ back)) x
unit-even kind front back v w x i j = alike-even kind (front ++ v ∷ w ∷ back) (front ++ (cleaned_versions v w ++ back)) x (unit-seen front back v w i j)

-- ---- a whole merge

pub times-seen : (n : ℕ) (front back : List Version) (v w : Version) → IsVersion v → IsVersion w → IsSeenAlike (front ++ v ∷ w ∷ back) (front ++ (clean_times n v w ++ back))
times-seen n front back v w i j =
    times-kept (IsSeenAlike (front ++ v ∷ w ∷ back)) front back
    (λ a b c d m h. alike-both _ _ _ h (merged-seen front back a b c d m))
    (λ a b s t h. alike-both _ _ _ h (dropped-seen front back a b s t))
    n v w i j (alike-again (front ++ v ∷ w ∷ back))

further_one : (f : Version → Version → List Version) (w : Version) → length (further f (w ∷ [])) ≡ 1
further_one f w = refl

whole : (k : ℕ) (v w : Version) → IsVersion v → IsVersion w → units_of v ≤ k → length (clean_times k v w) ≡ 1
whole zero v w i j le = elim v.entries as (λ es. v.entries ≡ es → static_units v.statics + length es ≤ 0 → length (clean_times 0 v w) ≡ 1) [
  | [] ↦ λ h _. absurd (no_entries v h i)
  | e ∷ es ↦ λ h l. absurd (omega arith)
] refl le
whole (suc k) v w i j le =
    elim v.statics as (λ r. v.statics ≡ r → static_units r + length v.entries ≤ suc k → length (further (clean_times k) (cleaned_by r v.entries v w)) ≡ 1) [
      | Some row ↦ λ _ l. whole k (statics_said v) (statics_onto v w) (record { ascend = i.ascend; ends = i.ends }) (record { ascend = j.ascend; ends = j.ends }) (omega arith)
      | None ↦ λ z l. elim v.entries as (λ es. v.entries ≡ es → 0 + length es ≤ suc k → length (further (clean_times k) (cleaned_by None es v w)) ≡ 1) [
        | [] ↦ λ h _. absurd (no_entries v h i)
        | e ∷ es ↦ λ h m. elim es as (λ es. v.entries ≡ e ∷ es → 0 + suc (length es) ≤ suc k → length (further (clean_times k) (cleaned_by None (e ∷ es) v w)) ≡ 1) [
          | [] ↦ λ _ _. refl
          | n ∷ back ↦ λ g o. elim back as (λ back. v.entries ≡ e ∷ n ∷ back → 0 + suc (suc (length back)) ≤ suc k → length (further (clean_times k) (entry_cleaned e n back v w)) ≡ 1) [
            | [] ↦ λ _ _. refl
            | b ∷ more ↦ λ q r. whole k (with_entries (gap_said n ∷ b ∷ more) v) (with_entries (merge_entry e n w.entries) w) (gap_said-version v e n (b ∷ more) q i) (merge_entry-version e n (first_before v e n (b ∷ more) q i) w j)
                (subst (λ x. static_units x + suc (suc (length more)) ≤ k) (sym z) (omega arith))
          ] g o
        ] h m
      ] refl l
    ] refl le

pub whole-one : (v w : Version) → IsVersion v → IsVersion w → length (clean_times (units_of v) v w) ≡ 1
whole-one v w i j = whole (units_of v) v w i j (omega arith)

-- ---- without room

before_last : (e n : Pos) → IsBefore e n → IsBefore e end_position
before_last e n l = last_of (pos_cmp n end_position) refl
  where
    last_of : (r : Ordering) → pos_cmp n end_position ≡ r → IsBefore e end_position
    last_of Less h = pos_cmp_total.trans e n end_position l h
    last_of Equal h = subst (IsBefore e) (pos_cmp_same n end_position h) l
    last_of Greater h = let u : true ≡ false = sym (ap is_gt h) ∙ last_pos-greatest n in absurd (cc)

-- the first entry taken out as eviction does
first_dropped : (e n : Entry) (back : List Entry) → drop_at e.position (e ∷ n ∷ back) ≡ lose_first_gap (n ∷ back)
first_dropped e n back = ap (λ r. cond (is_eq r) (lose_first_gap (n ∷ back)) (e ∷ drop_at e.position (n ∷ back))) (tied_itself pos_cmp_total e.position)

pub first-evicted : (v : Version) (e n : Entry) (back : List Entry) → v.entries ≡ e ∷ n ∷ back → IsVersion v → IsEvicted v (with_entries (lose_first_gap (n ∷ back)) v)
first-evicted v e n back h i =
    subst (λ es. IsEvicted v (with_entries es v)) (ap (drop_at e.position) h ∙ first_dropped e n back)
    (entry-evicted v e.position i (before_last e.position n.position (first_before v e n back h i)))

module _ (P : List Version → Type 0) (front back : List Version)
    (merging : (a b c d : Version) → IsMerged a b c d → P (front ++ a ∷ b ∷ back) → P (front ++ c ∷ d ∷ back))
    (dropping : (a b : Version) → IsSilent a → greatest tomb_cmp (option_to_list a.pt ++ option_to_list b.pt) ≡ greatest tomb_cmp (option_to_list b.pt) → P (front ++ a ∷ b ∷ back) → P (front ++ b ∷ back))
    (losing : (a b c : Version) → IsEvicted a c → P (front ++ a ∷ b ∷ back) → P (front ++ c ∷ b ∷ back))
    (v w : Version) (i : IsVersion v) (j : IsVersion w) (p : P (front ++ v ∷ w ∷ back)) where
  lost_entries : (es : List Entry) → v.entries ≡ es → P (front ++ (cache_cleaned_by None es v w ++ back))
  lost_entries [] h = p
  lost_entries (e ∷ []) h = end_kept P front back merging dropping v w e h i j p
  lost_entries (e ∷ n ∷ more) h = losing v w (with_entries (lose_first_gap (n ∷ more)) v) (first-evicted v e n more h i) p

  lost_statics : (row : Option Row) → P (front ++ (cache_cleaned_by row v.entries v w ++ back))
  lost_statics (Some row) = losing v w (without_statics v) (statics-evicted v) p
  lost_statics None = lost_entries v.entries refl

  pub lost-kept : (kind : ChainKind) → P (front ++ (cleaned_without_room kind v w ++ back))
  lost-kept Memtable = p
  lost-kept Cache = lost_statics v.statics

pub lost-continuous : (kind : ChainKind) (reach : Option Place) (writes : List Mutation) (front back : List Version) (v w : Version) → IsVersion v → IsVersion w →
    IsContinuous reach writes (front ++ v ∷ w ∷ back) → IsContinuous reach writes (front ++ (cleaned_without_room kind v w ++ back))
lost-continuous kind reach writes front back v w i j k =
    lost-kept (IsContinuous reach writes) front back
    (λ a b c d m h. merged-continuous reach writes front back a b c d m h) (λ a b s t h. dropped-continuous reach writes front back a b s t h)
    (λ a b c e h. evicted-continuous reach writes front (b ∷ back) a c e h) v w i j k kind

-- what was said from the first entry on and before the next is lost
pub first-lost : (s : Spot) (n : Entry) (back : List Entry) → spot_cmp s n.position ≡ Less → finding_in s (lose_first_gap (n ∷ back)) ≡ finding_of lost_mark None
first-lost s n back h = ap (λ r. entry_answers r (without_gap n) (finding_in s back)) h

-- what is known now was known before with the same content
abbrev pub KnownBefore : List Version → List Version → Type 0
KnownBefore before now = (s : Spot) → IsTrue (has_flag Cache (states_at s now)) → IsTrue (has_flag Cache (states_at s before)) × (content (states_at s now) ≡ content (states_at s before))

known_both : (us vs ws : List Version) → KnownBefore us vs → KnownBefore vs ws → KnownBefore us ws
known_both us vs ws h k s f = let a = k s f in let b = h s a.0 in (b.0, a.1 ∙ b.1)

alike_flagged : (us vs : List SpotState) → Alike (through vs) (through us) → has_flag Cache vs ≡ has_flag Cache us
alike_flagged us vs h = flagged-through Cache vs ∙ ap (flag_over Cache) h.0 ∙ sym (flagged-through Cache us)

alike_known : (us vs : List Version) → IsSeenAlike us vs → KnownBefore us vs
alike_known us vs h s f = (sym (alike_flagged (states_at s us) (states_at s vs) (h.clustered s)) ∙ f, alike-seen us vs s h)

lost_known : (us vs : List Version) → IsSameOrLost us vs → KnownBefore us vs
lost_known us vs h s f = known-before (states_at s us) (states_at s vs) (h.clustered s) f

pub lost-known : (kind : ChainKind) (front back : List Version) (v w : Version) → IsVersion v → IsVersion w → KnownBefore (front ++ v ∷ w ∷ back) (front ++ (cleaned_without_room kind v w ++ back))
lost-known kind front back v w i j =
    lost-kept (KnownBefore (front ++ v ∷ w ∷ back)) front back
    (λ a b c d m h. known_both (front ++ v ∷ w ∷ back) (front ++ a ∷ b ∷ back) (front ++ c ∷ d ∷ back) h (alike_known (front ++ a ∷ b ∷ back) (front ++ c ∷ d ∷ back) (merged-seen front back a b c d m)))
    (λ a b s t h. known_both (front ++ v ∷ w ∷ back) (front ++ a ∷ b ∷ back) (front ++ b ∷ back) h (alike_known (front ++ a ∷ b ∷ back) (front ++ b ∷ back) (dropped-seen front back a b s t)))
    (λ a b c e h. known_both (front ++ v ∷ w ∷ back) (front ++ a ∷ b ∷ back) (front ++ c ∷ b ∷ back) h (lost_known (front ++ a ∷ b ∷ back) (front ++ c ∷ b ∷ back) (evicted-seen front (b ∷ back) a c e)))
    v w i j (λ s f. (f, refl)) kind

module _ (v w : Version) (i : IsVersion v) (j : IsVersion w) where
  lost_entries_versions : (es : List Entry) → v.entries ≡ es → EachOf IsVersion (cache_cleaned_by None es v w)
  lost_entries_versions [] h = (i, (j, tt))
  lost_entries_versions (e ∷ []) h = (end_merged-version e v w (last_is_dummy v e h i) j, tt)
  lost_entries_versions (e ∷ n ∷ back) h = (lost-version v e n back h i, (j, tt))

  lost_statics_versions : (row : Option Row) → EachOf IsVersion (cache_cleaned_by row v.entries v w)
  lost_statics_versions (Some row) = (record { ascend = i.ascend; ends = i.ends }, (j, tt))
  lost_statics_versions None = lost_entries_versions v.entries refl

  pub lost-versions : (kind : ChainKind) → EachOf IsVersion (cleaned_without_room kind v w)
  lost-versions Memtable = (i, (j, tt))
  lost-versions Cache = lost_statics_versions v.statics

-- ---- a memtable's chain: where both versions inherit everywhere, they still do

alike_inherit : (c d e f : SpotState) → IsPutDown c d e f → c.flag ≡ Inherit → d.flag ≡ Inherit → (e.flag ≡ Inherit) × (f.flag ≡ Inherit)
alike_inherit c d e f p h k = ⊎_elim
    (λ q. (ap (λ (x : SpotState). x.flag) q.0 ∙ h, ap (λ (x : SpotState). x.flag) q.1 ∙ k))
    (λ q. (ap (λ (x : SpotState). x.flag) q.0, q.1.0 ∙ ap (λ g. (over g c d).flag) k ∙ h))
    p

-- two versions that put states down keep the flags of a memtable
inherit_two : (a b c d : Version) → IsMerged a b c d → AllInherit a → AllInherit b → AllInherit c × AllInherit d
inherit_two a b c d m h k = (
  record { statics = (alike_inherit _ _ _ _ m.statics h.statics k.statics).0; clustered = λ s. (alike_inherit _ _ _ _ (m.clustered s) (h.clustered s) (k.clustered s)).0 },
  record { statics = (alike_inherit _ _ _ _ m.statics h.statics k.statics).1; clustered = λ s. (alike_inherit _ _ _ _ (m.clustered s) (h.clustered s) (k.clustered s)).1 },
)

pub unit-inherits : (front back : List Version) (v w : Version) → IsVersion v → IsVersion w → EachOf AllInherit (front ++ v ∷ w ∷ back) → EachOf AllInherit (front ++ (cleaned_versions v w ++ back))
unit-inherits front back v w i j h = unit-kept (EachOf AllInherit) front back (λ a b c d m k. each_two AllInherit front back a b c d k (inherit_two a b c d m)) (λ a b s t k. each_less AllInherit front (b ∷ back) a k) v w i j h
