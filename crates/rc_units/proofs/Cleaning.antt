-- Units of the cleaner.
use Rattle.std.specs.Prelude.{◌≡◌, true, false, List, [], ◌∷◌, None, map as list_map}
use Rattle.std.proofs.Common.{refl, sym, ap, ◌∙◌, subst, inl, inr}
use Rattle.std.specs.declared.cmp.Ordering.{Ordering}
use Rattle.std.specs.declared.cmp.Ordering.TheVariants.{Less, Equal, Greater}
use Rattle.std.specs.Ordering.{is_lt, is_gt}
use Rattle.rc_position.specs.declared.positions.Pos.{Pos}
use Rattle.rc_position.specs.Position.{pos_cmp, IsBefore}
use Rattle.rc_position.specs.laws.Orders.{pos_cmp_same}
use Rattle.rc_position.specs.laws.Bounds.{last_pos-greatest}
use Rattle.rc_core.specs.declared.entries.Entry.{Entry}
use Rattle.rc_core.specs.declared.entries.Mark.{Mark}
use Rattle.rc_core.specs.SpotState.{under}
use Rattle.rc_core.specs.Version.{Spot, On, Behind, spot_cmp, Finding, finding_of, entry_answers, finding_in, state_of, state_at, IsBeforeEnd, Ascend, EndsWithDummy, Version, IsVersion, end_position}
use Rattle.rc_core.specs.Change.{dummy, gap_split}
use Rattle.rc_core.specs.Continuity.{with_entries}
use Rattle.rc_core.specs.Merge.{Alike, IsPutDown, IsMerged, IsSilent}
use Rattle.rc_core.specs.laws.Spots.{turned, turn_to, behind-Equal, spot-Less, spot-before, spot-at, split-seen, split-reaches, position-reached, gap-reached}
use Rattle.rc_units.specs.Clean.{onto_by, gap_onto_by, entry_onto, end_onto, merge_entry, merge_end_dummy, gap_said, statics_said, statics_onto, end_merged, emptied_version}
use Rattle.rc_core.specs.Plain.{mark_under, found_under, no_mark}
use Rattle.rc_units.proofs.Under.{none-under, found-alike, statics-alike, pt_again}
use Rattle.rc_units.proofs.Onto.{GapIs, CutAt, gap-any, cut-split, cut-kept, on-spot, spot-between, map-seen, nothing_found}

by_keeps : (r q : Ordering) (e n y : Entry) → (onto_by r e y (gap_onto_by q n y)).position ≡ y.position
by_keeps Less q e n y = refl
by_keeps Equal q e n y = refl
by_keeps Greater Less e n y = refl
by_keeps Greater Equal e n y = refl
by_keeps Greater Greater e n y = refl

pub entry_onto-keeps : (e n y : Entry) → (entry_onto e n y).position ≡ y.position
entry_onto-keeps e n y = by_keeps (pos_cmp y.position e.position) (pos_cmp y.position n.position) e n y

end_keeps : (r : Ordering) (e y : Entry) → (onto_by r e y y).position ≡ y.position
end_keeps Less e y = refl
end_keeps Equal e y = refl
end_keeps Greater e y = refl

pub end_onto-keeps : (e y : Entry) → (end_onto e y).position ≡ y.position
end_onto-keeps e y = end_keeps (pos_cmp y.position e.position) e y

no_row : (m g : Mark) → finding_of (mark_under m g) None ≡ found_under (finding_of m None) (finding_of g None)
no_row m g = ap (finding_of (mark_under m g)) (sym (none-under g.flag))

-- an entry behind a position
behind_it : (e y : Pos) → pos_cmp e y ≡ Less → pos_cmp y e ≡ Greater
behind_it e y l = turn_to e y Less l

-- ---- the gap before a merged entry, at an entry up to it

upto_gap : (r : Ordering) (e y rest : Entry) → is_gt r ≡ false → finding_of (onto_by r e y rest).gap None ≡ found_under (finding_of e.gap None) (finding_of y.gap None)
upto_gap Less e y rest h = no_row e.gap y.gap
upto_gap Equal e y rest h = no_row e.gap y.gap
upto_gap Greater e y rest h = absurd (cc)

-- the gap before its successor, at an entry between both or at the successor
between_gap : (r : Ordering) (n y : Entry) → is_gt r ≡ false → finding_of (gap_onto_by r n y).gap None ≡ found_under (finding_of n.gap None) (finding_of y.gap None)
between_gap Less n y h = no_row n.gap y.gap
between_gap Equal n y h = no_row n.gap y.gap
between_gap Greater n y h = absurd (cc)

-- what an entry says itself once it took what it took
abbrev says : Entry → Finding
says y = finding_of y.at y.row

module _ (e n : Entry) (lt : IsBefore e.position n.position) (s : Spot) where
  abbrev rest : Entry → Entry
  rest y = gap_onto_by (pos_cmp y.position n.position) n y

  before_entry : (w : List Entry) → spot_cmp s e.position ≡ Less → IsBeforeEnd s w → GapIs (CutAt s e.position) s w → finding_in s (list_map (entry_onto e n) w) ≡ found_under (finding_of e.gap None) (finding_in s w)
  before_entry w h b g =
      map-seen (entry_onto e n) (entry_onto-keeps e n) s (found_under (finding_of e.gap None)) (CutAt s e.position)
      (λ y l p. upto_gap (pos_cmp y.position e.position) e y (rest y) (p (ap is_gt h)))
      (λ y l. ap (λ r. says (onto_by r e y (rest y))) (on-spot s y.position e.position l ∙ h))
      w (inl b) g

  at_entry : (w : List Entry) → spot_cmp s e.position ≡ Equal → IsBeforeEnd s w → GapIs (CutAt s e.position) s w → finding_in s (list_map (entry_onto e n) w) ≡ found_under (finding_of e.at e.row) (finding_in s w)
  at_entry w h b g =
      map-seen (entry_onto e n) (entry_onto-keeps e n) s (found_under (finding_of e.at e.row)) (CutAt s e.position)
      (λ y l p. absurd (let u : true ≡ false = sym (ap is_gt (behind_it e.position y.position (spot-between s e.position y.position (λ k. let v : Less ≡ Equal = sym k ∙ h in cc) l))) ∙ p (ap is_gt h) in cc))
      (λ y l. ap (λ r. says (onto_by r e y (rest y))) (on-spot s y.position e.position l ∙ h))
      w (inl b) g

  behind_entry : (w : List Entry) → spot_cmp s e.position ≡ Greater → spot_cmp s n.position ≡ Less → IsBeforeEnd s w → GapIs (CutAt s n.position) s w → finding_in s (list_map (entry_onto e n) w) ≡ found_under (finding_of n.gap None) (finding_in s w)
  behind_entry w h k b g =
      map-seen (entry_onto e n) (entry_onto-keeps e n) s (found_under (finding_of n.gap None)) (CutAt s n.position)
      (λ y l p. ap (λ r. finding_of (onto_by r e y (rest y)).gap None) (behind_it e.position y.position (spot-between s e.position y.position (λ j. let v : Less ≡ Greater = sym j ∙ h in cc) l))
      ∙ between_gap (pos_cmp y.position n.position) n y (p (ap is_gt k)))
      (λ y l. (λ i. says (onto_by ((on-spot s y.position e.position l ∙ h) i) e y (gap_onto_by ((on-spot s y.position n.position l ∙ k) i) n y))))
      w (inl b) g

  -- a spot that is not before the successor is behind the merged entry
  behind_both : (r : Ordering) → spot_cmp s e.position ≡ r → (spot_cmp s n.position ≡ Less → ⊥) → spot_cmp s e.position ≡ Greater
  behind_both Less h off = absurd (off (spot-before s e.position n.position h lt))
  behind_both Equal h off = absurd (off (spot-at s e.position n.position h lt))
  behind_both Greater h off = h

  from_successor_at : (r : Ordering) (y : Entry) → (r ≡ Less → ⊥) → says (gap_onto_by r n y) ≡ says y
  from_successor_at Less y off = absurd (off refl)
  from_successor_at Equal y off = refl
  from_successor_at Greater y off = refl

  behind_successor : (w : List Entry) → (spot_cmp s n.position ≡ Less → ⊥) → finding_in s (list_map (entry_onto e n) w) ≡ finding_in s w
  behind_successor w off =
      map-seen (entry_onto e n) (entry_onto-keeps e n) s (λ a. a) (λ _. Unit {0})
      (λ y l _. (λ i. finding_of (onto_by (behind_it e.position y.position (spot-between s e.position y.position (λ j. off (spot-before s e.position n.position j lt)) l) i) e y
      (gap_onto_by (behind_it n.position y.position (spot-between s n.position y.position off l) i) n y)).gap None))
      (λ y l. ap (λ r. says (onto_by r e y (rest y))) (on-spot s y.position e.position l ∙ behind_both (spot_cmp s e.position) refl off)
      ∙ from_successor_at (pos_cmp y.position n.position) y (λ j. off (sym (on-spot s y.position n.position l) ∙ j)))
      w (inr refl) (gap-any (λ _. Unit {0}) s w (λ _. tt))

  -- what the older version says, before and after
  behind_in_older : (back : List Entry) → (spot_cmp s n.position ≡ Less → ⊥) → finding_in s (gap_said n ∷ back) ≡ finding_in s (e ∷ n ∷ back)
  behind_in_older back off =
      elim (spot_cmp s n.position) as (λ r. (r ≡ Less → ⊥) → entry_answers r (gap_said n) (finding_in s back) ≡ entry_answers r n (finding_in s back)) [ Less ↦ λ k. absurd (k refl) | Equal ↦ λ _. refl | Greater ↦ λ _. refl ] off
      ∙ sym (ap (λ r. entry_answers r e (finding_in s (n ∷ back))) (behind_both (spot_cmp s e.position) refl off))

  module _ (w back : List Entry) (k : spot_cmp s n.position ≡ Less) (b : IsBeforeEnd s w) where
    abbrev cut : List Entry
    cut = gap_split n.position (gap_split e.position w)

    reached : IsBeforeEnd s cut
    reached = split-reaches s n.position (gap_split e.position w) (split-reaches s e.position w b)

    cut_at_entry : GapIs (CutAt s e.position) s cut
    cut_at_entry = cut-kept s e.position n.position (gap_split e.position w) (cut-split s e.position w)

    cut_at_successor : GapIs (CutAt s n.position) s cut
    cut_at_successor = cut-split s n.position (gap_split e.position w)

    onto_cut : finding_in s (list_map (entry_onto e n) cut) ≡ found_under (finding_in s (e ∷ n ∷ back)) (finding_in s cut)
    onto_cut = elim (spot_cmp s e.position) as (λ r. spot_cmp s e.position ≡ r → finding_in s (list_map (entry_onto e n) cut) ≡ found_under (entry_answers r e (finding_in s (n ∷ back))) (finding_in s cut)) [
      | Less ↦ λ h. before_entry cut h reached cut_at_entry
      | Equal ↦ λ h. at_entry cut h reached cut_at_entry
      | Greater ↦ λ h. behind_entry cut h k reached cut_at_successor ∙ sym (ap (λ r. found_under (entry_answers r n (finding_in s back)) (finding_in s cut)) k)
    ] refl

    pub before_successor : finding_in s (merge_entry e n w) ≡ found_under (finding_in s (e ∷ n ∷ back)) (finding_in s w)
    before_successor = onto_cut ∙ ap (found_under (finding_in s (e ∷ n ∷ back))) (split-seen s n.position (gap_split e.position w) ∙ split-seen s e.position w)

  pub behind_in_newer : (w : List Entry) → (spot_cmp s n.position ≡ Less → ⊥) → finding_in s (merge_entry e n w) ≡ finding_in s w
  behind_in_newer w off = behind_successor (gap_split n.position (gap_split e.position w)) off ∙ split-seen s n.position (gap_split e.position w) ∙ split-seen s e.position w

-- ---- as a unit of merging

-- a spot before some position is reached by the entries of a version
pub reached_before : (s : Spot) (q : Pos) (w : List Entry) → spot_cmp s q ≡ Less → EndsWithDummy w → IsBeforeEnd s w
reached_before (On x) q w k d = position-reached x w d
reached_before (Behind x) q w k d = gap-reached x w d (before_end (pos_cmp x end_position) refl)
  where
    before_end : (r : Ordering) → pos_cmp x end_position ≡ r → IsBefore x end_position
    before_end Less h = h
    before_end Equal h = absurd (let u : true ≡ false = sym (ap is_lt (spot-Less (Behind x) q k)) ∙ ap (λ y. is_lt (pos_cmp y q)) (pos_cmp_same x end_position h) ∙ sym (turned q end_position) ∙ last_pos-greatest q in cc)
    before_end Greater h = absurd (let u : true ≡ false = sym (ap is_gt h) ∙ last_pos-greatest x in cc)

pub put_seen : (a b c d : Finding) → c ≡ nothing_found → d ≡ found_under a b → IsPutDown (state_of a) (state_of b) (state_of c) (state_of d)
put_seen a b c d e f = inr (ap state_of e, subst (λ x. Alike (state_of x) (under (state_of a) (state_of b))) (sym f) (found-alike a b))

pub kept_seen : (a b c d : Finding) → c ≡ a → d ≡ b → IsPutDown (state_of a) (state_of b) (state_of c) (state_of d)
kept_seen a b c d e f = inl (ap state_of e, ap state_of f)

pub merged-said : (s : Spot) (n : Entry) (back : List Entry) → spot_cmp s n.position ≡ Less → finding_in s (gap_said n ∷ back) ≡ nothing_found
merged-said s n back k = ap (λ r. entry_answers r (gap_said n) (finding_in s back)) k

pub entry-merged : (v w : Version) (e n : Entry) (back : List Entry) → v.entries ≡ e ∷ n ∷ back → IsVersion v → IsVersion w →
    IsMerged v w (with_entries (gap_said n ∷ back) v) (with_entries (merge_entry e n w.entries) w)
entry-merged v w e n back h i j = record {
  statics = inl (refl, refl);
  clustered = λ s. subst (λ es. IsPutDown (state_of (finding_in s es)) (state_at s w) (state_of (finding_in s (gap_said n ∷ back))) (state_of (finding_in s (merge_entry e n w.entries)))) (sym h)
      (elim (spot_cmp s n.position) as (λ r. spot_cmp s n.position ≡ r → IsPutDown (state_of (finding_in s (e ∷ n ∷ back))) (state_at s w) (state_of (finding_in s (gap_said n ∷ back))) (state_of (finding_in s (merge_entry e n w.entries)))) [
        | Less ↦ λ k. put_seen (finding_in s (e ∷ n ∷ back)) (finding_in s w.entries) (finding_in s (gap_said n ∷ back)) (finding_in s (merge_entry e n w.entries))
            (merged-said s n back k)
            (before_successor e n lt s w.entries back k (reached_before s n.position w.entries k j.ends))
        | Equal ↦ λ k. later s (λ l. let u : Less ≡ Equal = sym l ∙ k in cc)
        | Greater ↦ λ k. later s (λ l. let u : Less ≡ Greater = sym l ∙ k in cc)
      ] refl);
  head = refl;
}
  where
    lt : IsBefore e.position n.position
    lt = (subst Ascend h i.ascend).0

    later : (s : Spot) → (spot_cmp s n.position ≡ Less → ⊥) → IsPutDown (state_of (finding_in s (e ∷ n ∷ back))) (state_at s w) (state_of (finding_in s (gap_said n ∷ back))) (state_of (finding_in s (merge_entry e n w.entries)))
    later s off = kept_seen (finding_in s (e ∷ n ∷ back)) (finding_in s w.entries) (finding_in s (gap_said n ∷ back)) (finding_in s (merge_entry e n w.entries)) (behind_in_older e n lt s back off) (behind_in_newer e n lt s w.entries off)

-- the same of entries in order, whose newer ones are those of a version
pub merged-before : (s : Spot) (e n : Entry) (back newer : List Entry) → Ascend (e ∷ n ∷ back) → EndsWithDummy newer → spot_cmp s n.position ≡ Less →
    finding_in s (merge_entry e n newer) ≡ found_under (finding_in s (e ∷ n ∷ back)) (finding_in s newer)
merged-before s e n back newer a d k = before_successor e n a.0 s newer back k (reached_before s n.position newer k d)

pub merged-behind : (s : Spot) (e n : Entry) (back newer : List Entry) → Ascend (e ∷ n ∷ back) → (spot_cmp s n.position ≡ Less → ⊥) →
    (finding_in s (merge_entry e n newer) ≡ finding_in s newer) × (finding_in s (gap_said n ∷ back) ≡ finding_in s (e ∷ n ∷ back))
merged-behind s e n back newer a off = (behind_in_newer e n a.0 s newer off, behind_in_older e n a.0 s back off)

-- ---- the static row

pub statics-merged : (v w : Version) → IsMerged v w (statics_said v) (statics_onto v w)
statics-merged v w = record {
  statics = inr (refl, statics-alike v.static_flag w.static_flag v.statics w.statics);
  clustered = λ s. inl (refl, refl);
  head = refl;
}

-- ---- the end dummy

silent_answers : (r : Ordering) (x : Pos) → entry_answers r (dummy x no_mark) nothing_found ≡ nothing_found
silent_answers Less x = refl
silent_answers Equal x = refl
silent_answers Greater x = refl

pub emptied-silent : (e : Entry) (v : Version) → IsSilent (emptied_version e v)
emptied-silent e v = record { statics = refl; clustered = λ s. ap state_of (silent_answers (spot_cmp s e.position) e.position) }

module _ (e : Entry) (at_end : e.position ≡ end_position) (s : Spot) where
  -- no entry stands behind the end dummy
  upto_end : (y : Pos) → is_gt (pos_cmp y e.position) ≡ false
  upto_end y = ap (λ q. is_gt (pos_cmp y q)) at_end ∙ last_pos-greatest y

  none_behind : (y : Pos) → (spot_cmp s e.position ≡ Less → ⊥) → spot_cmp s y ≡ Less → ⊥
  none_behind y off l = let u : true ≡ false = sym (ap is_gt (behind_it e.position y (spot-between s e.position y off l))) ∙ upto_end y in cc

  end_before : (w : List Entry) → spot_cmp s e.position ≡ Less → IsBeforeEnd s w → finding_in s (merge_end_dummy e w) ≡ found_under (finding_of e.gap None) (finding_in s w)
  end_before w h b =
      map-seen (end_onto e) (end_onto-keeps e) s (found_under (finding_of e.gap None)) (λ _. Unit {0})
      (λ y l _. upto_gap (pos_cmp y.position e.position) e y y (upto_end y.position))
      (λ y l. ap (λ r. says (onto_by r e y y)) (on-spot s y.position e.position l ∙ h))
      w (inl b) (gap-any (λ _. Unit {0}) s w (λ _. tt))

  end_at : (w : List Entry) → spot_cmp s e.position ≡ Equal → IsBeforeEnd s w → finding_in s (merge_end_dummy e w) ≡ found_under (finding_of e.at e.row) (finding_in s w)
  end_at w h b =
      map-seen (end_onto e) (end_onto-keeps e) s (found_under (finding_of e.at e.row)) (λ _. Unit {0})
      (λ y l _. absurd (none_behind y.position (λ k. let v : Less ≡ Equal = sym k ∙ h in cc) l))
      (λ y l. ap (λ r. says (onto_by r e y y)) (on-spot s y.position e.position l ∙ h))
      w (inl b) (gap-any (λ _. Unit {0}) s w (λ _. tt))

  end_behind : (w : List Entry) → spot_cmp s e.position ≡ Greater → finding_in s (merge_end_dummy e w) ≡ finding_in s w
  end_behind w h =
      map-seen (end_onto e) (end_onto-keeps e) s (λ a. a) (λ _. Unit {0})
      (λ y l _. absurd (none_behind y.position (λ k. let v : Less ≡ Greater = sym k ∙ h in cc) l))
      (λ y l. absurd (let v : true ≡ false = sym (ap is_gt (on-spot s y.position e.position l ∙ h)) ∙ upto_end y.position in cc))
      w (inr refl) (gap-any (λ _. Unit {0}) s w (λ _. tt))

at_the_end : (s : Spot) (q : Pos) (w : List Entry) → spot_cmp s q ≡ Equal → EndsWithDummy w → IsBeforeEnd s w
at_the_end (On x) q w k d = position-reached x w d
at_the_end (Behind x) q w k d = absurd (behind-Equal (pos_cmp x q) k)

pub end-merged : (v w : Version) (e : Entry) → v.entries ≡ e ∷ [] → IsVersion v → IsVersion w → IsMerged v w (emptied_version e v) (end_merged e v w)
end-merged v w e h i j = record {
  statics = inr (refl, statics-alike v.static_flag w.static_flag v.statics w.statics);
  clustered = λ s. subst (λ es. IsPutDown (state_of (finding_in s es)) (state_at s w) (state_at s (emptied_version e v)) (state_of (finding_in s (merge_end_dummy e w.entries)))) (sym h)
      (elim (spot_cmp s e.position) as (λ r. spot_cmp s e.position ≡ r → IsPutDown (state_of (entry_answers r e nothing_found)) (state_at s w) (state_at s (emptied_version e v)) (state_of (finding_in s (merge_end_dummy e w.entries)))) [
        | Less ↦ λ k. put_seen (finding_of e.gap None) (finding_in s w.entries) _ _ (silent_answers (spot_cmp s e.position) e.position) (end_before e at_end s w.entries k (reached_before s e.position w.entries k j.ends))
        | Equal ↦ λ k. put_seen (finding_of e.at e.row) (finding_in s w.entries) _ _ (silent_answers (spot_cmp s e.position) e.position) (end_at e at_end s w.entries k (at_the_end s e.position w.entries k j.ends))
        | Greater ↦ λ k. kept_seen nothing_found (finding_in s w.entries) _ _ (silent_answers (spot_cmp s e.position) e.position) (end_behind e at_end s w.entries k)
      ] refl);
  head = pt_again v.pt w.pt;
}
  where
    at_end : e.position ≡ end_position
    at_end = (subst EndsWithDummy h i.ends).0
