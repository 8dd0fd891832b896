-- Units of the cleaner on a whole chain: each is a merge, a merge and a dropped version, or an eviction. And that cleaning ends.
use Rattle.std.specs.Prelude.{◌<◌, ◌≡◌, ◌+◌, ◌⊎◌, ℕ, zero, suc, true, IsTrue, List, [], ◌∷◌, ◌++◌, Option, Some, None, length, option_map, take, map as list_map}
use Rattle.std.proofs.Common.{refl, sym, ap, ◌∙◌, subst, arith, ⊎_elim, inl, inr}
use Rattle.std.specs.Option.{option_to_list}
use Rattle.rc_cell.specs.declared.rows.Row.{Row}
use Rattle.rc_cell.specs.Orders.{tomb_cmp}
use Rattle.rc_cell.specs.Winner.{greatest}
use Rattle.rc_position.specs.declared.positions.Pos.{Pos}
use Rattle.rc_mutation.specs.declared.mutations.Mutation.{Mutation}
use Rattle.rc_core.specs.declared.entries.Entry.{Entry}
use Rattle.rc_core.specs.declared.entries.ChainKind.TheVariants.{Cache}
use Rattle.rc_core.specs.Version.{Behind, EndsWithDummy, IsVersion, On, Version}
use Rattle.rc_core.specs.SpotState.{SpotState, through}
use Rattle.rc_core.specs.Chain.{IsKnown, states_at, content, flag_over, has_flag}
use Rattle.rc_core.specs.Chains.{Chain, IsChainContinuous, IsMemtableChain, IsNeeded, IsPinned, IsUpdating, NewestIs, phase_at, upto, with_versions}
use Rattle.rc_core.specs.AtPlace.{IsAtPlace}
use Rattle.rc_core.specs.Change.{lose_first_gap}
use Rattle.rc_core.specs.Continuity.{IsEvicted, static_states, with_entries, without_statics}
use Rattle.rc_core.specs.Merge.{Alike, IsMerged, IsSeenAlike, IsSilent}
use Rattle.rc_core.specs.StandsFor.{StandsFor}
use Rattle.rc_core.specs.Steps.{IsCarriedIn, IsChain, drop_version, number_after_removal, pin_at}
use Rattle.rc_core.specs.laws.Carrying.{dropped-carried, merged-carried}
use Rattle.rc_core.specs.laws.Folding.{content-through, flagged-through}
use Rattle.rc_core.specs.laws.Freeing.{replaced-form}
use Rattle.rc_core.specs.laws.Keeping.{evicted-chain}
use Rattle.rc_core.specs.laws.Losing.{evicted-seen, known-before, statics-evicted}
use Rattle.rc_core.specs.laws.MemtableChains.{dropped-memtable, merged-memtable}
use Rattle.rc_core.specs.laws.Merged.{all_but-parts, dropped-form, dropped-seen-each, dropped-whole, merged-form, merged-seen-each, merged-whole, needed-two}
use Rattle.rc_core.specs.laws.Merging.{dropped-seen, merged-seen}
use Rattle.rc_core.specs.laws.Pins.{pin-renumbered}
use Rattle.rc_core.specs.laws.Standing.{NewestIs-back, Stand, above, above-is, above-zero, length-cons, older_or_from, stand, stand-from, stand-older}
use Rattle.rc_core.specs.laws.Written.{alike-stands}
use Rattle.rc_units.specs.Chained.{IsKnownAsBefore, chain_left, number_left, pins_left}
use Rattle.rc_units.specs.Clean.{MayMerge, cache_cleaned_by, cleaned_by, cleaned_versions, cleaned_without_room, emptied_version, end_merged, entry_cleaned, gap_said, merge_entry, statics_onto, statics_said}
use Rattle.rc_units.proofs.Cleaning.{emptied-silent, end-merged, entry-merged, statics-merged}
use Rattle.rc_units.proofs.Under.{pt_known}
use Rattle.rc_units.proofs.Units.{alike-again, alike-both, first-evicted, first_before, last_is_dummy, no_entries}
use Rattle.rc_units.proofs.Versions.{end_merged-version, gap_said-version, lost-version, merge_entry-version}

-- a version that may be merged is one that nobody needs
pub unneeded : (c : Chain) (j : ℕ) → MayMerge c j → IsNeeded c j → ⊥
unneeded c j may need = ⊎_elim may.unpinned (λ h. ⊎_elim (λ a. omega (arith, a.1, may.older)) (λ u. may.settled u.0 u.1) h) need

emptied-version : (e : Entry) (v : Version) → v.entries ≡ e ∷ [] → IsVersion v → IsVersion (emptied_version e v)
emptied-version e v h i = record { ascend = tt; ends = ((subst EndsWithDummy h i.ends).0, refl) }

statics_said-version : (v : Version) → IsVersion v → IsVersion (statics_said v)
statics_said-version v i = record { ascend = i.ascend; ends = i.ends }

statics_onto-version : (v w : Version) → IsVersion w → IsVersion (statics_onto v w)
statics_onto-version v w i = record { ascend = i.ascend; ends = i.ends }

-- ---- what merging and dropping keep, a unit keeps

module _ (P : Chain → (ℕ → ℕ) → Type 0)
    (merged : (c : Chain) (front back : List Version) (a b x y : Version) (f : ℕ → ℕ) → c.versions ≡ front ++ a ∷ b ∷ back → (IsNeeded c (length front) → ⊥) → IsMerged a b x y → x.phase ≡ a.phase → y.phase ≡ b.phase → IsVersion x → IsVersion y → P c f → P (with_versions (front ++ x ∷ y ∷ back) c) f)
    (dropped : (c : Chain) (front back : List Version) (v w : Version) (f : ℕ → ℕ) → c.versions ≡ front ++ v ∷ w ∷ back → (IsNeeded c (length front) → ⊥) → IsSilent v →
    greatest tomb_cmp (option_to_list v.pt ++ option_to_list w.pt) ≡ greatest tomb_cmp (option_to_list w.pt) → P c f → P (drop_version (length front) c) (λ j. number_after_removal (length front) (f j)))
    (front back : List Version) (f : ℕ → ℕ) where
  -- what a unit makes of a chain, with the numbers that versions have then
  abbrev Left : List Version → Chain → Type 0
  Left left c = P (chain_left front left back c) (λ j. number_left left (length front) (f j))

  still_off : (c : Chain) (a b x y : Version) → c.versions ≡ front ++ a ∷ b ∷ back → (IsNeeded c (length front) → ⊥) → IsNeeded (with_versions (front ++ x ∷ y ∷ back) c) (length front) → ⊥
  still_off c a b x y vs off need = subst (λ us. IsNeeded (with_versions us c) (length front) → ⊥) vs off (needed-two front back a b x y c (length front) need)

  -- the end dummy merged, and the version dropped
  end_step : (c : Chain) (v w : Version) (e : Entry) → c.versions ≡ front ++ v ∷ w ∷ back → (IsNeeded c (length front) → ⊥) → v.entries ≡ e ∷ [] → IsVersion v → IsVersion w → P c f → Left (end_merged e v w ∷ []) c
  end_step c v w e vs off h i j p =
      subst (λ us. P (record { kind = c.kind; versions = us; attached = c.attached; updating = c.updating; pins = list_map (option_map (number_after_removal (length front))) c.pins }) (λ k. number_after_removal (length front) (f k)))
      (all_but-parts front (end_merged e v w ∷ back) (emptied_version e v))
      (dropped (with_versions (front ++ emptied_version e v ∷ end_merged e v w ∷ back) c) front back (emptied_version e v) (end_merged e v w) f refl
      (still_off c v w (emptied_version e v) (end_merged e v w) vs off)
      (emptied-silent e v) (pt_known v.pt w.pt)
      (merged c front back v w (emptied_version e v) (end_merged e v w) f vs off (end-merged v w e h i j) refl refl (emptied-version e v h i) (end_merged-version e v w (last_is_dummy v e h i) j) p))

  module _ (c : Chain) (v w : Version) (vs : c.versions ≡ front ++ v ∷ w ∷ back) (off : IsNeeded c (length front) → ⊥) (i : IsVersion v) (j : IsVersion w) (p : P c f) where
    entry_step : (e n : Entry) (more : List Entry) → v.entries ≡ e ∷ n ∷ more → Left (entry_cleaned e n more v w) c
    entry_step e n [] h =
        let v1 = with_entries (gap_said n ∷ []) v in
        let w1 = with_entries (merge_entry e n w.entries) w in
        end_step (with_versions (front ++ v1 ∷ w1 ∷ back) c) v1 w1 (gap_said n) refl
        (still_off c v w v1 w1 vs off) refl
        (gap_said-version v e n [] h i) (merge_entry-version e n (first_before v e n [] h i) w j)
        (merged c front back v w v1 w1 f vs off (entry-merged v w e n [] h i j) refl refl (gap_said-version v e n [] h i) (merge_entry-version e n (first_before v e n [] h i) w j) p)
    entry_step e n (b ∷ more) h =
        merged c front back v w (with_entries (gap_said n ∷ b ∷ more) v) (with_entries (merge_entry e n w.entries) w) f vs off (entry-merged v w e n (b ∷ more) h i j) refl refl
        (gap_said-version v e n (b ∷ more) h i) (merge_entry-version e n (first_before v e n (b ∷ more) h i) w j) p

    entries_step : (es : List Entry) → v.entries ≡ es → Left (cleaned_by None es v w) c
    entries_step [] h = absurd (no_entries v h i)
    entries_step (e ∷ []) h = end_step c v w e vs off h i j p
    entries_step (e ∷ n ∷ more) h = entry_step e n more h

    statics_step : (row : Option Row) → Left (cleaned_by row v.entries v w) c
    statics_step (Some row) = merged c front back v w (statics_said v) (statics_onto v w) f vs off (statics-merged v w) refl refl (statics_said-version v i) (statics_onto-version v w j) p
    statics_step None = entries_step v.entries refl

    pub cleaned-keeps : Left (cleaned_versions v w) c
    cleaned-keeps = statics_step v.statics

    -- without room, where besides an eviction keeps it
    module _ (evicted : (x : Version) → IsEvicted v x → x.phase ≡ v.phase → IsVersion x → P (with_versions (front ++ x ∷ w ∷ back) c) f) where
      lost_entries_step : (es : List Entry) → v.entries ≡ es → Left (cache_cleaned_by None es v w) c
      lost_entries_step [] h = absurd (no_entries v h i)
      lost_entries_step (e ∷ []) h = end_step c v w e vs off h i j p
      lost_entries_step (e ∷ n ∷ more) h = evicted (with_entries (lose_first_gap (n ∷ more)) v) (first-evicted v e n more h i) refl (lost-version v e n more h i)

      lost_statics_step : (row : Option Row) → Left (cache_cleaned_by row v.entries v w) c
      lost_statics_step (Some row) = evicted (without_statics v) (statics-evicted v) refl (record { ascend = i.ascend; ends = i.ends })
      lost_statics_step None = lost_entries_step v.entries refl

      pub lost-keeps : Left (cleaned_without_room Cache v w) c
      lost-keeps = lost_statics_step v.statics

-- ---- continuity, the form, what is carried, a memtable's

module _ (c : Chain) (front back : List Version) (v w : Version) (vs : c.versions ≡ front ++ v ∷ w ∷ back) (may : MayMerge c (length front)) (i : IsVersion v) (j : IsVersion w) where
  off : IsNeeded c (length front) → ⊥
  off = unneeded c (length front) may

  newest_stays : (P : Version → Type 0) (x : Version) → NewestIs P (front ++ v ∷ w ∷ back) → NewestIs P (front ++ x ∷ w ∷ back)
  newest_stays P x h = subst (λ (T : Type 0). T) (NewestIs-back P front v (w ∷ back) ∙ sym (NewestIs-back P front x (w ∷ back))) h

  pub cleaned-chain : (below : ℕ → List Mutation) → IsChainContinuous below c → IsChainContinuous below (chain_left front (cleaned_versions v w) back c)
  cleaned-chain below k = cleaned-keeps (λ d _. IsChainContinuous below d)
      (λ d fs bs a b x y _ es o m px py _ _ q. merged-whole below d fs bs a b x y es o m px py q)
      (λ d fs bs a b _ es o s t q. dropped-whole below d fs bs a b es o s t q)
      front back (λ n. n) c v w vs off i j k

  pub lost-cleaned-chain : (below : ℕ → List Mutation) → IsChainContinuous below c → IsChainContinuous below (chain_left front (cleaned_without_room Cache v w) back c)
  lost-cleaned-chain below k = lost-keeps (λ d _. IsChainContinuous below d)
      (λ d fs bs a b x y _ es o m px py _ _ q. merged-whole below d fs bs a b x y es o m px py q)
      (λ d fs bs a b _ es o s t q. dropped-whole below d fs bs a b es o s t q)
      front back (λ n. n) c v w vs off i j k
      (λ x lost same _. evicted-chain below c front (w ∷ back) v x vs lost same (λ p e. newest_stays (IsAtPlace p) x (subst (NewestIs (IsAtPlace p)) vs (k.ahead p e))) k)

  pub cleaned-form : IsChain c → IsChain (chain_left front (cleaned_versions v w) back c)
  cleaned-form k = cleaned-keeps (λ d _. IsChain d)
      (λ d fs bs a b x y _ es o m _ _ ix iy q. merged-form d fs bs a b x y es ix iy q)
      (λ d fs bs a b _ es o s t q. dropped-form d fs bs a b es o q)
      front back (λ n. n) c v w vs off i j k

  pub lost-cleaned-form : IsChain c → IsChain (chain_left front (cleaned_without_room Cache v w) back c)
  lost-cleaned-form k = lost-keeps (λ d _. IsChain d)
      (λ d fs bs a b x y _ es o m _ _ ix iy q. merged-form d fs bs a b x y es ix iy q)
      (λ d fs bs a b _ es o s t q. dropped-form d fs bs a b es o q)
      front back (λ n. n) c v w vs off i j k
      (λ x lost same ix. replaced-form c front (w ∷ back) v x vs ix k)

  pub cleaned-carried : (x : Pos) → IsCarriedIn c x → IsCarriedIn (chain_left front (cleaned_versions v w) back c) x
  cleaned-carried x k = cleaned-keeps (λ d _. IsCarriedIn d x)
      (λ d fs bs a b xx y _ es o m _ _ _ _ q. merged-carried d fs bs a b xx y x es o m q)
      (λ d fs bs a b _ es o s t q. dropped-carried d fs bs a b x es o s t q)
      front back (λ n. n) c v w vs off i j k

  pub cleaned-memtable : IsMemtableChain c → IsMemtableChain (chain_left front (cleaned_versions v w) back c)
  cleaned-memtable k = cleaned-keeps (λ d _. IsMemtableChain d)
      (λ d fs bs a b x y _ es o m _ _ _ _ q. merged-memtable d fs bs a b x y es o m q)
      (λ d fs bs a b _ es o s t q. dropped-memtable d fs bs a b es o s t q)
      front back (λ n. n) c v w vs off i j k

  pub cleaned-stands : (writes : List Mutation) → StandsFor writes c.versions → StandsFor writes (chain_left front (cleaned_versions v w) back c).versions
  cleaned-stands writes k = cleaned-keeps (λ d _. StandsFor writes d.versions)
      (λ d fs bs a b x y _ es o m _ _ _ _ q. alike-stands writes (fs ++ a ∷ b ∷ bs) (fs ++ x ∷ y ∷ bs) (merged-seen fs bs a b x y m) (subst (StandsFor writes) es q))
      (λ d fs bs a b _ es o s t q. subst (StandsFor writes) (sym (ap (λ us. (drop_version (length fs) (with_versions us d)).versions) es ∙ all_but-parts fs (b ∷ bs) a))
      (alike-stands writes (fs ++ a ∷ b ∷ bs) (fs ++ b ∷ bs) (dropped-seen fs bs a b s t) (subst (StandsFor writes) es q)))
      front back (λ n. n) c v w vs off i j k

-- ---- what is seen at each version that is needed

pub pinned_by : (n k : ℕ) (pins : List (Option ℕ)) → IsPinned pins k → IsPinned (list_map (option_map (number_after_removal n)) pins) (number_after_removal n k)
pinned_by n k [] h = h
pinned_by n k (p ∷ ps) h = ⊎_elim (λ e. inl (ap (option_map (number_after_removal n)) e)) (λ r. inr (pinned_by n k ps r)) h

-- a version above the dropped one has its number less by one
above_dropped : (n k : ℕ) → n < k → suc (number_after_removal n k) ≡ k
above_dropped n zero l = absurd (omega (arith, l))
above_dropped zero (suc k) l = refl
above_dropped (suc n) (suc k) l = ap suc (above_dropped n k (omega (arith, l)))

dropped-needed : (c : Chain) (front back : List Version) (v w : Version) (k : ℕ) → c.versions ≡ front ++ v ∷ w ∷ back → (IsNeeded c (length front) → ⊥) → IsNeeded c k → IsNeeded (drop_version (length front) c) (number_after_removal (length front) k)
dropped-needed c front back v w k vs off need = ⊎_elim
    (λ p. inl (pinned_by (length front) k c.pins p))
    (λ h. inr (⊎_elim
    (λ a. inl (a.0, omega (arith, above_dropped (length front) k (omega (arith, a.1, lengths)), a.1, lengths, less)))
    (λ u. inr (u.0, omega (arith, above_dropped (length front) k (past u.0 u.1), u.1, lengths, less)))
    h))
    need
  where
    lengths : length c.versions ≡ suc (suc (length front + length back))
    lengths = omega (arith, ap length vs, length-cons front v (w ∷ back))

    less : length (drop_version (length front) c).versions ≡ suc (length front + length back)
    less = omega (arith, ap length (ap (λ us. (drop_version (length front) (with_versions us c)).versions) vs ∙ all_but-parts front (w ∷ back) v), length-cons front w back)

    -- the version below the newest is not the dropped one, and not below it
    past : IsUpdating c.updating → suc (suc k) ≡ length c.versions → length front < k
    past u e = ⊎_elim
        (λ l. absurd (omega (arith, l, e, lengths)))
        (λ m. from m.0 m.1)
        (older_or_from k (length front))
      where
        from : (m : ℕ) → k ≡ above (length front) m → length front < k
        from zero g = absurd (off (inr (inr (u, ap (λ n. suc (suc n)) (sym (g ∙ above-zero (length front))) ∙ e))))
        from (suc m) g = omega (arith, g, above-is (length front) (suc m))

-- what the versions up to one that is needed say now, and that it is still needed
record Sees (before now : Chain) (f : ℕ → ℕ) : Type 0 where
  pub needed : (k : ℕ) → IsNeeded before k → IsNeeded now (f k)
  pub seen : (k : ℕ) → IsNeeded before k → IsSeenAlike (upto before.versions k) (upto now.versions (f k))

sees-merged : (before c : Chain) (front back : List Version) (a b x y : Version) (f : ℕ → ℕ) → c.versions ≡ front ++ a ∷ b ∷ back → (IsNeeded c (length front) → ⊥) → IsMerged a b x y → Sees before c f → Sees before (with_versions (front ++ x ∷ y ∷ back) c) f
sees-merged before c front back a b x y f vs off m s = record {
  needed = λ k need. needed-two front back x y a b c (f k) (subst (λ us. IsNeeded (with_versions us c) (f k)) vs (s.needed k need));
  seen = λ k need. alike-both (upto before.versions k) (upto c.versions (f k)) (upto (front ++ x ∷ y ∷ back) (f k)) (s.seen k need) (merged-seen-each c front back a b x y vs off m (f k) (s.needed k need));
}

sees-dropped : (before c : Chain) (front back : List Version) (v w : Version) (f : ℕ → ℕ) → c.versions ≡ front ++ v ∷ w ∷ back → (IsNeeded c (length front) → ⊥) → IsSilent v →
    greatest tomb_cmp (option_to_list v.pt ++ option_to_list w.pt) ≡ greatest tomb_cmp (option_to_list w.pt) → Sees before c f → Sees before (drop_version (length front) c) (λ k. number_after_removal (length front) (f k))
sees-dropped before c front back v w f vs off h t s = record {
  needed = λ k need. dropped-needed c front back v w (f k) vs off (s.needed k need);
  seen = λ k need. alike-both (upto before.versions k) (upto c.versions (f k)) (upto (drop_version (length front) c).versions (number_after_removal (length front) (f k))) (s.seen k need)
      (dropped-seen-each c front back v w vs off h t (f k) (s.needed k need));
}

module _ (c : Chain) (front back : List Version) (v w : Version) (vs : c.versions ≡ front ++ v ∷ w ∷ back) (may : MayMerge c (length front)) (i : IsVersion v) (j : IsVersion w) where
  sees : Sees c (chain_left front (cleaned_versions v w) back c) (λ k. number_left (cleaned_versions v w) (length front) k)
  sees = cleaned-keeps (λ d f. Sees c d f)
      (λ d fs bs a b x y f es o m _ _ _ _ q. sees-merged c d fs bs a b x y f es o m q)
      (λ d fs bs a b f es o s t q. sees-dropped c d fs bs a b f es o s t q)
      front back (λ n. n) c v w vs (unneeded c (length front) may) i j
      (record { needed = λ _ need. need; seen = λ k _. alike-again (upto c.versions k) })

  pub cleaned-seen : (k : ℕ) → IsNeeded c k → IsSeenAlike (upto c.versions k) (upto (chain_left front (cleaned_versions v w) back c).versions (number_left (cleaned_versions v w) (length front) k))
  cleaned-seen = sees.seen

  pub cleaned-needed : (k : ℕ) → IsNeeded c k → IsNeeded (chain_left front (cleaned_versions v w) back c) (number_left (cleaned_versions v w) (length front) k)
  cleaned-needed = sees.needed

-- a snapshot's number stays, and it pins the same version
pub pins-left : (left : List Version) (n i : ℕ) (pins : List (Option ℕ)) → pin_at (pins_left left n pins) i ≡ option_map (number_left left n) (pin_at pins i)
pins-left [] n i pins = same (pin_at pins i)
  where
    same : (o : Option ℕ) → o ≡ option_map (λ k. k) o
    same None = refl
    same (Some k) = refl
pins-left (w ∷ []) n i pins = pin-renumbered n i pins
pins-left (v ∷ w ∷ more) n i pins = same (pin_at pins i)
  where
    same : (o : Option ℕ) → o ≡ option_map (λ k. k) o
    same None = refl
    same (Some k) = refl

-- ---- without room

known_alike : (before now : List SpotState) → Alike (through now) (through before) → IsTrue (has_flag Cache now) → IsTrue (has_flag Cache before) × (content now ≡ content before)
known_alike before now h k = (
  flagged-through Cache before ∙ ap (flag_over Cache) (sym h.0) ∙ sym (flagged-through Cache now) ∙ k,
  content-through now ∙ h.1 ∙ sym (content-through before),
)

alike-as-before : (before now : List Version) → IsSeenAlike before now → IsKnownAsBefore before now
alike-as-before before now h = record {
  statics = known_alike (static_states before) (static_states now) h.statics;
  clustered = λ s. known_alike (states_at s before) (states_at s now) (h.clustered s);
  head = h.head;
}

as-before-both : (us vs ws : List Version) → IsKnownAsBefore us vs → IsKnownAsBefore vs ws → IsKnownAsBefore us ws
as-before-both us vs ws h k = record {
  statics = λ f. let a = k.statics f in let b = h.statics a.0 in (b.0, a.1 ∙ b.1);
  clustered = λ s f. let a = k.clustered s f in let b = h.clustered s a.0 in (b.0, a.1 ∙ b.1);
  head = k.head ∙ h.head;
}

record Knows (before now : Chain) (f : ℕ → ℕ) : Type 0 where
  pub needed : (k : ℕ) → IsNeeded before k → IsNeeded now (f k)
  pub known : (k : ℕ) → IsNeeded before k → IsKnownAsBefore (upto before.versions k) (upto now.versions (f k))

module _ (c : Chain) (front back : List Version) (v w : Version) (vs : c.versions ≡ front ++ v ∷ w ∷ back) (may : MayMerge c (length front)) (i : IsVersion v) (j : IsVersion w) where
  -- one object lost of a version that nobody needs
  one_lost : (x : Version) → IsEvicted v x → (k : ℕ) → IsKnownAsBefore (upto c.versions k) (upto (front ++ x ∷ w ∷ back) k)
  one_lost x lost k = subst (λ us. IsKnownAsBefore (upto us k) (upto (front ++ x ∷ w ∷ back) k)) (sym vs) (⊎_elim
      (λ o. subst (λ us. IsKnownAsBefore (upto (front ++ v ∷ w ∷ back) k) us) (ap (λ (s : Stand). s.1) (stand-older k front (v ∷ w ∷ back) o ∙ sym (stand-older k front (x ∷ w ∷ back) o)))
      (alike-as-before (upto (front ++ v ∷ w ∷ back) k) (upto (front ++ v ∷ w ∷ back) k) (alike-again (upto (front ++ v ∷ w ∷ back) k))))
      (λ m. subst (λ us. IsKnownAsBefore us (upto (front ++ x ∷ w ∷ back) k)) (sym (ap (λ (s : Stand). s.1) (ap (stand (front ++ v ∷ w ∷ back)) m.1 ∙ from v m.0)))
      (subst (IsKnownAsBefore (front ++ v ∷ rest m.0)) (sym (ap (λ (s : Stand). s.1) (ap (stand (front ++ x ∷ w ∷ back)) m.1 ∙ from x m.0)))
      (lost_here (rest m.0))))
      (older_or_from k (length front)))
    where
      rest : ℕ → List Version
      rest m = take m (w ∷ back)

      from : (u : Version) (m : ℕ) → stand (front ++ u ∷ w ∷ back) (above (length front) m) ≡ (phase_at (u ∷ w ∷ back) m, front ++ u ∷ rest m)
      from u m = stand-from m front (u ∷ w ∷ back)

      lost_here : (newer : List Version) → IsKnownAsBefore (front ++ v ∷ newer) (front ++ x ∷ newer)
      lost_here newer = let l = evicted-seen front newer v x lost in record {
        statics = known-before (static_states (front ++ v ∷ newer)) (static_states (front ++ x ∷ newer)) l.statics;
        clustered = λ s. known-before (states_at s (front ++ v ∷ newer)) (states_at s (front ++ x ∷ newer)) (l.clustered s);
        head = l.head;
      }

  knows : Knows c (chain_left front (cleaned_without_room Cache v w) back c) (λ k. number_left (cleaned_without_room Cache v w) (length front) k)
  knows = lost-keeps (λ d f. Knows c d f)
      (λ d fs bs a b x y f es o m _ _ _ _ q. record {
        needed = λ k need. needed-two fs bs x y a b d (f k) (subst (λ us. IsNeeded (with_versions us d) (f k)) es (q.needed k need));
        known = λ k need. as-before-both (upto c.versions k) (upto d.versions (f k)) (upto (fs ++ x ∷ y ∷ bs) (f k)) (q.known k need)
            (alike-as-before (upto d.versions (f k)) (upto (fs ++ x ∷ y ∷ bs) (f k)) (merged-seen-each d fs bs a b x y es o m (f k) (q.needed k need)));
      })
      (λ d fs bs a b f es o s t q. record {
        needed = λ k need. dropped-needed d fs bs a b (f k) es o (q.needed k need);
        known = λ k need. as-before-both (upto c.versions k) (upto d.versions (f k)) (upto (drop_version (length fs) d).versions (number_after_removal (length fs) (f k))) (q.known k need)
            (alike-as-before (upto d.versions (f k)) (upto (drop_version (length fs) d).versions (number_after_removal (length fs) (f k))) (dropped-seen-each d fs bs a b es o s t (f k) (q.needed k need)));
      })
      front back (λ n. n) c v w vs (unneeded c (length front) may) i j
      (record { needed = λ _ need. need; known = λ k _. alike-as-before (upto c.versions k) (upto c.versions k) (alike-again (upto c.versions k)) })
      (λ x lost _ _. record {
        needed = λ k need. same_needed x k need;
        known = λ k _. one_lost x lost k;
      })
    where
      same_needed : (x : Version) (k : ℕ) → IsNeeded c k → IsNeeded (with_versions (front ++ x ∷ w ∷ back) c) k
      same_needed x k need = subst (λ n. IsPinned c.pins k ⊎ ((c.attached ≡ true) × (suc k ≡ n)) ⊎ (IsUpdating c.updating × (suc (suc k) ≡ n)))
          (ap length vs ∙ length-cons front v (w ∷ back) ∙ sym (length-cons front x (w ∷ back))) need

  pub lost-known-each : (k : ℕ) → IsNeeded c k → IsKnownAsBefore (upto c.versions k) (upto (chain_left front (cleaned_without_room Cache v w) back c).versions (number_left (cleaned_without_room Cache v w) (length front) k))
  lost-known-each = knows.known

  pub lost-needed : (k : ℕ) → IsNeeded c k → IsNeeded (chain_left front (cleaned_without_room Cache v w) back c) (number_left (cleaned_without_room Cache v w) (length front) k)
  lost-needed = knows.needed

-- ---- at a position

pub as_before-known : (before now : List Version) (x : Pos) → IsKnownAsBefore before now → IsKnown Cache now x → IsKnown Cache before x × (content (states_at (On x) now) ≡ content (states_at (On x) before))
as_before-known before now x k h = let e = (k.clustered (On x) h.at).1 in (
  record {
    at = (k.clustered (On x) h.at).0;
    gap = λ b. (k.clustered (Behind x) (h.gap (record { inside = b.inside; no_row = ap (λ c. c.0) e ∙ b.no_row }))).0;
  },
  e,
)
