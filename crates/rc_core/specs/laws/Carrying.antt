-- What stays carried: a position that is known in the version that a snapshot pins and, before the update's place, in the newest too.
use Rattle.std.specs.Prelude.{◌≡◌, ℕ, suc, true, false, List, [], ◌∷◌, ◌++◌, Option, Some, None, length}
use Rattle.std.proofs.Common.{refl, sym, ap, ◌∙◌, subst, inl, inr, arith}
use Rattle.std.specs.declared.cmp.Ordering.TheVariants.{Less, Equal, Greater}
use Rattle.std.specs.Option.{option_to_list}
use Rattle.rc_cell.specs.declared.rows.Row.{Row}
use Rattle.rc_cell.specs.declared.writes.Tomb.{Tomb}
use Rattle.rc_cell.specs.Orders.{tomb_cmp}
use Rattle.rc_cell.specs.Winner.{greatest, empty_row}
use Rattle.rc_position.specs.declared.positions.Pos.{Pos}
use Rattle.rc_position.specs.Position.{Place, End, pos_cmp, covers}
use Rattle.rc_position.specs.laws.Orders.{pos_cmp_same}
use Rattle.rc_mutation.specs.declared.mutations.Mutation.{Mutation}
use Rattle.rc_mutation.specs.Source.{source_at}
use Rattle.rc_core.specs.declared.entries.ChainKind.TheVariants.{Cache}
use Rattle.rc_core.specs.Version.{On, Behind, Version, IsVersion, state_at, static_state, spot_cmp}
use Rattle.rc_core.specs.Chain.{IsKnown}
use Rattle.rc_core.specs.Continuity.{IsContinuous, fill_statics}
use Rattle.rc_core.specs.Merge.{IsMerged, IsSilent, IsSeenAlike, new_version}
use Rattle.rc_core.specs.Chains.{Chain, phase_at, IsNeeded, IsUpdating, IsCarried, IsChainContinuous, with_versions}
use Rattle.rc_core.specs.Steps.{IsChain, MayPopulate, IsCarriedIn, but_newest, pinned_by_snapshot, all_but, drop_version, on_newest, with_newest, with_updating, gap_filled, row_filled, begin_update, with_phase}
use Rattle.rc_core.specs.Unit.{IsUnit}
use Rattle.rc_core.specs.laws.Spots.{behind-Equal, position-reached, gap-reached}
use Rattle.rc_core.specs.laws.Filling.{seen-same, gap-known, gap-elsewhere, row-known, row-elsewhere}
use Rattle.rc_core.specs.laws.Losing.{tombs-same}
use Rattle.rc_core.specs.laws.Merging.{equal_alike, merged-seen, dropped-seen}
use Rattle.rc_core.specs.laws.Updating.{carried}
use Rattle.rc_core.specs.laws.Units.{known_same, unit-known}
use Rattle.rc_core.specs.laws.Standing.{Stand, stand, above-zero, length-cons, stand-at, newest-is, Newest, on_newest-parts}
use Rattle.rc_core.specs.laws.Populating.{phase-newest, newest-version}
use Rattle.rc_core.specs.laws.Merged.{all_but-parts}

but_newest-back : (front : List Version) (z : Version) (zs : List Version) → but_newest (front ++ z ∷ zs) ≡ front ++ but_newest (z ∷ zs)
but_newest-back [] z zs = refl
but_newest-back (f ∷ []) z zs = refl
but_newest-back (f ∷ g ∷ fs) z zs = ap (λ us. f ∷ us) (but_newest-back (g ∷ fs) z zs)

-- the last of the versions but the newest are the versions before it
but_newest-older : (older : List Version) (v : Version) → but_newest (older ++ v ∷ []) ≡ older
but_newest-older [] v = refl
but_newest-older (o ∷ []) v = refl
but_newest-older (o ∷ p ∷ os) v = ap (λ us. o ∷ us) (but_newest-older (p ∷ os) v)

-- ---- merging and dropping

pub merged-carried : (c : Chain) (front back : List Version) (a b x y : Version) (p : Pos) → c.versions ≡ front ++ a ∷ b ∷ back → (IsNeeded c (length front) → ⊥) → IsMerged a b x y →
    IsCarriedIn c p → IsCarriedIn (with_versions (front ++ x ∷ y ∷ back) c) p
merged-carried c front back a b x y p vs off m h = carried c.updating (pinned_by_snapshot c.updating (front ++ a ∷ b ∷ back)) (front ++ a ∷ b ∷ back) (pinned_by_snapshot c.updating (front ++ x ∷ y ∷ back)) (front ++ x ∷ y ∷ back) p
    (pinned c.updating refl back vs)
    (merged-seen front back a b x y m)
    (subst (λ us. IsCarried c.updating (pinned_by_snapshot c.updating us) us p) vs h)
  where
    pinned : (u : Option Place) → c.updating ≡ u → (zs : List Version) → c.versions ≡ front ++ a ∷ b ∷ zs → IsSeenAlike (pinned_by_snapshot u (front ++ a ∷ b ∷ zs)) (pinned_by_snapshot u (front ++ x ∷ y ∷ zs))
    pinned None e zs d = merged-seen front zs a b x y m
    pinned (Some q) e [] d = absurd (off (inr (inr (subst IsUpdating (sym e) tt, omega (arith, ap length d, length-cons front a (b ∷ []))))))
    pinned (Some q) e (z ∷ zs) d =
        subst (λ us. IsSeenAlike us (but_newest (front ++ x ∷ y ∷ z ∷ zs))) (sym (but_newest-back front a (b ∷ z ∷ zs)))
        (subst (IsSeenAlike (front ++ a ∷ b ∷ but_newest (z ∷ zs))) (sym (but_newest-back front x (y ∷ z ∷ zs)))
        (merged-seen front (but_newest (z ∷ zs)) a b x y m))

pub dropped-carried : (c : Chain) (front back : List Version) (v w : Version) (p : Pos) → c.versions ≡ front ++ v ∷ w ∷ back → (IsNeeded c (length front) → ⊥) → IsSilent v →
    greatest tomb_cmp (option_to_list v.pt ++ option_to_list w.pt) ≡ greatest tomb_cmp (option_to_list w.pt) → IsCarriedIn c p → IsCarriedIn (drop_version (length front) c) p
dropped-carried c front back v w p vs off s t h =
    subst (λ us. IsCarried c.updating (pinned_by_snapshot c.updating us) us p) (sym (ap (all_but (length front)) vs ∙ all_but-parts front (w ∷ back) v))
    (carried c.updating (pinned_by_snapshot c.updating (front ++ v ∷ w ∷ back)) (front ++ v ∷ w ∷ back) (pinned_by_snapshot c.updating (front ++ w ∷ back)) (front ++ w ∷ back) p
    (pinned c.updating refl back vs)
    (dropped-seen front back v w s t)
    (subst (λ us. IsCarried c.updating (pinned_by_snapshot c.updating us) us p) vs h))
  where
    pinned : (u : Option Place) → c.updating ≡ u → (zs : List Version) → c.versions ≡ front ++ v ∷ w ∷ zs → IsSeenAlike (pinned_by_snapshot u (front ++ v ∷ w ∷ zs)) (pinned_by_snapshot u (front ++ w ∷ zs))
    pinned None e zs d = dropped-seen front zs v w s t
    pinned (Some q) e [] d = absurd (off (inr (inr (subst IsUpdating (sym e) tt, omega (arith, ap length d, length-cons front v (w ∷ []))))))
    pinned (Some q) e (z ∷ zs) d =
        subst (λ us. IsSeenAlike us (but_newest (front ++ w ∷ z ∷ zs))) (sym (but_newest-back front v (w ∷ z ∷ zs)))
        (subst (IsSeenAlike (front ++ v ∷ w ∷ but_newest (z ∷ zs))) (sym (but_newest-back front w (z ∷ zs)))
        (dropped-seen front (but_newest (z ∷ zs)) v w s t))

-- ---- an update

pub unit-carried : (c : Chain) (older : List Version) (before now : Version) (change : Mutation) (p q : Place) (x : Pos) → c.versions ≡ older ++ before ∷ [] → c.updating ≡ Some p → IsUnit p q change before now →
    IsCarriedIn c x → IsCarriedIn (with_updating (Some q) (with_versions (older ++ now ∷ []) c)) x
unit-carried c older before now change p q x vs up u h =
    let was : IsCarried (Some p) (but_newest (older ++ before ∷ [])) (older ++ before ∷ []) x = subst (λ us. IsCarried (Some p) (but_newest us) us x) vs (subst (λ r. IsCarried r (pinned_by_snapshot r c.versions) c.versions x) up h) in
    let under = subst (λ us. IsKnown Cache us x) (but_newest-older older before) was.0 in
    (subst (λ us. IsKnown Cache us x) (sym (but_newest-older older now)) under, λ l. unit-known [] [] change older before now p q u x l under was.1)

pub begun-carried : (c : Chain) (phase : ℕ) (x : Pos) → c.updating ≡ None → IsCarriedIn c x → IsCarriedIn (begin_update phase c) x
begun-carried c phase x up h =
    let was : IsCarried None c.versions c.versions x = subst (λ r. IsCarried r (pinned_by_snapshot r c.versions) c.versions x) up h in
    (subst (λ us. IsKnown Cache us x) (sym (but_newest-older c.versions (new_version None phase))) was, λ l. let u : Greater ≡ Less = l in absurd (cc))

pub ended-carried : (c : Chain) (x : Pos) → c.updating ≡ Some End → IsCarriedIn c x → IsCarriedIn (with_updating None c) x
ended-carried c x up h =
    let was : IsCarried (Some End) (but_newest c.versions) c.versions x = subst (λ r. IsCarried r (pinned_by_snapshot r c.versions) c.versions x) up h in
    was.1 refl

-- ---- a new phase

same_seen : (versions : List Version) → IsSeenAlike versions versions
same_seen versions = record { statics = equal_alike _ _ refl; clustered = λ s. equal_alike _ _ refl; head = refl }

phase_above : (to : ℕ) (older : List Version) (v : Version) → IsSeenAlike (older ++ v ∷ []) (older ++ with_phase to v ∷ [])
phase_above to older v = record {
  statics = equal_alike _ _ (seen-same static_state older v (with_phase to v) refl);
  clustered = λ s. equal_alike _ _ (seen-same (state_at s) older v (with_phase to v) refl);
  head = ap (greatest tomb_cmp) (tombs-same older [] v (with_phase to v) refl);
}

pub phase-seen : (versions : List Version) (newest to : ℕ) → suc newest ≡ length versions → IsSeenAlike versions (on_newest (with_phase to) versions)
phase-seen versions newest to e = let n = newest-is versions newest e in
    subst (λ us. IsSeenAlike us (on_newest (with_phase to) us)) (sym n.parts)
    (subst (IsSeenAlike (n.older ++ n.newest ∷ [])) (sym (on_newest-parts (with_phase to) n.older n.newest)) (phase_above to n.older n.newest))

pub phase-carried : (c : Chain) (newest to : ℕ) (x : Pos) → suc newest ≡ length c.versions → IsCarriedIn c x → IsCarriedIn (with_newest (with_phase to) c) x
phase-carried c newest to x e h =
    carried c.updating (pinned_by_snapshot c.updating c.versions) c.versions (pinned_by_snapshot c.updating (on_newest (with_phase to) c.versions)) (on_newest (with_phase to) c.versions) x
    (pinned c.updating) (phase-seen c.versions newest to e) h
  where
    n : Newest c.versions newest
    n = newest-is c.versions newest e

    older : but_newest (on_newest (with_phase to) c.versions) ≡ but_newest c.versions
    older = ap but_newest (ap (on_newest (with_phase to)) n.parts ∙ on_newest-parts (with_phase to) n.older n.newest) ∙ but_newest-older n.older (with_phase to n.newest)
        ∙ sym (ap but_newest n.parts ∙ but_newest-older n.older n.newest)

    pinned : (u : Option Place) → IsSeenAlike (pinned_by_snapshot u c.versions) (pinned_by_snapshot u (on_newest (with_phase to) c.versions))
    pinned None = phase-seen c.versions newest to e
    pinned (Some q) = subst (IsSeenAlike (but_newest c.versions)) (sym older) (same_seen (but_newest c.versions))

-- ---- fills

module _ (c : Chain) (pin : ℕ) (m : MayPopulate c pin) (ch : IsChain c) where
  n : Newest c.versions pin
  n = newest-is c.versions pin m.newest

  i : IsVersion n.newest
  i = newest-version c.versions pin n ch.versions

  was_known : (x : Pos) → IsCarriedIn c x → IsKnown Cache (n.older ++ n.newest ∷ []) x
  was_known x h =
      let was : IsCarried None c.versions c.versions x = subst (λ r. IsCarried r (pinned_by_snapshot r c.versions) c.versions x) m.settled h in
      subst (λ us. IsKnown Cache us x) n.parts was

  now_carried : (f : Version → Version) (x : Pos) → IsKnown Cache (n.older ++ f n.newest ∷ []) x → IsCarriedIn (with_newest f c) x
  now_carried f x k =
      subst (λ r. IsCarried r (pinned_by_snapshot r (on_newest f c.versions)) (on_newest f c.versions) x) (sym m.settled)
      (subst (λ us. IsKnown Cache us x) (sym (ap (on_newest f) n.parts ∙ on_newest-parts f n.older n.newest)) k)

  pub gap-carried : (from to : Pos) (tomb : Option Tomb) (x : Pos) → IsCarriedIn c x → IsCarriedIn (with_newest (gap_filled from to tomb) c) x
  gap-carried from to tomb x h = let was = was_known x h in now_carried (gap_filled from to tomb) x
      (elim (covers from to x) as (λ b. covers from to x ≡ b → IsKnown Cache (n.older ++ gap_filled from to tomb n.newest ∷ []) x) [
        | true ↦ λ e. gap-known [] n.older n.newest i from to tomb x e
        | false ↦ λ e. known_same (n.older ++ n.newest ∷ []) (n.older ++ gap_filled from to tomb n.newest ∷ []) x
            (gap-elsewhere [] n.older n.newest i from to tomb (On x) (position-reached x n.newest.entries i.ends) e)
            (λ b. gap-elsewhere [] n.older n.newest i from to tomb (Behind x) (gap-reached x n.newest.entries i.ends b) e)
            was
      ] refl)

  pub gap-filled-carried : (from to : Pos) (tomb : Option Tomb) (x : Pos) → covers from to x ≡ true → IsCarriedIn (with_newest (gap_filled from to tomb) c) x
  gap-filled-carried from to tomb x e = now_carried (gap_filled from to tomb) x (gap-known [] n.older n.newest i from to tomb x e)

  pub statics-carried : (given : Option Row) (x : Pos) → IsCarriedIn c x → IsCarriedIn (with_newest (fill_statics given) c) x
  statics-carried given x h = let was = was_known x h in now_carried (fill_statics given) x
      (known_same (n.older ++ n.newest ∷ []) (n.older ++ fill_statics given n.newest ∷ []) x (seen-same (state_at (On x)) n.older n.newest (fill_statics given n.newest) refl) (λ _. seen-same (state_at (Behind x)) n.older n.newest (fill_statics given n.newest) refl) was)

  module _ (below : ℕ → List Mutation) (p : Pos) (row : Row) (tomb : Option Tomb) (given : source_at (below (phase_at c.versions pin)) p ≡ (row, tomb)) (some : row ≡ empty_row → ⊥) (k : IsChainContinuous below c) where
    newest_ok : IsContinuous None (below (phase_at c.versions pin)) (n.older ++ n.newest ∷ [])
    newest_ok =
        subst (λ q. IsContinuous None (below q) (n.older ++ n.newest ∷ [])) (sym (phase-newest c.versions pin n))
        (subst (λ (s : Stand). IsContinuous None (below s.0) s.1) (ap (λ us. stand us pin) n.parts ∙ stand-at pin n.older [] n.newest (sym n.number ∙ sym (above-zero (length n.older))))
        (k.needed pin None (λ _. sym m.settled, λ _. refl) (inr (inl (m.attached, m.newest)))))

    row_is_known : IsKnown Cache (n.older ++ row_filled p row tomb n.newest ∷ []) p
    row_is_known = row-known (below (phase_at c.versions pin)) n.older n.newest i p row tomb given some newest_ok

    pub row-filled-carried : IsCarriedIn (with_newest (row_filled p row tomb) c) p
    row-filled-carried = now_carried (row_filled p row tomb) p row_is_known

    pub row-carried : (x : Pos) → IsCarriedIn c x → IsCarriedIn (with_newest (row_filled p row tomb) c) x
    row-carried x h = let was = was_known x h in now_carried (row_filled p row tomb) x
        (elim (pos_cmp x p) as (λ r. pos_cmp x p ≡ r → IsKnown Cache (n.older ++ row_filled p row tomb n.newest ∷ []) x) [
          | Less ↦ λ e. other x was (λ d. let u : Less ≡ Equal = sym e ∙ d in cc)
          | Equal ↦ λ e. subst (λ y. IsKnown Cache (n.older ++ row_filled p row tomb n.newest ∷ []) y) (sym (pos_cmp_same x p e)) row_is_known
          | Greater ↦ λ e. other x was (λ d. let u : Greater ≡ Equal = sym e ∙ d in cc)
        ] refl)
      where
        other : (y : Pos) → IsKnown Cache (n.older ++ n.newest ∷ []) y → (spot_cmp (On y) p ≡ Equal → ⊥) → IsKnown Cache (n.older ++ row_filled p row tomb n.newest ∷ []) y
        other y w off = known_same (n.older ++ n.newest ∷ []) (n.older ++ row_filled p row tomb n.newest ∷ []) y (row-elsewhere [] n.older n.newest i p row tomb (On y) off) (λ _. row-elsewhere [] n.older n.newest i p row tomb (Behind y) (behind-Equal (pos_cmp y p))) w
