-- The form of a memtable's chain where a version is added, merged, dropped or freed, and where pins go.
use Rattle.std.specs.Prelude.{◌≡◌, ◌⊎◌, ◌<◌, ℕ, zero, suc, true, List, [], ◌∷◌, ◌++◌, Option, option_map, take, length, map as list_map}
use Rattle.std.proofs.Common.{append-nil, refl, sym, ap, ◌∙◌, subst, ⊎_elim, inl, inr, arith}
use Rattle.std.specs.Option.{option_to_list}
use Rattle.rc_cell.specs.declared.writes.Tomb.{Tomb}
use Rattle.rc_cell.specs.Orders.{tomb_cmp}
use Rattle.rc_cell.specs.Winner.{greatest}
use Rattle.rc_position.specs.declared.positions.Pos.{Pos}
use Rattle.rc_core.specs.declared.entries.ChainKind.TheVariants.{Memtable}
use Rattle.rc_core.specs.declared.entries.Flag.{Flag}
use Rattle.rc_core.specs.declared.entries.Flag.TheVariants.{Known, Unknown, Inherit}
use Rattle.rc_core.specs.SpotState.{SpotState, silent, over, through}
use Rattle.rc_core.specs.Version.{On, Behind, Version, state_at}
use Rattle.rc_core.specs.Chain.{IsEvenAt}
use Rattle.rc_core.specs.Continuity.{EachOf}
use Rattle.rc_core.specs.Merge.{IsPutDown, IsMerged, IsSilent, new_version}
use Rattle.rc_core.specs.Chains.{Chain, upto, IsPinned, IsNeeded, AllInherit, IsMemtableChain, with_versions}
use Rattle.rc_core.specs.Steps.{IsChain, add_version, all_but, number_after_removal, drop_version, detach, pins_with, release, pins_without, snapshot, with_pins}
use Rattle.rc_core.specs.laws.Losing.{map-append}
use Rattle.rc_core.specs.laws.Merging.{silent-seen, new-silent, alike-even}
use Rattle.rc_core.specs.laws.Keeping.{each_two, each_less}
use Rattle.rc_core.specs.laws.Standing.{Stand, above, above-is, older_or_from, older_or_newest, length-cons, stand-older, stand-at}
use Rattle.rc_core.specs.laws.Merged.{all_but-parts, merged-seen-each, dropped-seen-each, PinOf, pin_of, pinned_older, pinned_newer, renumbered-older, renumbered-newer}
use Rattle.rc_core.specs.laws.Pins.{pinned-or-new, released-pin}
use Rattle.rc_core.specs.laws.Memtables.{even_as_before}

pub silent_inherits : (v : Version) → IsSilent v → AllInherit v
silent_inherits v s = record { statics = ap (λ (c : SpotState). c.flag) s.statics; clustered = λ x. ap (λ (c : SpotState). c.flag) (s.clustered x) }

-- ---- a version added

pub each_and_one : (P : Version → Type 0) (vs : List Version) (v : Version) → EachOf P vs → P v → EachOf P (vs ++ v ∷ [])
each_and_one P [] v h p = (p, tt)
each_and_one P (w ∷ ws) v h p = (h.0, each_and_one P ws v h.1 p)

pub silent_top : (f : Version → SpotState) (versions : List Version) (v : Version) → f v ≡ silent → through (list_map f (versions ++ v ∷ [])) ≡ through (list_map f versions)
silent_top f versions v e = ap through (map-append f versions v []) ∙ ap (λ c. through (list_map f versions ++ c ∷ [])) e ∙ silent-seen (list_map f versions) [] ∙ ap through (append-nil (list_map f versions))

pub added-memtable : (c : Chain) (newest : ℕ) (pt : Option Tomb) (phase : ℕ) → suc newest ≡ length c.versions → IsChain c → c.attached ≡ true → IsMemtableChain c → IsMemtableChain (add_version pt phase c)
added-memtable c newest pt phase e ch att k = record {
  flags = each_and_one AllInherit c.versions fresh k.flags (silent_inherits fresh (new-silent pt phase));
  even = λ j need x. ⊎_elim
      (λ o. subst (λ (s : Stand). IsEvenAt Memtable s.1 x) (sym (stand-older j c.versions (fresh ∷ []) o)) (k.even j (⊎_elim inl (λ a. absurd (omega (arith, o, a.1, length-cons c.versions fresh []))) need) x))
      (λ n. subst (λ (s : Stand). IsEvenAt Memtable s.1 x) (sym (stand-at j c.versions [] fresh n))
      (even_as_before Memtable c.versions (c.versions ++ fresh ∷ []) x
      (silent_top (state_at (On x)) c.versions fresh ((new-silent pt phase).clustered (On x)))
      (λ _. silent_top (state_at (Behind x)) c.versions fresh ((new-silent pt phase).clustered (Behind x)))
      (subst (λ vs. IsEvenAt Memtable vs x) (all_taken c.versions (suc newest) e) (k.even newest (inr (att, e)) x))))
      (older_or_newest j c.versions fresh (⊎_elim (λ p. omega (arith, ch.pins j p, length-cons c.versions fresh [])) (λ a. omega (arith, a.1)) need));
}
  where
    fresh : Version
    fresh = new_version pt phase

    all_taken : (vs : List Version) (n : ℕ) → n ≡ length vs → take n vs ≡ vs
    all_taken [] zero h = refl
    all_taken [] (suc n) h = refl
    all_taken (v ∷ vs) zero h = absurd (omega (arith, h))
    all_taken (v ∷ vs) (suc n) h = ap (λ us. v ∷ us) (all_taken vs n (omega (arith, h)))

-- ---- merging and dropping

pub over_inherit : (f : Flag) (older newer : SpotState) → f ≡ Inherit → older.flag ≡ Inherit → (over f older newer).flag ≡ Inherit
over_inherit Known older newer e h = absurd (cc)
over_inherit Unknown older newer e h = absurd (cc)
over_inherit Inherit older newer e h = h

put_down_inherits : (o n oo nn : SpotState) → IsPutDown o n oo nn → o.flag ≡ Inherit → n.flag ≡ Inherit → (oo.flag ≡ Inherit) × (nn.flag ≡ Inherit)
put_down_inherits o n oo nn p h k = ⊎_elim
    (λ e. (ap (λ (c : SpotState). c.flag) e.0 ∙ h, ap (λ (c : SpotState). c.flag) e.1 ∙ k))
    (λ e. (ap (λ (c : SpotState). c.flag) e.0, e.1.0 ∙ over_inherit n.flag o n k h))
    p

merged_inherit : (a b x y : Version) → IsMerged a b x y → AllInherit a → AllInherit b → AllInherit x × AllInherit y
merged_inherit a b x y m h k = (
  record { statics = (put_down_inherits _ _ _ _ m.statics h.statics k.statics).0; clustered = λ s. (put_down_inherits _ _ _ _ (m.clustered s) (h.clustered s) (k.clustered s)).0 },
  record { statics = (put_down_inherits _ _ _ _ m.statics h.statics k.statics).1; clustered = λ s. (put_down_inherits _ _ _ _ (m.clustered s) (h.clustered s) (k.clustered s)).1 },
)

needed_of : (c : Chain) (j : ℕ) → IsPinned c.pins j ⊎ ((c.attached ≡ true) × (suc j ≡ length c.versions)) → IsNeeded c j
needed_of c j h = ⊎_elim inl (λ a. inr (inl a)) h

pub merged-memtable : (c : Chain) (front back : List Version) (a b x y : Version) → c.versions ≡ front ++ a ∷ b ∷ back → (IsNeeded c (length front) → ⊥) → IsMerged a b x y → IsMemtableChain c → IsMemtableChain (with_versions (front ++ x ∷ y ∷ back) c)
merged-memtable c front back a b x y vs off m k = record {
  flags = each_two AllInherit front back a b x y (subst (EachOf AllInherit) vs k.flags) (merged_inherit a b x y m);
  even = λ j need p. let was = ⊎_elim inl (λ h. inr (h.0, h.1 ∙ lengths)) need in
      alike-even Memtable (upto c.versions j) (upto (front ++ x ∷ y ∷ back) j) p (merged-seen-each c front back a b x y vs off m j (needed_of c j was)) (k.even j was p);
}
  where
    lengths : length (front ++ x ∷ y ∷ back) ≡ length c.versions
    lengths = length-cons front x (y ∷ back) ∙ sym (length-cons front a (b ∷ back)) ∙ sym (ap length vs)

pub dropped-memtable : (c : Chain) (front back : List Version) (v w : Version) → c.versions ≡ front ++ v ∷ w ∷ back → (IsNeeded c (length front) → ⊥) → IsSilent v →
    greatest tomb_cmp (option_to_list v.pt ++ option_to_list w.pt) ≡ greatest tomb_cmp (option_to_list w.pt) → IsMemtableChain c → IsMemtableChain (drop_version (length front) c)
dropped-memtable c front back v w vs off s t k = record {
  flags = subst (EachOf AllInherit) (sym parts) (each_less AllInherit front (w ∷ back) v (subst (EachOf AllInherit) vs k.flags));
  even = λ j need x. ⊎_elim (λ o. below j o need x) (λ n. from n.0 j n.1 need x) (older_or_from j (length front));
}
  where
    parts : all_but (length front) c.versions ≡ front ++ w ∷ back
    parts = ap (all_but (length front)) vs ∙ all_but-parts front (w ∷ back) v

    lengths : length c.versions ≡ suc (length (all_but (length front) c.versions))
    lengths = ap length vs ∙ omega (arith, length-cons front v (w ∷ back), length-cons front w back) ∙ ap (λ us. suc (length us)) (sym parts)

    -- what was seen at the version of before is seen at the same one now
    kept : (i : ℕ) → IsPinned c.pins i ⊎ ((c.attached ≡ true) × (suc i ≡ length c.versions)) → (x : Pos) → IsEvenAt Memtable (upto (all_but (length front) c.versions) (number_after_removal (length front) i)) x
    kept i was x = alike-even Memtable (upto c.versions i) (upto (all_but (length front) c.versions) (number_after_removal (length front) i)) x (dropped-seen-each c front back v w vs off s t i (needed_of c i was)) (k.even i was x)

    below : (j : ℕ) → j < length front → IsPinned (list_map (option_map (number_after_removal (length front))) c.pins) j ⊎ ((c.attached ≡ true) × (suc j ≡ length (all_but (length front) c.versions))) → (x : Pos) → IsEvenAt Memtable (upto (all_but (length front) c.versions) j) x
    below j o need x = subst (λ n. IsEvenAt Memtable (upto (all_but (length front) c.versions) n) x) (renumbered-older (length front) j o)
        (kept j (⊎_elim (λ p. inl (pinned_older (length front) j c.pins (λ q. off (inl q)) o (pin_of (length front) j c.pins p))) (λ a. absurd (omega (arith, o, a.1, ap length parts, length-cons front w back))) need) x)

    from : (m j : ℕ) → j ≡ above (length front) m → IsPinned (list_map (option_map (number_after_removal (length front))) c.pins) j ⊎ ((c.attached ≡ true) × (suc j ≡ length (all_but (length front) c.versions))) → (x : Pos) → IsEvenAt Memtable (upto (all_but (length front) c.versions) j) x
    from m j e need x = subst (λ n. IsEvenAt Memtable (upto (all_but (length front) c.versions) n) x) (renumbered-newer (length front) m ∙ sym e)
        (kept (above (length front) (suc m)) (⊎_elim
        (λ p. inl (pinned_newer (length front) m c.pins (λ q. off (inl q)) (subst (λ n. PinOf (length front) n c.pins) e (pin_of (length front) j c.pins p))))
        (λ a. inr (a.0, omega (arith, a.1, lengths, e, above-is (length front) m, above-is (length front) (suc m))))
        need) x)

-- ---- pins, and the place among the partitions

pub fewer-memtable : (c : Chain) (pins : List (Option ℕ)) → ((j : ℕ) → IsPinned pins j → IsPinned c.pins j) → IsMemtableChain c → IsMemtableChain (with_pins pins c)
fewer-memtable c pins less k = record { flags = k.flags; even = λ j need. k.even j (⊎_elim (λ p. inl (less j p)) inr need) }

pub released-memtable : (c : Chain) (i : ℕ) → IsMemtableChain c → IsMemtableChain (release i c)
released-memtable c i k = fewer-memtable c (pins_without i c.pins) (λ j p. released-pin i c.pins j p) k

pub more-memtable : (c : Chain) (pins : List (Option ℕ)) (version : ℕ) → c.attached ≡ true → suc version ≡ length c.versions → ((j : ℕ) → IsPinned pins j → IsPinned c.pins j ⊎ (j ≡ version)) → IsMemtableChain c → IsMemtableChain (with_pins pins c)
more-memtable c pins version att e more k = record {
  flags = k.flags;
  even = λ j need. k.even j (⊎_elim (λ p. ⊎_elim inl (λ d. inr (att, ap suc d ∙ e)) (more j p)) inr need);
}

pub snapshot-memtable : (c : Chain) (version : ℕ) → c.attached ≡ true → suc version ≡ length c.versions → IsMemtableChain c → IsMemtableChain (snapshot version c)
snapshot-memtable c version att e k = more-memtable c (pins_with version c.pins) version att e (λ j p. pinned-or-new version c.pins j p) k

pub detached-memtable : (c : Chain) → IsMemtableChain c → IsMemtableChain (detach c)
detached-memtable c k = record { flags = k.flags; even = λ j need. k.even j (⊎_elim inl (λ a. let u = a.0 in absurd (cc)) need) }
