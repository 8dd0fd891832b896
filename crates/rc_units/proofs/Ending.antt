-- That cleaning ends: with the newest version of a run merged first, fewer objects count after each unit.
use Rattle.std.specs.Prelude.{◌<◌, ◌≡◌, ◌+◌, ℕ, zero, suc, Bool, true, false, List, [], ◌∷◌, ◌++◌, Option, Some, None, cond, length, option_map, map as list_map}
use Rattle.std.proofs.Common.{refl, sym, ap, ◌∙◌, subst, arith}
use Rattle.rc_cell.specs.declared.rows.Row.{Row}
use Rattle.rc_core.specs.declared.entries.ChainKind.TheVariants.{Cache}
use Rattle.rc_core.specs.declared.entries.Entry.{Entry}
use Rattle.rc_core.specs.Chains.{Chain, IsPinned}
use Rattle.rc_core.specs.Steps.{number_after_removal}
use Rattle.rc_core.specs.Version.{Version, IsVersion}
use Rattle.rc_core.specs.laws.Merged.{pin_of, pinned_newer, pinned_older, renumbered-newer, renumbered-older}
use Rattle.rc_core.specs.laws.Standing.{above, above-is, length-cons}
use Rattle.rc_units.specs.Chained.{Counts, chain_left, units_counted}
use Rattle.rc_units.specs.Clean.{MayMerge, cache_cleaned_by, cleaned_by, cleaned_versions, cleaned_without_room, static_units, units_of}
use Rattle.rc_units.proofs.Cleaned.{pinned_by}
use Rattle.rc_units.proofs.Units.{no_entries}

-- ---- sums over parts

units-append : (counts : ℕ → Bool) (front rest : List Version) → units_counted counts (front ++ rest) ≡ units_counted counts front + units_counted (λ j. counts (above (length front) j)) rest
units-append counts [] rest = omega arith
units-append counts (f ∷ fs) rest = omega (arith, units-append (λ j. counts (suc j)) fs rest)

units-below : (f g : ℕ → Bool) (vs : List Version) → ((j : ℕ) → j < length vs → f j ≡ g j) → units_counted f vs ≡ units_counted g vs
units-below f g [] e = refl
units-below f g (v ∷ vs) e = λ i. cond (e zero (omega arith) i) (units_of v) zero + units-below (λ j. f (suc j)) (λ j. g (suc j)) vs (λ j l. e (suc j) (omega (arith, l))) i

same_bool : (a b : Bool) → (a ≡ true → b ≡ true) → (b ≡ true → a ≡ true) → a ≡ b
same_bool true true h k = refl
same_bool true false h k = sym (h refl)
same_bool false true h k = k refl
same_bool false false h k = refl

not_true : (b : Bool) → (b ≡ true → ⊥) → b ≡ false
not_true true h = absurd (h refl)
not_true false h = refl

-- ---- what a unit takes

pub some_units : (v : Version) → IsVersion v → zero < units_of v
some_units v i = by v.entries refl
  where
    by : (es : List Entry) → v.entries ≡ es → zero < units_of v
    by [] h = absurd (no_entries v h i)
    by (e ∷ es) h = omega (arith, ap length h)

-- of two versions the older one has fewer units; or it is gone
abbrev Lessens : Version → List Version → Type 0
Lessens v [] = ⊥
Lessens v (w ∷ []) = Unit {0}
Lessens v (u ∷ w ∷ []) = units_of u < units_of v
Lessens v (u ∷ w ∷ x ∷ more) = ⊥

module _ (v w : Version) (i : IsVersion v) where
  entries_less : (es : List Entry) → v.entries ≡ es → Lessens v (cleaned_by None es v w)
  entries_less [] h = absurd (no_entries v h i)
  entries_less (e ∷ []) h = tt
  entries_less (e ∷ n ∷ []) h = tt
  entries_less (e ∷ n ∷ b ∷ more) h = omega (arith, ap length h)

  statics_less : (row : Option Row) → v.statics ≡ row → Lessens v (cleaned_by row v.entries v w)
  statics_less (Some row) h = omega (arith, ap static_units h)
  statics_less None h = entries_less v.entries refl

  cleaned_less : Lessens v (cleaned_versions v w)
  cleaned_less = statics_less v.statics refl

  lost_entries_less : (es : List Entry) → v.entries ≡ es → Lessens v (cache_cleaned_by None es v w)
  lost_entries_less [] h = absurd (no_entries v h i)
  lost_entries_less (e ∷ []) h = tt
  lost_entries_less (e ∷ n ∷ more) h = omega (arith, ap length h)

  lost_statics_less : (row : Option Row) → v.statics ≡ row → Lessens v (cache_cleaned_by row v.entries v w)
  lost_statics_less (Some row) h = omega (arith, ap static_units h)
  lost_statics_less None h = lost_entries_less v.entries refl

  lost_less : Lessens v (cleaned_without_room Cache v w)
  lost_less = lost_statics_less v.statics refl

-- ---- what counts after it

module _ (c : Chain) (front back : List Version) (v w : Version) (vs : c.versions ≡ front ++ v ∷ w ∷ back) (may : MayMerge c (length front)) (off : MayMerge c (suc (length front)) → ⊥)
    (counts : ℕ → Bool) (is : Counts c counts) where
  abbrev n : ℕ
  n = length front

  lengths : length c.versions ≡ suc (suc (n + length back))
  lengths = omega (arith, ap length vs, length-cons front v (w ∷ back))

  at_v : counts (above n zero) ≡ true
  at_v = subst (λ k. counts k ≡ true) (omega (arith, above-is n zero)) (is.complete n may)

  at_w : counts (above n (suc zero)) ≡ false
  at_w = not_true (counts (above n (suc zero))) (λ h. off (subst (MayMerge c) (omega (arith, above-is n (suc zero))) (is.sound (above n (suc zero)) h)))

  abbrev further : ℕ
  further = units_counted (λ k. counts (above n (suc (suc k)))) back

  none_more : zero + further ≡ further
  none_more = omega arith

  before : units_counted counts c.versions ≡ units_counted counts front + (units_of v + further)
  before =
      ap (units_counted counts) vs ∙ units-append counts front (v ∷ w ∷ back)
      ∙ (λ i. units_counted counts front + (cond (at_v i) (units_of v) zero + (cond (at_w i) (units_of w) zero + further)))
      ∙ ap (λ k. units_counted counts front + (units_of v + k)) none_more

  -- the two versions left
  module _ (u x : Version) (less : units_of u < units_of v) (after : ℕ → Bool) (now : Counts (chain_left front (u ∷ x ∷ []) back c) after) where
    same_length : length (front ++ u ∷ x ∷ back) ≡ length c.versions
    same_length = length-cons front u (x ∷ back) ∙ sym (ap length vs ∙ length-cons front v (w ∷ back))

    after_is : (j : ℕ) → after j ≡ counts j
    after_is j = same_bool (after j) (counts j)
        (λ h. let m = now.sound j h in is.complete j (record { older = subst (λ k. suc j < k) same_length m.older; unpinned = m.unpinned; settled = λ up g. m.settled up (g ∙ sym same_length) }))
        (λ h. let m = is.sound j h in now.complete j (record { older = subst (λ k. suc j < k) (sym same_length) m.older; unpinned = m.unpinned; settled = λ up g. m.settled up (g ∙ same_length) }))

    two_less : units_counted after (front ++ u ∷ x ∷ back) < units_counted counts c.versions
    two_less = omega (arith, before, less, after_units)
      where
        after_units : units_counted after (front ++ u ∷ x ∷ back) ≡ units_counted counts front + (units_of u + further)
        after_units =
            units-below after counts (front ++ u ∷ x ∷ back) (λ j _. after_is j) ∙ units-append counts front (u ∷ x ∷ back)
            ∙ (λ i. units_counted counts front + (cond (at_v i) (units_of u) zero + (cond (at_w i) (units_of x) zero + further)))
            ∙ ap (λ k. units_counted counts front + (units_of u + k)) none_more

  -- the older one gone
  module _ (x : Version) (some : zero < units_of v) (after : ℕ → Bool) (now : Counts (chain_left front (x ∷ []) back c) after) where
    fewer : length (front ++ x ∷ back) ≡ suc (n + length back)
    fewer = omega (arith, length-cons front x back)

    older_is : (j : ℕ) → j < n → after j ≡ counts j
    older_is j l = same_bool (after j) (counts j)
        (λ h. let m = now.sound j h in is.complete j (record {
          older = omega (arith, l, lengths);
          unpinned = λ p. m.unpinned (subst (IsPinned (list_map (option_map (number_after_removal n)) c.pins)) (renumbered-older n j l) (pinned_by n j c.pins p));
          settled = λ up g. omega (arith, l, g, lengths);
        }))
        (λ h. let m = is.sound j h in now.complete j (record {
          older = omega (arith, l, fewer);
          unpinned = λ p. m.unpinned (pinned_older n j c.pins may.unpinned l (pin_of n j c.pins p));
          settled = λ up g. may.settled up (omega (arith, l, g, fewer, lengths));
        }))

    newer_is : (k : ℕ) → after (above n k) ≡ counts (above n (suc k))
    newer_is k = same_bool (after (above n k)) (counts (above n (suc k)))
        (λ h. let m = now.sound (above n k) h in let o = m.older in is.complete (above n (suc k)) (record {
          older = omega (arith, o, fewer, lengths, above-is n k, above-is n (suc k));
          unpinned = λ p. m.unpinned (subst (IsPinned (list_map (option_map (number_after_removal n)) c.pins)) (renumbered-newer n k) (pinned_by n (above n (suc k)) c.pins p));
          settled = λ up g. m.settled up (omega (arith, g, fewer, lengths, above-is n k, above-is n (suc k)));
        }))
        (λ h. let m = is.sound (above n (suc k)) h in let o = m.older in now.complete (above n k) (record {
          older = omega (arith, o, fewer, lengths, above-is n k, above-is n (suc k));
          unpinned = λ p. m.unpinned (pinned_newer n k c.pins may.unpinned (pin_of n (above n k) c.pins p));
          settled = λ up g. m.settled up (omega (arith, g, fewer, lengths, above-is n k, above-is n (suc k)));
        }))

    one_less : units_counted after (front ++ x ∷ back) < units_counted counts c.versions
    one_less = omega (arith, before, some, after_units)
      where
        after_units : units_counted after (front ++ x ∷ back) ≡ units_counted counts front + further
        after_units =
            units-append after front (x ∷ back)
            ∙ (λ i. units-below after counts front older_is i + (cond ((newer_is zero ∙ at_w) i) (units_of x) zero + units-below (λ k. after (above n (suc k))) (λ k. counts (above n (suc (suc k)))) back (λ k _. newer_is (suc k)) i))
            ∙ ap (λ k. units_counted counts front + k) none_more

  lessened : (some : zero < units_of v) (left : List Version) → Lessens v left → (after : ℕ → Bool) → Counts (chain_left front left back c) after → units_counted after (chain_left front left back c).versions < units_counted counts c.versions
  lessened some [] l after now = absurd l
  lessened some (x ∷ []) l after now = one_less x some after now
  lessened some (u ∷ x ∷ []) l after now = two_less u x l after now
  lessened some (u ∷ x ∷ y ∷ more) l after now = absurd l

  module _ (i : IsVersion v) where
    pub cleaned-ends : (after : ℕ → Bool) → Counts (chain_left front (cleaned_versions v w) back c) after → units_counted after (chain_left front (cleaned_versions v w) back c).versions < units_counted counts c.versions
    cleaned-ends after now = lessened (some_units v i) (cleaned_versions v w) (cleaned_less v w i) after now

    pub lost-ends : (after : ℕ → Bool) → Counts (chain_left front (cleaned_without_room Cache v w) back c) after → units_counted after (chain_left front (cleaned_without_room Cache v w) back c).versions < units_counted counts c.versions
    lost-ends after now = lessened (some_units v i) (cleaned_without_room Cache v w) (lost_less v w i) after now
