-- Whole chains under update, pinned, released and detached.
use Rattle.std.specs.Prelude.{◌≡◌, ◌⊎◌, ◌<◌, ℕ, zero, suc, true, List, [], ◌∷◌, ◌++◌, Option, Some, None, take, length}
use Rattle.std.proofs.Common.{refl, sym, ap, ◌∙◌, subst, ⊎_elim, inl, inr, arith}
use Rattle.std.proofs.lemmas.List.{append_assoc}
use Rattle.std.specs.declared.cmp.Ordering.TheVariants.{Less, Greater}
use Rattle.std.specs.Option.{option_to_list}
use Rattle.rc_cell.specs.declared.rows.Row.{Row}
use Rattle.rc_cell.specs.declared.writes.Tomb.{Tomb}
use Rattle.rc_cell.specs.Orders.{tomb_cmp, tomb_cmp_total}
use Rattle.rc_cell.specs.laws.Beats.{tomb_cmp-IsAntisymmetric}
use Rattle.rc_cell.specs.laws.Greatest.{greatest-swap, greatest-twice}
use Rattle.rc_cell.specs.laws.{joined_row-append, joined_row-swap, joined_row-twice}
use Rattle.rc_mutation.specs.Cover.{cover, tombs_over}
use Rattle.rc_mutation.specs.laws.Sources.{static_rows-append}
use Rattle.rc_cell.specs.Winner.{greatest, joined_row}
use Rattle.rc_position.specs.Position.{Place, Head, End, place_cmp}
use Rattle.rc_mutation.specs.declared.mutations.Mutation.{Mutation}
use Rattle.rc_mutation.specs.Source.{SameSource, source_at, source_at_static, static_rows, rows_in, all_rows, all_pieces}
use Rattle.rc_core.specs.SpotState.{SpotState}
use Rattle.rc_core.specs.Version.{On, Version, IsVersion, state_at, static_state}
use Rattle.rc_core.specs.Continuity.{IsWithin, EachOf, HoldNoMore, IsContinuous}
use Rattle.rc_core.specs.Merge.{new_version}
use Rattle.rc_core.specs.AtPlace.{IsAtPlace}
use Rattle.rc_core.specs.Chains.{Chain, upto, phase_at, HasReach, IsNeeded, IsPinned, IsUpdating, NewestIs, IsChainContinuous, with_versions}
use Rattle.rc_core.specs.Steps.{IsChain, IsSnapshotOf, SaysNoLess, begin_update, detach, pins_with, pins_without, release, snapshot, with_pins, with_updating}
use Rattle.rc_core.specs.Unit.{IsUnit, IsGivenUp}
use Rattle.rc_core.specs.laws.Losing.{joined-again, tomb-alone}
use Rattle.rc_core.specs.laws.Merging.{rows_by_parts, tombs_by_parts, source-more}
use Rattle.rc_core.specs.laws.Updating.{begun, ended}
use Rattle.rc_core.specs.laws.Units.{unit-continuous}
use Rattle.rc_core.specs.laws.Placed.{new-at-place, unit-at-place}
use Rattle.rc_core.specs.laws.Pins.{pinned-or-new, released-pin}
use Rattle.rc_core.specs.laws.GivenUp.{given-continuous}
use Rattle.rc_core.specs.laws.Standing.{Stand, stand, above-zero, older_or_newest, length-cons, stand-older, stand-at, NewestIs-back, newest-is, newest-replaced, needed-there}

-- ---- a unit with room, and without

-- a version stands at the update's place, where there is one
abbrev OfPlace : Version → Option Place → Type 0
OfPlace v None = Unit {0}
OfPlace v (Some r) = IsAtPlace r v

pub unit-chain : (below : ℕ → List Mutation) (c : Chain) (front : List Version) (under before now : Version) (change : Mutation) (p q : Place) →
    c.versions ≡ front ++ under ∷ before ∷ [] → IsChain c → c.attached ≡ true → c.updating ≡ Some p → (place_cmp p q ≡ Greater → ⊥) → IsUnit p q change before now → now.phase ≡ before.phase →
    SameSource (below under.phase ++ change ∷ []) (below before.phase) → IsChainContinuous below c → IsChainContinuous below (with_updating (Some q) (with_versions (front ++ under ∷ now ∷ []) c))
unit-chain below c front under before now change p q vs ch att up pq u ph src k =
    subst (λ us. IsChainContinuous below (with_updating (Some q) (with_versions us c))) (append_assoc front (under ∷ []) (now ∷ []))
    (newest-replaced below c (Some q) older before now (subst (λ us. IsChain (with_versions us c)) parts ch) att (λ _. subst IsUpdating (sym up) tt)
    (λ h. subst (λ n. IsContinuous (Some q) (below n) (older ++ now ∷ [])) (sym ph)
    (unit-continuous (below under.phase) (below before.phase) change older before now p q u under_is (subst (λ r. IsContinuous r (below before.phase) (older ++ before ∷ [])) up h) src))
    (λ r e. subst (λ (z : Option Place). OfPlace now z) e untouched)
    (subst (λ us. IsChainContinuous below (with_versions us c)) parts k))
  where
    older : List Version
    older = front ++ under ∷ []

    parts : c.versions ≡ older ++ before ∷ []
    parts = vs ∙ sym (append_assoc front (under ∷ []) (before ∷ []))

    untouched : IsAtPlace q now
    untouched = unit-at-place change p q before now u pq (subst (λ (T : Type 0). T) (NewestIs-back (IsAtPlace p) older before []) (subst (NewestIs (IsAtPlace p)) parts (k.ahead p up)))

    -- the version below the newest, which snapshots pin meanwhile
    under_is : IsContinuous None (below under.phase) older
    under_is = subst (λ (s : Stand). IsContinuous None (below s.0) s.1) (ap (λ us. stand us (length front)) vs ∙ stand-at (length front) front (before ∷ []) under (sym (above-zero (length front))))
        (k.needed (length front) None (λ e. absurd (omega (arith, e, ap length vs, length-cons front under (before ∷ []))), λ _. refl)
        (inr (inr (subst IsUpdating (sym up) tt, omega (arith, ap length vs, length-cons front under (before ∷ []))))))

pub given-chain : (below : ℕ → List Mutation) (c : Chain) (older : List Version) (before now : Version) (p : Place) → c.versions ≡ older ++ before ∷ [] → IsChain c → c.attached ≡ true → c.updating ≡ Some p → place_cmp Head p ≡ Less →
    IsGivenUp p before now → now.phase ≡ before.phase → IsChainContinuous below c → IsChainContinuous below (with_updating None (with_versions (older ++ now ∷ []) c))
given-chain below c older before now p vs ch att up hp g ph k =
    newest-replaced below c None older before now (subst (λ us. IsChain (with_versions us c)) vs ch) att (λ n. absurd n)
    (λ h. subst (λ n. IsContinuous None (below n) (older ++ now ∷ [])) (sym ph) (given-continuous (below before.phase) older before now p g (subst (λ r. IsContinuous r (below before.phase) (older ++ before ∷ [])) up h) hp))
    (λ r e. let u : None ≡ Some r = e in absurd (cc))
    (subst (λ us. IsChainContinuous below (with_versions us c)) vs k)

-- the update's end
pub ended-chain : (below : ℕ → List Mutation) (c : Chain) (j : ℕ) → suc j ≡ length c.versions → IsChain c → c.attached ≡ true → c.updating ≡ Some End → IsChainContinuous below c → IsChainContinuous below (with_updating None c)
ended-chain below c j e ch att up k = let n = newest-is c.versions j e in
    subst (λ us. IsChainContinuous below (with_updating None (with_versions us c))) (sym n.parts)
    (newest-replaced below c None n.older n.newest n.newest (subst (λ us. IsChain (with_versions us c)) n.parts ch) att (λ m. absurd m)
    (λ h. ended (below n.newest.phase) (n.older ++ n.newest ∷ []) (subst (λ r. IsContinuous r (below n.newest.phase) (n.older ++ n.newest ∷ [])) up h))
    (λ r d. let u : None ≡ Some r = d in absurd (cc))
    (subst (λ us. IsChainContinuous below (with_versions us c)) n.parts k))

pub same-form : (c : Chain) (place : Option Place) → (IsUpdating place → IsUpdating c.updating) → IsChain c → IsChain (with_updating place c)
same-form c place up ch = record { versions = ch.versions; pins = ch.pins; unpinned = λ u j p. ch.unpinned (up u) j p }

pub ended-form : (c : Chain) → IsChain c → IsChain (with_updating None c)
ended-form c ch = same-form c None (λ u. absurd u) ch

-- ---- its begin

no_less-within : (rows others : List Row) (s t : Option Tomb) (c : SpotState) → joined_row (joined_row others ∷ joined_row rows ∷ []) ≡ joined_row others → greatest tomb_cmp (option_to_list t ++ option_to_list s) ≡ t →
    IsWithin c (joined_row rows, s) → IsWithin c (joined_row others, t)
no_less-within rows others s t c e f w = (
  rows_by_parts (joined_row others ∷ []) c.rows (joined_row others ∷ joined_row rows ∷ []) c.rows (joined-again others ∙ sym e) refl
      ∙ rows_by_parts (joined_row others ∷ []) (joined_row rows ∷ c.rows) (joined_row others ∷ []) (joined_row rows ∷ []) refl (w.0 ∙ sym (joined-again rows))
      ∙ e,
  tombs_by_parts (option_to_list t) c.tombs (option_to_list t ++ option_to_list s) c.tombs (tomb-alone t ∙ sym f) refl
      ∙ ap (greatest tomb_cmp) (append_assoc (option_to_list t) (option_to_list s) c.tombs)
      ∙ tombs_by_parts (option_to_list t) (option_to_list s ++ c.tombs) (option_to_list t) (option_to_list s) refl (w.1 ∙ sym (tomb-alone s))
      ∙ f,
)

each_wider : (P Q : Version → Type 0) → ((v : Version) → P v → Q v) → (vs : List Version) → EachOf P vs → EachOf Q vs
each_wider P Q f [] h = tt
each_wider P Q f (v ∷ vs) h = (f v h.0, each_wider P Q f vs h.1)

pub wider-hold : (writes others : List Mutation) (versions : List Version) → SaysNoLess writes others → HoldNoMore writes versions → HoldNoMore others versions
wider-hold writes others versions n h = record {
  statics = each_wider _ _ (λ v w. no_less-within (static_rows writes) (static_rows others) None None (static_state v) n.statics (tomb-alone None) w) versions h.statics;
  clustered = λ x. each_wider _ _ (λ v w. no_less-within (rows_in x (all_rows writes)) (rows_in x (all_rows others)) (source_at writes x).1 (source_at others x).1 (state_at (On x) v) (n.rows x) (n.tombs x) w) versions (h.clustered x);
}

more_rows : (ws cs : List Row) → joined_row (joined_row (ws ++ cs) ∷ joined_row ws ∷ []) ≡ joined_row (ws ++ cs)
more_rows ws cs =
    sym (joined_row-append (ws ++ cs) ws) ∙ joined_row-swap (ws ++ cs) ws ∙ ap joined_row (sym (append_assoc ws ws cs))
    ∙ rows_by_parts (ws ++ ws) cs ws cs (joined_row-twice ws) refl

more_tombs : (ts us : List Tomb) → greatest tomb_cmp (option_to_list (greatest tomb_cmp (ts ++ us)) ++ option_to_list (greatest tomb_cmp ts)) ≡ greatest tomb_cmp (ts ++ us)
more_tombs ts us =
    tombs_by_parts (option_to_list (greatest tomb_cmp (ts ++ us))) (option_to_list (greatest tomb_cmp ts)) (ts ++ us) ts (tomb-alone (greatest tomb_cmp (ts ++ us))) (tomb-alone (greatest tomb_cmp ts))
    ∙ greatest-swap tomb_cmp_total tomb_cmp-IsAntisymmetric (ts ++ us) ts ∙ ap (greatest tomb_cmp) (sym (append_assoc ts ts us))
    ∙ tombs_by_parts (ts ++ ts) us ts us (greatest-twice tomb_cmp_total tomb_cmp-IsAntisymmetric ts) refl

-- writes with one more say no less
pub more-says : (writes others : List Mutation) (change : Mutation) → SameSource (writes ++ change ∷ []) others → SaysNoLess writes others
unfolding cover
more-says writes others change s = record {
  statics = subst (λ r. joined_row (r ∷ source_at_static writes ∷ []) ≡ r) (ap joined_row (sym (static_rows-append writes (change ∷ []))) ∙ s.statics) (more_rows (static_rows writes) (static_rows (change ∷ [])));
  rows = λ x. subst (λ r. joined_row (r ∷ (source_at writes x).0 ∷ []) ≡ r) (ap (λ (a : Row × Option Tomb). a.0) (sym (source-more writes change x) ∙ s.clustered x))
      (more_rows (rows_in x (all_rows writes)) (rows_in x (all_rows (change ∷ []))));
  tombs = λ x. subst (λ t. greatest tomb_cmp (option_to_list t ++ option_to_list (source_at writes x).1) ≡ t) (ap (λ (a : Row × Option Tomb). a.1) (sym (source-more writes change x) ∙ s.clustered x))
      (more_tombs (tombs_over (all_pieces writes) x) (tombs_over (all_pieces (change ∷ [])) x));
}

module _ (below : ℕ → List Mutation) (c : Chain) (j phase : ℕ) (e : suc j ≡ length c.versions) where
  abbrev now : Chain
  now = begin_update phase c

  abbrev fresh : Version
  fresh = new_version None phase

  more : length (c.versions ++ fresh ∷ []) ≡ suc (length c.versions)
  more = omega (arith, length-cons c.versions fresh [])

  pub begun-form : IsChain c → IsChain now
  begun-form ch = record {
    versions = each c.versions ch.versions;
    pins = λ i p. omega (arith, ch.pins i p, more);
    unpinned = λ _ i p. omega (arith, ch.pins i p, more);
  }
    where
      each : (vs : List Version) → EachOf IsVersion vs → EachOf IsVersion (vs ++ fresh ∷ [])
      each [] h = (record { ascend = tt; ends = (refl, refl) }, tt)
      each (v ∷ vs) h = (h.0, each vs h.1)

  -- the versions up to the newest one of before
  before_new : stand (c.versions ++ fresh ∷ []) j ≡ (phase_at c.versions j, c.versions)
  before_new = stand-older j c.versions (fresh ∷ []) (omega (arith, e)) ∙ (λ i. (phase_at c.versions j, all_taken c.versions (suc j) e i))
    where
      all_taken : (vs : List Version) (n : ℕ) → n ≡ length vs → take n vs ≡ vs
      all_taken [] zero h = refl
      all_taken [] (suc n) h = refl
      all_taken (v ∷ vs) zero h = absurd (omega (arith, h))
      all_taken (v ∷ vs) (suc n) h = ap (λ us. v ∷ us) (all_taken vs n (omega (arith, h)))

  pub begun-chain : IsChain c → c.attached ≡ true → c.updating ≡ None → SaysNoLess (below (phase_at c.versions j)) (below phase) → IsChainContinuous below c → IsChainContinuous below now
  begun-chain ch att up less k = record {
    within = λ i l. ⊎_elim
        (λ o. subst (λ (s : Stand). HoldNoMore (below s.0) s.1) (sym (stand-older i c.versions (fresh ∷ []) o)) (k.within i o))
        (λ n. subst (λ (s : Stand). HoldNoMore (below s.0) s.1) (sym (stand-at i c.versions [] fresh n)) new.within)
        (older_or_newest i c.versions fresh l);
    needed = λ i reach has need. ⊎_elim
        (λ o. subst (λ (s : Stand). IsContinuous reach (below s.0) s.1) (sym (stand-older i c.versions (fresh ∷ []) o)) (older_needed i reach o has need))
        (λ n. subst (λ r. IsContinuous r (below (phase_at (c.versions ++ fresh ∷ []) i)) (upto (c.versions ++ fresh ∷ []) i)) (sym (has.0 (omega (arith, n, above-zero (length c.versions), more))))
        (subst (λ (s : Stand). IsContinuous (Some Head) (below s.0) s.1) (sym (stand-at i c.versions [] fresh n)) new))
        (older_or_newest i c.versions fresh (needed-there now i (begun-form ch) need));
    ahead = λ p d. subst (λ (T : Type 0). T) (sym (NewestIs-back (IsAtPlace p) c.versions fresh [])) (subst (OfPlace fresh) d (new-at-place phase));
  }
    where
      hold : HoldNoMore (below phase) c.versions
      hold = wider-hold (below (phase_at c.versions j)) (below phase) c.versions less
          (subst (λ (s : Stand). HoldNoMore (below s.0) s.1) (sym (stand-older j c.versions (fresh ∷ []) (omega (arith, e))) ∙ before_new) (k.within j (omega (arith, e))))

      new : IsContinuous (Some Head) (below phase) (c.versions ++ fresh ∷ [])
      new = begun (below phase) c.versions None phase hold

      older_needed : (i : ℕ) (reach : Option Place) → i < length c.versions → HasReach now i reach → IsNeeded now i → IsContinuous reach (below (phase_at c.versions i)) (upto c.versions i)
      older_needed i reach o has need = k.needed i reach
          (λ _. none ∙ sym up, λ _. none)
          (⊎_elim (λ p. inl p) (λ h. ⊎_elim (λ a. absurd (omega (arith, o, a.1, more))) (λ u. inr (inl (att, omega (arith, u.1, more)))) h) need)
        where
          none : reach ≡ None
          none = has.1 (λ d. omega (arith, d, o, more))

-- ---- pins, and the place in the cache

pub fewer-pins : (below : ℕ → List Mutation) (c : Chain) (pins : List (Option ℕ)) → ((j : ℕ) → IsPinned pins j → IsNeeded c j) → IsChainContinuous below c → IsChainContinuous below (with_pins pins c)
fewer-pins below c pins less k = record {
  within = k.within;
  needed = λ j reach has need. k.needed j reach has (⊎_elim (less j) inr need);
  ahead = k.ahead;
}

pub released-chain : (below : ℕ → List Mutation) (c : Chain) (i : ℕ) → IsChainContinuous below c → IsChainContinuous below (release i c)
released-chain below c i k = fewer-pins below c (pins_without i c.pins) (λ j h. inl (released-pin i c.pins j h)) k

pub fewer-form : (c : Chain) (pins : List (Option ℕ)) → ((j : ℕ) → IsPinned pins j → IsPinned c.pins j) → IsChain c → IsChain (with_pins pins c)
fewer-form c pins less ch = record { versions = ch.versions; pins = λ j h. ch.pins j (less j h); unpinned = λ u j h. ch.unpinned u j (less j h) }

pub released-form : (c : Chain) (i : ℕ) → IsChain c → IsChain (release i c)
released-form c i ch = fewer-form c (pins_without i c.pins) (λ j h. released-pin i c.pins j h) ch

-- the version that a snapshot pins was needed before
snapshot_needed : (c : Chain) (pin : ℕ) (u : Option Place) → c.updating ≡ u → c.attached ≡ true → IsSnapshotOf c pin → IsNeeded c pin
snapshot_needed c pin None e att s = inr (inl (att, s.0 e))
snapshot_needed c pin (Some p) e att s = let is = subst IsUpdating (sym e) tt in inr (inr (is, s.1 is))

-- one pin more, of the version that a snapshot pins
pub more-chain : (below : ℕ → List Mutation) (c : Chain) (pins : List (Option ℕ)) (version : ℕ) → c.attached ≡ true → IsSnapshotOf c version → ((j : ℕ) → IsPinned pins j → IsPinned c.pins j ⊎ (j ≡ version)) →
    IsChainContinuous below c → IsChainContinuous below (with_pins pins c)
more-chain below c pins version att s more k = fewer-pins below c pins (λ j h. ⊎_elim inl (λ e. subst (IsNeeded c) (sym e) (snapshot_needed c version c.updating refl att s)) (more j h)) k

pub more-form : (c : Chain) (pins : List (Option ℕ)) (version : ℕ) → IsSnapshotOf c version → ((j : ℕ) → IsPinned pins j → IsPinned c.pins j ⊎ (j ≡ version)) → IsChain c → IsChain (with_pins pins c)
more-form c pins version s more ch = record {
  versions = ch.versions;
  pins = λ j h. ⊎_elim (ch.pins j) (λ d. subst (λ n. n < length c.versions) (sym d) (there c.updating refl)) (more j h);
  unpinned = λ u j h. ⊎_elim (ch.unpinned u j) (λ d. omega (arith, d, s.1 u)) (more j h);
}
  where
    there : (u : Option Place) → c.updating ≡ u → version < length c.versions
    there None e = omega (arith, s.0 e)
    there (Some p) e = omega (arith, s.1 (subst IsUpdating (sym e) tt))

pub snapshot-chain : (below : ℕ → List Mutation) (c : Chain) (version : ℕ) → c.attached ≡ true → IsSnapshotOf c version → IsChainContinuous below c → IsChainContinuous below (snapshot version c)
snapshot-chain below c version att s k = more-chain below c (pins_with version c.pins) version att s (λ j h. pinned-or-new version c.pins j h) k

pub snapshot-form : (c : Chain) (version : ℕ) → IsSnapshotOf c version → IsChain c → IsChain (snapshot version c)
snapshot-form c version s ch = more-form c (pins_with version c.pins) version s (λ j h. pinned-or-new version c.pins j h) ch

pub detached-chain : (below : ℕ → List Mutation) (c : Chain) → IsChain c → IsChainContinuous below c → IsChainContinuous below (detach c)
detached-chain below c ch k = record {
  within = k.within;
  needed = λ j reach has need. ⊎_elim
      (λ p. k.needed j reach (λ e. has.0 e ∙ settled j p e c.updating refl, λ off. has.1 off) (inl p))
      (λ h. ⊎_elim (λ a. let u = a.0 in absurd (cc)) (λ u. absurd u.0) h)
      need;
  ahead = λ p e. let u : None ≡ Some p = e in absurd (cc);
}
  where
    -- the newest version is not pinned while under update
    settled : (j : ℕ) → IsPinned c.pins j → suc j ≡ length c.versions → (u : Option Place) → c.updating ≡ u → None ≡ c.updating
    settled j p e None d = sym d
    settled j p e (Some q) d = absurd (omega (arith, e, ch.unpinned (subst IsUpdating (sym d) tt) j p))

pub detached-form : (c : Chain) → IsChain c → IsChain (detach c)
detached-form c ch = record { versions = ch.versions; pins = ch.pins; unpinned = λ u. absurd u }
