-- A whole chain of which two versions are merged, or one is dropped.
use Rattle.std.specs.Prelude.{◌<◌, ◌≡◌, ℕ, zero, suc, List, [], ◌∷◌, ◌++◌, Option, Some, None, option_map, take, length, map as list_map}
use Rattle.std.proofs.Common.{refl, sym, ap, ◌∙◌, subst, ⊎_elim, inl, inr, arith}
use Rattle.std.specs.Option.{option_to_list}
use Rattle.rc_cell.specs.declared.rows.Row.{Row}
use Rattle.rc_cell.specs.declared.writes.Tomb.{Tomb}
use Rattle.rc_cell.specs.Orders.{tomb_cmp}
use Rattle.rc_cell.specs.Winner.{greatest}
use Rattle.rc_position.specs.Position.{Place}
use Rattle.rc_mutation.specs.declared.mutations.Mutation.{Mutation}
use Rattle.rc_mutation.specs.Source.{source_at, static_rows, rows_in, all_rows}
use Rattle.rc_core.specs.SpotState.{SpotState, silent}
use Rattle.rc_core.specs.Version.{On, Version, IsVersion, state_at, static_state}
use Rattle.rc_core.specs.Continuity.{IsWithin, HoldNoMore, IsContinuous}
use Rattle.rc_core.specs.Merge.{IsPutDown, IsMerged, IsSilent, IsSeenAlike}
use Rattle.rc_core.specs.AtPlace.{IsAtPlace}
use Rattle.rc_core.specs.Chains.{Chain, upto, phase_at, HasReach, IsNeeded, IsPinned, IsUpdating, NewestIs, IsChainContinuous, with_versions}
use Rattle.rc_core.specs.Steps.{IsChain, number_after_removal, all_but, drop_version}
use Rattle.rc_core.specs.laws.Losing.{each-one, each-other}
use Rattle.rc_core.specs.laws.Merging.{merged-seen, dropped-seen}
use Rattle.rc_core.specs.laws.Keeping.{within_nothing, merged-within, merged-continuous, dropped-within, dropped-continuous, each_two, each_less}
use Rattle.rc_core.specs.laws.Pins.{version_in}
use Rattle.rc_core.specs.laws.Standing.{Stand, stand, above, above-is, above-zero, older_or_from, length-cons, stand-older, stand-from, stand-at, NewestIs-back}

older_within : (older : List Version) (a b x y : Version) → IsMerged a b x y → (writes : List Mutation) → HoldNoMore writes (older ++ a ∷ []) → HoldNoMore writes (older ++ x ∷ [])
older_within older a b x y m writes h = record {
  statics = each-other _ older [] a x h.statics (one (static_state a) (static_state b) (static_state x) (static_state y) m.statics (each-one _ older [] a h.statics) (within_nothing (static_rows writes) None));
  clustered = λ p. each-other _ older [] a x (h.clustered p) (one (state_at (On p) a) (state_at (On p) b) (state_at (On p) x) (state_at (On p) y) (m.clustered (On p)) (each-one _ older [] a (h.clustered p)) (within_nothing (rows_in p (all_rows writes)) (source_at writes p).1));
}
  where
    one : {source : Row × Option Tomb} (o n oo nn : SpotState) → IsPutDown o n oo nn → IsWithin o source → IsWithin silent source → IsWithin oo source
    one {source = source} o n oo nn p w z = ⊎_elim (λ e. subst (λ k. IsWithin k source) (sym e.0) w) (λ e. subst (λ k. IsWithin k source) (sym e.0) z) p

module _ (older back : List Version) (a b x y : Version) where
  two_lengths : length (older ++ x ∷ y ∷ back) ≡ length (older ++ a ∷ b ∷ back)
  two_lengths = length-cons older x (y ∷ back) ∙ sym (length-cons older a (b ∷ back))

  module _ (c : Chain) where
    abbrev before : Chain
    before = with_versions (older ++ a ∷ b ∷ back) c

    abbrev now : Chain
    now = with_versions (older ++ x ∷ y ∷ back) c

    pub needed-two : (j : ℕ) → IsNeeded now j → IsNeeded before j
    needed-two j need = ⊎_elim (λ p. inl p) (λ h. inr (⊎_elim (λ k. inl (k.0, k.1 ∙ two_lengths)) (λ u. inr (u.0, u.1 ∙ two_lengths)) h)) need

    reach-two : (j : ℕ) (reach : Option Place) → HasReach now j reach → HasReach before j reach
    reach-two j reach has = (λ e. has.0 (e ∙ sym two_lengths), λ off. has.1 (λ e. off (e ∙ two_lengths)))

    pub merged-is : IsChain before → IsVersion x → IsVersion y → IsChain now
    merged-is ch i k = record {
      versions = each_two IsVersion older back a b x y ch.versions (λ _ _. (i, k));
      pins = λ j p. omega (arith, ch.pins j p, two_lengths);
      unpinned = λ u j p. omega (arith, ch.unpinned u j p, two_lengths);
    }

    module _ (m : IsMerged a b x y) (below : ℕ → List Mutation) (px : x.phase ≡ a.phase) (py : y.phase ≡ b.phase) where
      newer_stand : (k : ℕ) → phase_at (y ∷ back) k ≡ phase_at (b ∷ back) k
      newer_stand zero = py
      newer_stand (suc k) = refl

      same_within : (j : ℕ) → HoldNoMore (below (phase_at before.versions j)) (upto before.versions j) → HoldNoMore (below (phase_at now.versions j)) (upto now.versions j)
      same_within j h = ⊎_elim
          (λ o. subst (λ (s : Stand). HoldNoMore (below s.0) s.1) (stand-older j older (a ∷ b ∷ back) o ∙ sym (stand-older j older (x ∷ y ∷ back) o)) h)
          (λ n. from n.0 n.1)
          (older_or_from j (length older))
        where
          from : (k : ℕ) → j ≡ above (length older) k → HoldNoMore (below (phase_at now.versions j)) (upto now.versions j)
          from zero e =
              subst (λ (s : Stand). HoldNoMore (below s.0) s.1) (sym (stand-at j older (y ∷ back) x e))
              (subst (λ n. HoldNoMore (below n) (older ++ x ∷ [])) (sym px)
              (older_within older a b x y m (below a.phase) (subst (λ (s : Stand). HoldNoMore (below s.0) s.1) (stand-at j older (b ∷ back) a e) h)))
          from (suc k) e =
              subst (λ (s : Stand). HoldNoMore (below s.0) s.1) (sym (ap (stand now.versions) e ∙ stand-from (suc k) older (x ∷ y ∷ back)))
              (subst (λ n. HoldNoMore (below n) (older ++ x ∷ y ∷ take k back)) (sym (newer_stand k))
              (merged-within (below (phase_at (b ∷ back) k)) older (take k back) a b x y m (subst (λ (s : Stand). HoldNoMore (below s.0) s.1) (ap (stand before.versions) e ∙ stand-from (suc k) older (a ∷ b ∷ back)) h)))

      same_needed : (j : ℕ) (reach : Option Place) → (j ≡ length older → ⊥) → IsContinuous reach (below (phase_at before.versions j)) (upto before.versions j) → IsContinuous reach (below (phase_at now.versions j)) (upto now.versions j)
      same_needed j reach off h = ⊎_elim
          (λ o. subst (λ (s : Stand). IsContinuous reach (below s.0) s.1) (stand-older j older (a ∷ b ∷ back) o ∙ sym (stand-older j older (x ∷ y ∷ back) o)) h)
          (λ n. from n.0 n.1)
          (older_or_from j (length older))
        where
          from : (k : ℕ) → j ≡ above (length older) k → IsContinuous reach (below (phase_at now.versions j)) (upto now.versions j)
          from zero e = absurd (off (e ∙ above-zero (length older)))
          from (suc k) e =
              subst (λ (s : Stand). IsContinuous reach (below s.0) s.1) (sym (ap (stand now.versions) e ∙ stand-from (suc k) older (x ∷ y ∷ back)))
              (subst (λ n. IsContinuous reach (below n) (older ++ x ∷ y ∷ take k back)) (sym (newer_stand k))
              (merged-continuous reach (below (phase_at (b ∷ back) k)) older (take k back) a b x y m (subst (λ (s : Stand). IsContinuous reach (below s.0) s.1) (ap (stand before.versions) e ∙ stand-from (suc k) older (a ∷ b ∷ back)) h)))

      -- under update the newest version is not one of the two
      pub merged-chain : (IsNeeded before (length older) → ⊥) → IsChainContinuous below before → IsChainContinuous below now
      merged-chain off k = record {
        within = λ j l. same_within j (k.within j (omega (arith, l, two_lengths)));
        needed = λ j reach has need. same_needed j reach (λ e. off (subst (IsNeeded before) e (needed-two j need))) (k.needed j reach (reach-two j reach has) (needed-two j need));
        ahead = λ p e. untouched back off p e (k.ahead p e);
      }
        where
          untouched : (zs : List Version) → (IsNeeded (with_versions (older ++ a ∷ b ∷ zs) c) (length older) → ⊥) → (p : Place) → c.updating ≡ Some p →
              NewestIs (IsAtPlace p) (older ++ a ∷ b ∷ zs) → NewestIs (IsAtPlace p) (older ++ x ∷ y ∷ zs)
          untouched [] o p e h = absurd (o (inr (inr (subst IsUpdating (sym e) tt, omega (arith, length-cons older a (b ∷ []))))))
          untouched (z ∷ zs) o p e h = subst (λ (T : Type 0). T) (NewestIs-back (IsAtPlace p) older a (b ∷ z ∷ zs) ∙ sym (NewestIs-back (IsAtPlace p) older x (y ∷ z ∷ zs))) h

-- ---- a dropped version

pub renumbered-older : (n j : ℕ) → j < n → number_after_removal n j ≡ j
renumbered-older zero j l = absurd (omega (arith, l))
renumbered-older (suc n) zero l = refl
renumbered-older (suc n) (suc j) l = ap suc (renumbered-older n j (omega (arith, l)))

pub renumbered-newer : (n k : ℕ) → number_after_removal n (above n (suc k)) ≡ above n k
renumbered-newer zero k = refl
renumbered-newer (suc n) k = ap suc (renumbered-newer n k)

pub all_but-parts : (older rest : List Version) (v : Version) → all_but (length older) (older ++ v ∷ rest) ≡ older ++ rest
all_but-parts [] rest v = refl
all_but-parts (o ∷ os) rest v = ap (λ vs. o ∷ vs) (all_but-parts os rest v)

-- a version pinned once the one of number n is gone is one that was pinned before, by the number that it had
pub record PinOf (n j : ℕ) (pins : List (Option ℕ)) : Type 0 where
  pub number : ℕ
  pub pinned : IsPinned pins number
  pub is : j ≡ number_after_removal n number

pub pin_of : (n j : ℕ) (pins : List (Option ℕ)) → IsPinned (list_map (option_map (number_after_removal n)) pins) j → PinOf n j pins
pin_of n j [] h = absurd h
pin_of n j (None ∷ ps) h = ⊎_elim
    (λ e. let u : None ≡ Some j = e in absurd (cc))
    (λ k. let r = pin_of n j ps k in record { number = r.number; pinned = inr r.pinned; is = r.is })
    h
pin_of n j (Some p ∷ ps) h = ⊎_elim
    (λ e. record { number = p; pinned = inl refl; is = sym (ap version_in e) })
    (λ k. let r = pin_of n j ps k in record { number = r.number; pinned = inr r.pinned; is = r.is })
    h

-- the number that a pinned version had, below or above the dropped one
pub pinned_older : (n j : ℕ) (pins : List (Option ℕ)) → (IsPinned pins n → ⊥) → j < n → PinOf n j pins → IsPinned pins j
pinned_older n j pins off l r = ⊎_elim
    (λ o. subst (IsPinned pins) (sym (r.is ∙ renumbered-older n r.number o)) r.pinned)
    (λ k. from k.0 k.1)
    (older_or_from r.number n)
  where
    from : (k : ℕ) → r.number ≡ above n k → IsPinned pins j
    from zero e = absurd (off (subst (IsPinned pins) (e ∙ above-zero n) r.pinned))
    from (suc k) e = absurd (omega (arith, l, r.is ∙ ap (number_after_removal n) e ∙ renumbered-newer n k, above-is n k))

pub pinned_newer : (n k : ℕ) (pins : List (Option ℕ)) → (IsPinned pins n → ⊥) → PinOf n (above n k) pins → IsPinned pins (above n (suc k))
pinned_newer n k pins off r = ⊎_elim
    (λ o. absurd (omega (arith, o, r.is ∙ renumbered-older n r.number o, above-is n k)))
    (λ m. from m.0 m.1)
    (older_or_from r.number n)
  where
    from : (m : ℕ) → r.number ≡ above n m → IsPinned pins (above n (suc k))
    from zero e = absurd (off (subst (IsPinned pins) (e ∙ above-zero n) r.pinned))
    from (suc m) e = subst (IsPinned pins) (e ∙ omega (arith, r.is ∙ ap (number_after_removal n) e ∙ renumbered-newer n m, above-is n k, above-is n m, above-is n (suc k), above-is n (suc m))) r.pinned

module _ (older back : List Version) (v w : Version) (c : Chain) where
  abbrev kept : Chain
  kept = with_versions (older ++ v ∷ w ∷ back) c

  abbrev less : Chain
  less = record { kind = c.kind; versions = older ++ w ∷ back; attached = c.attached; updating = c.updating; pins = list_map (option_map (number_after_removal (length older))) c.pins }

  lengths : length (older ++ v ∷ w ∷ back) ≡ suc (length (older ++ w ∷ back))
  lengths = omega (arith, length-cons older v (w ∷ back), length-cons older w back)

  both : (k : ℕ) → above (length older) (suc k) ≡ suc (above (length older) k)
  both k = omega (arith, above-is (length older) k, above-is (length older) (suc k))

  module _ (off : IsNeeded kept (length older) → ⊥) where
    unpinned : IsPinned c.pins (length older) → ⊥
    unpinned p = off (inl p)

    needed-below : (j : ℕ) → j < length older → IsNeeded less j → IsNeeded kept j
    needed-below j l need = ⊎_elim
        (λ p. inl (pinned_older (length older) j c.pins unpinned l (pin_of (length older) j c.pins p)))
        (λ h. ⊎_elim
        (λ a. absurd (omega (arith, l, a.1, length-cons older w back)))
        (λ u. absurd (off (inr (inr (u.0, omega (arith, l, u.1, length-cons older w back, lengths))))))
        h)
        need

    needed-above : (k : ℕ) → IsNeeded less (above (length older) k) → IsNeeded kept (above (length older) (suc k))
    needed-above k need = ⊎_elim
        (λ p. inl (pinned_newer (length older) k c.pins unpinned (pin_of (length older) (above (length older) k) c.pins p)))
        (λ h. inr (⊎_elim (λ a. inl (a.0, omega (arith, a.1, lengths, both k))) (λ u. inr (u.0, omega (arith, u.1, lengths, both k))) h))
        need

    pub dropped-is : IsChain kept → IsChain less
    dropped-is ch = record {
      versions = each_less IsVersion older (w ∷ back) v ch.versions;
      pins = λ j p. ⊎_elim
          (λ o. omega (arith, o, length-cons older w back))
          (λ m. let q = pinned_newer (length older) m.0 c.pins unpinned (subst (λ n. PinOf (length older) n c.pins) m.1 (pin_of (length older) j c.pins p)) in omega (arith, ch.pins (above (length older) (suc m.0)) q, lengths, m.1, both m.0))
          (older_or_from j (length older));
      unpinned = λ u j p. ⊎_elim
          (λ o. omega (arith, o, length-cons older w back))
          (λ m. let q = pinned_newer (length older) m.0 c.pins unpinned (subst (λ n. PinOf (length older) n c.pins) m.1 (pin_of (length older) j c.pins p)) in omega (arith, ch.unpinned u (above (length older) (suc m.0)) q, lengths, m.1, both m.0))
          (older_or_from j (length older));
    }

    module _ (below : ℕ → List Mutation) (s : IsSilent v) (t : greatest tomb_cmp (option_to_list v.pt ++ option_to_list w.pt) ≡ greatest tomb_cmp (option_to_list w.pt)) where
      pub dropped-chain : IsChainContinuous below kept → IsChainContinuous below less
      dropped-chain k = record {
        within = λ j l. ⊎_elim
            (λ o. subst (λ (x : Stand). HoldNoMore (below x.0) x.1) (stand-older j older (v ∷ w ∷ back) o ∙ sym (stand-older j older (w ∷ back) o)) (k.within j (omega (arith, l, lengths))))
            (λ m. above_within m.0 j m.1 l)
            (older_or_from j (length older));
        needed = λ j reach has need. ⊎_elim
            (λ o. subst (λ (x : Stand). IsContinuous reach (below x.0) x.1) (stand-older j older (v ∷ w ∷ back) o ∙ sym (stand-older j older (w ∷ back) o))
            (k.needed j reach (λ e. absurd (omega (arith, o, e, lengths, length-cons older w back)), λ _. has.1 (λ e. omega (arith, o, e, length-cons older w back))) (needed-below j o need)))
            (λ m. above_needed m.0 j reach m.1 has need)
            (older_or_from j (length older));
        ahead = λ p e. subst (λ (T : Type 0). T) (NewestIs-back (IsAtPlace p) older v (w ∷ back) ∙ sym (NewestIs-back (IsAtPlace p) older w back)) (k.ahead p e);
      }
        where
          stands : (q : ℕ) (j : ℕ) → j ≡ above (length older) q → stand (older ++ w ∷ back) j ≡ (phase_at (w ∷ back) q, older ++ w ∷ take q back)
          stands q j e = ap (stand (older ++ w ∷ back)) e ∙ stand-from q older (w ∷ back)

          was : (q : ℕ) → stand (older ++ v ∷ w ∷ back) (above (length older) (suc q)) ≡ (phase_at (w ∷ back) q, older ++ v ∷ w ∷ take q back)
          was q = stand-from (suc q) older (v ∷ w ∷ back)

          above_within : (q j : ℕ) → j ≡ above (length older) q → j < length (older ++ w ∷ back) → HoldNoMore (below (phase_at (older ++ w ∷ back) j)) (upto (older ++ w ∷ back) j)
          above_within q j e l =
              subst (λ (x : Stand). HoldNoMore (below x.0) x.1) (sym (stands q j e))
              (dropped-within (below (phase_at (w ∷ back) q)) older (w ∷ take q back) v
              (subst (λ (x : Stand). HoldNoMore (below x.0) x.1) (was q) (k.within (above (length older) (suc q)) (omega (arith, e, l, lengths, both q)))))

          above_needed : (q j : ℕ) (reach : Option Place) → j ≡ above (length older) q → HasReach less j reach → IsNeeded less j → IsContinuous reach (below (phase_at (older ++ w ∷ back) j)) (upto (older ++ w ∷ back) j)
          above_needed q j reach e has need =
              subst (λ (x : Stand). IsContinuous reach (below x.0) x.1) (sym (stands q j e))
              (dropped-continuous reach (below (phase_at (w ∷ back) q)) older (take q back) v w s t
              (subst (λ (x : Stand). IsContinuous reach (below x.0) x.1) (was q)
              (k.needed (above (length older) (suc q)) reach (λ f. has.0 (omega (arith, e, f, lengths, both q)), λ n. has.1 (λ f. n (omega (arith, e, f, lengths, both q)))) (needed-above q (subst (IsNeeded less) e need)))))

-- ---- the same, of a chain whose versions are these

pub merged-whole : (below : ℕ → List Mutation) (c : Chain) (older back : List Version) (a b x y : Version) → c.versions ≡ older ++ a ∷ b ∷ back → (IsNeeded c (length older) → ⊥) → IsMerged a b x y → x.phase ≡ a.phase → y.phase ≡ b.phase →
    IsChainContinuous below c → IsChainContinuous below (with_versions (older ++ x ∷ y ∷ back) c)
merged-whole below c older back a b x y vs off m px py k =
    merged-chain older back a b x y c m below px py (subst (λ us. IsNeeded (with_versions us c) (length older) → ⊥) vs off) (subst (λ us. IsChainContinuous below (with_versions us c)) vs k)

pub merged-form : (c : Chain) (older back : List Version) (a b x y : Version) → c.versions ≡ older ++ a ∷ b ∷ back → IsVersion x → IsVersion y → IsChain c → IsChain (with_versions (older ++ x ∷ y ∷ back) c)
merged-form c older back a b x y vs i k ch = merged-is older back a b x y c (subst (λ us. IsChain (with_versions us c)) vs ch) i k

pub dropped-whole : (below : ℕ → List Mutation) (c : Chain) (older back : List Version) (v w : Version) → c.versions ≡ older ++ v ∷ w ∷ back → (IsNeeded c (length older) → ⊥) → IsSilent v →
    greatest tomb_cmp (option_to_list v.pt ++ option_to_list w.pt) ≡ greatest tomb_cmp (option_to_list w.pt) → IsChainContinuous below c → IsChainContinuous below (drop_version (length older) c)
dropped-whole below c older back v w vs off s t k =
    subst (λ us. IsChainContinuous below (record { kind = c.kind; versions = us; attached = c.attached; updating = c.updating; pins = list_map (option_map (number_after_removal (length older))) c.pins }))
    (sym (ap (all_but (length older)) vs ∙ all_but-parts older (w ∷ back) v))
    (dropped-chain older back v w c (subst (λ us. IsNeeded (with_versions us c) (length older) → ⊥) vs off) below s t (subst (λ us. IsChainContinuous below (with_versions us c)) vs k))

pub dropped-form : (c : Chain) (older back : List Version) (v w : Version) → c.versions ≡ older ++ v ∷ w ∷ back → (IsNeeded c (length older) → ⊥) → IsChain c → IsChain (drop_version (length older) c)
dropped-form c older back v w vs off ch =
    subst (λ us. IsChain (record { kind = c.kind; versions = us; attached = c.attached; updating = c.updating; pins = list_map (option_map (number_after_removal (length older))) c.pins }))
    (sym (ap (all_but (length older)) vs ∙ all_but-parts older (w ∷ back) v))
    (dropped-is older back v w c (subst (λ us. IsNeeded (with_versions us c) (length older) → ⊥) vs off) (subst (λ us. IsChain (with_versions us c)) vs ch))

-- ---- what is seen at each version that is needed

seen_itself : (vs : List Version) → IsSeenAlike vs vs
seen_itself vs = record { statics = (refl, refl); clustered = λ s. (refl, refl); head = refl }

pub merged-seen-each : (c : Chain) (older back : List Version) (a b x y : Version) → c.versions ≡ older ++ a ∷ b ∷ back → (IsNeeded c (length older) → ⊥) → IsMerged a b x y → (j : ℕ) → IsNeeded c j →
    IsSeenAlike (upto c.versions j) (upto (older ++ x ∷ y ∷ back) j)
merged-seen-each c older back a b x y vs off m j need = ⊎_elim
    (λ o. subst (IsSeenAlike (upto c.versions j)) (ap (λ us. upto us j) vs ∙ ap (λ (s : Stand). s.1) (stand-older j older (a ∷ b ∷ back) o ∙ sym (stand-older j older (x ∷ y ∷ back) o))) (seen_itself (upto c.versions j)))
    (λ n. from n.0 n.1)
    (older_or_from j (length older))
  where
    from : (k : ℕ) → j ≡ above (length older) k → IsSeenAlike (upto c.versions j) (upto (older ++ x ∷ y ∷ back) j)
    from zero e = absurd (off (subst (IsNeeded c) (e ∙ above-zero (length older)) need))
    from (suc k) e =
        subst (λ us. IsSeenAlike us (upto (older ++ x ∷ y ∷ back) j)) (sym (ap (λ us. upto us j) vs ∙ ap (λ (s : Stand). s.1) (ap (stand (older ++ a ∷ b ∷ back)) e ∙ stand-from (suc k) older (a ∷ b ∷ back))))
        (subst (IsSeenAlike (older ++ a ∷ b ∷ take k back)) (sym (ap (λ (s : Stand). s.1) (ap (stand (older ++ x ∷ y ∷ back)) e ∙ stand-from (suc k) older (x ∷ y ∷ back))))
        (merged-seen older (take k back) a b x y m))

pub dropped-seen-each : (c : Chain) (older back : List Version) (v w : Version) → c.versions ≡ older ++ v ∷ w ∷ back → (IsNeeded c (length older) → ⊥) → IsSilent v →
    greatest tomb_cmp (option_to_list v.pt ++ option_to_list w.pt) ≡ greatest tomb_cmp (option_to_list w.pt) → (j : ℕ) → IsNeeded c j →
    IsSeenAlike (upto c.versions j) (upto (all_but (length older) c.versions) (number_after_removal (length older) j))
dropped-seen-each c older back v w vs off s t j need =
    subst (λ us. IsSeenAlike (upto c.versions j) (upto us (number_after_removal (length older) j))) (sym (ap (all_but (length older)) vs ∙ all_but-parts older (w ∷ back) v))
    (subst (λ us. IsSeenAlike (upto us j) (upto (older ++ w ∷ back) (number_after_removal (length older) j))) (sym vs)
    (⊎_elim
    (λ o. subst (λ n. IsSeenAlike (upto (older ++ v ∷ w ∷ back) j) (upto (older ++ w ∷ back) n)) (sym (renumbered-older (length older) j o))
    (subst (IsSeenAlike (upto (older ++ v ∷ w ∷ back) j)) (ap (λ (z : Stand). z.1) (stand-older j older (v ∷ w ∷ back) o ∙ sym (stand-older j older (w ∷ back) o))) (seen_itself (upto (older ++ v ∷ w ∷ back) j))))
    (λ n. from n.0 n.1)
    (older_or_from j (length older))))
  where
    from : (k : ℕ) → j ≡ above (length older) k → IsSeenAlike (upto (older ++ v ∷ w ∷ back) j) (upto (older ++ w ∷ back) (number_after_removal (length older) j))
    from zero e = absurd (off (subst (IsNeeded c) (e ∙ above-zero (length older)) need))
    from (suc k) e =
        subst (λ us. IsSeenAlike us (upto (older ++ w ∷ back) (number_after_removal (length older) j))) (sym (ap (λ (z : Stand). z.1) (ap (stand (older ++ v ∷ w ∷ back)) e ∙ stand-from (suc k) older (v ∷ w ∷ back))))
        (subst (IsSeenAlike (older ++ v ∷ w ∷ take k back)) (sym (ap (λ (z : Stand). z.1) (ap (λ n. stand (older ++ w ∷ back) (number_after_removal (length older) n)) e ∙ ap (stand (older ++ w ∷ back)) (renumbered-newer (length older) k) ∙ stand-from k older (w ∷ back))))
        (dropped-seen older (take k back) v w s t))
