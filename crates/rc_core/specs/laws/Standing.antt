-- Versions of a chain by their numbers, and what holds of a whole chain where one or two of its versions are replaced, or one is dropped.
use Rattle.std.specs.Prelude.{◌<◌, ◌≡◌, ◌⊎◌, ◌+◌, ℕ, zero, suc, true, List, [], ◌∷◌, ◌++◌, Option, Some, length}
use Rattle.std.proofs.Common.{refl, sym, ap, ◌∙◌, subst, ⊎_elim, inl, inr, arith}
use Rattle.rc_position.specs.Position.{Place}
use Rattle.rc_mutation.specs.declared.mutations.Mutation.{Mutation}
use Rattle.rc_core.specs.Version.{Version, IsVersion}
use Rattle.rc_core.specs.Continuity.{EachOf, HoldNoMore, IsContinuous}
use Rattle.rc_core.specs.AtPlace.{IsAtPlace}
use Rattle.rc_core.specs.Chains.{Chain, upto, phase_at, IsNeeded, IsUpdating, NewestIs, IsChainContinuous, with_versions}
use Rattle.rc_core.specs.Steps.{IsChain, on_newest, with_updating}

-- the phase of a version, and the versions up to it
abbrev pub Stand : Type 0
Stand = ℕ × List Version

-- that of the version of a number
abbrev pub stand : List Version → ℕ → Stand
stand versions j = (phase_at versions j, upto versions j)

-- the number of the version k places behind the one of number n
abbrev pub above : ℕ → ℕ → ℕ
above zero k = k
above (suc n) k = suc (above n k)

pub above-is : (n k : ℕ) → above n k ≡ n + k
above-is zero k = omega arith
above-is (suc n) k = omega (arith, above-is n k)

pub above-zero : (n : ℕ) → above n 0 ≡ n
above-zero n = omega (arith, above-is n 0)

pub older_or_from : (j n : ℕ) → (j < n) ⊎ ((k : ℕ) × (j ≡ above n k))
older_or_from j zero = inr (j, refl)
older_or_from zero (suc n) = inl (omega arith)
older_or_from (suc j) (suc n) = ⊎_elim (λ l. inl (omega (arith, l))) (λ k. inr (k.0, ap suc k.1)) (older_or_from j n)

pub length-cons : (older : List Version) (v : Version) (rest : List Version) → length (older ++ v ∷ rest) ≡ length older + suc (length rest)
length-cons [] v rest = omega arith
length-cons (o ∷ os) v rest = omega (arith, length-cons os v rest)

pub stand-older : (j : ℕ) (older rest : List Version) → j < length older → stand (older ++ rest) j ≡ stand older j
stand-older j [] rest l = absurd (omega (arith, l))
stand-older zero (o ∷ os) rest l = refl
stand-older (suc j) (o ∷ os) rest l = ap (λ (s : Stand). (s.0, o ∷ s.1)) (stand-older j os rest (omega (arith, l)))

pub stand-from : (k : ℕ) (older rest : List Version) → stand (older ++ rest) (above (length older) k) ≡ (phase_at rest k, older ++ upto rest k)
stand-from k [] rest = refl
stand-from k (o ∷ os) rest = ap (λ (s : Stand). (s.0, o ∷ s.1)) (stand-from k os rest)

pub stand-at : (j : ℕ) (older rest : List Version) (v : Version) → j ≡ above (length older) 0 → stand (older ++ v ∷ rest) j ≡ (v.phase, older ++ v ∷ [])
stand-at j older rest v e = ap (stand (older ++ v ∷ rest)) e ∙ stand-from 0 older (v ∷ rest)

-- ---- the newest version

pub NewestIs-back : (P : Version → Type 0) (older : List Version) (v : Version) (rest : List Version) → NewestIs P (older ++ v ∷ rest) ≡ NewestIs P (v ∷ rest)
NewestIs-back P [] v rest = refl
NewestIs-back P (o ∷ []) v rest = refl
NewestIs-back P (o ∷ p ∷ os) v rest = NewestIs-back P (p ∷ os) v rest

pub NewestIs-all : (P Q : Version → Type 0) → ((v : Version) → P v → Q v) → (vs : List Version) → NewestIs P vs → NewestIs Q vs
NewestIs-all P Q f [] h = tt
NewestIs-all P Q f (v ∷ []) h = f v h
NewestIs-all P Q f (v ∷ w ∷ vs) h = NewestIs-all P Q f (w ∷ vs) h

-- the version of number j is the newest
pub record Newest (versions : List Version) (j : ℕ) : Type 0 where
  pub older : List Version
  pub newest : Version
  pub parts : versions ≡ older ++ newest ∷ []
  pub number : length older ≡ j

pub newest-is : (versions : List Version) (j : ℕ) → suc j ≡ length versions → Newest versions j
newest-is [] j e = absurd (omega (arith, e))
newest-is (v ∷ []) j e = record { older = []; newest = v; parts = refl; number = omega (arith, e) }
newest-is (v ∷ w ∷ vs) zero e = absurd (omega (arith, e))
newest-is (v ∷ w ∷ vs) (suc j) e = let r = newest-is (w ∷ vs) j (omega (arith, e)) in record { older = v ∷ r.older; newest = r.newest; parts = ap (λ us. v ∷ us) r.parts; number = ap suc r.number }

pub on_newest-parts : (f : Version → Version) (older : List Version) (v : Version) → on_newest f (older ++ v ∷ []) ≡ older ++ f v ∷ []
on_newest-parts f [] v = refl
on_newest-parts f (o ∷ []) v = refl
on_newest-parts f (o ∷ p ∷ os) v = ap (λ us. o ∷ us) (on_newest-parts f (p ∷ os) v)

-- a version that is there: an older one, or the newest
pub older_or_newest : (j : ℕ) (older : List Version) (v : Version) → j < length (older ++ v ∷ []) → (j < length older) ⊎ (j ≡ above (length older) 0)
older_or_newest j older v l = ⊎_elim inl (λ k. inr (omega (arith, l, k.1, length-cons older v [], above-is (length older) 0, above-is (length older) k.0))) (older_or_from j (length older))

pub needed-there : (c : Chain) (j : ℕ) → IsChain c → IsNeeded c j → j < length c.versions
needed-there c j ch need = ⊎_elim (λ p. ch.pins j p) (λ h. ⊎_elim (λ a. omega (arith, a.1)) (λ u. omega (arith, u.1)) h) need

module _ (below : ℕ → List Mutation) (c : Chain) (place : Option Place) (older : List Version) (v w : Version) where
  abbrev before : Chain
  before = with_versions (older ++ v ∷ []) c

  abbrev now : Chain
  now = with_updating place (with_versions (older ++ w ∷ []) c)

  same : length (older ++ w ∷ []) ≡ length (older ++ v ∷ [])
  same = length-cons older w [] ∙ sym (length-cons older v [])

  pub newest-chain : IsChain before → IsVersion w → (IsUpdating place → IsUpdating c.updating) → IsChain now
  newest-chain ch i up = record {
    versions = each older ch.versions;
    pins = λ j p. omega (arith, ch.pins j p, same);
    unpinned = λ u j p. omega (arith, ch.unpinned (up u) j p, same);
  }
    where
      each : (os : List Version) → EachOf IsVersion (os ++ v ∷ []) → EachOf IsVersion (os ++ w ∷ [])
      each [] h = (i, tt)
      each (o ∷ os) h = (h.0, each os h.1)

  needed-before : (j : ℕ) → (IsUpdating place → IsUpdating c.updating) → IsNeeded now j → IsNeeded before j
  needed-before j up need = ⊎_elim (λ p. inl p) (λ h. inr (⊎_elim (λ a. inl (a.0, a.1 ∙ same)) (λ u. inr (up u.0, u.1 ∙ same)) h)) need

  -- where the newest version of an attached chain is replaced, it alone has to be looked at
  pub newest-replaced : IsChain before → c.attached ≡ true → (IsUpdating place → IsUpdating c.updating) →
      (IsContinuous c.updating (below v.phase) (older ++ v ∷ []) → IsContinuous place (below w.phase) (older ++ w ∷ [])) →
      ((p : Place) → place ≡ Some p → IsAtPlace p w) →
      IsChainContinuous below before → IsChainContinuous below now
  newest-replaced ch att up step un k = record {
    within = λ j l. ⊎_elim
        (λ o. subst (λ (s : Stand). HoldNoMore (below s.0) s.1) (stand-older j older (v ∷ []) o ∙ sym (stand-older j older (w ∷ []) o)) (k.within j (omega (arith, o, length-cons older v []))))
        (λ n. subst (λ (s : Stand). HoldNoMore (below s.0) s.1) (sym (stand-at j older [] w n)) newest.within)
        (older_or_newest j older w l);
    needed = λ j reach has need. ⊎_elim
        (λ o. subst (λ (s : Stand). IsContinuous reach (below s.0) s.1) (stand-older j older (v ∷ []) o ∙ sym (stand-older j older (w ∷ []) o))
        (k.needed j reach (λ e. absurd (omega (arith, o, e, length-cons older v [])), λ _. has.1 (λ e. omega (arith, o, e, length-cons older w []))) (needed-before j up need)))
        (λ n. subst (λ r. IsContinuous r (below (phase_at (older ++ w ∷ []) j)) (upto (older ++ w ∷ []) j)) (sym (has.0 (omega (arith, n, above-is (length older) 0, length-cons older w []))))
        (subst (λ (s : Stand). IsContinuous place (below s.0) s.1) (sym (stand-at j older [] w n)) newest))
        (older_or_newest j older v (needed-there before j ch (needed-before j up need)));
    ahead = λ p e. subst (λ (T : Type 0). T) (sym (NewestIs-back (IsAtPlace p) older w [])) (un p e);
  }
    where
      newest : IsContinuous place (below w.phase) (older ++ w ∷ [])
      newest = step (subst (λ (s : Stand). IsContinuous c.updating (below s.0) s.1) (stand-at (length older) older [] v (omega (arith, above-is (length older) 0)))
          (k.needed (length older) c.updating (λ _. refl, λ off. absurd (off (omega (arith, length-cons older v [])))) (inr (inl (att, omega (arith, length-cons older v []))))))
