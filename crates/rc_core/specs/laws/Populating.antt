-- Fills of the newest version of a whole chain, and a new phase of it.
use Rattle.std.specs.Prelude.{◌<◌, ◌≡◌, ℕ, suc, true, List, [], ◌∷◌, ◌++◌, Option, Some, None, length}
use Rattle.std.proofs.Common.{refl, sym, ap, ◌∙◌, subst}
use Rattle.std.specs.Option.{option_to_list}
use Rattle.rc_cell.specs.declared.rows.Row.{Row}
use Rattle.rc_cell.specs.declared.writes.Tomb.{Tomb}
use Rattle.rc_cell.specs.Orders.{tomb_cmp}
use Rattle.rc_cell.specs.Winner.{greatest, joined_row, empty_row}
use Rattle.rc_position.specs.declared.positions.Pos.{Pos}
use Rattle.rc_position.specs.Position.{Place, IsBefore, covers}
use Rattle.rc_mutation.specs.declared.mutations.Mutation.{Mutation}
use Rattle.rc_mutation.specs.Source.{SameSource, source_at, source_at_static}
use Rattle.rc_core.specs.Version.{Version, IsVersion, state_at, static_state, end_position}
use Rattle.rc_core.specs.Continuity.{EachOf, IsContinuous, fill_statics}
use Rattle.rc_core.specs.AtPlace.{IsAtPlace}
use Rattle.rc_core.specs.Chains.{Chain, phase_at, upto, NewestIs, IsChainContinuous, with_versions}
use Rattle.rc_core.specs.Steps.{IsChain, MayPopulate, on_newest, with_newest, gap_filled, row_filled, with_phase}
use Rattle.rc_core.specs.laws.Losing.{each-one, each-other, tombs-same}
use Rattle.rc_core.specs.laws.Merging.{alike-continuous, equal_alike}
use Rattle.rc_core.specs.laws.Filling.{seen-same, gap-continuous, row-continuous, statics-continuous}
use Rattle.rc_core.specs.laws.Updating.{relabelled, same-hold}
use Rattle.rc_core.specs.laws.Order.{change-is, fill_row-is}
use Rattle.rc_core.specs.laws.Standing.{Stand, above-zero, newest-is, Newest, on_newest-parts, stand-at, newest-chain, newest-replaced, needed-there, NewestIs-back}

pub phase-newest : (versions : List Version) (j : ℕ) (n : Newest versions j) → phase_at versions j ≡ n.newest.phase
phase-newest versions j n =
    ap (λ us. phase_at us j) n.parts
    ∙ ap (λ (s : Stand). s.0) (stand-at j n.older [] n.newest (sym n.number ∙ sym (above-zero (length n.older))))

pub newest-version : (versions : List Version) (j : ℕ) (n : Newest versions j) → EachOf IsVersion versions → IsVersion n.newest
newest-version versions j n h = each-one IsVersion n.older [] n.newest (subst (EachOf IsVersion) n.parts h)

-- whatever keeps the continuity of the newest version keeps that of the chain
pub with_newest-chain : (below : ℕ → List Mutation) (c : Chain) (j : ℕ) (f : Version → Version) (n : Newest c.versions j) → IsChain c → c.attached ≡ true →
    (IsContinuous c.updating (below n.newest.phase) (n.older ++ n.newest ∷ []) → IsContinuous c.updating (below (f n.newest).phase) (n.older ++ f n.newest ∷ [])) →
    ((p : Place) → c.updating ≡ Some p → IsAtPlace p n.newest → IsAtPlace p (f n.newest)) →
    IsChainContinuous below c → IsChainContinuous below (with_newest f c)
with_newest-chain below c j f n ch att step un k =
    subst (λ us. IsChainContinuous below (with_versions us c)) (sym (ap (on_newest f) n.parts ∙ on_newest-parts f n.older n.newest))
    (newest-replaced below c c.updating n.older n.newest (f n.newest) (subst (λ us. IsChain (with_versions us c)) n.parts ch) att (λ u. u) step
    (λ p e. un p e (subst (λ (T : Type 0). T) (NewestIs-back (IsAtPlace p) n.older n.newest []) (subst (NewestIs (IsAtPlace p)) n.parts (k.ahead p e))))
    (subst (λ us. IsChainContinuous below (with_versions us c)) n.parts k))

pub with_newest-is : (c : Chain) (j : ℕ) (f : Version → Version) (n : Newest c.versions j) → (IsVersion n.newest → IsVersion (f n.newest)) → IsChain c → IsChain (with_newest f c)
with_newest-is c j f n keep ch =
    subst (λ us. IsChain (with_versions us c)) (sym (ap (on_newest f) n.parts ∙ on_newest-parts f n.older n.newest))
    (newest-chain (λ _. []) c c.updating n.older n.newest (f n.newest) (subst (λ us. IsChain (with_versions us c)) n.parts ch) (keep (newest-version c.versions j n ch.versions)) (λ u. u))

-- ---- fills

module _ (below : ℕ → List Mutation) (c : Chain) (pin : ℕ) (m : MayPopulate c pin) where
  n : Newest c.versions pin
  n = newest-is c.versions pin m.newest

  -- a fill that keeps the newest version continuous, the chain not under update
  populated : (f : Version → Version) → IsChain c → ((v : Version) → (f v).phase ≡ v.phase) →
      ((older : List Version) (v : Version) → IsVersion v → IsContinuous None (below (phase_at c.versions pin)) (older ++ v ∷ []) → IsContinuous None (below (phase_at c.versions pin)) (older ++ f v ∷ [])) →
      IsChainContinuous below c → IsChainContinuous below (with_newest f c)
  populated f ch same step k = with_newest-chain below c pin f n ch m.attached
      (λ h. subst (λ r. IsContinuous r (below (f n.newest).phase) (n.older ++ f n.newest ∷ [])) (sym m.settled)
      (subst (λ q. IsContinuous None (below q) (n.older ++ f n.newest ∷ [])) (phase-newest c.versions pin n ∙ sym (same n.newest))
      (step n.older n.newest (newest-version c.versions pin n ch.versions)
      (subst (λ q. IsContinuous None (below q) (n.older ++ n.newest ∷ [])) (sym (phase-newest c.versions pin n))
      (subst (λ r. IsContinuous r (below n.newest.phase) (n.older ++ n.newest ∷ [])) m.settled h)))))
      (λ p e. let u : None ≡ Some p = sym m.settled ∙ e in absurd (cc))
      k

  pub gap-populated : (from to : Pos) (tomb : Option Tomb) → IsChain c → ((x : Pos) → covers from to x ≡ true → source_at (below (phase_at c.versions pin)) x ≡ (empty_row, tomb)) →
      IsChainContinuous below c → IsChainContinuous below (with_newest (gap_filled from to tomb) c)
  gap-populated from to tomb ch given = populated (gap_filled from to tomb) ch (λ _. refl) (λ older v i. gap-continuous (below (phase_at c.versions pin)) older v i from to tomb given)

  pub row-populated : (p : Pos) (row : Row) (tomb : Option Tomb) → IsChain c → source_at (below (phase_at c.versions pin)) p ≡ (row, tomb) → (row ≡ empty_row → ⊥) →
      IsChainContinuous below c → IsChainContinuous below (with_newest (row_filled p row tomb) c)
  row-populated p row tomb ch given some = populated (row_filled p row tomb) ch (λ _. refl) (λ older v i. row-continuous (below (phase_at c.versions pin)) older v i p row tomb given some)

  pub statics-populated : (given : Option Row) → IsChain c → joined_row (option_to_list given) ≡ source_at_static (below (phase_at c.versions pin)) →
      IsChainContinuous below c → IsChainContinuous below (with_newest (fill_statics given) c)
  statics-populated given ch g = populated (fill_statics given) ch (λ _. refl) (λ older v i. statics-continuous (below (phase_at c.versions pin)) older v given g)

pub gap-form : (c : Chain) (pin : ℕ) (from to : Pos) (tomb : Option Tomb) → MayPopulate c pin → IsChain c → IsChain (with_newest (gap_filled from to tomb) c)
gap-form c pin from to tomb m ch = let n = newest-is c.versions pin m.newest in with_newest-is c pin (gap_filled from to tomb) n (λ i. change-is _ from to n.newest i) ch

pub row-form : (c : Chain) (pin : ℕ) (p : Pos) (row : Row) (tomb : Option Tomb) → MayPopulate c pin → IsBefore p end_position → IsChain c → IsChain (with_newest (row_filled p row tomb) c)
row-form c pin p row tomb m b ch = let n = newest-is c.versions pin m.newest in with_newest-is c pin (row_filled p row tomb) n (λ i. fill_row-is p row tomb n.newest b i) ch

pub statics-form : (c : Chain) (pin : ℕ) (given : Option Row) → MayPopulate c pin → IsChain c → IsChain (with_newest (fill_statics given) c)
statics-form c pin given m ch = let n = newest-is c.versions pin m.newest in with_newest-is c pin (fill_statics given) n (λ i. record { ascend = i.ascend; ends = i.ends }) ch

-- ---- a new phase

pub relabelled-chain : (below : ℕ → List Mutation) (c : Chain) (j to : ℕ) → suc j ≡ length c.versions → IsChain c → c.attached ≡ true → SameSource (below (phase_at c.versions j)) (below to) →
    IsChainContinuous below c → IsChainContinuous below (with_newest (with_phase to) c)
relabelled-chain below c j to e ch att s k = let n = newest-is c.versions j e in with_newest-chain below c j (with_phase to) n ch att
    (λ h. same_but_phase c.updating (below to) n.older n.newest (relabelled c.updating (below n.newest.phase) (below to) (n.older ++ n.newest ∷ []) (subst (λ q. SameSource (below q) (below to)) (phase-newest c.versions j n) s) h))
    (λ p _ u. record {
      silent = record { head = u.silent.head; statics = u.silent.statics; clustered = u.silent.clustered };
      place = u.place;
    })
    k
  where
    -- a version with another phase says the same
    same_but_phase : (r : Option Place) (writes : List Mutation) (older : List Version) (v : Version) → IsContinuous r writes (older ++ v ∷ []) → IsContinuous r writes (older ++ with_phase to v ∷ [])
    same_but_phase r writes older v h = alike-continuous r writes (older ++ v ∷ []) (older ++ with_phase to v ∷ [])
        (record {
          statics = equal_alike _ _ (seen-same static_state older v (with_phase to v) refl);
          clustered = λ s. equal_alike _ _ (seen-same (state_at s) older v (with_phase to v) refl);
          head = ap (greatest tomb_cmp) (tombs-same older [] v (with_phase to v) refl);
        })
        (record {
          statics = each-other _ older [] v (with_phase to v) h.within.statics (each-one _ older [] v h.within.statics);
          clustered = λ x. each-other _ older [] v (with_phase to v) (h.within.clustered x) (each-one _ older [] v (h.within.clustered x));
        })
        h

pub phase-form : (c : Chain) (newest to : ℕ) → suc newest ≡ length c.versions → IsChain c → IsChain (with_newest (with_phase to) c)
phase-form c newest to e ch = let n = newest-is c.versions newest e in with_newest-is c newest (with_phase to) n (λ i. record { ascend = i.ascend; ends = i.ends }) ch

-- what lies below counts by its source, at the phases of the versions alone
pub same-below : (below other : ℕ → List Mutation) (c : Chain) → IsChain c → ((j : ℕ) → j < length c.versions → SameSource (below (phase_at c.versions j)) (other (phase_at c.versions j))) → IsChainContinuous below c → IsChainContinuous other c
same-below below other c ch s k = record {
  within = λ j l. same-hold (below (phase_at c.versions j)) (other (phase_at c.versions j)) (upto c.versions j) (s j l) (k.within j l);
  needed = λ j reach has need. relabelled reach (below (phase_at c.versions j)) (other (phase_at c.versions j)) (upto c.versions j) (s j (needed-there c j ch need)) (k.needed j reach has need);
  ahead = k.ahead;
}
