-- A cache chain that agrees with what was read stands for it, where nothing else is held.
use Rattle.std.specs.Prelude.{◌≡◌, ◌<◌, ◌==◌, All, true, false, cond, IsTrue, ℕ, zero, suc, List, [], ◌∷◌, Option, length}
use Rattle.std.proofs.Common.{inl, inr, ⊎_elim, refl, sym, ap, ◌∙◌, subst, arith}
use Rattle.std.proofs.lemmas.Bool.Decides.{Decides-eqb}
use Rattle.rc_cell.specs.declared.rows.Row.{Row}
use Rattle.rc_cell.specs.declared.writes.Tomb.{Tomb}
use Rattle.rc_position.specs.declared.positions.Pos.{Pos}
use Rattle.rc_position.specs.Position.{Place}
use Rattle.rc_writes.specs.Allowed.{ChangeFits}
use Rattle.rc_mutation.specs.declared.mutations.Mutation.{Mutation}
use Rattle.rc_mutation.specs.Source.{SameSource, source_at}
use Rattle.rc_core.specs.Chain.{content, has_flag, states_at}
use Rattle.rc_core.specs.Chains.{IsNeeded, Shown, at_place, phase_at, upto}
use Rattle.rc_core.specs.Continuity.{HoldNoMore, IsContinuous}
use Rattle.rc_core.specs.declared.entries.ChainKind.TheVariants.{Cache}
use Rattle.rc_core.specs.Version.{On, Version}
use Rattle.rc_memory.specs.Memory.{Memory}
use Rattle.rc_chain.specs.declared.chains.Snap.{Snap}
use Rattle.rc_cursor.specs.Snapshots.{kind_in, kind_seen, versions_in, versions_upto}
use Rattle.rc_filler.specs.Stands.{StandsForWrites}
use Rattle.rc_agreement.specs.Agreement.{AgreesWith, SnapshotAgrees}
use Rattle.rc_agreement.specs.Standing.{IsHeldWithin}
use Rattle.rc_agreement.proofs.Known.{known-or}

same-source : (writes : List Mutation) → SameSource writes writes
same-source writes = record { head = refl; statics = refl; clustered = λ x. refl }

module _ (S : ℕ) (m : Memory) (s : Snap) (writes : List Mutation) (read : Mutation) (d : StandsForWrites S m s.chain s.pin writes) (agrees : SnapshotAgrees m s (read ∷ [])) (fits : ChangeFits d.schema read) (held : IsHeldWithin d.snapshot.chain.chain d.snapshot.number (read ∷ [])) where
  abbrev c : Shown
  c = d.snapshot.chain.chain

  abbrev vs : List Version
  vs = upto d.snapshot.chain.chain.versions d.snapshot.number

  abbrev phase : ℕ
  phase = phase_at d.snapshot.chain.chain.versions d.snapshot.number

  is : AgreesWith Cache vs (read ∷ [])
  is = subst (λ q. AgreesWith q vs (read ∷ [])) (ap kind_in d.snapshot.there ∙ d.snapshot.cached)
      (subst (λ l. AgreesWith (kind_seen m s) l (read ∷ [])) (ap (λ o. versions_in o s.pin) d.snapshot.there ∙ ap (versions_upto d.snapshot.chain.chain.versions) d.snapshot.pinned) agrees)

  -- what lies below now: at the phase of the pinned version what was read, at each other one what lay there
  abbrev below_now : ℕ → List Mutation
  below_now p = cond (p == phase) (read ∷ []) (d.below p)

  by-phase : (P : List Mutation → Type 0) (p : ℕ) → (p ≡ phase → P (read ∷ [])) → P (d.below p) → P (below_now p)
  by-phase P p f h = elim (p == phase) as (λ b. (p == phase) ≡ b → P (cond b (read ∷ []) (d.below p))) [
    | true ↦ λ e. f ((Decides-eqb p phase).0 e)
    | false ↦ λ _. h
  ] refl

  here : below_now phase ≡ read ∷ []
  here = ap (λ b. cond b (read ∷ []) (d.below phase)) ((Decides-eqb phase phase).1 refl)

  at-number : (P : ℕ → Type 0) (j : ℕ) → j < length c.versions → P d.snapshot.number → phase_at c.versions j ≡ phase → P j
  at-number P j low h e = subst P (sym (held.other_phases j low e)) h

  needed-low : (j : ℕ) → IsNeeded (at_place d.place c) j → j < length c.versions
  needed-low j (inl pinned) = d.form.pins j pinned
  needed-low j (inr (inl newest)) = let e = newest.1 in omega (arith, e)
  needed-low j (inr (inr under)) = let e = under.1 in omega (arith, e)

  seen-is : (x : Pos) → IsTrue (has_flag Cache (states_at (On x) vs)) → content (states_at (On x) vs) ≡ source_at (read ∷ []) x
  seen-is x t = ⊎_elim
      (λ k. sym (is.known.there x (content (states_at (On x) vs)) (record { known = k; there = refl })))
      (λ off. held.flagged_alone x t off)
      (known-or Cache vs x)

  continuous : (reach : Option Place) (old : List Mutation) → IsContinuous reach old vs → IsContinuous reach (read ∷ []) vs
  continuous reach old k = record {
    within = held.within;
    statics = λ r t. λ i. (sym (is.known.static_row t) i, ap (λ (v : Row × Option Tomb). v.1) (k.statics r t) i);
    clustered = λ x r t. seen-is x t;
    head = λ r. is.known.head;
    even = k.even;
  }

  all-fit : All (ChangeFits d.schema) (read ∷ [])
  all-fit zero e l = fits
  all-fit (suc k) e l = absurd (omega (arith, l))

  pub stands-now : StandsForWrites S m s.chain s.pin (read ∷ [])
  stands-now = record {
    snapshot = d.snapshot;
    place = d.place;
    below = below_now;
    form = d.form;
    continuous = record {
      within = λ j low. by-phase (λ ws. HoldNoMore ws (upto c.versions j)) (phase_at c.versions j) (at-number (λ i. HoldNoMore (read ∷ []) (upto c.versions i)) j low held.within) (d.continuous.within j low);
      needed = λ j reach has need.
          by-phase (λ ws. IsContinuous reach ws (upto c.versions j)) (phase_at c.versions j)
          (λ e. (let at = held.other_phases j (needed-low j need) e in
          subst (λ i. IsContinuous reach (read ∷ []) (upto c.versions i)) (sym at) (continuous reach (d.below (phase_at c.versions j)) (subst (λ i. IsContinuous reach (d.below (phase_at c.versions j)) (upto c.versions i)) at (d.continuous.needed j reach has need)))))
          (d.continuous.needed j reach has need);
      ahead = d.continuous.ahead;
    };
    unlisted = d.unlisted;
    source = subst (λ ws. SameSource ws (read ∷ [])) (sym here) (same-source (read ∷ []));
    schema = d.schema;
    limits = d.limits;
    small = d.small;
    changes = all-fit;
    rows = d.rows;
  }
