-- New chains, and what leaves a chain a chain.
use Rattle.std.specs.Prelude.{◌≡◌, ◌⊎◌, ◌<◌, true, false, ℕ, zero, suc, List, [], ◌∷◌, Option, Some, None, length}
use Rattle.std.proofs.Common.{append-nil, refl, sym, ap, ◌∙◌, subst, ⊎_elim, arith}
use Rattle.std.specs.declared.cmp.Ordering.{Ordering}
use Rattle.std.specs.declared.cmp.Ordering.TheVariants.{Less, Equal, Greater}
use Rattle.std.specs.Ordering.{is_gt}
use Rattle.std.specs.Option.{option_to_list}
use Rattle.rc_cell.specs.declared.rows.Row.{Row}
use Rattle.rc_cell.specs.declared.writes.Tomb.{Tomb}
use Rattle.rc_cell.specs.Orders.{tomb_cmp}
use Rattle.rc_cell.specs.Winner.{greatest, joined_row}
use Rattle.rc_position.specs.declared.positions.Pos.{Pos}
use Rattle.rc_position.specs.Position.{Place, pos_cmp}
use Rattle.rc_position.specs.laws.Bounds.{last_pos-greatest}
use Rattle.rc_mutation.specs.declared.mutations.Mutation.{Mutation}
use Rattle.rc_mutation.specs.Source.{source_at, source_at_static, source_at_head, static_rows, rows_in, all_rows}
use Rattle.rc_core.specs.declared.entries.ChainKind.TheVariants.{Memtable, Cache}
use Rattle.rc_core.specs.declared.entries.Flag.TheVariants.{Unknown, Inherit}
use Rattle.rc_core.specs.SpotState.{lost_state}
use Rattle.rc_core.specs.Version.{On, Behind, Version, IsVersion, state_at, static_state, state_of, entry_answers, finding_of, end_position}
use Rattle.rc_core.specs.Change.{dummy, mark}
use Rattle.rc_core.specs.Chain.{IsEvenAt}
use Rattle.rc_core.specs.Continuity.{IsWithin, HoldNoMore, IsContinuous}
use Rattle.rc_core.specs.Merge.{new_version}
use Rattle.rc_core.specs.Chains.{Chain, upto, phase_at, HasReach, IsNeeded, IsPinned, IsChainContinuous, IsMemtableChain}
use Rattle.rc_core.specs.Steps.{IsChain, with_newest, add_version, opened_version, new_chain}
use Rattle.rc_core.specs.laws.Losing.{tomb-alone, lost-within}
use Rattle.rc_core.specs.laws.Filling.{adds_nothing, content-known}
use Rattle.rc_core.specs.laws.GivenUp.{not_flagged}
use Rattle.rc_core.specs.laws.Merging.{new-silent, pts_one}
use Rattle.rc_core.specs.laws.Memtables.{even_as_before}
use Rattle.rc_core.specs.laws.Standing.{newest-is, length-cons}
use Rattle.rc_core.specs.laws.Populating.{with_newest-is}
use Rattle.rc_core.specs.laws.MemtableChains.{each_and_one, silent_inherits, silent_top}

-- ---- an opened entry

module _ (pt : Option Tomb) (statics : Option Row) (phase : ℕ) where
  abbrev v : Version
  v = opened_version pt statics phase

  opened_spot : (x : Pos) → state_at (On x) v ≡ lost_state
  opened_spot x = by (pos_cmp x end_position) refl
    where
      by : (r : Ordering) → pos_cmp x end_position ≡ r → state_of (entry_answers r (dummy end_position (mark Unknown None)) (finding_of (mark Inherit None) None)) ≡ lost_state
      by Less e = refl
      by Equal e = refl
      by Greater e = let u : false ≡ true = sym (last_pos-greatest x) ∙ ap is_gt e in absurd (cc)

  opened-continuous : (writes : List Mutation) → pt ≡ source_at_head writes → joined_row (option_to_list statics) ≡ source_at_static writes → IsContinuous None writes (v ∷ [])
  opened-continuous writes h g = record {
    within = record {
      statics = ((adds_nothing (source_at_static writes) (static_rows writes) (option_to_list statics) refl g, tomb-alone None), tt);
      clustered = λ x. (subst (λ c. IsWithin c (source_at writes x)) (sym (opened_spot x)) (lost-within (rows_in x (all_rows writes)) (source_at writes x).1), tt);
    };
    statics = λ _ _. content-known static_state [] v refl ∙ (λ i. (g i, tomb-alone None i));
    clustered = λ x _ f. absurd (not_flagged (state_at (On x)) [] v (opened_spot x) f);
    head = λ _. ap (greatest tomb_cmp) (pts_one [] [] v ∙ append-nil (option_to_list pt)) ∙ tomb-alone pt ∙ h;
    even = λ x _ bare known. absurd (not_flagged (state_at (On x)) [] v (opened_spot x) known.at);
  }

  pub opened-chain : (below : ℕ → List Mutation) → pt ≡ source_at_head (below phase) → joined_row (option_to_list statics) ≡ source_at_static (below phase) → IsChainContinuous below (new_chain Cache v)
  opened-chain below h g = record {
    within = within;
    needed = needed;
    ahead = λ p e. let u : None ≡ Some p = e in absurd (cc);
  }
    where
      ok : IsContinuous None (below phase) (v ∷ [])
      ok = opened-continuous (below phase) h g

      within : (j : ℕ) → j < 1 → HoldNoMore (below (phase_at (v ∷ []) j)) (upto (v ∷ []) j)
      within zero l = ok.within
      within (suc j) l = absurd (omega (arith, l))

      needed : (j : ℕ) (reach : Option Place) → HasReach (new_chain Cache v) j reach → IsNeeded (new_chain Cache v) j → IsContinuous reach (below (phase_at (v ∷ []) j)) (upto (v ∷ []) j)
      needed zero reach has need = subst (λ r. IsContinuous r (below phase) (v ∷ [])) (sym (has.0 refl)) ok
      needed (suc j) reach has need = absurd (⊎_elim (λ p. p) (λ k. ⊎_elim (λ a. omega (arith, a.1)) (λ u. u.0) k) need)

  pub opened-form : IsChain (new_chain Cache v)
  opened-form = record { versions = (record { ascend = tt; ends = (refl, refl) }, tt); pins = λ j p. absurd p; unpinned = λ u. absurd u }

-- ---- a new memtable

pub fresh-memtable : (pt : Option Tomb) (phase : ℕ) → IsMemtableChain (new_chain Memtable (new_version pt phase))
fresh-memtable pt phase = record {
  flags = (silent_inherits (new_version pt phase) (new-silent pt phase), tt);
  even = even;
}
  where
    even : (j : ℕ) → IsPinned [] j ⊎ ((true ≡ true) × (suc j ≡ 1)) → (x : Pos) → IsEvenAt Memtable (upto (new_version pt phase ∷ []) j) x
    even zero need x = even_as_before Memtable [] (new_version pt phase ∷ []) x (silent_top (state_at (On x)) [] (new_version pt phase) ((new-silent pt phase).clustered (On x))) (λ _. silent_top (state_at (Behind x)) [] (new_version pt phase) ((new-silent pt phase).clustered (Behind x))) (λ _ _. refl)
    even (suc j) need x = absurd (⊎_elim (λ p. p) (λ a. omega (arith, a.1)) need)

pub fresh-form : (pt : Option Tomb) (phase : ℕ) → IsChain (new_chain Memtable (new_version pt phase))
fresh-form pt phase = record { versions = (record { ascend = tt; ends = (refl, refl) }, tt); pins = λ j p. absurd p; unpinned = λ u. absurd u }

-- ---- what leaves a chain a chain

pub newest-form : (c : Chain) (newest : ℕ) (f : Version → Version) → suc newest ≡ length c.versions → ((v : Version) → IsVersion v → IsVersion (f v)) → IsChain c → IsChain (with_newest f c)
newest-form c newest f e keep ch = let n = newest-is c.versions newest e in with_newest-is c newest f n (keep n.newest) ch

pub added-form : (c : Chain) (pt : Option Tomb) (phase : ℕ) → IsChain c → IsChain (add_version pt phase c)
added-form c pt phase ch = record {
  versions = each_and_one IsVersion c.versions (new_version pt phase) ch.versions (record { ascend = tt; ends = (refl, refl) });
  pins = λ j p. omega (arith, ch.pins j p, length-cons c.versions (new_version pt phase) []);
  unpinned = λ u j p. omega (arith, ch.pins j p, length-cons c.versions (new_version pt phase) []);
}
