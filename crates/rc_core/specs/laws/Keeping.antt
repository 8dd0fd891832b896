-- Merging and dropping keep continuity, and eviction keeps that of a whole chain.
use Rattle.std.specs.Prelude.{◌<◌, ◌≡◌, ◌⊎◌, ℕ, zero, suc, true, List, [], ◌∷◌, ◌++◌, Option, Some, None, take, length, map as list_map}
use Rattle.std.proofs.Common.{append-nil, refl, sym, ap, ◌∙◌, subst, ⊎_elim, inl, inr, get_or}
use Rattle.std.proofs.lemmas.List.{append_assoc}
use Rattle.std.specs.Option.{option_to_list}
use Rattle.rc_cell.specs.declared.rows.Row.{Row}
use Rattle.rc_cell.specs.declared.writes.Tomb.{Tomb}
use Rattle.rc_cell.specs.Orders.{tomb_cmp}
use Rattle.rc_cell.specs.Winner.{greatest, joined_row}
use Rattle.rc_position.specs.Position.{Place}
use Rattle.rc_mutation.specs.declared.mutations.Mutation.{Mutation}
use Rattle.rc_mutation.specs.Source.{source_at, static_rows, rows_in, all_rows}
use Rattle.rc_core.specs.declared.entries.Flag.{Flag}
use Rattle.rc_core.specs.declared.entries.Flag.TheVariants.{Known, Unknown, Inherit}
use Rattle.rc_core.specs.SpotState.{SpotState, spot_state, silent, over, under}
use Rattle.rc_core.specs.Version.{On, Version, state_at, static_state}
use Rattle.rc_core.specs.Continuity.{IsWithin, EachOf, HoldNoMore, IsContinuous, IsEvicted}
use Rattle.rc_core.specs.Merge.{Alike, IsPutDown, IsMerged, IsSilent}
use Rattle.rc_core.specs.AtPlace.{IsAtPlace}
use Rattle.rc_core.specs.Chains.{Chain, upto, phase_at, IsPinned, IsUpdating, NewestIs, IsChainContinuous, with_versions}
use Rattle.rc_core.specs.laws.Losing.{joined-again, tomb-alone, map-append, evicted-within, evicted-continuous}
use Rattle.rc_core.specs.laws.Merging.{rows_by_parts, tombs_by_parts, merged-seen, dropped-seen, alike-continuous}

-- ---- no more than the source, of states put together

within_inherit : (rows : List Row) (t : Option Tomb) (a : SpotState) (rs : List Row) (ts : List Tomb) → IsWithin a (joined_row rows, t) → joined_row (joined_row rows ∷ rs) ≡ joined_row rows → greatest tomb_cmp (option_to_list t ++ ts) ≡ t →
    IsWithin (spot_state a.flag (a.rows ++ rs) (a.tombs ++ ts)) (joined_row rows, t)
within_inherit rows t a rs ts w e f = (
  rows_by_parts (joined_row rows ∷ a.rows) rs (joined_row rows ∷ []) rs (w.0 ∙ sym (joined-again rows)) refl ∙ e,
  ap (greatest tomb_cmp) (sym (append_assoc (option_to_list t) a.tombs ts)) ∙ tombs_by_parts (option_to_list t ++ a.tombs) ts (option_to_list t) ts (w.1 ∙ sym (tomb-alone t)) refl ∙ f,
)

pub within_under_by : (f : Flag) (rows : List Row) (t : Option Tomb) (a b : SpotState) → IsWithin a (joined_row rows, t) → IsWithin b (joined_row rows, t) → IsWithin (over f a b) (joined_row rows, t)
within_under_by Known rows t a b w x = x
within_under_by Unknown rows t a b w x = x
within_under_by Inherit rows t a b w x = within_inherit rows t a b.rows b.tombs w x.0 x.1

within_alike : (source : Row × Option Tomb) (c d : SpotState) → Alike c d → IsWithin d source → IsWithin c source
within_alike source c d h w = (
  rows_by_parts (source.0 ∷ []) c.rows (source.0 ∷ []) d.rows refl (ap (λ (a : Row × Option Tomb). a.0) h.1) ∙ w.0,
  tombs_by_parts (option_to_list source.1) c.tombs (option_to_list source.1) d.tombs refl (ap (λ (a : Row × Option Tomb). a.1) h.1) ∙ w.1,
)

pub within_nothing : (rows : List Row) (t : Option Tomb) → IsWithin silent (joined_row rows, t)
within_nothing rows t = (joined-again rows, ap (greatest tomb_cmp) (append-nil (option_to_list t)) ∙ tomb-alone t)

put_down_within : (rows : List Row) (t : Option Tomb) (a b c d : SpotState) → IsPutDown a b c d → IsWithin a (joined_row rows, t) → IsWithin b (joined_row rows, t) → IsWithin c (joined_row rows, t) × IsWithin d (joined_row rows, t)
put_down_within rows t a b c d h w x = ⊎_elim
    (λ e. (subst (λ k. IsWithin k (joined_row rows, t)) (sym e.0) w, subst (λ k. IsWithin k (joined_row rows, t)) (sym e.1) x))
    (λ e. (subst (λ k. IsWithin k (joined_row rows, t)) (sym e.0) (within_nothing rows t), within_alike (joined_row rows, t) d (under a b) e.1 (within_under_by b.flag rows t a b w x)))
    h

pub each_two : (P : Version → Type 0) (older newer : List Version) (a b c d : Version) → EachOf P (older ++ a ∷ b ∷ newer) → (P a → P b → P c × P d) → EachOf P (older ++ c ∷ d ∷ newer)
each_two P [] newer a b c d h p = let q = p h.0 h.1.0 in (q.0, (q.1, h.1.1))
each_two P (o ∷ os) newer a b c d h p = (h.0, each_two P os newer a b c d h.1 p)

pub each_less : (P : Version → Type 0) (older newer : List Version) (v : Version) → EachOf P (older ++ v ∷ newer) → EachOf P (older ++ newer)
each_less P [] newer v h = h.1
each_less P (o ∷ os) newer v h = (h.0, each_less P os newer v h.1)

pub merged-within : (writes : List Mutation) (older newer : List Version) (a b c d : Version) → IsMerged a b c d → HoldNoMore writes (older ++ a ∷ b ∷ newer) → HoldNoMore writes (older ++ c ∷ d ∷ newer)
merged-within writes older newer a b c d m h = record {
  statics = each_two _ older newer a b c d h.statics (put_down_within (static_rows writes) None (static_state a) (static_state b) (static_state c) (static_state d) m.statics);
  clustered = λ x. each_two _ older newer a b c d (h.clustered x) (put_down_within (rows_in x (all_rows writes)) (source_at writes x).1 (state_at (On x) a) (state_at (On x) b) (state_at (On x) c) (state_at (On x) d) (m.clustered (On x)));
}

pub merged-continuous : (reach : Option Place) (writes : List Mutation) (older newer : List Version) (a b c d : Version) → IsMerged a b c d → IsContinuous reach writes (older ++ a ∷ b ∷ newer) → IsContinuous reach writes (older ++ c ∷ d ∷ newer)
merged-continuous reach writes older newer a b c d m k = alike-continuous reach writes (older ++ a ∷ b ∷ newer) (older ++ c ∷ d ∷ newer) (merged-seen older newer a b c d m) (merged-within writes older newer a b c d m k.within) k

pub dropped-within : (writes : List Mutation) (older newer : List Version) (v : Version) → HoldNoMore writes (older ++ v ∷ newer) → HoldNoMore writes (older ++ newer)
dropped-within writes older newer v h = record { statics = each_less _ older newer v h.statics; clustered = λ x. each_less _ older newer v (h.clustered x) }

pub dropped-continuous : (reach : Option Place) (writes : List Mutation) (older newer : List Version) (v w : Version) → IsSilent v → greatest tomb_cmp (option_to_list v.pt ++ option_to_list w.pt) ≡ greatest tomb_cmp (option_to_list w.pt) →
    IsContinuous reach writes (older ++ v ∷ w ∷ newer) → IsContinuous reach writes (older ++ w ∷ newer)
dropped-continuous reach writes older newer v w s t k =
    alike-continuous reach writes (older ++ v ∷ w ∷ newer) (older ++ w ∷ newer) (dropped-seen older newer v w s t)
    (dropped-within writes older (w ∷ newer) v k.within) k

-- ---- eviction, of a whole chain

cut : (j : ℕ) (front back : List Version) → ((x : Version) → upto (front ++ x ∷ back) j ≡ upto front j) ⊎ ((n : ℕ) × ((x : Version) → upto (front ++ x ∷ back) j ≡ front ++ x ∷ take n back))
cut j [] back = inr (j, λ x. refl)
cut zero (f ∷ fs) back = inl (λ x. refl)
cut (suc j) (f ∷ fs) back = ⊎_elim (λ h. inl (λ x. ap (λ vs. f ∷ vs) (h x))) (λ h. inr (h.0, λ x. ap (λ vs. f ∷ vs) (h.1 x))) (cut j fs back)

same_phases : (front back : List Version) (v w : Version) → w.phase ≡ v.phase → (j : ℕ) → phase_at (front ++ v ∷ back) j ≡ phase_at (front ++ w ∷ back) j
same_phases front back v w e j = ap (λ ps. get_or ps j 0) (map-append (λ (x : Version). x.phase) front v back ∙ ap (λ n. list_map (λ (x : Version). x.phase) front ++ n ∷ list_map (λ (x : Version). x.phase) back) (sym e) ∙ sym (map-append (λ (x : Version). x.phase) front w back))

same_length : (front back : List Version) (v w : Version) → length (front ++ v ∷ back) ≡ length (front ++ w ∷ back)
same_length [] back v w = refl
same_length (f ∷ fs) back v w = ap suc (same_length fs back v w)

-- what an eviction keeps of the versions up to a number, it keeps of those of the whole chain
upto_kept : (P : List Version → Type 0) (front back : List Version) (v w : Version) → ((newer : List Version) → P (front ++ v ∷ newer) → P (front ++ w ∷ newer)) → (j : ℕ) → P (upto (front ++ v ∷ back) j) → P (upto (front ++ w ∷ back) j)
upto_kept P front back v w step j h = ⊎_elim
    (λ e. subst P (e v ∙ sym (e w)) h)
    (λ e. subst P (sym (e.1 w)) (step (take e.0 back) (subst P (e.1 v) h)))
    (cut j front back)

pub evicted-chain : (below : ℕ → List Mutation) (c : Chain) (front back : List Version) (v w : Version) → c.versions ≡ front ++ v ∷ back → IsEvicted v w → w.phase ≡ v.phase →
    ((p : Place) → c.updating ≡ Some p → NewestIs (IsAtPlace p) (front ++ w ∷ back)) →
    IsChainContinuous below c → IsChainContinuous below (with_versions (front ++ w ∷ back) c)
evicted-chain below c front back v w vs e ph un k = record {
  within = λ j lt. subst (λ n. HoldNoMore (below n) (upto (front ++ w ∷ back) j)) (same_phases front back v w ph j)
      (upto_kept (HoldNoMore (below (phase_at (front ++ v ∷ back) j))) front back v w (λ newer. evicted-within (below (phase_at (front ++ v ∷ back) j)) front newer v w e) j
      (subst (λ us. HoldNoMore (below (phase_at us j)) (upto us j)) vs (k.within j (subst (λ n. j < n) (sym len) lt))));
  needed = λ j reach has need. subst (λ n. IsContinuous reach (below n) (upto (front ++ w ∷ back) j)) (same_phases front back v w ph j)
      (upto_kept (IsContinuous reach (below (phase_at (front ++ v ∷ back) j))) front back v w (λ newer. evicted-continuous reach (below (phase_at (front ++ v ∷ back) j)) front newer v w e) j
      (subst (λ us. IsContinuous reach (below (phase_at us j)) (upto us j)) vs
      (k.needed j reach (subst (λ n. (suc j ≡ n → reach ≡ c.updating) × ((suc j ≡ n → ⊥) → reach ≡ None)) (sym (len)) has)
      (subst (λ n. IsPinned c.pins j ⊎ ((c.attached ≡ true) × (suc j ≡ n)) ⊎ (IsUpdating c.updating × (suc (suc j) ≡ n))) (sym len) need))));
  ahead = un;
}
  where
    len : length c.versions ≡ length (front ++ w ∷ back)
    len = ap length vs ∙ same_length front back v w
