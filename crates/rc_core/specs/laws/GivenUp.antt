-- The rest of a partition given up by an update without room: the version stays continuous everywhere.
use Rattle.std.specs.Prelude.{◌≡◌, ◌⊎◌, true, false, IsTrue, List, [], ◌∷◌, ◌++◌, None, Some, map as list_map, cond, ◌&&◌}
use Rattle.std.proofs.Common.{refl, sym, ap, ◌∙◌, subst, ⊎_elim, inl, inr}
use Rattle.std.specs.declared.cmp.Ordering.{Ordering}
use Rattle.std.specs.declared.cmp.Ordering.TheVariants.{Less, Equal, Greater}
use Rattle.std.specs.Ordering.{is_le, is_gt, is_eq, eq_by_cmp}
use Rattle.std.specs.List.{filter}
use Rattle.std.specs.Option.{option_to_list}
use Rattle.rc_cell.specs.declared.rows.Row.{Row}
use Rattle.rc_cell.specs.declared.writes.Tomb.{Tomb}
use Rattle.rc_cell.specs.Orders.{tomb_cmp}
use Rattle.rc_cell.specs.Winner.{greatest, joined_row}
use Rattle.rc_position.specs.declared.comps.Comp.{Comp}
use Rattle.rc_position.specs.declared.positions.Pos.{Pos}
use Rattle.rc_position.specs.Position.{Place, Head, Static, Clustered, place_cmp, pos_cmp, row_pos, covers, IsBefore}
use Rattle.rc_position.specs.laws.Orders.{pos_cmp_same}
use Rattle.rc_position.specs.laws.Bounds.{last_pos-greatest}
use Rattle.rc_mutation.specs.Piece.{Piece}
use Rattle.rc_mutation.specs.Cover.{cover, tombs_over}
use Rattle.rc_mutation.specs.declared.mutations.Mutation.{Mutation}
use Rattle.rc_mutation.specs.Source.{source_at, source_at_static, static_rows, rows_in, all_rows, all_pieces}
use Rattle.rc_core.specs.declared.entries.ChainKind.TheVariants.{Cache}
use Rattle.rc_core.specs.SpotState.{SpotState, through, under, lost_state}
use Rattle.rc_core.specs.Version.{Spot, On, Behind, Version, state_at, static_state, end_position}
use Rattle.rc_core.specs.Chain.{has_flag, content, states_at, flag_over, IsEvenAt}
use Rattle.rc_core.specs.Continuity.{IsWithin, EachOf, IsContinuous, static_states}
use Rattle.rc_core.specs.Unit.{IsGivenUp}
use Rattle.rc_core.specs.laws.Folding.{flagged-through, content-through, through-append}
use Rattle.rc_core.specs.laws.Spots.{turned}
use Rattle.rc_core.specs.laws.Losing.{joined-again, map-append, each-one, each-other, tombs-same, same-content, same-flagged, lost-within}
use Rattle.rc_core.specs.laws.Filling.{seen-same, even-same}
use Rattle.rc_core.specs.laws.Merging.{rows_by_parts}
use Rattle.rc_core.specs.laws.Keeping.{within_nothing, within_under_by}

-- ---- nothing is written at the end

behind_each_row : (k : List Comp) → pos_cmp end_position (row_pos k) ≡ Greater
unfolding pos_cmp
behind_each_row [] = refl
behind_each_row (c ∷ cs) = refl

no_rows_at_end : (rows : List (List Comp × Row)) → rows_in end_position rows ≡ []
no_rows_at_end [] = refl
no_rows_at_end (r ∷ rs) = ap (λ o. list_map (λ (e : List Comp × Row). e.1) (cond (is_eq o) (r ∷ filter (λ e. eq_by_cmp pos_cmp end_position (row_pos e.0)) rs) (filter (λ e. eq_by_cmp pos_cmp end_position (row_pos e.0)) rs))) (behind_each_row r.0) ∙ no_rows_at_end rs

and_false : (b : _) → (b && false) ≡ false
and_false true = refl
and_false false = refl

not_over_end : (from to : Pos) → covers from to end_position ≡ false
not_over_end from to = ap (λ b. is_le (pos_cmp from end_position) && b) (sym (turned to end_position) ∙ last_pos-greatest to) ∙ and_false (is_le (pos_cmp from end_position))

no_tombs_at_end : (pieces : List Piece) → tombs_over pieces end_position ≡ []
no_tombs_at_end [] = refl
no_tombs_at_end (p ∷ ps) = ap (λ b. list_map (λ (e : Piece). e.tomb) (cond b (p ∷ filter (λ (e : Piece). covers e.from e.to end_position) ps) (filter (λ (e : Piece). covers e.from e.to end_position) ps))) (not_over_end p.from p.to) ∙ no_tombs_at_end ps

pub source_at_end : (writes : List Mutation) → source_at writes end_position ≡ (joined_row [], greatest tomb_cmp [])
unfolding cover
source_at_end writes = λ i. (joined_row (no_rows_at_end (all_rows writes) i), greatest tomb_cmp (no_tombs_at_end (all_pieces writes) i))

-- what is within nothing holds nothing, through all versions
through_within : (s : Spot) (versions : List Version) → EachOf (λ v. IsWithin (state_at s v) (joined_row [], greatest tomb_cmp [])) versions → IsWithin (through (states_at s versions)) (joined_row [], greatest tomb_cmp [])
through_within s [] h = within_nothing [] (greatest tomb_cmp [])
through_within s (v ∷ vs) h = within_under_by (through (states_at s vs)).flag [] (greatest tomb_cmp []) (state_at s v) (through (states_at s vs)) h.0 (through_within s vs h.1)

tombs_alone : (ts : List Tomb) → greatest tomb_cmp (option_to_list (greatest tomb_cmp []) ++ ts) ≡ greatest tomb_cmp [] → greatest tomb_cmp ts ≡ greatest tomb_cmp []
unfolding greatest
tombs_alone ts e = e

nothing_at_end : (writes : List Mutation) (versions : List Version) → EachOf (λ v. IsWithin (state_at (On end_position) v) (source_at writes end_position)) versions → content (states_at (On end_position) versions) ≡ source_at writes end_position
nothing_at_end writes versions h =
    let w = through_within (On end_position) versions (subst (λ a. EachOf (λ v. IsWithin (state_at (On end_position) v) a) versions) (source_at_end writes) h) in
    content-through (states_at (On end_position) versions)
    ∙ (λ i. ((rows_by_parts [] (through (states_at (On end_position) versions)).rows (joined_row [] ∷ []) (through (states_at (On end_position) versions)).rows (sym (joined-again [])) refl ∙ w.0) i, tombs_alone (through (states_at (On end_position) versions)).tombs w.1 i))
    ∙ sym (source_at_end writes)

-- ---- a lost state on top

through_lost : (f : Version → SpotState) (older : List Version) (w : Version) → f w ≡ lost_state → through (list_map f (older ++ w ∷ [])) ≡ lost_state
through_lost f older w e = ap through (map-append f older w []) ∙ through-append (list_map f older) (f w ∷ []) ∙ ap (λ c. under (through (list_map f older)) (under c (through []))) e

pub not_flagged : (f : Version → SpotState) (older : List Version) (w : Version) → f w ≡ lost_state → IsTrue (has_flag Cache (list_map f (older ++ w ∷ []))) → ⊥
not_flagged f older w e h = let u = sym (flagged-through Cache (list_map f (older ++ w ∷ [])) ∙ ap (λ (c : SpotState). flag_over Cache c.flag) (through_lost f older w e)) ∙ h in cc

pub at_itself : pos_cmp end_position end_position ≡ Equal
unfolding pos_cmp
at_itself = refl

-- a position before the place, or from the place on and before the end, or at the end
data Where (x : Pos) (p : Place) : Type 0 where
  behind_place : place_cmp (Clustered x) p ≡ Less → Where x p
  inside : (place_cmp (Clustered x) p ≡ Less → ⊥) → IsBefore x end_position → Where x p
  at_the_end : (place_cmp (Clustered x) p ≡ Less → ⊥) → x ≡ end_position → Where x p

where_is : (x : Pos) (p : Place) (a b : Ordering) → place_cmp (Clustered x) p ≡ a → pos_cmp x end_position ≡ b → Where x p
where_is x p Less b e f = behind_place e
where_is x p Equal Less e f = inside (λ l. let u : Equal ≡ Less = sym e ∙ l in absurd (cc)) f
where_is x p Greater Less e f = inside (λ l. let u : Greater ≡ Less = sym e ∙ l in absurd (cc)) f
where_is x p Equal Equal e f = at_the_end (λ l. let u : Equal ≡ Less = sym e ∙ l in absurd (cc)) (pos_cmp_same x end_position f)
where_is x p Greater Equal e f = at_the_end (λ l. let u : Greater ≡ Less = sym e ∙ l in absurd (cc)) (pos_cmp_same x end_position f)
where_is x p Equal Greater e f = let u : false ≡ true = sym (last_pos-greatest x) ∙ ap is_gt f in absurd (cc)
where_is x p Greater Greater e f = let u : false ≡ true = sym (last_pos-greatest x) ∙ ap is_gt f in absurd (cc)

stands : (x : Pos) (p : Place) → Where x p
stands x p = where_is x p (place_cmp (Clustered x) p) (pos_cmp x end_position) refl refl

static_stands : (p : Place) → (place_cmp Static p ≡ Less) ⊎ (place_cmp Static p ≡ Less → ⊥)
static_stands p = elim (place_cmp Static p) as (λ r. (r ≡ Less) ⊎ (r ≡ Less → ⊥)) [ Less ↦ inl refl | Equal ↦ inr (λ e. let u : Equal ≡ Less = e in absurd (cc)) | Greater ↦ inr (λ e. let u : Greater ≡ Less = e in absurd (cc)) ]

module _ (writes : List Mutation) (older : List Version) (v w : Version) (p : Place) (g : IsGivenUp p v w) (k : IsContinuous (Some p) writes (older ++ v ∷ [])) where
  lost_is_within : (x : Pos) → state_at (On x) w ≡ lost_state → IsWithin (state_at (On x) w) (source_at writes x)
  lost_is_within x e = subst (λ c. IsWithin c (source_at writes x)) (sym e) (lost-within (rows_in x (all_rows writes)) (source_at writes x).1)

  given_within : (x : Pos) → IsWithin (state_at (On x) w) (source_at writes x)
  given_within x = by (stands x p)
    where
      was : (y : Pos) → state_at (On y) w ≡ state_at (On y) v → IsWithin (state_at (On y) w) (source_at writes y)
      was y e = subst (λ c. IsWithin c (source_at writes y)) (sym e) (each-one _ older [] v (k.within.clustered y))

      by : Where x p → IsWithin (state_at (On x) w) (source_at writes x)
      by (behind_place l) = was x (g.clustered_left (On x) l)
      by (inside n b) = lost_is_within x (g.clustered x n b).0
      by (at_the_end n e) = subst (λ y. IsWithin (state_at (On y) w) (source_at writes y)) (sym e) (⊎_elim (was end_position) (lost_is_within end_position) g.at_end)

  each_within : (x : Pos) → EachOf (λ u. IsWithin (state_at (On x) u) (source_at writes x)) (older ++ w ∷ [])
  each_within x = each-other _ older [] v w (k.within.clustered x) (given_within x)

  given_content : (x : Pos) → IsTrue (has_flag Cache (states_at (On x) (older ++ w ∷ []))) → content (states_at (On x) (older ++ w ∷ [])) ≡ source_at writes x
  given_content x f = by (stands x p)
    where
      by : Where x p → content (states_at (On x) (older ++ w ∷ [])) ≡ source_at writes x
      by (behind_place l) = let e = seen-same (state_at (On x)) older v w (g.clustered_left (On x) l) in
          same-content (states_at (On x) (older ++ v ∷ [])) (states_at (On x) (older ++ w ∷ [])) e
          ∙ k.clustered x l (sym (same-flagged (states_at (On x) (older ++ v ∷ [])) (states_at (On x) (older ++ w ∷ [])) e) ∙ f)
      by (inside n b) = absurd (not_flagged (state_at (On x)) older w (g.clustered x n b).0 f)
      by (at_the_end n e) = subst (λ y. content (states_at (On y) (older ++ w ∷ [])) ≡ source_at writes y) (sym e) (nothing_at_end writes (older ++ w ∷ []) (each_within end_position))

  given_even : (x : Pos) → IsEvenAt Cache (older ++ w ∷ []) x
  given_even x bare known = by (stands x p)
    where
      by : Where x p → (content (states_at (On x) (older ++ w ∷ []))).1 ≡ (content (states_at (Behind x) (older ++ w ∷ []))).1
      by (behind_place l) = even-same (older ++ v ∷ []) (older ++ w ∷ []) x (seen-same (state_at (On x)) older v w (g.clustered_left (On x) l)) (seen-same (state_at (Behind x)) older v w (g.clustered_left (Behind x) l)) (k.even x l) bare known
      by (inside n b) = absurd (not_flagged (state_at (On x)) older w (g.clustered x n b).0 known.at)
      by (at_the_end n e) = let u : Less ≡ Equal = sym bare.inside ∙ ap (λ y. pos_cmp y end_position) e ∙ at_itself in absurd (cc)

  pub given-continuous : place_cmp Head p ≡ Less → IsContinuous None writes (older ++ w ∷ [])
  given-continuous h = record {
    within = record {
      statics = each-other _ older [] v w k.within.statics (⊎_elim
          (λ l. subst (λ c. IsWithin c (source_at_static writes, None)) (sym (g.statics_left l)) (each-one _ older [] v k.within.statics))
          (λ n. subst (λ c. IsWithin c (source_at_static writes, None)) (sym (g.statics n)) (lost-within (static_rows writes) None))
          (static_stands p));
      clustered = each_within;
    };
    statics = λ _ f. ⊎_elim
        (λ l. let e = seen-same static_state older v w (g.statics_left l) in
        same-content (static_states (older ++ v ∷ [])) (static_states (older ++ w ∷ [])) e
        ∙ k.statics l (sym (same-flagged (static_states (older ++ v ∷ [])) (static_states (older ++ w ∷ [])) e) ∙ f))
        (λ n. absurd (not_flagged static_state older w (g.statics n) f))
        (static_stands p);
    clustered = λ x _ f. given_content x f;
    head = λ _. ap (greatest tomb_cmp) (tombs-same older [] v w g.head) ∙ k.head h;
    even = λ x _. given_even x;
  }
