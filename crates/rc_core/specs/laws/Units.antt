-- A unit of an update, with room and without: what it does to the version under update, and that the chain stays continuous.
use Rattle.std.specs.Prelude.{◌≡◌, ◌⊎◌, IsTrue, List, [], ◌∷◌, ◌++◌, Option, Some, None, map as list_map}
use Rattle.std.proofs.Common.{append-nil, refl, sym, ap, ◌∙◌, subst, ⊎_elim, inl, inr}
use Rattle.std.proofs.lemmas.List.{append_assoc}
use Rattle.std.specs.declared.cmp.Ordering.{Ordering}
use Rattle.std.specs.declared.cmp.Ordering.TheVariants.{Less, Equal, Greater}
use Rattle.std.specs.Option.{option_to_list}
use Rattle.rc_cell.specs.declared.rows.Row.{Row}
use Rattle.rc_cell.specs.declared.writes.Tomb.{Tomb}
use Rattle.rc_cell.specs.Orders.{tomb_cmp, tomb_cmp_total}
use Rattle.rc_cell.specs.laws.Beats.{tomb_cmp-IsAntisymmetric}
use Rattle.rc_cell.specs.laws.Greatest.{greatest-twice}
use Rattle.rc_cell.specs.laws.{joined_row-twice, joined_row-none}
use Rattle.rc_cell.specs.Winner.{greatest, joined_row, empty_row}
use Rattle.rc_position.specs.declared.positions.Pos.{Pos}
use Rattle.rc_position.specs.Position.{Place, Head, Static, Clustered, place_cmp, IsBefore}
use Rattle.rc_mutation.specs.declared.mutations.Mutation.{Mutation}
use Rattle.rc_mutation.specs.Source.{SameSource, source_at, source_at_static, source_at_head, static_rows, rows_in, all_rows, all_pieces}
use Rattle.rc_mutation.specs.Source as source
use Rattle.rc_mutation.specs.laws.Sources.{partition_tombs-append, static_rows-append}
use Rattle.rc_mutation.specs.Cover.{cover, tombs_over}
use Rattle.rc_core.specs.declared.entries.ChainKind.TheVariants.{Cache}
use Rattle.rc_core.specs.declared.entries.Flag.TheVariants.{Inherit}
use Rattle.rc_core.specs.SpotState.{SpotState, spot_state, joined_state, through}
use Rattle.rc_core.specs.Version.{On, Behind, Version, state_at, static_state, end_position}
use Rattle.rc_core.specs.Chain.{has_flag, content, states_at, IsBare, IsKnown, IsEvenAt}
use Rattle.rc_core.specs.Continuity.{IsWithin, IsContinuous, static_states, version_tombs}
use Rattle.rc_core.specs.Unit.{IsStretch, Adds, IsUnit}
use Rattle.rc_core.specs.laws.Losing.{joined-again, tomb-alone, map-append, each-one, each-other, tombs-same, same-content, same-flagged}
use Rattle.rc_core.specs.laws.Filling.{seen-same, even-same}
use Rattle.rc_core.specs.laws.Merging.{rows_by_parts, tombs_by_parts, source-more, update-flagged, update-content, update-statics, pts_one, joins_on_top}
use Rattle.rc_core.specs.laws.Folding.{content-through}

-- ---- stretches of places

stretch_by : (a b : Ordering) (p q x : Place) → place_cmp x p ≡ a → place_cmp x q ≡ b → IsStretch p q x ⊎ (IsStretch p q x → ⊥)
stretch_by Less b p q x e f = inr (λ s. s.begun e)
stretch_by Equal Less p q x e f = inl (record { begun = λ l. let u : Equal ≡ Less = sym e ∙ l in absurd (cc); short = f })
stretch_by Greater Less p q x e f = inl (record { begun = λ l. let u : Greater ≡ Less = sym e ∙ l in absurd (cc); short = f })
stretch_by Equal Equal p q x e f = inr (λ s. let u : Equal ≡ Less = sym f ∙ s.short in absurd (cc))
stretch_by Equal Greater p q x e f = inr (λ s. let u : Greater ≡ Less = sym f ∙ s.short in absurd (cc))
stretch_by Greater Equal p q x e f = inr (λ s. let u : Equal ≡ Less = sym f ∙ s.short in absurd (cc))
stretch_by Greater Greater p q x e f = inr (λ s. let u : Greater ≡ Less = sym f ∙ s.short in absurd (cc))

stretch_or_not : (p q x : Place) → IsStretch p q x ⊎ (IsStretch p q x → ⊥)
stretch_or_not p q x = stretch_by (place_cmp x p) (place_cmp x q) p q x refl refl

before_by : (a : Ordering) (p q x : Place) → place_cmp x p ≡ a → place_cmp x q ≡ Less → (place_cmp x p ≡ Less) ⊎ IsStretch p q x
before_by Less p q x e f = inl e
before_by Equal p q x e f = inr (record { begun = λ l. let u : Equal ≡ Less = sym e ∙ l in absurd (cc); short = f })
before_by Greater p q x e f = inr (record { begun = λ l. let u : Greater ≡ Less = sym e ∙ l in absurd (cc); short = f })

-- what stands before the next place stands before the place, or between the two
before_or_in : (p q x : Place) → place_cmp x q ≡ Less → (place_cmp x p ≡ Less) ⊎ IsStretch p q x
before_or_in p q x f = before_by (place_cmp x p) p q x refl f

-- ---- what is joined on top

within_more_rows : (xs ys zs : List Row) → joined_row zs ≡ joined_row ys → joined_row (joined_row (xs ++ ys) ∷ zs) ≡ joined_row (xs ++ ys)
within_more_rows xs ys zs e =
    rows_by_parts (joined_row (xs ++ ys) ∷ []) zs (xs ++ ys) ys (joined-again (xs ++ ys)) e
    ∙ ap joined_row (append_assoc xs ys ys)
    ∙ rows_by_parts xs (ys ++ ys) xs ys refl (joined_row-twice ys)

within_more_tombs : (xs ys zs : List Tomb) → greatest tomb_cmp zs ≡ greatest tomb_cmp ys → greatest tomb_cmp (option_to_list (greatest tomb_cmp (xs ++ ys)) ++ zs) ≡ greatest tomb_cmp (xs ++ ys)
within_more_tombs xs ys zs e =
    tombs_by_parts (option_to_list (greatest tomb_cmp (xs ++ ys))) zs (xs ++ ys) ys (tomb-alone (greatest tomb_cmp (xs ++ ys))) e
    ∙ ap (greatest tomb_cmp) (append_assoc xs ys ys)
    ∙ tombs_by_parts xs (ys ++ ys) xs ys refl (greatest-twice tomb_cmp_total tomb_cmp-IsAntisymmetric ys)

adds_within : (writes : List Mutation) (change : Mutation) (x : Pos) (c : SpotState) → Adds c (source_at (change ∷ []) x) → IsWithin c (source_at (writes ++ change ∷ []) x)
unfolding cover
adds_within writes change x c a = subst (IsWithin c) (sym (source-more writes change x)) (
  within_more_rows (rows_in x (all_rows writes)) (rows_in x (all_rows (change ∷ []))) c.rows (ap (λ (s : Row × Option Tomb). s.0) a.1),
  within_more_tombs (tombs_over (all_pieces writes) x) (tombs_over (all_pieces (change ∷ [])) x) c.tombs (ap (λ (s : Row × Option Tomb). s.1) a.1),
)

adds_within_statics : (writes : List Mutation) (change : Mutation) (c : SpotState) → Adds c (source_at_static (change ∷ []), None) → IsWithin c (source_at_static (writes ++ change ∷ []), None)
adds_within_statics writes change c a = (
  subst (λ r. joined_row (r ∷ c.rows) ≡ r) (sym (ap joined_row (static_rows-append writes (change ∷ [])))) (within_more_rows (static_rows writes) (static_rows (change ∷ [])) c.rows (ap (λ (s : Row × Option Tomb). s.0) a.1)),
  ap (λ (s : Row × Option Tomb). s.1) a.1,
)

-- rows that join to nothing are nothing each
pub nothing_first : (xs ys : List Row) → joined_row (xs ++ ys) ≡ empty_row → joined_row xs ≡ empty_row
nothing_first xs ys e =
    let none : joined_row [] ≡ joined_row (xs ++ ys) = joined_row-none ∙ sym e in
    sym (rows_by_parts xs (xs ++ ys) xs [] refl (sym none) ∙ ap joined_row (append-nil xs))
    ∙ ap joined_row (sym (append_assoc xs xs ys))
    ∙ rows_by_parts (xs ++ xs) ys xs ys (joined_row-twice xs) refl
    ∙ e

bare_below : (cs : List SpotState) (rs : List Row) (ts : List Tomb) → (content (cs ++ spot_state Inherit rs ts ∷ [])).0 ≡ empty_row → (content cs).0 ≡ empty_row
bare_below cs rs ts e =
    ap (λ (a : Row × Option Tomb). a.0) (content-through cs)
    ∙ nothing_first (through cs).rows rs (ap (λ (a : Row × Option Tomb). a.0) (sym (content-through (cs ++ spot_state Inherit rs ts ∷ []) ∙ ap joined_state (joins_on_top cs rs ts))) ∙ e)

joined_tombs : (cs ds : List SpotState) (rs qs : List Row) (ts us : List Tomb) → (content cs).1 ≡ (content ds).1 → greatest tomb_cmp ts ≡ greatest tomb_cmp us →
    (content (cs ++ spot_state Inherit rs ts ∷ [])).1 ≡ (content (ds ++ spot_state Inherit qs us ∷ [])).1
joined_tombs cs ds rs qs ts us e f =
    ap (λ (a : Row × Option Tomb). a.1) (content-through (cs ++ spot_state Inherit rs ts ∷ []) ∙ ap joined_state (joins_on_top cs rs ts))
    ∙ tombs_by_parts (through cs).tombs ts (through ds).tombs us (ap (λ (a : Row × Option Tomb). a.1) (sym (content-through cs)) ∙ e ∙ ap (λ (a : Row × Option Tomb). a.1) (content-through ds)) f
    ∙ sym (ap (λ (a : Row × Option Tomb). a.1) (content-through (ds ++ spot_state Inherit qs us ∷ []) ∙ ap joined_state (joins_on_top ds qs us)))

-- ---- a unit with room

cell_is : (c : SpotState) → c.flag ≡ Inherit → c ≡ spot_state Inherit c.rows c.tombs
cell_is c e = λ i. spot_state (e i) c.rows c.tombs

-- a state that inherits, on top of others
pub on_top : (f : Version → SpotState) (older : List Version) (v : Version) → (f v).flag ≡ Inherit → list_map f (older ++ v ∷ []) ≡ list_map f older ++ spot_state Inherit (f v).rows (f v).tombs ∷ []
on_top f older v e = map-append f older v [] ∙ ap (λ c. list_map f older ++ c ∷ []) (cell_is (f v) e)

flagged_top : (f : Version → SpotState) (older : List Version) (v : Version) → (f v).flag ≡ Inherit → has_flag Cache (list_map f (older ++ v ∷ [])) ≡ has_flag Cache (list_map f older)
flagged_top f older v e = ap (has_flag Cache) (on_top f older v e) ∙ update-flagged Cache (list_map f older) (f v).rows (f v).tombs

pub known_same : (before now : List Version) (x : Pos) → through (states_at (On x) now) ≡ through (states_at (On x) before) → (IsBefore x end_position → through (states_at (Behind x) now) ≡ through (states_at (Behind x) before)) → IsKnown Cache before x → IsKnown Cache now x
known_same before now x e g k = record {
  at = same-flagged (states_at (On x) before) (states_at (On x) now) e ∙ k.at;
  gap = λ bare. same-flagged (states_at (Behind x) before) (states_at (Behind x) now) (g bare.inside)
      ∙ k.gap (record { inside = bare.inside; no_row = ap (λ (a : Row × Option Tomb). a.0) (sym (same-content (states_at (On x) before) (states_at (On x) now) e)) ∙ bare.no_row });
}

module _ (writes all : List Mutation) (change : Mutation) (older : List Version) (v w : Version) (p q : Place) (u : IsUnit p q change v w) where
  -- a place that stands before the next one: it is as before, or the unit has been there
  left : (x : Pos) → place_cmp (Clustered x) p ≡ Less → IsStretch p q (Clustered x) → ⊥
  left x l s = s.begun l

  on_left : (x : Pos) → (IsStretch p q (Clustered x) → ⊥) → through (states_at (On x) (older ++ w ∷ [])) ≡ through (states_at (On x) (older ++ v ∷ []))
  on_left x off = seen-same (state_at (On x)) older v w (u.clustered_left (On x) off)

  behind_left : (x : Pos) → (IsStretch p q (Clustered x) → ⊥) → through (states_at (Behind x) (older ++ w ∷ [])) ≡ through (states_at (Behind x) (older ++ v ∷ []))
  behind_left x off = seen-same (state_at (Behind x)) older v w (u.clustered_left (Behind x) off)

  on_flag : (x : Pos) → IsStretch p q (Clustered x) → has_flag Cache (states_at (On x) (older ++ w ∷ [])) ≡ has_flag Cache (states_at (On x) older)
  on_flag x s = flagged_top (state_at (On x)) older w (u.clustered (On x) tt s).0

  behind_flag : (x : Pos) → IsBefore x end_position → IsStretch p q (Clustered x) → has_flag Cache (states_at (Behind x) (older ++ w ∷ [])) ≡ has_flag Cache (states_at (Behind x) older)
  behind_flag x b s = flagged_top (state_at (Behind x)) older w (u.clustered (Behind x) b s).0

  -- what is seen there, with what the mutation says
  on_rows : (x : Pos) → IsStretch p q (Clustered x) → content (states_at (On x) (older ++ w ∷ [])) ≡ content (states_at (On x) older ++ spot_state Inherit (state_at (On x) w).rows (state_at (On x) w).tombs ∷ [])
  on_rows x s = ap content (on_top (state_at (On x)) older w (u.clustered (On x) tt s).0)

  was_bare : (x : Pos) → IsStretch p q (Clustered x) → IsBare (older ++ w ∷ []) x → IsBare older x
  was_bare x s bare = record {
    inside = bare.inside;
    no_row = bare_below (states_at (On x) older) (state_at (On x) w).rows (state_at (On x) w).tombs (ap (λ (a : Row × Option Tomb). a.0) (sym (on_rows x s)) ∙ bare.no_row);
  }

  was_known : (x : Pos) → IsStretch p q (Clustered x) → IsBare (older ++ w ∷ []) x → IsKnown Cache (older ++ w ∷ []) x → IsKnown Cache older x
  was_known x s bare k = record { at = sym (on_flag x s) ∙ k.at; gap = λ _. sym (behind_flag x bare.inside s) ∙ k.gap bare }

  pub stays_known : (x : Pos) → IsStretch p q (Clustered x) → IsKnown Cache older x → IsKnown Cache (older ++ w ∷ []) x
  stays_known x s k = record { at = on_flag x s ∙ k.at; gap = λ bare. behind_flag x bare.inside s ∙ k.gap (was_bare x s bare) }

  -- before the next place, what is known in both versions is known in the newer one
  pub unit-known : (x : Pos) → place_cmp (Clustered x) q ≡ Less → IsKnown Cache older x → (place_cmp (Clustered x) p ≡ Less → IsKnown Cache (older ++ v ∷ []) x) → IsKnown Cache (older ++ w ∷ []) x
  unit-known x l k was = ⊎_elim
      (λ b. known_same (older ++ v ∷ []) (older ++ w ∷ []) x (on_left x (left x b)) (λ _. behind_left x (left x b)) (was b))
      (λ s. stays_known x s k)
      (before_or_in p q (Clustered x) l)

  module _ (ok : IsContinuous None writes older) (k : IsContinuous (Some p) all (older ++ v ∷ [])) (src : SameSource (writes ++ change ∷ []) all) where
    in_content : (x : Pos) → IsStretch p q (Clustered x) → IsTrue (has_flag Cache (states_at (On x) (older ++ w ∷ []))) → content (states_at (On x) (older ++ w ∷ [])) ≡ source_at all x
    in_content x s f =
        on_rows x s
        ∙ update-content writes change x (states_at (On x) older) (state_at (On x) w).rows (state_at (On x) w).tombs (ok.clustered x tt (sym (on_flag x s) ∙ f)) (u.clustered (On x) tt s).1
        ∙ src.clustered x

    unit_content : (x : Pos) → place_cmp (Clustered x) q ≡ Less → IsTrue (has_flag Cache (states_at (On x) (older ++ w ∷ []))) → content (states_at (On x) (older ++ w ∷ [])) ≡ source_at all x
    unit_content x l f = ⊎_elim
        (λ b. same-content (states_at (On x) (older ++ v ∷ [])) (states_at (On x) (older ++ w ∷ [])) (on_left x (left x b))
        ∙ k.clustered x b (sym (same-flagged (states_at (On x) (older ++ v ∷ [])) (states_at (On x) (older ++ w ∷ [])) (on_left x (left x b))) ∙ f))
        (λ s. in_content x s f)
        (before_or_in p q (Clustered x) l)

    unit_statics : place_cmp Static q ≡ Less → IsTrue (has_flag Cache (static_states (older ++ w ∷ []))) → content (static_states (older ++ w ∷ [])) ≡ (source_at_static all, None)
    unit_statics l f = ⊎_elim
        (λ b. let e = seen-same static_state older v w (u.statics_left (λ s. s.begun b)) in
        same-content (static_states (older ++ v ∷ [])) (static_states (older ++ w ∷ [])) e
        ∙ k.statics b (sym (same-flagged (static_states (older ++ v ∷ [])) (static_states (older ++ w ∷ [])) e) ∙ f))
        (λ s. ap content (on_top static_state older w (u.statics s).0)
        ∙ update-statics writes change (static_states older) (static_state w).rows (static_state w).tombs (ok.statics tt (sym (flagged_top static_state older w (u.statics s).0) ∙ f)) (u.statics s).1
        ∙ ap (λ r. (r, None)) src.statics)
        (before_or_in p q Static l)

    unit_head : place_cmp Head q ≡ Less → greatest tomb_cmp (version_tombs (older ++ w ∷ [])) ≡ source_at_head all
    unit_head l = ⊎_elim
        (λ b. ap (greatest tomb_cmp) (tombs-same older [] v w (u.head_left (λ s. s.begun b))) ∙ k.head b)
        (λ s. ap (greatest tomb_cmp) (pts_one older [] w)
        ∙ tombs_by_parts (version_tombs older) (option_to_list w.pt ++ []) (source.partition_tombs writes) (source.partition_tombs (change ∷ [])) (ok.head tt)
        (ap (greatest tomb_cmp) (append-nil (option_to_list w.pt) ∙ ap option_to_list (u.head s) ∙ alone change.pt))
        ∙ ap (greatest tomb_cmp) (sym (partition_tombs-append writes (change ∷ [])))
        ∙ src.head)
        (before_or_in p q Head l)
      where
        alone : (t : Option Tomb) → option_to_list t ≡ source.partition_tombs ((record { pt = t; statics = change.statics; rows = change.rows; ranges = change.ranges }) ∷ [])
        alone None = refl
        alone (Some t) = refl

    -- over a bare position and over the gap behind it the same tombstone is joined
    in_even : (x : Pos) → IsStretch p q (Clustered x) → IsEvenAt Cache (older ++ w ∷ []) x
    in_even x s bare known =
        ap (λ (a : Row × Option Tomb). a.1) (on_rows x s)
        ∙ joined_tombs (states_at (On x) older) (states_at (Behind x) older) (state_at (On x) w).rows (state_at (Behind x) w).rows (state_at (On x) w).tombs (state_at (Behind x) w).tombs
        (ok.even x tt (was_bare x s bare) (was_known x s bare known))
        (ap (λ (a : Row × Option Tomb). a.1) ((u.clustered (On x) tt s).1) ∙ ap (λ (a : Row × Option Tomb). a.1) (sym (u.clustered (Behind x) bare.inside s).1))
        ∙ ap (λ (a : Row × Option Tomb). a.1) (sym (ap content (on_top (state_at (Behind x)) older w (u.clustered (Behind x) bare.inside s).0)))

    pub unit-continuous : IsContinuous (Some q) all (older ++ w ∷ [])
    unit-continuous = record {
      within = record {
        statics = each-other _ older [] v w k.within.statics (⊎_elim
            (λ s. subst (λ r. IsWithin (static_state w) (r, None)) src.statics (adds_within_statics writes change (static_state w) (u.statics s)))
            (λ off. subst (λ c. IsWithin c (source_at_static all, None)) (sym (u.statics_left off)) (each-one _ older [] v k.within.statics))
            (stretch_or_not p q Static));
        clustered = λ x. each-other _ older [] v w (k.within.clustered x) (⊎_elim
            (λ s. subst (IsWithin (state_at (On x) w)) (src.clustered x) (adds_within writes change x (state_at (On x) w) (u.clustered (On x) tt s)))
            (λ off. subst (λ c. IsWithin c (source_at all x)) (sym (u.clustered_left (On x) off)) (each-one _ older [] v (k.within.clustered x)))
            (stretch_or_not p q (Clustered x)));
      };
      statics = unit_statics;
      clustered = unit_content;
      head = unit_head;
      even = λ x l. ⊎_elim
          (λ b. even-same (older ++ v ∷ []) (older ++ w ∷ []) x (on_left x (left x b)) (behind_left x (left x b)) (k.even x b))
          (λ s. in_even x s)
          (before_or_in p q (Clustered x) l);
    }
