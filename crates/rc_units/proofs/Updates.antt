-- An update's unit is a unit of the core.
use Rattle.std.specs.Prelude.{◌≡◌, true, false, [], ◌∷◌, Option, Some, None}
use Rattle.std.proofs.Common.{refl, sym, ap, ◌∙◌, subst, ⊎_elim}
use Rattle.std.specs.declared.cmp.Ordering.{Ordering}
use Rattle.std.specs.declared.cmp.Ordering.TheVariants.{Less, Equal, Greater}
use Rattle.std.specs.Option.{option_to_list}
use Rattle.std.specs.Ordering.{is_gt}
use Rattle.rc_cell.specs.declared.rows.Row.{Row}
use Rattle.rc_cell.specs.declared.writes.Tomb.{Tomb}
use Rattle.rc_cell.specs.Greatest.{greater}
use Rattle.rc_cell.specs.Orders.{tomb_cmp}
use Rattle.rc_cell.specs.Winner.{greatest, joined_row, empty_row}
use Rattle.rc_cell.specs.laws.{joined_row-none}
use Rattle.rc_position.specs.declared.positions.Pos.{Pos}
use Rattle.rc_position.specs.Position.{Place, Head, Static, Clustered, place_cmp, pos_cmp, IsBefore}
use Rattle.rc_position.specs.laws.Orders.{pos_cmp_same}
use Rattle.rc_position.specs.laws.Bounds.{last_pos-greatest}
use Rattle.rc_mutation.specs.declared.fragments.Frag.{Frag}
use Rattle.rc_mutation.specs.declared.fragments.Frag.TheVariants as frag
use Rattle.rc_mutation.specs.declared.mutations.Mutation.{Mutation}
use Rattle.rc_mutation.specs.Source.{source_at}
use Rattle.rc_mutation.specs.laws.Sources.{head-one}
use Rattle.rc_core.specs.declared.entries.Flag.TheVariants.{Inherit}
use Rattle.rc_core.specs.SpotState.{SpotState, spot_state, joined_state}
use Rattle.rc_core.specs.Version.{Spot, On, Behind, Version, IsVersion, state_of, state_at, static_state, end_position}
use Rattle.rc_core.specs.Change.{joined_onto, position_of}
use Rattle.rc_core.specs.AtPlace.{IsAtPlace, IsSilentFrom}
use Rattle.rc_core.specs.Unit.{Adds, IsInside, IsStretch, IsUnit, source_at_spot}
use Rattle.rc_core.specs.laws.GivenUp.{source_at_end}
use Rattle.rc_core.specs.laws.Losing.{tomb-alone}
use Rattle.rc_core.specs.laws.Placed.{unit-at-place}
use Rattle.rc_units.specs.Update.{unit_place, fragment_head, fragment_statics, Precedes, IsFragmentOf, updated_version}
use Rattle.rc_units.proofs.Cuts.{precedes-le, updated-place}
use Rattle.rc_units.proofs.Putting.{less_or_not, none_listed, unit-before, unit-within, unit-behind, unit-end}

-- ---- places

end_of : (r : Ordering) (x : Pos) → pos_cmp x end_position ≡ r → (r ≡ Less → ⊥) → x ≡ end_position
end_of Less x h off = absurd (off refl)
end_of Equal x h off = pos_cmp_same x end_position h
end_of Greater x h off = let u : true ≡ false = sym (ap is_gt h) ∙ last_pos-greatest x in absurd (cc)

pub at-the-end : (x : Pos) → (pos_cmp x end_position ≡ Less → ⊥) → x ≡ end_position
at-the-end x off = end_of (pos_cmp x end_position) x refl off

-- ---- the static row and the head of the version

module _ (force : Option Tomb) (next : Place) (v : Version) where
  statics_before : (f : Frag) → place_cmp Static (unit_place f) ≡ Less → static_state (updated_version force f next v) ≡ static_state v
  statics_before (frag.Start pt) l = absurd (cc)
  statics_before (frag.Static row) l = absurd (cc)
  statics_before (frag.Row key row) l = refl
  statics_before (frag.Change from tomb) l = refl
  statics_before frag.End l = refl

  statics_within : (f : Frag) → IsSilentFrom (unit_place f) v → (place_cmp Static (unit_place f) ≡ Less → ⊥) → Precedes f next → static_state (updated_version force f next v) ≡ spot_state Inherit (fragment_statics f) []
  statics_within (frag.Start pt) silent off p = silent.statics off
  statics_within (frag.Static row) silent off p =
      let e = silent.statics off in
      λ i. spot_state (e i).flag (option_to_list (Some (joined_onto (none_listed v.statics (ap (λ (c : SpotState). c.rows) e) i) row))) []
  statics_within (frag.Row key row) silent off p = absurd (off refl)
  statics_within (frag.Change from tomb) silent off p = absurd (off refl)
  statics_within frag.End silent off p = absurd p

  statics_behind : (f : Frag) → Precedes f next → (place_cmp Static next ≡ Less → ⊥) → static_state (updated_version force f next v) ≡ static_state v
  statics_behind (frag.Start pt) p off = refl
  statics_behind (frag.Static row) p off = absurd (off p)
  statics_behind (frag.Row key row) p off = refl
  statics_behind (frag.Change from tomb) p off = refl
  statics_behind frag.End p off = refl

  head_before : (f : Frag) → place_cmp Head (unit_place f) ≡ Less → (updated_version force f next v).pt ≡ v.pt
  head_before (frag.Start pt) l = absurd (cc)
  head_before (frag.Static row) l = refl
  head_before (frag.Row key row) l = refl
  head_before (frag.Change from tomb) l = refl
  head_before frag.End l = refl

  head_within : (f : Frag) → IsSilentFrom (unit_place f) v → (place_cmp Head (unit_place f) ≡ Less → ⊥) → (updated_version force f next v).pt ≡ fragment_head f
  head_within (frag.Start pt) silent off = ap (λ t. greater tomb_cmp t pt) (silent.head off)
  head_within (frag.Static row) silent off = absurd (off refl)
  head_within (frag.Row key row) silent off = absurd (off refl)
  head_within (frag.Change from tomb) silent off = absurd (off refl)
  head_within frag.End silent off = absurd (off refl)

  head_behind : (f : Frag) → Precedes f next → (place_cmp Head next ≡ Less → ⊥) → (updated_version force f next v).pt ≡ v.pt
  head_behind (frag.Start pt) p off = absurd (off p)
  head_behind (frag.Static row) p off = refl
  head_behind (frag.Row key row) p off = refl
  head_behind (frag.Change from tomb) p off = refl
  head_behind frag.End p off = refl

-- the head comes first
head_first : (f : Frag) → (place_cmp Head (unit_place f) ≡ Less → ⊥) → unit_place f ≡ Head
head_first (frag.Start pt) off = refl
head_first (frag.Static row) off = absurd (off refl)
head_first (frag.Row key row) off = absurd (off refl)
head_first (frag.Change from tomb) off = absurd (off refl)
head_first frag.End off = absurd (off refl)

-- a mutation says nothing at the end
pub end-says : (change : Mutation) (x : Pos) → (pos_cmp x end_position ≡ Less → ⊥) → (joined_row [], greatest tomb_cmp []) ≡ source_at (change ∷ []) x
end-says change x b = subst (λ y. (joined_row [], greatest tomb_cmp []) ≡ source_at (change ∷ []) y) (sym (at-the-end x b)) (sym (source_at_end (change ∷ [])))

-- ---- a unit of the core

module _ (change : Mutation) (force : Option Tomb) (f : Frag) (next : Place) (v : Version) (i : IsVersion v) (a : IsAtPlace (unit_place f) v) (st : IsFragmentOf change force f next) where
  abbrev unit : Version
  unit = updated_version force f next v

  said_on : (x : Pos) → IsStretch (unit_place f) next (Clustered x) → Adds (state_at (On x) unit) (source_at (change ∷ []) x)
  said_on x w = ⊎_elim
      (λ b. let e = unit-within force next v i (On x) b f st.precedes a.silent w in (ap (λ (c : SpotState). c.flag) e, ap joined_state e ∙ st.clustered x b w))
      (λ off. let e = ap state_of (unit-end force next v i (On x) f st.precedes off) ∙ a.silent.clustered (On x) w.begun in (ap (λ (c : SpotState). c.flag) e, ap joined_state e ∙ end-says change x off))
      (less_or_not (pos_cmp x end_position))

  said_behind : (x : Pos) → IsBefore x end_position → IsStretch (unit_place f) next (Clustered x) → Adds (state_at (Behind x) unit) (empty_row, (source_at (change ∷ []) x).1)
  said_behind x b w = let e = unit-within force next v i (Behind x) b f st.precedes a.silent w in
      (ap (λ (c : SpotState). c.flag) e, ap joined_state e ∙ (λ j. (joined_row-none j, ap (λ (r : Row × Option Tomb). r.1) (st.clustered x b w) j)))

  said_at : (s : Spot) → IsInside s → IsStretch (unit_place f) next (Clustered (position_of s)) → Adds (state_at s unit) (source_at_spot (change ∷ []) s)
  said_at (On x) inside w = said_on x w
  said_at (Behind x) b w = said_behind x b w

  pub unit-is : IsUnit (unit_place f) next change v unit
  unit-is = record {
    head = λ s. head_within force next v f a.silent s.begun ∙ sym (st.head (head_first f s.begun)) ∙ head-one change;
    head_left = λ off. ⊎_elim
        (λ b. head_before force next v f b)
        (λ n. head_behind force next v f st.precedes (λ l. off (record { begun = n; short = l })))
        (less_or_not (place_cmp Head (unit_place f)));
    statics = λ s. let e = statics_within force next v f a.silent s.begun st.precedes in
        (ap (λ (c : SpotState). c.flag) e, ap joined_state e ∙ (λ j. (st.statics s j, tomb-alone None j)));
    statics_left = λ off. ⊎_elim
        (λ b. statics_before force next v f b)
        (λ n. statics_behind force next v f st.precedes (λ l. off (record { begun = n; short = l })))
        (less_or_not (place_cmp Static (unit_place f)));
    clustered = said_at;
    clustered_left = λ s off. ⊎_elim
        (λ l. ap state_of (unit-before force next v i s f st.precedes l))
        (λ n. ap state_of (unit-behind force next v i s f st.precedes (λ l. off (record { begun = n; short = l }))))
        (less_or_not (place_cmp (Clustered (position_of s)) (unit_place f)));
    place = updated-place force f next v st.precedes i a.place;
  }

  -- and so the version stands at the next place
  pub unit-placed : IsAtPlace next unit
  unit-placed = unit-at-place change (unit_place f) next v unit unit-is (precedes-le f next st.precedes) a
