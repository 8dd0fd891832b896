-- What a fill of the newest version does: what was filled is known, all else is seen as before, and continuity is kept.
use Rattle.std.specs.Prelude.{◌≡◌, true, false, IsTrue, List, [], ◌∷◌, ◌++◌, Option, Some, None, cond, map as list_map}
use Rattle.std.proofs.Common.{refl, sym, ap, ◌∙◌, subst, inl}
use Rattle.std.specs.declared.cmp.Ordering.TheVariants.{Less, Equal, Greater}
use Rattle.std.specs.Option.{option_to_list}
use Rattle.rc_cell.specs.declared.rows.Row.{Row}
use Rattle.rc_cell.specs.declared.writes.Tomb.{Tomb}
use Rattle.rc_cell.specs.Orders.{tomb_cmp, tomb_cmp_total}
use Rattle.rc_cell.specs.laws.Beats.{tomb_cmp-IsAntisymmetric}
use Rattle.rc_cell.specs.Greatest.{greater}
use Rattle.rc_cell.specs.laws.Greatest.{greatest-two, greatest-swap, greatest-twice}
use Rattle.rc_cell.specs.laws.{joined_row-comm, joined_row-append, joined_row-none, joined_row-twice}
use Rattle.rc_cell.specs.Winner.{greatest, joined_row, empty_row}
use Rattle.rc_position.specs.declared.positions.Pos.{Pos}
use Rattle.rc_position.specs.Position.{IsBefore, covers, pos_cmp}
use Rattle.rc_position.specs.laws.Orders.{pos_cmp_same}
use Rattle.rc_mutation.specs.declared.mutations.Mutation.{Mutation}
use Rattle.rc_mutation.specs.Source.{source_at_static, source_at, static_rows, rows_in, all_rows}
use Rattle.rc_core.specs.declared.entries.ChainKind.TheVariants.{Cache}
use Rattle.rc_core.specs.declared.entries.Flag.{Flag}
use Rattle.rc_core.specs.declared.entries.Flag.TheVariants.{Known, Unknown, Inherit}
use Rattle.rc_core.specs.SpotState.{SpotState, spot_state, over, under, through, joined_state}
use Rattle.rc_core.specs.Version.{Spot, On, Behind, Version, IsVersion, state_at, static_state, finding_of, finding_in, state_of, spot_cmp, end_position, IsBeforeEnd}
use Rattle.rc_core.specs.Change.{mark, fill_gap, fill_row, joined_onto, position_of}
use Rattle.rc_core.specs.Chain.{has_flag, content, states_at, flag_over, IsBare, IsKnown, IsEvenAt}
use Rattle.rc_core.specs.Continuity.{IsWithin, static_states, IsContinuous, with_entries, fill_statics, joined_options}
use Rattle.rc_core.specs.laws.Folding.{flagged-through, content-through, through-append, under-above}
use Rattle.rc_core.specs.laws.Spots.{change-seen, fill_row-there, fill_row-other, behind-Equal, position-reached, gap-reached}
use Rattle.rc_core.specs.laws.Losing.{map-append, each-one, each-other, joined-again, tomb-alone, same-content, same-flagged, lost-even, tombs-same}

-- ---- the newest version's state, where it is Known

over_known : (f : Flag) (a b : SpotState) → f ≡ Known → over f a b ≡ b
over_known Known a b e = refl
over_known Unknown a b e = refl
over_known Inherit a b e = absurd (cc)

pub through-known : (older : List SpotState) (c : SpotState) → c.flag ≡ Known → through (older ++ c ∷ []) ≡ c
through-known older c k = through-append older (c ∷ []) ∙ ap (under (through older)) (under-above c) ∙ over_known c.flag (through older) c k

pub seen-known : (f : Version → SpotState) (older : List Version) (v : Version) → (f v).flag ≡ Known → through (list_map f (older ++ v ∷ [])) ≡ f v
seen-known f older v k = ap through (map-append f older v []) ∙ through-known (list_map f older) (f v) k

pub seen-same : (f : Version → SpotState) (older : List Version) (v w : Version) → f w ≡ f v → through (list_map f (older ++ w ∷ [])) ≡ through (list_map f (older ++ v ∷ []))
seen-same f older v w e = ap through (map-append f older w []) ∙ ap (λ c. through (list_map f older ++ c ∷ [])) e ∙ sym (ap through (map-append f older v []))

pub flagged-known : (f : Version → SpotState) (older : List Version) (v : Version) → (f v).flag ≡ Known → IsTrue (has_flag Cache (list_map f (older ++ v ∷ [])))
flagged-known f older v k = flagged-through Cache (list_map f (older ++ v ∷ [])) ∙ ap (λ (c : SpotState). flag_over Cache c.flag) (seen-known f older v k) ∙ ap (flag_over Cache) k

pub content-known : (f : Version → SpotState) (older : List Version) (v : Version) → (f v).flag ≡ Known → content (list_map f (older ++ v ∷ [])) ≡ joined_state (f v)
content-known f older v k = content-through (list_map f (older ++ v ∷ [])) ∙ ap joined_state (seen-known f older v k)

-- ---- rows and tombstones within a source

pub no_rows : (rows : List Row) → joined_row (empty_row ∷ rows) ≡ joined_row rows
unfolding joined_row
no_rows rows = refl

joined_within : (old : Option Row) (row : Row) → joined_row (row ∷ option_to_list old) ≡ row → joined_row (joined_onto old row ∷ []) ≡ row
joined_within None row w = w
joined_within (Some r) row w = joined-again (r ∷ row ∷ []) ∙ joined_row-comm r row ∙ w

raised_within : (old tomb : Option Tomb) → greatest tomb_cmp (option_to_list tomb ++ option_to_list old) ≡ tomb → greatest tomb_cmp (option_to_list (greater tomb_cmp old tomb)) ≡ tomb
raised_within old tomb w =
    tomb-alone (greater tomb_cmp old tomb)
    ∙ sym (greatest-two tomb_cmp_total tomb_cmp-IsAntisymmetric old tomb)
    ∙ greatest-swap tomb_cmp_total tomb_cmp-IsAntisymmetric (option_to_list old) (option_to_list tomb)
    ∙ w

itself_within : (tomb : Option Tomb) → greatest tomb_cmp (option_to_list tomb ++ option_to_list tomb) ≡ tomb
itself_within tomb = greatest-twice tomb_cmp_total tomb_cmp-IsAntisymmetric (option_to_list tomb) ∙ tomb-alone tomb

raised_is : (old tomb : Option Tomb) → greatest tomb_cmp (option_to_list tomb ++ option_to_list old) ≡ tomb → greater tomb_cmp old tomb ≡ tomb
raised_is old tomb w = sym (tomb-alone (greater tomb_cmp old tomb)) ∙ raised_within old tomb w

-- rows that join to what other rows join to add nothing to it
pub adds_nothing : (s : Row) (rows ys : List Row) → joined_row rows ≡ s → joined_row ys ≡ s → joined_row (s ∷ ys) ≡ s
adds_nothing s rows ys e h =
    let one : joined_row (s ∷ []) ≡ s = ap (λ r. joined_row (r ∷ [])) (sym e) ∙ joined-again rows ∙ e in
    joined_row-append (s ∷ []) ys ∙ (λ j. joined_row (one j ∷ h j ∷ [])) ∙ joined_row-twice (s ∷ []) ∙ one

-- ---- what is as before

pub even-same : (before now : List Version) (x : Pos) → through (states_at (On x) now) ≡ through (states_at (On x) before) → through (states_at (Behind x) now) ≡ through (states_at (Behind x) before) → IsEvenAt Cache before x → IsEvenAt Cache now x
even-same before now x e g h = lost-even before now x (inl e) (inl g) h

-- ---- a filled gap

module _ (writes : List Mutation) (older : List Version) (v : Version) (i : IsVersion v) (from to : Pos) (tomb : Option Tomb) where
  abbrev filled : Version
  filled = with_entries (fill_gap from to tomb v.entries) v

  gap_states : (s : Spot) → IsBeforeEnd s v.entries → state_at s filled ≡ state_of (cond (covers from to (position_of s)) (finding_of (mark Known tomb) (finding_in s v.entries).row) (finding_in s v.entries))
  gap_states s b = ap state_of (change-seen (λ m. mark Known tomb) s from to v.entries b)

  gap_inside : (s : Spot) → IsBeforeEnd s v.entries → covers from to (position_of s) ≡ true → state_at s filled ≡ spot_state Known (option_to_list (finding_in s v.entries).row) (option_to_list tomb)
  gap_inside s b c = gap_states s b ∙ ap (λ t. state_of (cond t (finding_of (mark Known tomb) (finding_in s v.entries).row) (finding_in s v.entries))) c

  gap_outside : (s : Spot) → IsBeforeEnd s v.entries → covers from to (position_of s) ≡ false → state_at s filled ≡ state_at s v
  gap_outside s b c = gap_states s b ∙ ap (λ t. state_of (cond t (finding_of (mark Known tomb) (finding_in s v.entries).row) (finding_in s v.entries))) c

  on : (x : Pos) → IsBeforeEnd (On x) v.entries
  on x = position-reached x v.entries i.ends

  gap : (x : Pos) → IsBefore x end_position → IsBeforeEnd (Behind x) v.entries
  gap x b = gap-reached x v.entries i.ends b

  pub gap-elsewhere : (s : Spot) → IsBeforeEnd s v.entries → covers from to (position_of s) ≡ false → through (states_at s (older ++ filled ∷ [])) ≡ through (states_at s (older ++ v ∷ []))
  gap-elsewhere s b c = seen-same (state_at s) older v filled (gap_outside s b c)

  is_known_state : (s : Spot) → IsBeforeEnd s v.entries → covers from to (position_of s) ≡ true → (state_at s filled).flag ≡ Known
  is_known_state s b c = ap (λ (k : SpotState). k.flag) (gap_inside s b c)

  pub gap-known : (x : Pos) → covers from to x ≡ true → IsKnown Cache (older ++ filled ∷ []) x
  gap-known x c = record {
    at = flagged-known (state_at (On x)) older filled (is_known_state (On x) (on x) c);
    gap = λ bare. flagged-known (state_at (Behind x)) older filled (is_known_state (Behind x) (gap x bare.inside) c);
  }

  module _ (given : (x : Pos) → covers from to x ≡ true → source_at writes x ≡ (empty_row, tomb)) where
    row_within : (x : Pos) → covers from to x ≡ true → IsWithin (state_at (On x) v) (source_at writes x) → joined_row (option_to_list (finding_in (On x) v.entries).row) ≡ empty_row
    row_within x c w =
        sym (no_rows (option_to_list (finding_in (On x) v.entries).row))
        ∙ ap (λ (a : Row × Option Tomb). joined_row (a.0 ∷ option_to_list (finding_in (On x) v.entries).row)) (sym (given x c))
        ∙ w.0
        ∙ ap (λ (a : Row × Option Tomb). a.0) (given x c)

    gap_within : (x : Pos) → IsWithin (state_at (On x) v) (source_at writes x) → IsWithin (state_at (On x) filled) (source_at writes x)
    gap_within x w = elim (covers from to x) as (λ b. covers from to x ≡ b → IsWithin (state_at (On x) filled) (source_at writes x)) [
      | true ↦ λ c. subst (λ k. IsWithin k (source_at writes x)) (sym (gap_inside (On x) (on x) c))
          (w.0, ap (λ (a : Row × Option Tomb). greatest tomb_cmp (option_to_list a.1 ++ option_to_list tomb)) (given x c) ∙ itself_within tomb ∙ ap (λ (a : Row × Option Tomb). a.1) (sym (given x c)))
      | false ↦ λ c. subst (λ k. IsWithin k (source_at writes x)) (sym (gap_outside (On x) (on x) c)) w
    ] refl

    inside_content : (x : Pos) → covers from to x ≡ true → IsWithin (state_at (On x) v) (source_at writes x) → content (states_at (On x) (older ++ filled ∷ [])) ≡ source_at writes x
    inside_content x c w =
        content-known (state_at (On x)) older filled (is_known_state (On x) (on x) c)
        ∙ ap joined_state (gap_inside (On x) (on x) c)
        ∙ (λ j. (row_within x c w j, tomb-alone tomb j))
        ∙ sym (given x c)

    gap_content : (k : IsContinuous None writes (older ++ v ∷ [])) (x : Pos) → IsTrue (has_flag Cache (states_at (On x) (older ++ filled ∷ []))) → content (states_at (On x) (older ++ filled ∷ [])) ≡ source_at writes x
    gap_content k x f = elim (covers from to x) as (λ b. covers from to x ≡ b → content (states_at (On x) (older ++ filled ∷ [])) ≡ source_at writes x) [
      | true ↦ λ c. inside_content x c (each-one _ older [] v (k.within.clustered x))
      | false ↦ λ c. let e = gap-elsewhere (On x) (on x) c in
          same-content (states_at (On x) (older ++ v ∷ [])) (states_at (On x) (older ++ filled ∷ [])) e
          ∙ k.clustered x tt (sym (same-flagged (states_at (On x) (older ++ v ∷ [])) (states_at (On x) (older ++ filled ∷ [])) e) ∙ f)
    ] refl

    gap_even : (k : IsContinuous None writes (older ++ v ∷ [])) (x : Pos) → IsEvenAt Cache (older ++ filled ∷ []) x
    gap_even k x bare known = elim (covers from to x) as (λ b. covers from to x ≡ b → (content (states_at (On x) (older ++ filled ∷ []))).1 ≡ (content (states_at (Behind x) (older ++ filled ∷ []))).1) [
      | true ↦ λ c.
          ap (λ (a : Row × Option Tomb). a.1) (content-known (state_at (On x)) older filled (is_known_state (On x) (on x) c) ∙ ap joined_state (gap_inside (On x) (on x) c))
          ∙ ap (λ (a : Row × Option Tomb). a.1) (sym (content-known (state_at (Behind x)) older filled (is_known_state (Behind x) (gap x bare.inside) c) ∙ ap joined_state (gap_inside (Behind x) (gap x bare.inside) c)))
      | false ↦ λ c. even-same (older ++ v ∷ []) (older ++ filled ∷ []) x (gap-elsewhere (On x) (on x) c) (gap-elsewhere (Behind x) (gap x bare.inside) c) (k.even x tt) bare known
    ] refl

    pub gap-continuous : IsContinuous None writes (older ++ v ∷ []) → IsContinuous None writes (older ++ filled ∷ [])
    gap-continuous k = record {
      within = record {
        statics = each-other _ older [] v filled k.within.statics (each-one _ older [] v k.within.statics);
        clustered = λ x. each-other _ older [] v filled (k.within.clustered x) (gap_within x (each-one _ older [] v (k.within.clustered x)));
      };
      statics = λ r f. let e = seen-same static_state older v filled refl in
          same-content (static_states (older ++ v ∷ [])) (static_states (older ++ filled ∷ [])) e
          ∙ k.statics tt (sym (same-flagged (static_states (older ++ v ∷ [])) (static_states (older ++ filled ∷ [])) e) ∙ f);
      clustered = λ x r. gap_content k x;
      head = λ r. ap (greatest tomb_cmp) (tombs-same older [] v filled refl) ∙ k.head tt;
      even = λ x r. gap_even k x;
    }

-- ---- a filled row

module _ (writes : List Mutation) (older : List Version) (v : Version) (i : IsVersion v) (p : Pos) (row : Row) (tomb : Option Tomb) where
  abbrev with_filled_row : Version
  with_filled_row = with_entries (fill_row p row tomb v.entries) v

  there : state_at (On p) with_filled_row ≡ spot_state Known (joined_onto (finding_in (On p) v.entries).row row ∷ []) (option_to_list (greater tomb_cmp (finding_in (On p) v.entries).mark.tomb tomb))
  there = ap state_of (fill_row-there p row tomb v.entries i.ends)

  pub row-elsewhere : (s : Spot) → (spot_cmp s p ≡ Equal → ⊥) → through (states_at s (older ++ with_filled_row ∷ [])) ≡ through (states_at s (older ++ v ∷ []))
  row-elsewhere s h = seen-same (state_at s) older v with_filled_row (ap state_of (fill_row-other s p row tomb v.entries h))

  known_there : (state_at (On p) with_filled_row).flag ≡ Known
  known_there = ap (λ (k : SpotState). k.flag) there

  module _ (given : source_at writes p ≡ (row, tomb)) (some : row ≡ empty_row → ⊥) where
    row_said : IsWithin (state_at (On p) v) (source_at writes p) → joined_state (state_at (On p) with_filled_row) ≡ source_at writes p
    row_said w =
        ap joined_state there
        ∙ (λ j. (
          joined_within (finding_in (On p) v.entries).row row (ap (λ (a : Row × Option Tomb). joined_row (a.0 ∷ option_to_list (finding_in (On p) v.entries).row)) (sym given) ∙ w.0 ∙ ap (λ (a : Row × Option Tomb). a.0) given) j,
          raised_within (finding_in (On p) v.entries).mark.tomb tomb (ap (λ (a : Row × Option Tomb). greatest tomb_cmp (option_to_list a.1 ++ option_to_list (finding_in (On p) v.entries).mark.tomb)) (sym given) ∙ w.1 ∙ ap (λ (a : Row × Option Tomb). a.1) given) j,
        ))
        ∙ sym given

    row_content : IsWithin (state_at (On p) v) (source_at writes p) → content (states_at (On p) (older ++ with_filled_row ∷ [])) ≡ source_at writes p
    row_content w = content-known (state_at (On p)) older with_filled_row known_there ∙ row_said w

    pub row-known : IsContinuous None writes (older ++ v ∷ []) → IsKnown Cache (older ++ with_filled_row ∷ []) p
    row-known k = record {
      at = flagged-known (state_at (On p)) older with_filled_row known_there;
      gap = λ bare. absurd (some (ap (λ (a : Row × Option Tomb). a.0) (sym (row_content (each-one _ older [] v (k.within.clustered p)) ∙ given)) ∙ bare.no_row));
    }

    filled_within : IsWithin (state_at (On p) v) (source_at writes p) → IsWithin (state_at (On p) with_filled_row) (source_at writes p)
    filled_within w =
        let said_there = row_said w in
        let rows_there : joined_row (state_at (On p) with_filled_row).rows ≡ (source_at writes p).0 = ap (λ (a : Row × Option Tomb). a.0) said_there in (
          adds_nothing (source_at writes p).0 (rows_in p (all_rows writes)) (state_at (On p) with_filled_row).rows refl rows_there,
          ap (λ (k : SpotState). greatest tomb_cmp (option_to_list (source_at writes p).1 ++ k.tombs)) there
              ∙ ap (λ t. greatest tomb_cmp (option_to_list (source_at writes p).1 ++ option_to_list t)) (raised_is (finding_in (On p) v.entries).mark.tomb tomb (ap (λ (a : Row × Option Tomb). greatest tomb_cmp (option_to_list a.1 ++ option_to_list (finding_in (On p) v.entries).mark.tomb)) (sym given) ∙ w.1 ∙ ap (λ (a : Row × Option Tomb). a.1) given) ∙ ap (λ (a : Row × Option Tomb). a.1) (sym given))
              ∙ itself_within (source_at writes p).1,
        )

    within_at : (x : Pos) → IsWithin (state_at (On p) v) (source_at writes p) → IsWithin (state_at (On x) v) (source_at writes x) → IsWithin (state_at (On x) with_filled_row) (source_at writes x)
    within_at x wp w = elim (pos_cmp x p) as (λ r. pos_cmp x p ≡ r → IsWithin (state_at (On x) with_filled_row) (source_at writes x)) [
      | Less ↦ λ h. other (λ e. let u : Less ≡ Equal = sym h ∙ e in absurd (cc))
      | Equal ↦ λ h. subst (λ y. IsWithin (state_at (On y) with_filled_row) (source_at writes y)) (sym (pos_cmp_same x p h)) (filled_within wp)
      | Greater ↦ λ h. other (λ e. let u : Greater ≡ Equal = sym h ∙ e in absurd (cc))
    ] refl
      where
        other : (spot_cmp (On x) p ≡ Equal → ⊥) → IsWithin (state_at (On x) with_filled_row) (source_at writes x)
        other h = subst (λ k. IsWithin k (source_at writes x)) (sym (ap state_of (fill_row-other (On x) p row tomb v.entries h))) w

    content_at : (k : IsContinuous None writes (older ++ v ∷ [])) (x : Pos) → IsTrue (has_flag Cache (states_at (On x) (older ++ with_filled_row ∷ []))) → content (states_at (On x) (older ++ with_filled_row ∷ [])) ≡ source_at writes x
    content_at k x f = elim (pos_cmp x p) as (λ r. pos_cmp x p ≡ r → content (states_at (On x) (older ++ with_filled_row ∷ [])) ≡ source_at writes x) [
      | Less ↦ λ h. other (λ e. let u : Less ≡ Equal = sym h ∙ e in absurd (cc))
      | Equal ↦ λ h. subst (λ y. content (states_at (On y) (older ++ with_filled_row ∷ [])) ≡ source_at writes y) (sym (pos_cmp_same x p h)) (row_content (each-one _ older [] v (k.within.clustered p)))
      | Greater ↦ λ h. other (λ e. let u : Greater ≡ Equal = sym h ∙ e in absurd (cc))
    ] refl
      where
        other : (spot_cmp (On x) p ≡ Equal → ⊥) → content (states_at (On x) (older ++ with_filled_row ∷ [])) ≡ source_at writes x
        other h = let e = row-elsewhere (On x) h in
            same-content (states_at (On x) (older ++ v ∷ [])) (states_at (On x) (older ++ with_filled_row ∷ [])) e
            ∙ k.clustered x tt (sym (same-flagged (states_at (On x) (older ++ v ∷ [])) (states_at (On x) (older ++ with_filled_row ∷ [])) e) ∙ f)

    even_at : (k : IsContinuous None writes (older ++ v ∷ [])) (x : Pos) → IsEvenAt Cache (older ++ with_filled_row ∷ []) x
    even_at k x = elim (pos_cmp x p) as (λ r. pos_cmp x p ≡ r → IsEvenAt Cache (older ++ with_filled_row ∷ []) x) [
      | Less ↦ λ h. other (λ e. let u : Less ≡ Equal = sym h ∙ e in absurd (cc))
      | Equal ↦ λ h. λ bare _. absurd (not_bare (subst (λ y. IsBare (older ++ with_filled_row ∷ []) y) (pos_cmp_same x p h) bare))
      | Greater ↦ λ h. other (λ e. let u : Greater ≡ Equal = sym h ∙ e in absurd (cc))
    ] refl
      where
        not_bare : IsBare (older ++ with_filled_row ∷ []) p → ⊥
        not_bare bare = some (ap (λ (a : Row × Option Tomb). a.0) (sym (row_content (each-one _ older [] v (k.within.clustered p)) ∙ given)) ∙ bare.no_row)

        other : (spot_cmp (On x) p ≡ Equal → ⊥) → IsEvenAt Cache (older ++ with_filled_row ∷ []) x
        other h = even-same (older ++ v ∷ []) (older ++ with_filled_row ∷ []) x (row-elsewhere (On x) h) (row-elsewhere (Behind x) (behind-Equal (pos_cmp x p))) (k.even x tt)

    pub row-continuous : IsContinuous None writes (older ++ v ∷ []) → IsContinuous None writes (older ++ with_filled_row ∷ [])
    row-continuous k = record {
      within = record {
        statics = each-other _ older [] v with_filled_row k.within.statics (each-one _ older [] v k.within.statics);
        clustered = λ x. each-other _ older [] v with_filled_row (k.within.clustered x) (within_at x (each-one _ older [] v (k.within.clustered p)) (each-one _ older [] v (k.within.clustered x)));
      };
      statics = λ r f. let e = seen-same static_state older v with_filled_row refl in
          same-content (static_states (older ++ v ∷ [])) (static_states (older ++ with_filled_row ∷ [])) e
          ∙ k.statics tt (sym (same-flagged (static_states (older ++ v ∷ [])) (static_states (older ++ with_filled_row ∷ [])) e) ∙ f);
      clustered = λ x r. content_at k x;
      head = λ r. ap (greatest tomb_cmp) (tombs-same older [] v with_filled_row refl) ∙ k.head tt;
      even = λ x r. even_at k x;
    }

-- ---- a filled static row

static_joined : (old given : Option Row) (s : Row) (rows : List Row) → joined_row rows ≡ s → joined_row (option_to_list given) ≡ s → joined_row (s ∷ option_to_list old) ≡ s → joined_row (option_to_list (joined_options old given)) ≡ s
static_joined old None s rows e g w = sym (no_rows (option_to_list old)) ∙ ap (λ r. joined_row (r ∷ option_to_list old)) (sym joined_row-none ∙ g) ∙ w
static_joined None (Some row) s rows e g w = g
static_joined (Some r) (Some row) s rows e g w =
    joined-again (r ∷ row ∷ []) ∙ joined_row-comm r row
    ∙ joined_row-append (row ∷ []) (r ∷ []) ∙ ap (λ x. joined_row (x ∷ joined_row (r ∷ []) ∷ [])) (g ∙ sym (ap (λ x. joined_row (x ∷ [])) (sym e) ∙ joined-again rows ∙ e))
    ∙ sym (joined_row-append (s ∷ []) (r ∷ [])) ∙ w

module _ (writes : List Mutation) (older : List Version) (v : Version) (given : Option Row) where
  abbrev with_statics : Version
  with_statics = fill_statics given v

  pub statics-known : IsTrue (has_flag Cache (static_states (older ++ with_statics ∷ [])))
  statics-known = flagged-known static_state older with_statics refl

  pub statics-continuous : joined_row (option_to_list given) ≡ source_at_static writes → IsContinuous None writes (older ++ v ∷ []) → IsContinuous None writes (older ++ with_statics ∷ [])
  statics-continuous g k =
      let w = each-one _ older [] v k.within.statics in
      let said_there = static_joined v.statics given (source_at_static writes) (static_rows writes) refl g w.0 in
      record {
        within = record {
          statics = each-other _ older [] v with_statics k.within.statics (adds_nothing (source_at_static writes) (static_rows writes) (static_state with_statics).rows refl said_there, w.1);
          clustered = λ x. each-other _ older [] v with_statics (k.within.clustered x) (each-one _ older [] v (k.within.clustered x));
        };
        statics = λ r f. content-known static_state older with_statics refl ∙ (λ j. (said_there j, tomb-alone None j));
        clustered = λ x r f. let e = seen-same (state_at (On x)) older v with_statics refl in
            same-content (states_at (On x) (older ++ v ∷ [])) (states_at (On x) (older ++ with_statics ∷ [])) e
            ∙ k.clustered x tt (sym (same-flagged (states_at (On x) (older ++ v ∷ [])) (states_at (On x) (older ++ with_statics ∷ [])) e) ∙ f);
        head = λ r. ap (greatest tomb_cmp) (tombs-same older [] v with_statics refl) ∙ k.head tt;
        even = λ x r. even-same (older ++ v ∷ []) (older ++ with_statics ∷ []) x (seen-same (state_at (On x)) older v with_statics refl) (seen-same (state_at (Behind x)) older v with_statics refl) (k.even x tt);
      }
