-- Where no entry stands, each position and each open gap is seen as the open gap behind the place before them.
use Rattle.std.specs.Prelude.{◌≡◌, List, [], ◌∷◌, Option, None}
use Rattle.std.proofs.Common.{refl, sym, ap, ◌∙◌, subst, ◌++◌}
use Rattle.std.specs.Option.{option_to_list}
use Rattle.std.specs.declared.cmp.Ordering.{Ordering}
use Rattle.std.specs.declared.cmp.Ordering.TheVariants.{Less, Equal, Greater}
use Rattle.rc_cell.specs.declared.rows.Row.{Row}
use Rattle.rc_cell.specs.declared.writes.Tomb.{Tomb}
use Rattle.rc_cell.specs.Winner.{empty_row, joined_row}
use Rattle.rc_cell.specs.laws.{joined_row-none}
use Rattle.rc_position.specs.declared.positions.Pos.{Pos}
use Rattle.rc_position.specs.Position.{IsBefore, pos_cmp}
use Rattle.rc_position.specs.laws.Orders.{pos_cmp_same, pos_cmp_total}
use Rattle.rc_core.specs.Chain.{content, states_at}
use Rattle.rc_core.specs.Continuity.{EachOf}
use Rattle.rc_core.specs.declared.entries.Entry.{Entry}
use Rattle.rc_core.specs.declared.entries.Flag.{Flag}
use Rattle.rc_core.specs.declared.entries.Flag.TheVariants.{Known, Unknown, Inherit}
use Rattle.rc_core.specs.Parts.{IsClear}
use Rattle.rc_core.specs.SpotState.{SpotState, over, through}
use Rattle.rc_core.specs.Version.{Behind, On, Spot, Version, entry_answers, finding_in, gap_ordering, spot_cmp, state_at, state_of}
use Rattle.rc_core.specs.laws.Folding.{content-through}
use Rattle.rc_core.specs.laws.Spots.{turn_to}

-- ---- no row is in an open gap

entry-row : (r : Ordering) (e : Entry) (x : Pos) (es : List Entry) → (finding_in (Behind x) es).row ≡ None → (entry_answers (gap_ordering r) e (finding_in (Behind x) es)).row ≡ None
entry-row Less e x es h = refl
entry-row Equal e x es h = h
entry-row Greater e x es h = h

gap-row : (x : Pos) (es : List Entry) → (finding_in (Behind x) es).row ≡ None
gap-row x [] = refl
gap-row x (e ∷ es) = entry-row (pos_cmp x e.position) e x es (gap-row x es)

no-rows-over : (f : Flag) (a b : SpotState) → a.rows ≡ [] → b.rows ≡ [] → (over f a b).rows ≡ []
no-rows-over Known a b e h = h
no-rows-over Unknown a b e h = h
no-rows-over Inherit a b e h = (λ i. e i ++ h i)

no-rows : (x : Pos) (vs : List Version) → (through (states_at (Behind x) vs)).rows ≡ []
no-rows x [] = refl
no-rows x (v ∷ vs) = no-rows-over (through (states_at (Behind x) vs)).flag (state_at (Behind x) v) (through (states_at (Behind x) vs)) (ap option_to_list (gap-row x v.entries)) (no-rows x vs)

pub gap-bare : (x : Pos) (vs : List Version) → (content (states_at (Behind x) vs)).0 ≡ empty_row
gap-bare x vs = ap (λ (a : Row × Option Tomb). a.0) (content-through (states_at (Behind x) vs)) ∙ ap joined_row (no-rows x vs) ∙ joined_row-none

-- ---- all alike

module _ (x to y : Pos) (behind : IsBefore x y) (before : IsBefore y to) where
  -- an entry stands behind y, where it stands behind the place; else before it
  entry-on : (e : Entry) → (IsBefore x e.position → IsBefore e.position to → ⊥) → (pos_cmp x e.position ≡ Less → pos_cmp y e.position ≡ Less) × (gap_ordering (pos_cmp x e.position) ≡ Greater → pos_cmp y e.position ≡ Greater)
  entry-on e clear = (λ l. ahead l, λ g. back g)
    where
      by : (r : Ordering) → pos_cmp e.position to ≡ r → IsBefore x e.position → pos_cmp y e.position ≡ Less
      by Less o l = absurd (clear l o)
      by Equal o l = subst (λ z. pos_cmp y z ≡ Less) (sym (pos_cmp_same e.position to o)) before
      by Greater o l = pos_cmp_total.trans y to e.position before (turn_to e.position to Greater o)

      ahead : IsBefore x e.position → pos_cmp y e.position ≡ Less
      ahead l = by (pos_cmp e.position to) refl l

      from : (r : Ordering) → pos_cmp x e.position ≡ r → gap_ordering r ≡ Greater → pos_cmp y e.position ≡ Greater
      from Less o g = absurd (cc)
      from Equal o g = turn_to e.position y Less (subst (λ z. IsBefore z y) (pos_cmp_same x e.position o) behind)
      from Greater o g = turn_to e.position y Less (pos_cmp_total.trans e.position x y (turn_to x e.position Greater o) behind)

      back : gap_ordering (pos_cmp x e.position) ≡ Greater → pos_cmp y e.position ≡ Greater
      back g = from (pos_cmp x e.position) refl g

  module _ (s : Spot) (like : (e : Entry) → pos_cmp y e.position ≡ Less → spot_cmp s e.position ≡ Less) (unlike : (e : Entry) → pos_cmp y e.position ≡ Greater → spot_cmp s e.position ≡ Greater) where
    one-alike : (e : Entry) (es : List Entry) → (IsBefore x e.position → IsBefore e.position to → ⊥) → finding_in s es ≡ finding_in (Behind x) es → finding_in s (e ∷ es) ≡ finding_in (Behind x) (e ∷ es)
    one-alike e es clear rest = elim (pos_cmp x e.position) as (λ r. pos_cmp x e.position ≡ r → entry_answers (spot_cmp s e.position) e (finding_in s es) ≡ entry_answers (gap_ordering r) e (finding_in (Behind x) es)) [
      | Less ↦ λ o. ap (λ r. entry_answers r e (finding_in s es)) (like e ((entry-on e clear).0 o))
      | Equal ↦ λ o. ap (λ r. entry_answers r e (finding_in s es)) (unlike e ((entry-on e clear).1 (ap gap_ordering o))) ∙ rest
      | Greater ↦ λ o. ap (λ r. entry_answers r e (finding_in s es)) (unlike e ((entry-on e clear).1 (ap gap_ordering o))) ∙ rest
    ] refl

    seen-alike : (es : List Entry) → IsClear x to es → finding_in s es ≡ finding_in (Behind x) es
    seen-alike [] h = refl
    seen-alike (e ∷ es) h = one-alike e es h.0 (seen-alike es h.1)

    states-alike : (vs : List Version) → EachOf (λ v. IsClear x to v.entries) vs → states_at s vs ≡ states_at (Behind x) vs
    states-alike [] h = refl
    states-alike (v ∷ vs) h = λ i. state_of (seen-alike v.entries h.0 i) ∷ states-alike vs h.1 i

  pub on-alike : (vs : List Version) → EachOf (λ v. IsClear x to v.entries) vs → states_at (On y) vs ≡ states_at (Behind x) vs
  on-alike vs h = states-alike (On y) (λ e l. l) (λ e g. g) vs h

  pub behind-alike : (vs : List Version) → EachOf (λ v. IsClear x to v.entries) vs → states_at (Behind y) vs ≡ states_at (Behind x) vs
  behind-alike vs h = states-alike (Behind y) (λ e l. ap gap_ordering l) (λ e g. ap gap_ordering g) vs h
