-- The first part of a snapshot: over a gap the same is seen at each place, and a known part is the source.
use Rattle.std.specs.Prelude.{◌≡◌, ◌⊎◌, ◌&&◌, true, List, [], ◌∷◌, ◌++◌, Option, Some, None}
use Rattle.std.proofs.Common.{refl, sym, ap, ◌∙◌, subst, ⊎_elim, inl, inr}
use Rattle.std.specs.declared.cmp.Ordering.{Ordering}
use Rattle.std.specs.declared.cmp.Ordering.TheVariants.{Less, Equal, Greater}
use Rattle.std.specs.Ordering.{is_lt, is_le}
use Rattle.std.specs.Cmp.{tied_itself}
use Rattle.rc_cell.specs.declared.rows.Row as rows
use Rattle.rc_cell.specs.declared.writes.Tomb.{Tomb}
use Rattle.rc_cell.specs.laws.{joined_row-none}
use Rattle.rc_cell.specs.Winner.{empty_row, joined_row}
use Rattle.rc_position.specs.declared.positions.Pos.{Pos}
use Rattle.rc_position.specs.Position.{pos_cmp, covers, IsBefore}
use Rattle.rc_position.specs.laws.Orders.{pos_cmp_total, pos_cmp_same}
use Rattle.rc_mutation.specs.declared.mutations.Mutation.{Mutation}
use Rattle.rc_mutation.specs.Source.{source_at}
use Rattle.rc_core.specs.declared.entries.ChainKind.{ChainKind}
use Rattle.rc_core.specs.declared.entries.ChainKind.TheVariants.{Cache}
use Rattle.rc_core.specs.declared.entries.Entry.{Entry}
use Rattle.rc_core.specs.declared.entries.Flag.{Flag}
use Rattle.rc_core.specs.declared.entries.Flag.TheVariants.{Known, Unknown, Inherit}
use Rattle.rc_core.specs.declared.parts.Part.{Part}
use Rattle.rc_core.specs.declared.parts.Part.TheVariants.{Row, Gap, Missing, End}
use Rattle.rc_core.specs.SpotState.{SpotState, over, through}
use Rattle.rc_core.specs.Version.{Spot, On, Behind, gap_ordering, Version, state_at, state_of, entry_answers, finding_in, spot_cmp}
use Rattle.rc_core.specs.Change.{position_of}
use Rattle.rc_core.specs.Chain.{has_flag, content, states_at, IsBare, IsKnown, IsEvenAt}
use Rattle.rc_core.specs.Continuity.{EachOf, IsContinuous}
use Rattle.rc_core.specs.AtPlace.{HasEntryAt}
use Rattle.rc_core.specs.Parts.{IsClear, SomeHasEntryAt, IsReach, IsFirstPart}
use Rattle.rc_core.specs.laws.Folding.{content-through}
use Rattle.rc_core.specs.laws.Spots.{turn_to, spot-before, spot-at, Less-spot}

-- ---- one gap

-- a spot behind x and before `to`
abbrev InGap : Pos → Pos → Spot → Type 0
InGap x to s = (spot_cmp s x ≡ Greater) × (pos_cmp (position_of s) to ≡ Less)

-- what stands behind x stands behind what x does not stand before
further : (s : Spot) (x q : Pos) (r : Ordering) → pos_cmp x q ≡ r → (r ≡ Less → ⊥) → spot_cmp s x ≡ Greater → spot_cmp s q ≡ Greater
further s x q Less e off g = absurd (off refl)
further s x q Equal e off g = subst (λ y. spot_cmp s y ≡ Greater) (pos_cmp_same x q e) g
further s x q Greater e off g = elim (spot_cmp s q) as (λ r. spot_cmp s q ≡ r → r ≡ Greater) [
  | Less ↦ λ h. let u : Less ≡ Greater = sym (spot-before s q x h (turn_to x q Greater e)) ∙ g in absurd (cc)
  | Equal ↦ λ h. let u : Less ≡ Greater = sym (spot-at s q x h (turn_to x q Greater e)) ∙ g in absurd (cc)
  | Greater ↦ λ h. refl
] refl

-- what stands before `to` stands before what does not stand before `to`
sooner : (y to q : Pos) (r : Ordering) → pos_cmp q to ≡ r → (r ≡ Less → ⊥) → pos_cmp y to ≡ Less → pos_cmp y q ≡ Less
sooner y to q Less e off l = absurd (off refl)
sooner y to q Equal e off l = subst (λ z. pos_cmp y z ≡ Less) (sym (pos_cmp_same q to e)) l
sooner y to q Greater e off l = pos_cmp_total.trans y to q l (turn_to q to Greater e)

seen_in_gap : (x to : Pos) (s : Spot) (es : List Entry) → InGap x to s → IsClear x to es → finding_in s es ≡ finding_in (Behind x) es
seen_in_gap x to s [] g c = refl
seen_in_gap x to s (e ∷ es) g c = elim (pos_cmp x e.position) as (λ r. pos_cmp x e.position ≡ r → entry_answers (spot_cmp s e.position) e (finding_in s es) ≡ entry_answers (gap_ordering r) e (finding_in (Behind x) es)) [
  | Less ↦ λ l. ap (λ r. entry_answers r e (finding_in s es)) (Less-spot s e.position (sooner (position_of s) to e.position (pos_cmp e.position to) refl (c.0 l) g.1))
  | Equal ↦ λ l. ap (λ r. entry_answers r e (finding_in s es)) (further s x e.position Equal l (λ h. let u : Equal ≡ Less = h in cc) g.0) ∙ seen_in_gap x to s es g c.1
  | Greater ↦ λ l. ap (λ r. entry_answers r e (finding_in s es)) (further s x e.position Greater l (λ h. let u : Greater ≡ Less = h in cc) g.0) ∙ seen_in_gap x to s es g c.1
] refl

-- over a gap no version holds a row
no_row_behind : (x : Pos) (es : List Entry) → (finding_in (Behind x) es).row ≡ None
no_row_behind x [] = refl
no_row_behind x (e ∷ es) = elim (pos_cmp x e.position) as (λ r. (entry_answers (gap_ordering r) e (finding_in (Behind x) es)).row ≡ None) [ Less ↦ refl | Equal ↦ no_row_behind x es | Greater ↦ no_row_behind x es ]

no_rows_over : (f : Flag) (a b : SpotState) → a.rows ≡ [] → b.rows ≡ [] → (over f a b).rows ≡ []
no_rows_over Known a b e h = h
no_rows_over Unknown a b e h = h
no_rows_over Inherit a b e h = (λ i. e i ++ h i)

no_rows_through : (x : Pos) (versions : List Version) → (through (states_at (Behind x) versions)).rows ≡ []
no_rows_through x [] = refl
no_rows_through x (v ∷ vs) = no_rows_over (through (states_at (Behind x) vs)).flag (state_at (Behind x) v) (through (states_at (Behind x) vs)) (ap row_list (no_row_behind x v.entries)) (no_rows_through x vs)
  where
    row_list : Option rows.Row → List rows.Row
    row_list None = []
    row_list (Some r) = r ∷ []

pub bare_gap : (x : Pos) (versions : List Version) → content (states_at (Behind x) versions) ≡ (empty_row, (content (states_at (Behind x) versions)).1)
bare_gap x versions = λ i. ((ap (λ (a : rows.Row × Option Tomb). a.0) (content-through (states_at (Behind x) versions)) ∙ ap joined_row (no_rows_through x versions) ∙ joined_row-none) i, (content (states_at (Behind x) versions)).1)

states_in_gap : (x to : Pos) (s : Spot) (versions : List Version) → InGap x to s → EachOf (λ v. IsClear x to v.entries) versions → states_at s versions ≡ states_at (Behind x) versions
states_in_gap x to s [] g c = refl
states_in_gap x to s (v ∷ vs) g c = λ i. state_of (seen_in_gap x to s v.entries g c.0 i) ∷ states_in_gap x to s vs g c.1 i

-- ---- a gap is the same at each of its places

abbrev SeenAt : ChainKind → List Version → Option Tomb → Pos → Type 0
SeenAt kind versions tomb y = (content (states_at (On y) versions) ≡ (empty_row, tomb)) × IsKnown kind versions y

module _ (kind : ChainKind) (versions : List Version) (x upto to : Pos) (tomb : Option Tomb) (p : IsFirstPart kind versions x upto (Gap to tomb)) (even : IsEvenAt kind versions x) where
  known : IsKnown kind versions x
  known = p.1

  bare : IsBare versions x
  bare = p.2

  reach : IsReach versions x upto to
  reach = p.3

  tomb_is : (content (states_at (On x) versions)).1 ≡ tomb
  tomb_is = p.4

  here : SeenAt kind versions tomb x
  here = (λ i. (bare.no_row i, tomb_is i), known)

  there : (y : Pos) → IsBefore x y → IsBefore y to → SeenAt kind versions tomb y
  there y l m =
      let on : InGap x to (On y) = (turn_to x y Less l, m) in
      let gap : InGap x to (Behind y) = (ap gap_ordering (turn_to x y Less l), m) in
      let same = states_in_gap x to (On y) versions on reach.clear in
      let same_gap = states_in_gap x to (Behind y) versions gap reach.clear in (
        ap content same ∙ bare_gap x versions ∙ (λ i. (empty_row, (sym (even bare known) ∙ tomb_is) i)),
        record { at = ap (has_flag kind) same ∙ known.gap bare; gap = λ _. ap (has_flag kind) same_gap ∙ known.gap bare },
      )

  pub gap-seen : (y : Pos) → covers x to y ≡ true → SeenAt kind versions tomb y
  gap-seen y c = elim (pos_cmp x y) as (λ r. pos_cmp x y ≡ r → (is_le r && is_lt (pos_cmp y to)) ≡ true → SeenAt kind versions tomb y) [
    | Less ↦ λ e h. there y e (is_before (pos_cmp y to) h)
    | Equal ↦ λ e _. subst (SeenAt kind versions tomb) (pos_cmp_same x y e) here
    | Greater ↦ λ e h. absurd (cc)
  ] refl c
    where
      is_before : (r : Ordering) → is_lt r ≡ true → r ≡ Less
      is_before Less h = refl
      is_before Equal h = absurd (cc)
      is_before Greater h = absurd (cc)

pub gap-is-source : (writes : List Mutation) (versions : List Version) (x upto to : Pos) (tomb : Option Tomb) → IsContinuous None writes versions → IsFirstPart Cache versions x upto (Gap to tomb) →
    (y : Pos) → covers x to y ≡ true → source_at writes y ≡ (empty_row, tomb)
gap-is-source writes versions x upto to tomb k p y c = let s = gap-seen Cache versions x upto to tomb p (k.even x tt) y c in sym (k.clustered y tt s.1.at) ∙ s.0

pub row-is-source : (writes : List Mutation) (versions : List Version) (x upto : Pos) (key : _) (row : rows.Row) (tomb : Option Tomb) → IsContinuous None writes versions → IsFirstPart Cache versions x upto (Row key row tomb) →
    source_at writes x ≡ (row, tomb)
row-is-source writes versions x upto key row tomb k p = sym (k.clustered x tt p.1.at) ∙ p.4

-- ---- there is one first part

before_or : (x y : Pos) → (pos_cmp x y ≡ Less) ⊎ ((x ≡ y) ⊎ (pos_cmp y x ≡ Less))
before_or x y = elim (pos_cmp x y) as (λ r. pos_cmp x y ≡ r → (pos_cmp x y ≡ Less) ⊎ ((x ≡ y) ⊎ (pos_cmp y x ≡ Less))) [
  | Less ↦ λ e. inl e
  | Equal ↦ λ e. inr (inl (pos_cmp_same x y e))
  | Greater ↦ λ e. inr (inr (turn_to x y Greater e))
] refl

pub never : (x : Pos) → pos_cmp x x ≡ Less → ⊥
never x l = let u : Equal ≡ Less = sym (tied_itself pos_cmp_total x) ∙ l in cc

entry_not_clear : (x from to : Pos) (es : List Entry) → HasEntryAt x es → IsClear from to es → IsBefore from x → IsBefore x to → ⊥
entry_not_clear x from to [] h c l m = absurd h
entry_not_clear x from to (e ∷ es) h c l m = ⊎_elim (λ d. c.0 (subst (IsBefore from) (sym d) l) (subst (λ y. IsBefore y to) (sym d) m)) (λ r. entry_not_clear x from to es r c.1 l m) h

some_not_clear : (x from to : Pos) (versions : List Version) → SomeHasEntryAt x versions → EachOf (λ v. IsClear from to v.entries) versions → IsBefore from x → IsBefore x to → ⊥
some_not_clear x from to [] h c l m = absurd h
some_not_clear x from to (v ∷ vs) h c l m = ⊎_elim (λ d. entry_not_clear x from to v.entries d c.0 l m) (λ r. some_not_clear x from to vs r c.1 l m) h

-- a gap that ends sooner than another one has no reason to
not_sooner : (versions : List Version) (x upto a b : Pos) → IsReach versions x upto a → IsReach versions x upto b → pos_cmp a b ≡ Less → ⊥
not_sooner versions x upto a b r s l = ⊎_elim
    (λ e. ⊎_elim (λ d. never a (subst (λ y. pos_cmp a y ≡ Less) (d ∙ sym e) l)) (λ m. never a (pos_cmp_total.trans a b a l (subst (IsBefore b) (sym e) m))) s.within)
    (λ h. some_not_clear a x b versions h s.clear r.ahead l)
    r.stops

pub one-reach : (versions : List Version) (x upto a b : Pos) → IsReach versions x upto a → IsReach versions x upto b → a ≡ b
one-reach versions x upto a b r s = ⊎_elim
    (λ l. absurd (not_sooner versions x upto a b r s l))
    (λ h. ⊎_elim (λ e. e) (λ l. absurd (not_sooner versions x upto b a s r l)) h)
    (before_or a b)

not_at_bound : (x upto : Pos) → IsBefore x upto → x ≡ upto → ⊥
not_at_bound x upto l e = never x (subst (IsBefore x) (sym e) l)

pub one-part : (kind : ChainKind) (versions : List Version) (x upto : Pos) (p q : Part) → IsFirstPart kind versions x upto p → IsFirstPart kind versions x upto q → p ≡ q
one-part kind versions x upto (Row k r t) (Row l s u) a b = λ i. Row ((a.3 ∙ sym b.3) i) ((ap (λ (c : rows.Row × Option Tomb). c.0) (sym a.4 ∙ b.4)) i) ((ap (λ (c : rows.Row × Option Tomb). c.1) (sym a.4 ∙ b.4)) i)
one-part kind versions x upto (Row k r t) (Gap to u) a b = absurd (a.2 b.2)
one-part kind versions x upto (Row k r t) (Missing to) a b = absurd (b.1 a.1)
one-part kind versions x upto (Row k r t) End a b = absurd (not_at_bound x upto a.0 b)
one-part kind versions x upto (Gap to t) (Row l s u) a b = absurd (b.2 a.2)
one-part kind versions x upto (Gap to t) (Gap too u) a b = λ i. Gap (one-reach versions x upto to too a.3 b.3 i) ((sym a.4 ∙ b.4) i)
one-part kind versions x upto (Gap to t) (Missing too) a b = absurd (b.1 a.1)
one-part kind versions x upto (Gap to t) End a b = absurd (not_at_bound x upto a.0 b)
one-part kind versions x upto (Missing to) (Row l s u) a b = absurd (a.1 b.1)
one-part kind versions x upto (Missing to) (Gap too u) a b = absurd (a.1 b.1)
one-part kind versions x upto (Missing to) (Missing too) a b = ap Missing (one-reach versions x upto to too a.2 b.2)
one-part kind versions x upto (Missing to) End a b = absurd (not_at_bound x upto a.0 b)
one-part kind versions x upto End (Row l s u) a b = absurd (not_at_bound x upto b.0 a)
one-part kind versions x upto End (Gap too u) a b = absurd (not_at_bound x upto b.0 a)
one-part kind versions x upto End (Missing too) a b = absurd (not_at_bound x upto b.0 a)
one-part kind versions x upto End End a b = refl
