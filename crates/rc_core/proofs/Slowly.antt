-- What the slow functions compute.
use Rattle.std.specs.Prelude.{◌≡◌, ◌≤◌, ◌+◌, ◌<◌, ℕ, Bool, true, false, IsTrue, List, [], ◌∷◌, ◌++◌, Option, Some, None, length, take, drop, ◌-◌, map as list_map}
use Rattle.std.proofs.Common.{get_or, append-nil, refl, sym, ap, ◌∙◌, subst, arith}
use Rattle.std.proofs.lemmas.List.{append_assoc, take_rest}
use Rattle.std.specs.Option.{option_to_list}
use Rattle.rc_cell.specs.declared.rows.Row.{Row}
use Rattle.rc_cell.specs.declared.writes.Tomb.{Tomb}
use Rattle.rc_cell.specs.Orders.{tomb_cmp, tomb_cmp_total}
use Rattle.rc_cell.specs.laws.Beats.{tomb_cmp-IsAntisymmetric}
use Rattle.rc_cell.specs.Greatest.{greater}
use Rattle.rc_cell.specs.laws.Greatest.{greatest-two}
use Rattle.rc_cell.specs.Winner.{greatest, joined_row, empty_row}
use Rattle.rc_position.specs.declared.comps.Comp.{Comp}
use Rattle.rc_position.specs.declared.positions.Pos.{Pos}
use Rattle.rc_position.specs.declared.positions.Weight.{Weight}
use Rattle.rc_position.specs.declared.positions.Weight.TheVariants.{Before, At, After}
use Rattle.rc_position.specs.Position.{pos_cmp, prefix_cmp, IsBefore}
use Rattle.std.specs.declared.cmp.Ordering.TheVariants.{Less, Equal}
use Rattle.rc_core.specs.declared.entries.Flag.{Flag}
use Rattle.rc_core.specs.declared.entries.Flag.TheVariants.{Known, Unknown, Inherit}
use Rattle.rc_core.specs.SpotState.{SpotState, spot_state, silent, over, under, through, joined_state}
use Rattle.rc_core.specs.Chain.{decides, states_at, content, has_flag, flag_over, IsBare, IsKnown}
use Rattle.rc_core.specs.Merge.{Alike}
use Rattle.rc_core.specs.Version.{Spot, On, Behind, Version, state_of, entry_answers, finding_of, finding_in, spot_cmp, end_position}
use Rattle.rc_core.specs.declared.entries.Entry.{Entry}
use Rattle.rc_core.specs.declared.entries.ChainKind.{ChainKind}
use Rattle.rc_core.specs.declared.slow.PlainVersion.{PlainVersion}
use Rattle.rc_core.specs.declared.slow.Seen.{Seen}
use Rattle.rc_core.specs.Slow.{plain, seen_state}
use Rattle.rc_core.specs.laws.Folding.{flagged-through, content-through, under-below, under-grouping}
use Rattle.rc_core.specs.laws.Losing.{joined-again, tomb-alone}
use Rattle.rc_core.specs.laws.Merging.{rows_by_parts, tombs_by_parts, cons_is, alike-above}
use Rattle.rc_core.specs.Continuity.{version_tombs}
use Rattle.rc_core.specs.laws.Filling.{no_rows}

alike_trans : (a b c : SpotState) → Alike a b → Alike b c → Alike a c
alike_trans a b c h k = (h.0 ∙ k.0, h.1 ∙ k.1)

row_said : (c d : SpotState) (rows : List Row) → joined_state c ≡ joined_state d → joined_state (spot_state c.flag (c.rows ++ rows) c.tombs) ≡ joined_state (spot_state d.flag (d.rows ++ rows) d.tombs)
row_said c d rows e = λ i. (rows_by_parts c.rows rows d.rows rows (ap (λ (a : Row × Option Tomb). a.0) e) refl i, ap (λ (a : Row × Option Tomb). a.1) e i)

-- ---- a mark laid over

pub marked_inherit : (f : Flag) (r : Row) (t m u : Option Tomb) (g : Flag) → decides g ≡ false → u ≡ greater tomb_cmp t m →
    Alike (spot_state f (r ∷ []) (option_to_list u)) (over g (spot_state f (r ∷ []) (option_to_list t)) (spot_state g [] (option_to_list m)))
marked_inherit f r t m u Known e h = absurd (cc)
marked_inherit f r t m u Unknown e h = absurd (cc)
marked_inherit f r t m u Inherit e h = (refl, λ i. (joined_row (r ∷ []), (tomb-alone u ∙ h ∙ sym (greatest-two tomb_cmp_total tomb_cmp-IsAntisymmetric t m)) i))

pub marked_decides : (below : SpotState) (r : Row) (m : Option Tomb) (g : Flag) → decides g ≡ true → r ≡ empty_row → Alike (spot_state g (r ∷ []) (option_to_list m)) (over g below (spot_state g [] (option_to_list m)))
marked_decides below r m Known e h = (refl, λ i. ((ap (λ q. joined_row (q ∷ [])) h ∙ no_rows []) i, greatest tomb_cmp (option_to_list m)))
marked_decides below r m Unknown e h = (refl, λ i. ((ap (λ q. joined_row (q ∷ [])) h ∙ no_rows []) i, greatest tomb_cmp (option_to_list m)))
marked_decides below r m Inherit e h = absurd (cc)

pub joined_with : (old other new : Row) → new ≡ joined_row (old ∷ other ∷ []) → joined_row (new ∷ []) ≡ joined_row (old ∷ other ∷ [])
joined_with old other new e = ap (λ r. joined_row (r ∷ [])) e ∙ joined-again (old ∷ other ∷ [])

pub joined_to_none : (none other new : Row) → none ≡ empty_row → new ≡ joined_row (none ∷ other ∷ []) → new ≡ joined_row (other ∷ [])
joined_to_none none other new e h = h ∙ ap (λ r. joined_row (r ∷ other ∷ [])) e ∙ no_rows (other ∷ [])

-- ---- the end of the partition

at_end_by : (p : List Comp) (w : Weight) → p ≡ [] → w ≡ After → prefix_cmp p w [] After ≡ Less → ⊥
at_end_by [] Before e f l = cc
at_end_by [] At e f l = cc
at_end_by [] After e f l = cc
at_end_by (c ∷ cs) w e f l = cc

by_weight : (p : List Comp) (w : Weight) → (w ≡ After → ⊥) → prefix_cmp p w [] After ≡ Less
by_weight [] Before f = refl
by_weight [] At f = refl
by_weight [] After f = absurd (f refl)
by_weight (c ∷ cs) w f = refl

by_prefix : (p : List Comp) (w : Weight) → 1 ≤ length p → prefix_cmp p w [] After ≡ Less
by_prefix [] w l = absurd (omega (arith, l))
by_prefix (c ∷ cs) w l = refl

pub at_the_end : (x : Pos) → length x.prefix < 1 → x.weight ≡ After → IsBefore x end_position → ⊥
unfolding pos_cmp
at_the_end x e f l = at_end_by x.prefix x.weight (none x.prefix e) f l
  where
    none : (p : List Comp) → length p < 1 → p ≡ []
    none [] h = refl
    none (c ∷ cs) h = absurd (omega (arith, h))

pub before_by_weight : (x : Pos) → (x.weight ≡ After → ⊥) → IsBefore x end_position
unfolding pos_cmp
before_by_weight x f = by_weight x.prefix x.weight f

pub before_by_prefix : (x : Pos) → 1 ≤ length x.prefix → IsBefore x end_position
unfolding pos_cmp
before_by_prefix x l = by_prefix x.prefix x.weight l

-- ---- the base

-- what was found so far, or a newer one, counted from a number on
abbrev pub or_newer : ℕ → Option ℕ → Option ℕ → Option ℕ
or_newer n found (Some k) = Some (n + k)
or_newer n found None = found

-- ---- a version laid over what is seen

-- a row at the place, under a mark
pub row_over : (below marked joined : SpotState) (f : Flag) (rows : List Row) (tombs : List Tomb) → Alike marked (over f below (spot_state f [] tombs)) → Alike joined (spot_state marked.flag (marked.rows ++ rows) marked.tombs) →
    Alike joined (over f below (spot_state f rows tombs))
row_over below marked joined Known rows tombs a b = (b.0 ∙ a.0, b.1 ∙ row_said marked (spot_state Known [] tombs) rows a.1)
row_over below marked joined Unknown rows tombs a b = (b.0 ∙ a.0, b.1 ∙ row_said marked (spot_state Unknown [] tombs) rows a.1)
row_over below marked joined Inherit rows tombs a b = (b.0 ∙ a.0, b.1 ∙ row_said marked (spot_state below.flag (below.rows ++ []) (below.tombs ++ tombs)) rows a.1 ∙ (λ i. (joined_row (append-nil below.rows i ++ rows), greatest tomb_cmp (below.tombs ++ tombs))))

-- the entry at the place answers
pub over_here : (below joined : SpotState) (s : Spot) (left all : List Entry) (first : Entry) → 1 ≤ length left → first ≡ get_or left 0 first → spot_cmp s first.position ≡ Equal → finding_in s left ≡ finding_in s all →
    Alike joined (under below (state_of (finding_of first.at first.row))) → Alike joined (under below (state_of (finding_in s all)))
over_here below joined s [] all first l e c h a = absurd (omega (arith, l))
over_here below joined s (x ∷ xs) all first l e c h a =
    subst (λ f. Alike joined (under below (state_of f))) (sym (ap (λ r. entry_answers r x (finding_in s xs)) (sym (ap (λ (y : Entry). spot_cmp s y.position) e) ∙ c) ∙ ap (λ (y : Entry). finding_of y.at y.row) (sym e)) ∙ h) a

pub laid_next : (seen next : SpotState) (f : Version → SpotState) (left : List PlainVersion) (first : PlainVersion) (all : SpotState) → 1 ≤ length left → first ≡ get_or left 0 first → Alike next (under seen (f (plain first))) →
    Alike (under seen (through (list_map f (list_map plain left)))) all → Alike (under next (through (list_map f (list_map plain (take (length left - 1) (drop 1 left)))))) all
laid_next seen next f [] first all l e a h = absurd (omega (arith, l))
laid_next seen next f (v ∷ vs) first all l e a h =
    subst (λ us. Alike (under next (through (list_map f (list_map plain us)))) all) (sym (take_rest (v ∷ vs) 1))
    (alike_trans (under next (through (list_map f (list_map plain vs)))) (under (under seen (f (plain first))) (through (list_map f (list_map plain vs)))) all (alike-above next (under seen (f (plain first))) (through (list_map f (list_map plain vs))) a)
    (subst (λ c. Alike c all) (sym (under-grouping seen (f (plain first)) (through (list_map f (list_map plain vs))) ∙ ap (λ u. under seen (under (f (plain u)) (through (list_map f (list_map plain vs))))) e)) h))

-- the greatest partition tombstone so far, with those of what is left
pub head_next : (now next : Option Tomb) (left : List PlainVersion) (first : PlainVersion) (all : Option Tomb) → 1 ≤ length left → first ≡ get_or left 0 first → next ≡ greater tomb_cmp now first.pt →
    greatest tomb_cmp (option_to_list now ++ version_tombs (list_map plain left)) ≡ all → greatest tomb_cmp (option_to_list next ++ version_tombs (list_map plain (take (length left - 1) (drop 1 left)))) ≡ all
head_next now next [] first all l e n h = absurd (omega (arith, l))
head_next now next (v ∷ vs) first all l e n h =
    ap (λ us. greatest tomb_cmp (option_to_list next ++ version_tombs (list_map plain us))) (take_rest (v ∷ vs) 1)
    ∙ tombs_by_parts (option_to_list next) (version_tombs (list_map plain vs)) (option_to_list now ++ option_to_list v.pt) (version_tombs (list_map plain vs))
    (tomb-alone next ∙ n ∙ ap (λ (u : PlainVersion). greater tomb_cmp now u.pt) e ∙ sym (greatest-two tomb_cmp_total tomb_cmp-IsAntisymmetric now v.pt)) refl
    ∙ ap (greatest tomb_cmp) (append_assoc (option_to_list now) (option_to_list v.pt) (version_tombs (list_map plain vs)))
    ∙ ap (λ ts. greatest tomb_cmp (option_to_list now ++ ts)) (sym (cons_is v.pt (version_tombs (list_map plain vs))))
    ∙ h

pub head_last : (now : Option Tomb) (left : List PlainVersion) (all : Option Tomb) → length left < 1 → greatest tomb_cmp (option_to_list now ++ version_tombs (list_map plain left)) ≡ all → now ≡ all
head_last now [] all l h = sym (tomb-alone now) ∙ ap (greatest tomb_cmp) (sym (append-nil (option_to_list now))) ∙ h
head_last now (v ∷ vs) all l h = absurd (omega (arith, l))

-- nothing yet, under all
pub laid_first : (seen all : SpotState) → Alike seen silent → Alike (under seen all) all
laid_first seen all h = alike_trans (under seen all) (under silent all) all (alike-above seen silent all h) (subst (λ c. Alike c all) (sym (under-below all)) (refl, refl))

pub nothing : (r : Row) → r ≡ empty_row → Alike (spot_state Inherit (r ∷ []) []) silent
nothing r e = (refl, λ i. ((ap (λ q. joined_row (q ∷ [])) e ∙ no_rows []) i, greatest tomb_cmp []))

pub content_of : (seen : Seen) (row : Row) (tomb : Option Tomb) (cs : List SpotState) → Alike (seen_state seen) (through cs) → row ≡ joined_row (seen.row ∷ []) → tomb ≡ seen.tomb → ◌≡◌ {A = Row × Option Tomb} (row, tomb) (content cs)
content_of seen row tomb cs a e f = (λ i. (e i, (f ∙ sym (tomb-alone seen.tomb)) i)) ∙ a.1 ∙ sym (content-through cs)

-- ---- what is known

pub is_flagged : (kind : ChainKind) (cs : List SpotState) (f : Flag) (b : Bool) → b ≡ flag_over kind f → f ≡ (through cs).flag → b ≡ has_flag kind cs
is_flagged kind cs f b e h = e ∙ ap (flag_over kind) h ∙ sym (flagged-through kind cs)

pub not_known : (kind : ChainKind) (versions : List Version) (x : Pos) (b : Bool) → b ≡ has_flag kind (states_at (On x) versions) → b ≡ false → (IsTrue false → IsKnown kind versions x) × (IsKnown kind versions x → IsTrue false)
not_known kind versions x b e h = (λ u. absurd (cc), λ k. sym h ∙ e ∙ k.at)

pub known_with_row : (kind : ChainKind) (versions : List Version) (x : Pos) (b : Bool) → b ≡ has_flag kind (states_at (On x) versions) → b ≡ true → (IsBare versions x → ⊥) → (IsTrue true → IsKnown kind versions x) × (IsKnown kind versions x → IsTrue true)
known_with_row kind versions x b e h off = (λ _. record { at = sym e ∙ h; gap = λ bare. absurd (off bare) }, λ _. refl)

pub known_with_gap : (kind : ChainKind) (versions : List Version) (x : Pos) (b g : Bool) → b ≡ has_flag kind (states_at (On x) versions) → b ≡ true → IsBare versions x → g ≡ has_flag kind (states_at (Behind x) versions) → (IsTrue g → IsKnown kind versions x) × (IsKnown kind versions x → IsTrue g)
known_with_gap kind versions x b g e h bare d = (λ t. record { at = sym e ∙ h; gap = λ _. sym d ∙ t }, λ k. d ∙ k.gap bare)

-- a row is seen, where what is seen is not empty
pub not_bare : (versions : List Version) (x : Pos) (row : Row) (tomb : Option Tomb) (b : Bool) → ◌≡◌ {A = Row × Option Tomb} (row, tomb) (content (states_at (On x) versions)) → (row ≡ empty_row → IsTrue b) → b ≡ false → IsBare versions x → ⊥
not_bare versions x row tomb b e is h bare = let u : false ≡ true = sym h ∙ is (ap (λ (a : Row × Option Tomb). a.0) e ∙ bare.no_row) in cc

pub bare_there : (versions : List Version) (x : Pos) (row : Row) (tomb : Option Tomb) → ◌≡◌ {A = Row × Option Tomb} (row, tomb) (content (states_at (On x) versions)) → row ≡ empty_row → IsBefore x end_position → IsBare versions x
bare_there versions x row tomb e h l = record { inside = l; no_row = ap (λ (a : Row × Option Tomb). a.0) (sym e) ∙ h }

pub beyond_end : (versions : List Version) (x : Pos) (b : Bool) → (IsBefore x end_position → IsTrue b) → b ≡ false → IsBare versions x → ⊥
beyond_end versions x b is h bare = let u : false ≡ true = sym h ∙ is bare.inside in cc
