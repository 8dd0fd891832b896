-- What is put under a newer version's state is seen as the fold of states has it.
use Rattle.std.specs.Prelude.{◌≡◌, [], ◌∷◌, ◌++◌, Option, Some, None}
use Rattle.std.proofs.Common.{refl, sym, ap, ◌∙◌}
use Rattle.std.specs.Option.{option_to_list}
use Rattle.rc_cell.specs.declared.rows.Row.{Row}
use Rattle.rc_cell.specs.declared.writes.Tomb.{Tomb}
use Rattle.rc_cell.specs.Orders.{tomb_cmp, tomb_cmp_total}
use Rattle.rc_cell.specs.laws.Beats.{tomb_cmp-IsAntisymmetric}
use Rattle.rc_cell.specs.Greatest.{greater}
use Rattle.rc_cell.specs.laws.Greatest.{greatest-two}
use Rattle.rc_cell.specs.Winner.{greatest, joined_row}
use Rattle.rc_ranges.specs.laws.Greater.{greatest-both, greater-assoc, greater-same}
use Rattle.rc_core.specs.declared.entries.Flag.{Flag}
use Rattle.rc_core.specs.declared.entries.Flag.TheVariants.{Known, Unknown, Inherit}
use Rattle.rc_core.specs.declared.entries.Mark.{Mark}
use Rattle.rc_core.specs.SpotState.{spot_state, over, under}
use Rattle.rc_core.specs.Version.{Finding, finding_of, state_of}
use Rattle.rc_core.specs.Change.{mark}
use Rattle.rc_core.specs.Continuity.{joined_options}
use Rattle.rc_core.specs.Merge.{Alike}
use Rattle.rc_core.specs.laws.Losing.{joined-again, tomb-alone}
use Rattle.rc_core.specs.Plain.{mark_by, row_under, found_under, flag_under}

-- the greater of two tombstones says what both say
pub greater_says : (s t : Option Tomb) → greatest tomb_cmp (option_to_list (greater tomb_cmp s t)) ≡ greatest tomb_cmp (option_to_list s ++ option_to_list t)
greater_says s t = tomb-alone (greater tomb_cmp s t) ∙ sym (greatest-two tomb_cmp_total tomb_cmp-IsAntisymmetric s t)

-- rows as one say what both say
pub joined_says : (r q : Option Row) → joined_row (option_to_list (joined_options r q)) ≡ joined_row (option_to_list r ++ option_to_list q)
joined_says None None = refl
joined_says (Some r) None = refl
joined_says None (Some q) = refl
joined_says (Some r) (Some q) = joined-again (r ∷ q ∷ [])

under_by : (f : Flag) (m : Mark) (r : Option Row) (t : Option Tomb) (q : Option Row) →
    Alike (state_of (finding_of (mark_by f m (mark f t)) (row_under f r q))) (over f (state_of (finding_of m r)) (spot_state f (option_to_list q) (option_to_list t)))
under_by Known m r t q = (refl, refl)
under_by Unknown m r t q = (refl, refl)
under_by Inherit m r t q = (refl, λ i. (joined_says r q i, greater_says m.tomb t i))

pub found-alike : (a b : Finding) → Alike (state_of (found_under a b)) (under (state_of a) (state_of b))
found-alike a b = under_by b.mark.flag a.mark a.row b.mark.tomb b.row

statics_by : (f g : Flag) (r q : Option Row) → Alike (spot_state (flag_under f g) (option_to_list (row_under g r q)) []) (over g (spot_state f (option_to_list r) []) (spot_state g (option_to_list q) []))
statics_by f Known r q = (refl, refl)
statics_by f Unknown r q = (refl, refl)
statics_by f Inherit r q = (refl, λ i. (joined_says r q i, greatest tomb_cmp []))

pub statics-alike : (f g : Flag) (r q : Option Row) → Alike (spot_state (flag_under f g) (option_to_list (row_under g r q)) []) (under (spot_state f (option_to_list r) []) (spot_state g (option_to_list q) []))
statics-alike f g r q = statics_by f g r q

-- no row under no row is none
pub none-under : (f : Flag) → row_under f None None ≡ None
none-under Known = refl
none-under Unknown = refl
none-under Inherit = refl

-- a partition tombstone says nothing more beside one that it was joined into
pub pt_again : (s t : Option Tomb) → greatest tomb_cmp (option_to_list s ++ option_to_list (greater tomb_cmp s t)) ≡ greatest tomb_cmp (option_to_list s ++ option_to_list t)
pt_again s t = greatest-both (option_to_list s) (option_to_list (greater tomb_cmp s t)) ∙ (λ i. greater tomb_cmp (tomb-alone s i) (tomb-alone (greater tomb_cmp s t) i))
    ∙ sym (greater-assoc s s t) ∙ ap (λ u. greater tomb_cmp u t) (greater-same s) ∙ sym (greatest-two tomb_cmp_total tomb_cmp-IsAntisymmetric s t)

-- and then nothing more than it
pub pt_known : (s t : Option Tomb) → greatest tomb_cmp (option_to_list s ++ option_to_list (greater tomb_cmp s t)) ≡ greatest tomb_cmp (option_to_list (greater tomb_cmp s t))
pt_known s t = pt_again s t ∙ greatest-two tomb_cmp_total tomb_cmp-IsAntisymmetric s t ∙ sym (tomb-alone (greater tomb_cmp s t))
