-- A gap that says nothing changes nothing.
use Rattle.std.specs.Prelude.{◌≡◌, Option, None, Some}
use Rattle.std.proofs.Common.{refl, ap, ◌∙◌}
use Rattle.std.specs.declared.cmp.Ordering.{Ordering}
use Rattle.std.specs.declared.cmp.Ordering.TheVariants.{Less, Equal, Greater}
use Rattle.rc_cell.specs.declared.rows.Row.{Row}
use Rattle.rc_cell.specs.declared.writes.Tomb.{Tomb}
use Rattle.rc_position.specs.Position.{pos_cmp, IsBefore}
use Rattle.rc_position.specs.laws.Orders.{pos_cmp_total}
use Rattle.rc_core.specs.declared.entries.Entry.{Entry}
use Rattle.rc_core.specs.declared.entries.Flag.{Flag}
use Rattle.rc_core.specs.declared.entries.Flag.TheVariants.{Known, Unknown, Inherit}
use Rattle.rc_core.specs.declared.entries.Mark.{Mark}
use Rattle.rc_core.specs.Change.{mark}
use Rattle.rc_core.specs.Plain.{found_under, mark_by, mark_under, no_mark, row_under}
use Rattle.rc_core.specs.Version.{Finding, finding_of}
use Rattle.rc_core.specs.laws.Spots.{turn_to}
use Rattle.rc_units.specs.Clean.{entry_onto, gap_onto_by, onto_by, onto_at, onto_gap}

mark_by_nothing : (f : Flag) (t : Option Tomb) → mark_by f no_mark (mark f t) ≡ mark f t
mark_by_nothing Known t = refl
mark_by_nothing Unknown t = refl
mark_by_nothing Inherit t = refl

mark-nothing : (m : Mark) → mark_under no_mark m ≡ m
mark-nothing m = mark_by_nothing m.flag m.tomb

row_nothing : (f : Flag) (r : Option Row) → row_under f None r ≡ r
row_nothing Known r = refl
row_nothing Unknown r = refl
row_nothing Inherit None = refl
row_nothing Inherit (Some r) = refl

pub nothing-under : (newer : Finding) → found_under (finding_of no_mark None) newer ≡ newer
nothing-under a = λ i. finding_of (mark-nothing a.mark i) (row_nothing a.mark.flag a.row i)

both_nothing : (m : Mark) (y : Entry) → m ≡ no_mark → onto_at m None (onto_gap m y) ≡ y
both_nothing m y e =
    ap (λ g. onto_at g None (onto_gap g y)) e
    ∙ (λ i. record { position = y.position; row = row_nothing y.at.flag y.row i; at = mark-nothing y.at i; gap = mark-nothing y.gap i })

gap_nothing : (m : Mark) (y : Entry) → m ≡ no_mark → onto_gap m y ≡ y
gap_nothing m y e = ap (λ g. onto_gap g y) e ∙ (λ i. record { position = y.position; row = y.row; at = y.at; gap = mark-nothing y.gap i })

pub nothing-before : (e n y : Entry) → e.gap ≡ no_mark → pos_cmp y.position e.position ≡ Less → entry_onto e n y ≡ y
nothing-before e n y g l = ap (λ r. onto_by r e y (gap_onto_by (pos_cmp y.position n.position) n y)) l ∙ both_nothing e.gap y g

by_nothing : (r : Ordering) (n y : Entry) → n.gap ≡ no_mark → gap_onto_by r n y ≡ y
by_nothing Less n y g = both_nothing n.gap y g
by_nothing Equal n y g = gap_nothing n.gap y g
by_nothing Greater n y g = refl

pub nothing-between : (e n y : Entry) → n.gap ≡ no_mark → pos_cmp y.position e.position ≡ Greater → entry_onto e n y ≡ y
nothing-between e n y g l = ap (λ r. onto_by r e y (gap_onto_by (pos_cmp y.position n.position) n y)) l ∙ by_nothing (pos_cmp y.position n.position) n y g

pub nothing-behind : (e n y : Entry) → IsBefore e.position n.position → pos_cmp y.position n.position ≡ Greater → entry_onto e n y ≡ y
nothing-behind e n y l g =
    ap (λ r. onto_by r e y (gap_onto_by (pos_cmp y.position n.position) n y))
    (turn_to e.position y.position Less (pos_cmp_total.trans e.position n.position y.position l (turn_to y.position n.position Greater g)))
    ∙ ap (λ r. gap_onto_by r n y) g
