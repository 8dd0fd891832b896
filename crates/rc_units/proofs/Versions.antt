-- What the cleaner leaves are versions: entries in order, with the end dummy last.
use Rattle.std.specs.Prelude.{◌≡◌, true, false, List, [], ◌∷◌, Option, None, map as list_map}
use Rattle.std.proofs.Common.{refl, sym, ap, ◌∙◌, subst}
use Rattle.std.specs.declared.cmp.Ordering.{Ordering}
use Rattle.std.specs.declared.cmp.Ordering.TheVariants.{Less, Equal, Greater}
use Rattle.std.specs.Ordering.{is_gt}
use Rattle.rc_cell.specs.declared.rows.Row.{Row}
use Rattle.rc_position.specs.Position.{pos_cmp, IsBefore}
use Rattle.rc_position.specs.laws.Orders.{pos_cmp_same}
use Rattle.rc_position.specs.laws.Bounds.{last_pos-greatest}
use Rattle.rc_core.specs.declared.entries.Entry.{Entry}
use Rattle.rc_core.specs.declared.entries.Flag.{Flag}
use Rattle.rc_core.specs.Version.{Ascend, EndsWithDummy, Version, IsVersion, end_position}
use Rattle.rc_core.specs.Change.{gap_split, lose_first_gap}
use Rattle.rc_core.specs.Continuity.{with_entries}
use Rattle.rc_core.specs.laws.Order.{ascend-map, split-ascends, split-ends}
use Rattle.rc_core.specs.laws.Spots.{turn_to}
use Rattle.rc_units.specs.Clean.{onto_by, gap_onto_by, entry_onto, end_onto, merge_entry, end_merged, gap_said}
use Rattle.rc_core.specs.Plain.{row_under}
use Rattle.rc_units.proofs.Under.{none-under}
use Rattle.rc_units.proofs.Cleaning.{entry_onto-keeps, end_onto-keeps}

-- ---- a function on each entry

module _ (f : Entry → Entry) (keeps : (y : Entry) → (f y).position ≡ y.position) where
  pub map-ends : ((y : Entry) → y.position ≡ end_position → y.row ≡ None → (f y).row ≡ None) → (es : List Entry) → EndsWithDummy es → EndsWithDummy (list_map f es)
  map-ends last [] d = d
  map-ends last (e ∷ []) d = (keeps e ∙ d.0, last e d.0 d.1)
  map-ends last (e ∷ g ∷ es) d = map-ends last (g ∷ es) d

-- ---- what the cleaner leaves

no_row_under : (f : Flag) (row : Option Row) → row ≡ None → row_under f None row ≡ None
no_row_under f row h = ap (row_under f None) h ∙ none-under f

no_row_of : (r : Ordering) (n y : Entry) → y.row ≡ None → (gap_onto_by r n y).row ≡ None
no_row_of Less n y h = no_row_under y.at.flag y.row h
no_row_of Equal n y h = h
no_row_of Greater n y h = h

module _ (e n : Entry) (lt : IsBefore e.position n.position) where
  entry_last : (r : Ordering) (y : Entry) → pos_cmp y.position e.position ≡ r → y.position ≡ end_position → y.row ≡ None → (onto_by r e y (gap_onto_by (pos_cmp y.position n.position) n y)).row ≡ None
  entry_last Less y h at_end none = no_row_under y.at.flag y.row none
  entry_last Equal y h at_end none =
      let u : true ≡ false = sym (ap is_gt (turn_to e.position n.position Less lt)) ∙ ap (λ q. is_gt (pos_cmp n.position q)) (sym (pos_cmp_same y.position e.position h) ∙ at_end) ∙ last_pos-greatest n.position in absurd (cc)
  entry_last Greater y h at_end none = no_row_of (pos_cmp y.position n.position) n y none

  merge_entry-ascends : (w : List Entry) → Ascend w → Ascend (merge_entry e n w)
  merge_entry-ascends w a = ascend-map (entry_onto e n) (entry_onto-keeps e n) (gap_split n.position (gap_split e.position w)) (split-ascends n.position (gap_split e.position w) (split-ascends e.position w a))

  merge_entry-ends : (w : List Entry) → EndsWithDummy w → EndsWithDummy (merge_entry e n w)
  merge_entry-ends w d = map-ends (entry_onto e n) (entry_onto-keeps e n) (λ y at none. entry_last (pos_cmp y.position e.position) y refl at none) (gap_split n.position (gap_split e.position w)) (split-ends n.position (gap_split e.position w) (split-ends e.position w d))

  pub merge_entry-version : (w : Version) → IsVersion w → IsVersion (with_entries (merge_entry e n w.entries) w)
  merge_entry-version w i = record { ascend = merge_entry-ascends w.entries i.ascend; ends = merge_entry-ends w.entries i.ends }

end_last : (r : Ordering) (e y : Entry) → e.row ≡ None → y.row ≡ None → (onto_by r e y y).row ≡ None
end_last Less e y none h = no_row_under y.at.flag y.row h
end_last Equal e y none h = ap (λ q. row_under y.at.flag q y.row) none ∙ no_row_under y.at.flag y.row h
end_last Greater e y none h = h

pub end_merged-version : (e : Entry) (v w : Version) → e.row ≡ None → IsVersion w → IsVersion (end_merged e v w)
end_merged-version e v w none i = record {
  ascend = ascend-map (end_onto e) (end_onto-keeps e) w.entries i.ascend;
  ends = map-ends (end_onto e) (end_onto-keeps e) (λ y _ h. end_last (pos_cmp y.position e.position) e y none h) w.entries i.ends;
}

said_ends : (n : Entry) (back : List Entry) → EndsWithDummy (n ∷ back) → EndsWithDummy (gap_said n ∷ back)
said_ends n [] d = d
said_ends n (b ∷ back) d = d

said_ascends : (n : Entry) (back : List Entry) → Ascend (n ∷ back) → Ascend (gap_said n ∷ back)
said_ascends n [] a = tt
said_ascends n (b ∷ back) a = a

-- the older version without its first entry
pub gap_said-version : (v : Version) (e n : Entry) (back : List Entry) → v.entries ≡ e ∷ n ∷ back → IsVersion v → IsVersion (with_entries (gap_said n ∷ back) v)
gap_said-version v e n back h i = record { ascend = said_ascends n back (subst Ascend h i.ascend).1; ends = said_ends n back (subst EndsWithDummy h i.ends) }

lost_ends : (n : Entry) (back : List Entry) → EndsWithDummy (n ∷ back) → EndsWithDummy (lose_first_gap (n ∷ back))
lost_ends n [] d = d
lost_ends n (b ∷ back) d = d

lost_ascends : (n : Entry) (back : List Entry) → Ascend (n ∷ back) → Ascend (lose_first_gap (n ∷ back))
lost_ascends n [] a = tt
lost_ascends n (b ∷ back) a = a

pub lost-version : (v : Version) (e n : Entry) (back : List Entry) → v.entries ≡ e ∷ n ∷ back → IsVersion v → IsVersion (with_entries (lose_first_gap (n ∷ back)) v)
lost-version v e n back h i = record { ascend = lost_ascends n back (subst Ascend h i.ascend).1; ends = lost_ends n back (subst EndsWithDummy h i.ends) }
