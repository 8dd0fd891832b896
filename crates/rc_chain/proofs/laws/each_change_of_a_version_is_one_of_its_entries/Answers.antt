use Rattle.std.specs.Prelude.{◌≡◌, ◌++◌, ◌∷◌, [], List, Some, map}
use Rattle.std.proofs.Common.{refl, ap, subst, sym, ◌∙◌, ⊎_elim}
use Rattle.rc_position.specs.declared.positions.Pos.{Pos}
use Rattle.rc_core.specs.declared.entries.Entry.{Entry}
use Rattle.rc_core.specs.AtPlace.{HasEntryAt}
use Rattle.rc_core.specs.Change.{at_entry, change, drop_at, entry_changed, gap_split, lost_mark, raised_mark, with_row}
use Rattle.rc_core.specs.Continuity.{with_entries}
use Rattle.rc_core.specs.Steps.{with_flags, with_tombs}
use Rattle.rc_core.specs.Version.{Ascend, IsVersion, Version}
use Rattle.rc_chain.proofs.laws.each_change_of_a_version_is_one_of_its_entries.Goals as goal

-- the entry at a position, with those before and behind it
record EntryAt (x : Pos) (es : List Entry) : Type 0 where
  front : List Entry
  entry : Entry
  back : List Entry
  parts : es ≡ front ++ entry ∷ back
  is : entry.position ≡ x

entry-at : (x : Pos) (es : List Entry) → HasEntryAt x es → EntryAt x es
entry-at x [] here = absurd here
entry-at x (e ∷ es) here = ⊎_elim
    (λ is. record { front = []; entry = e; back = es; parts = refl; is = is })
    (λ more. let k = entry-at x es more in record { front = e ∷ k.front; entry = k.entry; back = k.back; parts = ap (λ fs. e ∷ fs) k.parts; is = k.is })
    here

pub returns : goal.returns
returns c = record {
  gap = λ v x front e back parts b l. ap (λ es. with_entries es v) (ap (gap_split x) parts ∙ c.a_split_makes_a_dummy_in_a_gap.ensures.gap x front e back b l);
  split = λ v front e back i parts. ap (λ es. with_entries es v) (ap (gap_split e.position) parts ∙ c.a_split_makes_a_dummy_in_a_gap.ensures.entry front e back (subst Ascend parts i.ascend) ∙ sym parts);
  row = λ v row front e back i parts. let a = subst Ascend parts i.ascend in
      ap (λ es. with_entries es v) (ap (λ es. at_entry e.position (with_row row) (gap_split e.position es)) parts ∙ ap (at_entry e.position (with_row row)) (c.a_split_makes_a_dummy_in_a_gap.ensures.entry front e back a) ∙ c.one_entry_is_changed.ensures front e back (with_row row) a);
  range = λ v tomb front from between to back i parts. ap (λ es. with_entries es v) (ap (change (raised_mark (Some tomb)) from.position to.position) parts ∙ c.a_change_goes_from_one_entry_to_another.ensures (raised_mark (Some tomb)) front from between to back (subst Ascend parts i.ascend));
  between = λ v from to tomb i here there. ap (λ es. with_entries (map (entry_changed (raised_mark (Some tomb)) from to) es) v) (sym (ap (gap_split to) (same v from i here) ∙ same v to i there));
  flags = λ v at gap front e back i parts. ap (λ es. with_entries es v) (ap (at_entry e.position (with_flags at gap)) parts ∙ c.one_entry_is_changed.ensures front e back (with_flags at gap) (subst Ascend parts i.ascend));
  tombs = λ v at gap front e back i parts. ap (λ es. with_entries es v) (ap (at_entry e.position (with_tombs at gap)) parts ∙ c.one_entry_is_changed.ensures front e back (with_tombs at gap) (subst Ascend parts i.ascend));
  entry_gone = λ v front e next back i parts. ap (λ es. with_entries es v) (ap (drop_at e.position) parts ∙ c.one_entry_is_taken_out.ensures.entry lost_mark front e next back (subst Ascend parts i.ascend));
}
  where
    same : (v : Version) (x : Pos) → IsVersion v → HasEntryAt x v.entries → gap_split x v.entries ≡ v.entries
    same v x i here = let k = entry-at x v.entries here in
        ap (λ y. gap_split y v.entries) (sym k.is) ∙ ap (gap_split k.entry.position) k.parts ∙ c.a_split_makes_a_dummy_in_a_gap.ensures.entry k.front k.entry k.back (subst Ascend k.parts i.ascend) ∙ sym k.parts
