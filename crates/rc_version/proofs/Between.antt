-- A stretch of a version's entries, from one to another one behind it, on whose marks a function is to be done.
use Rattle.std.proofs.Common.{◌≡◌, List, ◌∷◌, ◌++◌, map, inl, inr, refl, sym, ap, ◌∙◌, subst, arith}
use Rattle.std.specs.Prelude.{Contains}
use Rattle.std.proofs.lemmas.List.Elements.{Contains-append_cases}
use Rattle.rc_position.specs.declared.positions.Pos.{Pos}
use Rattle.rc_position.specs.Position.{IsBefore}
use Rattle.lsa_store.specs.declared.place.Ref.{Ref}
use Rattle.lsa_region.specs.Region.{View}
use Rattle.lsa_path.specs.laws.Members.{member-cases, member-split}
use Rattle.lsa_tree.specs.Entries.{AreAscending, IsEntryAtPosition, StandsEarlier}
use Rattle.lsa_tree.specs.laws.Orders.{all-at, ascending-split, before-at, not-both, stands-once}
use Rattle.rc_core.specs.Change.{change, entry_changed, gap_split, with_gap, with_mark, with_marks}
use Rattle.rc_core.specs.Continuity.{with_entries}
use Rattle.rc_core.specs.declared.entries.Entry.{Entry}
use Rattle.rc_core.specs.declared.entries.Mark.{Mark}
use Rattle.rc_core.specs.laws.Surgery.{change-over}
use Rattle.rc_core.specs.Version.{Version, Ascend}
use Rattle.rc_version.specs.Versions.{HoldEntries, IsVersionOf}
use Rattle.rc_version.specs.calls.Stretch.{IsMarking}
use Rattle.rc_version.specs.laws.Holding.{IsAround, around}
use Rattle.rc_version.specs.laws.Objects.{holds-stands}
use Rattle.rc_version.proofs.Gaps.{split-here}

-- what stands behind an entry is one of those behind it
later-member : (v : View) (front rest : List Ref) (first last : Ref) (from to : Pos) → AreAscending v (front ++ (first ∷ rest)) → IsEntryAtPosition v first from → IsEntryAtPosition v last to → IsBefore from to → Contains (front ++ (first ∷ rest)) last → Contains rest last
later-member v front rest first last from to asc at_first at_last less k = elim (Contains-append_cases front (first ∷ rest) last k) [
  | inl ahead ↦ absurd (not-both from to less (before-at v last to from at_last (all-at (λ r. StandsEarlier v r from) front last (ascending-split v front rest first from at_first asc).before ahead)))
  | inr later ↦ elim (member-cases first last rest later) [
    | inl same ↦ absurd (let again = subst (λ x. IsBefore x to) (stands-once v last from to (subst (λ r. IsEntryAtPosition v r from) same at_first) at_last) less in not-both to to again again)
    | inr behind ↦ behind
  ]
]

module _ (v : View) (n first last : Ref) (from to : Pos) (f : Mark → Mark) (refs : List Ref) (es : List Entry) (c : Version) (h : IsVersionOf v n refs (with_entries es c))
    (first_in : Contains refs first) (last_in : Contains refs last) (first_at : IsEntryAtPosition v first from) (last_at : IsEntryAtPosition v last to) (less : IsBefore from to) where
  -- where they stand
  abbrev front : List Ref
  front = (member-split refs first first_in).0

  abbrev rest : List Ref
  rest = (member-split refs first first_in).1

  abbrev front_is : refs ≡ front ++ (first ∷ rest)
  front_is = (member-split refs first first_in).2

  last_behind : Contains rest last
  last_behind = later-member v front rest first last from to (subst (AreAscending v) front_is h.tree.ascending) first_at last_at less (subst (λ l. Contains l last) front_is last_in)

  abbrev between : List Ref
  between = (member-split rest last last_behind).0

  abbrev back : List Ref
  back = (member-split rest last last_behind).1

  abbrev rest_is : rest ≡ between ++ (last ∷ back)
  rest_is = (member-split rest last last_behind).2

  abbrev w : IsAround v front first rest es
  w = around v front first rest es (subst (λ l. HoldEntries v l es) front_is h.entries)

  abbrev z : IsAround v between last back w.behind
  z = around v between last back w.behind (subst (λ l. HoldEntries v l w.behind) rest_is w.held_behind)

  abbrev entries : List Entry
  entries = w.before ++ (w.here ∷ (z.before ++ (z.here ∷ z.behind)))

  es_is : es ≡ entries
  es_is = w.is ∙ ap (λ (l : List Entry). w.before ++ (w.here ∷ l)) z.is

  abbrev target : List Entry
  target = w.before ++ (with_mark f w.here ∷ (map (with_marks f) z.before ++ (with_gap (f z.here.gap) z.here ∷ z.behind)))

  pub stretch-marking : (target : List Entry) × IsMarking v n first last f refs c target 0 × (map (entry_changed f from to) es ≡ target)
  stretch-marking = (target, marking, ranged)
    where
      marking : IsMarking v n first last f refs c target 0
      marking = record {
        front = front;
        between = between;
        back = back;
        before = w.before;
        here = w.here;
        inner = z.before;
        there = z.here;
        behind = z.behind;
        all_is = front_is ∙ ap (λ (l : List Ref). front ++ (first ∷ l)) rest_is;
        version = subst (λ l. IsVersionOf v n refs (with_entries l c)) es_is h;
        held_before = w.held_before;
        holds = w.holds;
        held_inner = z.held_before;
        last_holds = z.holds;
        held_behind = z.held_behind;
        target_is = refl;
        far = omega arith;
      }

      same : change f from to es ≡ map (entry_changed f from to) es
      same = ap (λ l. map (entry_changed f from to) (gap_split to l)) (split-here v n refs (with_entries es c) h front first rest front_is from first_at)
          ∙ ap (map (entry_changed f from to)) (let s = member-split refs last last_in in split-here v n refs (with_entries es c) h s.0 last s.1 s.2 to last_at)

      ranged : map (entry_changed f from to) es ≡ target
      ranged = sym same ∙ ap (change f from to) es_is
          ∙ (λ i. change f (stands-once v first from w.here.position first_at (holds-stands v first w.here w.holds) i) (stands-once v last to z.here.position last_at (holds-stands v last z.here z.holds) i) entries)
          ∙ change-over f w.before w.here z.before z.here z.behind (subst Ascend es_is h.version.ascend)
