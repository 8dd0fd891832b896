-- The entry at a position whose marks are set anew is known there; and where a version is split at two positions.
use Rattle.std.proofs.Common.{inl, inr, ◌≡◌, ◌≢◌, List, ◌∷◌, ◌++◌, Option, Some, sym, ap, ◌∙◌, subst}
use Rattle.rc_cell.specs.declared.writes.Tomb.{Tomb}
use Rattle.rc_position.specs.declared.positions.Pos.{Pos}
use Rattle.rc_core.specs.declared.entries.ChainKind.{ChainKind}
use Rattle.rc_core.specs.declared.entries.Entry.{Entry}
use Rattle.rc_core.specs.declared.entries.Mark.{Mark}
use Rattle.rc_core.specs.AtPlace.{HasEntryAt}
use Rattle.rc_core.specs.Change.{at_entry, gap_split, known_with, with_mark}
use Rattle.rc_core.specs.Continuity.{with_entries}
use Rattle.rc_core.specs.Steps.{set_flags, set_tombs, with_flags, with_tombs}
use Rattle.rc_core.specs.Version.{Ascend, EndsWithDummy, IsVersion, Version}
use Rattle.rc_core.specs.laws.Order.{split-ends}
use Rattle.rc_core.specs.laws.Placed.{has-split, stands-has}
use Rattle.rc_core.specs.laws.Spots.{position-reached, split-stands}
use Rattle.rc_core.specs.laws.Surgery.{entry-at, set_flags-is}
use Rattle.rc_partition.specs.laws.Lists.{elem-split}
use Rattle.rc_memory.specs.Memory.{Member}
use Rattle.rc_memory.specs.Changes.{IsRenewedWhereNone}
use Rattle.rc_memory.specs.laws.Entries.{keeps-split, only-split}
use Rattle.rc_memory.specs.laws.Places.{same_some}
use Rattle.rc_chain.specs.Marked.{HasMarksAt}
use Rattle.rc_populate.specs.calls.Marked.{known_at}

module _ (x : Pos) (at gap : Mark) (tomb : Option Tomb) (v : Version) (i : IsVersion v) (h : HasMarksAt x at gap v) where
  abbrev known : Mark
  known = known_with tomb at

  abbrev y : Entry
  y = h.entry

  parts : (front : List Entry) × (back : List Entry) × (v.entries ≡ front ++ (y ∷ back))
  parts = elem-split v.entries y h.among

  here : (g : Entry → Entry) (es : List Entry) (e : Entry) → e.position ≡ x → es ≡ parts.0 ++ (e ∷ parts.1) → Ascend es → at_entry x g es ≡ parts.0 ++ (g e ∷ parts.1)
  here g es e is same up = (λ k. at_entry (sym is k) g (same k)) ∙ entry-at parts.0 e parts.1 g (subst Ascend same up)

  first : at_entry x (with_flags known.flag gap.flag) v.entries ≡ parts.0 ++ (with_flags known.flag gap.flag y ∷ parts.1)
  first = here (with_flags known.flag gap.flag) v.entries y h.position parts.2 i.ascend

  same : with_tombs known.tomb gap.tomb (with_flags known.flag gap.flag y) ≡ with_mark (known_with tomb) y
  same = λ k. record { position = y.position; row = y.row; at = known_with tomb (h.mark k); gap = h.gap_mark k }

  pub marked-known : set_tombs x known.tomb gap.tomb (set_flags x known.flag gap.flag v) ≡ known_at x tomb v
  marked-known = ap (λ es. with_entries es v)
      (here (with_tombs known.tomb gap.tomb) (at_entry x (with_flags known.flag gap.flag) v.entries) (with_flags known.flag gap.flag y) h.position first (set_flags-is x known.flag gap.flag v i).ascend
      ∙ ap (λ e. parts.0 ++ (e ∷ parts.1)) same
      ∙ sym (here (with_mark (known_with tomb)) v.entries y h.position parts.2 i.ascend))

-- ---- two splits

-- an entry stands at both positions then
pub split-twice : (x y : Pos) (es : List Entry) → EndsWithDummy es → HasEntryAt x (gap_split y (gap_split x es)) × HasEntryAt y (gap_split y (gap_split x es))
split-twice x y es ends =
    let once = split-ends x es ends in
    (has-split y x (gap_split x es) (stands-has x (gap_split x es) (split-stands x es (position-reached x es ends))), stands-has y (gap_split y (gap_split x es)) (split-stands y (gap_split x es) (position-reached y (gap_split x es) once)))

-- the second one makes an entry where there was none before the first one
pub split-both : (kind : ChainKind) (c : Version) (x y : Pos) (w : Member) → w.position ≡ Some y → x ≢ y → (old new : List Member) → IsRenewedWhereNone kind (with_entries (gap_split x c.entries) c) w old new → IsRenewedWhereNone kind c w old new
split-both kind c x y w is ne old new r = record {
  made = λ none. r.made (λ object. elim (only-split c x w.position object) [ inl there ↦ none there | inr here ↦ ne (same_some x y (sym here ∙ is)) ]);
  there = λ object. r.there (keeps-split c x w.position object);
}
