-- A sought list is ordered and tells.
use Rattle.std.specs.Prelude.{◌≡◌, true, false, cond, List, [], ◌∷◌, ◌++◌, Option, Some, None}
use Rattle.std.proofs.Common.{refl, ap, ◌∙◌}
use Rattle.std.specs.declared.cmp.Ordering.{Ordering}
use Rattle.std.specs.declared.cmp.Ordering.TheVariants.{Less, Equal, Greater}
use Rattle.std.specs.Ordering.{is_le, is_lt, ordering_reverse, ordering_then}
use Rattle.rc_cell.specs.declared.writes.Tomb.{Tomb}
use Rattle.rc_position.specs.declared.positions.Pos.{Pos}
use Rattle.rc_position.specs.Position.{pos_cmp, row_pos}
use Rattle.rc_position.specs.laws.Orders.{pos_cmp_total}
use Rattle.rc_mutation.specs.declared.fragments.Frag.{Frag}
use Rattle.rc_mutation.specs.declared.fragments.Frag.TheVariants as frag
use Rattle.rc_mutation.specs.Fragments.{tomb_after}
use Rattle.rc_stream.specs.Stream.{force, is_passed, onward, opening}
use Rattle.rc_stream.specs.Merging.{IsInner, IsOrdered, IsTelling, StandsBefore, place_of}
use Rattle.rc_stream.specs.laws.Ordered.{Lt, before-through}

turn_then : (r : Ordering) → is_lt r ≡ false → ordering_then (ordering_reverse r) Less ≡ Less
turn_then Less e = absurd (cc)
turn_then Equal e = refl
turn_then Greater e = refl

turn_less : (r : Ordering) → is_le r ≡ false → ordering_then (ordering_reverse r) Equal ≡ Less
turn_less Less e = absurd (cc)
turn_less Equal e = absurd (cc)
turn_less Greater e = refl

-- what a seek to x does not pass stands behind the place of a change there
pub behind_seek : (x : Pos) (f : Frag) → IsInner f → is_passed x f ≡ false → Lt (x, 0) (place_of f)
behind_seek x (frag.Start pt) i e = absurd i
behind_seek x (frag.Static row) i e = absurd i
behind_seek x (frag.Row key row) i e = ap (λ r. ordering_then r Less) (pos_cmp_total.antisymm x (row_pos key)) ∙ turn_then (pos_cmp (row_pos key) x) e
behind_seek x (frag.Change from tomb) i e = ap (λ r. ordering_then r Equal) (pos_cmp_total.antisymm x from) ∙ turn_less (pos_cmp from x) e
behind_seek x frag.End i e = absurd i

pub onward-ordered : (x : Pos) (fs : List Frag) → IsOrdered fs → IsOrdered (onward x fs) × StandsBefore (x, 0) (onward x fs)
onward-ordered x [] o = (tt, tt)
onward-ordered x (f ∷ fs) o =
    elim (is_passed x f) as (λ b. is_passed x f ≡ b → IsOrdered (cond b (onward x fs) (f ∷ fs)) × StandsBefore (x, 0) (cond b (onward x fs) (f ∷ fs))) [
      | true ↦ λ e. onward-ordered x fs o.2
      | false ↦ λ e. (let h = behind_seek x f o.0 e in (o, (h, before-through (x, 0) (place_of f) fs h o.1)))
    ] refl

-- what is left of fragments once x was sought
abbrev pub sought_left : Pos → Option Tomb → List Frag → List Frag
sought_left x tomb fs = opening x (force x tomb fs) ++ onward x fs

opening-ordered : (x : Pos) (t : Option Tomb) (fs : List Frag) → IsOrdered fs → StandsBefore (x, 0) fs → IsOrdered (opening x t ++ fs)
opening-ordered x None fs o b = o
opening-ordered x (Some t) fs o b = (tt, b, o)

pub sought-ordered : (x : Pos) (tomb : Option Tomb) (fs : List Frag) → IsOrdered fs → IsOrdered (sought_left x tomb fs)
sought-ordered x tomb fs o = let h = onward-ordered x fs o in opening-ordered x (force x tomb fs) (onward x fs) h.0 h.1

pub onward-telling : (x : Pos) (tomb : Option Tomb) (fs : List Frag) → IsTelling tomb fs → IsTelling (force x tomb fs) (onward x fs)
onward-telling x tomb [] h = tt
onward-telling x tomb (f ∷ fs) h =
    elim (is_passed x f) as (λ b. IsTelling (cond b (force x (tomb_after tomb f) fs) tomb) (cond b (onward x fs) (f ∷ fs))) [
      | true ↦ onward-telling x (tomb_after tomb f) fs h.1
      | false ↦ h
    ]

pub opening-telling : (x : Pos) (t : Option Tomb) (fs : List Frag) → IsTelling t fs → IsTelling None (opening x t ++ fs)
opening-telling x None fs h = h
opening-telling x (Some t) fs h = (refl, h)

pub sought-telling : (x : Pos) (tomb : Option Tomb) (fs : List Frag) → IsTelling tomb fs → IsTelling None (sought_left x tomb fs)
sought-telling x tomb fs h = opening-telling x (force x tomb fs) (onward x fs) (onward-telling x tomb fs h)
