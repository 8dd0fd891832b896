-- What is left of a list from which the first was taken.
use Rattle.std.proofs.Common.{◌≡◌, ◌+◌, List, [], ◌∷◌, Option, Some, drop, refl, ℕ, sym, zero, suc, ◌++◌, ap, ◌∙◌}
use Rattle.std.proofs.Math.Numerals.{suc-eq-add-one}
use Rattle.rc_position.specs.declared.positions.Pos.{Pos}
use Rattle.rc_mutation.specs.declared.fragments.Frag.{Frag}
use Rattle.rc_mutation.specs.declared.fragments.Frag.TheVariants as frag
use Rattle.rc_mutation.specs.declared.fragments.Head.{Head}
use Rattle.rc_cell.specs.declared.writes.Tomb.{Tomb}
use Rattle.rc_stream.specs.declared.lists.Front.{Front}
use Rattle.rc_stream.specs.declared.lists.Front.TheVariants.{Passed}
use Rattle.rc_stream.specs.Fronts.{front_tomb, front_change}
use Rattle.rc_stream.specs.Stream.{Stream, clustered_front, first_upto, rest}
use Rattle.rc_mutation.specs.Fragments.{tomb_after}

one_on : (x : Pos) (f : Frag) (fs : List Frag) (n : ℕ) → first_upto x (clustered_front (drop n fs)) ≡ Some f → clustered_front (drop (suc n) fs) ≡ rest (clustered_front (drop n fs))
one_on x f [] zero h = absurd (cc)
one_on x f [] (suc n) h = absurd (cc)
one_on x f (frag.Start pt ∷ fs) zero h = absurd (cc)
one_on x f (frag.Static row ∷ fs) zero h = absurd (cc)
one_on x f (frag.Row key row ∷ fs) zero h = refl
one_on x f (frag.Change from tomb ∷ fs) zero h = refl
one_on x f (frag.End ∷ fs) zero h = absurd (cc)
one_on x f (g ∷ gs) (suc n) h = one_on x f gs n h

abbrev pub stream : Head → Option Tomb → List Frag → Stream
stream h t l = record { head = h; tomb = t; left = l }

-- a stream of a list, from which the first was taken
pub taken : (head : Head) (x : Pos) (f : Frag) (fs : List Frag) (n : ℕ) (tomb : Option Tomb) (front : Front) (now : Stream) → front ≡ Passed tomb → now ≡ stream head (front_tomb front) (front_change front ++ clustered_front (drop n fs)) → first_upto x (clustered_front (drop n fs)) ≡ Some f → stream head (tomb_after tomb f) (clustered_front (drop (n + 1) fs)) ≡ stream now.head (tomb_after now.tomb f) (rest now.left)
taken head x f fs n tomb front now is view h =
    ap (λ l. stream head (tomb_after tomb f) l) (ap (λ k. clustered_front (drop k fs)) (sym (suc-eq-add-one n)) ∙ one_on x f fs n h)
    ∙ ap (λ g. stream head (tomb_after (front_tomb g) f) (rest (front_change g ++ clustered_front (drop n fs)))) (sym is)
    ∙ ap (λ s. stream s.head (tomb_after s.tomb f) (rest s.left)) (sym view)
