-- What a stream says at a position is the same after a seek, and after a fragment was taken that lies before the position.
use Rattle.std.specs.Prelude.{◌≡◌, true, false, cond, List, [], ◌∷◌, ◌++◌, Option, Some, None, IsTrue}
use Rattle.std.proofs.Common.{refl, sym, ap, ◌∙◌, subst}
use Rattle.std.specs.declared.cmp.Ordering.{Ordering}
use Rattle.std.specs.declared.cmp.Ordering.TheVariants.{Less, Equal, Greater}
use Rattle.std.specs.Ordering.{is_eq, is_le, is_lt, ordering_reverse}
use Rattle.std.specs.List.{flat_map}
use Rattle.rc_cell.specs.declared.rows.Row.{Row}
use Rattle.rc_cell.specs.declared.writes.Tomb.{Tomb}
use Rattle.rc_position.specs.declared.positions.Pos.{Pos}
use Rattle.rc_position.specs.Position.{pos_cmp, row_pos}
use Rattle.rc_position.specs.laws.Orders.{pos_cmp_total, pos_cmp_same}
use Rattle.rc_mutation.specs.declared.fragments.Frag.{Frag}
use Rattle.rc_mutation.specs.declared.fragments.Frag.TheVariants as frag
use Rattle.rc_stream.specs.Stream.{Stream, force, is_passed, onward, opening, rest, row_at, says, sought_stream, took}
use Rattle.rc_mutation.specs.Fragments.{tomb_after}

pub le_le : (p x y : Pos) (r s : Ordering) → pos_cmp p x ≡ r → pos_cmp x y ≡ s → is_le r ≡ true → is_le s ≡ true → is_le (pos_cmp p y) ≡ true
le_le p x y Less Less a b h k = ap is_le (pos_cmp_total.trans p x y a b)
le_le p x y Less Equal a b h k = subst (λ z. is_le (pos_cmp p z) ≡ true) (pos_cmp_same x y b) (ap is_le a)
le_le p x y Less Greater a b h k = absurd (cc)
le_le p x y Equal s a b h k = subst (λ z. is_le (pos_cmp z y) ≡ true) (sym (pos_cmp_same p x a)) (ap is_le b ∙ k)
le_le p x y Greater s a b h k = absurd (cc)

lt_le : (p x y : Pos) (r s : Ordering) → pos_cmp p x ≡ r → pos_cmp x y ≡ s → is_lt r ≡ true → is_le s ≡ true → is_lt (pos_cmp p y) ≡ true
lt_le p x y Less Less a b h k = ap is_lt (pos_cmp_total.trans p x y a b)
lt_le p x y Less Equal a b h k = subst (λ z. is_lt (pos_cmp p z) ≡ true) (pos_cmp_same x y b) (ap is_lt a)
lt_le p x y Less Greater a b h k = absurd (cc)
lt_le p x y Equal s a b h k = absurd (cc)
lt_le p x y Greater s a b h k = absurd (cc)

-- what a seek passes, a later one passes too
pub passed_on : (x y : Pos) (f : Frag) → is_le (pos_cmp x y) ≡ true → is_passed x f ≡ true → is_passed y f ≡ true
passed_on x y (frag.Start pt) h e = absurd (cc)
passed_on x y (frag.Static row) h e = absurd (cc)
passed_on x y (frag.Row key row) h e = lt_le (row_pos key) x y (pos_cmp (row_pos key) x) (pos_cmp x y) refl refl e h
passed_on x y (frag.Change from tomb) h e = le_le from x y (pos_cmp from x) (pos_cmp x y) refl refl e h
passed_on x y frag.End h e = absurd (cc)

apart : (r : Ordering) → is_lt r ≡ true → is_eq (ordering_reverse r) ≡ false
apart Less h = refl
apart Equal h = absurd (cc)
apart Greater h = absurd (cc)

-- and it has no row there
no_row : (y : Pos) (f : Frag) → is_passed y f ≡ true → row_at y f ≡ []
no_row y (frag.Start pt) e = refl
no_row y (frag.Static row) e = refl
no_row y (frag.Row key row) e = ap (λ b. cond b (row ∷ []) []) (ap is_eq (pos_cmp_total.antisymm y (row_pos key)) ∙ apart (pos_cmp (row_pos key) y) e)
no_row y (frag.Change from tomb) e = refl
no_row y frag.End e = refl

pub force-onward : (x y : Pos) → is_le (pos_cmp x y) ≡ true → (tomb : Option Tomb) (fs : List Frag) → force y tomb fs ≡ force y (force x tomb fs) (onward x fs)
force-onward x y h tomb [] = refl
force-onward x y h tomb (f ∷ fs) =
    elim (is_passed x f) as (λ b. is_passed x f ≡ b → force y tomb (f ∷ fs) ≡ force y (cond b (force x (tomb_after tomb f) fs) tomb) (cond b (onward x fs) (f ∷ fs))) [
      | true ↦ λ e. ap (λ b. cond b (force y (tomb_after tomb f) fs) tomb) (passed_on x y f h e) ∙ force-onward x y h (tomb_after tomb f) fs
      | false ↦ λ e. refl
    ] refl

pub force-opening : (x y : Pos) → is_le (pos_cmp x y) ≡ true → (tomb : Option Tomb) (fs : List Frag) → force y None (opening x tomb ++ fs) ≡ force y tomb fs
force-opening x y h None fs = refl
force-opening x y h (Some tomb) fs = ap (λ b. cond b (force y (Some tomb) fs) None) h

pub rows-onward : (x y : Pos) → is_le (pos_cmp x y) ≡ true → (fs : List Frag) → flat_map (row_at y) (onward x fs) ≡ flat_map (row_at y) fs
rows-onward x y h [] = refl
rows-onward x y h (f ∷ fs) =
    elim (is_passed x f) as (λ b. is_passed x f ≡ b → flat_map (row_at y) (cond b (onward x fs) (f ∷ fs)) ≡ flat_map (row_at y) (f ∷ fs)) [
      | true ↦ λ e. rows-onward x y h fs ∙ ap (λ rows. rows ++ flat_map (row_at y) fs) (sym (no_row y f (passed_on x y f h e)))
      | false ↦ λ e. refl
    ] refl

pub rows-opening : (x y : Pos) (tomb : Option Tomb) (fs : List Frag) → flat_map (row_at y) (opening x tomb ++ fs) ≡ flat_map (row_at y) fs
rows-opening x y None fs = refl
rows-opening x y (Some tomb) fs = refl

-- what is said at a position: the rows there, and the tombstone in force
abbrev said : List Row → Option Tomb → List Row × Option Tomb
said rows tomb = (rows, tomb)

pub says-sought : (s : Stream) (x y : Pos) → IsTrue (is_le (pos_cmp x y)) → says y (sought_stream x s) ≡ says y s
says-sought s x y h =
    let tomb = force x s.tomb s.left in
    let left = onward x s.left in
    ap (λ rows. said rows (force y None (opening x tomb ++ left))) (rows-opening x y tomb left ∙ rows-onward x y h s.left)
    ∙ ap (said (flat_map (row_at y) s.left)) (force-opening x y h tomb left ∙ sym (force-onward x y h s.tomb s.left))

pub says-took : (s : Stream) (f : Frag) (fs : List Frag) (y : Pos) → s.left ≡ f ∷ fs → IsTrue (is_passed y f) → says y (took (Some f) s) ≡ says y s
says-took s f fs y left h =
    ap (λ l. said (flat_map (row_at y) (rest l)) (force y (tomb_after s.tomb f) (rest l))) left
    ∙ ap (λ rows. said (rows ++ flat_map (row_at y) fs) (force y (tomb_after s.tomb f) fs)) (sym (no_row y f h))
    ∙ ap (λ b. said (flat_map (row_at y) (f ∷ fs)) (cond b (force y (tomb_after s.tomb f) fs) s.tomb)) (sym h)
    ∙ ap (λ l. said (flat_map (row_at y) l) (force y s.tomb l)) (sym left)
