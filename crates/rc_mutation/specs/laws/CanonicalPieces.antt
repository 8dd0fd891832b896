-- The pieces between changes: their changes are those again, and they are canonical.
use Rattle.std.proofs.Common.{◌≡◌, ◌≢◌, true, false, cond, List, [], ◌∷◌, ◌++◌, Option, Some, None, refl, sym, ap, ◌∙◌}
use Rattle.std.specs.declared.cmp.Ordering.TheVariants.{Less, Equal}
use Rattle.std.specs.Ordering.{is_gt, is_eq}
use Rattle.std.specs.Cmp.{tied_itself}
use Rattle.rc_cell.specs.declared.writes.Tomb.{Tomb}
use Rattle.rc_position.specs.declared.positions.Pos.{Pos}
use Rattle.rc_position.specs.Position.{pos_cmp, IsBefore}
use Rattle.rc_position.specs.laws.Orders.{pos_cmp_total}
use Rattle.rc_ranges.specs.declared.pieces.Piece.{Piece}
use Rattle.rc_ranges.specs.Cover.{IsCanonical, MayFollow}
use Rattle.rc_mutation.specs.Fragments.{begins_at, changes_of}
use Rattle.rc_mutation.specs.laws.CanonicalMerging.{Change, IsChanges, turned}

-- the range from one change to the next, if the first has a tombstone
abbrev pub piece_between : Pos → Option Tomb → Pos → List Piece
piece_between x None y = []
piece_between x (Some t) y = record { from = x; to = y; tomb = t } ∷ []

-- the ranges from a change on
abbrev pub pieces_from : Pos → Option Tomb → List Change → List Piece
pieces_from x s [] = []
pieces_from x s (c ∷ cs) = piece_between x s c.0 ++ pieces_from c.0 c.1 cs

-- the ranges of all changes
abbrev pub pieces_in : List Change → List Piece
pieces_in [] = []
pieces_in (c ∷ cs) = pieces_from c.0 c.1 cs

-- the change that begins a range
abbrev pub begun : Pos → Option Tomb → List Change
begun x None = []
begun x (Some t) = (x, Some t) ∷ []

-- where a tombstone is in force, a range begins
begins : (x : Pos) (t : Tomb) (cs : List Change) → IsChanges (Some t) (Some x) cs → begins_at x (pieces_from x (Some t) cs) ≡ true
begins x t [] h = absurd (cc)
begins x t (c ∷ cs) h = ap is_eq (tied_itself pos_cmp_total x)

-- where none is, the next begins later
begins-later : (x y : Pos) (s : Option Tomb) (cs : List Change) → IsBefore x y → IsChanges s (Some y) cs → begins_at x (pieces_from y s cs) ≡ false
begins-later x y s [] e h = refl
begins-later x y (Some t) (c ∷ cs) e h = ap is_eq (turned x y e)
begins-later x y None (c ∷ cs) e h = begins-later x c.0 c.1 cs (pos_cmp_total.trans x y c.0 e h.0) h.2

-- the end of a range and what begins there
ended : (y : Pos) (s : Option Tomb) (cs : List Change) → IsChanges s (Some y) cs → cond (begins_at y (pieces_from y s cs)) [] ((y, None) ∷ []) ++ (begun y s ++ cs) ≡ (y, s) ∷ cs
ended y (Some t) cs h = ap (λ b. cond b [] ((y, None) ∷ []) ++ ((y, Some t) ∷ cs)) (begins y t cs h)
ended y None [] h = refl
ended y None (c ∷ cs) h = ap (λ b. cond b [] ((y, None) ∷ []) ++ (c ∷ cs)) (begins-later y c.0 c.1 cs h.0 h.2)

-- where no tombstone is in force, the next change begins a range
is_begun : (y : Pos) (s : Option Tomb) → s ≢ None → begun y s ≡ (y, s) ∷ []
is_begun y None h = absurd (h refl)
is_begun y (Some t) h = refl

pub changes-from : (x : Pos) (s : Option Tomb) (cs : List Change) → IsChanges s (Some x) cs → changes_of (pieces_from x s cs) ≡ begun x s ++ cs
changes-from x None [] h = refl
changes-from x (Some t) [] h = absurd (cc)
changes-from x None (c ∷ cs) h = changes-from c.0 c.1 cs h.2 ∙ ap (λ bs. bs ++ cs) (is_begun c.0 c.1 h.1)
changes-from x (Some t) (c ∷ cs) h =
    ap (λ bs. (x, Some t) ∷ (cond (begins_at c.0 (pieces_from c.0 c.1 cs)) [] ((c.0, None) ∷ []) ++ bs)) (changes-from c.0 c.1 cs h.2)
    ∙ ap (λ bs. (x, Some t) ∷ bs) (ended c.0 c.1 cs h.2)

-- the changes of the pieces are the changes
pub changes-pieces : (cs : List Change) → IsChanges None None cs → changes_of (pieces_in cs) ≡ cs
changes-pieces [] h = refl
changes-pieces (c ∷ cs) h = changes-from c.0 c.1 cs h.2 ∙ ap (λ bs. bs ++ cs) (is_begun c.0 c.1 h.1)

not_behind : (x y : Pos) → IsBefore x y → x ≡ y → ⊥
not_behind x y e p = let tied : pos_cmp x y ≡ Equal = ap (λ z. pos_cmp x z) (sym p) ∙ tied_itself pos_cmp_total x in let clash : Less ≡ Equal = sym e ∙ tied in cc

-- a range that begins behind the end of another may follow it
follows-later : (p : Piece) (y : Pos) (s : Option Tomb) (cs : List Change) → IsBefore p.to y → IsChanges s (Some y) cs → MayFollow p (pieces_from y s cs)
follows-later p y s [] e h = tt
follows-later p y (Some t) (c ∷ cs) e h = (ap is_gt e, λ same. absurd (not_behind p.to y e same))
follows-later p y None (c ∷ cs) e h = follows-later p c.0 c.1 cs (pos_cmp_total.trans p.to y c.0 e h.0) h.2

follows : (x y : Pos) (t : Tomb) (s : Option Tomb) (cs : List Change) → s ≢ Some t → IsChanges s (Some y) cs → MayFollow (record { from = x; to = y; tomb = t }) (pieces_from y s cs)
follows x y t s [] d h = tt
follows x y t (Some u) (c ∷ cs) d h = (ap is_gt (tied_itself pos_cmp_total y), λ _ same. d (ap Some (sym same)))
follows x y t None (c ∷ cs) d h = follows-later (record { from = x; to = y; tomb = t }) c.0 c.1 cs h.0 h.2

pub canonical-from : (x : Pos) (s : Option Tomb) (cs : List Change) → IsChanges s (Some x) cs → IsCanonical (pieces_from x s cs)
canonical-from x s [] h = tt
canonical-from x None (c ∷ cs) h = canonical-from c.0 c.1 cs h.2
canonical-from x (Some t) (c ∷ cs) h = (h.0, follows x c.0 t c.1 cs h.1 h.2, canonical-from c.0 c.1 cs h.2)

-- the pieces of changes are canonical
pub canonical-pieces : (cs : List Change) → IsChanges None None cs → IsCanonical (pieces_in cs)
canonical-pieces [] h = tt
canonical-pieces (c ∷ cs) h = canonical-from c.0 c.1 cs h.2
