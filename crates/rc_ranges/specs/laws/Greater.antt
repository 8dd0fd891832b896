-- The greater of two tombstones that may be there: in any order, in any grouping, and of one with itself.
use Rattle.std.proofs.Common.{◌≡◌, List, ◌++◌, Option, Some, None, refl, sym, ap, ◌∙◌, append_assoc}
use Rattle.std.specs.Option.{option_to_list}
use Rattle.rc_cell.specs.declared.writes.Tomb.{Tomb}
use Rattle.rc_cell.specs.Orders.{tomb_cmp, tomb_cmp_total}
use Rattle.rc_cell.specs.Winner.{greatest}
use Rattle.rc_cell.specs.Greatest.{greater}
use Rattle.rc_cell.specs.laws.Greatest.{greatest-append, greatest-swap, greatest-twice, greatest-one, greatest-two}
use Rattle.rc_cell.specs.laws.Beats.{tomb_cmp-IsAntisymmetric}

-- the tombstone as a list, where there is one
abbrev listed : Option Tomb → List Tomb
listed = option_to_list

two : (s t : Option Tomb) → greatest tomb_cmp (listed s ++ listed t) ≡ greater tomb_cmp s t
two = greatest-two tomb_cmp_total tomb_cmp-IsAntisymmetric

one : (s : Option Tomb) → greatest tomb_cmp (listed s) ≡ s
one = greatest-one tomb_cmp_total tomb_cmp-IsAntisymmetric

pub greater-none : (s : Option Tomb) → greater tomb_cmp s None ≡ s
greater-none None = refl
greater-none (Some x) = refl

pub greater-comm : (s t : Option Tomb) → greater tomb_cmp s t ≡ greater tomb_cmp t s
greater-comm s t = sym (two s t) ∙ greatest-swap tomb_cmp_total tomb_cmp-IsAntisymmetric (listed s) (listed t) ∙ two t s

pub greater-same : (s : Option Tomb) → greater tomb_cmp s s ≡ s
greater-same s = sym (two s s) ∙ greatest-twice tomb_cmp_total tomb_cmp-IsAntisymmetric (listed s) ∙ one s

-- the greatest of two lists together
pub greatest-both : (xs ys : List Tomb) → greatest tomb_cmp (xs ++ ys) ≡ greater tomb_cmp (greatest tomb_cmp xs) (greatest tomb_cmp ys)
greatest-both xs ys = greatest-append tomb_cmp_total tomb_cmp-IsAntisymmetric xs ys ∙ two (greatest tomb_cmp xs) (greatest tomb_cmp ys)

pub greater-assoc : (s t u : Option Tomb) → greater tomb_cmp (greater tomb_cmp s t) u ≡ greater tomb_cmp s (greater tomb_cmp t u)
greater-assoc s t u =
    (λ i. greater tomb_cmp (sym (two s t) i) (sym (one u) i))
    ∙ sym (greatest-both (listed s ++ listed t) (listed u))
    ∙ ap (greatest tomb_cmp) (append_assoc (listed s) (listed t) (listed u))
    ∙ greatest-both (listed s) (listed t ++ listed u)
    ∙ (λ i. greater tomb_cmp (one s i) (two t u i))
