-- What the plain functions leave.
use Rattle.std.specs.Prelude.{◌≡◌, ◌+◌, ◌<◌, ◌≤◌, ℕ, zero, suc, List, [], ◌∷◌, ◌++◌, Option, None, take, drop, length}
use Rattle.std.proofs.Common.{refl, sym, ap, ◌∙◌, subst, arith, get_or, set, slice_set}
use Rattle.std.specs.Option.{option_to_list}
use Rattle.rc_cell.specs.declared.writes.Tomb.{Tomb}
use Rattle.rc_cell.specs.Orders.{tomb_cmp, tomb_cmp_total}
use Rattle.rc_cell.specs.laws.Beats.{tomb_cmp-IsAntisymmetric}
use Rattle.rc_cell.specs.Greatest.{greater}
use Rattle.rc_cell.specs.laws.Greatest.{greatest-two}
use Rattle.rc_cell.specs.Winner.{greatest, joined_row}
use Rattle.rc_core.specs.declared.entries.Entry.{Entry}
use Rattle.rc_core.specs.declared.entries.Flag.TheVariants.{Inherit}
use Rattle.rc_core.specs.declared.entries.Mark.{Mark}
use Rattle.rc_core.specs.SpotState.{over, under}
use Rattle.rc_core.specs.Change.{mark, lost_mark, lose_first_gap}
use Rattle.rc_core.specs.Merge.{Alike}
use Rattle.rc_core.specs.Plain.{mark_state}
use Rattle.rc_core.specs.Steps.{pins_without}
use Rattle.rc_core.specs.laws.Losing.{tomb-alone}

put_tomb : (s t u : Option Tomb) → u ≡ greater tomb_cmp s t → greatest tomb_cmp (option_to_list u) ≡ greatest tomb_cmp (option_to_list s ++ option_to_list t)
put_tomb s t u e = tomb-alone u ∙ e ∙ sym (greatest-two tomb_cmp_total tomb_cmp-IsAntisymmetric s t)

pub put_alike : (older newer : Mark) (u : Option Tomb) → newer.flag ≡ Inherit → u ≡ greater tomb_cmp older.tomb newer.tomb → Alike (mark_state (mark older.flag u)) (under (mark_state older) (mark_state newer))
put_alike older newer u f e =
    subst (λ g. Alike (mark_state (mark older.flag u)) (over g (mark_state older) (mark_state newer))) (sym f)
    (refl, λ i. (joined_row [], put_tomb older.tomb newer.tomb u e i))

set_lost : (ys : List Entry) (i : ℕ) (r : Entry) (d : Entry) (m : Mark) → m ≡ lost_mark → i < length ys → r ≡ get_or ys i d →
    set ys i (record { position = r.position; row = r.row; at = r.at; gap = m }) ≡ take i ys ++ lose_first_gap (drop i ys)
set_lost [] i r d m e lt h = absurd (omega arith)
set_lost (y ∷ ys) zero r d m e lt h = (λ j. record { position = (h j).position; row = (h j).row; at = (h j).at; gap = e j } ∷ ys)
set_lost (y ∷ ys) (suc i) r d m e lt h = ap (λ zs. y ∷ zs) (set_lost ys i r d m e (omega arith) h)

take_front : (i : ℕ) (xs zs : List Entry) → i ≤ length xs → take i (take i xs ++ zs) ≡ take i xs
take_front zero xs zs l = refl
take_front (suc i) [] zs l = absurd (omega arith)
take_front (suc i) (x ∷ xs) zs l = ap (λ ys. x ∷ ys) (take_front i xs zs (omega arith))

drop_front : (i : ℕ) (xs zs : List Entry) → i ≤ length xs → drop i (take i xs ++ zs) ≡ zs
drop_front zero xs zs l = refl
drop_front (suc i) [] zs l = absurd (omega arith)
drop_front (suc i) (x ∷ xs) zs l = drop_front i xs zs (omega arith)

pub dropped_left : (xs ys : List Entry) (i : ℕ) (r : Entry) (d : Entry) (m : Mark) → m ≡ lost_mark → ys ≡ take i xs ++ drop (i + 1) xs → i ≤ length xs → i < length ys → r ≡ get_or ys i d →
    set ys i (record { position = r.position; row = r.row; at = r.at; gap = m }) ≡ take i xs ++ lose_first_gap (drop (i + 1) xs)
dropped_left xs ys i r d m e s l lt h =
    set_lost ys i r d m e lt h
    ∙ (λ j. (ap (take i) s ∙ take_front i xs (drop (i + 1) xs) l) j ++ lose_first_gap ((ap (drop i) s ∙ drop_front i xs (drop (i + 1) xs) l) j))

-- ---- a pin released

pub released_is : (pins : List (Option ℕ)) (i : ℕ) → i < length pins → slice_set pins i None ≡ pins_without i pins
released_is [] i l = absurd (omega (arith, l))
released_is (p ∷ ps) zero l = refl
released_is (p ∷ ps) (suc i) l = ap (λ xs. p ∷ xs) (released_is ps i (omega (arith, l)))
