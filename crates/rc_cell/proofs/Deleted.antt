-- What bodies of `shadow` and `is_live` have made.
use Rattle.std.proofs.Common.{◌≡◌, ℕ, ℤ, Bool, true, false, ◌&&◌, ◌||◌, List, [], ◌∷◌, Option, cond, refl, sym, ap, ◌∙◌}
use Rattle.std.specs.Prelude.{is_some}
use Rattle.std.specs.List.{filter, list_any}
use Rattle.rc_cell.specs.declared.writes.Cell.{Cell}
use Rattle.rc_cell.specs.declared.writes.Tomb.{Tomb}
use Rattle.rc_cell.specs.declared.rows.Row.{Row}
use Rattle.rc_cell.specs.Orders.{timestamp_of, is_live_cell, tomb_cmp}
use Rattle.rc_cell.specs.Deletion.{survives, surviving_marker, surviving_cells, shadowed_row, has_life}
use Rattle.rc_cell.specs.Greatest.{greater}
use Rattle.rc_cell.specs.laws.Survivors.{in_force-greater}
use Rattle.rc_cell.specs.laws.{same_row}

-- what a body of `shadow` has made is the shadowed row
pub shadowed_of : (cover : Option Tomb) (row : Row) {tomb : Option Tomb} {m : Option ℤ} {es : List (ℕ × Cell)} → tomb ≡ greater tomb_cmp cover row.tomb → m ≡ surviving_marker tomb row.marker → es ≡ surviving_cells tomb row.cells → ◌≡◌ {A = Row} (record { marker = m; tomb = row.tomb; cells = es }) (shadowed_row cover row)
unfolding shadowed_row
shadowed_of cover row e f g =
    let same = e ∙ sym (in_force-greater cover row) in
    same_row (f ∙ ap (λ t. surviving_marker t row.marker) same) refl (g ∙ ap (λ t. surviving_cells t row.cells) same)

any-filter : (p q : ℕ × Cell → Bool) (es : List (ℕ × Cell)) → list_any q (filter p es) ≡ list_any (λ e. p e && q e) es
any-filter p q [] = refl
any-filter p q (e ∷ es) = elim (p e) as (λ b. list_any q (cond b (e ∷ filter p es) (filter p es)) ≡ ((b && q e) || list_any (λ e. p e && q e) es)) [ true ↦ ap (λ b. q e || b) (any-filter p q es) | false ↦ any-filter p q es ]

has_life-of : (cover : Option Tomb) (row : Row) (tomb : Option Tomb) → tomb ≡ greater tomb_cmp cover row.tomb → has_life (shadowed_row cover row) ≡ (is_some (surviving_marker tomb row.marker) || list_any (λ e. survives tomb (timestamp_of e.1) && is_live_cell e.1) row.cells)
unfolding shadowed_row
has_life-of cover row tomb e =
    let same = in_force-greater cover row ∙ sym e in
    ap (λ t. is_some (surviving_marker t row.marker) || list_any (λ e. is_live_cell e.1) (surviving_cells t row.cells)) same
    ∙ ap (λ b. is_some (surviving_marker tomb row.marker) || b) (any-filter (λ e. survives tomb (timestamp_of e.1)) (λ e. is_live_cell e.1) row.cells)

or_first : (x a b : Bool) → x ≡ true → x ≡ a → x ≡ (a || b)
or_first x true b h e = h
or_first x false b h e = absurd (cc)

or_second : (x a b : Bool) → x ≡ false → x ≡ a → b ≡ (a || b)
or_second x true b h e = absurd (cc)
or_second x false b h e = refl

-- a row is live where its marker survives, and else where a live cell does
pub live_by_marker : (cover : Option Tomb) (row : Row) {tomb : Option Tomb} {m : Option ℤ} {found : Bool} → tomb ≡ greater tomb_cmp cover row.tomb → m ≡ surviving_marker tomb row.marker → found ≡ is_some m → found ≡ true → found ≡ has_life (shadowed_row cover row)
live_by_marker cover row {tomb} {m} {found} e f g h = or_first found (is_some (surviving_marker tomb row.marker)) _ h (g ∙ ap is_some f) ∙ sym (has_life-of cover row tomb e)

pub live_by_cell : (cover : Option Tomb) (row : Row) {tomb : Option Tomb} {m : Option ℤ} {found live : Bool} → tomb ≡ greater tomb_cmp cover row.tomb → m ≡ surviving_marker tomb row.marker → found ≡ is_some m → found ≡ false → live ≡ list_any (λ e. survives tomb (timestamp_of e.1) && is_live_cell e.1) row.cells → live ≡ has_life (shadowed_row cover row)
live_by_cell cover row {tomb} {m} {found} e f g h l = l ∙ or_second found (is_some (surviving_marker tomb row.marker)) _ h (g ∙ ap is_some f) ∙ sym (has_life-of cover row tomb e)
