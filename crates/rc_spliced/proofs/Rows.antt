-- The rows at positions that pass a test, among rows and among joined ones.
use Rattle.std.proofs.Common.{◌≡◌, Bool, true, false, cond, List, [], ◌∷◌, ◌++◌, None, refl, sym, ap, ◌∙◌, map as list_map}
use Rattle.std.specs.Ordering.{eq_by_cmp}
use Rattle.std.specs.List.{filter}
use Rattle.std.specs.FinMap.Entries.{find-where_key, is_sorted-where_key}
use Rattle.std.proofs.lemmas.List.{map-append}
use Rattle.std.proofs.lemmas.List.Elements.{filter-append}
use Rattle.rc_cell.specs.declared.rows.Row.{Row}
use Rattle.rc_position.specs.declared.comps.Comp.{Comp}
use Rattle.rc_position.specs.declared.positions.Pos.{Pos}
use Rattle.rc_position.specs.Position.{key_cmp, pos_cmp, row_pos}
use Rattle.rc_position.specs.laws.Orders.{key_cmp_same, pos_cmp_same}
use Rattle.rc_mutation.specs.laws.ByKey.{KeyedRows, find-joined_rows, joined_if_any, same_rows, sorted-joined_rows}
use Rattle.rc_mutation.specs.Source.{joined_rows, rows_at, rows_in}
use Rattle.rc_spliced.proofs.Sides.{tie}

rows_in-cons : (y : Pos) (e : List Comp × Row) (es : KeyedRows) (b : Bool) → eq_by_cmp pos_cmp y (row_pos e.0) ≡ b → rows_in y (e ∷ es) ≡ cond b (e.1 ∷ rows_in y es) (rows_in y es)
rows_in-cons y e es true h = ap (λ b. list_map (λ (e : List Comp × Row). e.1) (cond b (e ∷ filter (λ e. eq_by_cmp pos_cmp y (row_pos e.0)) es) (filter (λ e. eq_by_cmp pos_cmp y (row_pos e.0)) es))) h
rows_in-cons y e es false h = ap (λ b. list_map (λ (e : List Comp × Row). e.1) (cond b (e ∷ filter (λ e. eq_by_cmp pos_cmp y (row_pos e.0)) es) (filter (λ e. eq_by_cmp pos_cmp y (row_pos e.0)) es))) h

pub rows_in-append : (y : Pos) (xs ys : KeyedRows) → rows_in y (xs ++ ys) ≡ rows_in y xs ++ rows_in y ys
rows_in-append y xs ys =
    ap (list_map (λ (e : List Comp × Row). e.1)) (filter-append (λ (e : List Comp × Row). eq_by_cmp pos_cmp y (row_pos e.0)) xs ys)
    ∙ map-append (λ (e : List Comp × Row). e.1) (filter (λ e. eq_by_cmp pos_cmp y (row_pos e.0)) xs) (filter (λ e. eq_by_cmp pos_cmp y (row_pos e.0)) ys)

module _ (keep : Pos → Bool) where
  -- the rows at positions that pass
  abbrev pub kept_rows : KeyedRows → KeyedRows
  kept_rows rows = filter (λ e. keep (row_pos e.0)) rows

  -- at a position that passes these are all rows there, at any other none
  pub rows_in-kept : (y : Pos) (rows : KeyedRows) → rows_in y (kept_rows rows) ≡ cond (keep y) (rows_in y rows) []
  rows_in-kept y [] = elim (keep y) as (λ b. rows_in y [] ≡ cond b (rows_in y []) []) [ true ↦ refl | false ↦ refl ]
  rows_in-kept y (e ∷ es) =
      elim (eq_by_cmp pos_cmp y (row_pos e.0)) as (λ t. eq_by_cmp pos_cmp y (row_pos e.0) ≡ t → rows_in y (cond (keep (row_pos e.0)) (e ∷ kept_rows es) (kept_rows es)) ≡ cond (keep y) (rows_in y (e ∷ es)) []) [
        | true ↦ λ t.
            ap (λ z. rows_in y (cond (keep z) (e ∷ kept_rows es) (kept_rows es))) (sym (pos_cmp_same y (row_pos e.0) (tie (pos_cmp y (row_pos e.0)) t)))
            ∙ elim (keep y) as (λ b. rows_in y (kept_rows es) ≡ cond b (rows_in y es) [] → rows_in y (cond b (e ∷ kept_rows es) (kept_rows es)) ≡ cond b (e.1 ∷ rows_in y es) []) [
              | true ↦ λ rest. rows_in-cons y e (kept_rows es) true t ∙ ap (λ rs. e.1 ∷ rs) rest
              | false ↦ λ rest. rest
            ] (rows_in-kept y es)
            ∙ ap (λ rs. cond (keep y) rs []) (sym (rows_in-cons y e es true t))
        | false ↦ λ t.
            elim (keep (row_pos e.0)) as (λ b. rows_in y (cond b (e ∷ kept_rows es) (kept_rows es)) ≡ rows_in y (kept_rows es)) [
              | true ↦ rows_in-cons y e (kept_rows es) false t
              | false ↦ refl
            ]
            ∙ rows_in-kept y es
            ∙ ap (λ rs. cond (keep y) rs []) (sym (rows_in-cons y e es false t))
      ] refl

  if_any-kept : (b : Bool) (rs : List Row) → joined_if_any (cond b rs []) ≡ cond b (joined_if_any rs) None
  if_any-kept true rs = refl
  if_any-kept false rs = refl

  -- to keep and to join commute
  pub joined_rows-kept : (es : KeyedRows) → joined_rows (kept_rows es) ≡ kept_rows (joined_rows es)
  joined_rows-kept es =
      let test : List Comp → Bool = λ k. keep (row_pos k) in
      same_rows (joined_rows (kept_rows es)) (kept_rows (joined_rows es)) (sorted-joined_rows (kept_rows es)) (is_sorted-where_key key_cmp test (joined_rows es) (sorted-joined_rows es)) (λ q.
      find-joined_rows q (kept_rows es)
      ∙ ap joined_if_any (rows_in-kept (row_pos q) es)
      ∙ if_any-kept (keep (row_pos q)) (rows_at q es)
      ∙ ap (λ o. cond (keep (row_pos q)) o None) (sym (find-joined_rows q es))
      ∙ sym (find-where_key key_cmp test q (λ k tied. ap test (sym (key_cmp_same q k tied))) (joined_rows es)))
