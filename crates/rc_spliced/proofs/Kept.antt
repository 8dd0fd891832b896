-- Writes of which only what stands at positions that pass a test is kept: what they say there is what the writes say, and their lines are the writes' there.
use Rattle.std.proofs.Common.{◌≡◌, Bool, true, false, cond, ◌||◌, List, [], ◌∷◌, ◌++◌, Option, Some, None, refl, sym, ap, ◌∙◌, map as list_map}
use Rattle.std.specs.Prelude.{if◌then◌else◌}
use Rattle.std.specs.List.{cons_option, filter, filter_map, list_any}
use Rattle.std.specs.Option.{option_to_list}
use Rattle.std.proofs.lemmas.List.{map-append}
use Rattle.std.proofs.lemmas.List.Elements.{filter-append}
use Rattle.rc_cell.specs.declared.rows.Row.{Row}
use Rattle.rc_cell.specs.declared.writes.Tomb.{Tomb}
use Rattle.rc_cell.specs.Deletion.{in_force, survives}
use Rattle.rc_cell.specs.Greatest.{greater}
use Rattle.rc_cell.specs.Orders.{tomb_cmp}
use Rattle.rc_cell.specs.laws.{joined_row-none}
use Rattle.rc_cell.specs.Winner.{all_cells, empty_row, greatest, joined_row, markers, winners}
use Rattle.rc_position.specs.declared.comps.Comp.{Comp}
use Rattle.rc_position.specs.declared.positions.Pos.{Pos}
use Rattle.rc_position.specs.declared.slices.Slice.{Slice}
use Rattle.rc_position.specs.Position.{row_pos}
use Rattle.rc_ranges.specs.declared.pieces.Piece.{Piece}
use Rattle.rc_ranges.specs.Cover.{cover}
use Rattle.rc_mutation.specs.declared.mutations.Mutation.{Mutation}
use Rattle.rc_mutation.specs.Fragments.{has_any}
use Rattle.rc_mutation.specs.laws.ByKey.{KeyedRows}
use Rattle.rc_mutation.specs.Source.{all_pieces, all_rows, joined_rows, partition_tombs, rows_in, SameSource, source_at, source_at_head, source_at_static, static_rows}
use Rattle.rc_query.specs.declared.lines.OutLine.{OutLine}
use Rattle.rc_query.specs.declared.lines.OutLine.TheVariants as line
use Rattle.rc_query.specs.Answer.{answer, in_slice, live_values, static_line}
use Rattle.rc_query.specs.laws.Answers.{answer-rows, outer_cover, row_line, sliced_line}
use Rattle.rc_query.specs.laws.SameAnswer.{answer-same}
use Rattle.rc_spliced.proofs.Pieces.{Cuts, cover-cut}
use Rattle.rc_spliced.proofs.Rows.{joined_rows-kept, kept_rows, rows_in-kept}

-- the lines of rows
abbrev pub own_lines : List Mutation → Slice → List OutLine
own_lines changes slice = filter_map (sliced_line changes slice) (joined_rows (all_rows changes))

-- rows of which nothing was written are one such row
silent : (changes : List Mutation) → joined_row (list_map (λ c. empty_row) changes) ≡ joined_row []
unfolding joined_row
silent [] = refl
silent (c ∷ cs) = silent cs

no_static_line : (head : Option Tomb) → static_line head (empty_row ∷ []) ≡ None
unfolding joined_row
no_static_line head =
    let none : winners [] ≡ [] = ap (λ (r : Row). r.cells) joined_row-none in
    λ i. if has_any (live_values head (none i)) then Some (line.Static (live_values head (none i))) else None

-- if there is a line, it is that of the row of a key
abbrev pub IsLineAt : List Comp → Option OutLine → Type 0
IsLineAt key None = Unit {0}
IsLineAt key (Some (line.Static shown)) = ⊥
IsLineAt key (Some (line.Row k shown)) = k ≡ key

pub sliced_line-at : (changes : List Mutation) (slice : Slice) (e : List Comp × Row) → IsLineAt e.0 (sliced_line changes slice e)
sliced_line-at changes slice e =
    let shadow = in_force (outer_cover changes e.0) e.1 in
    let values = live_values shadow (winners (all_cells (e.1 ∷ []))) in
    elim (in_slice slice e.0) as (λ b. IsLineAt e.0 (cond b (row_line (outer_cover changes e.0) e.0 e.1) None)) [
      | true ↦ elim (has_any values || list_any (survives shadow) (markers (e.1 ∷ []))) as (λ b. IsLineAt e.0 (cond b (Some (line.Row e.0 values)) None)) [
        | true ↦ refl
        | false ↦ tt
      ]
      | false ↦ tt
    ]

either_way : {X : Type 0} (b : Bool) (x : X) → x ≡ cond b x x
either_way true x = refl
either_way false x = refl

pub agreeing : {X Y : Type 0} (p : X → Bool) (f g : X → Option Y) (xs : List X) → ((x : X) → p x ≡ true → f x ≡ g x) → filter_map f (filter p xs) ≡ filter_map g (filter p xs)
agreeing p f g [] h = refl
agreeing p f g (x ∷ xs) h =
    elim (p x) as (λ b. p x ≡ b → filter_map f (cond b (x ∷ filter p xs) (filter p xs)) ≡ filter_map g (cond b (x ∷ filter p xs) (filter p xs))) [
      | true ↦ λ e. (λ i. cons_option (h x e i) (agreeing p f g xs h i))
      | false ↦ λ e. agreeing p f g xs h
    ] refl

module _ (keep : Pos → Bool) (cut : Piece → Piece) (cuts : Cuts keep cut) where
  -- what is kept of a write
  abbrev kept : Mutation → Mutation
  kept m = record { pt = m.pt; statics = empty_row; rows = kept_rows keep m.rows; ranges = list_map cut m.ranges }

  abbrev all_kept : List Mutation → List Mutation
  all_kept changes = list_map kept changes

  kept-tombs : (changes : List Mutation) → partition_tombs (all_kept changes) ≡ partition_tombs changes
  kept-tombs [] = refl
  kept-tombs (c ∷ cs) = ap (cons_option c.pt) (kept-tombs cs)

  kept-statics : (changes : List Mutation) → static_rows (all_kept changes) ≡ list_map (λ c. empty_row) changes
  kept-statics [] = refl
  kept-statics (c ∷ cs) = ap (λ rs. empty_row ∷ rs) (kept-statics cs)

  kept-rows : (changes : List Mutation) → all_rows (all_kept changes) ≡ kept_rows keep (all_rows changes)
  kept-rows [] = refl
  kept-rows (c ∷ cs) = ap (λ rs. kept_rows keep c.rows ++ rs) (kept-rows cs) ∙ sym (filter-append (λ (e : List Comp × Row). keep (row_pos e.0)) c.rows (all_rows cs))

  kept-pieces : (changes : List Mutation) → all_pieces (all_kept changes) ≡ list_map cut (all_pieces changes)
  kept-pieces [] = refl
  kept-pieces (c ∷ cs) = ap (λ ps. list_map cut c.ranges ++ ps) (kept-pieces cs) ∙ sym (map-append cut c.ranges (all_pieces cs))

  kept-cover : (changes : List Mutation) (y : Pos) → cover (all_pieces (all_kept changes)) y ≡ cond (keep y) (cover (all_pieces changes) y) None
  kept-cover changes y = ap (λ ps. cover ps y) (kept-pieces changes) ∙ cover-cut keep cut cuts (all_pieces changes) y

  -- what they say, if it is kept
  abbrev if_kept : Bool → List Mutation → Pos → Row × Option Tomb
  if_kept b changes y = (joined_row (cond b (rows_in y (all_rows changes)) []), cond b (cover (all_pieces changes) y) None)

  kept-says : (changes : List Mutation) (y : Pos) → source_at (all_kept changes) y ≡ if_kept (keep y) changes y
  kept-says changes y = λ i. (joined_row ((ap (rows_in y) (kept-rows changes) ∙ rows_in-kept keep y (all_rows changes)) i), kept-cover changes y i)

  kept-head : (changes : List Mutation) → source_at_head (all_kept changes) ≡ source_at_head changes
  kept-head changes = ap (greatest tomb_cmp) (kept-tombs changes)

  kept-static : (changes : List Mutation) → source_at_static (all_kept changes) ≡ joined_row []
  kept-static changes = ap joined_row (kept-statics changes) ∙ silent changes

  -- what is kept of writes that say the same at the head and where positions pass says the same everywhere
  kept-same : (changes others : List Mutation) → source_at_head changes ≡ source_at_head others → ((y : Pos) → keep y ≡ true → source_at changes y ≡ source_at others y) → SameSource (all_kept changes) (all_kept others)
  kept-same changes others head alike = record {
    head = kept-head changes ∙ head ∙ sym (kept-head others);
    statics = kept-static changes ∙ sym (kept-static others);
    clustered = λ y.
        kept-says changes y
        ∙ elim (keep y) as (λ b. keep y ≡ b → if_kept b changes y ≡ if_kept b others y) [
          | true ↦ λ e. alike y e
          | false ↦ λ e. refl
        ] refl
        ∙ sym (kept-says others y);
  }

  -- ---- their lines

  kept-answer : (changes : List Mutation) (slice : Slice) → answer (all_kept changes) slice ≡ own_lines (all_kept changes) slice
  kept-answer changes slice =
      answer-rows (all_kept changes) slice
      ∙ ap (λ r. option_to_list (static_line (source_at_head (all_kept changes)) (r ∷ [])) ++ own_lines (all_kept changes) slice) (kept-static changes ∙ joined_row-none)
      ∙ ap (λ o. option_to_list o ++ own_lines (all_kept changes) slice) (no_static_line (source_at_head (all_kept changes)))

  kept-cover_of : (changes : List Mutation) (key : List Comp) → keep (row_pos key) ≡ true → outer_cover (all_kept changes) key ≡ outer_cover changes key
  kept-cover_of changes key e = λ i. greater tomb_cmp (kept-head changes i) ((kept-cover changes (row_pos key) ∙ ap (λ b. cond b (cover (all_pieces changes) (row_pos key)) None) e) i)

  kept-lines : (changes : List Mutation) (slice : Slice) → own_lines (all_kept changes) slice ≡ filter_map (sliced_line changes slice) (kept_rows keep (joined_rows (all_rows changes)))
  kept-lines changes slice =
      ap (λ rows. filter_map (sliced_line (all_kept changes) slice) (joined_rows rows)) (kept-rows changes)
      ∙ ap (filter_map (sliced_line (all_kept changes) slice)) (joined_rows-kept keep (all_rows changes))
      ∙ agreeing (λ (e : List Comp × Row). keep (row_pos e.0)) (sliced_line (all_kept changes) slice) (sliced_line changes slice) (joined_rows (all_rows changes)) (λ e h.
      ap (λ outer. if in_slice slice e.0 then row_line outer e.0 e.1 else None) (kept-cover_of changes e.0 h))

  -- a test of lines that goes by where the rows stand
  module _ (test : OutLine → Bool) (by_row : (key : List Comp) (shown : _) → test (line.Row key shown) ≡ keep (row_pos key)) where
    line-kept : (key : List Comp) (o : Option OutLine) (lines : List OutLine) → IsLineAt key o → filter test (cons_option o lines) ≡ cond (keep (row_pos key)) (cons_option o (filter test lines)) (filter test lines)
    line-kept key None lines at = either_way (keep (row_pos key)) (filter test lines)
    line-kept key (Some (line.Static shown)) lines at = absurd at
    line-kept key (Some (line.Row k shown)) lines at = ap (λ b. cond b (line.Row k shown ∷ filter test lines) (filter test lines)) (by_row k shown ∙ ap (λ z. keep (row_pos z)) at)

    -- the lines that pass are those of the rows at positions that pass
    pub lines-kept : (changes : List Mutation) (slice : Slice) (rows : KeyedRows) → filter test (filter_map (sliced_line changes slice) rows) ≡ filter_map (sliced_line changes slice) (kept_rows keep rows)
    lines-kept changes slice [] = refl
    lines-kept changes slice (e ∷ es) =
        line-kept e.0 (sliced_line changes slice e) (filter_map (sliced_line changes slice) es) (sliced_line-at changes slice e)
        ∙ ap (λ ls. cond (keep (row_pos e.0)) (cons_option (sliced_line changes slice e) ls) ls) (lines-kept changes slice es)
        ∙ elim (keep (row_pos e.0)) as (λ b. cond b (cons_option (sliced_line changes slice e) (filter_map (sliced_line changes slice) (kept_rows keep es))) (filter_map (sliced_line changes slice) (kept_rows keep es)) ≡ filter_map (sliced_line changes slice) (cond b (e ∷ kept_rows keep es) (kept_rows keep es))) [
          | true ↦ refl
          | false ↦ refl
        ]

    lines-answered : (changes : List Mutation) (slice : Slice) → filter test (own_lines changes slice) ≡ answer (all_kept changes) slice
    lines-answered changes slice = lines-kept changes slice (joined_rows (all_rows changes)) ∙ sym (kept-lines changes slice) ∙ sym (kept-answer changes slice)

    -- so writes that say the same at the head and where positions pass have the same lines that pass
    pub lines-same : (changes others : List Mutation) (slice : Slice) → source_at_head changes ≡ source_at_head others → ((y : Pos) → keep y ≡ true → source_at changes y ≡ source_at others y) → filter test (own_lines changes slice) ≡ filter test (own_lines others slice)
    lines-same changes others slice head alike = lines-answered changes slice ∙ answer-same (all_kept changes) (all_kept others) (kept-same changes others head alike) slice ∙ sym (lines-answered others slice)
