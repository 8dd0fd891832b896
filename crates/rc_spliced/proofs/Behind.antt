-- The position behind a row of a schema: no other row of the schema stands between both.
use Rattle.std.proofs.Common.{◌≡◌, Bool, true, false, cond, not, ◌&&◌, ◌==◌, List, [], ◌∷◌, ◌++◌, length, refl, sym, ap, ◌∙◌, subst, append-nil, arith}
use Rattle.std.specs.Prelude.{All}
use Rattle.std.specs.declared.cmp.Ordering.TheVariants.{Less, Equal, Greater}
use Rattle.std.specs.Ordering.{is_lt}
use Rattle.std.specs.List.{filter, list_all}
use Rattle.std.proofs.lemmas.Bool.Decides.{Decides-eqb}
use Rattle.std.proofs.lemmas.List.Elements.{filter-append}
use Rattle.rc_cell.specs.declared.rows.Row.{Row}
use Rattle.rc_position.specs.declared.comps.Comp.{Comp}
use Rattle.rc_position.specs.declared.positions.Pos.{Pos}
use Rattle.rc_position.specs.declared.slices.Slice.{Slice}
use Rattle.rc_position.specs.Position.{IsBefore, pos_cmp, row_pos, start_bound}
use Rattle.rc_position.specs.laws.Bounds.{After-rows, row_pos-next}
use Rattle.rc_position.specs.laws.Orders.{pos_cmp_total}
use Rattle.rc_schema.specs.Checks.{are_of_kinds, fits_kinds, is_key_of, is_short}
use Rattle.rc_schema.specs.SchemaValue.{SchemaValue}
use Rattle.rc_mutation.specs.declared.mutations.Mutation.{Mutation}
use Rattle.rc_mutation.specs.Source.{all_rows}
use Rattle.rc_query.specs.declared.lines.OutLine.{OutLine}
use Rattle.rc_query.specs.declared.lines.OutLine.TheVariants as line
use Rattle.rc_query.specs.Answer.{answer}
use Rattle.rc_writes.specs.Allowed.{ChangeFits, IsRangeBound, IsRowOf}
use Rattle.rc_writes.specs.laws.FittingValues.{Each, each_flat_map, each_of_all, each_so}
use Rattle.rc_spliced.specs.Lines.{is_line_before, lines_from, lines_short_of}
use Rattle.rc_spliced.proofs.Ascending.{AllBefore, AllBehind, HaveKeys, around}

both : (a b : Bool) → a && b ≡ true → (a ≡ true) × (b ≡ true)
both true b h = (refl, h)
both false b h = absurd (cc)

-- the position right behind the row of a key
abbrev behind : List Comp → Pos
behind key = start_bound key false

row-behind : (key : List Comp) → IsBefore (row_pos key) (behind key)
row-behind key = subst (λ k. IsBefore (row_pos k) (behind key)) (append-nil key) (After-rows key [])

module _ (schema : SchemaValue) where
  -- a full key of the schema
  abbrev HasKey : List Comp → Type 0
  HasKey key = is_key_of true schema key ≡ true

  long : (key : List Comp) → HasKey key → length key ≡ length schema.ck
  long key h =
      let kinds = (both (fits_kinds true schema.ck key) (list_all is_short key) h).0 in
      (Decides-eqb (length key) (length schema.ck)).0 (both (are_of_kinds key schema.ck) (length key == length schema.ck) kinds).1

  -- behind a row of the schema a range may begin or end
  may_bound : (key : List Comp) → HasKey key → IsRangeBound schema (behind key)
  may_bound key h =
      let parts = both (fits_kinds true schema.ck key) (list_all is_short key) h in
      let kinds = (both (are_of_kinds key schema.ck) (length key == length schema.ck) parts.0).0 in
      ((λ e. cc), (λ i. (kinds i && true) && parts.1 i))

  -- a later row of the schema is not before the position behind a row
  not_before : (key k : List Comp) → HasKey key → HasKey k → IsBefore (row_pos key) (row_pos k) → is_lt (pos_cmp (row_pos k) (behind key)) ≡ false
  not_before key k g h b =
      elim (pos_cmp (row_pos k) (behind key)) as (λ r. pos_cmp (row_pos k) (behind key) ≡ r → is_lt r ≡ false) [
        | Less ↦ λ e. absurd (row_pos-next key (row_pos k) (omega (arith, long key g, long k h), λ _. long k h ∙ sym (long key g)) b e)
        | Equal ↦ λ _. refl
        | Greater ↦ λ _. refl
      ] refl

  module _ (key : List Comp) (has : HasKey key) where
    abbrev short : OutLine → Bool
    short l = is_line_before (behind key) l

    abbrev far : OutLine → Bool
    far l = not (is_line_before (behind key) l)

    before_it : (k : List Comp) → IsBefore (row_pos k) (row_pos key) → is_lt (pos_cmp (row_pos k) (behind key)) ≡ true
    before_it k b = ap is_lt (pos_cmp_total.trans (row_pos k) (row_pos key) (behind key) b (row-behind key))

    given-short : (given : List OutLine) → AllBefore HasKey key given → (filter short given ≡ given) × (filter far given ≡ [])
    given-short [] h = (refl, refl)
    given-short (line.Static shown ∷ ls) h =
        let more = given-short ls h in
        (ap (λ xs. line.Static shown ∷ xs) more.0, more.1)
    given-short (line.Row k shown ∷ ls) h =
        let more = given-short ls h.1 in
        let is = before_it k h.0 in (
          ap (λ b. cond b (line.Row k shown ∷ filter short ls) (filter short ls)) is ∙ ap (λ xs. line.Row k shown ∷ xs) more.0,
          ap (λ b. cond (not b) (line.Row k shown ∷ filter far ls) (filter far ls)) is ∙ more.1,
        )

    rest-far : (rest : List OutLine) → AllBehind HasKey key rest → (filter short rest ≡ []) × (filter far rest ≡ rest)
    rest-far [] h = (refl, refl)
    rest-far (line.Static shown ∷ ls) h = absurd h
    rest-far (line.Row k shown ∷ ls) h =
        let more = rest-far ls h.2 in
        let is = not_before key k has h.1 h.0 in (
          ap (λ b. cond b (line.Row k shown ∷ filter short ls) (filter short ls)) is ∙ more.0,
          ap (λ b. cond (not b) (line.Row k shown ∷ filter far ls) (filter far ls)) is ∙ ap (λ xs. line.Row k shown ∷ xs) more.1,
        )

    line-short : (shown : _) (rest : List OutLine) → AllBehind HasKey key rest → (filter short (line.Row key shown ∷ rest) ≡ line.Row key shown ∷ []) × (filter far (line.Row key shown ∷ rest) ≡ rest)
    line-short shown rest h =
        let more = rest-far rest h in
        let is : is_lt (pos_cmp (row_pos key) (behind key)) ≡ true = ap is_lt (row-behind key) in (
          ap (λ b. cond b (line.Row key shown ∷ filter short rest) (filter short rest)) is ∙ ap (λ xs. line.Row key shown ∷ xs) more.0,
          ap (λ b. cond (not b) (line.Row key shown ∷ filter far rest) (filter far rest)) is ∙ more.1,
        )

    cut_behind : (shown : _) (given rest : List OutLine) → AllBefore HasKey key given → AllBehind HasKey key rest →
        (lines_short_of (behind key) (given ++ line.Row key shown ∷ rest) ≡ given ++ line.Row key shown ∷ []) × (lines_from (behind key) (given ++ line.Row key shown ∷ rest) ≡ rest)
    cut_behind shown given rest g h =
        let there = line-short shown rest h in
        let front = given-short given g in (
          filter-append short given (line.Row key shown ∷ rest) ∙ (λ i. front.0 i ++ there.0 i),
          filter-append far given (line.Row key shown ∷ rest) ∙ (λ i. front.1 i ++ there.1 i),
        )

  have_keys : (changes : List Mutation) → All (ChangeFits schema) changes → HaveKeys HasKey (all_rows changes)
  have_keys changes h =
      each_flat_map (λ (e : List Comp × Row). HasKey e.0) (λ c. c.rows) changes
      (each_so (ChangeFits schema) (λ c. Each (λ (e : List Comp × Row). HasKey e.0) c.rows) changes (each_of_all (ChangeFits schema) changes h) (λ c fit.
      each_so (λ e. IsRowOf schema e.0 e.1) (λ e. HasKey e.0) c.rows (each_of_all (λ e. IsRowOf schema e.0 e.1) c.rows fit.rows) (λ e is. is.0)))

  module _ (changes : List Mutation) (slice : Slice) (key : List Comp) (shown : _) (given rest : List OutLine) (fit : All (ChangeFits schema) changes) (is : answer changes slice ≡ given ++ line.Row key shown ∷ rest) where
    abbrev lines-around : AllBefore HasKey key given × HasKey key × AllBehind HasKey key rest
    lines-around = around HasKey changes slice key shown given rest (have_keys changes fit) is

    pub behind-bounds : IsRangeBound schema (behind key)
    behind-bounds = may_bound key lines-around.1

    pub behind-cut : (lines_short_of (behind key) (answer changes slice) ≡ given ++ line.Row key shown ∷ []) × (lines_from (behind key) (answer changes slice) ≡ rest)
    behind-cut =
        let cut = cut_behind key lines-around.1 shown given rest lines-around.0 lines-around.2 in
        (ap (lines_short_of (behind key)) is ∙ cut.0, ap (lines_from (behind key)) is ∙ cut.1)
