-- What rows versions hold: of the schema, or such as are known. Evictions and fills leave that, and what is known is of the schema where writes say it that fit it.
use Rattle.std.proofs.Common.{◌≡◌, ◌⊎◌, suc, Bool, true, false, cond, List, [], ◌∷◌, ◌++◌, Option, Some, None, Ok, append_assoc, length, map, inl, inr, refl, sym, ap, ◌∙◌, subst, arith}
use Rattle.std.specs.Prelude.{◌≢◌, All, IfSome}
use Rattle.std.specs.List.{AllByRecursion, filter}
use Rattle.std.specs.Option.{option_to_list}
use Rattle.std.specs.Ordering.{eq_by_cmp, is_eq}
use Rattle.std.specs.Result.{is_ok}
use Rattle.std.specs.declared.cmp.Ordering.{Ordering}
use Rattle.std.specs.declared.cmp.Ordering.TheVariants.{Less, Equal, Greater}
use Rattle.rc_cell.specs.declared.rows.Row.{Row}
use Rattle.rc_cell.specs.declared.writes.Tomb.{Tomb}
use Rattle.rc_cell.specs.Winner.{IsRow, empty_row, joined_row}
use Rattle.rc_cell.specs.laws.{IsRow-joined_row, joined_row-comm, joined_row-none, joined_row-one}
use Rattle.rc_cell.specs.laws.Each.{joined_marker, joined_tomb}
use Rattle.rc_position.specs.declared.comps.Comp.{Comp}
use Rattle.rc_position.specs.declared.positions.Pos.{Pos}
use Rattle.rc_position.specs.Position.{covers, pos_cmp, row_pos}
use Rattle.rc_position.specs.laws.Orders.{pos_cmp_same}
use Rattle.rc_schema.specs.SchemaValue.{SchemaValue}
use Rattle.rc_schema.specs.Checks.{are_cells_of, checked_cells, column_count}
use Rattle.rc_schema.specs.laws.Fitting.{cells_pass, cells_tested, joined_fits}
use Rattle.rc_mutation.specs.declared.mutations.Mutation.{Mutation}
use Rattle.rc_mutation.specs.Fragments.{is_written}
use Rattle.rc_mutation.specs.Source.{all_rows, rows_in, source_at, source_at_static, static_rows}
use Rattle.rc_writes.specs.Allowed.{ChangeFits, IsRowOf, IsStaticOf}
use Rattle.rc_core.specs.declared.entries.Entry.{Entry}
use Rattle.rc_core.specs.declared.entries.Flag.TheVariants.{Known}
use Rattle.rc_core.specs.declared.entries.Mark.{Mark}
use Rattle.rc_core.specs.AtPlace.{EachEntry}
use Rattle.rc_core.specs.Change.{drop_at, entry_changed, gap_split, joined_onto, known_with, lose_last_gap, lost_mark, mark, with_gap, with_mark, with_row}
use Rattle.rc_core.specs.Continuity.{IsContinuous}
use Rattle.rc_core.specs.SpotState.{SpotState, joined_state}
use Rattle.rc_core.specs.Steps.{gap_filled, row_filled}
use Rattle.rc_core.specs.Version.{Ascend, IsVersion, On, Version, end_position, finding_in, finding_of, state_at, state_of, static_state}
use Rattle.rc_core.specs.laws.Filling.{content-known, flagged-known}
use Rattle.rc_core.specs.laws.Surgery.{seen-on}
use Rattle.rc_core.specs.laws.Units.{nothing_first}
use Rattle.rc_filler.specs.Evictions.{evicted_at}
use Rattle.rc_entries.specs.Filling.{filled_statics}
use Rattle.rc_filler.specs.Stands.{HasRowOf, HoldsRowsOf}
use Rattle.rc_filler.specs.Fills.{IsPortion, OfGap, OfRow, OfStatics, Portion, filled_with}
use Rattle.rc_row_cache.proofs.Lists.{each-map, last-gap-each, split-each, taken-each}
use Rattle.rc_row_cache.proofs.Written.{nothing-alone}

-- ---- what is held

-- an entry has a row of the schema, or its position is known and something is written in its row
abbrev pub HasOrKnows : SchemaValue → Entry → Type 0
HasOrKnows schema e = HasRowOf schema e ⊎ ((e.at.flag ≡ Known) × ((row : Row) → e.row ≡ Some row → row ≢ empty_row))

-- so does each entry of a version; and its static row is of the schema, or known
pub record HoldsOrKnows (schema : SchemaValue) (v : Version) : Type 0 where
  pub entries : EachEntry (HasOrKnows schema) v.entries
  pub statics : IfSome v.statics (λ row. IsStaticOf schema row × IsRow row) ⊎ (v.static_flag ≡ Known)

each-weaker : (P Q : Entry → Type 0) → ((e : Entry) → P e → Q e) → (es : List Entry) → EachEntry P es → EachEntry Q es
each-weaker P Q weaker [] h = tt
each-weaker P Q weaker (e ∷ es) h = (weaker e h.0, each-weaker P Q weaker es h.1)

module _ (schema : SchemaValue) where
  pub holds-or : (v : Version) → HoldsRowsOf schema v → HoldsOrKnows schema v
  holds-or v h = record { entries = each-weaker (HasRowOf schema) (HasOrKnows schema) (λ e k. inl k) v.entries h.entries; statics = inl h.statics }

  -- ---- evicted

  pub evicted-rows : (at : Option Pos) (v : Version) → HoldsRowsOf schema v → HoldsRowsOf schema (evicted_at at v)
  evicted-rows None v h = record { entries = h.entries; statics = tt }
  evicted-rows (Some x) v h = record {
    entries = elim (eq_by_cmp pos_cmp x end_position) as (λ b. EachEntry (HasRowOf schema) (cond b (lose_last_gap v.entries) (drop_at x v.entries))) [
      | true ↦ last-gap-each (HasRowOf schema) (λ m e k. k) v.entries h.entries
      | false ↦ taken-each (HasRowOf schema) (λ m e k. k) lost_mark x v.entries h.entries
    ];
    statics = h.statics;
  }

  gap-or : (m : Mark) (e : Entry) → HasOrKnows schema e → HasOrKnows schema (with_gap m e)
  gap-or m e (inl k) = inl k
  gap-or m e (inr k) = inr k

  pub evicted-or : (at : Option Pos) (v : Version) → HoldsOrKnows schema v → HoldsOrKnows schema (evicted_at at v)
  evicted-or None v h = record { entries = h.entries; statics = inl tt }
  evicted-or (Some x) v h = record {
    entries = elim (eq_by_cmp pos_cmp x end_position) as (λ b. EachEntry (HasOrKnows schema) (cond b (lose_last_gap v.entries) (drop_at x v.entries))) [
      | true ↦ last-gap-each (HasOrKnows schema) gap-or v.entries h.entries
      | false ↦ taken-each (HasOrKnows schema) gap-or lost_mark x v.entries h.entries
    ];
    statics = h.statics;
  }

  -- ---- filled

  over-gap : (from to : Pos) (tomb : Option Tomb) (e : Entry) → HasOrKnows schema e → HasOrKnows schema (entry_changed (λ m. mark Known tomb) from to e)
  over-gap from to tomb e (inl k) = inl k
  over-gap from to tomb e (inr k) = inr (elim (covers from to e.position) as (λ b. (cond b (mark Known tomb) e.at).flag ≡ Known) [ true ↦ refl | false ↦ k.0 ], k.1)

  gap-holds : (from to : Pos) (tomb : Option Tomb) (v : Version) → HoldsOrKnows schema v → HoldsOrKnows schema (gap_filled from to tomb v)
  gap-holds from to tomb v h = record {
    entries = each-map (HasOrKnows schema) (HasOrKnows schema) (entry_changed (λ m. mark Known tomb) from to) (over-gap from to tomb) (gap_split to (gap_split from v.entries))
        (split-each (HasOrKnows schema) to (λ m. inl tt) (gap_split from v.entries) (split-each (HasOrKnows schema) from (λ m. inl tt) v.entries h.entries));
    statics = h.statics;
  }

  -- the entry at a position has a row in which something is written, and each other one is as it is to be
  abbrev IsJoined : Pos → Entry → Type 0
  IsJoined x e = (eq_by_cmp pos_cmp x e.position ≡ true → (row : Row) → e.row ≡ Some row → row ≢ empty_row) × (eq_by_cmp pos_cmp x e.position ≡ false → HasOrKnows schema e)

  both-ways : (b : Bool) → b ≡ true → b ≡ false → ⊥
  both-ways b t f = (let clash : true ≡ false = sym t ∙ f in cc)

  module _ (x : Pos) (row : Row) (tomb : Option Tomb) (written : row ≢ empty_row) where
    onto-written : (old : Option Row) → joined_onto old row ≢ empty_row
    onto-written None = written
    onto-written (Some r) = λ e. written (nothing-alone row (nothing_first (row ∷ []) (r ∷ []) (joined_row-comm row r ∙ e)))

    is-onto : (old : Option Row) (r : Row) → Some (joined_onto old row) ≡ Some r → r ≢ empty_row
    is-onto old r e none = onto-written old (let same : joined_onto old row ≡ r = cc in same ∙ none)

    join-one : (e : Entry) → HasOrKnows schema e → IsJoined x (cond (eq_by_cmp pos_cmp x e.position) (with_row row e) e)
    join-one e k = elim (eq_by_cmp pos_cmp x e.position) as (λ b. eq_by_cmp pos_cmp x e.position ≡ b → IsJoined x (cond b (with_row row e) e)) [
      | true ↦ λ t. ((λ _ r is. is-onto e.row r is), (λ f. absurd (both-ways (eq_by_cmp pos_cmp x e.position) t f)))
      | false ↦ λ f. ((λ t. absurd (both-ways (eq_by_cmp pos_cmp x e.position) t f)), (λ _. k))
    ] refl

    know-one : (e : Entry) → IsJoined x e → HasOrKnows schema (cond (eq_by_cmp pos_cmp x e.position) (with_mark (known_with tomb) e) e)
    know-one e k = elim (eq_by_cmp pos_cmp x e.position) as (λ b. eq_by_cmp pos_cmp x e.position ≡ b → HasOrKnows schema (cond b (with_mark (known_with tomb) e) e)) [
      | true ↦ λ t. inr (refl, k.0 t)
      | false ↦ λ f. k.1 f
    ] refl

    row-holds : (v : Version) → HoldsOrKnows schema v → HoldsOrKnows schema (row_filled x row tomb v)
    row-holds v h = record {
      entries = each-map (IsJoined x) (HasOrKnows schema) (λ e. cond (eq_by_cmp pos_cmp x e.position) (with_mark (known_with tomb) e) e) know-one
          (map (λ e. cond (eq_by_cmp pos_cmp x e.position) (with_row row e) e) (gap_split x v.entries))
          (each-map (HasOrKnows schema) (IsJoined x) (λ e. cond (eq_by_cmp pos_cmp x e.position) (with_row row e) e) join-one (gap_split x v.entries) (split-each (HasOrKnows schema) x (λ m. inl tt) v.entries h.entries));
      statics = h.statics;
    }

  pub filled-or : (q : Portion) → IsPortion q → (v : Version) → HoldsOrKnows schema v → HoldsOrKnows schema (filled_with q v)
  filled-or (OfGap from to tomb) whole v h = gap-holds from to tomb v h
  filled-or (OfRow key row tomb) whole v h = row-holds (row_pos key) row tomb whole v h
  filled-or (OfStatics row) whole v h = record { entries = h.entries; statics = inr refl }

-- ---- what writes say that fit the schema

is-tied : (r : Ordering) → is_eq r ≡ true → r ≡ Equal
is-tied Less e = absurd (cc)
is-tied Equal e = refl
is-tied Greater e = absurd (cc)

by-recursion : {X : Type 0} (P : X → Type 0) (xs : List X) → All P xs → AllByRecursion P xs
by-recursion P [] h = tt
by-recursion P (x ∷ xs) h = (h 0 x (omega arith), by-recursion P xs (λ k d lt. h (suc k) d (omega arith)))

all-append : {X : Type 0} (P : X → Type 0) (xs ys : List X) → AllByRecursion P xs → AllByRecursion P ys → AllByRecursion P (xs ++ ys)
all-append P [] ys h g = g
all-append P (x ∷ xs) ys h g = (h.0, all-append P xs ys h.1 g)

all-wider : {X : Type 0} (P Q : X → Type 0) (xs : List X) → ((x : X) → P x → Q x) → AllByRecursion P xs → AllByRecursion Q xs
all-wider P Q [] wider h = tt
all-wider P Q (x ∷ xs) wider h = (wider x h.0, all-wider P Q xs wider h.1)

module _ (schema : SchemaValue) where
  all-pass : (is_static : Bool) (rows : List Row) → AllByRecursion (λ r. are_cells_of (column_count is_static schema) r.cells ≡ true) rows → AllByRecursion (λ r. checked_cells is_static schema r.cells ≡ Ok tt) rows
  all-pass is_static [] h = tt
  all-pass is_static (r ∷ rows) h = (cells_pass is_static schema r.cells h.0, all-pass is_static rows h.1)

  cells-joined : (is_static : Bool) (rows : List Row) → AllByRecursion (λ r. are_cells_of (column_count is_static schema) r.cells ≡ true) rows → are_cells_of (column_count is_static schema) (joined_row rows).cells ≡ true
  cells-joined is_static rows h = sym (cells_tested is_static schema (joined_row rows).cells) ∙ ap is_ok (joined_fits is_static schema rows (all-pass is_static rows h))

  rows-fit : (writes : List Mutation) → AllByRecursion (ChangeFits schema) writes → AllByRecursion (λ e. IsRowOf schema e.0 e.1) (all_rows writes)
  rows-fit [] h = tt
  rows-fit (m ∷ ms) h = all-append (λ e. IsRowOf schema e.0 e.1) m.rows (all_rows ms) (by-recursion (λ e. IsRowOf schema e.0 e.1) m.rows h.0.rows) (rows-fit ms h.1)

  statics-fit : (writes : List Mutation) → AllByRecursion (ChangeFits schema) writes → AllByRecursion (IsStaticOf schema) (static_rows writes)
  statics-fit [] h = tt
  statics-fit (m ∷ ms) h = (h.0.statics, statics-fit ms h.1)

  module _ (key : List Comp) where
    at-key : (e : List Comp × Row) → row_pos key ≡ row_pos e.0 → IsRowOf schema e.0 e.1 → IsRowOf schema key e.1
    at-key e same h = subst (λ (k : List Comp). IsRowOf schema k e.1) (sym (ap (λ (y : Pos). y.prefix) same)) h

    rows-there : (rows : List (List Comp × Row)) → AllByRecursion (λ e. IsRowOf schema e.0 e.1) rows → AllByRecursion (IsRowOf schema key) (rows_in (row_pos key) rows)
    rows-there [] h = tt
    rows-there (e ∷ es) h = elim (eq_by_cmp pos_cmp (row_pos key) (row_pos e.0)) as
        (λ b. eq_by_cmp pos_cmp (row_pos key) (row_pos e.0) ≡ b → AllByRecursion (IsRowOf schema key) (map (λ (q : List Comp × Row). q.1) (cond b (e ∷ filter (λ q. eq_by_cmp pos_cmp (row_pos key) (row_pos q.0)) es) (filter (λ q. eq_by_cmp pos_cmp (row_pos key) (row_pos q.0)) es)))) [
          | true ↦ λ q. (at-key e (pos_cmp_same (row_pos key) (row_pos e.0) (is-tied (pos_cmp (row_pos key) (row_pos e.0)) q)) h.0, rows-there es h.1)
          | false ↦ λ q. rows-there es h.1
        ] refl

    joined-of : (rows : List Row) → AllByRecursion (IsRowOf schema key) rows → joined_row rows ≢ empty_row → IsRowOf schema key (joined_row rows)
    joined-of [] h some = absurd (some joined_row-none)
    joined-of (r ∷ rows) h some = (h.0.0, cells-joined false (r ∷ rows) (all-wider (IsRowOf schema key) (λ row. are_cells_of (length schema.cols) row.cells ≡ true) (r ∷ rows) (λ row k. k.1) h))

  module _ (writes : List Mutation) (fit : All (ChangeFits schema) writes) where
    row-of : (key : List Comp) (row : Row) (tomb : Option Tomb) → source_at writes (row_pos key) ≡ (row, tomb) → row ≢ empty_row → IsRowOf schema key row
    row-of key row tomb said some =
        let rows = rows_in (row_pos key) (all_rows writes) in
        let is : joined_row rows ≡ row = ap (λ (a : Row × Option Tomb). a.0) said in
        subst (IsRowOf schema key) is (joined-of key rows (rows-there key (all_rows writes) (rows-fit writes (by-recursion (ChangeFits schema) writes fit))) (λ e. some (sym is ∙ e)))

    pub static-of : (row : Row) → source_at_static writes ≡ row → IsStaticOf schema row × IsRow row
    static-of row said =
        let rows = static_rows writes in
        let all = statics-fit writes (by-recursion (ChangeFits schema) writes fit) in
        let is : IsStaticOf schema (joined_row rows) = (
          joined_marker rows (all-wider (IsStaticOf schema) (λ r. r.marker ≡ None) rows (λ r k. k.0) all),
          joined_tomb rows (all-wider (IsStaticOf schema) (λ r. r.tomb ≡ None) rows (λ r k. k.1) all),
          cells-joined true rows (all-wider (IsStaticOf schema) (λ r. are_cells_of (length schema.statics) r.cells ≡ true) rows (λ r k. k.2) all),
        ) in (subst (IsStaticOf schema) said is, subst IsRow said (IsRow-joined_row rows))

    pub given-static : IfSome (filled_statics (source_at_static writes)) (λ row. IsStaticOf schema row × IsRow row)
    given-static = elim (is_written (source_at_static writes)) as (λ b. IfSome (cond b (Some (source_at_static writes)) None) (λ row. IsStaticOf schema row × IsRow row)) [
      | true ↦ static-of (source_at_static writes) refl
      | false ↦ tt
    ]

    -- ---- what the newest version knows

    module _ (other : SchemaValue) (older : List Version) (v : Version) (is : IsVersion v) (on : IsContinuous None writes (older ++ v ∷ [])) (held : HoldsRowsOf other v) where
      said-there : (x : Pos) → (state_at (On x) v).flag ≡ Known → joined_state (state_at (On x) v) ≡ source_at writes x
      said-there x known = sym (content-known (state_at (On x)) older v known) ∙ on.clustered x tt (flagged-known (state_at (On x)) older v known)

      known-row : (front : List Entry) (e : Entry) (back : List Entry) → v.entries ≡ front ++ e ∷ back → e.at.flag ≡ Known → (o : Option Row) → e.row ≡ o → ((row : Row) → o ≡ Some row → row ≢ empty_row) →
          IfSome o (λ row. (e.position ≡ row_pos e.position.prefix) × IsRowOf other e.position.prefix row × IsRow row) → IfSome o (λ row. (e.position ≡ row_pos e.position.prefix) × IsRowOf schema e.position.prefix row × IsRow row)
      known-row front e back parts known None has some k = tt
      known-row front e back parts known (Some row) has some k =
          let state : state_at (On e.position) v ≡ state_of (finding_of e.at e.row) = ap state_of (ap (finding_in (On e.position)) parts ∙ seen-on front e back (subst Ascend parts is.ascend)) in
          let said : joined_state (state_of (finding_of e.at e.row)) ≡ source_at writes e.position = sym (ap joined_state state) ∙ said-there e.position (ap (λ (c : SpotState). c.flag) state ∙ known) in
          let rows : (source_at writes e.position).0 ≡ row = ap (λ (a : Row × Option Tomb). a.0) (sym said) ∙ ap (λ o. joined_row (option_to_list o)) has ∙ joined_row-one row k.2 in
          (k.0, row-of e.position.prefix row (source_at writes e.position).1 (subst (λ y. source_at writes y ≡ (row, (source_at writes e.position).1)) k.0 (λ i. (rows i, (source_at writes e.position).1))) (some row refl), k.2)

      entry-settles : (front : List Entry) (e : Entry) (back : List Entry) → v.entries ≡ front ++ e ∷ back → HasOrKnows schema e → HasRowOf other e → HasRowOf schema e
      entry-settles front e back parts (inl h) k = h
      entry-settles front e back parts (inr h) k = known-row front e back parts h.0 e.row refl h.1 k

      entries-settle : (front back : List Entry) → v.entries ≡ front ++ back → EachEntry (HasOrKnows schema) back → EachEntry (HasRowOf other) back → EachEntry (HasRowOf schema) back
      entries-settle front [] parts h k = tt
      entries-settle front (e ∷ back) parts h k = (entry-settles front e back parts h.0 k.0, entries-settle (front ++ e ∷ []) back (parts ∙ sym (append_assoc front (e ∷ []) back)) h.1 k.1)

      known-static : (o : Option Row) → v.statics ≡ o → v.static_flag ≡ Known → IfSome o (λ row. IsStaticOf other row × IsRow row) → IfSome o (λ row. IsStaticOf schema row × IsRow row)
      known-static None has known k = tt
      known-static (Some row) has known k =
          let said : joined_state (static_state v) ≡ (source_at_static writes, None) = sym (content-known static_state older v known) ∙ on.statics tt (flagged-known static_state older v known) in
          static-of row (ap (λ (a : Row × Option Tomb). a.0) (sym said) ∙ ap (λ o. joined_row (option_to_list o)) has ∙ joined_row-one row k.1)

      statics-settle : IfSome v.statics (λ row. IsStaticOf schema row × IsRow row) ⊎ (v.static_flag ≡ Known) → IfSome v.statics (λ row. IsStaticOf schema row × IsRow row)
      statics-settle (inl h) = h
      statics-settle (inr known) = known-static v.statics refl known held.statics

      pub newest-settles : HoldsOrKnows schema v → HoldsRowsOf schema v
      newest-settles h = record { entries = entries-settle [] v.entries refl h.entries held.entries; statics = statics-settle h.statics }
