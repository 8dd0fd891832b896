-- Rows of a schema stay such, where objects are evicted and where rows of the schema are filled; and what they make fits an eighth of a segment.
use Rattle.std.proofs.Common.{◌≡◌, ◌≤◌, ◌/◌, ℕ, Bool, true, false, cond, List, [], ◌∷◌, Option, Some, None, Ok, length, refl, sym, ap, ◌∙◌, subst, arith}
use Rattle.std.specs.Prelude.{Contains, IfSome, IsTrue}
use Rattle.std.specs.List.{AllByRecursion}
use Rattle.std.specs.Ordering.{eq_by_cmp}
use Rattle.std.specs.Result.{is_ok}
use Rattle.rc_cell.specs.declared.rows.Row.{Row}
use Rattle.rc_cell.specs.declared.writes.Tomb.{Tomb}
use Rattle.rc_cell.specs.Winner.{IsRow, joined_row}
use Rattle.rc_cell.specs.laws.{IsRow-joined_row}
use Rattle.rc_cell.specs.laws.Each.{joined_marker, joined_tomb}
use Rattle.rc_position.specs.declared.comps.Comp.{Comp}
use Rattle.rc_position.specs.declared.positions.Pos.{Pos}
use Rattle.rc_position.specs.Position.{pos_cmp, row_pos}
use Rattle.rc_position.specs.laws.Orders.{pos_cmp_same}
use Rattle.rc_rowcode.specs.Objects.{dummy_size, static_size}
use Rattle.rc_schema.specs.SchemaValue.{SchemaValue, is_schema}
use Rattle.rc_schema.specs.Checks.{are_cells_of, checked_cells, column_count}
use Rattle.rc_schema.specs.Largest.{largest_entry, largest_static}
use Rattle.rc_schema.specs.laws.Fitting.{cells_pass, cells_tested, entry_within, joined_fits, key_passes, static_within}
use Rattle.rc_writes.specs.Allowed.{IsRowOf, IsStaticOf}
use Rattle.rc_mutation.specs.Fragments.{is_written}
use Rattle.rc_core.specs.declared.entries.Entry.{Entry}
use Rattle.rc_core.specs.declared.entries.Flag.TheVariants.{Known}
use Rattle.rc_core.specs.AtPlace.{EachEntry}
use Rattle.rc_core.specs.Change.{drop_at, entry_changed, gap_split, joined_onto, known_with, lose_last_gap, lost_mark, mark, with_mark, with_row}
use Rattle.rc_core.specs.Continuity.{EachOf, fill_statics, joined_options}
use Rattle.rc_core.specs.Steps.{gap_filled, row_filled, row_joined}
use Rattle.rc_core.specs.Version.{Version, end_position}
use Rattle.rc_version.specs.Versions.{bytes_at}
use Rattle.rc_partition.specs.laws.Lists.{elem-first, elem-later}
use Rattle.rc_memory.specs.Room.{FitTogether, HasRowAt, HasStaticRow}
use Rattle.rc_memtable.specs.Writes.{AreSmall}
use Rattle.rc_evict.specs.Evictions.{evicted_at}
use Rattle.rc_populate.specs.Filling.{filled_statics}
use Rattle.rc_filler.specs.Stands.{HasRowOf, HoldsRowsOf}
use Rattle.rc_filler.proofs.Entries.{each-map, entry-in, is-tied, last-gap-each, split-each, taken-each, version-in}

-- what holds of whatever is among some holds of each
all-in : (P : Row → Type 0) (rows : List Row) → ((row : Row) → Contains rows row → P row) → AllByRecursion P rows
all-in P [] h = tt
all-in P (row ∷ rows) h = (h row (elem-first row rows), all-in P rows (λ r on. h r (elem-later row r rows on)))

module _ (schema : SchemaValue) where
  -- rows of the schema are one as one
  all-pass : (is_static : Bool) (rows : List Row) → AllByRecursion (λ r. are_cells_of (column_count is_static schema) r.cells ≡ true) rows → AllByRecursion (λ r. checked_cells is_static schema r.cells ≡ Ok tt) rows
  all-pass is_static [] h = tt
  all-pass is_static (r ∷ rows) h = (cells_pass is_static schema r.cells h.0, all-pass is_static rows h.1)

  pub cells-joined : (is_static : Bool) (rows : List Row) → AllByRecursion (λ r. are_cells_of (column_count is_static schema) r.cells ≡ true) rows → are_cells_of (column_count is_static schema) (joined_row rows).cells ≡ true
  cells-joined is_static rows h = sym (cells_tested is_static schema (joined_row rows).cells) ∙ ap is_ok (joined_fits is_static schema rows (all-pass is_static rows h))

  -- ---- evicted

  pub evicted-rows : (at : Option Pos) (v : Version) → HoldsRowsOf schema v → HoldsRowsOf schema (evicted_at at v)
  evicted-rows None v h = record { entries = h.entries; statics = tt }
  evicted-rows (Some x) v h = record {
    entries = elim (eq_by_cmp pos_cmp x end_position) as (λ b. EachEntry (HasRowOf schema) (cond b (lose_last_gap v.entries) (drop_at x v.entries))) [
      | true ↦ last-gap-each (HasRowOf schema) (λ m e k. k) v.entries h.entries
      | false ↦ taken-each (HasRowOf schema) (λ m e k. k) lost_mark x v.entries h.entries
    ];
    statics = h.statics;
  }

  -- ---- filled

  pub gap-rows : (from to : Pos) (tomb : Option Tomb) (v : Version) → HoldsRowsOf schema v → HoldsRowsOf schema (gap_filled from to tomb v)
  gap-rows from to tomb v h = record {
    entries = each-map (HasRowOf schema) (entry_changed (λ m. mark Known tomb) from to) (λ e k. k) (gap_split to (gap_split from v.entries))
        (split-each (HasRowOf schema) to (λ m. tt) (gap_split from v.entries) (split-each (HasRowOf schema) from (λ m. tt) v.entries h.entries));
    statics = h.statics;
  }

  joined-row : (key : List Comp) (o : Option Row) (row : Row) → IfSome o (λ r. IsRowOf schema key r × IsRow r) → IsRowOf schema key row → IsRow row → IsRowOf schema key (joined_onto o row) × IsRow (joined_onto o row)
  joined-row key None row k h up = (h, up)
  joined-row key (Some r) row k h up = ((h.0, cells-joined false (r ∷ row ∷ []) (k.0.1, (h.1, tt))), IsRow-joined_row (r ∷ row ∷ []))

  joined-static : (o : Option Row) (row : Row) → IfSome o (λ r. IsStaticOf schema r × IsRow r) → IsStaticOf schema row → IsRow row → IsStaticOf schema (joined_onto o row) × IsRow (joined_onto o row)
  joined-static None row k h up = (h, up)
  joined-static (Some r) row k h up = ((joined_marker (r ∷ row ∷ []) (k.0.0, (h.0, tt)), joined_tomb (r ∷ row ∷ []) (k.0.1, (h.1, tt)), cells-joined true (r ∷ row ∷ []) (k.0.2, (h.2, tt))), IsRow-joined_row (r ∷ row ∷ []))

  row-at : (key : List Comp) (x : Pos) (o : Option Row) → x ≡ row_pos key → IfSome o (λ row. (x ≡ row_pos x.prefix) × IsRowOf schema x.prefix row × IsRow row) → IfSome o (λ r. IsRowOf schema key r × IsRow r)
  row-at key x None e h = tt
  row-at key x (Some r) e h = (subst (λ (k : List Comp). IsRowOf schema k r) (ap (λ (y : Pos). y.prefix) e) h.1, h.2)

  joined-entry : (key : List Comp) (row : Row) → IsRowOf schema key row → IsRow row → (e : Entry) → row_pos key ≡ e.position → HasRowOf schema e → HasRowOf schema (with_row row e)
  joined-entry key row h up e at is =
      let j = joined-row key e.row row (row-at key e.position e.row (sym at) is) h up in
      subst (λ (y : Pos). (y ≡ row_pos y.prefix) × IsRowOf schema y.prefix (joined_onto e.row row) × IsRow (joined_onto e.row row)) at (refl, j.0, j.1)

  pub joined-rows : (key : List Comp) (row : Row) → IsRowOf schema key row → IsRow row → (v : Version) → HoldsRowsOf schema v → HoldsRowsOf schema (row_joined (row_pos key) row v)
  joined-rows key row h up v is = record {
    entries = each-map (HasRowOf schema) (λ e. cond (eq_by_cmp pos_cmp (row_pos key) e.position) (with_row row e) e)
        (λ e k. elim (eq_by_cmp pos_cmp (row_pos key) e.position) as (λ b. eq_by_cmp pos_cmp (row_pos key) e.position ≡ b → HasRowOf schema (cond b (with_row row e) e)) [
          | true ↦ λ q. joined-entry key row h up e (pos_cmp_same (row_pos key) e.position (is-tied (pos_cmp (row_pos key) e.position) q)) k
          | false ↦ λ q. k
        ] refl)
        (gap_split (row_pos key) v.entries) (split-each (HasRowOf schema) (row_pos key) (λ m. tt) v.entries is.entries);
    statics = is.statics;
  }

  pub row-rows : (key : List Comp) (row : Row) (tomb : Option Tomb) → IsRowOf schema key row → IsRow row → (v : Version) → HoldsRowsOf schema v → HoldsRowsOf schema (row_filled (row_pos key) row tomb v)
  row-rows key row tomb h up v is = let joined = joined-rows key row h up v is in record {
    entries = each-map (HasRowOf schema) (λ e. cond (eq_by_cmp pos_cmp (row_pos key) e.position) (with_mark (known_with tomb) e) e)
        (λ e k. elim (eq_by_cmp pos_cmp (row_pos key) e.position) as (λ b. HasRowOf schema (cond b (with_mark (known_with tomb) e) e)) [ true ↦ k | false ↦ k ])
        (row_joined (row_pos key) row v).entries joined.entries;
    statics = is.statics;
  }

  pub static-rows : (row : Row) → IsStaticOf schema row → IsRow row → (v : Version) → HoldsRowsOf schema v → HoldsRowsOf schema (fill_statics (filled_statics row) v)
  static-rows row h up v is = record {
    entries = is.entries;
    statics = elim (is_written row) as (λ b. IfSome (joined_options v.statics (cond b (Some row) None)) (λ r. IsStaticOf schema r × IsRow r)) [
      | true ↦ joined-static v.statics row is.statics h up
      | false ↦ is.statics
    ];
  }

  -- ---- small

  module _ (limits : IsTrue (is_schema schema)) where
    pub entry-small : (key : List Comp) (row : Row) → IsRowOf schema key row → IsRow row → bytes_at (row_pos key) (Some row) ≤ largest_entry schema
    entry-small key row h up = entry_within schema key row limits (key_passes true schema key h.0) (cells_pass false schema row.cells h.1) up

    pub static-small : (row : Row) → IsStaticOf schema row → IsRow row → static_size row ≤ largest_static schema
    static-small row h up = static_within schema row limits h.0 h.1 (cells_pass true schema row.cells h.2) up

    row-has : (vs : List Version) → EachOf (HoldsRowsOf schema) vs → (x : Pos) (row : Row) → HasRowAt vs x row → IsRowOf schema x.prefix row × (x ≡ row_pos x.prefix)
    row-has vs h x row has =
        let e = entry-in (HasRowOf schema) has.0.entries (version-in (HoldsRowsOf schema) vs h has.0 has.2).entries has.1 has.3 in
        let r = subst (λ (o : Option Row). IfSome o (λ r. (has.1.position ≡ row_pos has.1.position.prefix) × IsRowOf schema has.1.position.prefix r × IsRow r)) has.5 e in
        subst (λ (y : Pos). IsRowOf schema y.prefix row × (y ≡ row_pos y.prefix)) has.4 (r.1, r.0)

    static-has : (vs : List Version) → EachOf (HoldsRowsOf schema) vs → (row : Row) → HasStaticRow vs row → IsStaticOf schema row
    static-has vs h row has = (subst (λ (o : Option Row). IfSome o (λ r. IsStaticOf schema r × IsRow r)) has.2 (version-in (HoldsRowsOf schema) vs h has.0 has.1).statics).0

    pub fit-together : (S : ℕ) → AreSmall S schema → (vs : List Version) → EachOf (HoldsRowsOf schema) vs → EachOf (λ v. EachEntry (λ e. dummy_size e.position ≤ S / 8) v.entries) vs → FitTogether S vs
    fit-together S small vs h dummies = record {
      rows = λ x one rows each.
          let first = row-has vs h x one (each one (elem-first one rows)) in
          let cells = cells-joined false (one ∷ rows) (all-in (λ row. are_cells_of (length schema.cols) row.cells ≡ true) (one ∷ rows) (λ row on. (row-has vs h x row (each row on)).0.1)) in
          let within = entry-small x.prefix (joined_row (one ∷ rows)) (first.0.0, cells) (IsRow-joined_row (one ∷ rows)) in
          let here : bytes_at x (Some (joined_row (one ∷ rows))) ≤ largest_entry schema = subst (λ (y : Pos). bytes_at y (Some (joined_row (one ∷ rows))) ≤ largest_entry schema) (sym first.1) within in
          omega (arith, here, small.entry);
      statics = λ one rows each.
          let marker = joined_marker (one ∷ rows) (all-in (λ row. row.marker ≡ None) (one ∷ rows) (λ row on. (static-has vs h row (each row on)).0)) in
          let tomb = joined_tomb (one ∷ rows) (all-in (λ row. row.tomb ≡ None) (one ∷ rows) (λ row on. (static-has vs h row (each row on)).1)) in
          let cells = cells-joined true (one ∷ rows) (all-in (λ row. are_cells_of (length schema.statics) row.cells ≡ true) (one ∷ rows) (λ row on. (static-has vs h row (each row on)).2)) in
          let within = static-small (joined_row (one ∷ rows)) (marker, tomb, cells) (IsRow-joined_row (one ∷ rows)) in
          omega (arith, within, small.statics);
      positions = λ v e on in_v. entry-in (λ e. dummy_size e.position ≤ S / 8) v.entries (version-in (λ v. EachEntry (λ e. dummy_size e.position ≤ S / 8) v.entries) vs dummies v on) e in_v;
    }
