-- What a chain of a schema holds fits an eighth of a segment.
use Rattle.std.proofs.Common.{inl, inr, ◌≡◌, ◌≤◌, ℕ, true, false, List, [], ◌∷◌, Option, Some, None, length, sym, subst, arith}
use Rattle.std.specs.Prelude.{Contains, IfSome, IsTrue}
use Rattle.std.specs.List.{AllByRecursion}
use Rattle.rc_cell.specs.declared.rows.Row.{Row}
use Rattle.rc_cell.specs.Winner.{IsRow, joined_row}
use Rattle.rc_cell.specs.laws.{IsRow-joined_row}
use Rattle.rc_cell.specs.laws.Each.{joined_marker, joined_tomb}
use Rattle.rc_position.specs.declared.comps.Comp.{Comp}
use Rattle.rc_position.specs.declared.positions.Pos.{Pos}
use Rattle.rc_position.specs.Position.{row_pos}
use Rattle.rc_rowcode.specs.Objects.{static_size}
use Rattle.rc_schema.specs.SchemaValue.{SchemaValue, is_schema}
use Rattle.rc_schema.specs.Checks.{are_cells_of}
use Rattle.rc_schema.specs.Largest.{largest_entry, largest_static}
use Rattle.rc_schema.specs.laws.Fitting.{cells_pass, dummy_within, entry_within, key_passes, static_within}
use Rattle.rc_writes.specs.Allowed.{IsRowOf, IsStaticOf}
use Rattle.rc_core.specs.declared.entries.Entry.{Entry}
use Rattle.rc_core.specs.AtPlace.{EachEntry}
use Rattle.rc_core.specs.Continuity.{EachOf}
use Rattle.rc_core.specs.Version.{Version}
use Rattle.rc_version.specs.Versions.{bytes_at}
use Rattle.rc_partition.specs.laws.Lists.{elem-cases, elem-first, elem-later, elem-none}
use Rattle.rc_memory.specs.Room.{FitTogether, HasRowAt, HasStaticRow}
use Rattle.rc_memtable.specs.Fits.{IsEntryUnder, IsVersionUnder}
use Rattle.rc_memtable.specs.Writes.{AreSmall}
use Rattle.rc_memtable.proofs.Fitting.{cells-joined}

-- what holds of each holds of one of them
each-in : (P : Version → Type 0) (vs : List Version) → EachOf P vs → (v : Version) → Contains vs v → P v
each-in P [] h v on = absurd (elem-none v on)
each-in P (w ∷ vs) h v on = elim (elem-cases w v vs on) [ inl same ↦ subst P same h.0 | inr later ↦ each-in P vs h.1 v later ]

entry-in : (P : Entry → Type 0) (es : List Entry) → EachEntry P es → (e : Entry) → Contains es e → P e
entry-in P [] h e on = absurd (elem-none e on)
entry-in P (f ∷ es) h e on = elim (elem-cases f e es on) [ inl same ↦ subst P same h.0 | inr later ↦ entry-in P es h.1 e later ]

-- what holds of whatever is among some holds of each
all-in : (P : Row → Type 0) (rows : List Row) → ((row : Row) → Contains rows row → P row) → AllByRecursion P rows
all-in P [] h = tt
all-in P (row ∷ rows) h = (h row (elem-first row rows), all-in P rows (λ r on. h r (elem-later row r rows on)))

module _ (schema : SchemaValue) (limits : IsTrue (is_schema schema)) where
  -- an entry of a row of the schema
  pub entry-small : (key : List Comp) (row : Row) → IsRowOf schema key row → IsRow row → bytes_at (row_pos key) (Some row) ≤ largest_entry schema
  entry-small key row h up = entry_within schema key row limits (key_passes true schema key h.0) (cells_pass false schema row.cells h.1) up

  pub static-small : (row : Row) → IsStaticOf schema row → IsRow row → static_size row ≤ largest_static schema
  static-small row h up = static_within schema row limits h.0 h.1 (cells_pass true schema row.cells h.2) up

  -- the row of an entry at a position is of the schema, and the position is that of its key
  row-has : (vs : List Version) → EachOf (IsVersionUnder schema) vs → (x : Pos) (row : Row) → HasRowAt vs x row → IsRowOf schema x.prefix row × (x ≡ row_pos x.prefix)
  row-has vs h x row has =
      let e = (entry-in (IsEntryUnder schema) has.0.entries (each-in (IsVersionUnder schema) vs h has.0 has.2).entries has.1 has.3).row in
      let r = subst (λ (o : Option Row). IfSome o (λ r. (has.1.position ≡ row_pos has.1.position.prefix) × IsRowOf schema has.1.position.prefix r × IsRow r)) has.5 e in
      subst (λ (y : Pos). IsRowOf schema y.prefix row × (y ≡ row_pos y.prefix)) has.4 (r.1, r.0)

  static-has : (vs : List Version) → EachOf (IsVersionUnder schema) vs → (row : Row) → HasStaticRow vs row → IsStaticOf schema row
  static-has vs h row has = (subst (λ (o : Option Row). IfSome o (λ r. IsStaticOf schema r × IsRow r)) has.2 (each-in (IsVersionUnder schema) vs h has.0 has.1).statics).0

  module _ (S : ℕ) (small : AreSmall S schema) where
    pub fit-together : (vs : List Version) → EachOf (IsVersionUnder schema) vs → FitTogether S vs
    fit-together vs h = record {
      rows = λ x one rows each.
          let first = row-has vs h x one (each one (elem-first one rows)) in
          let cells = cells-joined schema false (one ∷ rows) (all-in (λ row. are_cells_of (length schema.cols) row.cells ≡ true) (one ∷ rows) (λ row on. (row-has vs h x row (each row on)).0.1)) in
          let within = entry-small x.prefix (joined_row (one ∷ rows)) (first.0.0, cells) (IsRow-joined_row (one ∷ rows)) in
          let here : bytes_at x (Some (joined_row (one ∷ rows))) ≤ largest_entry schema = subst (λ (y : Pos). bytes_at y (Some (joined_row (one ∷ rows))) ≤ largest_entry schema) (sym first.1) within in
          omega (arith, here, small.entry);
      statics = λ one rows each.
          let all = all-in (IsStaticOf schema) (one ∷ rows) (λ row on. static-has vs h row (each row on)) in
          let marker = joined_marker (one ∷ rows) (all-in (λ row. row.marker ≡ None) (one ∷ rows) (λ row on. (static-has vs h row (each row on)).0)) in
          let tomb = joined_tomb (one ∷ rows) (all-in (λ row. row.tomb ≡ None) (one ∷ rows) (λ row on. (static-has vs h row (each row on)).1)) in
          let cells = cells-joined schema true (one ∷ rows) (all-in (λ row. are_cells_of (length schema.statics) row.cells ≡ true) (one ∷ rows) (λ row on. (static-has vs h row (each row on)).2)) in
          let within = static-small (joined_row (one ∷ rows)) (marker, tomb, cells) (IsRow-joined_row (one ∷ rows)) in
          omega (arith, within, small.statics);
      positions = λ v e on in_v.
          let within = dummy_within false schema e.position (key_passes false schema e.position.prefix (entry-in (IsEntryUnder schema) v.entries (each-in (IsVersionUnder schema) vs h v on).entries e in_v).position) in
          omega (arith, within, small.entry);
    }
