-- What is of a schema stays of it: a new version, and one into which something of the schema is joined.
use Rattle.std.proofs.Common.{◌≡◌, ℕ, zero, suc, Bool, true, false, cond, List, [], ◌∷◌, Option, Some, None, Ok, length, map, refl, sym, ap, ◌∙◌, subst}
use Rattle.std.specs.Prelude.{IfSome, ◌&&◌, ◌==◌}
use Rattle.std.specs.List.{AllByRecursion, list_all}
use Rattle.std.specs.Result.{is_ok}
use Rattle.std.specs.Ordering.{eq_by_cmp, is_eq}
use Rattle.std.specs.declared.cmp.Ordering.{Ordering}
use Rattle.std.specs.declared.cmp.Ordering.TheVariants.{Less, Equal, Greater}
use Rattle.rc_cell.specs.declared.rows.Row.{Row}
use Rattle.rc_cell.specs.declared.writes.Tomb.{Tomb}
use Rattle.rc_cell.specs.Winner.{IsRow, joined_row}
use Rattle.rc_cell.specs.laws.{IsRow-joined_row}
use Rattle.rc_cell.specs.laws.Each.{joined_marker, joined_tomb}
use Rattle.rc_position.specs.declared.comps.Comp.{Comp}
use Rattle.rc_position.specs.declared.positions.Pos.{Pos}
use Rattle.rc_position.specs.Position.{pos_cmp, row_pos}
use Rattle.rc_position.specs.laws.Orders.{pos_cmp_same}
use Rattle.rc_schema.specs.SchemaValue.{SchemaValue}
use Rattle.rc_schema.specs.Checks.{are_cells_of, are_of_kinds, checked_cells, column_count, is_key_of, is_short}
use Rattle.rc_schema.specs.laws.Fitting.{cells_pass, cells_tested, joined_fits}
use Rattle.rc_writes.specs.Allowed.{IsRangeBound, IsRowOf, IsStaticOf}
use Rattle.rc_core.specs.declared.entries.Entry.{Entry}
use Rattle.rc_core.specs.declared.entries.Flag.{Flag}
use Rattle.rc_core.specs.declared.entries.Flag.TheVariants.{Inherit}
use Rattle.rc_core.specs.declared.entries.Mark.{Mark}
use Rattle.rc_core.specs.AtPlace.{EachEntry}
use Rattle.rc_core.specs.Change.{dummy, entry_changed, gap_split, joined_onto, raised_mark, split_by, with_row}
use Rattle.rc_core.specs.Continuity.{EachOf}
use Rattle.rc_core.specs.Steps.{join_flagged_statics, join_pt, on_version, range_joined, row_joined, version_of}
use Rattle.rc_core.specs.Version.{Finding, On, Version, entry_answers, finding_in}
use Rattle.rc_memtable.specs.Fits.{IsEntryUnder, IsVersionUnder}

-- ---- entries

each-map : (P : Entry → Type 0) (g : Entry → Entry) → ((e : Entry) → P e → P (g e)) → (es : List Entry) → EachEntry P es → EachEntry P (map g es)
each-map P g keeps [] h = tt
each-map P g keeps (e ∷ es) h = (keeps e h.0, each-map P g keeps es h.1)

module _ (P : Entry → Type 0) (x : Pos) (made : (m : Mark) → P (dummy x m)) where
  split-by-each : (r : Ordering) (e : Entry) (es rest : List Entry) → EachEntry P (e ∷ es) → EachEntry P rest → EachEntry P (split_by r x e es rest)
  split-by-each Less e es rest h k = (made e.gap, h)
  split-by-each Equal e es rest h k = h
  split-by-each Greater e es rest h k = (h.0, k)

  split-each : (es : List Entry) → EachEntry P es → EachEntry P (gap_split x es)
  split-each [] h = tt
  split-each (e ∷ es) h = split-by-each (pos_cmp x e.position) e es (gap_split x es) h (split-each es h.1)

is-equal : (r : Ordering) → is_eq r ≡ true → r ≡ Equal
is-equal Less e = absurd (cc)
is-equal Equal e = refl
is-equal Greater e = absurd (cc)

module _ (schema : SchemaValue) where
  -- ---- positions

  -- a key of the schema is a prefix of one
  looser-test : (a c b : Bool) → (a && c) && b ≡ true → (a && true) && b ≡ true
  looser-test true true b h = h
  looser-test true false b h = absurd (cc)
  looser-test false c b h = absurd (cc)

  pub looser : (key : List Comp) → is_key_of true schema key ≡ true → is_key_of false schema key ≡ true
  looser key h = looser-test (are_of_kinds key schema.ck) (length key == length schema.ck) (list_all is_short key) h

  -- so is nothing of one
  pub nothing-fits : is_key_of false schema [] ≡ true
  nothing-fits = refl

  -- rows of the schema are one as one
  all-pass : (is_static : Bool) (rows : List Row) → AllByRecursion (λ r. are_cells_of (column_count is_static schema) r.cells ≡ true) rows → AllByRecursion (λ r. checked_cells is_static schema r.cells ≡ Ok tt) rows
  all-pass is_static [] h = tt
  all-pass is_static (r ∷ rows) h = (cells_pass is_static schema r.cells h.0, all-pass is_static rows h.1)

  pub cells-joined : (is_static : Bool) (rows : List Row) → AllByRecursion (λ r. are_cells_of (column_count is_static schema) r.cells ≡ true) rows → are_cells_of (column_count is_static schema) (joined_row rows).cells ≡ true
  cells-joined is_static rows h = sym (cells_tested is_static schema (joined_row rows).cells) ∙ ap is_ok (joined_fits is_static schema rows (all-pass is_static rows h))

  dummy-of : (x : Pos) → is_key_of false schema x.prefix ≡ true → (m : Mark) → IsEntryUnder schema (dummy x m)
  dummy-of x h m = record { position = h; row = tt }

  -- ---- rows joined

  joined-row : (key : List Comp) (o : Option Row) (row : Row) → IfSome o (λ r. IsRowOf schema key r × IsRow r) → IsRowOf schema key row → IsRow row → IsRowOf schema key (joined_onto o row) × IsRow (joined_onto o row)
  joined-row key None row k h up = (h, up)
  joined-row key (Some r) row k h up = ((h.0, cells-joined false (r ∷ row ∷ []) (k.0.1, (h.1, tt))), IsRow-joined_row (r ∷ row ∷ []))

  pub joined-static : (o : Option Row) (row : Row) → IfSome o (λ r. IsStaticOf schema r × IsRow r) → IsStaticOf schema row → IsRow row → IsStaticOf schema (joined_onto o row) × IsRow (joined_onto o row)
  joined-static None row k h up = (h, up)
  joined-static (Some r) row k h up = ((joined_marker (r ∷ row ∷ []) (k.0.0, (h.0, tt)), joined_tomb (r ∷ row ∷ []) (k.0.1, (h.1, tt)), cells-joined true (r ∷ row ∷ []) (k.0.2, (h.2, tt))), IsRow-joined_row (r ∷ row ∷ []))

  -- the row that an entry has, where it stands at the position of a key
  row-at : (key : List Comp) (x : Pos) (o : Option Row) → x ≡ row_pos key → IfSome o (λ row. (x ≡ row_pos x.prefix) × IsRowOf schema x.prefix row × IsRow row) → IfSome o (λ r. IsRowOf schema key r × IsRow r)
  row-at key x None e h = tt
  row-at key x (Some r) e h = (subst (λ (k : List Comp). IsRowOf schema k r) (ap (λ (y : Pos). y.prefix) e) h.1, h.2)

  joined-entry : (key : List Comp) (row : Row) → IsRowOf schema key row → IsRow row → (e : Entry) → row_pos key ≡ e.position → IsEntryUnder schema e → IsEntryUnder schema (with_row row e)
  joined-entry key row h up e at is = record {
    position = is.position;
    row = let j = joined-row key e.row row (row-at key e.position e.row (sym at) is.row) h up in subst (λ (y : Pos). (y ≡ row_pos y.prefix) × IsRowOf schema y.prefix (joined_onto e.row row) × IsRow (joined_onto e.row row)) at (refl, j.0, j.1);
  }

  pub row-fits : (key : List Comp) (row : Row) → IsRowOf schema key row → IsRow row → (v : Version) → IsVersionUnder schema v → IsVersionUnder schema (row_joined (row_pos key) row v)
  row-fits key row h up v is = record {
    statics = is.statics;
    entries = each-map (IsEntryUnder schema) (λ e. cond (eq_by_cmp pos_cmp (row_pos key) e.position) (with_row row e) e)
        (λ e k. elim (eq_by_cmp pos_cmp (row_pos key) e.position) as (λ b. eq_by_cmp pos_cmp (row_pos key) e.position ≡ b → IsEntryUnder schema (cond b (with_row row e) e)) [
          | true ↦ λ q. joined-entry key row h up e (pos_cmp_same (row_pos key) e.position (is-equal (pos_cmp (row_pos key) e.position) q)) k
          | false ↦ λ q. k
        ] refl)
        (gap_split (row_pos key) v.entries) (split-each (IsEntryUnder schema) (row_pos key) (dummy-of (row_pos key) (looser key h.0)) v.entries is.entries);
  }

  changed-entry : (from to : Pos) (tomb : Tomb) (e : Entry) → IsEntryUnder schema e → IsEntryUnder schema (entry_changed (raised_mark (Some tomb)) from to e)
  changed-entry from to tomb e is = record { position = is.position; row = is.row }

  pub range-fits : (from to : Pos) (tomb : Tomb) → IsRangeBound schema from → IsRangeBound schema to → (v : Version) → IsVersionUnder schema v → IsVersionUnder schema (range_joined from to tomb v)
  range-fits from to tomb f t v is = record {
    statics = is.statics;
    entries = each-map (IsEntryUnder schema) (entry_changed (raised_mark (Some tomb)) from to) (changed-entry from to tomb) (gap_split to (gap_split from v.entries))
        (split-each (IsEntryUnder schema) to (dummy-of to t.1) (gap_split from v.entries) (split-each (IsEntryUnder schema) from (dummy-of from f.1) v.entries is.entries));
  }

  pub statics-fit : (row : Row) (flag : Flag) → IsStaticOf schema row → IsRow row → (v : Version) → IsVersionUnder schema v → IsVersionUnder schema (join_flagged_statics row flag v)
  statics-fit row flag h up v is = record { statics = joined-static v.statics row is.statics h up; entries = is.entries }

  pub pt-fits : (tomb : Tomb) (v : Version) → IsVersionUnder schema v → IsVersionUnder schema (join_pt tomb v)
  pt-fits tomb v is = record { statics = is.statics; entries = is.entries }

  pub new-fits : (phase : ℕ) → IsVersionUnder schema (version_of Inherit None phase)
  new-fits phase = record { statics = tt; entries = (record { position = nothing-fits; row = tt }, tt) }

  -- ---- versions

  pub on-fits : (j : ℕ) (f : Version → Version) → ((v : Version) → IsVersionUnder schema v → IsVersionUnder schema (f v)) → (vs : List Version) → EachOf (IsVersionUnder schema) vs → EachOf (IsVersionUnder schema) (on_version j f vs)
  on-fits j f keeps [] h = tt
  on-fits zero f keeps (v ∷ vs) h = (keeps v h.0, h.1)
  on-fits (suc j) f keeps (v ∷ vs) h = (h.0, on-fits j f keeps vs h.1)

  -- ---- the row that a version has at a key

  answered-row : (key : List Comp) (r : Ordering) (e : Entry) (rest : Finding) → (r ≡ Equal → row_pos key ≡ e.position) → IsEntryUnder schema e → IfSome rest.row (λ q. IsRowOf schema key q × IsRow q) → IfSome (entry_answers r e rest).row (λ q. IsRowOf schema key q × IsRow q)
  answered-row key Less e rest at is k = tt
  answered-row key Equal e rest at is k = row-at key e.position e.row (sym (at refl)) is.row
  answered-row key Greater e rest at is k = k

  pub seen-row : (key : List Comp) (es : List Entry) → EachEntry (IsEntryUnder schema) es → IfSome (finding_in (On (row_pos key)) es).row (λ q. IsRowOf schema key q × IsRow q)
  seen-row key [] h = tt
  seen-row key (e ∷ es) h = answered-row key (pos_cmp (row_pos key) e.position) e (finding_in (On (row_pos key)) es) (pos_cmp_same (row_pos key) e.position) h.0 (seen-row key es h.1)

  -- the row that a version has there then
  pub joined-there : (key : List Comp) (row : Row) → IsRowOf schema key row → IsRow row → (v : Version) → IsVersionUnder schema v →
      IsRowOf schema key (joined_onto (finding_in (On (row_pos key)) v.entries).row row) × IsRow (joined_onto (finding_in (On (row_pos key)) v.entries).row row)
  joined-there key row h up v is = joined-row key (finding_in (On (row_pos key)) v.entries).row row (seen-row key v.entries is.entries) h up
