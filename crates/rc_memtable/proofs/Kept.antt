-- A chain keeps its changes: with one more joined into the newest version, and with a version over the others.
use Rattle.std.proofs.Common.{◌≡◌, ◌<◌, ℕ, suc, false, List, [], ◌∷◌, ◌++◌, None, length, refl, sym, ap, subst}
use Rattle.rc_cell.specs.declared.rows.Row.{Row}
use Rattle.rc_cell.specs.declared.writes.Tomb.{Tomb}
use Rattle.rc_cell.specs.Winner.{IsRow}
use Rattle.rc_position.specs.declared.comps.Comp.{Comp}
use Rattle.rc_position.specs.declared.positions.Pos.{Pos}
use Rattle.rc_position.specs.Position.{Head, row_pos}
use Rattle.rc_schema.specs.SchemaValue.{SchemaValue}
use Rattle.rc_writes.specs.Allowed.{IsRangeBound, IsRowOf, IsStaticOf}
use Rattle.rc_mutation.specs.declared.mutations.Mutation.{Mutation}
use Rattle.rc_core.specs.declared.entries.Flag.{Flag}
use Rattle.rc_core.specs.declared.entries.Flag.TheVariants.{Inherit}
use Rattle.rc_core.specs.Chains.{AllInherit, IsMemtableChain, Shown, at_place, upto}
use Rattle.rc_core.specs.Continuity.{EachOf}
use Rattle.rc_core.specs.StandsFor.{StandsFor, written_pt, written_range, written_row, written_statics}
use Rattle.rc_core.specs.Steps.{IsChain, join_flagged_statics, join_pt, join_statics, on_newest, range_joined, row_joined}
use Rattle.rc_core.specs.Version.{Version}
use Rattle.rc_core.specs.laws.MemtableChains.{added-memtable}
use Rattle.rc_core.specs.laws.Memtables.{pt-memtable, range-memtable, row-memtable, statics-memtable}
use Rattle.rc_core.specs.laws.Standing.{Stand, stand-older}
use Rattle.rc_core.specs.laws.Surgery.{each-of-both}
use Rattle.rc_core.specs.laws.Written.{added-stands, pt-written, range-written, row-written, statics-written}
use Rattle.rc_memory.specs.Memory.{on_version_of, shown_with}
use Rattle.rc_chain.specs.Lives.{with_version_over}
use Rattle.rc_chain.specs.laws.Numbered.{on-newest}
use Rattle.rc_chain.specs.laws.PlaceBeside.{added-beside}
use Rattle.rc_memtable.specs.Fits.{IsVersionUnder}
use Rattle.rc_memtable.specs.Changes.{KeepsChanges}
use Rattle.rc_memtable.proofs.Fitting.{new-fits, on-fits, pt-fits, range-fits, row-fits, statics-fit}

-- a static row joined with the flag Inherit, where that is the flag
inherit-joined : (row : Row) (v : Version) → AllInherit v → join_flagged_statics row Inherit v ≡ join_statics row v
inherit-joined row v h = let flag : v.static_flag ≡ Inherit = h.statics in ap (λ (f : Flag). join_flagged_statics row f v) (sym flag)

newest-alike : (row : Row) (vs : List Version) → EachOf AllInherit vs → on_newest (join_statics row) vs ≡ on_newest (join_flagged_statics row Inherit) vs
newest-alike row [] h = refl
newest-alike row (v ∷ []) h = ap (λ w. w ∷ []) (sym (inherit-joined row v h.0))
newest-alike row (v ∷ w ∷ vs) h = ap (λ us. v ∷ us) (newest-alike row (w ∷ vs) h.1)

module _ (schema : SchemaValue) (c : Shown) (j : ℕ) (newest : suc j ≡ length c.versions) (form : IsChain (at_place Head c)) (changes : List Mutation) (k : KeepsChanges schema c changes) where
  written-by : (f : Version → Version) (write : Mutation) → IsMemtableChain (at_place Head (shown_with (on_newest f c.versions) c)) → StandsFor (changes ++ write ∷ []) (on_newest f c.versions) → ((v : Version) → IsVersionUnder schema v → IsVersionUnder schema (f v)) →
      KeepsChanges schema (on_version_of j f c) (changes ++ write ∷ [])
  written-by f write m s fits = let same = sym (on-newest j f c.versions newest) in record {
    kind = k.kind;
    attached = k.attached;
    form = subst (λ (vs : List Version). IsMemtableChain (at_place Head (shown_with vs c))) same m;
    stands = subst (StandsFor (changes ++ write ∷ [])) same s;
    fits = on-fits schema j f fits c.versions k.fits;
  }

  pub row-kept : (key : List Comp) (row : Row) → IsRowOf schema key row → IsRow row → KeepsChanges schema (on_version_of j (row_joined (row_pos key) row) c) (changes ++ written_row key row ∷ [])
  row-kept key row h up = written-by (row_joined (row_pos key) row) (written_row key row) (row-memtable (at_place Head c) j newest form k.attached k.form (row_pos key) row)
      (row-written (at_place Head c) j newest form k.form changes key row k.stands) (row-fits schema key row h up)

  pub range-kept : (from to : Pos) (tomb : Tomb) → IsRangeBound schema from → IsRangeBound schema to → KeepsChanges schema (on_version_of j (range_joined from to tomb) c) (changes ++ written_range from to tomb ∷ [])
  range-kept from to tomb f t = written-by (range_joined from to tomb) (written_range from to tomb) (range-memtable (at_place Head c) j newest form k.attached k.form from to tomb)
      (range-written (at_place Head c) j newest form k.form changes from to tomb k.stands) (range-fits schema from to tomb f t)

  pub pt-kept : (tomb : Tomb) → KeepsChanges schema (on_version_of j (join_pt tomb) c) (changes ++ written_pt tomb ∷ [])
  pt-kept tomb = written-by (join_pt tomb) (written_pt tomb) (pt-memtable (at_place Head c) j newest form k.attached k.form tomb)
      (pt-written (at_place Head c) j newest form k.form changes tomb k.stands) (pt-fits schema tomb)

  pub statics-kept : (row : Row) → IsStaticOf schema row → IsRow row → KeepsChanges schema (on_version_of j (join_flagged_statics row Inherit) c) (changes ++ written_statics row ∷ [])
  statics-kept row h up = let same = newest-alike row c.versions k.form.flags in written-by (join_flagged_statics row Inherit) (written_statics row)
      (subst (λ (vs : List Version). IsMemtableChain (at_place Head (shown_with vs c))) same (statics-memtable (at_place Head c) j newest form k.attached k.form row))
      (subst (StandsFor (changes ++ written_statics row ∷ [])) same (statics-written (at_place Head c) j newest form k.form changes row k.stands)) (statics-fit schema row Inherit h up)

  pub over-kept : (phase : ℕ) → c.updating ≡ false → KeepsChanges schema (with_version_over phase c) changes
  over-kept phase settled = record {
    kind = k.kind;
    attached = k.attached;
    form = subst IsMemtableChain (sym (added-beside Head phase c k.kind settled)) (added-memtable (at_place Head c) j None phase newest form k.attached k.form);
    stands = added-stands changes c.versions phase k.stands;
    fits = each-of-both (IsVersionUnder schema) c.versions _ k.fits (new-fits schema phase, tt);
  }

-- each version up to an older one is as it was
pub over-below : (phase j : ℕ) (c : Shown) → j < length c.versions → upto (with_version_over phase c).versions j ≡ upto c.versions j
over-below phase j c low = ap (λ (s : Stand). s.1) (stand-older j c.versions _ low)
