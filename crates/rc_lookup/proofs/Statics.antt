-- A static row that fits a schema fits an object.
use Rattle.std.proofs.Common.{◌≤◌, ◌/◌, ℕ, true, false, cond, Some, None, arith}
use Rattle.std.specs.Prelude.{IsTrue}
use Rattle.rc_rowcode.specs.Spelling.{RowFits}
use Rattle.rc_schema.specs.SchemaValue.{SchemaValue, is_schema}
use Rattle.rc_schema.specs.laws.Fitting.{cells_fit, cells_pass, static_within}
use Rattle.rc_mutation.specs.declared.mutations.Mutation.{Mutation}
use Rattle.rc_mutation.specs.Fragments.{is_written}
use Rattle.rc_mutation.specs.Source.{IsMutation}
use Rattle.rc_writes.specs.Allowed.{ChangeFits}
use Rattle.rc_version.specs.Versions.{statics_bytes}
use Rattle.rc_cached.specs.Writes.{AreSmall}
use Rattle.rc_cached.specs.Filling.{filled_statics}

module _ (S : ℕ) (schema : SchemaValue) (limits : IsTrue (is_schema schema)) (small : AreSmall S schema) (m : Mutation) (is : IsMutation m) (fits : ChangeFits schema m) where
  pub statics-fit : RowFits m.statics
  statics-fit = cells_fit true schema m.statics.cells limits (cells_pass true schema m.statics.cells fits.statics.2)

  pub statics-small : statics_bytes (filled_statics m.statics) ≤ S / 8
  statics-small =
      let within = static_within schema m.statics limits fits.statics.0 fits.statics.1 (cells_pass true schema m.statics.cells fits.statics.2) is.statics in
      let least = small.statics in
      elim (is_written m.statics) as (λ b. statics_bytes (cond b (Some m.statics) None) ≤ S / 8) [ true ↦ omega (arith, within, least) | false ↦ omega arith ]
