-- Where the rows do not fit, what is written does not.
use Rattle.std.proofs.Common.{rules}
use Rattle.std.specs.Prelude.{All, IsTrue}
use Rattle.rc_writes.specs.Allowed.{IsRowOf}
use Rattle.rc_writes.proofs.allowed.change_fits.Goals as goal

pub returns-then-not-rows_fit : goal.returns-then-not-rows_fit
returns-then-not-rows_fit c = (
  λ h. cc,
  λ fits.
      let each : All (λ e. IsRowOf c.args.schema.now e.0 e.1) c.as_slice.result.now = (let rows = fits.rows in search rules) in
      let yes : IsTrue c.rows_fit.result = c.rows_fit.ensures.1 each in
      search rules,
)
