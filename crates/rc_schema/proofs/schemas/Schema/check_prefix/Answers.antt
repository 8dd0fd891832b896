-- What passes both tests is within the limits.
use Rattle.std.proofs.Common.{◌≡◌, true, IsTrue, rules}
use Rattle.std.specs.List.{list_all}
use Rattle.rc_schema.specs.SchemaValue.{is_schema}
use Rattle.rc_schema.specs.Checks.{fits_kinds, is_short}
use Rattle.rc_schema.specs.laws.Fitting.{tested_key}
use Rattle.rc_schema.proofs.schemas.Schema.check_prefix.Goals as goal

pub returns-clause-limits : goal.returns-clause-limits
returns-clause-limits c =
    let is : IsTrue (is_schema c.args.self.now) = search rules in
    let kinds : fits_kinds c.args.full c.args.self.now.ck c.args.key.now ≡ true = search rules in
    let short : list_all is_short c.args.key.now ≡ true = search rules in
    tested_key c.args.full c.args.self.now c.args.key.now is kinds short
