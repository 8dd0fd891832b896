-- What has a code is within the limits.
use Rattle.rc_rowcode.specs.laws.Limits.{key_limits, row_limits}
use Rattle.rc_rowcode.specs.laws.Sizes.{key_code_small, pos_code_small, row_code_small}
use Rattle.rc_rowcode.proofs.laws.codes_are_short.Goals as goal

pub returns-clause-key : goal.returns-clause-key
returns-clause-key c = λ k h. key_code_small k (key_limits k h)

pub returns-clause-position : goal.returns-clause-position
returns-clause-position c = λ x h. pos_code_small x (key_limits x.prefix h)

pub returns-clause-row : goal.returns-clause-row
returns-clause-row c = λ r h. row_code_small r h.ascending (row_limits r h)
