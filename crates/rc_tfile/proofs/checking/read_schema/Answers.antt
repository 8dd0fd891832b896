-- The head decides, and a store that failed owes nothing.
use Rattle.std.proofs.Common.{◌∙◌}
use Rattle.rc_tfile.proofs.Ahead.{outside_head, outside_other, same_content}
use Rattle.rc_tfile.proofs.checking.read_schema.Goals as goal

pub returns-in-Ok-head_of-clause-schema : goal.returns-in-Ok-head_of-clause-schema
returns-in-Ok-head_of-clause-schema g c = λ bytes is.
    (c.in-Ok-head_of.ensures.head bytes (same_content (g.W.Store.files c.args.store.now) _ c.args.n _ bytes (c.in-Ok-head_of.ensures.store.0 ∙ c.in-Ok.ensures.store.0) (c.in-Ok-head_of.ensures.number ∙ c.in-Ok.ensures.start.0) is)).0

pub returns-in-Ok-clause-schema : goal.returns-in-Ok-clause-schema
returns-in-Ok-clause-schema g c = λ bytes is.
    c.in-Err-head_of.ensures.head bytes (same_content (g.W.Store.files c.args.store.now) _ c.args.n _ bytes (c.in-Err-head_of.ensures.store.0 ∙ c.in-Ok.ensures.store.0) (c.in-Err-head_of.ensures.number ∙ c.in-Ok.ensures.start.0) is)

pub returns-clause-schema : goal.returns-clause-schema
returns-clause-schema g c = λ bytes is. outside_head bytes c.in-Err.err c.in-Err.ensures.cause

pub returns-clause-never : goal.returns-clause-never
returns-clause-never g c = outside_other c.in-Err.err c.in-Err.ensures.cause
