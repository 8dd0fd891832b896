-- A schema's limits make its text short.
use Rattle.std.proofs.Common.{◌<◌, ◌^◌, subst, sym, ap, ◌∙◌, length}
use Rattle.rc_items.proofs.SchemaLengths.{schema_text-is_short}
use Rattle.rc_items.proofs.spelling.text_length.Goals as goal

pub overflow_cast-result : goal.overflow_cast-result
overflow_cast-result c =
    record { fits = subst (λ n. n < 2 ^ 16) (sym (ap length (c.as_slice.ensures ∙ c.requires))) (schema_text-is_short c.args.schema.now c.ck-within_limits.ensures.limits) }

pub returns-clause-short : goal.returns-clause-short
returns-clause-short c = schema_text-is_short c.args.schema.now c.ck-within_limits.ensures.limits
