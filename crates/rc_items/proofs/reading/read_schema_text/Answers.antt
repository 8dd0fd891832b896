-- The length decides which bytes are the text, and the text which schema it is.
use Rattle.std.proofs.Common.{sym, arith}
use Rattle.rc_items.specs.laws.Heads.{no_length, too_short, no_schema, schema_there, text_within}
use Rattle.rc_items.proofs.reading.read_schema_text.Goals as goal

pub returns-in_default-clause-value : goal.returns-in_default-clause-value
returns-in_default-clause-value c = no_length c.args.bytes.now (sym c.in_default.ensures)

pub returns-then-rest-len-clause-value : goal.returns-then-rest-len-clause-value
returns-then-rest-len-clause-value c = too_short c.args.bytes.now c.in-Some.rest.now c.in-Some.len (sym c.in-Some.ensures) c.if-rest-len.true

pub returns-in-Ok-clause-value : goal.returns-in-Ok-clause-value
returns-in-Ok-clause-value c = schema_there c.args.bytes.now c.in-Some.rest.now c.in-Some.len c.in-Ok.schema (record { byte = λ i. omega (arith, c.type_inv.bytes i) }) (sym c.in-Some.ensures) (omega arith) c.in-Ok.ensures

pub returns-in-Err-Malformed-clause-value : goal.returns-in-Err-Malformed-clause-value
returns-in-Err-Malformed-clause-value c = no_schema c.args.bytes.now c.in-Some.rest.now c.in-Some.len (sym c.in-Some.ensures) (rw c.in-Err-Malformed.field-0-is at c.in-Err-Malformed.ensures)

pub returns-in-Ok-clause-within : goal.returns-in-Ok-clause-within
returns-in-Ok-clause-within c = text_within c.args.bytes.now c.in-Some.rest.now c.in-Some.len (record { byte = λ i. omega (arith, c.type_inv.bytes i) }) (sym c.in-Some.ensures) (omega arith)
