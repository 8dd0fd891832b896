-- Where no schema is read nothing was written, whatever the schema is.
use Rattle.std.proofs.Common.{[]}
use Rattle.rc_schema.specs.SchemaValue.{SchemaValue}
use Rattle.rc_chain_tests.proofs.memtable.write_inserted.Goals as goal

abbrev any : SchemaValue
any = record { ck = []; statics = []; cols = [] }

pub returns : goal.returns
returns c = (any, [], c.requires any)
