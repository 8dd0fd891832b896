-- What was read up to the place says what is seen before it; fewer entries are left each time.
use Rattle.std.specs.Prelude.{List}
use Rattle.rc_schema.specs.SchemaValue.{SchemaValue}
use Rattle.rc_mutation.specs.declared.mutations.Mutation.{Mutation}
use Rattle.rc_core.specs.Version.{Version}
use Rattle.rc_memory.specs.Memory.{chain_at}
use Rattle.rc_memtable.specs.calls.Reading.{IsReadUpTo, IsSeenBy, SayChanges}
use Rattle.rc_memtable.proofs.Ending.{left_from}
use Rattle.rc_memtable.proofs.Seen.{seen-in}
use Rattle.rc_memtable.proofs.reading.read_positions.Given as goal

abbrev pub invariant-loop-alloc : goal.invariant-loop-alloc
invariant-loop-alloc g l = (schema : SchemaValue) (versions : List Version) (changes : List Mutation) → IsSeenBy l.chains l.s.chain l.s.pin versions → SayChanges schema versions changes → IsReadUpTo versions l.place l.rows l.ranges

abbrev pub decreases-loop-alloc : goal.decreases-loop-alloc
decreases-loop-alloc g l = left_from l.place (seen-in (chain_at l.chains l.s.chain) l.s.pin)
