use Rattle.std.proofs.Common.{refl}
use Rattle.rc_cursor.proofs.readers.head_at.Goals as goal

pub returns-clause-known : goal.returns-clause-known
returns-clause-known c = refl
