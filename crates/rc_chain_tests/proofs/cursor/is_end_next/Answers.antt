use Rattle.std.proofs.Common.{arith, sym, subst}
use Rattle.rc_stream.specs.Places.{Reaches}
use Rattle.rc_chain_tests.proofs.Covered.{to-end}
use Rattle.rc_chain_tests.proofs.cursor.is_end_next.Goals as goal

pub next_part-requires : goal.next_part-requires
next_part-requires c = (omega arith, (c.requires.pin, subst (Reaches c.args.cursor.now.last) (sym c.requires.end) (to-end c.args.cursor.now.last)))
