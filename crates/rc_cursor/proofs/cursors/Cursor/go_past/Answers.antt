use Rattle.std.proofs.Common.{sym, ap}
use Rattle.rc_cursor.specs.calls.Snapshots.{place_past}
use Rattle.rc_cursor.proofs.cursors.Cursor.go_past.Goals as goal

pub returns-in-Row-clause-ok : goal.returns-in-Row-clause-ok
returns-in-Row-clause-ok c = sym (ap (λ p. place_past p c.args.self.now.last) c.in-Row.is)
