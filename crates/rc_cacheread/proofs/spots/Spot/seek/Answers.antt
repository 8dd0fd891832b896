-- How far a seek goes within what is due.
use Rattle.std.proofs.Common.{None, sym, ap, ◌∙◌, subst}
use Rattle.rc_cacheread.specs.calls.Spots.{WentTo, told_at}
use Rattle.rc_cacheread.proofs.Idle.{sought-change, sought-row, spot, went-on}
use Rattle.rc_cacheread.proofs.spots.Spot.seek.Goals as goal

pub returns-then-is_change_behind-clause-ok : goal.returns-then-is_change_behind-clause-ok
returns-then-is_change_behind-clause-ok c =
    let e = c.tell_again.ensures in
    sought-change c.args.self.now c.tell_again.new.self c.args.to.now (sym c.if-is_again_behind.ensures) (sym c.if-is_change_behind.ensures) e.place e.row e.told (e.again ∙ ap (told_at c.args.self.now.told) c.in_ok-place.ensures) e.tomb e.since

pub returns-then-is_row_behind-clause-ok : goal.returns-then-is_row_behind-clause-ok
returns-then-is_row_behind-clause-ok c =
    let e = c.tell_again-then-is_row_behind.ensures in
    sought-row c.args.self.now c.tell_again-then-is_row_behind.new.self c.args.to.now (sym c.if-is_again_behind.ensures) (sym c.if-is_change_behind.ensures) (sym c.if-is_row_behind.ensures) e.place e.row e.told (e.again ∙ ap (told_at c.args.self.now.tomb) c.in_ok-place.ensures) e.tomb

pub returns-clause-ok : goal.returns-clause-ok
returns-clause-ok c =
    let s = c.args.self.now in
    went-on s c.go_to.new.self c.args.to.now c.go_to.result (sym c.if-is_again_behind.ensures) (sym c.if-is_change_behind.ensures) (sym c.if-is_row_behind.ensures)
    (subst (λ z. WentTo z (spot s.place s.row s.tomb None s.tomb s.since) c.go_to.new.self c.go_to.result) c.in_ok-place.ensures c.go_to.ensures)
