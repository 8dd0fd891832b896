use Rattle.std.proofs.Common.{arith}
use Rattle.rc_core.specs.Parts.{IsFirstPart}
use Rattle.rc_cursor.specs.Snapshots.{kind_seen, versions_seen}
use Rattle.rc_cursor.proofs.Parts.{not-passed, past-behind, seen-as}
use Rattle.rc_cursor.proofs.cursors.Cursor.next_part.Goals as goal

pub first_part-requires : goal.first_part-requires
first_part-requires g c = (omega arith, (c.requires.pin, not-passed c.args.self.now.last c.args.upto.now c.requires.ahead))

pub returns-clause-first : goal.returns-clause-first
returns-clause-first g c = seen-as (λ kind versions. IsFirstPart kind versions c.args.self.now.last c.args.upto.now c.in_ok-part.part) c.args.chains.now c.args.s.now c.requires.pin c.in_ok-part.ensures

pub returns-clause-part : goal.returns-clause-part
returns-clause-part g c = λ readable. c.a_first_part_is_what_is_seen.ensures (kind_seen c.args.chains.now c.args.s.now) (versions_seen c.args.chains.now c.args.s.now) c.args.self.now.last c.args.upto.now c.in_ok-part.part readable
    (seen-as (λ kind versions. IsFirstPart kind versions c.args.self.now.last c.args.upto.now c.in_ok-part.part) c.args.chains.now c.args.s.now c.requires.pin c.in_ok-part.ensures)

pub returns-clause-place : goal.returns-clause-place
returns-clause-place g c = past-behind (kind_seen c.args.chains.now c.args.s.now) (versions_seen c.args.chains.now c.args.s.now) c.args.self.now.last c.args.upto.now c.in_ok-part.part c.go_past.new.self.last
    (seen-as (λ kind versions. IsFirstPart kind versions c.args.self.now.last c.args.upto.now c.in_ok-part.part) c.args.chains.now c.args.s.now c.requires.pin c.in_ok-part.ensures) c.in_ok-go_past.ensures.ok
