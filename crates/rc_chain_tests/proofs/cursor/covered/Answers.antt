use Rattle.std.proofs.Common.{arith}
use Rattle.std.proofs.lemmas.Result.{IfOk-weaker}
use Rattle.rc_chain_tests.proofs.Covered.{bounds, changed-attached, changed-taken, made-settled}
use Rattle.rc_chain_tests.proofs.Pins.{made-version}
use Rattle.rc_chain_tests.proofs.cursor.covered.Goals as goal

pub join_range-requires : goal.join_range-requires
join_range-requires c =
    let b = bounds c.codes_are_short.ensures.position c.bare-from.result c.bare-to.result c.bare-from.ensures c.bare-to.ensures in
    let made = c.in_ok-id.ensures.made in let spare = c.in_ok-id.ensures.spare in let first = b.first in let second = b.second in
    (omega arith, (b.ascend, (b.limits, (made-version _ c.new_chain.new.self c.in_ok-id.id _ _ _ _ made, ((omega (arith, first), omega (arith, second)), (omega (arith, first, second, spare, c.requires), made-settled _ c.new_chain.new.self c.in_ok-id.id _ _ _ _ made))))))

pub snapshot-requires : goal.snapshot-requires
snapshot-requires c = (omega arith, changed-attached _ c.new_chain.new.self c.in_ok-id.id _ _ _ _ c.in_ok-id.ensures.made _ c.join_range.new.self c.join_range.ensures.joined)

pub returns : goal.returns
returns c = IfOk-weaker c.snapshot.result _ _ (changed-taken _ c.new_chain.new.self c.in_ok-id.id _ _ _ _ c.in_ok-id.ensures.made _ c.join_range.new.self c.join_range.ensures.joined c.a_taken_snapshot_is_there.ensures.pin c.snapshot.new.self) c.snapshot.ensures.taken
