use Rattle.std.proofs.Common.{Some, refl, arith}
use Rattle.rc_core.specs.Change.{gap_split}
use Rattle.rc_core.specs.Continuity.{with_entries}
use Rattle.rc_core.specs.Version.{Version}
use Rattle.rc_memory.specs.Changes.{member_at}
use Rattle.rc_chain_tests.proofs.Known.{ends-stand, has-split, keeps-first}
use Rattle.rc_chain_tests.proofs.Pins.{made-version}
use Rattle.rc_chain_tests.proofs.chains.marks_of_known.Goals as goal

pub split-e-requires : goal.split-e-requires
split-e-requires c = let m = c.in_ok-id.ensures in let made = m.made in
    (omega arith, (c.requires.limits, (made-version c.args.chains.now c.new_chain.new.self c.in_ok-id.id _ _ _ _ made, (omega (arith, c.requires.size, c.requires.spare, m.spare), (omega (arith, c.requires.size), keeps-first c.args.chains.now c.new_chain.new.self c.in_ok-id.id 7 _ _ made (λ (v : Version). with_entries (gap_split c.args.from.now v.entries) v))))))

pub know_between-requires : goal.know_between-requires
know_between-requires c = let made = c.in_ok-id.ensures.made in
    (omega arith, (c.requires.ascend, (has-split c.args.chains.now c.new_chain.new.self c.in_ok-id.id 7 _ _ made c.args.from.now c.args.end.now c.split-e.new.self c.split-e.ensures.changed, ends-stand c.args.chains.now c.new_chain.new.self c.in_ok-id.id 7 _ _ made c.args.from.now c.args.end.now c.split-e.new.self c.split-e.ensures.changed c.requires.end c.requires.ascend)))

pub marks-requires : goal.marks-requires
marks-requires c = let w = member_at c.in_ok-id.id 0 (Some c.args.from.now) in
    (omega arith, (w, c.args.from.now, refl, c.know_between.ensures.known.still.objects c.split-e.result w (λ none. none) c.split-e.ensures.here))
