use Rattle.std.proofs.Common.{◌≡◌, ◌-◌, Some, length, ap, arith}
use Rattle.rc_position.specs.Position.{row_pos}
use Rattle.rc_rowcode.specs.laws.Limits.{row_limits}
use Rattle.rc_core.specs.Steps.{row_joined}
use Rattle.rc_memory.specs.Memory.{KeptChain, chain_at, on_version_of}
use Rattle.rc_chain_bench.proofs.Coded.{entry-small}
use Rattle.rc_chain_bench.proofs.Kept.{join-fits, join-last, join-room, joined-keeps, newest-there, partition-on, partition-untouched}
use Rattle.rc_chain_bench.proofs.partition.join.Goals as goal

pub join_row-entry-requires : goal.join_row-entry-requires
join_row-entry-requires c =
    let m = c.has_room.new.chains in let id = c.args.id in let newest = c.versions-newest.result - 1 in let key = c.args.key.now in let row = c.args.row.now in let fits = c.requires.key in let coded = c.requires.row in
    let law = c.joined_row_has_a_code.ensures in let h = partition-untouched c.args.chains.now m id c.has_room.ensures.untouched c.requires.partition in
    let sound = c.known.ensures.sound id in let is : (k : KeptChain) → chain_at m id ≡ Some k → newest ≡ length k.chain.versions - 1 = λ k e. ap (λ n. n - 1) (c.versions-newest.ensures k e) in let small = entry-small (row_pos key) fits row coded in (
      omega arith,
      (
        fits,
        (
          (row_limits row coded, omega (arith, small)),
          (
            newest-there law m id newest h sound is,
            (
              join-room law m id newest h sound is key fits row coded (c.has_room.ensures.ready c.if-not-has_room.false),
              (join-fits law m id newest h sound is key fits row coded, join-last law m id newest h sound is key fits row coded),
            ),
          ),
        ),
      ),
    )

pub returns-clause-partition : goal.returns-clause-partition
returns-clause-partition c =
    let m = c.has_room.new.chains in let key = c.args.key.now in let row = c.args.row.now in let newest = c.versions-newest.result - 1 in
    partition-on m c.join_row-entry.new.self c.args.id (on_version_of newest (row_joined (row_pos key) row)) c.join_row-entry.ensures.joined.chains
    (joined-keeps c.joined_row_has_a_code.ensures key c.requires.key row c.requires.row newest) (partition-untouched c.args.chains.now m c.args.id c.has_room.ensures.untouched c.requires.partition)
