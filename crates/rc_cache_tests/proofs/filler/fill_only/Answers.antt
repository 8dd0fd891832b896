use Rattle.std.proofs.Common.{[], ◌∷◌}
use Rattle.rc_cache_tests.specs.Tested.{only_row}
use Rattle.rc_cache_tests.proofs.Written.{only-said, stands-named}
use Rattle.rc_cache_tests.proofs.filler.fill_only.Goals as goal

pub hand_row-requires-clause-source : goal.hand_row-requires-clause-source
hand_row-requires-clause-source c =
    let writes = only_row c.args.key.now c.args.row.now ∷ [] in (
      writes,
      stands-named c.args.chains.now c.args.snap.now.chain c.args.snap.now.pin c.of-filler.result.chain c.of-filler.result.pin writes c.of-filler.ensures.chain c.of-filler.ensures.pin c.requires.stands,
      only-said c.args.key.now c.args.row.now c.requires.row,
    )
