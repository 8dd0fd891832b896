use Rattle.std.proofs.Common.{◌++◌, take}
use Rattle.std.proofs.KnownBytes.{Appends-trans}
use Rattle.rc_outside.proofs.Taken.{front-grown}
use Rattle.rc_outside.proofs.standard.write_whole.Goals as goal

pub loop-rest-preserved : goal.loop-rest-preserved
loop-rest-preserved g c =
    let front = c.loop-rest.invariant.0 in
    let more = take c.in-Ok.count c.loop-rest.rest.now in (
      front ++ more,
      front-grown _ front c.loop-rest.rest.now c.in-Ok.count c.loop-rest.invariant.1,
      Appends-trans _ _ _ front more c.loop-rest.invariant.2 c.in-Ok.ensures.bytes,
    )
