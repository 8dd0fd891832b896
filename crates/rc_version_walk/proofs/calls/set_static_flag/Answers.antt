use Rattle.std.proofs.Common.{arith}
use Rattle.rc_version_walk.proofs.Pairs.{pair-kept}
use Rattle.rc_version_walk.proofs.calls.set_static_flag.Goals as goal

pub set_static_flag-requires : goal.set_static_flag-requires
set_static_flag-requires c = (omega arith, c.version_in-v.ensures.1.here)

pub returns : goal.returns
returns c =
    let m = c.version_in-v.ensures.0 in let h = c.version_in-v.ensures.1 in let v = h.here in let k = c.set_static_flag.ensures in
    (c.version_in-v.result, m, pair-kept c.args.this c.args.other c.args.region.now c.set_static_flag.new.region c.version_in-v.result m _ h k.kept (v.0, _, k.set v.0 v.1 v.2))
