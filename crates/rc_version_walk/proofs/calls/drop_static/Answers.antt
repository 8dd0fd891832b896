use Rattle.std.proofs.Common.{arith}
use Rattle.rc_version_walk.proofs.Pairs.{pair-kept, static-unlisted}
use Rattle.rc_version_walk.proofs.calls.drop_static.Goals as goal

pub drop_static-requires : goal.drop_static-requires
drop_static-requires c =
    let m = c.version_in-v.ensures.0 in let h = c.version_in-v.ensures.1 in
    (omega arith, (h.here, static-unlisted c.args.this c.args.other c.args.region.now c.version_in-v.result m h))

pub returns : goal.returns
returns c =
    let m = c.version_in-v.ensures.0 in let h = c.version_in-v.ensures.1 in let v = h.here in let k = c.drop_static.ensures in
    (c.version_in-v.result, m, pair-kept c.args.this c.args.other c.args.region.now c.drop_static.new.region c.version_in-v.result m _ h k.kept (v.0, _, k.dropped v.0 v.1 v.2))
