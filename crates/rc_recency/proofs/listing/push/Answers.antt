use Rattle.std.proofs.Common.{arith}
use Rattle.rc_memory.specs.laws.Listed.{unlisted-at}
use Rattle.rc_recency.proofs.Relisted.{at-place, pushed-back, recency-at}
use Rattle.rc_recency.proofs.listing.push.Goals as goal

pub push_back-requires : goal.push_back-requires
push_back-requires g c =
    let q = c.requires in let h = q.4 in
    let off = unlisted-at c.args.list.now c.args.region.now q.0 q.1 q.2 h c.args.r q.3 (at-place c.args.list.now c.args.region.now q.0 q.1 q.2 h c.args.r q.3 q.5) q.6 in
    (omega arith, ((h.listed, h.stands.list), (recency-at c.args.list.now c.args.region.now q.0 q.1 q.2 h c.args.r q.3 q.5, (off 0 (omega arith), off 1 (omega arith)))))

pub returns-clause-pushed : goal.returns-clause-pushed
returns-clause-pushed g c = λ registry counts m w h here. let k = c.push_back.ensures in
    pushed-back c.args.list.now c.args.region.now c.push_back.new.region registry counts m h k.elsewhere k.objects k.well c.args.r w here k.pushed k.unset

pub returns-clause-relisted : goal.returns-clause-relisted
returns-clause-relisted g c = record { links = c.push_back.ensures.elsewhere; objects = c.push_back.ensures.objects }
