use Rattle.std.proofs.Common.{sym, ◌∙◌, arith}
use Rattle.lsa_list.specs.laws.Lists.{recency-ends}
use Rattle.rc_recency.proofs.Relisted.{both-unset, list-there, recency-at, relisted-itself, set-listed, taken-none, taken-off, unset-unlisted}
use Rattle.rc_recency.proofs.listing.take.Goals as goal

pub link_of-requires : goal.link_of-requires
link_of-requires g c = let q = c.requires in (omega arith, (recency-ends c.args.region.now c.args.r (recency-at c.args.list.now c.args.region.now q.0 q.1 q.2 q.4 c.args.r q.3 q.5)).0)

pub remove-requires : goal.remove-requires
remove-requires g c = let q = c.requires in
    (omega arith, list-there c.args.list.now c.args.region.now q.0 q.1 q.2 q.4 c.args.r q.3 q.5 (set-listed c.args.list.now c.args.region.now q.0 q.1 q.2 q.4 c.args.r q.3 q.5 c.in-Some._less (sym c.link_of.ensures ∙ c.in-Some.is)))

pub returns-in-Some-clause-taken : goal.returns-in-Some-clause-taken
returns-in-Some-clause-taken g c = λ registry counts m w h here. let k = c.remove.ensures in
    taken-off c.args.list.now c.args.region.now c.remove.new.region registry counts m h k.elsewhere k.objects k.well c.args.r w here
    (set-listed c.args.list.now c.args.region.now registry counts m h c.args.r w here c.in-Some._less (sym c.link_of.ensures ∙ c.in-Some.is)) k.removed k.first_unset k.second_unset k.unset

pub returns-in-Some-clause-unlisted : goal.returns-in-Some-clause-unlisted
returns-in-Some-clause-unlisted g c = both-unset c.remove.new.region c.args.r c.remove.ensures.first_unset c.remove.ensures.second_unset

pub returns-in-Some-clause-relisted : goal.returns-in-Some-clause-relisted
returns-in-Some-clause-relisted g c = record { links = c.remove.ensures.elsewhere; objects = c.remove.ensures.objects }

pub returns-in-None-clause-taken : goal.returns-in-None-clause-taken
returns-in-None-clause-taken g c = λ registry counts m w h here. taken-none c.args.list.now c.args.region.now registry counts m h c.args.r w here (sym c.link_of.ensures ∙ c.in-None.is)

pub returns-in-None-clause-unlisted : goal.returns-in-None-clause-unlisted
returns-in-None-clause-unlisted g c = let q = c.requires in unset-unlisted c.args.list.now c.args.region.now q.0 q.1 q.2 q.4 c.args.r q.3 q.5 (sym c.link_of.ensures ∙ c.in-None.is)

pub returns-in-None-clause-relisted : goal.returns-in-None-clause-relisted
returns-in-None-clause-relisted g c = relisted-itself c.args.list.now c.args.region.now
