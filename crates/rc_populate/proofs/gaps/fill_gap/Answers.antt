use Rattle.std.proofs.Common.{Some, ap, ◌∙◌, subst, sym, arith}
use Rattle.lsa_pool.specs.Room.{spare_of}
use Rattle.lsa_region.specs.Region.{View, live_bytes}
use Rattle.rc_core.specs.Steps.{gap_filled}
use Rattle.rc_memory.specs.Changes.{Nowhere, member_at}
use Rattle.rc_populate.specs.Filling.{AreBoundsListed, IsFilled}
use Rattle.rc_populate.proofs.Pinned.{filled-then, has-newest, has-pin, list-then, newest-number, pinned-of, region-then, settled}
use Rattle.rc_populate.proofs.gaps.fill_gap.Goals as goal

pub pinned_at-newest-requires : goal.pinned_at-newest-requires
pinned_at-newest-requires g c = (omega arith, has-pin c.args.chains.now c.args.s.now.chain c.args.s.now.pin c.requires.may)

pub know_gap-requires : goal.know_gap-requires
know_gap-requires g c =
    let m = c.args.chains.now in let id = c.args.s.now.chain in let pin = c.args.s.now.pin in let j = c.pinned_at-newest.result in let pins = c.pinned_at-newest.ensures in
    (omega arith, (c.requires.ascend, (c.requires.limits, (has-newest m id pin c.requires.may j pins, (settled m id pin c.requires.may j pins, (c.requires.small, c.requires.spare))))))

pub returns-clause-filled : goal.returns-clause-filled
returns-clause-filled g c =
    let m = c.args.chains.now in let id = c.args.s.now.chain in let pin = c.args.s.now.pin in let j = c.pinned_at-newest.result in let pins = c.pinned_at-newest.ensures in let f = gap_filled c.args.from.now c.args.to.now c.args.tomb in
    pinned-of m id pin c.requires.may j pins (λ k i v. IsFilled id f Nowhere m c.count_shrunk.new.chains)
    (λ k v e at. filled-then id j f Nowhere m c.know_gap.new.chains c.count_shrunk.new.chains c.live-before.result c.know_gap.ensures.known (c.live-before.ensures ∙ ap live_bytes c.region.ensures) c.count_shrunk.ensures (newest-number m id pin c.requires.may j pins) k e)

pub returns-clause-listed : goal.returns-clause-listed
returns-clause-listed g c =
    let m = c.args.chains.now in let id = c.args.s.now.chain in let pin = c.args.s.now.pin in let j = c.pinned_at-newest.result in let pins = c.pinned_at-newest.ensures in let f = gap_filled c.args.from.now c.args.to.now c.args.tomb in
    let same = list-then id j f Nowhere m c.know_gap.new.chains c.count_shrunk.new.chains c.live-before.result c.know_gap.ensures.known (c.live-before.ensures ∙ ap live_bytes c.region.ensures) c.count_shrunk.ensures in
    pinned-of m id pin c.requires.may j pins (λ k i v. AreBoundsListed k.chain.kind v (member_at id i (Some c.args.from.now)) (member_at id i (Some c.args.to.now)) m.recency c.count_shrunk.new.chains.recency)
    (λ k v e at. subst (AreBoundsListed k.chain.kind v (member_at id j (Some c.args.from.now)) (member_at id j (Some c.args.to.now)) m.recency) (sym same) (c.know_gap.ensures.listed k v e at))

pub returns-clause-spare : goal.returns-clause-spare
returns-clause-spare g c =
    let m = c.args.chains.now in let id = c.args.s.now.chain in let j = c.pinned_at-newest.result in let f = gap_filled c.args.from.now c.args.to.now c.args.tomb in
    let same = ap (λ (v : View). spare_of g.row.S v.usages) (region-then id j f Nowhere m c.know_gap.new.chains c.count_shrunk.new.chains c.live-before.result c.know_gap.ensures.known (c.live-before.ensures ∙ ap live_bytes c.region.ensures) c.count_shrunk.ensures) in
    let left = c.know_gap.ensures.spare in omega (arith, same, left)
