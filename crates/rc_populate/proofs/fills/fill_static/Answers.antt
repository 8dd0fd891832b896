use Rattle.std.proofs.Common.{None, ap, ◌∙◌, subst, sym, arith}
use Rattle.lsa_pool.specs.Room.{spare_of}
use Rattle.lsa_region.specs.Region.{View, live_bytes}
use Rattle.rc_core.specs.Continuity.{IsWithin, fill_statics}
use Rattle.rc_core.specs.Version.{static_state}
use Rattle.rc_memory.specs.Changes.{AtAlone, member_at}
use Rattle.rc_populate.specs.Filling.{IsFilled, IsGivenListed, filled_statics}
use Rattle.rc_populate.proofs.Pinned.{filled-then, fits-newest, has-newest, has-pin, list-then, newest-number, of-pinned, pinned-of, region-then}
use Rattle.rc_populate.proofs.fills.fill_static.Goals as goal

pub pinned_at-newest-requires : goal.pinned_at-newest-requires
pinned_at-newest-requires g c = (omega arith, has-pin c.args.chains.now c.args.s.now.chain c.args.s.now.pin c.requires.may)

pub put_static-requires : goal.put_static-requires
put_static-requires g c =
    let m = c.args.chains.now in let id = c.args.s.now.chain in let pin = c.args.s.now.pin in let j = c.pinned_at-newest.result in let pins = c.pinned_at-newest.ensures in
    (omega arith, (c.requires.row, (c.requires.small, (has-newest m id pin c.requires.may j pins, (of-pinned m id pin c.requires.may j pins (λ k i v. IsWithin (static_state v) (c.args.row.now, None)) c.requires.source, (fits-newest m id pin c.requires.may j pins g.row.S (fill_statics (filled_statics c.args.row.now)) c.requires.fits, c.requires.spare))))))

pub returns-clause-filled : goal.returns-clause-filled
returns-clause-filled g c =
    let m = c.args.chains.now in let id = c.args.s.now.chain in let pin = c.args.s.now.pin in let j = c.pinned_at-newest.result in let pins = c.pinned_at-newest.ensures in
    pinned-of m id pin c.requires.may j pins (λ k i v. IsFilled id (fill_statics (filled_statics c.args.row.now)) (AtAlone (member_at id i None)) m c.count_shrunk.new.chains)
    (λ k v e at. filled-then id j (fill_statics (filled_statics c.args.row.now)) (AtAlone (member_at id j None)) m c.put_static.new.chains c.count_shrunk.new.chains c.live-before.result c.put_static.ensures.filled (c.live-before.ensures ∙ ap live_bytes c.region.ensures) c.count_shrunk.ensures (newest-number m id pin c.requires.may j pins) k e)

pub returns-clause-listed : goal.returns-clause-listed
returns-clause-listed g c =
    let m = c.args.chains.now in let id = c.args.s.now.chain in let pin = c.args.s.now.pin in let j = c.pinned_at-newest.result in let pins = c.pinned_at-newest.ensures in
    pinned-of m id pin c.requires.may j pins (λ k i v. IsGivenListed k.chain.kind (filled_statics c.args.row.now) (member_at id i None) m.recency c.count_shrunk.new.chains.recency)
    (λ k v e at. subst (IsGivenListed k.chain.kind (filled_statics c.args.row.now) (member_at id j None) m.recency) (sym (list-then id j (fill_statics (filled_statics c.args.row.now)) (AtAlone (member_at id j None)) m c.put_static.new.chains c.count_shrunk.new.chains c.live-before.result c.put_static.ensures.filled (c.live-before.ensures ∙ ap live_bytes c.region.ensures) c.count_shrunk.ensures)) (c.put_static.ensures.listed k v e at))

pub returns-clause-spare : goal.returns-clause-spare
returns-clause-spare g c =
    let m = c.args.chains.now in let id = c.args.s.now.chain in let j = c.pinned_at-newest.result in
    let same = ap (λ (v : View). spare_of g.row.S v.usages) (region-then id j (fill_statics (filled_statics c.args.row.now)) (AtAlone (member_at id j None)) m c.put_static.new.chains c.count_shrunk.new.chains c.live-before.result c.put_static.ensures.filled (c.live-before.ensures ∙ ap live_bytes c.region.ensures) c.count_shrunk.ensures) in
    let left = c.put_static.ensures.spare in omega (arith, same, left)
