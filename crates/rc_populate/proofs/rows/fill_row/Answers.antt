use Rattle.std.proofs.Common.{Some, ap, ◌∙◌, subst, sym, refl, arith}
use Rattle.lsa_pool.specs.Room.{spare_of}
use Rattle.lsa_region.specs.Region.{View, live_bytes}
use Rattle.rc_position.specs.Position.{row_pos}
use Rattle.rc_core.specs.Continuity.{IsWithin}
use Rattle.rc_core.specs.Steps.{row_filled, row_joined}
use Rattle.rc_core.specs.Version.{On, state_at}
use Rattle.rc_memory.specs.Changes.{AtAlone, IsRenewed, member_at}
use Rattle.rc_populate.specs.Filling.{IsFilled}
use Rattle.rc_populate.specs.calls.Marked.{known_at}
use Rattle.rc_populate.proofs.Changed.{changed-both, last-free}
use Rattle.rc_populate.proofs.Given.{row-left, row-spare}
use Rattle.rc_populate.proofs.Pinned.{filled-then, fits-newest, has-newest, has-pin, list-then, newest-number, of-pinned, pinned-of, region-then, settled}
use Rattle.rc_populate.proofs.rows.fill_row.Goals as goal

pub pinned_at-newest-requires : goal.pinned_at-newest-requires
pinned_at-newest-requires g c = (omega arith, has-pin c.args.chains.now c.args.s.now.chain c.args.s.now.pin c.requires.may)

pub join_row-e-requires : goal.join_row-e-requires
join_row-e-requires g c =
    let m = c.args.chains.now in let id = c.args.s.now.chain in let pin = c.args.s.now.pin in let j = c.pinned_at-newest.result in let pins = c.pinned_at-newest.ensures in let x = row_pos c.args.key.now in let row = c.args.row.now in
    let source = of-pinned m id pin c.requires.may j pins (λ k i v. IsWithin (state_at (On x) v) (row, c.args.tomb)) c.requires.source in
    (omega arith, (c.requires.key, ((c.requires.row, c.requires.small), (has-newest m id pin c.requires.may j pins, (row-spare g.row.S m id j x row c.args.tomb source c.requires.spare, (fits-newest m id pin c.requires.may j pins g.row.S (row_joined x row) c.requires.fits, last-free m id j (row_joined x row) (settled m id pin c.requires.may j pins)))))))

pub know-requires : goal.know-requires
know-requires g c = let x = row_pos c.args.key.now in (omega arith, (member_at c.args.s.now.chain c.pinned_at-newest.result (Some x), x, refl, c.join_row-e.ensures.here))

pub returns-clause-filled : goal.returns-clause-filled
returns-clause-filled g c =
    let m = c.args.chains.now in let id = c.args.s.now.chain in let pin = c.args.s.now.pin in let j = c.pinned_at-newest.result in let pins = c.pinned_at-newest.ensures in let x = row_pos c.args.key.now in let row = c.args.row.now in let w = member_at id j (Some x) in
    let both = changed-both id j (AtAlone w) (row_joined x row) (known_at x c.args.tomb) m c.join_row-e.new.self c.know.new.chains c.join_row-e.ensures.joined (c.know.ensures.known w x refl c.join_row-e.ensures.here) in
    pinned-of m id pin c.requires.may j pins (λ k i v. IsFilled id (row_filled x row c.args.tomb) (AtAlone (member_at id i (Some x))) m c.count_shrunk.new.chains)
    (λ k v e at. filled-then id j (row_filled x row c.args.tomb) (AtAlone w) m c.know.new.chains c.count_shrunk.new.chains c.live-before.result both (c.live-before.ensures ∙ ap live_bytes c.region.ensures) c.count_shrunk.ensures (newest-number m id pin c.requires.may j pins) k e)

pub returns-clause-listed : goal.returns-clause-listed
returns-clause-listed g c =
    let m = c.args.chains.now in let id = c.args.s.now.chain in let pin = c.args.s.now.pin in let j = c.pinned_at-newest.result in let pins = c.pinned_at-newest.ensures in let x = row_pos c.args.key.now in let row = c.args.row.now in let w = member_at id j (Some x) in
    let both = changed-both id j (AtAlone w) (row_joined x row) (known_at x c.args.tomb) m c.join_row-e.new.self c.know.new.chains c.join_row-e.ensures.joined (c.know.ensures.known w x refl c.join_row-e.ensures.here) in
    let same = list-then id j (row_filled x row c.args.tomb) (AtAlone w) m c.know.new.chains c.count_shrunk.new.chains c.live-before.result both (c.live-before.ensures ∙ ap live_bytes c.region.ensures) c.count_shrunk.ensures in
    pinned-of m id pin c.requires.may j pins (λ k i v. IsRenewed k.chain.kind (member_at id i (Some x)) m.recency c.count_shrunk.new.chains.recency)
    (λ k v e at. subst (IsRenewed k.chain.kind w m.recency) (sym (same ∙ c.know.ensures.recency)) (c.join_row-e.ensures.recency k v e at))

pub returns-clause-spare : goal.returns-clause-spare
returns-clause-spare g c =
    let m = c.args.chains.now in let id = c.args.s.now.chain in let pin = c.args.s.now.pin in let j = c.pinned_at-newest.result in let pins = c.pinned_at-newest.ensures in let x = row_pos c.args.key.now in let row = c.args.row.now in let w = member_at id j (Some x) in
    let both = changed-both id j (AtAlone w) (row_joined x row) (known_at x c.args.tomb) m c.join_row-e.new.self c.know.new.chains c.join_row-e.ensures.joined (c.know.ensures.known w x refl c.join_row-e.ensures.here) in
    let same = ap (λ (v : View). spare_of g.row.S v.usages) (region-then id j (row_filled x row c.args.tomb) (AtAlone w) m c.know.new.chains c.count_shrunk.new.chains c.live-before.result both (c.live-before.ensures ∙ ap live_bytes c.region.ensures) c.count_shrunk.ensures) in
    let source = of-pinned m id pin c.requires.may j pins (λ k i v. IsWithin (state_at (On x) v) (row, c.args.tomb)) c.requires.source in
    let left = row-left g.row.S m id j x row c.args.tomb source c.join_row-e.new.self (has-newest m id pin c.requires.may j pins) c.join_row-e.ensures.spare in let kept = c.know.ensures.spare in omega (arith, same, left, kept)
