-- The end of the partition goes to the back, where there is an entry.
use Rattle.std.proofs.Common.{◌≡◌, Some, sym, subst, arith}
use Rattle.lsa_region.specs.Region.{View}
use Rattle.rc_position.specs.declared.positions.Pos.{Pos}
use Rattle.rc_core.specs.Version.{end_position}
use Rattle.rc_memory.specs.Changes.{member_at}
use Rattle.rc_version.specs.Versions.{IsEntryFound, IsVersionOf}
use Rattle.rc_lookup.proofs.Given.{entry-at, touched-none, touched-one, unfound}
use Rattle.rc_lookup.proofs.Placed.{placed}
use Rattle.rc_lookup.proofs.touching.touch_end.Goals as goal

pub entry_at-requires : goal.entry_at-requires
entry_at-requires g c =
    let m = c.args.chains.now in let n = c.version-v.result in
    let p = placed m c.args.id c.args.number n c.places_stand.ensures c.requires c.version-v.ensures in
    (omega arith, (p.standing.entries, p.version, subst (λ (view : View). IsVersionOf view n p.standing.entries p.version) (sym c.region.ensures) p.whole))

pub touch_listed-requires : goal.touch_listed-requires
touch_listed-requires g c =
    let m = c.args.chains.now in let n = c.version-v.result in
    let p = placed m c.args.id c.args.number n c.places_stand.ensures c.requires c.version-v.ensures in
    let found = subst (λ (x : Pos). IsEntryFound c.region.result.now p.standing.entries p.version x c.entry_at.result) c.bare-end.ensures (c.entry_at.ensures p.standing.entries p.version (subst (λ (view : View). IsVersionOf view n p.standing.entries p.version) (sym c.region.ensures) p.whole)) in
    (omega arith, (member_at c.args.id c.args.number (Some end_position), entry-at m c.args.id c.args.number n p end_position c.entry_at.result c.in-Some.e c.region.result.now c.region.ensures c.in-Some.is found))

pub returns-in-Some : goal.returns-in-Some
returns-in-Some g c =
    let m = c.args.chains.now in let n = c.version-v.result in
    let x = member_at c.args.id c.args.number (Some end_position) in
    let p = placed m c.args.id c.args.number n c.places_stand.ensures c.requires c.version-v.ensures in
    let found = subst (λ (y : Pos). IsEntryFound c.region.result.now p.standing.entries p.version y c.entry_at.result) c.bare-end.ensures (c.entry_at.ensures p.standing.entries p.version (subst (λ (view : View). IsVersionOf view n p.standing.entries p.version) (sym c.region.ensures) p.whole)) in
    touched-one x m c.touch_listed.new.chains c.known.ensures.rule.once (c.touch_listed.ensures x (entry-at m c.args.id c.args.number n p end_position c.entry_at.result c.in-Some.e c.region.result.now c.region.ensures c.in-Some.is found))

pub returns : goal.returns
returns g c =
    let m = c.args.chains.now in let n = c.version-v.result in
    let x = member_at c.args.id c.args.number (Some end_position) in
    let p = placed m c.args.id c.args.number n c.places_stand.ensures c.requires c.version-v.ensures in
    let found = subst (λ (y : Pos). IsEntryFound c.region.result.now p.standing.entries p.version y c.entry_at.result) c.bare-end.ensures (c.entry_at.ensures p.standing.entries p.version (subst (λ (view : View). IsVersionOf view n p.standing.entries p.version) (sym c.region.ensures) p.whole)) in
    touched-none (λ w. w ≡ x) m (unfound m c.args.id c.args.number n p end_position c.entry_at.result c.known.ensures.rule c.region.result.now c.in_default.not-Some found)
