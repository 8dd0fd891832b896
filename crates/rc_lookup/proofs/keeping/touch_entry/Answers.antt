-- The entry at the key goes to the back, where there is one.
use Rattle.std.proofs.Common.{◌≡◌, Some, sym, subst, arith}
use Rattle.lsa_region.specs.Region.{View}
use Rattle.rc_position.specs.Position.{row_pos}
use Rattle.rc_memory.specs.Changes.{member_at}
use Rattle.rc_version.specs.Versions.{IsVersionOf}
use Rattle.rc_lookup.proofs.Given.{entry-at, touched-none, touched-one, unfound}
use Rattle.rc_lookup.proofs.Placed.{placed}
use Rattle.rc_lookup.proofs.keeping.touch_entry.Goals as goal

pub entry_at_key-requires : goal.entry_at_key-requires
entry_at_key-requires g c =
    let m = c.args.chains.now in let n = c.version-v.result in
    let p = placed m c.args.id c.args.number n c.places_stand.ensures c.requires c.version-v.ensures in
    (omega arith, (p.standing.entries, p.version, subst (λ (view : View). IsVersionOf view n p.standing.entries p.version) (sym c.region.ensures) p.whole))

pub touch_listed-requires : goal.touch_listed-requires
touch_listed-requires g c =
    let m = c.args.chains.now in let n = c.version-v.result in
    let p = placed m c.args.id c.args.number n c.places_stand.ensures c.requires c.version-v.ensures in
    (omega arith, (member_at c.args.id c.args.number (Some (row_pos c.args.key.now)), entry-at m c.args.id c.args.number n p (row_pos c.args.key.now) c.entry_at_key.result c.in-Some.e c.region.result.now c.region.ensures c.in-Some.is (c.entry_at_key.ensures p.standing.entries p.version (subst (λ (view : View). IsVersionOf view n p.standing.entries p.version) (sym c.region.ensures) p.whole))))

pub returns-in-Some : goal.returns-in-Some
returns-in-Some g c =
    let m = c.args.chains.now in let n = c.version-v.result in
    let x = member_at c.args.id c.args.number (Some (row_pos c.args.key.now)) in
    let p = placed m c.args.id c.args.number n c.places_stand.ensures c.requires c.version-v.ensures in
    touched-one x m c.touch_listed.new.chains c.known.ensures.rule.once (c.touch_listed.ensures x (entry-at m c.args.id c.args.number n p (row_pos c.args.key.now) c.entry_at_key.result c.in-Some.e c.region.result.now c.region.ensures c.in-Some.is (c.entry_at_key.ensures p.standing.entries p.version (subst (λ (view : View). IsVersionOf view n p.standing.entries p.version) (sym c.region.ensures) p.whole))))

pub returns-in_default : goal.returns-in_default
returns-in_default g c =
    let m = c.args.chains.now in let n = c.version-v.result in
    let x = member_at c.args.id c.args.number (Some (row_pos c.args.key.now)) in
    let p = placed m c.args.id c.args.number n c.places_stand.ensures c.requires c.version-v.ensures in
    touched-none (λ w. w ≡ x) m (unfound m c.args.id c.args.number n p (row_pos c.args.key.now) c.entry_at_key.result c.known.ensures.rule c.region.result.now c.in_default.not-Some (c.entry_at_key.ensures p.standing.entries p.version (subst (λ (view : View). IsVersionOf view n p.standing.entries p.version) (sym c.region.ensures) p.whole)))
