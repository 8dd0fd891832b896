-- The static row goes to the back, where there is one.
use Rattle.std.proofs.Common.{◌≡◌, None, sym, subst, arith}
use Rattle.lsa_region.specs.Region.{View}
use Rattle.rc_memory.specs.Changes.{member_at}
use Rattle.rc_version.specs.Versions.{IsStaticsOf, IsVersionOf}
use Rattle.rc_lookup.proofs.Given.{touched-none, touched-one}
use Rattle.rc_lookup.proofs.Placed.{none-static, placed, static-member, unfound-none}
use Rattle.rc_lookup.proofs.touching.touch_static.Goals as goal

pub static_row-requires : goal.static_row-requires
static_row-requires g c =
    let m = c.args.chains.now in let n = c.version-v.result in
    let p = placed m c.args.id c.args.number n c.places_stand.ensures c.requires c.version-v.ensures in
    (omega arith, (p.standing.entries, p.version, subst (λ (view : View). IsVersionOf view n p.standing.entries p.version) (sym c.region.ensures) p.whole))

pub touch_listed-requires : goal.touch_listed-requires
touch_listed-requires g c =
    let m = c.args.chains.now in let n = c.version-v.result in let r = c.in-Some.r in
    let p = placed m c.args.id c.args.number n c.places_stand.ensures c.requires c.version-v.ensures in
    (omega arith, (member_at c.args.id c.args.number None, static-member m c.args.id c.args.number n p r (subst (λ (view : View). IsStaticsOf view n r) c.region.ensures ((c.static_row.ensures.named r).0 c.in-Some.is))))

pub returns-in-Some : goal.returns-in-Some
returns-in-Some g c =
    let m = c.args.chains.now in let n = c.version-v.result in let r = c.in-Some.r in
    let x = member_at c.args.id c.args.number None in
    let p = placed m c.args.id c.args.number n c.places_stand.ensures c.requires c.version-v.ensures in
    let at = static-member m c.args.id c.args.number n p r (subst (λ (view : View). IsStaticsOf view n r) c.region.ensures ((c.static_row.ensures.named r).0 c.in-Some.is)) in
    touched-one x m c.touch_listed.new.chains c.known.ensures.rule.once (c.touch_listed.ensures x at)

pub returns-in_default : goal.returns-in_default
returns-in_default g c =
    let m = c.args.chains.now in let n = c.version-v.result in let id = c.args.id in let number = c.args.number in
    let x = member_at id number None in
    let p = placed m id number n c.places_stand.ensures c.requires c.version-v.ensures in
    touched-none (λ w. w ≡ x) m (none-static m id number n p c.known.ensures.rule (unfound-none c.region.result.now p.version c.static_row.result (c.static_row.ensures.held p.standing.entries p.version (subst (λ (view : View). IsVersionOf view n p.standing.entries p.version) (sym c.region.ensures) p.whole)) c.in_default.not-Some))
