use Rattle.std.proofs.Common.{◌++◌, ◌∷◌, arith, subst}
use Rattle.lsa_path.specs.laws.Members.{member-here}
use Rattle.rc_version.specs.laws.Objects.{holds-stands}
use Rattle.rc_version_walk.specs.Walking.{IsEntryOf}
use Rattle.rc_version_walk.proofs.Entries.{entry-held}
use Rattle.rc_version_walk.proofs.Pairs.{pair-kept}
use Rattle.rc_version_walk.proofs.calls.set_tombs.Goals as goal

pub set_tombs-requires : goal.set_tombs-requires
set_tombs-requires c =
    let found = subst (IsEntryOf c.args.region.now c.version_in-v.result) c.in-Some.is c.entry_from.ensures in
    (omega arith, (c.version_in-v.result, found.0 ++ (c.in-Some.e ∷ found.1), found.2, found.3, member-here found.0 found.1 c.in-Some.e))

pub returns-in-Some : goal.returns-in-Some
returns-in-Some c =
    let now = c.args.region.now in let n = c.version_in-v.result in let e = c.in-Some.e in
    let found = subst (IsEntryOf now n) c.in-Some.is c.entry_from.ensures in let refs = found.0 ++ (e ∷ found.1) in let inside = member-here found.0 found.1 e in
    let y = entry-held now n found.0 found.1 e found.2 found.3 in
    let m = c.version_in-v.ensures.0 in let h = c.version_in-v.ensures.1 in let k = c.set_tombs.ensures in
    (n, m, pair-kept c.args.this c.args.other now c.set_tombs.new.region n m _ h (k.kept n refs found.2 found.3 inside) (refs, _, k.set n refs found.2 y.0.position found.3 inside (holds-stands now e y.0 y.1)))
