use Rattle.std.proofs.Common.{◌++◌, ◌∷◌, arith, subst}
use Rattle.lsa_path.specs.laws.Members.{member-here}
use Rattle.rc_version.specs.laws.Objects.{holds-stands}
use Rattle.rc_version_walk.specs.Walking.{IsInnerOf}
use Rattle.rc_version_walk.proofs.Entries.{before-not_end, entry-held}
use Rattle.rc_version_walk.proofs.Pairs.{entry-unlisted, pair-kept}
use Rattle.rc_version_walk.proofs.calls.drop_entry.Goals as goal

pub drop_entry-requires : goal.drop_entry-requires
drop_entry-requires c =
    let now = c.args.region.now in let n = c.version_in-v.result in let e = c.in-Some.e in let m = c.version_in-v.ensures.0 in let h = c.version_in-v.ensures.1 in
    let found = subst (IsInnerOf now n) c.in-Some.is c.inner_entry_from.ensures in let refs = found.0 ++ (e ∷ found.1) in
    (omega arith, ((found.0, found.1, found.2, found.3), (before-not_end now n found.0 found.1 e found.2 found.3 found.4, entry-unlisted c.args.this c.args.other now n m h n refs found.2 found.3 e (member-here found.0 found.1 e))))

pub returns-in-Some : goal.returns-in-Some
returns-in-Some c =
    let now = c.args.region.now in let n = c.version_in-v.result in let e = c.in-Some.e in let m = c.version_in-v.ensures.0 in let h = c.version_in-v.ensures.1 in
    let found = subst (IsInnerOf now n) c.in-Some.is c.inner_entry_from.ensures in let k = c.drop_entry.ensures in let y = entry-held now n found.0 found.1 e found.2 found.3 in
    (n, m, pair-kept c.args.this c.args.other now c.drop_entry.new.region n m _ h k.kept (found.0 ++ found.1, _, k.dropped found.0 found.1 found.2 y.0.position found.3 (holds-stands now e y.0 y.1)))
