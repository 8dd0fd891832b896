use Rattle.std.proofs.Common.{◌≡◌, [], ◌∷◌, Some, None, sym, ◌∙◌, subst, arith}
use Rattle.lsa_path.specs.laws.Members.{member-first}
use Rattle.lsa_rooms.specs.Room.{StandsInRegion}
use Rattle.lsa_tree_tests.proofs.Furnished.{chain-there, kind-same}
use Rattle.lsa_tree_tests.proofs.rooms.drop_newest.Goals as goal

pub newest-requires : goal.newest-requires
newest-requires c = let x = c.requires.0 in let i = c.requires.2 in (omega arith, chain-there c.args.region.now c.known.ensures.well c.args.chain c.args._list x c.requires.1 i.0 i.1 i.2 i.3)

pub unreachable-requires : goal.unreachable-requires
unreachable-requires c = let x = c.requires.0 in let i = c.requires.2 in let e : None ≡ Some x = sym c.in-None.is ∙ c.newest.ensures.some c.args._list x c.requires.1 i.0 i.1 i.2 i.3 in cc

pub drop_version-requires : goal.drop_version-requires
drop_version-requires c =
    let x = c.requires.0 in let i = c.requires.2 in let named = c.newest.ensures.some c.args._list x c.requires.1 i.0 i.1 i.2 i.3 in
    let same : x ≡ c.in-Some.r = let e : Some x ≡ Some c.in-Some.r = sym named ∙ c.in-Some.is in cc in
    (omega arith, (c.args._list, [], c.requires.1, i.0, i.1, i.2, subst (λ r. StandsInRegion c.args.chain c.args._list c.args.region.now (r ∷ c.requires.1) i.0 i.1 i.2) same i.3))

pub free_version-requires : goal.free_version-requires
free_version-requires c =
    let x = c.requires.0 in let i = c.requires.2 in let named = c.newest.ensures.some c.args._list x c.requires.1 i.0 i.1 i.2 i.3 in
    let same : x ≡ c.in-Some.r = let e : Some x ≡ Some c.in-Some.r = sym named ∙ c.in-Some.is in cc in
    let s = subst (λ r. StandsInRegion c.args.chain c.args._list c.args.region.now (r ∷ c.requires.1) i.0 i.1 i.2) same i.3 in record {
      version = kind-same c.args.region.now c.drop_version.new.region c.drop_version.ensures.objects c.in-Some.r ∙ s.kinds c.in-Some.r (member-first c.in-Some.r c.requires.1);
      older = c.drop_version.ensures.older;
      newer = c.drop_version.ensures.newer;
    }

pub returns : goal.returns
returns c = λ newer versions i.
    let named = c.newest.ensures.some c.args._list newer versions i.0 i.1 i.2 i.3 in
    let same : newer ≡ c.in-Some.r = let e : Some newer ≡ Some c.in-Some.r = sym named ∙ c.in-Some.is in cc in
    let s = subst (λ r. StandsInRegion c.args.chain c.args._list c.args.region.now (r ∷ versions) i.0 i.1 i.2) same i.3 in
    (i.0, i.1, i.2, c.free_version.ensures c.args.chain c.args._list versions i.0 i.1 i.2 (c.drop_version.ensures.dropped c.args._list [] versions i.0 i.1 i.2 s))
