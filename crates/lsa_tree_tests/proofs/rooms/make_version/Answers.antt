use Rattle.std.proofs.Common.{◌≡◌, ◌∷◌, ap, subst, arith}
use Rattle.std.specs.Option.{option_map}
use Rattle.lsa_kinds.specs.declared.kind.Kind.TheVariants.{Version}
use Rattle.lsa_region.specs.declared.end.End.TheVariants.{Slot}
use Rattle.lsa_rooms.specs.Room.{StandsInRegion}
use Rattle.lsa_tree_tests.proofs.Furnished.{stands-added}
use Rattle.lsa_tree_tests.proofs.rooms.make_version.Goals as goal

pub add_version-requires : goal.add_version-requires
add_version-requires c = let a = c.alloc_obj-r.ensures.added in
    (omega arith, (a.ends (Slot c.args.chain) c.requires, (ap (option_map (λ b. b.0)) a.here, (a.unset 0, a.unset 1))))

pub returns-then-spare-lt64-clause-made : goal.returns-then-spare-lt64-clause-made
returns-then-spare-lt64-clause-made c = λ r is. cc is

pub returns-clause-made : goal.returns-clause-made
returns-clause-made c = λ r is slots versions top entries listed s.
    let same : c.alloc_obj-r.result ≡ r = cc in
    subst (λ x. StandsInRegion c.args.chain slots c.add_version.new.region (x ∷ versions) top entries listed) same
    (c.add_version.ensures.added slots versions top entries listed (stands-added c.args.region.now c.alloc_obj-r.new.self c.known.ensures.well c.alloc_obj-r.result Version _ c.alloc_obj-r.ensures.added c.args.chain slots versions top entries listed s))

pub returns-clause-chain : goal.returns-clause-chain
returns-clause-chain c = c.add_version.ensures.objects.ends (Slot c.args.chain) (c.alloc_obj-r.ensures.added.ends (Slot c.args.chain) c.requires)
