use Rattle.std.proofs.Common.{[], None, refl, arith}
use Rattle.lsa_kinds.specs.declared.kind.Kind.TheVariants.{Version}
use Rattle.lsa_region.specs.declared.end.End.TheVariants.{Slot}
use Rattle.lsa_rooms.proofs.Rooms.{kind-end, stands-chained, kinds-with, list-version_added}
use Rattle.lsa_rooms.proofs.room.add_version.Goals as goal

pub insert_behind-requires : goal.insert_behind-requires
insert_behind-requires g c =
    let v = c.args.region.now in let r = c.args.r in (
      omega arith,
      (
        c.requires.there,
        (
          kind-end v r Version 1 c.requires.version (omega arith),
          (kind-end v r Version 0 c.requires.version (omega arith), (c.requires.newer, (c.requires.older, ((λ e. cc), ((λ e. cc), (λ e. cc)))))),
        ),
      ),
    )

pub returns-clause-added : goal.returns-clause-added
returns-clause-added g c = λ slots versions top entries listed s.
    let v = c.args.region.now in let w = c.insert_behind.new.region in let i = c.insert_behind.ensures in
    stands-chained c.args.chain slots v w versions top entries listed s _ (λ e off apart. i.beside (Slot c.args.chain) [] versions None s.chained refl e off apart (λ x. cc)) i.objects
    (i.path (Slot c.args.chain) [] versions None tt tt s.chained refl) (kinds-with v Version [] versions c.args.r c.requires.version s.kinds)
    (list-version_added c.args.chain slots v w versions top entries listed s c.args.r c.requires.version i.inserted i.objects)

pub returns-clause-links : goal.returns-clause-links
returns-clause-links g c = c.insert_behind.ensures.inserted
