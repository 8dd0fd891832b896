use Rattle.std.proofs.Common.{None, ap, is_some, arith}
use Rattle.lsa_kinds.specs.declared.kind.Kind.TheVariants.{Version}
use Rattle.lsa_region.specs.declared.end.End.TheVariants.{Obj, Slot}
use Rattle.lsa_region.specs.Region.{link_of}
use Rattle.lsa_path.specs.laws.Members.{member-here}
use Rattle.lsa_path.specs.laws.Passing.{path-entered, path-apart}
use Rattle.lsa_rooms.proofs.Rooms.{kind-end, stands-chained, kinds-without, list-version_dropped}
use Rattle.lsa_rooms.proofs.room.drop_version.Goals as goal

pub take_out-requires : goal.take_out-requires
take_out-requires g c =
    let v = c.args.region.now in let r = c.args.r in let xs = c.requires.1 in let ys = c.requires.2 in let s = c.requires.6 in let well = c.known.ensures.well in
    let here = member-here xs ys r in let version = s.kinds r here in let a = path-entered 1 0 (link_of v) (Slot c.args.chain) _ None s.chained r here in (
      omega arith,
      (
        kind-end v r Version 1 version (omega arith),
        (
          kind-end v r Version 0 version (omega arith),
          (ap is_some (well.paired.mates a.0 (Obj r 1) a.1), ((λ e. cc), path-apart 1 0 (λ e. cc) (link_of v) well.paired (Slot c.args.chain) _ None tt s.chained r here)),
        ),
      ),
    )

pub returns-clause-dropped : goal.returns-clause-dropped
returns-clause-dropped g c = λ slots xs ys top entries listed s.
    let v = c.args.region.now in let w = c.take_out.new.region in let o = c.take_out.ensures in
    stands-chained c.args.chain slots v w _ top entries listed s _ (λ e off apart. o.beside (Slot c.args.chain) xs ys None s.chained e off apart (λ x. cc)) o.objects
    (o.path (Slot c.args.chain) xs ys None tt tt s.chained) (kinds-without v Version xs ys c.args.r s.kinds)
    (list-version_dropped c.args.chain slots v w xs ys c.args.r top entries listed s c.known.ensures.well o.taken o.objects)

pub returns-clause-links : goal.returns-clause-links
returns-clause-links g c = c.take_out.ensures.taken
