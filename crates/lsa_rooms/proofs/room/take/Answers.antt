use Rattle.std.proofs.Common.{None, ap, is_some, arith}
use Rattle.lsa_kinds.specs.declared.kind.Kind.TheVariants.{Dummy}
use Rattle.lsa_region.specs.declared.end.End.TheVariants.{Obj}
use Rattle.lsa_region.specs.Region.{link_of}
use Rattle.lsa_path.specs.laws.Members.{member-here}
use Rattle.lsa_path.specs.laws.Passing.{path-entered, path-apart}
use Rattle.lsa_rooms.proofs.Rooms.{kind-end, stands-ordered, kinds-without}
use Rattle.lsa_rooms.proofs.room.take.Goals as goal

pub take_out-requires : goal.take_out-requires
take_out-requires g c =
    let v = c.args.region.now in let r = c.args.r in let top = Obj c.args._top 2 in let xs = c.requires.3 in let ys = c.requires.4 in let s = c.requires.6 in let well = c.known.ensures.well in
    let here = member-here xs ys r in let dummy = s.dummies r here in let a = path-entered 3 4 (link_of v) top _ None s.ordered r here in (
      omega arith,
      (
        kind-end v r Dummy 3 dummy (omega arith),
        (
          kind-end v r Dummy 4 dummy (omega arith),
          (ap is_some (well.paired.mates a.0 (Obj r 3) a.1), ((λ e. cc), path-apart 3 4 (λ e. cc) (link_of v) well.paired top _ None ((λ e. cc), (λ e. cc)) s.ordered r here)),
        ),
      ),
    )

pub returns-clause-taken : goal.returns-clause-taken
returns-clause-taken g c = λ chain slots versions xs ys listed s.
    let v = c.args.region.now in let w = c.take_out.new.region in let o = c.take_out.ensures in
    stands-ordered chain slots v w versions c.args._top _ listed s _ (λ e off apart. o.beside (Obj c.args._top 2) xs ys None s.ordered e off apart (λ x. cc)) o.objects
    (o.path (Obj c.args._top 2) xs ys None ((λ e. cc), (λ e. cc)) tt s.ordered) (kinds-without v Dummy xs ys c.args.r s.dummies)

pub returns-clause-links : goal.returns-clause-links
returns-clause-links g c = c.take_out.ensures.taken
