use Rattle.std.proofs.Common.{None, arith}
use Rattle.lsa_kinds.specs.declared.kind.Kind.TheVariants.{Dummy}
use Rattle.lsa_region.specs.declared.end.End.TheVariants.{Obj}
use Rattle.lsa_rooms.proofs.Rooms.{kind-end, stands-ordered, kinds-with}
use Rattle.lsa_rooms.proofs.room.insert.Goals as goal

pub insert_behind-requires : goal.insert_behind-requires
insert_behind-requires g c =
    let v = c.args.region.now in let r = c.args.r in (
      omega arith,
      (
        c.requires.there,
        (
          kind-end v r Dummy 3 c.requires.dummy (omega arith),
          (kind-end v r Dummy 4 c.requires.dummy (omega arith), (c.requires.left, (c.requires.right, ((λ e. cc), (c.requires.apart, c.requires.other))))),
        ),
      ),
    )

pub returns-clause-inserted : goal.returns-clause-inserted
returns-clause-inserted g c = λ chain slots versions xs ys listed s is.
    let v = c.args.region.now in let w = c.insert_behind.new.region in let i = c.insert_behind.ensures in
    stands-ordered chain slots v w versions c.args._top _ listed s _ (λ e off apart. i.beside (Obj c.args._top 2) xs ys None s.ordered is e off apart (λ x. cc)) i.objects
    (i.path (Obj c.args._top 2) xs ys None ((λ e. cc), (λ e. cc)) tt s.ordered is) (kinds-with v Dummy xs ys c.args.r c.requires.dummy s.dummies)

pub returns-clause-links : goal.returns-clause-links
returns-clause-links g c = c.insert_behind.ensures.inserted
