use Rattle.std.proofs.Common.{sym, ◌∙◌, arith}
use Rattle.lsa_region.specs.declared.end.End.TheVariants.{Obj}
use Rattle.lsa_region.specs.Region.{link_of}
use Rattle.lsa_path.specs.laws.Paths.{path-inserted, same_field}
use Rattle.lsa_path.specs.laws.Beside.{inserted-beside}
use Rattle.lsa_path.specs.laws.Steps.{first-unset, second-unset, mate-unset, mate-differs, inserted-between, inserted-last}
use Rattle.lsa_path.proofs.path.insert_behind.Goals as goal

pub link-requires : goal.link-requires
link-requires g c =
    let p = Obj c.args.r c.args.toward in let q = Obj c.args.r c.args.onward in let u = c.unlink-mate.ensures in (
      omega arith,
      (
        u.objects.ends c.args.a c.requires.there,
        (
          u.objects.ends p c.requires.first,
          (
            u.parted.first,
            (
              first-unset (link_of c.args.region.now) (link_of c.unlink-mate.new.self) (link_of c.unlink-mate.new.self) (link_of c.unlink-mate.new.self) c.args.a c.unlink-mate.result p q c.known.ensures.well.paired u.mate u.parted c.requires.first_unset c.requires.second_unset,
              c.requires.apart,
            ),
          ),
        ),
      ),
    )

pub link-requires-in-Some : goal.link-requires-in-Some
link-requires-in-Some g c =
    let p = Obj c.args.r c.args.toward in let q = Obj c.args.r c.args.onward in let u = c.unlink-mate.ensures in let b = c.unlink-mate.result in let t = c.link.ensures in
    let old = link_of c.args.region.now in let m = link_of c.unlink-mate.new.self in let n = link_of c.link.new.self in let well = c.known.ensures.well in (
      omega arith,
      (
        t.objects.ends q (u.objects.ends q c.requires.second),
        (
          t.objects.ends b (u.objects.ends b (well.ends c.args.a b u.mate)),
          (
            second-unset old m n n c.args.a b p q well.paired u.mate u.parted c.requires.first_unset c.requires.second_unset t.tied (λ e. c.requires.differ (same_field c.args.r c.args.r c.args.toward c.args.onward e)),
            (
              mate-unset old m n n c.args.a b p q well.paired u.mate u.parted c.requires.first_unset c.requires.second_unset t.tied,
              mate-differs old m n n c.args.a b p q well.paired u.mate u.parted c.requires.first_unset c.requires.second_unset,
            ),
          ),
        ),
      ),
    )

pub returns-in-Some-clause-inserted : goal.returns-in-Some-clause-inserted
returns-in-Some-clause-inserted g c =
    let p = Obj c.args.r c.args.toward in let q = Obj c.args.r c.args.onward in let u = c.unlink-mate.ensures in
    inserted-between (link_of c.args.region.now) (link_of c.unlink-mate.new.self) (link_of c.link.new.self) (link_of c.link-in-Some.new.self) c.args.a c.unlink-mate.result p q c.known.ensures.well.paired u.mate u.parted
    c.requires.first_unset c.requires.second_unset c.link.ensures.tied c.link-in-Some.ensures.tied (λ e. c.requires.differ (same_field c.args.r c.args.r c.args.toward c.args.onward e))

pub returns-in-Some-clause-path : goal.returns-in-Some-clause-path
returns-in-Some-clause-path g c = λ start xs ys finish out out' p is. path-inserted c.args.toward c.args.onward c.requires.differ (link_of c.args.region.now) c.known.ensures.well.paired (link_of c.link-in-Some.new.self) c.args.a c.args.r (returns-in-Some-clause-inserted g c) c.requires.first_unset start xs ys finish out out' p is

pub returns-in-None-clause-inserted : goal.returns-in-None-clause-inserted
returns-in-None-clause-inserted g c =
    inserted-last (link_of c.args.region.now) (link_of c.link-in-None.new.self) c.args.a (Obj c.args.r c.args.toward) (Obj c.args.r c.args.onward) c.link-in-None.ensures.tied
    (sym c.link_of.ensures ∙ c.in-None.is) c.requires.second_unset c.requires.other (λ e. c.requires.differ (same_field c.args.r c.args.r c.args.toward c.args.onward e))

pub returns-in-None-clause-path : goal.returns-in-None-clause-path
returns-in-None-clause-path g c = λ start xs ys finish out out' p is. path-inserted c.args.toward c.args.onward c.requires.differ (link_of c.args.region.now) c.known.ensures.well.paired (link_of c.link-in-None.new.self) c.args.a c.args.r (returns-in-None-clause-inserted g c) c.requires.first_unset start xs ys finish out out' p is

pub returns-in-Some-clause-beside : goal.returns-in-Some-clause-beside
returns-in-Some-clause-beside g c = λ start xs ys finish p is e off start_apart finish_apart. inserted-beside c.args.toward c.args.onward (link_of c.args.region.now) e off (link_of c.link-in-Some.new.self) c.args.a c.args.r (returns-in-Some-clause-inserted g c) start xs ys finish start_apart finish_apart p is

pub returns-in-None-clause-beside : goal.returns-in-None-clause-beside
returns-in-None-clause-beside g c = λ start xs ys finish p is e off start_apart finish_apart. inserted-beside c.args.toward c.args.onward (link_of c.args.region.now) e off (link_of c.link-in-None.new.self) c.args.a c.args.r (returns-in-None-clause-inserted g c) start xs ys finish start_apart finish_apart p is
