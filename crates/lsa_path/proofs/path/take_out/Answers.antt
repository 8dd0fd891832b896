use Rattle.std.proofs.Common.{◌≢◌, sym, ◌∙◌, arith}
use Rattle.lsa_region.specs.declared.end.End.TheVariants.{Obj}
use Rattle.lsa_region.specs.Region.{link_of}
use Rattle.lsa_path.specs.laws.Paths.{path-taken, same_field}
use Rattle.lsa_path.specs.laws.Beside.{taken-beside}
use Rattle.lsa_path.specs.laws.Steps.{taken-last, taken-between, before-unset, ends-differ}
use Rattle.lsa_path.proofs.path.take_out.Goals as goal

pub link-requires : goal.link-requires
link-requires g c =
    let p = Obj c.args.r c.args.toward in let q = Obj c.args.r c.args.onward in let u = c.unlink-mate.ensures in let v = c.unlink-next.ensures in let a = c.unlink-mate.result in let b = c.unlink-next.result in
    let old = link_of c.args.region.now in let m = link_of c.unlink-mate.new.self in let n = link_of c.unlink-next.new.self in let well = c.known.ensures.well in
    let differ : p ≢ q = λ e. c.requires.differ (same_field c.args.r c.args.r c.args.toward c.args.onward e) in (
      omega arith,
      (
        v.objects.ends a (u.objects.ends a (well.ends p a u.mate)),
        (
          v.objects.ends b (u.well.ends q b v.mate),
          (
            before-unset old m a p q well.paired u.mate u.parted differ c.requires.apart n n b v.mate v.parted,
            (
              v.parted.second,
              ends-differ old m a p q well.paired u.mate u.parted differ c.requires.apart n n b v.mate v.parted,
            ),
          ),
        ),
      ),
    )

pub returns-in-Some-clause-taken : goal.returns-in-Some-clause-taken
returns-in-Some-clause-taken g c =
    let p = Obj c.args.r c.args.toward in let q = Obj c.args.r c.args.onward in let u = c.unlink-mate.ensures in let v = c.unlink-next.ensures in
    taken-between (link_of c.args.region.now) (link_of c.unlink-mate.new.self) c.unlink-mate.result p q c.known.ensures.well.paired u.mate u.parted (λ e. c.requires.differ (same_field c.args.r c.args.r c.args.toward c.args.onward e)) c.requires.apart
    (link_of c.unlink-next.new.self) (link_of c.link.new.self) c.unlink-next.result v.mate v.parted c.link.ensures.tied

pub returns-in-Some-clause-path : goal.returns-in-Some-clause-path
returns-in-Some-clause-path g c = λ start xs ys finish out out' p. path-taken c.args.toward c.args.onward c.requires.differ (link_of c.args.region.now) c.known.ensures.well.paired (link_of c.link.new.self) c.args.r (returns-in-Some-clause-taken g c) start xs ys finish out out' p

pub returns-in-None-clause-taken : goal.returns-in-None-clause-taken
returns-in-None-clause-taken g c =
    let p = Obj c.args.r c.args.toward in let q = Obj c.args.r c.args.onward in let u = c.unlink-mate.ensures in
    taken-last (link_of c.args.region.now) (link_of c.unlink-mate.new.self) c.unlink-mate.result p q c.known.ensures.well.paired u.mate u.parted (λ e. c.requires.differ (same_field c.args.r c.args.r c.args.toward c.args.onward e)) c.requires.apart
    (sym c.link_of.ensures ∙ c.in-None.is)

pub returns-in-None-clause-path : goal.returns-in-None-clause-path
returns-in-None-clause-path g c = λ start xs ys finish out out' p. path-taken c.args.toward c.args.onward c.requires.differ (link_of c.args.region.now) c.known.ensures.well.paired (link_of c.unlink-mate.new.self) c.args.r (returns-in-None-clause-taken g c) start xs ys finish out out' p

pub returns-in-Some-clause-beside : goal.returns-in-Some-clause-beside
returns-in-Some-clause-beside g c = λ start xs ys finish p e off start_apart finish_apart. taken-beside c.args.toward c.args.onward (link_of c.args.region.now) e off c.known.ensures.well.paired (link_of c.link.new.self) c.args.r (returns-in-Some-clause-taken g c) start xs ys finish start_apart finish_apart p

pub returns-in-None-clause-beside : goal.returns-in-None-clause-beside
returns-in-None-clause-beside g c = λ start xs ys finish p e off start_apart finish_apart. taken-beside c.args.toward c.args.onward (link_of c.args.region.now) e off c.known.ensures.well.paired (link_of c.unlink-mate.new.self) c.args.r (returns-in-None-clause-taken g c) start xs ys finish start_apart finish_apart p
