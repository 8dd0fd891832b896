use Rattle.std.proofs.Common.{◌<◌, [], length, refl, arith}
use Rattle.lsa_yard.proofs.Readings.{none-stand}
use Rattle.lsa_yard.proofs.Segments.{counted, kept}
use Rattle.lsa_yard.proofs.yards.Yards.clear.Goals as goal

pub clear-requires : goal.clear-requires
clear-requires g c = (omega arith, omega (arith, c.requires, counted c.self.inside.segments c.args.self.now c.self.view_is))

pub invariant_of-self : goal.invariant_of-self
invariant_of-self g c =
    let none = none-stand g.row.S [] refl (c.self.invariant.each 0).small in let less : c.args.n < length c.self.inside.segments = omega (arith, c.requires, counted c.self.inside.segments c.args.self.now c.self.view_is) in
    (kept g.row.S c.self.inside.segments c.clear.new.self c.args.self.now c.args.n [] c.self.invariant c.self.view_is less c.clear.ensures none.0).0

pub returns : goal.returns
returns g c =
    let none = none-stand g.row.S [] refl (c.self.invariant.each 0).small in let less : c.args.n < length c.self.inside.segments = omega (arith, c.requires, counted c.self.inside.segments c.args.self.now c.self.view_is) in
    (kept g.row.S c.self.inside.segments c.clear.new.self c.args.self.now c.args.n [] c.self.invariant c.self.view_is less c.clear.ensures none.0).1
