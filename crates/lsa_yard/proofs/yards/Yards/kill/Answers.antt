use Rattle.std.proofs.Common.{ℕ, [], List, get_or, arith}
use Rattle.lsa_kinds.specs.declared.kind.Kind.{Kind}
use Rattle.lsa_yard.specs.Cells.{body_at}
use Rattle.lsa_yard.proofs.Segments.{found, some_and, killed-at}
use Rattle.lsa_yard.proofs.yards.Yards.kill.Goals as goal

pub write-requires : goal.write-requires
write-requires g c = let f = found g.row.S c.self.inside.segments c.args.self.now c.args.n c.args.offset (λ (b : Kind × List ℕ). Unit {0}) c.self.invariant c.self.view_is (some_and (body_at (get_or c.args.self.now c.args.n []) c.args.offset) c.requires) in (omega arith, (f.less, omega (arith, f.seen.fits)))

pub invariant_of-self : goal.invariant_of-self
invariant_of-self g c =
    let f = found g.row.S c.self.inside.segments c.args.self.now c.args.n c.args.offset (λ (b : Kind × List ℕ). Unit {0}) c.self.invariant c.self.view_is (some_and (body_at (get_or c.args.self.now c.args.n []) c.args.offset) c.requires) in
    (killed-at g.row.S c.self.inside.segments c.write.new.self c.args.self.now c.args.n c.args.offset (λ (b : Kind × List ℕ). Unit {0}) f c.self.invariant c.self.view_is c.write.ensures).0

pub returns : goal.returns
returns g c =
    let f = found g.row.S c.self.inside.segments c.args.self.now c.args.n c.args.offset (λ (b : Kind × List ℕ). Unit {0}) c.self.invariant c.self.view_is (some_and (body_at (get_or c.args.self.now c.args.n []) c.args.offset) c.requires) in
    (killed-at g.row.S c.self.inside.segments c.write.new.self c.args.self.now c.args.n c.args.offset (λ (b : Kind × List ℕ). Unit {0}) f c.self.invariant c.self.view_is c.write.ensures).1
