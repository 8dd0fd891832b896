use Rattle.std.proofs.Common.{subst, sym, ap, ◌∙◌, arith}
use Rattle.lsa_segment.specs.Places.{used_bytes, AreLaid}
use Rattle.lsa_segment.proofs.Held.{segment, replaced}
use Rattle.lsa_segment.proofs.segments.Segments.write.Goals as goal

pub overflow_mul-n : goal.overflow_mul-n
overflow_mul-n g c = let s = segment g.row.S c.self.inside.used.items c.self.inside.block c.args.self.now c.args.n c.self.invariant c.self.view_is c.requires.segment in omega (arith, s.inside, s.far)

pub overflow_add-n : goal.overflow_add-n
overflow_add-n g c = let s = segment g.row.S c.self.inside.used.items c.self.inside.block c.args.self.now c.args.n c.self.invariant c.self.view_is c.requires.segment in omega (arith, s.inside, s.far, s.long, s.most, c.requires.inside)

pub write-requires : goal.write-requires
write-requires g c = let s = segment g.row.S c.self.inside.used.items c.self.inside.block c.args.self.now c.args.n c.self.invariant c.self.view_is c.requires.segment in omega (arith, s.inside, s.long, s.most, c.requires.inside)

pub invariant_of-self : goal.invariant_of-self
invariant_of-self g c =
    let r = replaced g.row.S c.self.inside.used.items c.self.inside.block c.args.self.now c.args.n c.args.offset c.args.bytes.now c.self.invariant c.self.view_is c.requires.segment c.requires.inside in
    subst (AreLaid g.row.S c.self.inside.used.items) (sym c.write.ensures) r.0

pub returns : goal.returns
returns g c =
    let r = replaced g.row.S c.self.inside.used.items c.self.inside.block c.args.self.now c.args.n c.args.offset c.args.bytes.now c.self.invariant c.self.view_is c.requires.segment c.requires.inside in
    ap (used_bytes g.row.S c.self.inside.used.items) c.write.ensures ∙ r.1
