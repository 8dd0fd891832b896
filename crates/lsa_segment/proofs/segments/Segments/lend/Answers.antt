use Rattle.std.proofs.Common.{[], get_or, sym, ◌∙◌, arith}
use Rattle.lsa_segment.specs.Bytes.{part}
use Rattle.lsa_segment.proofs.Written.{map-some}
use Rattle.lsa_segment.proofs.Held.{segment, lent}
use Rattle.lsa_segment.proofs.segments.Segments.lend.Goals as goal

pub overflow_mul-n : goal.overflow_mul-n
overflow_mul-n g c =
    let s = segment g.row.S c.self.inside.used.items c.self.inside.block c.args.self.now c.args.n c.self.invariant c.self.view_is c.requires.segment in
    omega (arith, s.inside, s.far)

pub overflow_add-n : goal.overflow_add-n
overflow_add-n g c =
    let s = segment g.row.S c.self.inside.used.items c.self.inside.block c.args.self.now c.args.n c.self.invariant c.self.view_is c.requires.segment in
    omega (arith, s.inside, s.far, s.long, s.most, c.requires.inside)

pub lend-requires : goal.lend-requires
lend-requires g c =
    let bytes = get_or c.args.self.now c.args.n [] in
    let s = segment g.row.S c.self.inside.used.items c.self.inside.block c.args.self.now c.args.n c.self.invariant c.self.view_is c.requires.segment in
    let l = lent g.row.S c.self.inside.block c.args.n (get_or c.self.inside.used.items c.args.n 0) bytes c.args.offset c.args.len s c.requires.inside in
    (l.0, (part c.args.offset c.args.len bytes, l.1))

pub returns : goal.returns
returns g c =
    let bytes = get_or c.args.self.now c.args.n [] in
    let s = segment g.row.S c.self.inside.used.items c.self.inside.block c.args.self.now c.args.n c.self.invariant c.self.view_is c.requires.segment in
    let l = lent g.row.S c.self.inside.block c.args.n (get_or c.self.inside.used.items c.args.n 0) bytes c.args.offset c.args.len s c.requires.inside in
    map-some c.lend.result.now (part c.args.offset c.args.len bytes) (sym c.lend.ensures ∙ l.1)
