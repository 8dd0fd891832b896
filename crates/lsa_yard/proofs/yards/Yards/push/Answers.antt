use Rattle.std.proofs.Common.{◌≡◌, ◌+◌, ◌*◌, ◌<◌, [], length, get_or, ap, ◌∙◌, arith}
use Rattle.lsa_kinds.specs.Kinds.{links_of, up8}
use Rattle.lsa_yard.specs.calls.Spelled.{head_of}
use Rattle.lsa_yard.proofs.Readings.{fits-behind}
use Rattle.lsa_yard.proofs.Segments.{long-at, counted, grown, length-head, whole-cell}
use Rattle.lsa_yard.proofs.yards.Yards.push.Goals as goal

pub begin-offset-requires : goal.begin-offset-requires
begin-offset-requires g c =
    let kind = c.args.kind in let bytes = c.args.bytes.now in let was = get_or c.self.inside.segments c.args.n [] in
    let less : c.args.n < length c.self.inside.segments = omega (arith, c.requires.segment, counted c.self.inside.segments c.args.self.now c.self.view_is) in
    let long = long-at g.row.S c.self.inside.segments c.args.self.now c.args.n c.self.invariant c.self.view_is in
    let fits = fits-behind was (get_or c.args.self.now c.args.n []) kind bytes g.row.S long c.requires.fits in
    (omega arith, (less, (omega (arith, fits), (c.self.invariant.each 0).small)))

pub push-requires : goal.push-requires
push-requires g c =
    let kind = c.args.kind in let bytes = c.args.bytes.now in let was = get_or c.self.inside.segments c.args.n [] in
    let less : c.args.n < length c.self.inside.segments = omega (arith, c.requires.segment, counted c.self.inside.segments c.args.self.now c.self.view_is) in
    let long = long-at g.row.S c.self.inside.segments c.args.self.now c.args.n c.self.invariant c.self.view_is in
    let fits = fits-behind was (get_or c.args.self.now c.args.n []) kind bytes g.row.S long c.requires.fits in
    let one = grown c.self.inside.segments c.begin-offset.new.segments c.args.n (head_of kind (length bytes)) less c.begin-offset.ensures.after in let head = length-head kind (length bytes) in
    (omega arith, (one.0, omega (arith, fits, one.1, head)))

pub pad-requires : goal.pad-requires
pad-requires g c =
    let kind = c.args.kind in let bytes = c.args.bytes.now in let was = get_or c.self.inside.segments c.args.n [] in
    let less : c.args.n < length c.self.inside.segments = omega (arith, c.requires.segment, counted c.self.inside.segments c.args.self.now c.self.view_is) in
    let long = long-at g.row.S c.self.inside.segments c.args.self.now c.args.n c.self.invariant c.self.view_is in
    let fits = fits-behind was (get_or c.args.self.now c.args.n []) kind bytes g.row.S long c.requires.fits in
    let one = grown c.self.inside.segments c.begin-offset.new.segments c.args.n (head_of kind (length bytes)) less c.begin-offset.ensures.after in let head = length-head kind (length bytes) in
    let two = grown c.begin-offset.new.segments c.push.new.self c.args.n bytes one.0 c.push.ensures.after in
    let small = (c.self.invariant.each 0).small in let size : 8 + 8 * c.links.result + length bytes ≡ 8 + 8 * links_of kind + length bytes = omega (arith, c.links.ensures) in
    (omega arith, (two.0, (omega (arith, fits, one.1, head, two.1, size, ap up8 size), omega (arith, size, fits, small))))

pub invariant_of-self : goal.invariant_of-self
invariant_of-self g c =
    let kind = c.args.kind in let bytes = c.args.bytes.now in let was = get_or c.self.inside.segments c.args.n [] in
    let less : c.args.n < length c.self.inside.segments = omega (arith, c.requires.segment, counted c.self.inside.segments c.args.self.now c.self.view_is) in
    let long = long-at g.row.S c.self.inside.segments c.args.self.now c.args.n c.self.invariant c.self.view_is in
    let fits = fits-behind was (get_or c.args.self.now c.args.n []) kind bytes g.row.S long c.requires.fits in
    let len = 8 + 8 * c.links.result + length bytes in
    let r = whole-cell g.row.S c.self.inside.segments c.begin-offset.new.segments c.push.new.self c.pad.new.segments c.args.self.now c.args.n kind bytes len c.self.invariant c.self.view_is less c.requires.fits
    (omega (arith, c.links.ensures)) c.begin-offset.ensures.after c.push.ensures.after c.pad.ensures in
    r.0

pub returns-clause-offset : goal.returns-clause-offset
returns-clause-offset g c = c.begin-offset.ensures.offset ∙ long-at g.row.S c.self.inside.segments c.args.self.now c.args.n c.self.invariant c.self.view_is

pub returns-clause-after : goal.returns-clause-after
returns-clause-after g c =
    let kind = c.args.kind in let bytes = c.args.bytes.now in let was = get_or c.self.inside.segments c.args.n [] in
    let less : c.args.n < length c.self.inside.segments = omega (arith, c.requires.segment, counted c.self.inside.segments c.args.self.now c.self.view_is) in
    let long = long-at g.row.S c.self.inside.segments c.args.self.now c.args.n c.self.invariant c.self.view_is in
    let fits = fits-behind was (get_or c.args.self.now c.args.n []) kind bytes g.row.S long c.requires.fits in
    let len = 8 + 8 * c.links.result + length bytes in
    let r = whole-cell g.row.S c.self.inside.segments c.begin-offset.new.segments c.push.new.self c.pad.new.segments c.args.self.now c.args.n kind bytes len c.self.invariant c.self.view_is less c.requires.fits
    (omega (arith, c.links.ensures)) c.begin-offset.ensures.after c.push.ensures.after c.pad.ensures in
    r.1
