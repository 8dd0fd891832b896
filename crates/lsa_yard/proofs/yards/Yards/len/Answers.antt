use Rattle.std.proofs.Common.{◌≡◌, ◌+◌, [], length, get_or, drop, sym, ap, ◌∙◌, arith, length-take, length-drop}
use Rattle.lsa_kinds.specs.Fields.{number_at}
use Rattle.lsa_yard.specs.Cells.{Cell, cell_at}
use Rattle.lsa_yard.proofs.Readings.{read-size, and_some}
use Rattle.lsa_yard.proofs.Segments.{found-cell}
use Rattle.lsa_yard.proofs.yards.Yards.len.Goals as goal

pub lend-requires : goal.lend-requires
lend-requires g c = let f = found-cell g.row.S c.self.inside.segments c.args.self.now c.args.n c.args.offset c.self.invariant c.self.view_is c.requires in (omega arith, (f.less, omega (arith, f.seen.fits)))

pub get-requires-clause-inside : goal.get-requires-clause-inside
get-requires-clause-inside g c =
    let f = found-cell g.row.S c.self.inside.segments c.args.self.now c.args.n c.args.offset c.self.invariant c.self.view_is c.requires in omega (arith, ap length c.lend.ensures, length-take 8 (drop c.args.offset (get_or c.self.inside.segments c.args.n [])), length-drop c.args.offset (get_or c.self.inside.segments c.args.n []), f.seen.fits)

pub returns-clause-cell : goal.returns-clause-cell
returns-clause-cell g c =
    let f = found-cell g.row.S c.self.inside.segments c.args.self.now c.args.n c.args.offset c.self.invariant c.self.view_is c.requires in
    let told = c.get.ensures ∙ ap (number_at 4 4) c.lend.ensures ∙ read-size (get_or c.self.inside.segments c.args.n []) c.args.offset f.cell f.seen.there in
    and_some (cell_at (get_or c.args.self.now c.args.n []) c.args.offset) f.cell (λ (d : Cell). 8 + length d.rest ≡ c.get.result) f.seen.at (sym told)

pub returns-clause-small : goal.returns-clause-small
returns-clause-small g c =
    let f = found-cell g.row.S c.self.inside.segments c.args.self.now c.args.n c.args.offset c.self.invariant c.self.view_is c.requires in
    let told = c.get.ensures ∙ ap (number_at 4 4) c.lend.ensures ∙ read-size (get_or c.self.inside.segments c.args.n []) c.args.offset f.cell f.seen.there in
    omega (arith, told, f.seen.fits, f.seen.most)
