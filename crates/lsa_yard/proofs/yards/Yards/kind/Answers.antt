use Rattle.std.proofs.Common.{◌≡◌, [], length, get_or, ap, ◌∙◌, arith}
use Rattle.lsa_yard.specs.Cells.{Cell, cell_at}
use Rattle.lsa_yard.specs.Spelled.{mark_of}
use Rattle.lsa_yard.proofs.Readings.{read-mark, kind-told, and_some}
use Rattle.lsa_yard.proofs.Segments.{found-cell}
use Rattle.lsa_yard.proofs.yards.Yards.kind.Goals as goal

pub lend-requires : goal.lend-requires
lend-requires g c = let f = found-cell g.row.S c.self.inside.segments c.args.self.now c.args.n c.args.offset c.self.invariant c.self.view_is c.requires in (omega arith, (f.less, omega (arith, f.seen.fits)))

pub bounds-lend-0 : goal.bounds-lend-0
bounds-lend-0 g c = let f = found-cell g.row.S c.self.inside.segments c.args.self.now c.args.n c.args.offset c.self.invariant c.self.view_is c.requires in omega (arith, ap length (c.lend.ensures ∙ read-mark (get_or c.self.inside.segments c.args.n []) c.args.offset f.cell f.seen.there))

pub returns : goal.returns
returns g c =
    let f = found-cell g.row.S c.self.inside.segments c.args.self.now c.args.n c.args.offset c.self.invariant c.self.view_is c.requires in
    let code : get_or c.lend.result.now 0 0 ≡ mark_of f.cell.kind = ap (λ l. get_or l 0 0) (c.lend.ensures ∙ read-mark (get_or c.self.inside.segments c.args.n []) c.args.offset f.cell f.seen.there) in
    and_some (cell_at (get_or c.args.self.now c.args.n []) c.args.offset) f.cell (λ (d : Cell). d.kind ≡ c.from_code.result) f.seen.at (kind-told f.cell.kind c.from_code.result (get_or c.lend.result.now 0 0) code c.from_code.ensures)
