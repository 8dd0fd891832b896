use Rattle.std.proofs.Common.{ℕ, ◌≡◌, ◌+◌, ◌*◌, ◌≤◌, ◌<◌, [], List, length, get_or, drop, sym, ap, ◌∙◌, arith, length-take, length-drop}
use Rattle.lsa_kinds.specs.declared.kind.Kind.{Kind}
use Rattle.lsa_kinds.specs.Kinds.{links_of}
use Rattle.lsa_kinds.specs.Fields.{number}
use Rattle.lsa_yard.specs.Cells.{Cell, cell_at, link_in}
use Rattle.lsa_yard.proofs.Readings.{read-link, and_some}
use Rattle.lsa_yard.proofs.Segments.{found}
use Rattle.lsa_yard.proofs.yards.Yards.link.Goals as goal

pub overflow_add-offset : goal.overflow_add-offset
overflow_add-offset g c =
    let f = found g.row.S c.self.inside.segments c.args.self.now c.args.n c.args.offset (λ (b : Kind × List ℕ). c.args.field < links_of b.0) c.self.invariant c.self.view_is c.requires in
    let inside : 8 * c.args.field + 8 ≤ length f.object.cell.rest = omega (arith, f.holds, f.linked) in
    omega (arith, inside, f.seen.fits, f.seen.most)

pub overflow_add-offset-2 : goal.overflow_add-offset-2
overflow_add-offset-2 g c =
    let f = found g.row.S c.self.inside.segments c.args.self.now c.args.n c.args.offset (λ (b : Kind × List ℕ). c.args.field < links_of b.0) c.self.invariant c.self.view_is c.requires in
    let inside : 8 * c.args.field + 8 ≤ length f.object.cell.rest = omega (arith, f.holds, f.linked) in
    omega (arith, inside, f.seen.fits, f.seen.most)

pub lend-requires : goal.lend-requires
lend-requires g c =
    let f = found g.row.S c.self.inside.segments c.args.self.now c.args.n c.args.offset (λ (b : Kind × List ℕ). c.args.field < links_of b.0) c.self.invariant c.self.view_is c.requires in
    let inside : 8 * c.args.field + 8 ≤ length f.object.cell.rest = omega (arith, f.holds, f.linked) in
    (omega arith, (f.less, omega (arith, inside, f.seen.fits)))

pub word-requires : goal.word-requires
word-requires g c =
    let f = found g.row.S c.self.inside.segments c.args.self.now c.args.n c.args.offset (λ (b : Kind × List ℕ). c.args.field < links_of b.0) c.self.invariant c.self.view_is c.requires in
    let inside : 8 * c.args.field + 8 ≤ length f.object.cell.rest = omega (arith, f.holds, f.linked) in
    let at = c.args.offset + 8 + 8 * c.args.field in
    omega (arith, ap length c.lend.ensures, length-take 8 (drop at (get_or c.self.inside.segments c.args.n [])), length-drop at (get_or c.self.inside.segments c.args.n []), inside, f.seen.fits)

pub returns : goal.returns
returns g c =
    let f = found g.row.S c.self.inside.segments c.args.self.now c.args.n c.args.offset (λ (b : Kind × List ℕ). c.args.field < links_of b.0) c.self.invariant c.self.view_is c.requires in
    let inside : 8 * c.args.field + 8 ≤ length f.object.cell.rest = omega (arith, f.holds, f.linked) in
    let told = c.word.ensures ∙ ap number c.lend.ensures ∙ read-link (get_or c.self.inside.segments c.args.n []) c.args.offset f.object.cell f.seen.there c.args.field inside in
    and_some (cell_at (get_or c.args.self.now c.args.n []) c.args.offset) f.object.cell (λ (d : Cell). link_in c.args.field d ≡ c.word.result) f.object.here (sym told)
