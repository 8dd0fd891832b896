use Rattle.std.proofs.Common.{ℕ, ◌≡◌, ◌+◌, ◌*◌, [], List, length, get_or, drop, sym, ap, ◌∙◌, arith}
use Rattle.lsa_kinds.specs.declared.kind.Kind.{Kind}
use Rattle.lsa_kinds.specs.Kinds.{links_of}
use Rattle.lsa_yard.specs.Cells.{Cell, cell_at, body_at}
use Rattle.lsa_yard.proofs.Readings.{read-own, from_some, and_some}
use Rattle.lsa_yard.proofs.Segments.{found, some_and}
use Rattle.lsa_yard.proofs.yards.Yards.bytes.Goals as goal

pub overflow_add-offset : goal.overflow_add-offset
overflow_add-offset g c =
    let f = found g.row.S c.self.inside.segments c.args.self.now c.args.n c.args.offset (λ (b : Kind × List ℕ). Unit {0}) c.self.invariant c.self.view_is (some_and (body_at (get_or c.args.self.now c.args.n []) c.args.offset) c.requires) in
    let links : links_of f.object.kind ≡ c.links.result = ap links_of (from_some (body_at (get_or c.args.self.now c.args.n []) c.args.offset) (f.object.kind, drop (8 * links_of f.object.kind) f.object.cell.rest) (λ (b : Kind × List ℕ). b.0 ≡ c.object.result) f.object.body c.object.ensures) ∙ sym c.links.ensures in
    omega (arith, links, f.linked, f.seen.fits, f.seen.most)

pub overflow_sub-len : goal.overflow_sub-len
overflow_sub-len g c =
    let f = found g.row.S c.self.inside.segments c.args.self.now c.args.n c.args.offset (λ (b : Kind × List ℕ). Unit {0}) c.self.invariant c.self.view_is (some_and (body_at (get_or c.args.self.now c.args.n []) c.args.offset) c.requires) in
    let links : links_of f.object.kind ≡ c.links.result = ap links_of (from_some (body_at (get_or c.args.self.now c.args.n []) c.args.offset) (f.object.kind, drop (8 * links_of f.object.kind) f.object.cell.rest) (λ (b : Kind × List ℕ). b.0 ≡ c.object.result) f.object.body c.object.ensures) ∙ sym c.links.ensures in
    let len = from_some (cell_at (get_or c.args.self.now c.args.n []) c.args.offset) f.object.cell (λ (d : Cell). 8 + length d.rest ≡ c.len.result) f.object.here c.len.ensures.cell in
    omega (arith, links, len, f.linked)

pub lend-requires : goal.lend-requires
lend-requires g c =
    let f = found g.row.S c.self.inside.segments c.args.self.now c.args.n c.args.offset (λ (b : Kind × List ℕ). Unit {0}) c.self.invariant c.self.view_is (some_and (body_at (get_or c.args.self.now c.args.n []) c.args.offset) c.requires) in
    let links : links_of f.object.kind ≡ c.links.result = ap links_of (from_some (body_at (get_or c.args.self.now c.args.n []) c.args.offset) (f.object.kind, drop (8 * links_of f.object.kind) f.object.cell.rest) (λ (b : Kind × List ℕ). b.0 ≡ c.object.result) f.object.body c.object.ensures) ∙ sym c.links.ensures in
    let len = from_some (cell_at (get_or c.args.self.now c.args.n []) c.args.offset) f.object.cell (λ (d : Cell). 8 + length d.rest ≡ c.len.result) f.object.here c.len.ensures.cell in
    (omega arith, (f.less, omega (arith, links, len, f.linked, f.seen.fits)))

pub returns : goal.returns
returns g c =
    let f = found g.row.S c.self.inside.segments c.args.self.now c.args.n c.args.offset (λ (b : Kind × List ℕ). Unit {0}) c.self.invariant c.self.view_is (some_and (body_at (get_or c.args.self.now c.args.n []) c.args.offset) c.requires) in let x = f.object in
    let links : links_of f.object.kind ≡ c.links.result = ap links_of (from_some (body_at (get_or c.args.self.now c.args.n []) c.args.offset) (f.object.kind, drop (8 * links_of f.object.kind) f.object.cell.rest) (λ (b : Kind × List ℕ). b.0 ≡ c.object.result) f.object.body c.object.ensures) ∙ sym c.links.ensures in
    let len = from_some (cell_at (get_or c.args.self.now c.args.n []) c.args.offset) f.object.cell (λ (d : Cell). 8 + length d.rest ≡ c.len.result) f.object.here c.len.ensures.cell in
    let head : 8 * links_of x.kind ≡ 8 * c.links.result = ap (λ k. 8 * k) links in
    let own = c.lend.ensures ∙ read-own (get_or c.self.inside.segments c.args.n []) c.args.offset x.cell f.seen.there (8 * links_of x.kind) (8 * c.links.result) c.len.result head len f.linked in
    and_some (body_at (get_or c.args.self.now c.args.n []) c.args.offset) (x.kind, drop (8 * links_of x.kind) x.cell.rest) (λ (b : Kind × List ℕ). b.1 ≡ c.lend.result.now) x.body (sym own)
