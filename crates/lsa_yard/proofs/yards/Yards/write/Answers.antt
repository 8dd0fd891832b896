use Rattle.std.proofs.Common.{ℕ, ◌≡◌, ◌+◌, ◌*◌, ◌≤◌, [], List, length, get_or, drop, refl, sym, ap, ◌∙◌, arith, length-drop}
use Rattle.lsa_kinds.specs.declared.kind.Kind.{Kind}
use Rattle.lsa_kinds.specs.Kinds.{links_of}
use Rattle.lsa_yard.specs.Cells.{body_at, links_size, with_bytes}
use Rattle.lsa_yard.proofs.Readings.{from_some}
use Rattle.lsa_yard.proofs.Segments.{found, rewritten}
use Rattle.lsa_yard.proofs.yards.Yards.write.Goals as goal

pub overflow_add-offset : goal.overflow_add-offset
overflow_add-offset g c =
    let f = found g.row.S c.self.inside.segments c.args.self.now c.args.n c.args.offset (λ (b : Kind × List ℕ). c.args.from + length c.args.bytes.now ≤ length b.1) c.self.invariant c.self.view_is c.requires in
    let links : links_of f.object.kind ≡ c.links.result = ap links_of (from_some (body_at (get_or c.args.self.now c.args.n []) c.args.offset) (f.object.kind, drop (8 * links_of f.object.kind) f.object.cell.rest) (λ (b : Kind × List ℕ). b.0 ≡ c.object.result) f.object.body c.object.ensures) ∙ sym c.links.ensures in
    let inside : 8 * links_of f.object.kind + c.args.from + length c.args.bytes.now ≤ length f.object.cell.rest = omega (arith, f.holds, f.linked, length-drop (8 * links_of f.object.kind) f.object.cell.rest) in
    omega (arith, links, inside, f.seen.fits, f.seen.most)

pub overflow_add-offset-2 : goal.overflow_add-offset-2
overflow_add-offset-2 g c =
    let f = found g.row.S c.self.inside.segments c.args.self.now c.args.n c.args.offset (λ (b : Kind × List ℕ). c.args.from + length c.args.bytes.now ≤ length b.1) c.self.invariant c.self.view_is c.requires in
    let links : links_of f.object.kind ≡ c.links.result = ap links_of (from_some (body_at (get_or c.args.self.now c.args.n []) c.args.offset) (f.object.kind, drop (8 * links_of f.object.kind) f.object.cell.rest) (λ (b : Kind × List ℕ). b.0 ≡ c.object.result) f.object.body c.object.ensures) ∙ sym c.links.ensures in
    let inside : 8 * links_of f.object.kind + c.args.from + length c.args.bytes.now ≤ length f.object.cell.rest = omega (arith, f.holds, f.linked, length-drop (8 * links_of f.object.kind) f.object.cell.rest) in
    omega (arith, links, inside, f.seen.fits, f.seen.most)

pub write-requires : goal.write-requires
write-requires g c =
    let f = found g.row.S c.self.inside.segments c.args.self.now c.args.n c.args.offset (λ (b : Kind × List ℕ). c.args.from + length c.args.bytes.now ≤ length b.1) c.self.invariant c.self.view_is c.requires in
    let links : links_of f.object.kind ≡ c.links.result = ap links_of (from_some (body_at (get_or c.args.self.now c.args.n []) c.args.offset) (f.object.kind, drop (8 * links_of f.object.kind) f.object.cell.rest) (λ (b : Kind × List ℕ). b.0 ≡ c.object.result) f.object.body c.object.ensures) ∙ sym c.links.ensures in
    let inside : 8 * links_of f.object.kind + c.args.from + length c.args.bytes.now ≤ length f.object.cell.rest = omega (arith, f.holds, f.linked, length-drop (8 * links_of f.object.kind) f.object.cell.rest) in
    (omega arith, (f.less, omega (arith, links, inside, f.seen.fits)))

pub invariant_of-self : goal.invariant_of-self
invariant_of-self g c =
    let f = found g.row.S c.self.inside.segments c.args.self.now c.args.n c.args.offset (λ (b : Kind × List ℕ). c.args.from + length c.args.bytes.now ≤ length b.1) c.self.invariant c.self.view_is c.requires in
    let links : links_of f.object.kind ≡ c.links.result = ap links_of (from_some (body_at (get_or c.args.self.now c.args.n []) c.args.offset) (f.object.kind, drop (8 * links_of f.object.kind) f.object.cell.rest) (λ (b : Kind × List ℕ). b.0 ≡ c.object.result) f.object.body c.object.ensures) ∙ sym c.links.ensures in
    let inside : 8 * links_of f.object.kind + c.args.from + length c.args.bytes.now ≤ length f.object.cell.rest = omega (arith, f.holds, f.linked, length-drop (8 * links_of f.object.kind) f.object.cell.rest) in
    let x = f.object in let k = links_size x.cell.kind + c.args.from in let at = c.args.offset + (8 + 8 * c.links.result) + c.args.from in
    let place : at ≡ c.args.offset + (8 + k) = omega (arith, links, ap links_size x.is) in
    let r = rewritten g.row.S c.self.inside.segments c.write.new.self c.args.self.now c.args.n c.args.offset (λ (b : Kind × List ℕ). c.args.from + length c.args.bytes.now ≤ length b.1) f at k c.args.bytes.now
    (with_bytes c.args.from c.args.bytes.now) c.self.invariant c.self.view_is place (omega (arith, inside, ap links_size x.is)) refl c.write.ensures in
    r.0

pub returns : goal.returns
returns g c =
    let f = found g.row.S c.self.inside.segments c.args.self.now c.args.n c.args.offset (λ (b : Kind × List ℕ). c.args.from + length c.args.bytes.now ≤ length b.1) c.self.invariant c.self.view_is c.requires in
    let links : links_of f.object.kind ≡ c.links.result = ap links_of (from_some (body_at (get_or c.args.self.now c.args.n []) c.args.offset) (f.object.kind, drop (8 * links_of f.object.kind) f.object.cell.rest) (λ (b : Kind × List ℕ). b.0 ≡ c.object.result) f.object.body c.object.ensures) ∙ sym c.links.ensures in
    let inside : 8 * links_of f.object.kind + c.args.from + length c.args.bytes.now ≤ length f.object.cell.rest = omega (arith, f.holds, f.linked, length-drop (8 * links_of f.object.kind) f.object.cell.rest) in
    let x = f.object in let k = links_size x.cell.kind + c.args.from in let at = c.args.offset + (8 + 8 * c.links.result) + c.args.from in
    let place : at ≡ c.args.offset + (8 + k) = omega (arith, links, ap links_size x.is) in
    let r = rewritten g.row.S c.self.inside.segments c.write.new.self c.args.self.now c.args.n c.args.offset (λ (b : Kind × List ℕ). c.args.from + length c.args.bytes.now ≤ length b.1) f at k c.args.bytes.now
    (with_bytes c.args.from c.args.bytes.now) c.self.invariant c.self.view_is place (omega (arith, inside, ap links_size x.is)) refl c.write.ensures in
    r.1
