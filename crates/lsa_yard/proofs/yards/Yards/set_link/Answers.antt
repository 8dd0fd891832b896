use Rattle.std.proofs.Common.{ℕ, ◌+◌, ◌*◌, ◌≤◌, ◌<◌, [], List, length, get_or, set, refl, ap, ◌∙◌, arith}
use Rattle.lsa_kinds.specs.declared.kind.Kind.{Kind}
use Rattle.lsa_kinds.specs.Kinds.{links_of}
use Rattle.lsa_kinds.specs.Fields.{spelled_number}
use Rattle.lsa_kinds.specs.laws.Fields.{length-spelled}
use Rattle.lsa_segment.specs.Bytes.{overwritten}
use Rattle.lsa_yard.specs.Cells.{with_link}
use Rattle.lsa_yard.proofs.Segments.{found, rewritten}
use Rattle.lsa_yard.proofs.yards.Yards.set_link.Goals as goal

pub overflow_add-offset : goal.overflow_add-offset
overflow_add-offset g c =
    let f = found g.row.S c.self.inside.segments c.args.self.now c.args.n c.args.offset (λ (b : Kind × List ℕ). c.args.field < links_of b.0) c.self.invariant c.self.view_is c.requires in
    let inside : 8 * c.args.field + 8 ≤ length f.object.cell.rest = omega (arith, f.holds, f.linked) in
    omega (arith, inside, f.seen.fits, f.seen.most)

pub overflow_add-offset-2 : goal.overflow_add-offset-2
overflow_add-offset-2 g c =
    let f = found g.row.S c.self.inside.segments c.args.self.now c.args.n c.args.offset (λ (b : Kind × List ℕ). c.args.field < links_of b.0) c.self.invariant c.self.view_is c.requires in
    let inside : 8 * c.args.field + 8 ≤ length f.object.cell.rest = omega (arith, f.holds, f.linked) in
    omega (arith, inside, f.seen.fits, f.seen.most)

pub write-requires : goal.write-requires
write-requires g c =
    let f = found g.row.S c.self.inside.segments c.args.self.now c.args.n c.args.offset (λ (b : Kind × List ℕ). c.args.field < links_of b.0) c.self.invariant c.self.view_is c.requires in
    let inside : 8 * c.args.field + 8 ≤ length f.object.cell.rest = omega (arith, f.holds, f.linked) in
    (omega arith, (f.less, omega (arith, inside, f.seen.fits, ap length c.word_bytes.ensures, length-spelled 8 c.args.value)))

pub invariant_of-self : goal.invariant_of-self
invariant_of-self g c =
    let f = found g.row.S c.self.inside.segments c.args.self.now c.args.n c.args.offset (λ (b : Kind × List ℕ). c.args.field < links_of b.0) c.self.invariant c.self.view_is c.requires in
    let inside : 8 * c.args.field + 8 ≤ length f.object.cell.rest = omega (arith, f.holds, f.linked) in
    let word = spelled_number 8 c.args.value in let at = c.args.offset + 8 + 8 * c.args.field in
    let r = rewritten g.row.S c.self.inside.segments c.write.new.self c.args.self.now c.args.n c.args.offset (λ (b : Kind × List ℕ). c.args.field < links_of b.0) f at (8 * c.args.field) word
    (with_link c.args.field c.args.value) c.self.invariant c.self.view_is (omega arith) (omega (arith, inside, length-spelled 8 c.args.value)) refl
    (c.write.ensures ∙ ap (λ l. set c.self.inside.segments c.args.n (overwritten (get_or c.self.inside.segments c.args.n []) at l)) c.word_bytes.ensures) in
    r.0

pub returns : goal.returns
returns g c =
    let f = found g.row.S c.self.inside.segments c.args.self.now c.args.n c.args.offset (λ (b : Kind × List ℕ). c.args.field < links_of b.0) c.self.invariant c.self.view_is c.requires in
    let inside : 8 * c.args.field + 8 ≤ length f.object.cell.rest = omega (arith, f.holds, f.linked) in
    let word = spelled_number 8 c.args.value in let at = c.args.offset + 8 + 8 * c.args.field in
    let r = rewritten g.row.S c.self.inside.segments c.write.new.self c.args.self.now c.args.n c.args.offset (λ (b : Kind × List ℕ). c.args.field < links_of b.0) f at (8 * c.args.field) word
    (with_link c.args.field c.args.value) c.self.invariant c.self.view_is (omega arith) (omega (arith, inside, length-spelled 8 c.args.value)) refl
    (c.write.ensures ∙ ap (λ l. set c.self.inside.segments c.args.n (overwritten (get_or c.self.inside.segments c.args.n []) at l)) c.word_bytes.ensures) in
    r.1
