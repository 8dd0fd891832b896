use Rattle.std.proofs.Common.{◌≡◌, ℕ, ◌+◌, ◌≤◌, ◌<◌, List, length, refl, sym, ap, ◌∙◌, subst}
use Rattle.std.specs.Prelude.{IsSomeAnd}
use Rattle.lsa_store.specs.Room.{free_count}
use Rattle.lsa_store.specs.Bytes.{overwritten}
use Rattle.lsa_store.specs.laws.Written.{written-here, written-others, written-words, written-count}
use Rattle.lsa_region.specs.declared.end.End.{End}
use Rattle.lsa_region.specs.Region.{View, body, link_of, IsWritten, objects}
use Rattle.lsa_region.proofs.Regions.{written, links-same, region-write}
use Rattle.lsa_region.proofs.region.Region.write.Goals as goal

pub invariant_of-self : goal.invariant_of-self
invariant_of-self g c =
    let i = c.self.inside in let v : View = record { cells = i.store.cells; roots = i.roots; usages = i.store.usages; epoch = i.epoch; moved = i.moved; compacted = i.compacted } in
    let s = c.write.new.self in let e = c.write.ensures in let bytes = c.args.bytes.now in let change : List ℕ → List ℕ = λ b. overwritten b c.args.offset bytes in
    let w : View = record v { cells = s.cells; usages = s.usages } in
    let inside = subst (λ (u : View). IsSomeAnd (body u c.args.r) (λ b. c.args.offset + length bytes ≤ length b.1)) (sym c.self.view_is) c.requires in
    let links : (x : End) → link_of w x ≡ link_of v x = λ x. links-same v w x refl (λ q field. written-words g.row.S i.store c.known.ensures s.cells c.args.r c.args.offset bytes inside e.changed q field) in
    let is = written v w c.args.r change (written-here g.row.S i.store c.known.ensures s.cells c.args.r c.args.offset bytes inside e.changed) (written-others g.row.S i.store c.known.ensures s.cells c.args.r c.args.offset bytes inside e.changed)
    links refl e.usages refl refl refl in
    region-write v w c.args.r change c.self.invariant is (subst (λ l. 0 < free_count l) (sym e.usages) c.self.invariant.reserve)

pub returns-clause-written : goal.returns-clause-written
returns-clause-written g c =
    let i = c.self.inside in let v : View = record { cells = i.store.cells; roots = i.roots; usages = i.store.usages; epoch = i.epoch; moved = i.moved; compacted = i.compacted } in
    let s = c.write.new.self in let e = c.write.ensures in let bytes = c.args.bytes.now in let change : List ℕ → List ℕ = λ b. overwritten b c.args.offset bytes in
    let w : View = record v { cells = s.cells; usages = s.usages } in
    let inside = subst (λ (u : View). IsSomeAnd (body u c.args.r) (λ b. c.args.offset + length bytes ≤ length b.1)) (sym c.self.view_is) c.requires in
    let links : (x : End) → link_of w x ≡ link_of v x = λ x. links-same v w x refl (λ q field. written-words g.row.S i.store c.known.ensures s.cells c.args.r c.args.offset bytes inside e.changed q field) in
    let is = written v w c.args.r change (written-here g.row.S i.store c.known.ensures s.cells c.args.r c.args.offset bytes inside e.changed) (written-others g.row.S i.store c.known.ensures s.cells c.args.r c.args.offset bytes inside e.changed)
    links refl e.usages refl refl refl in
    subst (λ (u : View). IsWritten u w c.args.r change) c.self.view_is is

pub returns-clause-count : goal.returns-clause-count
returns-clause-count g c =
    let i = c.self.inside in let v : View = record { cells = i.store.cells; roots = i.roots; usages = i.store.usages; epoch = i.epoch; moved = i.moved; compacted = i.compacted } in
    let s = c.write.new.self in let e = c.write.ensures in let bytes = c.args.bytes.now in let change : List ℕ → List ℕ = λ b. overwritten b c.args.offset bytes in
    let w : View = record v { cells = s.cells; usages = s.usages } in
    let inside = subst (λ (u : View). IsSomeAnd (body u c.args.r) (λ b. c.args.offset + length bytes ≤ length b.1)) (sym c.self.view_is) c.requires in
    let links : (x : End) → link_of w x ≡ link_of v x = λ x. links-same v w x refl (λ q field. written-words g.row.S i.store c.known.ensures s.cells c.args.r c.args.offset bytes inside e.changed q field) in
    let is = written v w c.args.r change (written-here g.row.S i.store c.known.ensures s.cells c.args.r c.args.offset bytes inside e.changed) (written-others g.row.S i.store c.known.ensures s.cells c.args.r c.args.offset bytes inside e.changed)
    links refl e.usages refl refl refl in
    written-count g.row.S i.store c.known.ensures s.cells c.args.r c.args.offset bytes inside e.changed ∙ ap objects c.self.view_is

pub returns-clause-well : goal.returns-clause-well
returns-clause-well g c = (invariant_of-self g c).well
