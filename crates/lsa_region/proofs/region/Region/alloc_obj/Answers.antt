use Rattle.std.proofs.Common.{◌≡◌, ◌+◌, length, refl, ap, ◌∙◌, subst, arith}
use Rattle.lsa_store.specs.Room.{spare_of}
use Rattle.lsa_store.specs.laws.Books.{stock-reserve}
use Rattle.lsa_store.specs.laws.Written.{made-fresh, made-here, made-unset, made-others, made-words, made-count}
use Rattle.lsa_region.specs.declared.end.End.{End}
use Rattle.lsa_region.specs.Codes.{end_of}
use Rattle.lsa_region.specs.Region.{View, link_of, IsAdded, objects}
use Rattle.lsa_region.specs.laws.Sizes.{rounded_32}
use Rattle.lsa_region.proofs.Regions.{added, links-same, region-add}
use Rattle.lsa_region.proofs.region.Region.alloc_obj.Goals as goal

pub add-r-requires : goal.add-r-requires
add-r-requires g c =
    let us = c.args.self.now.usages in let i = c.self.inside in let big = rounded_32 c.args.kind (length c.args.bytes.now) in
    (omega arith, (c.requires.fits, omega (arith, stock-reserve g.row.S i.store.usages c.self.invariant.reserve, c.requires.fits, big)))

pub invariant_of-self : goal.invariant_of-self
invariant_of-self g c =
    let i = c.self.inside in let v : View = record { cells = i.store.cells; roots = i.roots; usages = i.store.usages; epoch = i.epoch; moved = i.moved; compacted = i.compacted } in
    let s = c.add-r.new.self in let r = c.add-r.result in let e = c.add-r.ensures in let kind = c.args.kind in let bytes = c.args.bytes.now in
    let w : View = record v { cells = s.cells; usages = s.usages; epoch = c.saturating_add-self-inside.result } in
    let links : (x : End) → link_of w x ≡ link_of v x = λ x. links-same v w x refl (λ q field. made-words v.cells w.cells r kind bytes e.put q field) in
    let is = added v w r kind bytes (made-fresh v.cells w.cells r kind bytes e.put) (made-here v.cells w.cells r kind bytes e.put) (λ field. ap end_of (made-unset v.cells w.cells r kind bytes e.put field)) (made-others v.cells w.cells r kind bytes e.put) links refl in
    let spare = ap (λ (u : View). spare_of g.row.S u.usages) c.self.view_is in
    region-add v w r kind bytes c.self.invariant is (e.taken.spare (omega (arith, c.requires.spare, spare)) c.self.invariant.reserve).1

pub returns-clause-added : goal.returns-clause-added
returns-clause-added g c =
    let i = c.self.inside in let v : View = record { cells = i.store.cells; roots = i.roots; usages = i.store.usages; epoch = i.epoch; moved = i.moved; compacted = i.compacted } in
    let s = c.add-r.new.self in let r = c.add-r.result in let e = c.add-r.ensures in let kind = c.args.kind in let bytes = c.args.bytes.now in
    let w : View = record v { cells = s.cells; usages = s.usages; epoch = c.saturating_add-self-inside.result } in
    let links : (x : End) → link_of w x ≡ link_of v x = λ x. links-same v w x refl (λ q field. made-words v.cells w.cells r kind bytes e.put q field) in
    let is = added v w r kind bytes (made-fresh v.cells w.cells r kind bytes e.put) (made-here v.cells w.cells r kind bytes e.put) (λ field. ap end_of (made-unset v.cells w.cells r kind bytes e.put field)) (made-others v.cells w.cells r kind bytes e.put) links refl in
    subst (λ (u : View). IsAdded u w r kind bytes) c.self.view_is is

pub returns-clause-count : goal.returns-clause-count
returns-clause-count g c =
    let i = c.self.inside in made-count i.store.cells c.add-r.new.self.cells c.add-r.result c.args.kind c.args.bytes.now c.add-r.ensures.put ∙ ap (λ (u : View). objects u + 1) c.self.view_is

pub returns-clause-well : goal.returns-clause-well
returns-clause-well g c = (invariant_of-self g c).well

pub returns-clause-spare : goal.returns-clause-spare
returns-clause-spare g c =
    let spare = ap (λ (u : View). spare_of g.row.S u.usages) c.self.view_is in
    omega (arith, (c.add-r.ensures.taken.spare (omega (arith, c.requires.spare, spare)) c.self.invariant.reserve).0, spare)
