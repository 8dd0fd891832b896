use Rattle.std.proofs.Common.{◌≡◌, ℕ, ◌<◌, None, refl, sym, ap, ◌∙◌, subst}
use Rattle.std.specs.Prelude.{IsSome}
use Rattle.lsa_store.specs.laws.Written.{gone-count}
use Rattle.lsa_region.specs.declared.end.End.TheVariants.{Obj}
use Rattle.lsa_region.specs.Region.{View, body, link_of, IsFreed, objects}
use Rattle.lsa_region.proofs.Regions.{freed-object, given-free, region-free}
use Rattle.lsa_region.proofs.region.Region.free_obj.Goals as goal

pub invariant_of-self : goal.invariant_of-self
invariant_of-self g c =
    let i = c.self.inside in let v : View = record { cells = i.store.cells; roots = i.roots; usages = i.store.usages; epoch = i.epoch; moved = i.moved; compacted = i.compacted } in
    let s = c.kill.new.self in let r = c.args.r in let e = c.kill.ensures in
    let w : View = record v { cells = s.cells; usages = s.usages; epoch = c.saturating_add-self-inside.result } in
    let some = subst (λ (u : View). IsSome (body u r)) (sym c.self.view_is) c.requires.live in
    let unset = subst (λ (u : View). (field : ℕ) → link_of u (Obj r field) ≡ None) (sym c.self.view_is) c.requires.unset in
    let is = freed-object v w r some unset e.changed refl in
    region-free v w r c.self.invariant is unset (subst (λ k. 0 < k) (sym (given-free g.row.S v s.usages r some e.given)) c.self.invariant.reserve)

pub returns-clause-freed : goal.returns-clause-freed
returns-clause-freed g c =
    let i = c.self.inside in let v : View = record { cells = i.store.cells; roots = i.roots; usages = i.store.usages; epoch = i.epoch; moved = i.moved; compacted = i.compacted } in
    let s = c.kill.new.self in let r = c.args.r in let e = c.kill.ensures in
    let w : View = record v { cells = s.cells; usages = s.usages; epoch = c.saturating_add-self-inside.result } in
    let some = subst (λ (u : View). IsSome (body u r)) (sym c.self.view_is) c.requires.live in
    let unset = subst (λ (u : View). (field : ℕ) → link_of u (Obj r field) ≡ None) (sym c.self.view_is) c.requires.unset in
    let is = freed-object v w r some unset e.changed refl in
    subst (λ (u : View). IsFreed u w r) c.self.view_is is

pub returns-clause-count : goal.returns-clause-count
returns-clause-count g c =
    let i = c.self.inside in let v : View = record { cells = i.store.cells; roots = i.roots; usages = i.store.usages; epoch = i.epoch; moved = i.moved; compacted = i.compacted } in
    let s = c.kill.new.self in let r = c.args.r in let e = c.kill.ensures in
    let w : View = record v { cells = s.cells; usages = s.usages; epoch = c.saturating_add-self-inside.result } in
    let some = subst (λ (u : View). IsSome (body u r)) (sym c.self.view_is) c.requires.live in
    let unset = subst (λ (u : View). (field : ℕ) → link_of u (Obj r field) ≡ None) (sym c.self.view_is) c.requires.unset in
    let is = freed-object v w r some unset e.changed refl in
    gone-count v.cells w.cells r some e.changed ∙ ap objects c.self.view_is

pub returns-clause-well : goal.returns-clause-well
returns-clause-well g c = (invariant_of-self g c).well
