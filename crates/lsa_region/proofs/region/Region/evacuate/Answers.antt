use Rattle.std.proofs.Common.{◌≡◌, Some, arith, List, refl, sym, subst}
use Rattle.lsa_store.specs.declared.place.Ref.{Ref}
use Rattle.lsa_store.specs.Stock.{sparse_of}
use Rattle.lsa_region.specs.Region.{View, IsWell, IsEmptied}
use Rattle.lsa_region.proofs.Renaming.{emptied, renamed-view}
use Rattle.lsa_region.proofs.region.Region.evacuate.Goals as goal

pub evacuate-moved-requires : goal.evacuate-moved-requires
evacuate-moved-requires g c = (
  omega arith,
  (
    record { paired = c.self.invariant.well.paired; ends = c.self.invariant.well.ends },
    (subst (λ (u : View). sparse_of g.row.S u.usages ≡ Some c.args.n) (sym c.self.view_is) c.requires, c.self.invariant.reserve),
  ),
)

pub invariant_of-self : goal.invariant_of-self
invariant_of-self g c =
    let i = c.self.inside in let v : View = record { cells = i.store.cells; roots = i.roots; usages = i.store.usages; epoch = i.epoch; moved = i.moved; compacted = i.compacted } in
    let s = c.evacuate-moved.new.store in let e = c.evacuate-moved.ensures in
    let w : View = record v { cells = s.cells; roots = c.evacuate-moved.new.roots; usages = s.usages; epoch = c.saturating_add-epoch.result; moved = c.saturating_add-self-inside.result; compacted = c.saturating_add-self-inside-2.result } in
    let well : IsWell v = c.self.invariant.well in let well' : IsWell w = record { paired = e.well.paired; ends = e.well.ends } in
    record { well = well'; reserve = e.reserve }

pub returns-clause-emptied : goal.returns-clause-emptied
returns-clause-emptied g c =
    let i = c.self.inside in let v : View = record { cells = i.store.cells; roots = i.roots; usages = i.store.usages; epoch = i.epoch; moved = i.moved; compacted = i.compacted } in
    let s = c.evacuate-moved.new.store in let e = c.evacuate-moved.ensures in
    let w : View = record v { cells = s.cells; roots = c.evacuate-moved.new.roots; usages = s.usages; epoch = c.saturating_add-epoch.result; moved = c.saturating_add-self-inside.result; compacted = c.saturating_add-self-inside-2.result } in
    let well : IsWell v = c.self.invariant.well in let well' : IsWell w = record { paired = e.well.paired; ends = e.well.ends } in
    let r = e.renamed in
    subst (λ (u : View). (names : List (Ref × Ref)) × IsEmptied u w c.args.n names) c.self.view_is
    (emptied v w r.0 r.1 (renamed-view i.store s i.roots c.evacuate-moved.new.roots v w r.0 r.1 refl refl refl refl r.2) well well' c.args.n e.budget e.live r.3 e.gone e.emptied)

pub returns-clause-well : goal.returns-clause-well
returns-clause-well g c = (invariant_of-self g c).well
