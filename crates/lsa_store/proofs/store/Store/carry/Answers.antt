use Rattle.std.proofs.Common.{◌≡◌, ◌+◌, ◌*◌, ◌++◌, ◌∷◌, [], drop, sym, ap, ◌∙◌, arith}
use Rattle.std.proofs.Math.ListN.{set}
use Rattle.lsa_kinds.specs.Kinds.{links_of}
use Rattle.lsa_pool.specs.declared.State.TheVariants.{Closed}
use Rattle.lsa_pool.specs.Room.{usage_of}
use Rattle.lsa_yard.specs.Cells.{fresh}
use Rattle.lsa_store.specs.Objects.{cells_of, body_in}
use Rattle.lsa_store.specs.Stored.{Stored}
use Rattle.lsa_store.specs.laws.Books.{active_inside, closed-apart}
use Rattle.lsa_store.specs.laws.Places.{there_and}
use Rattle.lsa_store.proofs.Stores.{few-objects}
use Rattle.lsa_store.proofs.Calls.{carried, carried-fits, put-store, put-count}
use Rattle.lsa_store.proofs.store.Store.carry.Goals as goal

pub copy-offset-requires : goal.copy-offset-requires
copy-offset-requires g c =
    let i = c.self.inside in let s = c.self.invariant.0 in let n = c.args.r.segment in
    let closed : (usage_of i.pool n).state ≡ Closed = ap (λ (v : Stored). (usage_of v.usages n).state) c.self.view_is ∙ c.requires.closed in (
      omega arith,
      (
        closed-apart i.pool n i.active closed c.self.invariant.1,
        (
          omega (arith, active_inside i.pool i.active c.self.invariant.1, s.count),
          carried-fits g.row.S i.yards i.pool c.args.self.now s c.self.view_is i.active c.args.r c.args.size c.self.invariant.1 c.requires.object c.requires.room,
        ),
      ),
    )

pub overflow_add-self : goal.overflow_add-self
overflow_add-self g c = let i = c.self.inside in omega (arith, c.self.invariant.2, few-objects g.row.S (record { cells = i.yards; usages = i.pool }) c.self.invariant.0)

pub invariant_of-self : goal.invariant_of-self
invariant_of-self g c =
    let S = g.row.S in let i = c.self.inside in let s = c.self.invariant.0 in let cells = i.yards in let n = i.active in let r = c.args.r in
    let w = carried S cells i.pool c.args.self.now s c.self.view_is r c.args.size c.requires.object in let own = drop (8 * links_of w.x.kind) w.x.cell.rest in
    let there = ap (λ (v : Stored). body_in v.cells r) c.self.view_is ∙ w.x.body in
    let moved : c.copy-offset.new.self ≡ set cells n (cells_of cells n ++ fresh w.x.kind own ∷ []) = there_and (body_in cells r) (w.x.kind, own) _ there c.copy-offset.ensures.after in (
      put-store S cells i.pool c.args.self.now s c.self.view_is n c.copy-offset.new.self w.x.kind own c.args.size c.self.invariant.1 (sym w.rounded) w.small moved c.credit.new.self c.credit.ensures.after c.credit.ensures.active c.credit.ensures.sound,
      c.credit.ensures.active ∙ c.self.invariant.1,
      ap (λ k. k + 1) c.self.invariant.2
          ∙ put-count S cells i.pool c.args.self.now s c.self.view_is n c.copy-offset.new.self w.x.kind own c.args.size c.self.invariant.1 (sym w.rounded) w.small moved c.credit.new.self c.credit.ensures.after c.credit.ensures.active c.credit.ensures.sound,
    )
