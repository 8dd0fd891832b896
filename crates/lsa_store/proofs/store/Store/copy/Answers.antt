use Rattle.std.proofs.Common.{◌≡◌, List, ℕ, length, sym, ap, ◌∙◌, subst, arith}
use Rattle.std.specs.Prelude.{IsSomeAnd}
use Rattle.lsa_kinds.specs.declared.kind.Kind.{Kind}
use Rattle.lsa_pool.specs.declared.Usage.{Usage}
use Rattle.lsa_store.specs.Objects.{body_in, rounded_size}
use Rattle.lsa_store.specs.Stock.{IsTaken}
use Rattle.lsa_store.specs.laws.Books.{taken}
use Rattle.lsa_store.specs.laws.Written.{and-object}
use Rattle.lsa_store.proofs.Calls.{copied}
use Rattle.lsa_store.proofs.store.Store.copy.Goals as goal

pub make_room-requires : goal.make_room-requires
make_room-requires g c =
    let i = c.self.inside in
    let w = copied g.row.S i.yards i.pool c.args.self.now c.self.invariant.0 c.self.view_is c.args.r c.size_at-size.result c.requires.object c.size_at-size.ensures in
    (omega arith, (w.small, c.requires.stock))

pub carry-requires : goal.carry-requires
carry-requires g c =
    let i = c.self.inside in let now = c.args.self.now in let m = c.make_room.ensures in let n = c.args.r.segment in
    let w = copied g.row.S i.yards i.pool now c.self.invariant.0 c.self.view_is c.args.r c.size_at-size.result c.requires.object c.size_at-size.ensures in
    let told = and-object now.cells c.args.r w.x (λ (b : Kind × List ℕ). rounded_size b.0 (length b.1) ≡ c.size_at-size.result) w.rounded in
    (omega arith, (subst (λ l. IsSomeAnd (body_in l c.args.r) (λ b. rounded_size b.0 (length b.1) ≡ c.size_at-size.result)) (sym m.cells) told, (ap (λ (u : Usage). u.state) (m.closed n c.requires.closed) ∙ c.requires.closed, m.room)))

pub returns-clause-taken : goal.returns-clause-taken
returns-clause-taken g c =
    let i = c.self.inside in let now = c.args.self.now in let m = c.make_room.ensures in let new = c.carry.new.self.usages in
    let w = copied g.row.S i.yards i.pool now c.self.invariant.0 c.self.view_is c.args.r c.size_at-size.result c.requires.object c.size_at-size.ensures in
    and-object now.cells c.args.r w.x (λ (b : Kind × List ℕ). IsTaken g.row.S now.usages new (rounded_size b.0 (length b.1)))
    (subst (IsTaken g.row.S now.usages new) (sym w.rounded)
    (taken g.row.S c.size_at-size.result c.carry.result.segment now.usages c.make_room.new.self.usages new c.self.invariant.0.even w.small m.turned m.budget m.live m.closed c.carry.ensures.credited))
