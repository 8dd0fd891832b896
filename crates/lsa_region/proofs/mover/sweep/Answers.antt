use Rattle.std.proofs.Common.{◌≡◌, ◌+◌, ◌<◌, sym, ◌∙◌, subst, arith}
use Rattle.lsa_store.specs.Cells.{Cell, size_of}
use Rattle.lsa_store.specs.Changes.{at-within}
use Rattle.lsa_store.specs.declared.place.Ref.{Ref}
use Rattle.lsa_store.specs.Objects.{cells_of, cell_in, live_in}
use Rattle.lsa_store.specs.Stored.{Stored}
use Rattle.lsa_store.specs.laws.Places.{there_and}
use Rattle.lsa_store.specs.laws.Sums.{count-within}
use Rattle.lsa_region.specs.calls.Ends.{swapped_ref}
use Rattle.lsa_region.specs.calls.Moves.{view_in, IsSweeping}
use Rattle.lsa_region.specs.Region.{IsWell}
use Rattle.lsa_region.proofs.Sweeps.{swept-init, swept-gap, swept-move, cell_where, some-there, live-there}
use Rattle.lsa_region.proofs.mover.sweep.Goals.{in-Some, in-None}
use Rattle.lsa_region.proofs.mover.sweep.Goals as goal

pub loop-offset-init : goal.loop-offset-init
loop-offset-init g c = record { well = c.requires.well; end = c.end-end.ensures; sweeping = ((λ r. r), (λ r. r), swept-init g.row.S (view_in c.args.store.now c.args.roots.now) c.args.n c.requires.closed) }

pub move_object-requires : goal.move_object-requires
move_object-requires g c =
    let now = c.loop-offset.store in let n = c.args.n in let offset = c.loop-offset.offset in let r : Ref = record { segment = n; offset = offset } in let w = c.loop-offset.invariant.sweeping in
    let x = cell_where (cell_in now.cells r) (λ (d : Cell). size_of d ≡ c.size_at-size.result) c.size_at-size.ensures in
    let kind = there_and (cell_in now.cells r) x.0 (λ (d : Cell). d.kind ≡ c.kind_at.result) x.1 c.kind_at.ensures ∙ c.in-Some.is in
    let some : 0 < live_in (cells_of now.cells n) = live-there (cells_of now.cells n) offset x.0 c.in-Some.field-0 x.1 kind in (
      omega arith,
      (
        some-there now.cells r x.0 c.in-Some.field-0 x.1 kind,
        (w.2.relieved.closed, (omega (arith, some, c.known-in-Some.ensures.live n, w.2.relieved.stock, c.requires.stock), c.loop-offset.invariant.well)),
      ),
    )

pub overflow_add-moved : goal.overflow_add-moved
overflow_add-moved g c =
    let n = c.args.n in let s = c.known.ensures in omega (arith, c.loop-offset.invariant.sweeping.2.counted, count-within (cells_of c.args.store.now.cells n), s.filled n, s.sound.used n, s.small)

pub overflow_add-offset : goal.overflow_add-offset
overflow_add-offset g c =
    let now = c.loop-offset.store in let n = c.args.n in let offset = c.loop-offset.offset in let r : Ref = record { segment = n; offset = offset } in let w = c.loop-offset.invariant.sweeping in let s = c.known.ensures in
    let x = cell_where (cell_in now.cells r) (λ (d : Cell). size_of d ≡ c.size_at-size.result) c.size_at-size.ensures in
    omega (arith, at-within (cells_of now.cells n) offset x.0 x.1, x.2, w.2.relieved.end, s.filled n, s.sound.used n, s.small)

pub loop-offset-preserved : goal.loop-offset-preserved
loop-offset-preserved g c =
    let S = g.row.S in let old = view_in c.args.store.now c.args.roots.now in let now = view_in c.loop-offset.store c.loop-offset.roots in let n = c.args.n in let offset = c.loop-offset.offset in let r : Ref = record { segment = n; offset = offset } in
    let w = c.loop-offset.invariant.sweeping in let step = c.size_at-size.result in
    let x = cell_where (cell_in now.cells r) (λ (d : Cell). size_of d ≡ step) c.size_at-size.ensures in
    let kind = there_and (cell_in now.cells r) x.0 (λ (d : Cell). d.kind ≡ c.kind_at.result) x.1 c.kind_at.ensures in record {
      well = elim c.match-kind_at.branch [
        | in-Some u ↦ subst (λ (s : Stored). IsWell (view_in s c.match-kind_at.roots)) (sym u.store-is) (subst (λ l. IsWell (view_in u.move_object.new.store l)) (sym u.roots-is) u.move_object.ensures.well)
        | in-None u ↦ subst (λ (s : Stored). IsWell (view_in s c.match-kind_at.roots)) (sym u.store-is) (subst (λ l. IsWell (view_in c.loop-offset.store l)) (sym u.roots-is) c.loop-offset.invariant.well)
      ];
      end = c.loop-offset.invariant.end;
      sweeping = elim c.match-kind_at.branch [
        | in-Some u ↦
            let new = view_in u.move_object.new.store u.move_object.new.roots in let m = u.move_object.ensures.moved in
            let there : Ref → Ref = λ y. swapped_ref r m.0 (w.0 y) in let back : Ref → Ref = λ y. w.1 (swapped_ref r m.0 y) in
            let next = swept-move S old now n offset c.loop-offset.moved w.0 w.1 w.2 x.0 x.1 new m.0 m.1 in (
              there,
              back,
              subst (λ (s : Stored). IsSweeping S old (view_in s c.match-kind_at.roots) n (offset + step) c.match-kind_at.moved there back) (sym u.store-is)
                  (subst (λ l. IsSweeping S old (view_in u.move_object.new.store l) n (offset + step) c.match-kind_at.moved there back) (sym u.roots-is)
                  (subst (λ k. IsSweeping S old new n (offset + step) k there back) (sym u.moved-is) (subst (λ k. IsSweeping S old new n (offset + k) (c.loop-offset.moved + 1) there back) x.2 next))),
            )
        | in-None u ↦
            let next = swept-gap S old now n offset c.loop-offset.moved w.0 w.1 w.2 x.0 x.1 (kind ∙ u.in-None.is) in (
              w.0,
              w.1,
              subst (λ (s : Stored). IsSweeping S old (view_in s c.match-kind_at.roots) n (offset + step) c.match-kind_at.moved w.0 w.1) (sym u.store-is)
                  (subst (λ l. IsSweeping S old (view_in c.loop-offset.store l) n (offset + step) c.match-kind_at.moved w.0 w.1) (sym u.roots-is)
                  (subst (λ k. IsSweeping S old now n (offset + step) k w.0 w.1) (sym u.moved-is) (subst (λ k. IsSweeping S old now n (offset + k) c.loop-offset.moved w.0 w.1) x.2 next))),
            )
      ];
    }
