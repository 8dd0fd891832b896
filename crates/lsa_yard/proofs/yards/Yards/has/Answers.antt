use Rattle.std.proofs.Common.{get_or, [], ◌≡◌, ◌+◌, ◌⊎◌, sym, subst, ◌∙◌, arith}
use Rattle.std.specs.Prelude.{IsSome}
use Rattle.std.proofs.lemmas.Bool.{le-ltb}
use Rattle.lsa_yard.specs.Cells.{Cell, cell_at, size_of, extent}
use Rattle.lsa_yard.specs.laws.Changes.{at-within, at-next, at-apart}
use Rattle.lsa_yard.specs.laws.Reading.{size-least}
use Rattle.lsa_yard.proofs.Readings.{cell-of, none-there, first-stands}
use Rattle.lsa_yard.proofs.yards.Yards.has.Goals as goal

pub loop-at-init : goal.loop-at-init
loop-at-init g c = record { stands = first-stands (get_or c.args.self.now c.args.n []); end = omega (arith, c.room-end.ensures); passed = λ x e. omega arith }

pub overflow_add-at : goal.overflow_add-at
overflow_add-at g c =
    let x = cell-of (cell_at (get_or c.args.self.now c.args.n []) c.loop-at.at) (λ (d : Cell). size_of d ≡ c.size-at.result) c.size-at.ensures in
    omega (arith, at-within (get_or c.args.self.now c.args.n []) c.loop-at.at x.0 x.1, x.2, c.room-end.ensures, g.S.fits)

pub loop-at-preserved : goal.loop-at-preserved
loop-at-preserved g c =
    let cells = (get_or c.args.self.now c.args.n []) in let at = c.loop-at.at in
    let x = cell-of (cell_at cells at) (λ (d : Cell). size_of d ≡ c.size-at.result) c.size-at.ensures in
    record {
      stands = subst (λ k. (at + k ≡ extent cells) ⊎ IsSome (cell_at cells (at + k))) x.2 (at-next cells at x.0 x.1);
      end = c.loop-at.invariant.end;
      passed = λ y e. omega (arith, at-apart cells at c.args.offset x.0 y x.1 e c.if-at-offset.true, x.2);
    }

pub returns-else-at-end : goal.returns-else-at-end
returns-else-at-end g c =
    let cells = (get_or c.args.self.now c.args.n []) in let at = c.loop-at.at in
    let ended = c.if-at-end.false in
    le-ltb at _ ended ∙ sym (none-there (cell_at cells c.args.offset) (λ y e. omega (arith, at-within cells c.args.offset y e, c.loop-at.invariant.passed y e, c.loop-at.invariant.end, ended, size-least y)))
