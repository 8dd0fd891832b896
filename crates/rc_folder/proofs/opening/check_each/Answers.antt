-- One file more, or the first that is no table.
use Rattle.std.proofs.Common.{◌≡◌, [], ◌∙◌, List, ℕ, suc, ◌+◌, take, drop, get_or, Option, sym, subst, refl, arith, take_all}
use Rattle.rc_outside.specs.Files.{Files, IsFile}
use Rattle.rc_tfile.specs.declared.info.TableInfo.{TableInfo}
use Rattle.rc_tfile.specs.Checking.{AsksFew, IsContent}
use Rattle.rc_folder.specs.calls.Opening.{IsChecked, IsBadFile}
use Rattle.rc_folder.proofs.Opened.{Done, asks_end, asks_on, asks_start, cut, done_none, done_next, done_all, is_file, refused}
use Rattle.rc_folder.proofs.opening.check_each.Goals as goal

pub loop-n-init : goal.loop-n-init
loop-n-init g c = record {
  done = subst (λ (infos : List TableInfo). Done (g.W.Store.files c.args.store.now) c.args.schema.now [] infos) (sym c.requires.none) (done_none (g.W.Store.files c.args.store.now) c.args.schema.now);
  files = refl;
  building = refl;
  asks = asks_start (g.W.Store.files c.args.store.now) (g.W.Store.asks c.args.store.now);
  faults = omega arith;
}

pub add_checked-requires : goal.add_checked-requires
add_checked-requires g c =
    subst (λ (files : Option Files). IsFile files (get_or c.args.numbers.now c.loop-n.n-index 0)) (sym c.loop-n.invariant.files)
    (is_file (g.W.Store.files c.args.store.now) c.args.numbers.now (take c.loop-n.n-index c.args.numbers.now) (drop (suc c.loop-n.n-index) c.args.numbers.now) (get_or c.args.numbers.now c.loop-n.n-index 0) c.requires.all
    (cut c.args.numbers.now c.loop-n.n-index c.loop-n-test.true))

pub returns-in-Err-clause-refused : goal.returns-in-Err-clause-refused
returns-in-Err-clause-refused g c =
    refused (g.W.Store.files c.args.store.now) c.args.schema.now c.args.numbers.now (take c.loop-n.n-index c.args.numbers.now) (drop (suc c.loop-n.n-index) c.args.numbers.now) c.loop-n.tables (get_or c.args.numbers.now c.loop-n.n-index 0) c.in-Err.error c.requires.all
    (cut c.args.numbers.now c.loop-n.n-index c.loop-n-test.true) c.loop-n.invariant.done
    (subst (λ (files : Option Files). IsBadFile files c.args.schema.now (get_or c.args.numbers.now c.loop-n.n-index 0) c.in-Err.error) c.loop-n.invariant.files c.in-Err.ensures.bad)

pub loop-n-preserved : goal.loop-n-preserved
loop-n-preserved g c =
    let added = c.in-Ok.ensures.added in
    let is : IsChecked (g.W.Store.files c.args.store.now) c.args.schema.now (get_or c.args.numbers.now c.loop-n.n-index 0) added.0 = subst (λ (files : Option Files). IsChecked files c.args.schema.now (get_or c.args.numbers.now c.loop-n.n-index 0) added.0) c.loop-n.invariant.files added.1 in
    record {
      done =
          subst (λ (infos : List TableInfo). Done (g.W.Store.files c.args.store.now) c.args.schema.now (take (c.loop-n.n-index + 1) c.args.numbers.now) infos) (sym added.2)
          (done_next (g.W.Store.files c.args.store.now) c.args.schema.now c.args.numbers.now c.loop-n.n-index c.loop-n.tables added.0 c.loop-n-test.true is c.loop-n.invariant.done);
      files = c.in-Ok.ensures.store.0 ∙ c.loop-n.invariant.files;
      building = c.in-Ok.ensures.store.1 ∙ c.loop-n.invariant.building;
      asks = asks_on (g.W.Store.files c.args.store.now) c.args.numbers.now c.loop-n.n-index (g.W.Store.asks c.loop-n.store) (g.W.Store.asks c.add_checked.new.store) (g.W.Store.asks c.args.store.now) c.requires.all c.loop-n-test.true
          (subst (λ (files : Option Files). (bytes : List ℕ) → IsContent files (get_or c.args.numbers.now c.loop-n.n-index 0) bytes → AsksFew (g.W.Store.asks c.loop-n.store) (g.W.Store.asks c.add_checked.new.store) bytes) c.loop-n.invariant.files c.in-Ok.ensures.asks) c.loop-n.invariant.asks;
      faults = omega (arith, c.in-Ok.ensures.faults.0, c.loop-n.invariant.faults);
    }

pub returns-clause-tables : goal.returns-clause-tables
returns-clause-tables g c =
    let all : take c.loop-n.n-index c.args.numbers.now ≡ c.args.numbers.now = take_all c.loop-n.n-index c.args.numbers.now (omega (arith, c.loop-n-test.false)) in
    done_all (g.W.Store.files c.args.store.now) c.args.schema.now c.args.numbers.now c.loop-n.tables c.requires.all
    (subst (λ (done : List ℕ). Done (g.W.Store.files c.args.store.now) c.args.schema.now done c.loop-n.tables) all c.loop-n.invariant.done)

pub returns-in-Err-clause-asks : goal.returns-in-Err-clause-asks
returns-in-Err-clause-asks g c =
    asks_end (g.W.Store.files c.args.store.now) (c.loop-n.n-index + 1) (g.W.Store.asks c.add_checked.new.store) (g.W.Store.asks c.args.store.now)
    (asks_on (g.W.Store.files c.args.store.now) c.args.numbers.now c.loop-n.n-index (g.W.Store.asks c.loop-n.store) (g.W.Store.asks c.add_checked.new.store) (g.W.Store.asks c.args.store.now) c.requires.all c.loop-n-test.true
    (subst (λ (files : Option Files). (bytes : List ℕ) → IsContent files (get_or c.args.numbers.now c.loop-n.n-index 0) bytes → AsksFew (g.W.Store.asks c.loop-n.store) (g.W.Store.asks c.add_checked.new.store) bytes) c.loop-n.invariant.files c.in-Err.ensures.asks) c.loop-n.invariant.asks)

pub returns-clause-asks : goal.returns-clause-asks
returns-clause-asks g c = asks_end (g.W.Store.files c.args.store.now) c.loop-n.n-index (g.W.Store.asks c.loop-n.store) (g.W.Store.asks c.args.store.now) c.loop-n.invariant.asks
