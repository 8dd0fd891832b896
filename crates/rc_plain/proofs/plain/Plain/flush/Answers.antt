-- There is something to flush, and a number for its table; then the writes are sealed.
use Rattle.std.proofs.Common.{◌∙◌, Some, None, sym, subst}
use Rattle.std.proofs.lemmas.Result.{IfOk-weaker, on_err_weaker}
use Rattle.rc_folder.specs.Tabled.{IsNextNumber}
use Rattle.rc_plain.specs.Stands.{Keeping}
use Rattle.rc_plain.proofs.Tabled.{sealed_stands, takes_no_flush, takes_no_number, takes_written, stops_sealed}
use Rattle.rc_plain.proofs.plain.Plain.flush.Goals as goal

pub write_sealed-requires-clause-stands : goal.write_sealed-requires-clause-stands
write_sealed-requires-clause-stands g c = sealed_stands (g.W.Store.files c.args.store.now) c.args.self.now c.seal.new.self c.seal.ensures c.requires

pub write_sealed-requires-clause-number : goal.write_sealed-requires-clause-number
write_sealed-requires-clause-number g c = subst (λ (k : Keeping). IsNextNumber k.infos (Some c.in-Some.number)) (sym c.seal.ensures) (subst (λ (k : Keeping). IsNextNumber k.infos (Some c.in-Some.number)) c.self.view_is c.in-Some.ensures)

pub returns-then-is_flushed-clause-step : goal.returns-then-is_flushed-clause-step
returns-then-is_flushed-clause-step g c = takes_no_flush (g.W.Store.files c.args.store.now) c.args.self.now c.if-is_flushed.ensures

pub returns-in-None-clause-step : goal.returns-in-None-clause-step
returns-in-None-clause-step g c =
    takes_no_number (g.W.Store.files c.args.store.now) c.args.self.now c.if-is_flushed.ensures (subst (λ (k : Keeping). IsNextNumber k.infos None) c.self.view_is c.in-None.ensures)

pub returns-in-Some-clause-step : goal.returns-in-Some-clause-step
returns-in-Some-clause-step g c =
    IfOk-weaker c.write_sealed.result _ _
    (λ reply written.
    takes_written (g.W.Store.files c.args.store.now) (g.W.Store.files c.write_sealed.new.store) c.args.self.now c.seal.new.self c.write_sealed.new.self c.in-Some.number reply c.seal.ensures c.if-is_flushed.ensures
    (subst (λ (k : Keeping). IsNextNumber k.infos (Some c.in-Some.number)) c.self.view_is c.in-Some.ensures) written)
    c.write_sealed.ensures.written

pub returns-in-Some-clause-err : goal.returns-in-Some-clause-err
returns-in-Some-clause-err g c =
    on_err_weaker c.write_sealed.result
    (λ kept. stops_sealed (g.W.Store.files c.args.store.now) (g.W.Store.files c.write_sealed.new.store) c.args.self.now c.write_sealed.new.self (kept.0 ∙ c.seal.ensures) kept.1)
    c.write_sealed.ensures.err
