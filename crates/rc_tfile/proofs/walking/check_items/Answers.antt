-- What stands behind the stop is decided by what stands before it.
use Rattle.std.proofs.Common.{◌∷◌}
use Rattle.std.proofs.lemmas.Result.{err_from_is_err_and}
use Rattle.rc_items.specs.Items.{StopItem}
use Rattle.rc_tfile.proofs.Awaiting.{at_stop}
use Rattle.rc_tfile.proofs.walking.check_items.Goals as goal

pub returns-in_err-check_ending-clause-refused : goal.returns-in_err-check_ending-clause-refused
returns-in_err-check_ending-clause-refused g c =
    let s = c.in_ok-check_parts.ensures.stopped in
    let p = err_from_is_err_and c.from_residual-in_err-check_ending.result c.from_residual-in_err-check_ending.ensures.1 in
    rw (p.1, p.2) (c.in_err-check_ending.ensures.whole c.args.schema.now (StopItem ∷ s.before) s.listed (at_stop (g.W.Store.files c.check_parts.new.store) c.args.schema.now s.before c.check_parts.new.file s.fit s.told))

pub returns-clause-whole : goal.returns-clause-whole
returns-clause-whole g c =
    let s = c.in_ok-check_parts.ensures.stopped in record {
      before = s.before;
      fit = s.fit;
      listed = s.listed;
      whole = c.in_ok-check_ending.ensures.whole c.args.schema.now (StopItem ∷ s.before) s.listed (at_stop (g.W.Store.files c.check_parts.new.store) c.args.schema.now s.before c.check_parts.new.file s.fit s.told);
    }
