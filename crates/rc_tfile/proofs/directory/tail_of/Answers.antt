-- No item is longer than what is read at once.
use Rattle.std.proofs.Common.{◌≡◌, length, ap, arith, rules}
use Rattle.rc_items.specs.Items.{item_code, TailItem}
use Rattle.rc_tfile.proofs.Lengths.{tail_within}
use Rattle.rc_tfile.proofs.directory.tail_of.Goals as goal

pub returns-clause-within : goal.returns-clause-within
returns-clause-within c =
    let code : c.append_tail.new.out.items ≡ item_code (TailItem c.args.off c.args.parts) = search rules in
    omega (arith, ap length code, tail_within c.args.off c.args.parts)
