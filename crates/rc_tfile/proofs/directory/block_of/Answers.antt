-- No item is longer than what is read at once.
use Rattle.std.proofs.Common.{◌≡◌, length, ap, arith, rules}
use Rattle.rc_items.specs.Items.{item_code, BlockItem}
use Rattle.rc_tfile.proofs.Lengths.{block_within}
use Rattle.rc_tfile.proofs.directory.block_of.Goals as goal

pub returns-clause-within : goal.returns-clause-within
returns-clause-within c =
    let code : c.append_block.new.out.items ≡ item_code (BlockItem c.args.block.now) = search rules in
    omega (arith, ap length code, block_within c.args.block.now c.requires)
