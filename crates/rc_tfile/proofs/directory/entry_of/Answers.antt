-- No item is longer than what is read at once.
use Rattle.std.proofs.Common.{◌≡◌, ◌≤◌, ℕ, List, length, ap, subst, arith, rules}
use Rattle.rc_items.specs.Items.{item_code, EntryItem}
use Rattle.rc_tfile.proofs.Lengths.{entry_within}
use Rattle.rc_tfile.proofs.directory.entry_of.Goals as goal

pub returns-clause-within : goal.returns-clause-within
returns-clause-within c =
    let key : length c.args.listed.now.key ≤ 64 = subst (λ (k : List ℕ). length k ≤ 64) c.key.ensures c.as_slice-key.ensures.short in
    let code : c.append_entry.new.out.items ≡ item_code (EntryItem c.args.listed.now.key c.args.listed.now.off (length c.args.listed.now.blocks)) = search rules in
    omega (arith, ap length code, entry_within c.args.listed.now.key c.args.listed.now.off (length c.args.listed.now.blocks) key)
