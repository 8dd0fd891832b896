use Rattle.std.proofs.Common.{ℕ, List, ◌∙◌, ap}
use Rattle.std.specs.Map.{remove_entry}
use Rattle.std.specs.BTreeMap.{insert_entry, is_at}
use Rattle.rc_position.specs.Position.{bytes_cmp}
use Rattle.rc_memtable.proofs.Numbered.{put-and-taken}
use Rattle.rc_memtable.proofs.numbers.add_place.Goals as goal

pub returns-clause-back : goal.returns-clause-back
returns-clause-back c =
    let put = c.in_ok-insert.ensures.entries in
    ap (remove_entry (is_at (bytes_cmp c.args.key.now))) (put ∙ ap (λ (k : List ℕ). insert_entry bytes_cmp c.args.numbers.now.entries k 0) c.in_ok-copy.ensures) ∙ put-and-taken c.args.key.now 0 c.args.numbers.now.entries c.requires.absent
