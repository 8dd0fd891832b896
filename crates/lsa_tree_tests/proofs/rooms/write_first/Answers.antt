use Rattle.lsa_tree_tests.proofs.Furnished.{stands-unlinked, written-kinds}
use Rattle.lsa_tree_tests.proofs.rooms.write_first.Goals as goal

pub returns : goal.returns
returns c = let t = c.requires in let w = c.write.ensures.written in
    (t.0, t.1, t.2, stands-unlinked c.args.region.now c.write.new.self c.known.ensures.well c.args._chain c.args._list _ c.args._top _ t.2 w.links (λ q f _. written-kinds c.args.region.now c.write.new.self c.args.r _ w.here w.others q) t.3, t.4)
