use Rattle.std.proofs.Common.{reverse, ◌∙◌, arith}
use Rattle.rc_partition.specs.Partitions.{heads_of, partition_of}
use Rattle.rc_partition.specs.laws.Lists.{elem-here}
use Rattle.rc_partition.proofs.Passing.{chain-few, objects-length}
use Rattle.rc_partition.proofs.partitions.count.Goals as goal

pub chained-requires : goal.chained-requires
chained-requires g c =
    let root = c.args.root in let versions = c.requires.2 in let here = c.requires.5.entries (partition_of root versions) (elem-here c.requires.1 c.requires.3 (partition_of root versions)) in
    (omega arith, (here.slot, (reverse (heads_of versions), here.chain, chain-few c.args.region.now c.known.ensures.well c.known.ensures.summed root (reverse (heads_of versions)) here.chain)))

pub returns : goal.returns
returns g c = λ slots front versions back listed h.
    c.chained.ensures (reverse (heads_of versions)) (h.entries (partition_of c.args.root versions) (elem-here front back (partition_of c.args.root versions))).chain ∙ objects-length versions
