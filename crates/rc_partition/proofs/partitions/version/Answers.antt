use Rattle.std.proofs.Common.{◌∷◌, ◌++◌, reverse, arith}
use Rattle.rc_partition.specs.Partitions.{heads_of}
use Rattle.rc_partition.proofs.Dropped.{chain-is, slot-is}
use Rattle.rc_partition.proofs.Passing.{number-length, objects-length}
use Rattle.rc_partition.proofs.partitions.version.Goals as goal

pub count-requires : goal.count-requires
count-requires g c = (omega arith, (c.requires.0, c.requires.1, c.requires.2 ++ (c.requires.3 ∷ c.requires.4), c.requires.5, c.requires.6, c.requires.7))

pub overflow_sub-newer : goal.overflow_sub-newer
overflow_sub-newer g c = let n = number-length c.requires.2 c.requires.3 c.requires.4 c.count.result (c.count.ensures c.requires.0 c.requires.1 (c.requires.2 ++ (c.requires.3 ∷ c.requires.4)) c.requires.5 c.requires.6 c.requires.7) in omega (arith, n)

pub overflow_sub-newer-2 : goal.overflow_sub-newer-2
overflow_sub-newer-2 g c = let n = number-length c.requires.2 c.requires.3 c.requires.4 c.count.result (c.count.ensures c.requires.0 c.requires.1 (c.requires.2 ++ (c.requires.3 ∷ c.requires.4)) c.requires.5 c.requires.6 c.requires.7) in omega (arith, n, c.requires.8)

pub below_newer-requires : goal.below_newer-requires
below_newer-requires g c =
    let r = c.requires in let root = c.args.root in let n = number-length r.2 r.3 r.4 c.count.result (c.count.ensures r.0 r.1 (r.2 ++ (r.3 ∷ r.4)) r.5 r.6 r.7) in let long = objects-length r.4 in (
      omega arith,
      (
        slot-is r.0 c.args.region.now r.1 root r.2 r.3 r.4 r.5 r.6 r.7 c.known.ensures.well,
        (reverse (heads_of r.4), r.3.object, reverse (heads_of r.2), chain-is r.0 c.args.region.now r.1 root r.2 r.3 r.4 r.5 r.6 r.7 c.known.ensures.well, omega (arith, n, long, r.8)),
      ),
    )

pub returns : goal.returns
returns g c = λ slots front older s newer back listed h number.
    let n = number-length older s newer c.count.result (c.count.ensures slots front (older ++ (s ∷ newer)) back listed h) in let long = objects-length newer in
    c.below_newer.ensures (reverse (heads_of newer)) s.object (reverse (heads_of older)) (chain-is slots c.args.region.now front c.args.root older s newer back listed h c.known.ensures.well) (omega (arith, n, long, number))
