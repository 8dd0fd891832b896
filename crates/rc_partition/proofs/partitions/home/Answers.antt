use Rattle.std.proofs.Common.{◌∷◌, ◌++◌, reverse, sym, subst, None, ◌∙◌, arith}
use Rattle.lsa_region.specs.declared.end.End.TheVariants.{Obj, Slot}
use Rattle.lsa_region.specs.Region.{link_of, IsEnd}
use Rattle.lsa_path.specs.Path.{IsPath}
use Rattle.rc_partition.specs.Partitions.{heads_of}
use Rattle.rc_partition.proofs.Dropped.{chain-is, s-stands}
use Rattle.rc_partition.proofs.Passing.{chain-split, chain-below, below-few, objects-length, version-end}
use Rattle.rc_partition.proofs.partitions.home.Goals as goal

pub owner-n-requires : goal.owner-n-requires
owner-n-requires g c = let w = c.requires.4 in (omega arith, (w.1, (c.requires.3.entries w.0 w.2).versions w.1 w.3, w.4))

pub root_over-requires : goal.root_over-requires
root_over-requires g c =
    let w = c.requires.4 in let k = c.requires.3.entries w.0 w.2 in let same = c.owner-n.ensures w.1 (k.versions w.1 w.3) w.4 in let p = chain-split c.args.region.now w.0 k w.1 w.3 in
    (omega arith, (w.0.root, p.0, p.1, subst (λ n. IsPath 1 0 (link_of c.args.region.now) (Slot w.0.root) (p.0 ++ (n ∷ p.1)) None) (sym same) p.2))

pub chained-requires : goal.chained-requires
chained-requires g c =
    let w = c.requires.4 in let k = c.requires.3.entries w.0 w.2 in let same = c.owner-n.ensures w.1 (k.versions w.1 w.3) w.4 in let p = chain-split c.args.region.now w.0 k w.1 w.3 in
    let path = subst (λ n. IsPath 1 0 (link_of c.args.region.now) (Slot w.0.root) (p.0 ++ (n ∷ p.1)) None) (sym same) p.2 in (
      omega arith,
      (
        subst (λ n. IsEnd c.args.region.now (Obj n 0)) (sym same) (version-end c.args.region.now w.1.object w.1.entries w.1.version 0 (omega arith) (k.versions w.1 w.3)),
        (p.1, chain-below c.args.region.now w.0.root p.0 c.owner-n.result p.1 path, below-few c.args.region.now c.known.ensures.well c.known.ensures.summed w.0.root p.0 c.owner-n.result p.1 path),
      ),
    )

pub returns : goal.returns
returns g c = λ slots front root older s newer back listed h row.
    let v = c.args.region.now in let k = s-stands slots v front root older s newer back listed h c.known.ensures.well in let same = c.owner-n.ensures s k row in
    let path = subst (λ n. IsPath 1 0 (link_of v) (Slot root) (reverse (heads_of newer) ++ (n ∷ reverse (heads_of older))) None) (sym same) (chain-is slots v front root older s newer back listed h c.known.ensures.well) in
    let first = c.root_over.ensures root (reverse (heads_of newer)) (reverse (heads_of older)) path in
    let second = c.chained.ensures (reverse (heads_of older)) (chain-below v root (reverse (heads_of newer)) c.owner-n.result (reverse (heads_of older)) path) ∙ objects-length older in
    λ i. (first i, second i)
