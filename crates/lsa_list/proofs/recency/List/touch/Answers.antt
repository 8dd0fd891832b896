use Rattle.std.proofs.Common.{◌++◌, arith}
use Rattle.lsa_list.specs.laws.Lists.{recency-same, recent-at, listed-set}
use Rattle.lsa_list.proofs.recency.List.touch.Goals as goal

pub push_back-requires : goal.push_back-requires
push_back-requires g c =
    let v = c.args.region.now in let xs = c.requires.0 in let ys = c.requires.1 in let l = c.requires.2 in
    (omega arith, ((xs ++ ys, c.remove.ensures.removed xs ys l), (recency-same v c.remove.new.region c.remove.ensures.objects.bodies c.args.r (recent-at v xs ys c.args.r l.recent), (c.remove.ensures.first_unset, c.remove.ensures.second_unset))))

pub returns-clause-unset : goal.returns-clause-unset
returns-clause-unset g c = λ e none.
    let apart = listed-set c.args.self.now c.args.region.now c.known.ensures.well c.requires.0 c.requires.1 c.args.r c.requires.2 e none in
    c.push_back.ensures.unset e (c.remove.ensures.unset e none) apart.0 apart.1
