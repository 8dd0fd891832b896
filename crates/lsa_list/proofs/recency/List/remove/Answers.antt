use Rattle.std.proofs.Common.{Some, ap, is_some, arith}
use Rattle.lsa_region.specs.declared.end.End.TheVariants.{Obj, Slot}
use Rattle.lsa_region.specs.Region.{link_of}
use Rattle.lsa_list.specs.laws.Lists.{fields_differ, recency-ends, recent-at, recent-drop, recent-same, here-named, here-apart, taken-elsewhere, unset-taken}
use Rattle.lsa_list.proofs.recency.List.remove.Goals as goal

pub take_out-requires : goal.take_out-requires
take_out-requires g c =
    let v = c.args.region.now in let r = c.args.r in let xs = c.requires.0 in let ys = c.requires.1 in let l = c.requires.2 in let well = c.known.ensures.well in
    let ends = recency-ends v r (recent-at v xs ys r l.recent) in
    (omega arith, (ends.0, (ends.1, (ap is_some (here-named c.args.self.now v well xs ys r l), (fields_differ, here-apart c.args.self.now v well xs ys r l)))))

pub returns-clause-removed : goal.returns-clause-removed
returns-clause-removed g c = λ xs ys l. record {
  path = c.take_out.ensures.path (Slot c.args.self.now.front) xs ys (Some (Slot c.args.self.now.back)) tt tt l.path;
  recent = recent-same c.args.region.now c.take_out.new.region c.take_out.ensures.objects.bodies _ (recent-drop c.args.region.now xs ys c.args.r l.recent);
}

pub returns-clause-elsewhere : goal.returns-clause-elsewhere
returns-clause-elsewhere g c = taken-elsewhere c.args.self.now c.args.region.now c.known.ensures.well (link_of c.take_out.new.region) c.requires.0 c.requires.1 c.args.r c.requires.2 c.take_out.ensures.taken

pub returns-clause-unset : goal.returns-clause-unset
returns-clause-unset g c = λ e none. unset-taken (link_of c.args.region.now) (link_of c.take_out.new.region) (Obj c.args.r 0) (Obj c.args.r 1) e c.known.ensures.well.paired c.take_out.ensures.taken none
