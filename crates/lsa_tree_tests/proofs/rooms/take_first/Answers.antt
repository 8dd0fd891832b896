use Rattle.std.proofs.Common.{[], ◌∷◌, ◌++◌, ◌∙◌, subst, arith}
use Rattle.std.specs.Prelude.{Contains}
use Rattle.lsa_region.specs.declared.end.End.TheVariants.{Obj}
use Rattle.lsa_list.specs.Recency.{IsList}
use Rattle.lsa_path.specs.laws.Members.{member-first, member-later, member-split}
use Rattle.lsa_tree_tests.proofs.Furnished.{kind-same, past-elsewhere, stands-listed, first-once, still-in}
use Rattle.lsa_tree_tests.proofs.rooms.take_first.Goals as goal

pub take-requires : goal.take-requires
take-requires c = let t = c.requires in (omega arith, (c.args._chain, c.args.list, _, [], t.1, t.2, t.3))

pub remove-requires : goal.remove-requires
remove-requires c =
    let t = c.requires in let r = c.args.r in let s = c.take.ensures.taken c.args._chain c.args.list _ [] t.1 t.2 t.3 in let d = member-split t.2 r (t.4 r (member-first r t.1)) in
    (omega arith, (d.0, d.1, subst (IsList c.args.list c.take.new.region) d.2 s.list))

pub free_entry-requires : goal.free_entry-requires
free_entry-requires c =
    let t = c.requires in let r = c.args.r in let v = c.args.region.now in let mid = c.take.new.region in let e = c.remove.ensures in record {
      dummy = kind-same mid c.remove.new.region e.objects r ∙ kind-same v mid c.take.ensures.objects r ∙ t.3.dummies r (member-first r t.1);
      less = e.first_unset;
      more = e.second_unset;
      left = e.elsewhere (Obj r 3) (past-elsewhere c.args.list mid r 1) ∙ c.take.ensures.left;
      right = e.elsewhere (Obj r 4) (past-elsewhere c.args.list mid r 2) ∙ c.take.ensures.right;
    }

pub returns : goal.returns
returns c =
    let t = c.requires in let r = c.args.r in let mid = c.take.new.region in let now = c.remove.new.region in let e = c.remove.ensures in
    let s = c.take.ensures.taken c.args._chain c.args.list _ [] t.1 t.2 t.3 in let d = member-split t.2 r (t.4 r (member-first r t.1)) in
    let w = stands-listed c.args._chain c.args.list mid now _ c.args.top t.1 t.2 s (d.0 ++ d.1) e.elsewhere e.objects (e.removed d.0 d.1 (subst (IsList c.args.list mid) d.2 s.list)) in (
      t.0,
      t.1,
      d.0 ++ d.1,
      c.free_entry.ensures c.args._chain c.args.list _ c.args.top t.1 (d.0 ++ d.1) w,
      (λ q h. still-in d.0 d.1 r q (subst (λ l. Contains l q) d.2 (t.4 q (member-later r q t.1 h)))
          (first-once c.args.region.now c.known.ensures.well c.args.top r t.1 t.3.ordered q h)),
    )
