use Rattle.std.proofs.Common.{[], ◌∷◌, ◌++◌, subst, arith}
use Rattle.std.specs.Prelude.{Contains}
use Rattle.lsa_list.specs.Recency.{IsList}
use Rattle.lsa_path.specs.laws.Members.{member-first, member-split}
use Rattle.lsa_tree_tests.proofs.Furnished.{stands-listed, listed-touched}
use Rattle.lsa_tree_tests.proofs.rooms.touch_first.Goals as goal

pub touch-requires : goal.touch-requires
touch-requires c = let t = c.requires in let r = c.args.r in let w = member-split t.2 r (t.4 r (member-first r t.1)) in
    (omega arith, (w.0, w.1, subst (IsList c.args.list c.args.region.now) w.2 t.3.list))

pub returns : goal.returns
returns c =
    let t = c.requires in let r = c.args.r in let w = member-split t.2 r (t.4 r (member-first r t.1)) in let e = c.touch.ensures in
    let s = stands-listed c.args._chain c.args.list c.args.region.now c.touch.new.region _ c.args._top _ t.2 t.3 ((w.0 ++ w.1) ++ (r ∷ [])) e.elsewhere e.objects (e.touched w.0 w.1 (subst (IsList c.args.list c.args.region.now) w.2 t.3.list)) in
    (t.0, t.1, (w.0 ++ w.1) ++ (r ∷ []), s, (λ q h. listed-touched w.0 w.1 r q (subst (λ l. Contains l q) w.2 (t.4 q h))))
