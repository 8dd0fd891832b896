use Rattle.std.proofs.Common.{[], ◌++◌, ◌∷◌, sym, subst}
use Rattle.std.proofs.lemmas.List.{append-nil}
use Rattle.lsa_region.specs.declared.end.End.TheVariants.{Slot}
use Rattle.lsa_tree.specs.declared.tree.Place.TheVariants.{Here, Before, Last}
use Rattle.lsa_tree.specs.Search.{IsFound}
use Rattle.lsa_tree.specs.Tree.{IsTree}
use Rattle.lsa_tree_tests.proofs.Walks.{slot-off, held-as, home-kept}
use Rattle.lsa_tree_tests.proofs.tree.put.Goals as goal

pub exchange-requires : goal.exchange-requires
exchange-requires c =
    let v = c.args.region.now in let slot = c.args.slot in let r = c.args.r in let tree = c.tree_of-tree.result in let refs = c.tree_of-tree.ensures.0 in let held = c.tree_of-tree.ensures.1 in let q = c.in-Here.old in
    let stands = c.in_ok-is_entry.ensures c.if-not-branch.false in let x = stands.0 in
    let f : IsFound v refs x (Here q) = subst (IsFound v refs x) c.in-Here.is (c.find_like.ensures refs x held.holds stands.1) in
    record { held = (f.0, f.1, held-as slot v tree refs (f.0 ++ (q ∷ f.1)) held f.2); loose = c.requires.loose; alike = (x, f.3, stands.1) }

pub returns-in-Before : goal.returns-in-Before
returns-in-Before c =
    let v = c.args.region.now in let slot = c.args.slot in let r = c.args.r in let tree = c.tree_of-tree.result in let refs = c.tree_of-tree.ensures.0 in let held = c.tree_of-tree.ensures.1 in let q = c.in-Before.field-0 in
    let stands = c.in_ok-is_entry.ensures c.if-not-branch.false in let x = stands.0 in let i = c.insert.ensures in
    let f : IsFound v refs x (Before q) = subst (IsFound v refs x) c.in-Before.is (c.find_like.ensures refs x held.holds stands.1) in
    home-kept slot v c.insert.new.region tree refs (f.0 ++ (r ∷ (q ∷ f.1))) held (i.elsewhere (Slot slot) (slot-off v slot)) (i.inserted f.0 (q ∷ f.1) x (subst (IsTree tree v) f.2 held.holds) stands.1 f.3)

pub returns-in-Last : goal.returns-in-Last
returns-in-Last c =
    let v = c.args.region.now in let slot = c.args.slot in let r = c.args.r in let tree = c.tree_of-tree.result in let refs = c.tree_of-tree.ensures.0 in let held = c.tree_of-tree.ensures.1 in
    let stands = c.in_ok-is_entry.ensures c.if-not-branch.false in let x = stands.0 in let i = c.insert-in-Last.ensures in
    let f : IsFound v refs x Last = subst (IsFound v refs x) c.in-Last.is (c.find_like.ensures refs x held.holds stands.1) in
    home-kept slot v c.insert-in-Last.new.region tree refs (refs ++ (r ∷ [])) held (i.elsewhere (Slot slot) (slot-off v slot)) (i.inserted refs [] x (subst (IsTree tree v) (sym (append-nil refs)) held.holds) stands.1 f)
