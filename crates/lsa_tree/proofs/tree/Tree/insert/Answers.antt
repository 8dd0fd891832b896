use Rattle.std.proofs.Common.{refl, arith}
use Rattle.lsa_tree.proofs.Inserted.{vacant-there, vacant-entry, vacant-unset, vacant-apart, attached, inserted-tree, inserted-others, inserted-loose, inserted-elsewhere, inserted-objects}
use Rattle.lsa_tree.proofs.tree.Tree.insert.Goals as goal

pub link-requires : goal.link-requires
link-requires g c =
    let v = c.args.region.now in let well = c.known.ensures.well in let tree = c.args.self.now in let r = c.args.r in let loose = c.requires.loose in
    let b = c.requires.belongs in let front = b.0 in let back = b.1 in let x = b.2 in let h = b.3 in let stands = b.4 in
    let vac = c.seek-at.ensures.vacant front back x h (c.position.ensures x stands) b.5 in
    let at = c.seek-at.result.0 in
    (omega arith, (vacant-there tree v well r loose front back h x stands at vac.0 vac.1 vac.2, (vacant-entry tree v well r loose front back h x stands at vac.0 vac.1 vac.2 2 (omega arith), (vacant-unset tree v well r loose front back h x stands at vac.0 vac.1 vac.2, (loose.parent, vacant-apart tree v well r loose front back h x stands at vac.0 vac.1 vac.2 2)))))

pub grow-requires : goal.grow-requires
grow-requires g c =
    let v = c.args.region.now in let well = c.known.ensures.well in let tree = c.args.self.now in let r = c.args.r in let loose = c.requires.loose in
    let b = c.requires.belongs in let front = b.0 in let back = b.1 in let x = b.2 in let h = b.3 in let stands = b.4 in
    let vac = c.seek-at.ensures.vacant front back x h (c.position.ensures x stands) b.5 in
    let at = c.seek-at.result.0 in let w = c.link.new.self in let tied = c.link.ensures.tied in let same = c.link.ensures.objects in
    (omega arith, (attached tree v well r loose front back h x stands at vac.0 vac.1 vac.2 w tied same, refl))

pub returns-clause-inserted : goal.returns-clause-inserted
returns-clause-inserted g c = λ front back x h stands fits.
    let v = c.args.region.now in let well = c.known.ensures.well in let tree = c.args.self.now in let r = c.args.r in let loose = c.requires.loose in
    let vac = c.seek-at.ensures.vacant front back x h (c.position.ensures x stands) fits in
    let at = c.seek-at.result.0 in let w = c.link.new.self in let tied = c.link.ensures.tied in let same = c.link.ensures.objects in
    let new = c.grow.new.region in let settled = c.grow.ensures.settled (attached tree v well r loose front back h x stands at vac.0 vac.1 vac.2 w tied same) refl in
    inserted-tree tree v well r loose front back h x stands at vac.0 vac.1 vac.2 w tied same new settled fits

pub returns-clause-others : goal.returns-clause-others
returns-clause-others g c =
    let v = c.args.region.now in let well = c.known.ensures.well in let tree = c.args.self.now in let r = c.args.r in let loose = c.requires.loose in
    let b = c.requires.belongs in let front = b.0 in let back = b.1 in let x = b.2 in let h = b.3 in let stands = b.4 in
    let vac = c.seek-at.ensures.vacant front back x h (c.position.ensures x stands) b.5 in
    let at = c.seek-at.result.0 in let w = c.link.new.self in let tied = c.link.ensures.tied in let same = c.link.ensures.objects in
    let new = c.grow.new.region in let settled = c.grow.ensures.settled (attached tree v well r loose front back h x stands at vac.0 vac.1 vac.2 w tied same) refl in
    inserted-others tree v well r loose front back h x stands at vac.0 vac.1 vac.2 w tied same new settled

pub returns-clause-loose : goal.returns-clause-loose
returns-clause-loose g c =
    let v = c.args.region.now in let well = c.known.ensures.well in let tree = c.args.self.now in let r = c.args.r in let loose = c.requires.loose in
    let b = c.requires.belongs in let front = b.0 in let back = b.1 in let x = b.2 in let h = b.3 in let stands = b.4 in
    let vac = c.seek-at.ensures.vacant front back x h (c.position.ensures x stands) b.5 in
    let at = c.seek-at.result.0 in let w = c.link.new.self in let tied = c.link.ensures.tied in let same = c.link.ensures.objects in
    let new = c.grow.new.region in let settled = c.grow.ensures.settled (attached tree v well r loose front back h x stands at vac.0 vac.1 vac.2 w tied same) refl in
    inserted-loose tree v well r loose front back h x stands at vac.0 vac.1 vac.2 w tied same new settled

pub returns-clause-elsewhere : goal.returns-clause-elsewhere
returns-clause-elsewhere g c =
    let v = c.args.region.now in let well = c.known.ensures.well in let tree = c.args.self.now in let r = c.args.r in let loose = c.requires.loose in
    let b = c.requires.belongs in let front = b.0 in let back = b.1 in let x = b.2 in let h = b.3 in let stands = b.4 in
    let vac = c.seek-at.ensures.vacant front back x h (c.position.ensures x stands) b.5 in
    let at = c.seek-at.result.0 in let w = c.link.new.self in let tied = c.link.ensures.tied in let same = c.link.ensures.objects in
    let new = c.grow.new.region in let settled = c.grow.ensures.settled (attached tree v well r loose front back h x stands at vac.0 vac.1 vac.2 w tied same) refl in
    inserted-elsewhere tree v well r loose front back h x stands at vac.0 vac.1 vac.2 w tied same new settled

pub returns-clause-objects : goal.returns-clause-objects
returns-clause-objects g c =
    let v = c.args.region.now in let well = c.known.ensures.well in let tree = c.args.self.now in let r = c.args.r in let loose = c.requires.loose in
    let b = c.requires.belongs in let front = b.0 in let back = b.1 in let x = b.2 in let h = b.3 in let stands = b.4 in
    let vac = c.seek-at.ensures.vacant front back x h (c.position.ensures x stands) b.5 in
    let at = c.seek-at.result.0 in let w = c.link.new.self in let tied = c.link.ensures.tied in let same = c.link.ensures.objects in
    let new = c.grow.new.region in let settled = c.grow.ensures.settled (attached tree v well r loose front back h x stands at vac.0 vac.1 vac.2 w tied same) refl in
    inserted-objects tree v well r loose front back h x stands at vac.0 vac.1 vac.2 w tied same new settled
