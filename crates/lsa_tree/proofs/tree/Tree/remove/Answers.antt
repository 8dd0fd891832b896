use Rattle.std.proofs.Common.{refl, arith}
use Rattle.lsa_tree.proofs.Removed.{out-body, sunk-place, removed-tree, removed-others, removed-out, removed-loose, removed-elsewhere, removed-objects}
use Rattle.lsa_tree.proofs.tree.Tree.remove.Goals as goal

pub pluck-at-requires : goal.pluck-at-requires
pluck-at-requires g c =
    (omega arith, (c.args.self.now, c.requires.0, c.requires.1, c.requires.2))

pub set_balance-requires : goal.set_balance-requires
set_balance-requires g c =
    let v = c.args.region.now in let well = c.known.ensures.well in let tree = c.args.self.now in let r = c.args.r in let w = c.pluck-at.new.region in let at = c.pluck-at.result in
    let front = c.requires.0 in let back = c.requires.1 in let h = c.requires.2 in
    let o = c.pluck-at.ensures.out tree front back h in
    (omega arith, (out-body tree v well front back r h w at o.0 o.1 o.2 o.3 o.4, omega arith))

pub fall-requires : goal.fall-requires
fall-requires g c =
    let v = c.args.region.now in let well = c.known.ensures.well in let tree = c.args.self.now in let r = c.args.r in let w = c.pluck-at.new.region in let at = c.pluck-at.result in
    let front = c.requires.0 in let back = c.requires.1 in let h = c.requires.2 in
    let o = c.pluck-at.ensures.out tree front back h in
    (omega arith, (sunk-place tree v well front back r h w at o.0 o.1 o.2 o.3 o.4 c.set_balance.new.region c.set_balance.ensures.written, refl))

pub returns-clause-removed : goal.returns-clause-removed
returns-clause-removed g c = λ front back h.
    let v = c.args.region.now in let well = c.known.ensures.well in let tree = c.args.self.now in let r = c.args.r in let w = c.pluck-at.new.region in let at = c.pluck-at.result in
    let o = c.pluck-at.ensures.out tree front back h in
    let x = c.set_balance.new.region in let written = c.set_balance.ensures.written in let settled = c.fall.ensures.settled (sunk-place tree v well front back r h w at o.0 o.1 o.2 o.3 o.4 x written) refl in
    removed-tree tree v well front back r h w at o.0 o.1 o.2 o.3 o.4 x written c.fall.new.region settled

pub returns-clause-others : goal.returns-clause-others
returns-clause-others g c =
    let v = c.args.region.now in let well = c.known.ensures.well in let tree = c.args.self.now in let r = c.args.r in let w = c.pluck-at.new.region in let at = c.pluck-at.result in
    let front = c.requires.0 in let back = c.requires.1 in let h = c.requires.2 in
    let o = c.pluck-at.ensures.out tree front back h in
    let x = c.set_balance.new.region in let written = c.set_balance.ensures.written in let settled = c.fall.ensures.settled (sunk-place tree v well front back r h w at o.0 o.1 o.2 o.3 o.4 x written) refl in
    removed-others tree v well front back r h w at o.0 o.1 o.2 o.3 o.4 x written c.fall.new.region settled

pub returns-clause-out : goal.returns-clause-out
returns-clause-out g c =
    let v = c.args.region.now in let well = c.known.ensures.well in let tree = c.args.self.now in let r = c.args.r in let w = c.pluck-at.new.region in let at = c.pluck-at.result in
    let front = c.requires.0 in let back = c.requires.1 in let h = c.requires.2 in
    let o = c.pluck-at.ensures.out tree front back h in
    let x = c.set_balance.new.region in let written = c.set_balance.ensures.written in let settled = c.fall.ensures.settled (sunk-place tree v well front back r h w at o.0 o.1 o.2 o.3 o.4 x written) refl in
    removed-out tree v well front back r h w at o.0 o.1 o.2 o.3 o.4 x written c.fall.new.region settled

pub returns-clause-loose : goal.returns-clause-loose
returns-clause-loose g c =
    let v = c.args.region.now in let well = c.known.ensures.well in let tree = c.args.self.now in let r = c.args.r in let w = c.pluck-at.new.region in let at = c.pluck-at.result in
    let front = c.requires.0 in let back = c.requires.1 in let h = c.requires.2 in
    let o = c.pluck-at.ensures.out tree front back h in
    let x = c.set_balance.new.region in let written = c.set_balance.ensures.written in let settled = c.fall.ensures.settled (sunk-place tree v well front back r h w at o.0 o.1 o.2 o.3 o.4 x written) refl in
    removed-loose tree v well front back r h w at o.0 o.1 o.2 o.3 o.4 x written c.fall.new.region settled

pub returns-clause-elsewhere : goal.returns-clause-elsewhere
returns-clause-elsewhere g c =
    let v = c.args.region.now in let well = c.known.ensures.well in let tree = c.args.self.now in let r = c.args.r in let w = c.pluck-at.new.region in let at = c.pluck-at.result in
    let front = c.requires.0 in let back = c.requires.1 in let h = c.requires.2 in
    let o = c.pluck-at.ensures.out tree front back h in
    let x = c.set_balance.new.region in let written = c.set_balance.ensures.written in let settled = c.fall.ensures.settled (sunk-place tree v well front back r h w at o.0 o.1 o.2 o.3 o.4 x written) refl in
    removed-elsewhere tree v well front back r h w at o.0 o.1 o.2 o.3 o.4 x written c.fall.new.region settled

pub returns-clause-objects : goal.returns-clause-objects
returns-clause-objects g c =
    let v = c.args.region.now in let well = c.known.ensures.well in let tree = c.args.self.now in let r = c.args.r in let w = c.pluck-at.new.region in let at = c.pluck-at.result in
    let front = c.requires.0 in let back = c.requires.1 in let h = c.requires.2 in
    let o = c.pluck-at.ensures.out tree front back h in
    let x = c.set_balance.new.region in let written = c.set_balance.ensures.written in let settled = c.fall.ensures.settled (sunk-place tree v well front back r h w at o.0 o.1 o.2 o.3 o.4 x written) refl in
    removed-objects tree v well front back r h w at o.0 o.1 o.2 o.3 o.4 x written c.fall.new.region settled
