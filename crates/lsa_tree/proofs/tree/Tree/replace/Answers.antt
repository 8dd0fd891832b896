use Rattle.std.proofs.Common.{arith}
use Rattle.lsa_tree.proofs.Exchanged.{replaced-apart, replaced-few, replaced-body, replaced-other, replaced-tree, replaced-others, replaced-out, replaced-loose, replaced-elsewhere, replaced-objects}
use Rattle.lsa_tree.proofs.tree.Tree.replace.Goals as goal

pub trade-requires : goal.trade-requires
trade-requires g c =
    let v = c.args.region.now in let well = c.known.ensures.well in let tree = c.args.self.now in let r = c.args.old in let q = c.args.new in let loose = c.requires.loose in let a = c.requires.alike in let x = a.0 in
    let s = c.requires.stands in let front = s.0 in let back = s.1 in let h = s.2 in
    let w = v in (omega arith, (replaced-body tree v w well r q front back h loose x a.1 a.2, (replaced-other tree v w well r q front back h loose x a.1 a.2, (replaced-few tree v w well r q front back h loose x a.1 a.2, replaced-apart tree v w well r q front back h loose x a.1 a.2))))

pub returns-clause-replaced : goal.returns-clause-replaced
returns-clause-replaced g c = λ front back h.
    let v = c.args.region.now in let well = c.known.ensures.well in let tree = c.args.self.now in let r = c.args.old in let q = c.args.new in let loose = c.requires.loose in let a = c.requires.alike in let x = a.0 in let w = c.trade.new.region in
    replaced-tree tree v w well r q front back h loose x a.1 a.2 c.trade.ensures.traded

pub returns-clause-others : goal.returns-clause-others
returns-clause-others g c =
    let v = c.args.region.now in let well = c.known.ensures.well in let tree = c.args.self.now in let r = c.args.old in let q = c.args.new in let loose = c.requires.loose in let a = c.requires.alike in let x = a.0 in let w = c.trade.new.region in
    let s = c.requires.stands in let front = s.0 in let back = s.1 in let h = s.2 in
    replaced-others tree v w well r q front back h loose x a.1 a.2 c.trade.ensures.traded

pub returns-clause-out : goal.returns-clause-out
returns-clause-out g c =
    let v = c.args.region.now in let well = c.known.ensures.well in let tree = c.args.self.now in let r = c.args.old in let q = c.args.new in let loose = c.requires.loose in let a = c.requires.alike in let x = a.0 in let w = c.trade.new.region in
    let s = c.requires.stands in let front = s.0 in let back = s.1 in let h = s.2 in
    replaced-out tree v w well r q front back h loose x a.1 a.2 c.trade.ensures.traded

pub returns-clause-loose : goal.returns-clause-loose
returns-clause-loose g c =
    let v = c.args.region.now in let well = c.known.ensures.well in let tree = c.args.self.now in let r = c.args.old in let q = c.args.new in let loose = c.requires.loose in let a = c.requires.alike in let x = a.0 in let w = c.trade.new.region in
    let s = c.requires.stands in let front = s.0 in let back = s.1 in let h = s.2 in
    replaced-loose tree v w well r q front back h loose x a.1 a.2 c.trade.ensures.traded

pub returns-clause-elsewhere : goal.returns-clause-elsewhere
returns-clause-elsewhere g c =
    let v = c.args.region.now in let well = c.known.ensures.well in let tree = c.args.self.now in let r = c.args.old in let q = c.args.new in let loose = c.requires.loose in let a = c.requires.alike in let x = a.0 in let w = c.trade.new.region in
    let s = c.requires.stands in let front = s.0 in let back = s.1 in let h = s.2 in
    replaced-elsewhere tree v w well r q front back h loose x a.1 a.2 c.trade.ensures.traded

pub returns-clause-objects : goal.returns-clause-objects
returns-clause-objects g c =
    let v = c.args.region.now in let well = c.known.ensures.well in let tree = c.args.self.now in let r = c.args.old in let q = c.args.new in let loose = c.requires.loose in let a = c.requires.alike in let x = a.0 in let w = c.trade.new.region in
    let s = c.requires.stands in let front = s.0 in let back = s.1 in let h = s.2 in
    replaced-objects tree v w well r q front back h loose x a.1 a.2 c.trade.ensures.traded
