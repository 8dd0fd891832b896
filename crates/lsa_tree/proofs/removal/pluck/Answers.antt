use Rattle.std.proofs.Common.{refl, sym, ◌∙◌, arith}
use Rattle.lsa_shape.specs.declared.flank.Flank.TheVariants.{Low, High}
use Rattle.lsa_tree.proofs.Plucked.{plucked-body, unset-left, loosened-left, loosened-right, loosened-next, out-left, out-right, out-next, next-body, next-few, next-apart, first-splits}
use Rattle.lsa_tree.proofs.Walks.{side-place, side-entry, edge-some, edge-none}
use Rattle.lsa_tree.proofs.removal.pluck.Goals as goal

pub below-requires : goal.below-requires
below-requires g c =
    let v = c.args.region.now in let well = c.known.ensures.well in let summed = c.known.ensures.summed in let r = c.args.r in
    let q = c.requires in let tree = q.0 in let front = q.1 in let back = q.2 in let h = q.3 in
    (omega arith, side-entry v well summed High tree front back r h 3 (omega arith))

pub cut-requires : goal.cut-requires
cut-requires g c =
    let v = c.args.region.now in let well = c.known.ensures.well in let summed = c.known.ensures.summed in let r = c.args.r in
    let q = c.requires in let tree = q.0 in let front = q.1 in let back = q.2 in let h = q.3 in
    let none = unset-left tree v well front back r h (sym c.below.ensures ∙ c.in-None.is) in
    (omega arith, loosened-left tree v well front back r h none)

pub returns-in-None-clause-out : goal.returns-in-None-clause-out
returns-in-None-clause-out g c = λ tree front back h.
    let v = c.args.region.now in let well = c.known.ensures.well in let summed = c.known.ensures.summed in let r = c.args.r in
    let none = unset-left tree v well front back r h (sym c.below.ensures ∙ c.in-None.is) in
    out-left tree v well front back r h c.cut.new.region c.cut.result none (c.cut.ensures.cut (loosened-left tree v well front back r h none))

pub edge-requires : goal.edge-requires
edge-requires g c =
    let v = c.args.region.now in let well = c.known.ensures.well in let summed = c.known.ensures.summed in let r = c.args.r in
    let q = c.requires in let tree = q.0 in let front = q.1 in let back = q.2 in let h = q.3 in
    (omega arith, side-place v well summed High tree front back r h)

pub cut-requires-in-None-edge : goal.cut-requires-in-None-edge
cut-requires-in-None-edge g c =
    let v = c.args.region.now in let well = c.known.ensures.well in let summed = c.known.ensures.summed in let r = c.args.r in
    let q = c.requires in let tree = q.0 in let front = q.1 in let back = q.2 in let h = q.3 in
    let none = edge-none v well summed High tree front back r h Low 4 c.edge.result refl refl c.edge.ensures.found c.in-None-edge.is in
    (omega arith, loosened-right tree v well front back r h none)

pub trade-requires : goal.trade-requires
trade-requires g c =
    let v = c.args.region.now in let well = c.known.ensures.well in let summed = c.known.ensures.summed in let r = c.args.r in
    let q = c.requires in let tree = q.0 in let front = q.1 in let back = q.2 in let h = q.3 in
    let next = c.in-Some-edge.next in let b = first-splits back next (sym (edge-some v well summed High tree front back r h Low 4 c.edge.result refl refl c.edge.ensures.found next c.in-Some-edge.is)) in let unset = c.edge.ensures.last next c.in-Some-edge.is in
    (omega arith, (plucked-body tree v well front back r h, (next-body tree v well front back r h next b.0 b.1 unset, (next-few tree v well front back r h next b.0 b.1 unset, next-apart tree v well front back r h next b.0 b.1 unset))))

pub cut-requires-in-Some-edge : goal.cut-requires-in-Some-edge
cut-requires-in-Some-edge g c =
    let v = c.args.region.now in let well = c.known.ensures.well in let summed = c.known.ensures.summed in let r = c.args.r in
    let q = c.requires in let tree = q.0 in let front = q.1 in let back = q.2 in let h = q.3 in
    let next = c.in-Some-edge.next in let b = first-splits back next (sym (edge-some v well summed High tree front back r h Low 4 c.edge.result refl refl c.edge.ensures.found next c.in-Some-edge.is)) in let unset = c.edge.ensures.last next c.in-Some-edge.is in
    (omega arith, loosened-next tree v well front back r h next b.0 b.1 unset c.trade.new.region c.trade.ensures.well c.trade.ensures.traded)

pub returns-in-None-edge-clause-out : goal.returns-in-None-edge-clause-out
returns-in-None-edge-clause-out g c = λ tree front back h.
    let v = c.args.region.now in let well = c.known.ensures.well in let summed = c.known.ensures.summed in let r = c.args.r in
    let none = edge-none v well summed High tree front back r h Low 4 c.edge.result refl refl c.edge.ensures.found c.in-None-edge.is in
    out-right tree v well front back r h c.cut-in-None-edge.new.region c.cut-in-None-edge.result none (c.cut-in-None-edge.ensures.cut (loosened-right tree v well front back r h none))

pub returns-in-Some-edge-clause-out : goal.returns-in-Some-edge-clause-out
returns-in-Some-edge-clause-out g c = λ tree front back h.
    let v = c.args.region.now in let well = c.known.ensures.well in let summed = c.known.ensures.summed in let r = c.args.r in
    let next = c.in-Some-edge.next in let b = first-splits back next (sym (edge-some v well summed High tree front back r h Low 4 c.edge.result refl refl c.edge.ensures.found next c.in-Some-edge.is)) in let unset = c.edge.ensures.last next c.in-Some-edge.is in
    let m = c.trade.new.region in let at = loosened-next tree v well front back r h next b.0 b.1 unset m c.trade.ensures.well c.trade.ensures.traded in
    out-next tree v well front back r h next b.0 b.1 unset m c.trade.ensures.well c.trade.ensures.traded c.cut-in-Some-edge.new.region c.cut-in-Some-edge.result (c.cut-in-Some-edge.ensures.cut at)
