use Rattle.std.proofs.Common.{◌∷◌, ◌++◌, sym, ap, ◌∙◌, arith}
use Rattle.std.specs.Prelude.{is_some}
use Rattle.lsa_shape.specs.Flanks.{near_link}
use Rattle.lsa_tree.proofs.Placed.{tree-at}
use Rattle.lsa_tree.proofs.Walks.{climbing-start, climbing-none, climbing-past, climbing-on, up-less, entry-door, entry-there, door-some, near-same}
use Rattle.lsa_tree.proofs.walk.above.Goals as goal

pub loop-on-init : goal.loop-on-init
loop-on-init g c =
    let v = c.args.region.now in let w = c.requires in let at = tree-at w.0 v c.known.ensures.well w.1 w.2 c.args.start w.3 in (
      (w.0, w.1 ++ (c.args.start ∷ w.2), at.0, at.1, at.2, at.5.form),
      λ tree front back h unset. climbing-start v c.known.ensures.well c.known.ensures.summed c.args.side tree front back c.args.start h unset,
    )

pub door-requires : goal.door-requires
door-requires g c =
    let v = c.args.region.now in let f = c.loop-on.invariant.0 in
    (omega arith, (entry-there v c.known.ensures.well c.known.ensures.summed f.0 f.1 f.2 f.3 f.4 c.loop-on.r f.5 2 (omega arith), ap is_some (entry-door v c.known.ensures.well c.known.ensures.summed f.0 f.1 f.2 f.3 f.4 c.loop-on.r f.5)))

pub returns-in-None : goal.returns-in-None
returns-in-None g c = λ tree front back h unset.
    let v = c.args.region.now in let w = c.loop-on.invariant.1 tree front back h unset in
    climbing-none v c.known.ensures.well c.known.ensures.summed c.args.side tree (front ++ (c.args.start ∷ back)) _ c.loop-on.r w.0 w.1 w.2 w.3 c.door.result c.door.ensures (sym c.owner.ensures ∙ c.in-None.is)

pub loop-on-smaller : goal.loop-on-smaller
loop-on-smaller g c =
    let v = c.args.region.now in let f = c.loop-on.invariant.0 in
    up-less v c.known.ensures.well c.known.ensures.summed f.0 f.1 f.2 f.3 f.4 c.loop-on.r f.5 c.door.result c.in-Some.on c.in-Some.p c.door.ensures (sym c.owner.ensures ∙ c.in-Some.is)

pub loop-on-preserved : goal.loop-on-preserved
loop-on-preserved g c =
    let v = c.args.region.now in let f = c.loop-on.invariant.0 in let well = c.known.ensures.well in let summed = c.known.ensures.summed in
    let some = sym c.owner.ensures ∙ c.in-Some.is in let same = near-same c.in-Some.on c.args.side (sym c.near.ensures ∙ c.if-near.true ∙ c.near-in-Some.ensures) in
    let d = door-some v well summed f.0 f.1 f.2 f.3 f.4 c.loop-on.r f.5 c.door.result c.in-Some.on c.in-Some.p c.door.ensures some in (
      (f.0, f.1, d.1, d.3, d.4, d.5),
      λ tree front back h unset.
          let w = c.loop-on.invariant.1 tree front back h unset in
          climbing-on v well summed c.args.side tree (front ++ (c.args.start ∷ back)) _ c.loop-on.r w.0 w.1 w.2 w.3 c.door.result c.in-Some.on c.in-Some.p c.door.ensures some same,
    )

pub returns-else-near : goal.returns-else-near
returns-else-near g c = λ tree front back h unset.
    let v = c.args.region.now in let w = c.loop-on.invariant.1 tree front back h unset in
    climbing-past v c.known.ensures.well c.known.ensures.summed c.args.side tree (front ++ (c.args.start ∷ back)) _ c.loop-on.r w.0 w.1 w.2 w.3 c.door.result c.in-Some.on c.in-Some.p c.door.ensures (sym c.owner.ensures ∙ c.in-Some.is)
    (λ same. c.if-near.false (c.near.ensures ∙ ap near_link same ∙ sym c.near-in-Some.ensures))
