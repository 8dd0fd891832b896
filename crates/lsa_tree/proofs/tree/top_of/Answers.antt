use Rattle.std.proofs.Common.{is_some, sym, ap, ◌∙◌, arith}
use Rattle.lsa_tree.proofs.Walks.{entry-door, entry-there, door-none, door-some, up-less, entry-formed}
use Rattle.lsa_tree.proofs.tree.top_of.Goals as goal

pub loop-end-init : goal.loop-end-init
loop-end-init g c = λ tree refs h on. entry-formed tree c.args.region.now refs h c.args.r on

pub door-end-requires : goal.door-end-requires
door-end-requires g c =
    let v = c.args.region.now in let f = c.loop-end.invariant c.requires.0 c.requires.1 c.requires.2 c.requires.3 in let well = c.known.ensures.well in let summed = c.known.ensures.summed in
    (omega arith, (entry-there v well summed c.requires.0 c.requires.1 f.0 f.1 f.2 c.loop-end.at f.3 2 (omega arith), ap is_some (entry-door v well summed c.requires.0 c.requires.1 f.0 f.1 f.2 c.loop-end.at f.3)))

pub returns-in-None : goal.returns-in-None
returns-in-None g c = λ tree refs h on.
    let f = c.loop-end.invariant tree refs h on in
    (door-none c.args.region.now c.known.ensures.well c.known.ensures.summed tree refs f.0 f.1 f.2 c.loop-end.at f.3 c.door-end.result c.door-end.ensures (sym c.owner.ensures ∙ c.in-None.is)).1

pub loop-end-smaller : goal.loop-end-smaller
loop-end-smaller g c =
    let v = c.args.region.now in let f = c.loop-end.invariant c.requires.0 c.requires.1 c.requires.2 c.requires.3 in
    up-less v c.known.ensures.well c.known.ensures.summed c.requires.0 c.requires.1 f.0 f.1 f.2 c.loop-end.at f.3 c.door-end.result _ c.in-Some.q c.door-end.ensures (sym c.owner.ensures ∙ c.in-Some.is)

pub loop-end-preserved : goal.loop-end-preserved
loop-end-preserved g c = λ tree refs h on.
    let f = c.loop-end.invariant tree refs h on in
    let d = door-some c.args.region.now c.known.ensures.well c.known.ensures.summed tree refs f.0 f.1 f.2 c.loop-end.at f.3 c.door-end.result _ c.in-Some.q c.door-end.ensures (sym c.owner.ensures ∙ c.in-Some.is) in (d.1, d.3, d.4, d.5)
