use Rattle.std.proofs.Common.{◌≡◌, [], ◌++◌, refl, inl, inr, sym, ◌∙◌, subst, arith}
use Rattle.rc_position.specs.Position.{IsBefore}
use Rattle.rc_position.specs.laws.Orders.{pos_cmp_same}
use Rattle.lsa_tree.specs.Entries.{IsEntryAtPosition}
use Rattle.lsa_tree.specs.laws.Orders.{greater-before}
use Rattle.lsa_tree.proofs.Searches.{reached-start, reached-there, last-list, last-belongs, last-vacant, node-stands, node-found, node-never, node-high, node-low, node-smaller}
use Rattle.lsa_tree.proofs.search.seek.Goals as goal

pub loop-r-init : goal.loop-r-init
loop-r-init g c = λ x refs is h. ([], h.form.0, h.form.1, h.form.1, reached-start c.args.tree c.args.region.now c.known.ensures.well c.known.ensures.summed x refs h)

pub below-requires : goal.below-requires
below-requires g c =
    let v = c.args.region.now in let tree = c.args.tree in let refs = c.requires.tree.0 in let x = c.requires.sought.0 in let w = c.loop-r.invariant x refs c.requires.sought.1 c.requires.tree.1 in
    (omega arith, reached-there tree v c.known.ensures.well c.known.ensures.summed x refs c.loop-r.at c.loop-r.next w.0 w.1 w.2 w.3 w.4)

pub returns-in-None-clause-found : goal.returns-in-None-clause-found
returns-in-None-clause-found g c = λ refs x h is.
    let v = c.args.region.now in let tree = c.args.tree in let well = c.known.ensures.well in let summed = c.known.ensures.summed in let at = c.loop-r.at in let next = c.loop-r.next in
    let w = c.loop-r.invariant x refs is h in let none = sym c.below.ensures ∙ c.in-None.is in
    c.next_place.ensures v refs _ _ x (last-list tree v well summed x refs at next w.0 w.1 w.2 w.3 w.4 none) (last-belongs tree v well summed x refs at next w.0 w.1 w.2 w.3 w.4 none) w.4.first

pub returns-in-None-clause-vacant : goal.returns-in-None-clause-vacant
returns-in-None-clause-vacant g c = λ front back x h is fits.
    let v = c.args.region.now in let tree = c.args.tree in let refs = front ++ back in let w = c.loop-r.invariant x refs is h in
    last-vacant tree v c.known.ensures.well c.known.ensures.summed x refs c.loop-r.at c.loop-r.next w.0 w.1 w.2 w.3 w.4 (sym c.below.ensures ∙ c.in-None.is) front back h fits

pub position-requires : goal.position-requires
position-requires g c =
    let v = c.args.region.now in let tree = c.args.tree in let refs = c.requires.tree.0 in let x = c.requires.sought.0 in let w = c.loop-r.invariant x refs c.requires.sought.1 c.requires.tree.1 in
    (omega arith, node-stands tree v c.known.ensures.well c.known.ensures.summed x refs c.loop-r.at c.loop-r.next w.0 w.1 w.2 w.3 w.4 c.in-Some.r (sym c.below.ensures ∙ c.in-Some.is))

pub loop-r-smaller : goal.loop-r-smaller
loop-r-smaller g c =
    let v = c.args.region.now in let tree = c.args.tree in let well = c.known.ensures.well in let summed = c.known.ensures.summed in let at = c.loop-r.at in let next = c.loop-r.next in let r = c.in-Some.r in
    let refs = c.requires.tree.0 in let x = c.requires.sought.0 in let w = c.loop-r.invariant x refs c.requires.sought.1 c.requires.tree.1 in let some = sym c.below.ensures ∙ c.in-Some.is in
    node-smaller tree v well summed x refs at next w.0 w.1 w.2 w.3 w.4 r some 3 (inl refl)

pub loop-r-smaller-in-Less : goal.loop-r-smaller-in-Less
loop-r-smaller-in-Less g c =
    let v = c.args.region.now in let tree = c.args.tree in let well = c.known.ensures.well in let summed = c.known.ensures.summed in let at = c.loop-r.at in let next = c.loop-r.next in let r = c.in-Some.r in
    let refs = c.requires.tree.0 in let x = c.requires.sought.0 in let w = c.loop-r.invariant x refs c.requires.sought.1 c.requires.tree.1 in let some = sym c.below.ensures ∙ c.in-Some.is in
    node-smaller tree v well summed x refs at next w.0 w.1 w.2 w.3 w.4 r some 4 (inr refl)

pub loop-r-preserved : goal.loop-r-preserved
loop-r-preserved g c = λ x refs is h.
    let v = c.args.region.now in let tree = c.args.tree in let well = c.known.ensures.well in let summed = c.known.ensures.summed in let at = c.loop-r.at in let next = c.loop-r.next in let r = c.in-Some.r in
    let w = c.loop-r.invariant x refs is h in let some = sym c.below.ensures ∙ c.in-Some.is in
    let stands = node-stands tree v well summed x refs at next w.0 w.1 w.2 w.3 w.4 r some in let code = c.position.ensures stands.0 stands.1 in
    let more : IsBefore x stands.0 = greater-before x stands.0 (sym (c.order.ensures stands.0 x code.0 code.1 is) ∙ c.in-Greater.is) in
    let n = node-low tree v well summed x refs at next w.0 w.1 w.2 w.3 w.4 r some stands.0 stands.1 more in (n.0, n.1, n.2, w.3, n.3)

pub loop-r-preserved-in-Less : goal.loop-r-preserved-in-Less
loop-r-preserved-in-Less g c = λ x refs is h.
    let v = c.args.region.now in let tree = c.args.tree in let well = c.known.ensures.well in let summed = c.known.ensures.summed in let at = c.loop-r.at in let next = c.loop-r.next in let r = c.in-Some.r in
    let w = c.loop-r.invariant x refs is h in let some = sym c.below.ensures ∙ c.in-Some.is in
    let stands = node-stands tree v well summed x refs at next w.0 w.1 w.2 w.3 w.4 r some in let code = c.position.ensures stands.0 stands.1 in
    let less : IsBefore stands.0 x = sym (c.order.ensures stands.0 x code.0 code.1 is) ∙ c.in-Less.is in
    let n = node-high tree v well summed x refs at next w.0 w.1 w.2 w.3 w.4 r some stands.0 stands.1 less in (n.0, n.1, n.2, w.3, n.3)

pub returns-in-Equal-clause-found : goal.returns-in-Equal-clause-found
returns-in-Equal-clause-found g c = λ refs x h is.
    let v = c.args.region.now in let tree = c.args.tree in let well = c.known.ensures.well in let summed = c.known.ensures.summed in let at = c.loop-r.at in let next = c.loop-r.next in let r = c.in-Some.r in
    let w = c.loop-r.invariant x refs is h in let some = sym c.below.ensures ∙ c.in-Some.is in
    let stands = node-stands tree v well summed x refs at next w.0 w.1 w.2 w.3 w.4 r some in let code = c.position.ensures stands.0 stands.1 in
    let same : stands.0 ≡ x = pos_cmp_same stands.0 x (sym (c.order.ensures stands.0 x code.0 code.1 is) ∙ c.in-Equal.is) in
    node-found tree v well summed x refs at next w.0 w.1 w.2 w.3 w.4 r some (subst (IsEntryAtPosition v r) same stands.1)

pub returns-in-Equal-clause-vacant : goal.returns-in-Equal-clause-vacant
returns-in-Equal-clause-vacant g c = λ front back x h is fits.
    let refs = front ++ back in
    let v = c.args.region.now in let tree = c.args.tree in let well = c.known.ensures.well in let summed = c.known.ensures.summed in let at = c.loop-r.at in let next = c.loop-r.next in let r = c.in-Some.r in
    let w = c.loop-r.invariant x refs is h in let some = sym c.below.ensures ∙ c.in-Some.is in
    let stands = node-stands tree v well summed x refs at next w.0 w.1 w.2 w.3 w.4 r some in let code = c.position.ensures stands.0 stands.1 in
    let same : stands.0 ≡ x = pos_cmp_same stands.0 x (sym (c.order.ensures stands.0 x code.0 code.1 is) ∙ c.in-Equal.is) in
    absurd (node-never tree v well summed x refs at next w.0 w.1 w.2 w.3 w.4 r some (subst (IsEntryAtPosition v r) same stands.1) front back h fits)
