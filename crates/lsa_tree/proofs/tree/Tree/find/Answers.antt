use Rattle.std.proofs.Common.{◌≡◌, [], refl, inl, inr, sym, ◌∙◌, subst, arith}
use Rattle.rc_position.specs.Position.{IsBefore}
use Rattle.rc_position.specs.laws.Orders.{pos_cmp_same}
use Rattle.lsa_tree.specs.Entries.{IsEntryAtPosition}
use Rattle.lsa_tree.specs.laws.Orders.{greater-before}
use Rattle.lsa_tree.proofs.Searches.{reached-start, reached-there, steps-most, steps-less, last-list, last-belongs, last-way, node-stands, node-found, node-deep, node-high, node-low, node-smaller}
use Rattle.lsa_tree.proofs.tree.Tree.find.Goals as goal

pub loop-r-init : goal.loop-r-init
loop-r-init g c = λ refs h. ([], h.form.0, h.form.1, h.form.1, reached-start c.args.self.now c.args.region.now c.known.ensures.well c.known.ensures.summed c.args.x.now refs h, omega arith)

pub below-requires : goal.below-requires
below-requires g c =
    let v = c.args.region.now in let tree = c.args.self.now in let well = c.known.ensures.well in let summed = c.known.ensures.summed in let at = c.loop-r.at in let next = c.loop-r.next in let x = c.args.x.now in
    let refs = c.requires.0 in let w = c.loop-r.invariant refs c.requires.1 in
    (omega arith, reached-there tree v well summed x refs at next w.0 w.1 w.2 w.3 w.4)

pub returns-in-None-clause-found : goal.returns-in-None-clause-found
returns-in-None-clause-found g c = λ refs h.
    let v = c.args.region.now in let tree = c.args.self.now in let well = c.known.ensures.well in let summed = c.known.ensures.summed in let at = c.loop-r.at in let next = c.loop-r.next in let x = c.args.x.now in
    let w = c.loop-r.invariant refs h in
    let none = sym c.below.ensures ∙ c.in-None.is in
    c.next_place.ensures v refs _ _ x (last-list tree v well summed x refs at next w.0 w.1 w.2 w.3 w.4 none) (last-belongs tree v well summed x refs at next w.0 w.1 w.2 w.3 w.4 none) w.4.first

pub returns-in-None-clause-most : goal.returns-in-None-clause-most
returns-in-None-clause-most g c = λ refs h.
    let v = c.args.region.now in let tree = c.args.self.now in let well = c.known.ensures.well in let summed = c.known.ensures.summed in let at = c.loop-r.at in let next = c.loop-r.next in let x = c.args.x.now in
    let w = c.loop-r.invariant refs h in
    omega (arith, w.5, steps-most tree v well summed x refs at next w.0 w.1 w.2 w.3 w.4)

pub returns-in-None-clause-bounded : goal.returns-in-None-clause-bounded
returns-in-None-clause-bounded g c = λ refs d h few.
    let v = c.args.region.now in let tree = c.args.self.now in let well = c.known.ensures.well in let summed = c.known.ensures.summed in let at = c.loop-r.at in let next = c.loop-r.next in let x = c.args.x.now in
    let w = c.loop-r.invariant refs h in
    omega (arith, w.5, steps-less tree v well summed x refs at next w.0 w.1 w.2 w.3 w.4 d few)

pub returns-in-None-clause-counted : goal.returns-in-None-clause-counted
returns-in-None-clause-counted g c = λ refs h more.
    let v = c.args.region.now in let tree = c.args.self.now in let well = c.known.ensures.well in let summed = c.known.ensures.summed in let at = c.loop-r.at in let next = c.loop-r.next in let x = c.args.x.now in
    let w = c.loop-r.invariant refs h in
    let none = sym c.below.ensures ∙ c.in-None.is in
    omega (arith, w.5, last-way tree v well summed x refs at next w.0 w.1 w.2 w.3 w.4 none more)

pub position-requires : goal.position-requires
position-requires g c =
    let v = c.args.region.now in let tree = c.args.self.now in let well = c.known.ensures.well in let summed = c.known.ensures.summed in let at = c.loop-r.at in let next = c.loop-r.next in let x = c.args.x.now in
    let refs = c.requires.0 in let w = c.loop-r.invariant refs c.requires.1 in
    let r = c.in-Some.r in let some = sym c.below.ensures ∙ c.in-Some.is in
    (omega arith, node-stands tree v well summed x refs at next w.0 w.1 w.2 w.3 w.4 r some)

pub loop-r-smaller : goal.loop-r-smaller
loop-r-smaller g c =
    let v = c.args.region.now in let tree = c.args.self.now in let well = c.known.ensures.well in let summed = c.known.ensures.summed in let at = c.loop-r.at in let next = c.loop-r.next in let x = c.args.x.now in
    let refs = c.requires.0 in let w = c.loop-r.invariant refs c.requires.1 in
    let r = c.in-Some.r in let some = sym c.below.ensures ∙ c.in-Some.is in
    node-smaller tree v well summed x refs at next w.0 w.1 w.2 w.3 w.4 r some 3 (inl refl)

pub loop-r-smaller-in-Less : goal.loop-r-smaller-in-Less
loop-r-smaller-in-Less g c =
    let v = c.args.region.now in let tree = c.args.self.now in let well = c.known.ensures.well in let summed = c.known.ensures.summed in let at = c.loop-r.at in let next = c.loop-r.next in let x = c.args.x.now in
    let refs = c.requires.0 in let w = c.loop-r.invariant refs c.requires.1 in
    let r = c.in-Some.r in let some = sym c.below.ensures ∙ c.in-Some.is in
    node-smaller tree v well summed x refs at next w.0 w.1 w.2 w.3 w.4 r some 4 (inr refl)

pub loop-r-preserved : goal.loop-r-preserved
loop-r-preserved g c = λ refs h.
    let v = c.args.region.now in let tree = c.args.self.now in let well = c.known.ensures.well in let summed = c.known.ensures.summed in let at = c.loop-r.at in let next = c.loop-r.next in let x = c.args.x.now in
    let w = c.loop-r.invariant refs h in
    let r = c.in-Some.r in let some = sym c.below.ensures ∙ c.in-Some.is in
    let stands = node-stands tree v well summed x refs at next w.0 w.1 w.2 w.3 w.4 r some in let code = c.position.ensures stands.0 stands.1 in
    let more : IsBefore x stands.0 = greater-before x stands.0 (sym (c.compare_code_with_pos_counted.ensures.value stands.0 code.0 code.1) ∙ c.in-Greater.is) in
    let n = node-low tree v well summed x refs at next w.0 w.1 w.2 w.3 w.4 r some stands.0 stands.1 more in (n.0, n.1, n.2, w.3, n.3, omega (arith, w.5, c.compare_code_with_pos_counted.ensures.counted, n.4))

pub loop-r-preserved-in-Less : goal.loop-r-preserved-in-Less
loop-r-preserved-in-Less g c = λ refs h.
    let v = c.args.region.now in let tree = c.args.self.now in let well = c.known.ensures.well in let summed = c.known.ensures.summed in let at = c.loop-r.at in let next = c.loop-r.next in let x = c.args.x.now in
    let w = c.loop-r.invariant refs h in
    let r = c.in-Some.r in let some = sym c.below.ensures ∙ c.in-Some.is in
    let stands = node-stands tree v well summed x refs at next w.0 w.1 w.2 w.3 w.4 r some in let code = c.position.ensures stands.0 stands.1 in
    let less : IsBefore stands.0 x = sym (c.compare_code_with_pos_counted.ensures.value stands.0 code.0 code.1) ∙ c.in-Less.is in
    let n = node-high tree v well summed x refs at next w.0 w.1 w.2 w.3 w.4 r some stands.0 stands.1 less in (n.0, n.1, n.2, w.3, n.3, omega (arith, w.5, c.compare_code_with_pos_counted.ensures.counted, n.4))

pub returns-in-Equal-clause-found : goal.returns-in-Equal-clause-found
returns-in-Equal-clause-found g c = λ refs h.
    let v = c.args.region.now in let tree = c.args.self.now in let well = c.known.ensures.well in let summed = c.known.ensures.summed in let at = c.loop-r.at in let next = c.loop-r.next in let x = c.args.x.now in
    let w = c.loop-r.invariant refs h in
    let r = c.in-Some.r in let some = sym c.below.ensures ∙ c.in-Some.is in
    let stands = node-stands tree v well summed x refs at next w.0 w.1 w.2 w.3 w.4 r some in let code = c.position.ensures stands.0 stands.1 in
    let same : stands.0 ≡ x = pos_cmp_same stands.0 x (sym (c.compare_code_with_pos_counted.ensures.value stands.0 code.0 code.1) ∙ c.in-Equal.is) in
    node-found tree v well summed x refs at next w.0 w.1 w.2 w.3 w.4 r some (subst (IsEntryAtPosition v r) same stands.1)

pub returns-in-Equal-clause-most : goal.returns-in-Equal-clause-most
returns-in-Equal-clause-most g c = λ refs h.
    let v = c.args.region.now in let tree = c.args.self.now in let well = c.known.ensures.well in let summed = c.known.ensures.summed in let at = c.loop-r.at in let next = c.loop-r.next in let x = c.args.x.now in
    let w = c.loop-r.invariant refs h in
    let r = c.in-Some.r in let some = sym c.below.ensures ∙ c.in-Some.is in
    omega (arith, w.5, c.compare_code_with_pos_counted.ensures.counted, steps-most tree v well summed x refs at next w.0 w.1 w.2 w.3 w.4, node-deep tree v well summed x refs at next w.0 w.1 w.2 w.3 w.4 r some)

pub returns-in-Equal-clause-bounded : goal.returns-in-Equal-clause-bounded
returns-in-Equal-clause-bounded g c = λ refs d h few.
    let v = c.args.region.now in let tree = c.args.self.now in let well = c.known.ensures.well in let summed = c.known.ensures.summed in let at = c.loop-r.at in let next = c.loop-r.next in let x = c.args.x.now in
    let w = c.loop-r.invariant refs h in
    let r = c.in-Some.r in let some = sym c.below.ensures ∙ c.in-Some.is in
    omega (arith, w.5, c.compare_code_with_pos_counted.ensures.counted, steps-less tree v well summed x refs at next w.0 w.1 w.2 w.3 w.4 d few, node-deep tree v well summed x refs at next w.0 w.1 w.2 w.3 w.4 r some)

pub returns-in-Equal-clause-counted : goal.returns-in-Equal-clause-counted
returns-in-Equal-clause-counted g c = λ refs h more.
    let v = c.args.region.now in let tree = c.args.self.now in let well = c.known.ensures.well in let summed = c.known.ensures.summed in let at = c.loop-r.at in let next = c.loop-r.next in let x = c.args.x.now in
    let w = c.loop-r.invariant refs h in
    omega (arith, w.5, c.compare_code_with_pos_counted.ensures.counted)
