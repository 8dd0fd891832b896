use Rattle.std.proofs.Common.{subst, ◌≡◌, ◌+◌, ◌*◌, length, get_or, set, sym, ap, ◌∙◌, arith}
use Rattle.lsa_segment.specs.Places.{used_bytes, AreLaid}
use Rattle.lsa_segment.specs.calls.Places.{written_places}
use Rattle.lsa_segment.proofs.Held.{segment, known-used, appended, counted}
use Rattle.lsa_segment.proofs.segments.Segments.push.Goals as goal

pub index-offset-requires : goal.index-offset-requires
index-offset-requires g c = omega (arith, c.requires.segment, known-used g.row.S c.self.inside.used.items c.self.inside.block c.args.self.now c.self.view_is, c.self.inside.used.ok.0)

pub overflow_mul-n : goal.overflow_mul-n
overflow_mul-n g c = let s = segment g.row.S c.self.inside.used.items c.self.inside.block c.args.self.now c.args.n c.self.invariant c.self.view_is c.requires.segment in omega (arith, s.inside, s.far)

pub overflow_add-n : goal.overflow_add-n
overflow_add-n g c = let s = segment g.row.S c.self.inside.used.items c.self.inside.block c.args.self.now c.args.n c.self.invariant c.self.view_is c.requires.segment in let u = counted g.row.S c.self.inside.used.items c.self.inside.block c.args.self.now c.args.n c.self.inside.used.len c.index-offset.result.now c.self.invariant c.self.view_is c.requires.segment c.self.inside.used.ok.0 c.index-offset.ensures in omega (arith, s.inside, s.far, s.most, u.0)

pub write-requires : goal.write-requires
write-requires g c = let s = segment g.row.S c.self.inside.used.items c.self.inside.block c.args.self.now c.args.n c.self.invariant c.self.view_is c.requires.segment in let u = counted g.row.S c.self.inside.used.items c.self.inside.block c.args.self.now c.args.n c.self.inside.used.len c.index-offset.result.now c.self.invariant c.self.view_is c.requires.segment c.self.inside.used.ok.0 c.index-offset.ensures in omega (arith, s.inside, s.most, u.1, c.requires.fits)

pub overflow_add-offset : goal.overflow_add-offset
overflow_add-offset g c = let s = segment g.row.S c.self.inside.used.items c.self.inside.block c.args.self.now c.args.n c.self.invariant c.self.view_is c.requires.segment in let u = counted g.row.S c.self.inside.used.items c.self.inside.block c.args.self.now c.args.n c.self.inside.used.len c.index-offset.result.now c.self.invariant c.self.view_is c.requires.segment c.self.inside.used.ok.0 c.index-offset.ensures in omega (arith, s.inside, s.far, u.1, c.requires.fits)

pub index_mut-requires : goal.index_mut-requires
index_mut-requires g c = omega (arith, c.requires.segment, known-used g.row.S c.self.inside.used.items c.self.inside.block c.args.self.now c.self.view_is, c.self.inside.used.ok.0)

pub invariant_of-self : goal.invariant_of-self
invariant_of-self g c =
    let u = counted g.row.S c.self.inside.used.items c.self.inside.block c.args.self.now c.args.n c.self.inside.used.len c.index-offset.result.now c.self.invariant c.self.view_is c.requires.segment c.self.inside.used.ok.0 c.index-offset.ensures in
    let places = c.self.inside.block in let used = c.self.inside.used.items in let new = c.args.bytes.now in
    let r = appended g.row.S used places c.args.self.now c.args.n new c.self.invariant c.self.view_is c.requires.segment c.requires.fits in
    let is : c.write.new.self ≡ written_places places (c.args.n * g.row.S + get_or used c.args.n 0) new = c.write.ensures ∙ ap (λ k. written_places places (c.args.n * g.row.S + k) new) u.0 in
    let counts : set used c.args.n (c.index-offset.result.now + length new) ≡ set used c.args.n (get_or used c.args.n 0 + length new) = ap (λ k. set used c.args.n (k + length new)) u.0 in
    subst (λ l. AreLaid g.row.S l c.write.new.self) (sym counts) (subst (AreLaid g.row.S (set used c.args.n (get_or used c.args.n 0 + length new))) (sym is) r.0)

pub returns-clause-offset : goal.returns-clause-offset
returns-clause-offset g c = let u = counted g.row.S c.self.inside.used.items c.self.inside.block c.args.self.now c.args.n c.self.inside.used.len c.index-offset.result.now c.self.invariant c.self.view_is c.requires.segment c.self.inside.used.ok.0 c.index-offset.ensures in u.1

pub returns-clause-after : goal.returns-clause-after
returns-clause-after g c =
    let u = counted g.row.S c.self.inside.used.items c.self.inside.block c.args.self.now c.args.n c.self.inside.used.len c.index-offset.result.now c.self.invariant c.self.view_is c.requires.segment c.self.inside.used.ok.0 c.index-offset.ensures in
    let places = c.self.inside.block in let used = c.self.inside.used.items in let new = c.args.bytes.now in
    let r = appended g.row.S used places c.args.self.now c.args.n new c.self.invariant c.self.view_is c.requires.segment c.requires.fits in
    let is : c.write.new.self ≡ written_places places (c.args.n * g.row.S + get_or used c.args.n 0) new = c.write.ensures ∙ ap (λ k. written_places places (c.args.n * g.row.S + k) new) u.0 in
    let counts : set used c.args.n (c.index-offset.result.now + length new) ≡ set used c.args.n (get_or used c.args.n 0 + length new) = ap (λ k. set used c.args.n (k + length new)) u.0 in
    ap (λ l. used_bytes g.row.S l c.write.new.self) counts ∙ ap (used_bytes g.row.S (set used c.args.n (get_or used c.args.n 0 + length new))) is ∙ r.1
