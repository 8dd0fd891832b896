use Rattle.std.proofs.Common.{subst, length-take, length-drop, ◌≡◌, ◌+◌, ◌*◌, [], length, get_or, set, take, drop, sym, ap, ◌∙◌, arith}
use Rattle.circular_buffer.specs.Places.{somes}
use Rattle.lsa_segment.specs.Bytes.{part}
use Rattle.lsa_segment.specs.Places.{used_bytes, AreLaid}
use Rattle.lsa_segment.specs.calls.Places.{written_places}
use Rattle.lsa_segment.proofs.Written.{somes-map}
use Rattle.lsa_segment.proofs.Held.{segment, known-used, lent, appended, counted, ends_apart}
use Rattle.lsa_segment.proofs.segments.Segments.copy_into.Goals as goal

pub index-end-requires : goal.index-end-requires
index-end-requires g c = omega (arith, c.requires.to, known-used g.row.S c.self.inside.used.items c.self.inside.block c.args.self.now c.self.view_is, c.self.inside.used.ok.0)

pub overflow_mul-from : goal.overflow_mul-from
overflow_mul-from g c = let s = segment g.row.S c.self.inside.used.items c.self.inside.block c.args.self.now c.args.from c.self.invariant c.self.view_is c.requires.from in omega (arith, s.inside, s.far)

pub overflow_add-from : goal.overflow_add-from
overflow_add-from g c = let s = segment g.row.S c.self.inside.used.items c.self.inside.block c.args.self.now c.args.from c.self.invariant c.self.view_is c.requires.from in omega (arith, s.inside, s.far, s.long, s.most, c.requires.inside)

pub overflow_mul-to : goal.overflow_mul-to
overflow_mul-to g c = let s = segment g.row.S c.self.inside.used.items c.self.inside.block c.args.self.now c.args.to c.self.invariant c.self.view_is c.requires.to in omega (arith, s.inside, s.far)

pub overflow_add-to : goal.overflow_add-to
overflow_add-to g c = let s = segment g.row.S c.self.inside.used.items c.self.inside.block c.args.self.now c.args.to c.self.invariant c.self.view_is c.requires.to in let u = counted g.row.S c.self.inside.used.items c.self.inside.block c.args.self.now c.args.to c.self.inside.used.len c.index-end.result.now c.self.invariant c.self.view_is c.requires.to c.self.inside.used.ok.0 c.index-end.ensures in omega (arith, s.inside, s.far, s.most, u.0)

pub copy-requires-clause-set : goal.copy-requires-clause-set
copy-requires-clause-set g c =
    let from = get_or c.args.self.now c.args.from [] in let s = segment g.row.S c.self.inside.used.items c.self.inside.block c.args.self.now c.args.from c.self.invariant c.self.view_is c.requires.from in
    let l = lent g.row.S c.self.inside.block c.args.from (get_or c.self.inside.used.items c.args.from 0) from c.args.offset c.args.len s c.requires.inside in
    (l.0, (part c.args.offset c.args.len from, l.1))

pub copy-requires-clause-inside : goal.copy-requires-clause-inside
copy-requires-clause-inside g c = let s = segment g.row.S c.self.inside.used.items c.self.inside.block c.args.self.now c.args.to c.self.invariant c.self.view_is c.requires.to in let u = counted g.row.S c.self.inside.used.items c.self.inside.block c.args.self.now c.args.to c.self.inside.used.len c.index-end.result.now c.self.invariant c.self.view_is c.requires.to c.self.inside.used.ok.0 c.index-end.ensures in omega (arith, s.inside, s.most, u.1, c.requires.fits)

pub copy-requires-clause-apart : goal.copy-requires-clause-apart
copy-requires-clause-apart g c =
    let s = segment g.row.S c.self.inside.used.items c.self.inside.block c.args.self.now c.args.from c.self.invariant c.self.view_is c.requires.from in let t = segment g.row.S c.self.inside.used.items c.self.inside.block c.args.self.now c.args.to c.self.invariant c.self.view_is c.requires.to in let u = counted g.row.S c.self.inside.used.items c.self.inside.block c.args.self.now c.args.to c.self.inside.used.len c.index-end.result.now c.self.invariant c.self.view_is c.requires.to c.self.inside.used.ok.0 c.index-end.ensures in
    ends_apart g.row.S c.self.inside.block c.args.from c.args.to c.args.offset c.args.len c.index-end.result.now c.requires.differ (omega (arith, s.most, s.long, c.requires.inside)) (omega (arith, u.1, c.requires.fits)) s.inside t.inside

pub overflow_add-end : goal.overflow_add-end
overflow_add-end g c = let s = segment g.row.S c.self.inside.used.items c.self.inside.block c.args.self.now c.args.to c.self.invariant c.self.view_is c.requires.to in let u = counted g.row.S c.self.inside.used.items c.self.inside.block c.args.self.now c.args.to c.self.inside.used.len c.index-end.result.now c.self.invariant c.self.view_is c.requires.to c.self.inside.used.ok.0 c.index-end.ensures in omega (arith, s.inside, s.far, u.1, c.requires.fits)

pub index_mut-requires : goal.index_mut-requires
index_mut-requires g c = omega (arith, c.requires.to, known-used g.row.S c.self.inside.used.items c.self.inside.block c.args.self.now c.self.view_is, c.self.inside.used.ok.0)

pub invariant_of-self : goal.invariant_of-self
invariant_of-self g c =
    let u = counted g.row.S c.self.inside.used.items c.self.inside.block c.args.self.now c.args.to c.self.inside.used.len c.index-end.result.now c.self.invariant c.self.view_is c.requires.to c.self.inside.used.ok.0 c.index-end.ensures in let s = segment g.row.S c.self.inside.used.items c.self.inside.block c.args.self.now c.args.from c.self.invariant c.self.view_is c.requires.from in
    let places = c.self.inside.block in let used = c.self.inside.used.items in let from = get_or c.args.self.now c.args.from [] in let new = part c.args.offset c.args.len from in
    let l = lent g.row.S places c.args.from (get_or used c.args.from 0) from c.args.offset c.args.len s c.requires.inside in
    let bytes : somes (take c.args.len (drop (c.args.from * g.row.S + c.args.offset) places)) ≡ new = ap somes l.1 ∙ somes-map new in
    let long : length new ≡ c.args.len = omega (arith, length-take c.args.len (drop c.args.offset from), length-drop c.args.offset from, c.requires.inside) in
    let r = appended g.row.S used places c.args.self.now c.args.to new c.self.invariant c.self.view_is c.requires.to (omega (arith, long, c.requires.fits)) in
    let is : c.copy.new.self ≡ written_places places (c.args.to * g.row.S + get_or used c.args.to 0) new =
    c.copy.ensures ∙ ap (λ k. written_places places (c.args.to * g.row.S + k) (somes (take c.args.len (drop (c.args.from * g.row.S + c.args.offset) places)))) u.0 ∙ ap (written_places places (c.args.to * g.row.S + get_or used c.args.to 0)) bytes in
    let counts : set used c.args.to (c.index-end.result.now + c.args.len) ≡ set used c.args.to (get_or used c.args.to 0 + length new) =
    ap (λ k. set used c.args.to (k + c.args.len)) u.0 ∙ ap (λ k. set used c.args.to (get_or used c.args.to 0 + k)) (sym long) in
    subst (λ l. AreLaid g.row.S l c.copy.new.self) (sym counts) (subst (AreLaid g.row.S (set used c.args.to (get_or used c.args.to 0 + length new))) (sym is) r.0)

pub returns-clause-offset : goal.returns-clause-offset
returns-clause-offset g c = let u = counted g.row.S c.self.inside.used.items c.self.inside.block c.args.self.now c.args.to c.self.inside.used.len c.index-end.result.now c.self.invariant c.self.view_is c.requires.to c.self.inside.used.ok.0 c.index-end.ensures in u.1

pub returns-clause-after : goal.returns-clause-after
returns-clause-after g c =
    let u = counted g.row.S c.self.inside.used.items c.self.inside.block c.args.self.now c.args.to c.self.inside.used.len c.index-end.result.now c.self.invariant c.self.view_is c.requires.to c.self.inside.used.ok.0 c.index-end.ensures in let s = segment g.row.S c.self.inside.used.items c.self.inside.block c.args.self.now c.args.from c.self.invariant c.self.view_is c.requires.from in
    let places = c.self.inside.block in let used = c.self.inside.used.items in let from = get_or c.args.self.now c.args.from [] in let new = part c.args.offset c.args.len from in
    let l = lent g.row.S places c.args.from (get_or used c.args.from 0) from c.args.offset c.args.len s c.requires.inside in
    let bytes : somes (take c.args.len (drop (c.args.from * g.row.S + c.args.offset) places)) ≡ new = ap somes l.1 ∙ somes-map new in
    let long : length new ≡ c.args.len = omega (arith, length-take c.args.len (drop c.args.offset from), length-drop c.args.offset from, c.requires.inside) in
    let r = appended g.row.S used places c.args.self.now c.args.to new c.self.invariant c.self.view_is c.requires.to (omega (arith, long, c.requires.fits)) in
    let is : c.copy.new.self ≡ written_places places (c.args.to * g.row.S + get_or used c.args.to 0) new =
    c.copy.ensures ∙ ap (λ k. written_places places (c.args.to * g.row.S + k) (somes (take c.args.len (drop (c.args.from * g.row.S + c.args.offset) places)))) u.0 ∙ ap (written_places places (c.args.to * g.row.S + get_or used c.args.to 0)) bytes in
    let counts : set used c.args.to (c.index-end.result.now + c.args.len) ≡ set used c.args.to (get_or used c.args.to 0 + length new) =
    ap (λ k. set used c.args.to (k + c.args.len)) u.0 ∙ ap (λ k. set used c.args.to (get_or used c.args.to 0 + k)) (sym long) in
    ap (λ l. used_bytes g.row.S l c.copy.new.self) counts ∙ ap (used_bytes g.row.S (set used c.args.to (get_or used c.args.to 0 + length new))) is ∙ r.1
