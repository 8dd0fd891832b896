use Rattle.std.proofs.Common.{ℕ, ◌≡◌, ◌+◌, ◌*◌, ◌-◌, ◌≤◌, ◌<◌, [], ◌∷◌, ◌++◌, List, length, get_or, set, map, drop, length-set, sym, ap, ◌∙◌, arith, length-drop}
use Rattle.std.proofs.lemmas.List.{get_or-set_other}
use Rattle.lsa_kinds.specs.declared.kind.Kind.{Kind}
use Rattle.lsa_kinds.specs.Kinds.{links_of, up8}
use Rattle.lsa_segment.specs.Bytes.{part}
use Rattle.lsa_yard.specs.Cells.{Cell, size_of, extent, cell_at, body_at, fresh}
use Rattle.lsa_yard.specs.Spelled.{cells_in}
use Rattle.lsa_yard.specs.calls.Spelled.{head_of}
use Rattle.lsa_yard.proofs.Readings.{read-own, from_some, and_some, fits-behind}
use Rattle.lsa_yard.proofs.Segments.{found, long-at, counted, grown, length-head, whole-cell}
use Rattle.lsa_yard.proofs.yards.Yards.copy.Goals as goal

pub overflow_sub-len : goal.overflow_sub-len
overflow_sub-len g c =
    let segments = c.self.inside.segments in let all = c.args.self.now in let from = c.args.from in let to = c.args.to in let offset = c.args.offset in
    let f = found g.row.S segments all from offset (λ (b : Kind × List ℕ). extent (get_or c.args.self.now c.args.to []) + size_of (fresh b.0 b.1) ≤ g.row.S) c.self.invariant c.self.view_is c.requires.fits in let x = f.object in let bytes = drop (8 * links_of x.kind) x.cell.rest in
    let same : x.kind ≡ c.object-kind.result = from_some (body_at (get_or all from []) offset) (x.kind, bytes) (λ (b : Kind × List ℕ). b.0 ≡ c.object-kind.result) x.body c.object-kind.ensures in
    let links : links_of x.kind ≡ c.links.result = ap links_of same ∙ sym c.links.ensures in
    let long = from_some (cell_at (get_or all from []) offset) x.cell (λ (d : Cell). 8 + length d.rest ≡ c.len.result) x.here c.len.ensures.cell in
    let head = 8 + 8 * c.links.result in let len = c.len.result - head in let own : length bytes ≡ len = omega (arith, length-drop (8 * links_of x.kind) x.cell.rest, links, long) in
    omega (arith, links, long, f.linked)

pub begin-at-requires : goal.begin-at-requires
begin-at-requires g c =
    let segments = c.self.inside.segments in let all = c.args.self.now in let from = c.args.from in let to = c.args.to in let offset = c.args.offset in
    let f = found g.row.S segments all from offset (λ (b : Kind × List ℕ). extent (get_or c.args.self.now c.args.to []) + size_of (fresh b.0 b.1) ≤ g.row.S) c.self.invariant c.self.view_is c.requires.fits in let x = f.object in let bytes = drop (8 * links_of x.kind) x.cell.rest in
    let same : x.kind ≡ c.object-kind.result = from_some (body_at (get_or all from []) offset) (x.kind, bytes) (λ (b : Kind × List ℕ). b.0 ≡ c.object-kind.result) x.body c.object-kind.ensures in
    let links : links_of x.kind ≡ c.links.result = ap links_of same ∙ sym c.links.ensures in
    let long = from_some (cell_at (get_or all from []) offset) x.cell (λ (d : Cell). 8 + length d.rest ≡ c.len.result) x.here c.len.ensures.cell in
    let head = 8 + 8 * c.links.result in let len = c.len.result - head in let own : length bytes ≡ len = omega (arith, length-drop (8 * links_of x.kind) x.cell.rest, links, long) in
    let was = get_or segments to [] in let less : to < length segments = omega (arith, c.requires.segment, counted segments all c.self.view_is) in
    let fits = fits-behind was (get_or all to []) x.kind bytes g.row.S (long-at g.row.S segments all to c.self.invariant c.self.view_is) f.holds in
    let counts : links_of x.kind ≡ links_of c.object-kind.result = ap links_of same in
    (omega arith, (less, (omega (arith, fits, own, counts), (c.self.invariant.each 0).small)))

pub overflow_add-offset : goal.overflow_add-offset
overflow_add-offset g c =
    let segments = c.self.inside.segments in let all = c.args.self.now in let from = c.args.from in let to = c.args.to in let offset = c.args.offset in
    let f = found g.row.S segments all from offset (λ (b : Kind × List ℕ). extent (get_or c.args.self.now c.args.to []) + size_of (fresh b.0 b.1) ≤ g.row.S) c.self.invariant c.self.view_is c.requires.fits in let x = f.object in let bytes = drop (8 * links_of x.kind) x.cell.rest in
    let same : x.kind ≡ c.object-kind.result = from_some (body_at (get_or all from []) offset) (x.kind, bytes) (λ (b : Kind × List ℕ). b.0 ≡ c.object-kind.result) x.body c.object-kind.ensures in
    let links : links_of x.kind ≡ c.links.result = ap links_of same ∙ sym c.links.ensures in
    let long = from_some (cell_at (get_or all from []) offset) x.cell (λ (d : Cell). 8 + length d.rest ≡ c.len.result) x.here c.len.ensures.cell in
    let head = 8 + 8 * c.links.result in let len = c.len.result - head in let own : length bytes ≡ len = omega (arith, length-drop (8 * links_of x.kind) x.cell.rest, links, long) in
    omega (arith, links, long, f.linked, f.seen.fits, f.seen.most)

pub copy_into-requires : goal.copy_into-requires
copy_into-requires g c =
    let segments = c.self.inside.segments in let all = c.args.self.now in let from = c.args.from in let to = c.args.to in let offset = c.args.offset in
    let f = found g.row.S segments all from offset (λ (b : Kind × List ℕ). extent (get_or c.args.self.now c.args.to []) + size_of (fresh b.0 b.1) ≤ g.row.S) c.self.invariant c.self.view_is c.requires.fits in let x = f.object in let bytes = drop (8 * links_of x.kind) x.cell.rest in
    let same : x.kind ≡ c.object-kind.result = from_some (body_at (get_or all from []) offset) (x.kind, bytes) (λ (b : Kind × List ℕ). b.0 ≡ c.object-kind.result) x.body c.object-kind.ensures in
    let links : links_of x.kind ≡ c.links.result = ap links_of same ∙ sym c.links.ensures in
    let long = from_some (cell_at (get_or all from []) offset) x.cell (λ (d : Cell). 8 + length d.rest ≡ c.len.result) x.here c.len.ensures.cell in
    let head = 8 + 8 * c.links.result in let len = c.len.result - head in let own : length bytes ≡ len = omega (arith, length-drop (8 * links_of x.kind) x.cell.rest, links, long) in
    let was = get_or segments to [] in let less : to < length segments = omega (arith, c.requires.segment, counted segments all c.self.view_is) in
    let fits = fits-behind was (get_or all to []) x.kind bytes g.row.S (long-at g.row.S segments all to c.self.invariant c.self.view_is) f.holds in
    let kind = c.object-kind.result in let first = c.begin-at.new.segments in let one = grown segments first to (head_of kind len) less c.begin-at.ensures.after in let top = length-head kind len in
    let apart : get_or first from [] ≡ get_or segments from [] = ap (λ l. get_or l from []) c.begin-at.ensures.after ∙ get_or-set_other segments to from (was ++ head_of kind len) [] c.requires.differ in
    let counts : links_of x.kind ≡ links_of kind = ap links_of same in
    let there : from < length first = omega (arith, f.less, ap length c.begin-at.ensures.after, length-set segments to (was ++ head_of kind len)) in
    (omega arith, (there, (one.0, (c.requires.differ, (omega (arith, ap length apart, links, long, f.linked, f.seen.fits), omega (arith, fits, own, counts, one.1, top))))))

pub pad-requires : goal.pad-requires
pad-requires g c =
    let segments = c.self.inside.segments in let all = c.args.self.now in let from = c.args.from in let to = c.args.to in let offset = c.args.offset in
    let f = found g.row.S segments all from offset (λ (b : Kind × List ℕ). extent (get_or c.args.self.now c.args.to []) + size_of (fresh b.0 b.1) ≤ g.row.S) c.self.invariant c.self.view_is c.requires.fits in let x = f.object in let bytes = drop (8 * links_of x.kind) x.cell.rest in
    let same : x.kind ≡ c.object-kind.result = from_some (body_at (get_or all from []) offset) (x.kind, bytes) (λ (b : Kind × List ℕ). b.0 ≡ c.object-kind.result) x.body c.object-kind.ensures in
    let links : links_of x.kind ≡ c.links.result = ap links_of same ∙ sym c.links.ensures in
    let long = from_some (cell_at (get_or all from []) offset) x.cell (λ (d : Cell). 8 + length d.rest ≡ c.len.result) x.here c.len.ensures.cell in
    let head = 8 + 8 * c.links.result in let len = c.len.result - head in let own : length bytes ≡ len = omega (arith, length-drop (8 * links_of x.kind) x.cell.rest, links, long) in
    let was = get_or segments to [] in let less : to < length segments = omega (arith, c.requires.segment, counted segments all c.self.view_is) in
    let fits = fits-behind was (get_or all to []) x.kind bytes g.row.S (long-at g.row.S segments all to c.self.invariant c.self.view_is) f.holds in
    let kind = c.object-kind.result in let first = c.begin-at.new.segments in let one = grown segments first to (head_of kind len) less c.begin-at.ensures.after in let top = length-head kind len in
    let apart : get_or first from [] ≡ get_or segments from [] = ap (λ l. get_or l from []) c.begin-at.ensures.after ∙ get_or-set_other segments to from (was ++ head_of kind len) [] c.requires.differ in
    let second = c.copy_into.new.self in
    let moved : part (offset + head) len (get_or first from []) ≡ bytes =
    ap (part (offset + head) len) apart ∙ read-own (get_or segments from []) offset x.cell f.seen.there (8 * links_of x.kind) (8 * c.links.result) c.len.result (ap (λ k. 8 * k) links) long f.linked in
    let second_is : second ≡ set first to (get_or first to [] ++ bytes) = c.copy_into.ensures.after ∙ ap (λ l. set first to (get_or first to [] ++ l)) moved in
    let two = grown first second to bytes one.0 second_is in let size : head + len ≡ 8 + 8 * links_of x.kind + length bytes = omega (arith, links, own) in
    let counts : links_of x.kind ≡ links_of kind = ap links_of same in let small = (c.self.invariant.each 0).small in
    (omega arith, (two.0, (omega (arith, fits, own, counts, one.1, top, two.1, size, ap up8 size), omega (arith, fits, size, small))))

pub invariant_of-self : goal.invariant_of-self
invariant_of-self g c =
    let segments = c.self.inside.segments in let all = c.args.self.now in let from = c.args.from in let to = c.args.to in let offset = c.args.offset in
    let f = found g.row.S segments all from offset (λ (b : Kind × List ℕ). extent (get_or c.args.self.now c.args.to []) + size_of (fresh b.0 b.1) ≤ g.row.S) c.self.invariant c.self.view_is c.requires.fits in let x = f.object in let bytes = drop (8 * links_of x.kind) x.cell.rest in
    let same : x.kind ≡ c.object-kind.result = from_some (body_at (get_or all from []) offset) (x.kind, bytes) (λ (b : Kind × List ℕ). b.0 ≡ c.object-kind.result) x.body c.object-kind.ensures in
    let links : links_of x.kind ≡ c.links.result = ap links_of same ∙ sym c.links.ensures in
    let long = from_some (cell_at (get_or all from []) offset) x.cell (λ (d : Cell). 8 + length d.rest ≡ c.len.result) x.here c.len.ensures.cell in
    let head = 8 + 8 * c.links.result in let len = c.len.result - head in let own : length bytes ≡ len = omega (arith, length-drop (8 * links_of x.kind) x.cell.rest, links, long) in
    let was = get_or segments to [] in let less : to < length segments = omega (arith, c.requires.segment, counted segments all c.self.view_is) in
    let fits = fits-behind was (get_or all to []) x.kind bytes g.row.S (long-at g.row.S segments all to c.self.invariant c.self.view_is) f.holds in
    let kind = c.object-kind.result in let first = c.begin-at.new.segments in let one = grown segments first to (head_of kind len) less c.begin-at.ensures.after in let top = length-head kind len in
    let apart : get_or first from [] ≡ get_or segments from [] = ap (λ l. get_or l from []) c.begin-at.ensures.after ∙ get_or-set_other segments to from (was ++ head_of kind len) [] c.requires.differ in
    let second = c.copy_into.new.self in
    let moved : part (offset + head) len (get_or first from []) ≡ bytes =
    ap (part (offset + head) len) apart ∙ read-own (get_or segments from []) offset x.cell f.seen.there (8 * links_of x.kind) (8 * c.links.result) c.len.result (ap (λ k. 8 * k) links) long f.linked in
    let second_is : second ≡ set first to (get_or first to [] ++ bytes) = c.copy_into.ensures.after ∙ ap (λ l. set first to (get_or first to [] ++ l)) moved in
    let two = grown first second to bytes one.0 second_is in let size : head + len ≡ 8 + 8 * links_of x.kind + length bytes = omega (arith, links, own) in
    let first_is : first ≡ set segments to (was ++ head_of x.kind (length bytes)) =
    c.begin-at.ensures.after ∙ ap (λ k. set segments to (was ++ head_of k len)) (sym same) ∙ ap (λ k. set segments to (was ++ head_of x.kind k)) (sym own) in
    let r = whole-cell g.row.S segments first second c.pad.new.segments all to x.kind bytes (head + len) c.self.invariant c.self.view_is less f.holds size first_is second_is c.pad.ensures in
    r.0

pub returns-clause-offset : goal.returns-clause-offset
returns-clause-offset g c = c.begin-at.ensures.offset ∙ long-at g.row.S c.self.inside.segments c.args.self.now c.args.to c.self.invariant c.self.view_is

pub returns-clause-after : goal.returns-clause-after
returns-clause-after g c =
    let segments = c.self.inside.segments in let all = c.args.self.now in let from = c.args.from in let to = c.args.to in let offset = c.args.offset in
    let f = found g.row.S segments all from offset (λ (b : Kind × List ℕ). extent (get_or c.args.self.now c.args.to []) + size_of (fresh b.0 b.1) ≤ g.row.S) c.self.invariant c.self.view_is c.requires.fits in let x = f.object in let bytes = drop (8 * links_of x.kind) x.cell.rest in
    let same : x.kind ≡ c.object-kind.result = from_some (body_at (get_or all from []) offset) (x.kind, bytes) (λ (b : Kind × List ℕ). b.0 ≡ c.object-kind.result) x.body c.object-kind.ensures in
    let links : links_of x.kind ≡ c.links.result = ap links_of same ∙ sym c.links.ensures in
    let long = from_some (cell_at (get_or all from []) offset) x.cell (λ (d : Cell). 8 + length d.rest ≡ c.len.result) x.here c.len.ensures.cell in
    let head = 8 + 8 * c.links.result in let len = c.len.result - head in let own : length bytes ≡ len = omega (arith, length-drop (8 * links_of x.kind) x.cell.rest, links, long) in
    let was = get_or segments to [] in let less : to < length segments = omega (arith, c.requires.segment, counted segments all c.self.view_is) in
    let fits = fits-behind was (get_or all to []) x.kind bytes g.row.S (long-at g.row.S segments all to c.self.invariant c.self.view_is) f.holds in
    let kind = c.object-kind.result in let first = c.begin-at.new.segments in let one = grown segments first to (head_of kind len) less c.begin-at.ensures.after in let top = length-head kind len in
    let apart : get_or first from [] ≡ get_or segments from [] = ap (λ l. get_or l from []) c.begin-at.ensures.after ∙ get_or-set_other segments to from (was ++ head_of kind len) [] c.requires.differ in
    let second = c.copy_into.new.self in
    let moved : part (offset + head) len (get_or first from []) ≡ bytes =
    ap (part (offset + head) len) apart ∙ read-own (get_or segments from []) offset x.cell f.seen.there (8 * links_of x.kind) (8 * c.links.result) c.len.result (ap (λ k. 8 * k) links) long f.linked in
    let second_is : second ≡ set first to (get_or first to [] ++ bytes) = c.copy_into.ensures.after ∙ ap (λ l. set first to (get_or first to [] ++ l)) moved in
    let two = grown first second to bytes one.0 second_is in let size : head + len ≡ 8 + 8 * links_of x.kind + length bytes = omega (arith, links, own) in
    let first_is : first ≡ set segments to (was ++ head_of x.kind (length bytes)) =
    c.begin-at.ensures.after ∙ ap (λ k. set segments to (was ++ head_of k len)) (sym same) ∙ ap (λ k. set segments to (was ++ head_of x.kind k)) (sym own) in
    let r = whole-cell g.row.S segments first second c.pad.new.segments all to x.kind bytes (head + len) c.self.invariant c.self.view_is less f.holds size first_is second_is c.pad.ensures in
    and_some (body_at (get_or all from []) offset) (x.kind, bytes) (λ (b : Kind × List ℕ). map cells_in c.pad.new.segments ≡ set all to (get_or all to [] ++ fresh b.0 b.1 ∷ [])) x.body r.1
