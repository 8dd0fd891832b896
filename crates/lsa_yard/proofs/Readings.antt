-- What the bytes of a yard say of its cells.
use Rattle.std.proofs.Common.{◌≡◌, ℕ, ◌+◌, ◌-◌, ◌*◌, ◌^◌, ◌≤◌, ◌⊎◌, inl, inr, false, List, [], ◌∷◌, ◌++◌, length, take, drop, replicate, Option, Some, None, refl, sym, ap, subst, ◌∙◌, arith, length-append, length-take, length-drop}
use Rattle.std.specs.Prelude.{All, IsSome, IsSomeAnd, is_some, MatchOption}
use Rattle.std.specs.Option.{option_map, option_and_then}
use Rattle.std.proofs.lemmas.List.{append_assoc, append-nil, length-replicate, take_all, take_at, take_rest}
use Rattle.std.proofs.lemmas.List.Elements.{All-append, All-cons, All-head, All-tail, All-nil}
use Rattle.lsa_kinds.specs.declared.kind.Kind.{Kind}
use Rattle.lsa_kinds.specs.Kinds.{kind_code, links_of, up8}
use Rattle.lsa_kinds.specs.Fields.{number, number_at}
use Rattle.lsa_segment.specs.Bytes.{part, overwritten}
use Rattle.lsa_yard.specs.Cells.{Cell, size_of, extent, cell_at, links_size, body_of, body_at, link_in, fresh, IsReplaced}
use Rattle.lsa_yard.specs.Spelled.{mark_of, kind_numbered, size_field, spell, spells, cells_in, IsProper, IsSpelled}
use Rattle.lsa_yard.specs.calls.Spelled.{head_of}
use Rattle.lsa_yard.specs.laws.Reading.{size-least, kind-mark, length-size_field, number-size_field, length-spell, length-spells, spells-append, extent-append, spelled_by}
use Rattle.lsa_yard.specs.laws.Changes.{split, at-within}
use Rattle.lsa_yard.specs.laws.Middles.{part-middle, overwritten-middle}

-- ---- options

pub some-cell : (o : Option Cell) → IsSome o → (c : Cell) × (o ≡ Some c)
some-cell None is = cc
some-cell (Some c) is = (c, refl)

pub and_some : {X : Type 0} (o : Option X) (x : X) (P : X → Type 0) → o ≡ Some x → P x → IsSomeAnd o P
and_some o x P e p = subst (λ q. IsSomeAnd q P) (sym e) p

pub from_some : {X : Type 0} (o : Option X) (x : X) (P : X → Type 0) → o ≡ Some x → IsSomeAnd o P → P x
from_some o x P e p = subst (λ q. IsSomeAnd q P) e p

pub cell-of : (o : Option Cell) (P : Cell → Type 0) → IsSomeAnd o P → (c : Cell) × (o ≡ Some c) × P c
cell-of None P p = absurd p
cell-of (Some c) P p = (c, refl, p)

pub none-there : (o : Option Cell) → ((c : Cell) → o ≡ Some c → ⊥) → is_some o ≡ false
none-there None never = refl
none-there (Some c) never = absurd (never c refl)

-- a walk begins at a cell, or there is none
pub first-stands : (cells : List Cell) → (0 ≡ extent cells) ⊎ IsSome (cell_at cells 0)
first-stands [] = inl refl
first-stands (c ∷ cells) = inr refl

-- an object that begins at an offset
pub record IsObject (cells : List Cell) (offset : ℕ) : Type 0 where
  pub cell : Cell
  pub kind : Kind
  pub here : cell_at cells offset ≡ Some cell
  pub is : cell.kind ≡ Some kind
  pub body : body_at cells offset ≡ Some (kind, drop (8 * links_of kind) cell.rest)

object_in : (cells : List Cell) (offset : ℕ) (c : Cell) (k : Option Kind) → cell_at cells offset ≡ Some c → c.kind ≡ k → IsSome (body_at cells offset) → IsObject cells offset
object_in cells offset c None here e some =
    let none : body_at cells offset ≡ None = ap (option_and_then body_of) here ∙ ap (option_map (λ (kind : Kind). (kind, drop (8 * links_of kind) c.rest))) e in
    let bad = ap is_some none in cc
object_in cells offset c (Some kind) here e some = record {
  cell = c;
  kind = kind;
  here = here;
  is = e;
  body = ap (option_and_then body_of) here ∙ ap (option_map (λ (kind : Kind). (kind, drop (8 * links_of kind) c.rest))) e;
}

object_at : (cells : List Cell) (offset : ℕ) (o : Option Cell) → cell_at cells offset ≡ o → IsSome (body_at cells offset) → IsObject cells offset
object_at cells offset None e some =
    let none : body_at cells offset ≡ None = ap (option_and_then body_of) e in
    let bad = ap is_some none in cc
object_at cells offset (Some c) e some = object_in cells offset c c.kind e refl some

pub object : (cells : List Cell) (offset : ℕ) → IsSome (body_at cells offset) → IsObject cells offset
object cells offset some = object_at cells offset (cell_at cells offset) refl some

some_and : {X : Type 0} (o : Option X) (P : X → Type 0) → IsSomeAnd o P → IsSome o
some_and None P p = absurd p
some_and (Some x) P p = refl

-- an object of whose body something holds
pub object-of : (cells : List Cell) (offset : ℕ) (P : Kind × List ℕ → Type 0) → IsSomeAnd (body_at cells offset) P → (x : IsObject cells offset) × P (x.kind, drop (8 * links_of x.kind) x.cell.rest)
object-of cells offset P p =
    let x = object cells offset (some_and (body_at cells offset) P p) in (x, from_some (body_at cells offset) (x.kind, drop (8 * links_of x.kind) x.cell.rest) P x.body p)

-- ---- one cell's bytes

abbrev header_of : Cell → List ℕ
header_of c = mark_of c.kind ∷ 0 ∷ 0 ∷ 0 ∷ size_field (8 + length c.rest)

abbrev tail_of : Cell → List ℕ
tail_of c = replicate (size_of c - (8 + length c.rest)) 0

-- a cell that stands in bytes: what is before it, its own bytes, and what is behind it
pub record IsThere (bytes : List ℕ) (offset : ℕ) (c : Cell) : Type 0 where
  pub before : List Cell
  pub behind : List Cell
  pub cells : cells_in bytes ≡ before ++ c ∷ behind
  pub here : extent before ≡ offset
  pub is : bytes ≡ spells before ++ (spell c ++ spells behind)
  pub at : length (spells before) ≡ offset
  pub proper : IsProper c
  pub fits : offset + size_of c ≤ length bytes

proper-middle : (before : List Cell) (c : Cell) (behind : List Cell) → All IsProper (before ++ c ∷ behind) → All IsProper before × IsProper c × All IsProper behind
proper-middle [] c behind all = (All-nil IsProper, All-head IsProper c behind all, All-tail IsProper c behind all)
proper-middle (d ∷ before) c behind all =
    let rest = proper-middle before c behind (All-tail IsProper d (before ++ c ∷ behind) all) in
    (All-cons IsProper d before (All-head IsProper d (before ++ c ∷ behind) all) rest.0, rest.1, rest.2)

pub there : (size : ℕ) (bytes : List ℕ) (offset : ℕ) (c : Cell) → IsSpelled size bytes → cell_at (cells_in bytes) offset ≡ Some c → IsThere bytes offset c
there size bytes offset c w e =
    let s = split (cells_in bytes) offset c e in record {
      before = s.before;
      behind = s.behind;
      cells = s.is;
      here = s.here;
      is = w.whole ∙ ap spells s.is ∙ spells-append s.before (c ∷ s.behind);
      at = length-spells s.before ∙ s.here;
      proper = (proper-middle s.before c s.behind (subst (All IsProper) s.is w.proper)).1;
      fits = omega (arith, ap length w.whole, length-spells (cells_in bytes), at-within (cells_in bytes) offset c e);
    }

-- ---- reading

length-head : (c : Cell) → length (header_of c) ≡ 8
length-head c = omega (arith, length-size_field (8 + length c.rest))

read-part : (bytes : List ℕ) (offset : ℕ) (c : Cell) → IsThere bytes offset c → (k n : ℕ) → k + n ≤ size_of c → part (offset + k) n bytes ≡ part k n (spell c)
read-part bytes offset c t k n inside =
    ap (part (offset + k) n) t.is ∙ part-middle (spells t.before) (spell c) (spells t.behind) offset k n t.at (omega (arith, length-spell c))

pub read-mark : (bytes : List ℕ) (offset : ℕ) (c : Cell) → IsThere bytes offset c → part offset 1 bytes ≡ mark_of c.kind ∷ []
read-mark bytes offset c t =
    let at : offset ≡ offset + 0 = omega arith in ap (λ k. part k 1 bytes) at ∙ read-part bytes offset c t 0 1 (omega (arith, size-least c))

pub read-size : (bytes : List ℕ) (offset : ℕ) (c : Cell) → IsThere bytes offset c → number_at 4 4 (part offset 8 bytes) ≡ 8 + length c.rest
read-size bytes offset c t =
    let at : offset ≡ offset + 0 = omega arith in let len = 8 + length c.rest in let field = size_field len in let more = c.rest ++ tail_of c in
    let header = ap (λ k. part k 8 bytes) at ∙ read-part bytes offset c t 0 8 (omega (arith, size-least c)) in
    let first : take 4 (field ++ more) ≡ field = take_at field more 4 (length-size_field len) in
    ap (number_at 4 4) header ∙ ap (λ l. number (take 4 l)) first ∙ ap number (take_all 4 field (omega (arith, length-size_field len))) ∙ number-size_field len t.proper.short

pub read-rest : (bytes : List ℕ) (offset : ℕ) (c : Cell) → IsThere bytes offset c → (k n : ℕ) → k + n ≤ length c.rest → part (offset + (8 + k)) n bytes ≡ part k n c.rest
read-rest bytes offset c t k n inside =
    read-part bytes offset c t (8 + k) n (omega (arith, size-least c)) ∙ part-middle (header_of c) c.rest (tail_of c) 8 k n (length-head c) inside

-- ---- writing

replace : (size : ℕ) (bytes bytes' : List ℕ) (offset : ℕ) (c c' : Cell) → IsSpelled size bytes → (t : IsThere bytes offset c) → size_of c' ≡ size_of c → IsProper c'
    → bytes' ≡ spells t.before ++ (spell c' ++ spells t.behind) → IsSpelled size bytes' × IsReplaced (cells_in bytes) (cells_in bytes') offset c c'
replace size bytes bytes' offset c c' w t same proper e =
    let cells' = t.before ++ c' ∷ t.behind in let p = proper-middle t.before c t.behind (subst (All IsProper) t.cells w.proper) in
    let all : All IsProper cells' = All-append IsProper t.before (c' ∷ t.behind) p.0 (All-cons IsProper c' t.behind proper p.2) in
    let long : extent cells' ≤ size = omega (
      arith,
      ap length w.whole,
      length-spells (cells_in bytes),
      ap extent t.cells,
      extent-append t.before (c ∷ t.behind),
      extent-append t.before (c' ∷ t.behind),
      w.within,
    ) in
    let s = spelled_by size bytes' cells' (e ∙ sym (spells-append t.before (c' ∷ t.behind))) all long w.small in
    (s.0, record { before = t.before; behind = t.behind; old_is = t.cells; new_is = s.1; here = t.here; size = same })

length-over : (old new : List ℕ) (k : ℕ) → k + length new ≤ length old → length (overwritten old k new) ≡ length old
length-over old new k inside =
    omega (arith, length-append (take k old) (new ++ drop (k + length new) old), length-append new (drop (k + length new) old), length-take k old, length-drop (k + length new) old)

pub write-rest : (size : ℕ) (bytes : List ℕ) (offset : ℕ) (c : Cell) (k : ℕ) (new : List ℕ) → IsSpelled size bytes → cell_at (cells_in bytes) offset ≡ Some c → k + length new ≤ length c.rest
    → IsSpelled size (overwritten bytes (offset + (8 + k)) new)
    × IsReplaced (cells_in bytes) (cells_in (overwritten bytes (offset + (8 + k)) new)) offset c (record c { rest = overwritten c.rest k new })
write-rest size bytes offset c k new w at inside =
    let t = there size bytes offset c w at in let rest = overwritten c.rest k new in let c' : Cell = record c { rest = rest } in
    let long = length-over c.rest new k inside in
    let outer = ap (λ l. overwritten l (offset + (8 + k)) new) t.is ∙ overwritten-middle (spells t.before) (spell c) (spells t.behind) new offset (8 + k) t.at (omega (arith, length-spell c, size-least c)) in
    let inner : overwritten (spell c) (8 + k) new ≡ header_of c ++ (rest ++ tail_of c) = overwritten-middle (header_of c) c.rest (tail_of c) new 8 k (length-head c) inside in
    let spelling : header_of c ++ (rest ++ tail_of c) ≡ spell c' = ap (λ n. mark_of c.kind ∷ 0 ∷ 0 ∷ 0 ∷ (size_field (8 + n) ++ (rest ++ replicate (up8 (8 + n) - (8 + n)) 0))) (sym long) in
    let same : size_of c' ≡ size_of c = ap (λ n. up8 (8 + n)) long in
    let proper : IsProper c' = record { short = omega (arith, long, t.proper.short); linked = omega (arith, long, t.proper.linked) } in
    replace size bytes (overwritten bytes (offset + (8 + k)) new) offset c c' w t same proper (outer ∙ ap (λ l. spells t.before ++ (l ++ spells t.behind)) (inner ∙ spelling))

pub write-mark : (size : ℕ) (bytes : List ℕ) (offset : ℕ) (c : Cell) → IsSpelled size bytes → cell_at (cells_in bytes) offset ≡ Some c
    → IsSpelled size (overwritten bytes offset (0 ∷ [])) × IsReplaced (cells_in bytes) (cells_in (overwritten bytes offset (0 ∷ []))) offset c (record c { kind = None })
write-mark size bytes offset c w at =
    let t = there size bytes offset c w at in let c' : Cell = record c { kind = None } in let zero_at : offset ≡ offset + 0 = omega arith in
    let outer = ap (λ k. overwritten bytes k (0 ∷ [])) zero_at ∙ ap (λ l. overwritten l (offset + 0) (0 ∷ [])) t.is
    ∙ overwritten-middle (spells t.before) (spell c) (spells t.behind) (0 ∷ []) offset 0 t.at (omega (arith, length-spell c, size-least c)) in
    let proper : IsProper c' = record { short = t.proper.short; linked = omega arith } in
    replace size bytes (overwritten bytes offset (0 ∷ [])) offset c c' w t refl proper outer

-- ---- one cell more

pub push-cell : (size : ℕ) (bytes : List ℕ) (c : Cell) → IsSpelled size bytes → IsProper c → length bytes + size_of c ≤ size
    → IsSpelled size (bytes ++ spell c) × (cells_in (bytes ++ spell c) ≡ cells_in bytes ++ c ∷ [])
push-cell size bytes c w proper fits =
    let cells = cells_in bytes in
    let e : bytes ++ spell c ≡ spells (cells ++ c ∷ []) =
    ap (λ l. l ++ spell c) w.whole ∙ ap (λ l. spells cells ++ l) (sym (append-nil (spell c))) ∙ sym (spells-append cells (c ∷ [])) in
    let all = All-append IsProper cells (c ∷ []) w.proper (All-cons IsProper c [] proper (All-nil IsProper)) in
    let long : extent (cells ++ c ∷ []) ≤ size = omega (arith, extent-append cells (c ∷ []), ap length w.whole, length-spells cells) in
    spelled_by size (bytes ++ spell c) (cells ++ c ∷ []) e all long w.small

pub yard-long : (size : ℕ) (bytes : List ℕ) → IsSpelled size bytes → length bytes ≡ extent (cells_in bytes)
yard-long size bytes w = ap length w.whole ∙ length-spells (cells_in bytes)

pub none-stand : (size : ℕ) (bytes : List ℕ) → bytes ≡ [] → size ≤ 2 ^ 27 → IsSpelled size bytes × (cells_in bytes ≡ [])
none-stand size bytes e small = spelled_by size bytes [] e (All-nil IsProper) (omega arith) small

-- ---- what a call knows of the cell at its offset

pub record IsSeen (bytes : List ℕ) (cells : List Cell) (offset : ℕ) (c : Cell) : Type 0 where
  pub at : cell_at cells offset ≡ Some c
  pub at_bytes : cell_at (cells_in bytes) offset ≡ Some c
  pub there : IsThere bytes offset c
  pub fits : offset + (8 + length c.rest) ≤ length bytes
  pub most : length bytes ≤ 2 ^ 27

pub seen : (size : ℕ) (bytes : List ℕ) (cells : List Cell) (offset : ℕ) (c : Cell) → IsSpelled size bytes → cells_in bytes ≡ cells → cell_at cells offset ≡ Some c → IsSeen bytes cells offset c
seen size bytes cells offset c w e at =
    let at' : cell_at (cells_in bytes) offset ≡ Some c = ap (λ l. cell_at l offset) e ∙ at in let t = there size bytes offset c w at' in record {
      at = at;
      at_bytes = at';
      there = t;
      fits = omega (arith, t.fits, size-least c);
      most = omega (arith, w.within, w.small);
    }

pub seen-cell : (size : ℕ) (bytes : List ℕ) (cells : List Cell) (offset : ℕ) → IsSpelled size bytes → cells_in bytes ≡ cells → IsSome (cell_at cells offset) → (c : Cell) × IsSeen bytes cells offset c
seen-cell size bytes cells offset w e some = let x = some-cell (cell_at cells offset) some in (x.0, seen size bytes cells offset x.0 w e x.1)

-- the links of an object lie in the rest of its cell
pub linked-in : (bytes : List ℕ) (cells : List Cell) (offset : ℕ) (x : IsObject cells offset) → IsSeen bytes cells offset x.cell → 8 * links_of x.kind ≤ length x.cell.rest
linked-in bytes cells offset x s = omega (arith, ap links_size x.is, s.there.proper.linked)

-- the kind that a mark tells
pub kind-told : (kind told : Option Kind) (code : ℕ) → code ≡ mark_of kind → MatchOption told ((k : Kind) → ¬ (kind_code k ≡ code)) (λ k. kind_code k ≡ code) → kind ≡ told
kind-told None None code e m = refl
kind-told (Some k) None code e m = absurd (m k (sym e))
kind-told None (Some k) code e m = sym (kind-mark None) ∙ ap kind_numbered (sym e ∙ sym m) ∙ kind-mark (Some k)
kind-told (Some j) (Some k) code e m = sym (kind-mark (Some j)) ∙ ap kind_numbered (sym e ∙ sym m) ∙ kind-mark (Some k)

pub read-own : (bytes : List ℕ) (offset : ℕ) (c : Cell) → IsThere bytes offset c → (links head len : ℕ) → links ≡ head → 8 + length c.rest ≡ len → links ≤ length c.rest
    → part (offset + (8 + head)) (len - (8 + head)) bytes ≡ drop links c.rest
read-own bytes offset c t links head len e f inside =
    let left : len - (8 + head) ≡ length c.rest - links = omega arith in
    ap (λ k. part (offset + (8 + k)) (len - (8 + head)) bytes) (sym e) ∙ ap (λ n. part (offset + (8 + links)) n bytes) left
    ∙ read-rest bytes offset c t links (length c.rest - links) (omega arith) ∙ take_rest c.rest links

pub read-link : (bytes : List ℕ) (offset : ℕ) (c : Cell) → IsThere bytes offset c → (field : ℕ) → 8 * field + 8 ≤ length c.rest
    → number (part (offset + 8 + 8 * field) 8 bytes) ≡ link_in field c
read-link bytes offset c t field inside =
    let at : offset + 8 + 8 * field ≡ offset + (8 + 8 * field) = omega arith in
    ap (λ k. number (part k 8 bytes)) at ∙ ap number (read-rest bytes offset c t (8 * field) 8 inside)

pub written : (size : ℕ) (bytes bytes' : List ℕ) (cells : List Cell) (offset : ℕ) (c : Cell) (p k : ℕ) (new : List ℕ) → IsSpelled size bytes → cells_in bytes ≡ cells → cell_at cells offset ≡ Some c
    → p ≡ offset + (8 + k) → k + length new ≤ length c.rest → bytes' ≡ overwritten bytes p new
    → IsSpelled size bytes' × IsReplaced cells (cells_in bytes') offset c (record c { rest = overwritten c.rest k new })
written size bytes bytes' cells offset c p k new w e at place inside is =
    let s = seen size bytes cells offset c w e at in let r = write-rest size bytes offset c k new w s.at_bytes inside in
    let made : overwritten bytes (offset + (8 + k)) new ≡ bytes' = ap (λ q. overwritten bytes q new) (sym place) ∙ sym is in (
      subst (IsSpelled size) made r.0,
      subst (λ l. IsReplaced l (cells_in bytes') offset c (record c { rest = overwritten c.rest k new })) e
          (subst (λ l. IsReplaced (cells_in bytes) (cells_in l) offset c (record c { rest = overwritten c.rest k new })) made r.1),
    )

pub killed : (size : ℕ) (bytes bytes' : List ℕ) (cells : List Cell) (offset : ℕ) (c : Cell) → IsSpelled size bytes → cells_in bytes ≡ cells → cell_at cells offset ≡ Some c
    → bytes' ≡ overwritten bytes offset (0 ∷ []) → IsSpelled size bytes' × IsReplaced cells (cells_in bytes') offset c (record c { kind = None })
killed size bytes bytes' cells offset c w e at is =
    let s = seen size bytes cells offset c w e at in let r = write-mark size bytes offset c w s.at_bytes in (
      subst (IsSpelled size) (sym is) r.0,
      subst (λ l. IsReplaced l (cells_in bytes') offset c (record c { kind = None })) e (subst (λ l. IsReplaced (cells_in bytes) (cells_in l) offset c (record c { kind = None })) (sym is) r.1),
    )

-- ---- a fresh object's bytes

pub fresh-proper : (kind : Kind) (bytes : List ℕ) (size : ℕ) → size_of (fresh kind bytes) ≤ size → size ≤ 2 ^ 27 → IsProper (fresh kind bytes)
fresh-proper kind bytes size fits small =
    let links : List ℕ = replicate (8 * links_of kind) 0 in
    record {
      short = omega (arith, size-least (fresh kind bytes));
      linked = omega (arith, length-append links bytes, length-replicate {A = ℕ} (8 * links_of kind) 0);
    }

pub fresh-long : (kind : Kind) (bytes : List ℕ) → length (fresh kind bytes).rest ≡ 8 * links_of kind + length bytes
fresh-long kind bytes = let links : List ℕ = replicate (8 * links_of kind) 0 in omega (arith, length-append links bytes, length-replicate {A = ℕ} (8 * links_of kind) 0)

-- an object that fits behind the cells fits behind their bytes
pub fits-behind : (was : List ℕ) (cells : List Cell) (kind : Kind) (bytes : List ℕ) (size : ℕ) → length was ≡ extent cells → extent cells + size_of (fresh kind bytes) ≤ size
    → length was + up8 (8 + 8 * links_of kind + length bytes) ≤ size
fits-behind was cells kind bytes size long fits =
    let whole : 8 + length (fresh kind bytes).rest ≡ 8 + 8 * links_of kind + length bytes = omega (arith, fresh-long kind bytes) in
    omega (arith, ap up8 whole)

pub fresh-spelling : (kind : Kind) (bytes : List ℕ) (size : ℕ) → size ≡ 8 + 8 * links_of kind + length bytes
    → (head_of kind (length bytes) ++ bytes) ++ replicate (up8 size - size) 0 ≡ spell (fresh kind bytes)
fresh-spelling kind bytes size long =
    let links : List ℕ = replicate (8 * links_of kind) 0 in let pad : List ℕ = replicate (up8 size - size) 0 in let field = size_field (8 + 8 * links_of kind + length bytes) in
    let mark = λ (l : List ℕ). kind_code kind ∷ 0 ∷ 0 ∷ 0 ∷ l in
    let whole : 8 + 8 * links_of kind + length bytes ≡ 8 + length (links ++ bytes) = omega (arith, fresh-long kind bytes) in
    let sized : size ≡ 8 + length (links ++ bytes) = long ∙ whole in
    ap mark (ap (λ l. l ++ pad) (append_assoc field links bytes) ∙ append_assoc field (links ++ bytes) pad)
    ∙ ap (λ k. mark (size_field k ++ ((links ++ bytes) ++ pad))) whole
    ∙ ap (λ k. mark (size_field (8 + length (links ++ bytes)) ++ ((links ++ bytes) ++ replicate (up8 k - k) 0))) sized

pub pushed : (size : ℕ) (bytes bytes' : List ℕ) (cells : List Cell) (kind : Kind) (new : List ℕ) → IsSpelled size bytes → cells_in bytes ≡ cells → extent cells + size_of (fresh kind new) ≤ size
    → bytes' ≡ bytes ++ spell (fresh kind new) → IsSpelled size bytes' × (cells_in bytes' ≡ cells ++ fresh kind new ∷ [])
pushed size bytes bytes' cells kind new w e fits is =
    let long : length bytes + size_of (fresh kind new) ≤ size = omega (arith, yard-long size bytes w, ap extent e) in
    let r = push-cell size bytes (fresh kind new) w (fresh-proper kind new size (omega arith) w.small) long in
    (subst (IsSpelled size) (sym is) r.0, ap cells_in is ∙ r.1 ∙ ap (λ l. l ++ fresh kind new ∷ []) e)
