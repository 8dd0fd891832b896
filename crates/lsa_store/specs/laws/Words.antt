-- The numbers in links and the bytes behind them, after each change of a cell.
use Rattle.std.proofs.Common.{◌≡◌, ◌≢◌, ℕ, ◌+◌, ◌*◌, ◌^◌, ◌<◌, ◌≤◌, inl, inr, List, length, drop, replicate, cond, Option, Some, None, refl, sym, ap, subst, ◌∙◌, arith, length-append, length-drop}
use Rattle.std.specs.Prelude.{IsSome, IsSomeAnd}
use Rattle.std.specs.Option.{option_map, option_and_then, option_map_or}
use Rattle.std.proofs.lemmas.Bool.{lt-ltb, le-ltb, cases_lt}
use Rattle.std.proofs.lemmas.List.{length-replicate}
use Rattle.lsa_kinds.specs.declared.kind.Kind.{Kind}
use Rattle.lsa_kinds.specs.Kinds.{links_of, up8}
use Rattle.lsa_yard.specs.Cells.{Cell, size_of, links_size, body_of, link_in, fresh, with_link, with_bytes, gap_of}
use Rattle.lsa_yard.specs.Spelled.{IsProper}
use Rattle.lsa_yard.specs.laws.Objects.{body-linked, link-here, link-others, link-written, link-fresh}
use Rattle.lsa_store.specs.declared.place.Ref.{Ref}
use Rattle.lsa_store.specs.Objects.{cell_in, body_in, word_of, word_in, link_count, rounded_size}

-- ---- by the cell that begins at a place

pub word-there : (cells : List (List Cell)) (r : Ref) (field : ℕ) (c : Cell) → cell_in cells r ≡ Some c → word_in cells r field ≡ word_of field c
word-there cells r field c e = ap (λ o. option_map_or (word_of field) o 0) e

pub word-none : (cells : List (List Cell)) (r : Ref) (field : ℕ) → cell_in cells r ≡ None → word_in cells r field ≡ 0
word-none cells r field e = ap (λ o. option_map_or (word_of field) o 0) e

pub word-same : (old new : List (List Cell)) (r : Ref) (field : ℕ) → cell_in new r ≡ cell_in old r → word_in new r field ≡ word_in old r field
word-same old new r field e = ap (λ o. option_map_or (word_of field) o 0) e

pub body-there : (cells : List (List Cell)) (r : Ref) (c : Cell) → cell_in cells r ≡ Some c → body_in cells r ≡ body_of c
body-there cells r c e = ap (option_and_then body_of) e

pub body-same : (old new : List (List Cell)) (r : Ref) → cell_in new r ≡ cell_in old r → body_in new r ≡ body_in old r
body-same old new r e = ap (option_and_then body_of) e

-- an object that begins at a place
pub record IsObjectIn (cells : List (List Cell)) (r : Ref) : Type 0 where
  pub cell : Cell
  pub kind : Kind
  pub here : cell_in cells r ≡ Some cell
  pub is : cell.kind ≡ Some kind
  pub own : body_of cell ≡ Some (kind, drop (8 * links_of kind) cell.rest)
  pub body : body_in cells r ≡ Some (kind, drop (8 * links_of kind) cell.rest)

pub object : (cells : List (List Cell)) (r : Ref) → IsSome (body_in cells r) → IsObjectIn cells r
object cells r some = at (cell_in cells r) refl some
  where
    of : (c : Cell) (k : Option Kind) → cell_in cells r ≡ Some c → c.kind ≡ k → IsSome (body_of c) → IsObjectIn cells r
    of c None here e some = let none : body_of c ≡ None = ap (option_map (λ (kind : Kind). (kind, drop (8 * links_of kind) c.rest))) e in cc
    of c (Some kind) here e some =
        let own : body_of c ≡ Some (kind, drop (8 * links_of kind) c.rest) = ap (option_map (λ (kind : Kind). (kind, drop (8 * links_of kind) c.rest))) e in
        record { cell = c; kind = kind; here = here; is = e; own = own; body = ap (option_and_then body_of) here ∙ own }

    at : (o : Option Cell) → cell_in cells r ≡ o → IsSome (option_and_then body_of o) → IsObjectIn cells r
    at None e some = cc
    at (Some c) e some = of c c.kind e refl some

-- ---- one cell

pub word-linked : (field : ℕ) (c : Cell) → field < link_count c.kind → word_of field c ≡ link_in field c
word-linked field c lt = ap (λ b. cond b (link_in field c) 0) (lt-ltb field (link_count c.kind) lt)

pub word-beyond : (field : ℕ) (c : Cell) → link_count c.kind ≤ field → word_of field c ≡ 0
word-beyond field c le = ap (λ b. cond b (link_in field c) 0) (le-ltb field (link_count c.kind) le)

-- where one link is as it was, the other cell of the same kind has it too
word-kept : (field : ℕ) (c d : Cell) → d.kind ≡ c.kind → (field < link_count c.kind → link_in field d ≡ link_in field c) → word_of field d ≡ word_of field c
word-kept field c d kind same = elim (cases_lt field (link_count c.kind)) [
  | inl lt ↦ word-linked field d (omega (arith, lt, ap link_count kind)) ∙ same lt ∙ sym (word-linked field c lt)
  | inr le ↦ word-beyond field d (omega (arith, le, ap link_count kind)) ∙ sym (word-beyond field c le)
]

pub word-gap : (field : ℕ) (c : Cell) → word_of field (gap_of c) ≡ 0
word-gap field c = word-beyond field (gap_of c) (omega arith)

pub word-fresh : (kind : Kind) (bytes : List ℕ) (field : ℕ) → word_of field (fresh kind bytes) ≡ 0
word-fresh kind bytes field = elim (cases_lt field (links_of kind)) [
  | inl lt ↦ word-linked field (fresh kind bytes) lt ∙ link-fresh kind bytes field lt
  | inr le ↦ word-beyond field (fresh kind bytes) le
]

linked-and : (c : Cell) (kind : Kind) (field : ℕ) → c.kind ≡ Some kind → field < link_count c.kind → IsSomeAnd (body_of c) (λ b. field < links_of b.0)
linked-and c kind field e lt =
    let own : body_of c ≡ Some (kind, drop (8 * links_of kind) c.rest) = ap (option_map (λ (kind : Kind). (kind, drop (8 * links_of kind) c.rest))) e in
    let less : field < links_of kind = omega (arith, lt, ap link_count e) in
    subst (λ o. IsSomeAnd o (λ (b : Kind × List ℕ). field < links_of b.0)) (sym own) less

module _ (c : Cell) (kind : Kind) (is : c.kind ≡ Some kind) (proper : IsProper c) where
  -- a link that is set
  pub word-set : (field value : ℕ) → field < links_of kind → value < 2 ^ 64 → word_of field (with_link field value c) ≡ value
  word-set field value lt small =
      let less : field < link_count c.kind = omega (arith, lt, ap link_count is) in
      word-linked field (with_link field value c) less ∙ link-here c field value proper (linked-and c kind field is less) small

  pub word-set-others : (field other value : ℕ) → field < links_of kind → other ≢ field → word_of other (with_link field value c) ≡ word_of other c
  word-set-others field other value lt ne =
      word-kept other c (with_link field value c) refl
      (λ _. link-others c field other value proper (linked-and c kind field is (omega (arith, lt, ap link_count is))) ne)

  pub body-set : (field value : ℕ) → field < links_of kind → body_of (with_link field value c) ≡ body_of c
  body-set field value lt = body-linked c field value proper (linked-and c kind field is (omega (arith, lt, ap link_count is)))

  -- how many bytes an object takes, by its kind and its own bytes
  pub object-size : size_of c ≡ rounded_size kind (length (drop (8 * links_of kind) c.rest))
  object-size =
      let linked : 8 * links_of kind ≤ length c.rest = omega (arith, proper.linked, ap links_size is) in
      ap up8 (omega (arith, linked, length-drop (8 * links_of kind) c.rest))

  -- bytes that are written over an object's own
  pub word-written : (from field : ℕ) (bytes : List ℕ) → from + length bytes ≤ length (drop (8 * links_of kind) c.rest) → word_of field (with_bytes from bytes c) ≡ word_of field c
  word-written from field bytes fits =
      let own : body_of c ≡ Some (kind, drop (8 * links_of kind) c.rest) = ap (option_map (λ (kind : Kind). (kind, drop (8 * links_of kind) c.rest))) is in
      word-kept field c (with_bytes from bytes c) refl (λ lt.
      link-written c from field bytes proper
      (subst (λ o. IsSomeAnd o (λ (b : Kind × List ℕ). (from + length bytes ≤ length b.1) × (field < links_of b.0))) (sym own) (fits, omega (arith, lt, ap link_count is))))

pub fresh-size : (kind : Kind) (bytes : List ℕ) → size_of (fresh kind bytes) ≡ rounded_size kind (length bytes)
fresh-size kind bytes =
    let links : List ℕ = replicate (8 * links_of kind) 0 in ap up8 (omega (arith, length-append links bytes, length-replicate {A = ℕ} (8 * links_of kind) 0))
