-- Laws of renaming: a name is given to each live object, and each live object has its name from one; a region is renamed to itself.
use Rattle.std.proofs.Common.{◌≡◌, ◌≢◌, ℕ, zero, suc, ◌+◌, ◌-◌, ◌*◌, ◌<◌, ◌≤◌, List, [], ◌∷◌, ◌++◌, length, get_or, map, drop, Option, Some, None, cond, inl, inr, refl, sym, ap, ◌∙◌, subst, ◌⊎◌, arith}
use Rattle.std.specs.Prelude.{is_some, IsSome, IsSomeAnd, Contains, AllPairs}
use Rattle.std.specs.Option.{option_map, option_and_then}
use Rattle.std.proofs.lemmas.Bool.{cases_lt}
use Rattle.std.proofs.lemmas.List.Kept.{AllPairs-cons}
use Rattle.std.proofs.lemmas.List.{get_or-map, length-map}
use Rattle.std.proofs.lemmas.List.Elements.{Contains-append_left, Contains-append_right, Contains-append_cases}
use Rattle.lsa_kinds.specs.declared.kind.Kind.{Kind}
use Rattle.lsa_kinds.specs.Kinds.{links_of}
use Rattle.lsa_store.specs.Cells.{Cell, size_of, cell_at, body_of, body_at}
use Rattle.lsa_store.specs.Reading.{size-least}
use Rattle.lsa_store.specs.Changes.{at-inside, at-behind}
use Rattle.lsa_store.specs.declared.place.Ref.{Ref}
use Rattle.lsa_store.specs.Objects.{body_in}
use Rattle.lsa_region.specs.declared.end.End.{End}
use Rattle.lsa_region.specs.declared.end.End.TheVariants.{Obj, Slot}
use Rattle.lsa_region.specs.Ends.{same_ref, named_as, end_as}
use Rattle.lsa_region.specs.Region.{View, body, link_of, IsEnd, IsWell, AreLive, Renamed}
use Rattle.lsa_region.specs.laws.Refs.{refs_decided, ref-itself, ref-false}

pub none : Ref × Ref
none = (record { segment = 0; offset = 0 }, record { segment = 0; offset = 0 })

get_or-default : (refs : List Ref) (j : ℕ) (d e : Ref) → j < length refs → get_or refs j d ≡ get_or refs j e
get_or-default [] j d e lt = absurd (omega arith)
get_or-default (r ∷ refs) zero d e lt = refl
get_or-default (r ∷ refs) (suc j) d e lt = get_or-default refs j d e (omega (arith, lt))

-- ---- one list of names

pub named-at : (names : List (Ref × Ref)) (j : ℕ) (d : Ref × Ref) → AllPairs ◌≢◌ (map (λ pair. pair.0) names) → j < length names → named_as names (get_or names j d).0 ≡ (get_or names j d).1
named-at [] j d once lt = absurd (omega arith)
named-at (pair ∷ names) zero d once lt = ap (λ t. cond t pair.1 (named_as names pair.0)) (ref-itself pair.0)
named-at (pair ∷ names) (suc j) d once lt = elim (refs_decided pair.0 (get_or names j d).0) [
  | inl w ↦ absurd (once 0 (suc j) pair.0 (omega arith) (omega (arith, lt, length-map names (λ (p : Ref × Ref). p.0))) (w ∙ sym (get_or-map (λ (p : Ref × Ref). p.0) names j d pair.0 (omega (arith, lt)))))
  | inr w ↦ ap (λ t. cond t pair.1 (named_as names (get_or names j d).0)) (ref-false pair.0 (get_or names j d).0 w) ∙ named-at names j d (λ a b e less within. once (suc a) (suc b) e (omega (arith, less)) (omega (arith, within))) (omega (arith, lt))
]

module _ (v w : View) (names : List (Ref × Ref)) (renamed : Renamed v w names) where
  -- where a live object stands in the list
  pub place : (r : Ref) → IsSome (body v r) → (j : ℕ) × (j < length names) × ((d : Ref × Ref) → (get_or names j d).0 ≡ r) × ((d : Ref × Ref) → (get_or names j d).1 ≡ named_as names r)
  place r live = let h = renamed.before.each r live in
      let lt : h.0 < length names = omega (arith, h.1, length-map names (λ (p : Ref × Ref). p.0)) in
      let is : (d : Ref × Ref) → (get_or names h.0 d).0 ≡ r = λ d. sym (get_or-map (λ (p : Ref × Ref). p.0) names h.0 d r lt) ∙ h.2 in
      (h.0, lt, is, λ d. sym (named-at names h.0 d renamed.before.once lt) ∙ ap (named_as names) (is d))

  pub goes : (r : Ref) → IsSome (body v r) → IsSome (body w (named_as names r))
  goes r live = subst IsSome (sym (renamed.bodies r live)) live

  -- what is live now came from what was live
  pub came : (q : Ref) → IsSome (body w q) → (r : Ref) × IsSome (body v r) × (named_as names r ≡ q)
  came q live = let h = renamed.after.each q live in
      let lt : h.0 < length names = omega (arith, h.1, length-map names (λ (p : Ref × Ref). p.1)) in (
        (get_or names h.0 none).0,
        renamed.before.live (get_or names h.0 none).0 (h.0, omega (arith, lt, length-map names (λ (p : Ref × Ref). p.0)), get_or-map (λ (p : Ref × Ref). p.0) names h.0 none (get_or names h.0 none).0 lt),
        named-at names h.0 none renamed.before.once lt ∙ sym (get_or-map (λ (p : Ref × Ref). p.1) names h.0 none q lt) ∙ h.2,
      )

  apart : (r q : Ref) (i j : ℕ) → i < j → j < length names → (get_or names i none).1 ≡ (get_or names j none).1 → r ≡ q
  apart r q i j less lt same = absurd (renamed.after.once i j r less (omega (arith, lt, length-map names (λ (p : Ref × Ref). p.1)))
      (get_or-map (λ (p : Ref × Ref). p.1) names i none r (omega (arith, less, lt)) ∙ same ∙ sym (get_or-map (λ (p : Ref × Ref). p.1) names j none r lt)))

  pub one-to-one : (r q : Ref) → IsSome (body v r) → IsSome (body v q) → named_as names r ≡ named_as names q → r ≡ q
  one-to-one r q live other same = let p = place r live in let o = place q other in
      let alike : (get_or names p.0 none).1 ≡ (get_or names o.0 none).1 = p.3 none ∙ same ∙ sym (o.3 none) in
      elim (order p.0 o.0) [
        | inl less ↦ apart r q p.0 o.0 less o.1 alike
        | inr (inl less) ↦ apart r q o.0 p.0 less p.1 (sym alike)
        | inr (inr is) ↦ sym (p.2 none) ∙ ap (λ n. (get_or names n none).0) is ∙ o.2 none
      ]
    where
      order : (i j : ℕ) → (i < j) ⊎ ((j < i) ⊎ (i ≡ j))
      order zero zero = inr (inr refl)
      order zero (suc j) = inl (omega arith)
      order (suc i) zero = inr (inl (omega arith))
      order (suc i) (suc j) = elim (order i j) [
        | inl less ↦ inl (omega (arith, less))
        | inr (inl less) ↦ inr (inl (omega (arith, less)))
        | inr (inr is) ↦ inr (inr (ap (λ n. suc n) is))
      ]

-- ---- lists in which no two are the same

once-cons : (r : Ref) (refs : List Ref) → (Contains refs r → ⊥) → AllPairs ◌≢◌ refs → AllPairs ◌≢◌ (r ∷ refs)
once-cons r refs new once = AllPairs-cons ◌≢◌ r refs (λ j d lt same. new (j, lt, get_or-default refs j r d lt ∙ sym same)) once

once-append : (xs ys : List Ref) → AllPairs ◌≢◌ xs → AllPairs ◌≢◌ ys → ((r : Ref) → Contains xs r → Contains ys r → ⊥) → AllPairs ◌≢◌ (xs ++ ys)
once-append [] ys ones others apart = others
once-append (x ∷ xs) ys ones others apart =
    once-cons x (xs ++ ys)
    (λ h. elim (Contains-append_cases xs ys x h) [
      | inl w ↦ ones 0 (suc w.0) x (omega arith) (omega (arith, w.1)) (sym w.2)
      | inr w ↦ apart x (0, omega arith, refl) w
    ])
    (once-append xs ys (λ i j d less lt. ones (suc i) (suc j) d (omega (arith, less)) (omega (arith, lt))) others (λ r h w. apart r (suc h.0, omega (arith, h.1), h.2) w))

-- ---- the references of all objects

-- the reference of what begins at the offset in segment n
abbrev pub ref : ℕ → ℕ → Ref
ref n offset = record { segment = n; offset = offset }

-- a cell's reference, where it is an object
abbrev pub ref_of : Option Kind → ℕ → ℕ → List Ref
ref_of None n offset = []
ref_of (Some kind) n offset = ref n offset ∷ []

-- the objects among cells of segment n, of which the first begins at the offset
abbrev pub refs_in : ℕ → ℕ → List Cell → List Ref
refs_in n offset [] = []
refs_in n offset (c ∷ cells) = ref_of c.kind n offset ++ refs_in n (offset + size_of c) cells

-- the objects of segments, of which the first is segment n
abbrev pub refs_from : ℕ → List (List Cell) → List Ref
refs_from n [] = []
refs_from n (l ∷ cells) = refs_in n 0 l ++ refs_from (suc n) cells

some_kind : (c : Cell) (kind : Kind) → c.kind ≡ Some kind → IsSome (body_of c)
some_kind c kind e = ap (λ k. is_some {T = Kind × List ℕ} (option_map (λ (kind : Kind). (kind, drop (8 * links_of kind) c.rest)) k)) e

kind_some : (c : Cell) → IsSome (body_of c) → (kind : Kind) × (c.kind ≡ Some kind)
kind_some c some = of c.kind refl
  where
    of : (k : Option Kind) → c.kind ≡ k → (kind : Kind) × (c.kind ≡ Some kind)
    of None e = let none : body_of c ≡ None = ap (option_map (λ (kind : Kind). (kind, drop (8 * links_of kind) c.rest))) e in cc
    of (Some kind) e = (kind, e)

in_one : (o : Option Kind) (n offset : ℕ) (q : Ref) → Contains (ref_of o n offset) q → IsSome o × (q ≡ ref n offset)
in_one None n offset q h = absurd (omega (arith, h.1))
in_one (Some kind) n offset q h = (refl, only h.0 h.1 h.2)
  where
    only : (k : ℕ) → k < length (ref n offset ∷ []) → get_or (ref n offset ∷ []) k q ≡ q → q ≡ ref n offset
    only zero lt e = sym e
    only (suc k) lt e = absurd (omega (arith, lt))

-- the reference is one of those of the objects among these cells
record IsListed (n offset : ℕ) (cells : List Cell) (q : Ref) : Type 0 where
  pub segment : q.segment ≡ n
  pub behind : offset ≤ q.offset
  pub live : IsSome (body_at cells (q.offset - offset))

in_cells : (n offset : ℕ) (cells : List Cell) (q : Ref) → Contains (refs_in n offset cells) q → IsListed n offset cells q
in_cells n offset [] q h = absurd (omega (arith, h.1))
in_cells n offset (c ∷ cells) q h = elim (Contains-append_cases (ref_of c.kind n offset) (refs_in n (offset + size_of c) cells) q h) [
  | inl w ↦
      let at = in_one c.kind n offset q w in let kind = some_of c.kind at.0 in let here : q.offset ≡ offset = ap (λ (x : Ref). x.offset) at.1 in
      let first : q.offset - offset ≡ 0 = omega (arith, here) in
      record { segment = ap (λ (x : Ref). x.segment) at.1; behind = omega (arith, here); live = subst (λ k. IsSome (body_at (c ∷ cells) k)) (sym first) (some_kind c kind.0 kind.1) }
  | inr w ↦
      let l = in_cells n (offset + size_of c) cells q w in let far : size_of c ≤ q.offset - offset = omega (arith, l.behind) in
      let same : q.offset - offset - size_of c ≡ q.offset - (offset + size_of c) = omega arith in record {
        segment = l.segment;
        behind = omega (arith, l.behind);
        live = subst IsSome (sym (ap (option_and_then body_of) (at-behind c cells (q.offset - offset) far ∙ ap (cell_at cells) same))) l.live;
      }
]
  where
    some_of : (o : Option Kind) → IsSome o → (kind : Kind) × (o ≡ Some kind)
    some_of None e = cc
    some_of (Some kind) e = (kind, refl)

cells_in : (n offset : ℕ) (cells : List Cell) (x : ℕ) → IsSome (body_at cells x) → Contains (refs_in n offset cells) (ref n (offset + x))
cells_in n offset [] x some = cc
cells_in n offset (c ∷ cells) zero some =
    let kind = kind_some c some in let here : offset + 0 ≡ offset = omega arith in
    let first : Contains (ref_of c.kind n offset) (ref n offset) = subst (λ k. Contains (ref_of k n offset) (ref n offset)) (sym kind.1) (0, omega arith, refl) in
    subst (λ k. Contains (ref_of c.kind n offset ++ refs_in n (offset + size_of c) cells) (ref n k)) (sym here) (Contains-append_left (ref_of c.kind n offset) (refs_in n (offset + size_of c) cells) (ref n offset) first)
cells_in n offset (c ∷ cells) (suc x) some = elim (cases_lt (suc x) (size_of c)) [
  | inl inside ↦ let none = ap (option_and_then body_of) (at-inside c cells (suc x) (omega arith) inside) in cc
  | inr far ↦
      let rest = cells_in n (offset + size_of c) cells (suc x - size_of c) (subst IsSome (ap (option_and_then body_of) (at-behind c cells (suc x) far)) some) in
      let there : offset + size_of c + (suc x - size_of c) ≡ offset + suc x = omega arith in
      Contains-append_right (ref_of c.kind n offset) (refs_in n (offset + size_of c) cells) (ref n (offset + suc x)) (subst (λ k. Contains (refs_in n (offset + size_of c) cells) (ref n k)) there rest)
]

one_once : (o : Option Kind) (n offset : ℕ) → AllPairs ◌≢◌ (ref_of o n offset)
one_once None n offset i j d less lt = absurd (omega (arith, lt))
one_once (Some kind) n offset i j d less lt = absurd (omega (arith, less, lt))

once_in : (n offset : ℕ) (cells : List Cell) → AllPairs ◌≢◌ (refs_in n offset cells)
once_in n offset [] i j d less lt = absurd (omega (arith, lt))
once_in n offset (c ∷ cells) i j d less lt =
    once-append (ref_of c.kind n offset) (refs_in n (offset + size_of c) cells) (one_once c.kind n offset) (once_in n (offset + size_of c) cells)
    (λ q h w. let here : q.offset ≡ offset = ap (λ (x : Ref). x.offset) (in_one c.kind n offset q h).1 in omega (arith, here, (in_cells n (offset + size_of c) cells q w).behind, size-least c)) i j d less lt

-- the reference is one of those of the objects in these segments, of which the first is n
record IsListedFrom (n : ℕ) (cells : List (List Cell)) (q : Ref) : Type 0 where
  pub behind : n ≤ q.segment
  pub live : IsSome (body_in cells (ref (q.segment - n) q.offset))

in_from : (n : ℕ) (cells : List (List Cell)) (q : Ref) → Contains (refs_from n cells) q → IsListedFrom n cells q
in_from n [] q h = absurd (omega (arith, h.1))
in_from n (l ∷ cells) q h = elim (Contains-append_cases (refs_in n 0 l) (refs_from (suc n) cells) q h) [
  | inl w ↦
      let at = in_cells n 0 l q w in let first : q.segment - n ≡ 0 = omega (arith, at.segment) in let whole : q.offset - 0 ≡ q.offset = omega arith in
      record { behind = omega (arith, at.segment); live = subst (λ k. IsSome (body_in (l ∷ cells) (ref k q.offset))) (sym first) (subst (λ k. IsSome (body_at l k)) whole at.live) }
  | inr w ↦
      let at = in_from (suc n) cells q w in let next : q.segment - n ≡ suc (q.segment - suc n) = omega (arith, at.behind) in
      record { behind = omega (arith, at.behind); live = subst (λ k. IsSome (body_in (l ∷ cells) (ref k q.offset))) (sym next) at.live }
]

from_in : (n : ℕ) (cells : List (List Cell)) (m x : ℕ) → IsSome (body_in cells (ref m x)) → Contains (refs_from n cells) (ref (n + m) x)
from_in n [] m x some = cc
from_in n (l ∷ cells) zero x some =
    let here : n + 0 ≡ n = omega arith in let whole : 0 + x ≡ x = omega arith in
    subst (λ k. Contains (refs_in n 0 l ++ refs_from (suc n) cells) (ref k x)) (sym here) (Contains-append_left (refs_in n 0 l) (refs_from (suc n) cells) (ref n x) (subst (λ k. Contains (refs_in n 0 l) (ref n k)) whole (cells_in n 0 l x some)))
from_in n (l ∷ cells) (suc m) x some =
    let there : suc n + m ≡ n + suc m = omega arith in
    Contains-append_right (refs_in n 0 l) (refs_from (suc n) cells) (ref (n + suc m) x) (subst (λ k. Contains (refs_from (suc n) cells) (ref k x)) there (from_in (suc n) cells m x some))

once_from : (n : ℕ) (cells : List (List Cell)) → AllPairs ◌≢◌ (refs_from n cells)
once_from n [] i j d less lt = absurd (omega (arith, lt))
once_from n (l ∷ cells) i j d less lt =
    once-append (refs_in n 0 l) (refs_from (suc n) cells) (once_in n 0 l) (once_from (suc n) cells)
    (λ q h w. omega (arith, (in_cells n 0 l q h).segment, (in_from (suc n) cells q w).behind)) i j d less lt

-- the references of all objects of a region
abbrev pub all_refs : View → List Ref
all_refs v = refs_from 0 v.cells

pub are_live : (v : View) → AreLive v (all_refs v)
are_live v = record {
  each = λ r h. let same : 0 + r.segment ≡ r.segment = omega arith in subst (λ k. Contains (refs_from 0 v.cells) (ref k r.offset)) same (from_in 0 v.cells r.segment r.offset h);
  live = λ r h. let same : r.segment - 0 ≡ r.segment = omega arith in subst (λ k. IsSome (body_in v.cells (ref k r.offset))) same (in_from 0 v.cells r h).live;
  once = once_from 0 v.cells;
}

-- ---- the names that a function gives

-- each of these references, with the name that the function gives it
abbrev pub names_of : (Ref → Ref) → List Ref → List (Ref × Ref)
names_of there refs = map (λ r. (r, there r)) refs

pub firsts : (there : Ref → Ref) (refs : List Ref) → map (λ pair. pair.0) (names_of there refs) ≡ refs
firsts there [] = refl
firsts there (r ∷ refs) = ap (λ l. r ∷ l) (firsts there refs)

pub seconds : (there : Ref → Ref) (refs : List Ref) → map (λ pair. pair.1) (names_of there refs) ≡ map there refs
seconds there [] = refl
seconds there (r ∷ refs) = ap (λ l. there r ∷ l) (seconds there refs)

pub named-by : (there : Ref → Ref) (refs : List Ref) (r : Ref) → Contains refs r → named_as (names_of there refs) r ≡ there r
named-by there [] r h = absurd (omega (arith, h.1))
named-by there (x ∷ refs) r h = elim (refs_decided x r) [
  | inl e ↦ ap (λ t. cond t (there x) (named_as (names_of there refs) r)) (ap (same_ref x) (sym e) ∙ ref-itself x) ∙ ap there e
  | inr ne ↦ ap (λ t. cond t (there x) (named_as (names_of there refs) r)) (ref-false x r ne) ∙ named-by there refs r (rest h.0 h.1 h.2 ne)
]
  where
    rest : (k : ℕ) → k < length (x ∷ refs) → get_or (x ∷ refs) k r ≡ r → x ≢ r → Contains refs r
    rest zero lt is ne = absurd (ne is)
    rest (suc k) lt is ne = (k, omega (arith, lt), is)

-- what a function leaves as it was
pub mapped : (o : Option End) (f : End → End) → ((y : End) → o ≡ Some y → f y ≡ y) → o ≡ option_map f o
mapped None f same = refl
mapped (Some y) f same = ap (λ z. Some z) (sym (same y refl))

pub some_and : {X : Type 0} (o : Option X) (P : X → Type 0) → IsSomeAnd o P → IsSome o
some_and None P p = absurd p
some_and (Some x) P p = refl

-- a region is renamed to itself
pub renamed-same : (v : View) → IsWell v → (names : List (Ref × Ref)) × Renamed v v names
renamed-same v well =
    let refs = all_refs v in let live = are_live v in let names = names_of (λ r. r) refs in
    let own : (r : Ref) → IsSome (body v r) → named_as names r ≡ r = λ r some. named-by (λ r. r) refs r (live.each r some) in
    let own_end : (e : End) → IsEnd v e → end_as names e ≡ e = λ e. elim e as (λ (o : End). IsEnd v o → end_as names o ≡ o) [
      | Obj r field ↦ λ h. ap (λ q. Obj q field) (own r (some_and (body v r) (λ b. field < links_of b.0) h))
      | Slot s ↦ λ h. refl
    ] in
    let own_option : (e : End) → link_of v e ≡ option_map (end_as names) (link_of v e) = λ e. mapped (link_of v e) (end_as names) (λ y is. own_end y (well.ends e y is)) in (
      names,
      record {
        before = subst (AreLive v) (sym (firsts (λ r. r) refs)) live;
        after = subst (AreLive v) (sym (seconds (λ r. r) refs ∙ map_id refs)) live;
        bodies = λ r some. ap (body v) (own r some);
        links = λ r field some. ap (λ q. link_of v (Obj q field)) (own r some) ∙ own_option (Obj r field);
        roots = λ s. own_option (Slot s);
        kept = λ s h. h;
        known = λ s h. h;
        slots = refl;
        budget = refl;
        live = refl;
      },
    )
  where
    map_id : (refs : List Ref) → map (λ r. r) refs ≡ refs
    map_id [] = refl
    map_id (r ∷ refs) = ap (λ l. r ∷ l) (map_id refs)
