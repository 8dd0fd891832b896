-- What a change of an object leaves of it.
use Rattle.std.proofs.Common.{◌≡◌, ◌≢◌, ℕ, ◌+◌, ◌-◌, ◌*◌, ◌^◌, ◌<◌, ◌≤◌, inl, inr, List, [], ◌++◌, length, take, drop, replicate, Option, Some, None, refl, sym, ap, subst, ◌∙◌, arith, length-drop}
use Rattle.std.specs.Prelude.{IsSomeAnd}
use Rattle.std.specs.Option.{option_map}
use Rattle.std.proofs.lemmas.Bool.{cases_lt}
use Rattle.std.proofs.lemmas.List.{append-nil, length-replicate, length-take-le, take-append-drop, take-append-le, drop-append-le, take-replicate, drop-replicate, drop-drop, take_at, drop_at}
use Rattle.lsa_kinds.specs.declared.kind.Kind.{Kind}
use Rattle.lsa_kinds.specs.Kinds.{links_of}
use Rattle.lsa_kinds.specs.Fields.{number, number_at, spelled_number, IsApart, IsPut}
use Rattle.lsa_kinds.specs.laws.Fields.{number-spelled, length-spelled, put-middle, other_fields}
use Rattle.lsa_segment.specs.Bytes.{overwritten}
use Rattle.lsa_yard.specs.Cells.{Cell, links_size, body_of, link_in, fresh, with_link, with_bytes}
use Rattle.lsa_yard.specs.Spelled.{IsProper}
use Rattle.lsa_yard.specs.laws.Middles.{overwritten-middle}

-- an object of this kind, of whose body something holds
pub record IsOf (c : Cell) (P : Kind × List ℕ → Type 0) : Type 0 where
  pub kind : Kind
  pub is : c.kind ≡ Some kind
  pub body : body_of c ≡ Some (kind, drop (8 * links_of kind) c.rest)
  pub holds : P (kind, drop (8 * links_of kind) c.rest)

of-kind : (c : Cell) (k : Option Kind) (P : Kind × List ℕ → Type 0) → c.kind ≡ k → IsSomeAnd (body_of c) P → IsOf c P
of-kind c None P e p =
    let none : body_of c ≡ None = ap (option_map (λ (kind : Kind). (kind, drop (8 * links_of kind) c.rest))) e in absurd (subst (λ o. IsSomeAnd o P) none p)
of-kind c (Some kind) P e p =
    let some : body_of c ≡ Some (kind, drop (8 * links_of kind) c.rest) = ap (option_map (λ (kind : Kind). (kind, drop (8 * links_of kind) c.rest))) e in
    record { kind = kind; is = e; body = some; holds = subst (λ o. IsSomeAnd o P) some p }

pub of : (c : Cell) (P : Kind × List ℕ → Type 0) → IsSomeAnd (body_of c) P → IsOf c P
of c P p = of-kind c c.kind P refl p

links-there : (c : Cell) (P : Kind × List ℕ → Type 0) (o : IsOf c P) → IsProper c → 8 * links_of o.kind ≤ length c.rest
links-there c P o p = omega (arith, ap links_size o.is, p.linked)

-- ---- links

put-link : (c : Cell) (field value : ℕ) → 8 * field + 8 ≤ length c.rest → value < 2 ^ 64 → IsPut c.rest (with_link field value c).rest (8 * field) 8 value
put-link c field value inside small =
    let word = spelled_number 8 value in let long = length-spelled 8 value in
    subst (λ n. IsPut c.rest (take (8 * field) c.rest ++ (word ++ drop (8 * field + n) c.rest)) (8 * field) 8 value) (sym long)
    (put-middle c.rest word (8 * field) 8 value long (number-spelled 8 value small) inside)

-- what stands before and behind a link that is set, whatever number was meant
before-link : (c : Cell) (field value : ℕ) → 8 * field + 8 ≤ length c.rest → take (8 * field) (with_link field value c).rest ≡ take (8 * field) c.rest
before-link c field value inside = take_at (take (8 * field) c.rest) (spelled_number 8 value ++ drop (8 * field + length (spelled_number 8 value)) c.rest) (8 * field) (length-take-le (8 * field) c.rest (omega arith))

behind-link : (c : Cell) (field value : ℕ) → 8 * field + 8 ≤ length c.rest → drop (8 * field + 8) (with_link field value c).rest ≡ drop (8 * field + 8) c.rest
behind-link c field value inside =
    let word = spelled_number 8 value in let start = take (8 * field) c.rest in let rest = drop (8 * field + length word) c.rest in let long = length-spelled 8 value in
    let at : length start ≡ 8 * field = length-take-le (8 * field) c.rest (omega arith) in
    sym (drop-drop 8 (8 * field) (with_link field value c).rest) ∙ ap (drop 8) (drop_at start (word ++ rest) (8 * field) at) ∙ drop_at word rest 8 long ∙ ap (λ n. drop (8 * field + n) c.rest) long

pub link-here : (c : Cell) (field value : ℕ) → IsProper c → IsSomeAnd (body_of c) (λ b. field < links_of b.0) → value < 2 ^ 64 → link_in field (with_link field value c) ≡ value
link-here c field value p some small =
    let o = of c (λ b. field < links_of b.0) some in (put-link c field value (omega (arith, links-there c (λ b. field < links_of b.0) o p, o.holds)) small).written

pub link-others : (c : Cell) (field other value : ℕ) → IsProper c → IsSomeAnd (body_of c) (λ b. field < links_of b.0) → other ≢ field → link_in other (with_link field value c) ≡ link_in other c
link-others c field other value p some ne =
    let o = of c (λ b. field < links_of b.0) some in let inside : 8 * field + 8 ≤ length c.rest = omega (arith, links-there c (λ b. field < links_of b.0) o p, o.holds) in
    let apart : IsApart (8 * field) 8 (8 * other) 8 = elim (cases_lt other field) [ inl lt ↦ inl (omega arith) | inr le ↦ let more : field < other = omega (arith, ne) in inr (omega arith) ] in
    other_fields c.rest (with_link field value c).rest (8 * field) 8 (before-link c field value inside) (behind-link c field value inside) (8 * other) 8 apart

pub body-linked : (c : Cell) (field value : ℕ) → IsProper c → IsSomeAnd (body_of c) (λ b. field < links_of b.0) → body_of (with_link field value c) ≡ body_of c
body-linked c field value p some =
    let o = of c (λ b. field < links_of b.0) some in let links = 8 * links_of o.kind in
    let inside : 8 * field + 8 ≤ length c.rest = omega (arith, links-there c (λ b. field < links_of b.0) o p, o.holds) in
    let far : links ≡ 8 * field + 8 + (links - (8 * field + 8)) = omega (arith, o.holds) in
    let now = (with_link field value c).rest in
    let own : drop links now ≡ drop links c.rest =
    ap (λ k. drop k now) far ∙ sym (drop-drop (links - (8 * field + 8)) (8 * field + 8) now) ∙ ap (drop (links - (8 * field + 8))) (behind-link c field value inside)
    ∙ drop-drop (links - (8 * field + 8)) (8 * field + 8) c.rest ∙ ap (λ k. drop k c.rest) (sym far) in
    ap (option_map (λ (kind : Kind). (kind, drop (8 * links_of kind) now))) o.is ∙ ap (λ (l : List ℕ). Some (o.kind, l)) own ∙ sym o.body

-- ---- own bytes

-- what is written over an object's own bytes leaves its links
over-own : (c : Cell) (from : ℕ) (bytes : List ℕ) (links : ℕ) → links_size c.kind ≡ links → links ≤ length c.rest → from + length bytes ≤ length (drop links c.rest)
    → (with_bytes from bytes c).rest ≡ take links c.rest ++ (overwritten (drop links c.rest) from bytes ++ [])
over-own c from bytes links e linked inside =
    let start = take links c.rest in let own = drop links c.rest in
    let whole : c.rest ≡ start ++ (own ++ []) = sym (ap (λ l. start ++ l) (append-nil own) ∙ take-append-drop links c.rest) in
    ap (λ k. overwritten c.rest (k + from) bytes) e ∙ ap (λ l. overwritten l (links + from) bytes) whole
    ∙ overwritten-middle start own [] bytes links from (length-take-le links c.rest linked) inside

-- the number in a link lies before the own bytes
link-before : (start rest : List ℕ) (field : ℕ) → 8 * field + 8 ≤ length start → number_at (8 * field) 8 (start ++ rest) ≡ number_at (8 * field) 8 start
link-before start rest field inside =
    let long : 8 ≤ length (drop (8 * field) start) = omega (arith, length-drop (8 * field) start) in
    ap (λ l. number (take 8 l)) (drop-append-le (8 * field) start rest (omega arith)) ∙ ap number (take-append-le 8 (drop (8 * field) start) rest long)

pub body-written : (c : Cell) (from : ℕ) (bytes : List ℕ) → IsProper c → IsSomeAnd (body_of c) (λ b. from + length bytes ≤ length b.1)
    → body_of (with_bytes from bytes c) ≡ option_map (λ b. (b.0, overwritten b.1 from bytes)) (body_of c)
body-written c from bytes p some =
    let o = of c (λ b. from + length bytes ≤ length b.1) some in let links = 8 * links_of o.kind in
    let linked = links-there c (λ b. from + length bytes ≤ length b.1) o p in
    let now = (with_bytes from bytes c).rest in let own = drop links c.rest in
    let own_now : drop links now ≡ overwritten own from bytes =
    ap (drop links) (over-own c from bytes links (ap links_size o.is) linked o.holds)
    ∙ drop_at (take links c.rest) (overwritten own from bytes ++ []) links (length-take-le links c.rest linked) ∙ append-nil (overwritten own from bytes) in
    ap (option_map (λ (kind : Kind). (kind, drop (8 * links_of kind) now))) o.is ∙ ap (λ (l : List ℕ). Some (o.kind, l)) own_now
    ∙ sym (ap (option_map (λ (b : Kind × List ℕ). (b.0, overwritten b.1 from bytes))) o.body)

pub link-written : (c : Cell) (from field : ℕ) (bytes : List ℕ) → IsProper c → IsSomeAnd (body_of c) (λ b. (from + length bytes ≤ length b.1) × (field < links_of b.0))
    → link_in field (with_bytes from bytes c) ≡ link_in field c
link-written c from field bytes p some =
    let o = of c (λ b. (from + length bytes ≤ length b.1) × (field < links_of b.0)) some in let links = 8 * links_of o.kind in
    let linked = links-there c (λ b. (from + length bytes ≤ length b.1) × (field < links_of b.0)) o p in
    let start = take links c.rest in let own = drop links c.rest in
    let inside : 8 * field + 8 ≤ length start = omega (arith, length-take-le links c.rest linked, o.holds.1) in
    ap (number_at (8 * field) 8) (over-own c from bytes links (ap links_size o.is) linked o.holds.0) ∙ link-before start (overwritten own from bytes ++ []) field inside
    ∙ sym (ap (number_at (8 * field) 8) (sym (take-append-drop links c.rest)) ∙ link-before start own field inside)

-- ---- fresh objects

pub body-fresh : (kind : Kind) (bytes : List ℕ) → body_of (fresh kind bytes) ≡ Some (kind, bytes)
body-fresh kind bytes =
    let links : List ℕ = replicate (8 * links_of kind) 0 in
    ap (λ (l : List ℕ). Some (kind, l)) (drop_at links bytes (8 * links_of kind) (length-replicate {A = ℕ} (8 * links_of kind) 0))

pub link-fresh : (kind : Kind) (bytes : List ℕ) (field : ℕ) → field < links_of kind → link_in field (fresh kind bytes) ≡ 0
link-fresh kind bytes field lt =
    let n = 8 * links_of kind in let links : List ℕ = replicate n 0 in let long = length-replicate {A = ℕ} n 0 in
    let rest : List ℕ = replicate (n - 8 * field) 0 in let left = length-replicate {A = ℕ} (n - 8 * field) 0 in
    ap (λ l. number (take 8 l)) (drop-append-le (8 * field) links bytes (omega (arith, long)) ∙ ap (λ l. l ++ bytes) (drop-replicate {X = ℕ} (8 * field) n 0))
    ∙ ap number (take-append-le 8 rest bytes (omega (arith, left)) ∙ take-replicate {X = ℕ} 8 (n - 8 * field) 0 (omega arith))
