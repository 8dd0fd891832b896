-- What is read after each change of an object, in a store; and how objects lie.
use Rattle.std.proofs.Common.{◌≡◌, ◌≢◌, ℕ, ◌+◌, ◌*◌, ◌%◌, ◌^◌, ◌<◌, ◌≤◌, ◌⊎◌, inl, inr, List, [], ◌∷◌, ◌++◌, length, drop, cond, Option, Some, None, refl, sym, ap, ◌∙◌, subst, arith}
use Rattle.std.specs.Prelude.{sum_by, is_some, All, IsSome, IsSomeAnd}
use Rattle.std.specs.Option.{option_map, option_and_then}
use Rattle.std.proofs.lemmas.Bool.{cases_lt}
use Rattle.std.proofs.lemmas.List.Elements.{All-head, All-tail}
use Rattle.lsa_kinds.specs.declared.kind.Kind.{Kind}
use Rattle.lsa_kinds.specs.Kinds.{links_of}
use Rattle.lsa_pool.specs.declared.Usage.{Usage}
use Rattle.lsa_pool.specs.Room.{nothing, usage_of, live_sum}
use Rattle.lsa_pool.specs.laws.Usages.{decided}
use Rattle.lsa_yard.specs.Bytes.{overwritten}
use Rattle.lsa_yard.specs.Cells.{Cell, size_of, cell_at, body_of, fresh, with_link, with_bytes, gap_of}
use Rattle.lsa_yard.specs.laws.Changes.{split, at-within, at-apart, at-even}
use Rattle.lsa_yard.specs.laws.Objects.{body-fresh, body-written}
use Rattle.lsa_store.specs.declared.place.Ref.{Ref}
use Rattle.lsa_store.specs.Objects.{cells_of, cell_in, body_in, word_in, one_if_live, live_in, object_count, rounded_size, IsChangedIn, IsPutIn}
use Rattle.lsa_store.specs.Stored.{Stored, IsStored, IsFitting}
use Rattle.lsa_store.specs.laws.Places.{ref-equal, apart_refs, and_there, there_and, changed-here, changed-others, changed-total, put-fresh, put-here, put-others, put-total}
use Rattle.lsa_store.specs.laws.Words.{IsObjectIn, object, word-there, word-none, word-same, body-there, body-same, word-gap, word-fresh, word-set, word-set-others, body-set, object-size, word-written}
use Rattle.lsa_store.specs.laws.Sums.{sums-same}

some_and : {X : Type 0} (o : Option X) (P : X → Type 0) → IsSomeAnd o P → IsSome o
some_and None P p = absurd p
some_and (Some x) P p = refl

-- an object of whose kind and bytes something holds
pub object-and : (cells : List (List Cell)) (r : Ref) (P : Kind × List ℕ → Type 0) → IsSomeAnd (body_in cells r) P → (x : IsObjectIn cells r) × P (x.kind, drop (8 * links_of x.kind) x.cell.rest)
object-and cells r P p =
    let x = object cells r (some_and (body_in cells r) P p) in (x, there_and (body_in cells r) (x.kind, drop (8 * links_of x.kind) x.cell.rest) P x.body p)

pub and-object : (cells : List (List Cell)) (r : Ref) (x : IsObjectIn cells r) (P : Kind × List ℕ → Type 0) → P (x.kind, drop (8 * links_of x.kind) x.cell.rest) → IsSomeAnd (body_in cells r) P
and-object cells r x P p = and_there (body_in cells r) (x.kind, drop (8 * links_of x.kind) x.cell.rest) P x.body p

one_of : (P : Cell → Type 0) (before : List Cell) (c : Cell) (behind : List Cell) → All P (before ++ c ∷ behind) → P c
one_of P [] c behind all = All-head P c behind all
one_of P (x ∷ before) c behind all = one_of P before c behind (All-tail P x (before ++ c ∷ behind) all)

-- a cell that begins somewhere is a fitting one
pub fitting-at : (size : ℕ) (s : Stored) (r : Ref) (c : Cell) → IsStored size s → cell_in s.cells r ≡ Some c → IsFitting size c
fitting-at size s r c w e =
    let cells = cells_of s.cells r.segment in let p = split cells r.offset c e in
    one_of (IsFitting size) p.before c p.behind (subst (All (IsFitting size)) p.is (w.fitting r.segment))

-- what the objects take is what is live
pub live-total : (size : ℕ) (s : Stored) → IsStored size s → sum_by live_in s.cells ≡ live_sum s.usages
live-total size s w = sums-same live_in (λ (u : Usage). u.live) [] nothing s.cells s.usages w.count w.live

differ : {r : Ref} (q : Ref) → (q.segment ≢ r.segment) ⊎ ((q.segment ≡ r.segment) × (q.offset ≢ r.offset)) → q ≢ r
differ q (inl ne) e = ne (ap (λ (p : Ref). p.segment) e)
differ q (inr d) e = d.1 (ap (λ (p : Ref). p.offset) e)

one : (c : Cell) (kind : Kind) → c.kind ≡ Some kind → one_if_live c ≡ 1
one c kind e = ap (λ (k : Option Kind). cond (is_some k) 1 0) e

module _ (size : ℕ) (s : Stored) (stored : IsStored size s) (new : List (List Cell)) (r : Ref) where
  -- ---- a number is written into a link

  module _ (field value : ℕ) (linked : IsSomeAnd (body_in s.cells r) (λ b. field < links_of b.0)) (w : IsChangedIn s.cells new r (with_link field value)) where
    pub set-here : value < 2 ^ 64 → word_in new r field ≡ value
    set-here small =
        let f = object-and s.cells r (λ (b : Kind × List ℕ). field < links_of b.0) linked in let x = f.0 in
        word-there new r field (with_link field value x.cell) (changed-here s.cells new r (with_link field value) w x.cell x.here)
        ∙ word-set x.cell x.kind x.is (fitting-at size s r x.cell stored x.here).proper field value f.1 small

    pub set-others : (q : Ref) (other : ℕ) → (q ≡ r → other ≢ field) → word_in new q other ≡ word_in s.cells q other
    set-others q other ne =
        let f = object-and s.cells r (λ (b : Kind × List ℕ). field < links_of b.0) linked in let x = f.0 in
        elim (apart_refs q r) [
          | inl e ↦
              ap (λ p. word_in new p other) e ∙ word-there new r other (with_link field value x.cell) (changed-here s.cells new r (with_link field value) w x.cell x.here)
              ∙ word-set-others x.cell x.kind x.is (fitting-at size s r x.cell stored x.here).proper field other value f.1 (ne e)
              ∙ sym (word-there s.cells r other x.cell x.here) ∙ ap (λ p. word_in s.cells p other) (sym e)
          | inr d ↦ word-same s.cells new q other (changed-others s.cells new r (with_link field value) w x.cell x.here q (differ q d))
        ]

    pub set-bodies : (q : Ref) → body_in new q ≡ body_in s.cells q
    set-bodies q =
        let f = object-and s.cells r (λ (b : Kind × List ℕ). field < links_of b.0) linked in let x = f.0 in
        elim (apart_refs q r) [
          | inl e ↦
              ap (body_in new) e ∙ body-there new r (with_link field value x.cell) (changed-here s.cells new r (with_link field value) w x.cell x.here)
              ∙ body-set x.cell x.kind x.is (fitting-at size s r x.cell stored x.here).proper field value f.1 ∙ sym (body-there s.cells r x.cell x.here) ∙ ap (body_in s.cells) (sym e)
          | inr d ↦ body-same s.cells new q (changed-others s.cells new r (with_link field value) w x.cell x.here q (differ q d))
        ]

    pub set-count : object_count new ≡ object_count s.cells
    set-count = let f = object-and s.cells r (λ (b : Kind × List ℕ). field < links_of b.0) linked in omega (arith, changed-total s.cells new r (with_link field value) w f.0.cell f.0.here one_if_live)

  -- ---- bytes are written over those of an object

  module _ (from : ℕ) (bytes : List ℕ) (inside : IsSomeAnd (body_in s.cells r) (λ b. from + length bytes ≤ length b.1)) (w : IsChangedIn s.cells new r (with_bytes from bytes)) where
    pub written-here : IsSomeAnd (body_in s.cells r) (λ b. body_in new r ≡ Some (b.0, overwritten b.1 from bytes))
    written-here =
        let f = object-and s.cells r (λ (b : Kind × List ℕ). from + length bytes ≤ length b.1) inside in let x = f.0 in
        let proper = (fitting-at size s r x.cell stored x.here).proper in
        let there : IsSomeAnd (body_of x.cell) (λ b. from + length bytes ≤ length b.1) =
        and_there (body_of x.cell) (x.kind, drop (8 * links_of x.kind) x.cell.rest) (λ (b : Kind × List ℕ). from + length bytes ≤ length b.1) x.own f.1 in
        and-object s.cells r x (λ (b : Kind × List ℕ). body_in new r ≡ Some (b.0, overwritten b.1 from bytes))
        (body-there new r (with_bytes from bytes x.cell) (changed-here s.cells new r (with_bytes from bytes) w x.cell x.here) ∙ body-written x.cell from bytes proper there
        ∙ ap (option_map (λ (b : Kind × List ℕ). (b.0, overwritten b.1 from bytes))) x.own)

    pub written-others : (q : Ref) → q ≢ r → body_in new q ≡ body_in s.cells q
    written-others q ne =
        let f = object-and s.cells r (λ (b : Kind × List ℕ). from + length bytes ≤ length b.1) inside in
        body-same s.cells new q (changed-others s.cells new r (with_bytes from bytes) w f.0.cell f.0.here q ne)

    pub written-words : (q : Ref) (field : ℕ) → word_in new q field ≡ word_in s.cells q field
    written-words q field =
        let f = object-and s.cells r (λ (b : Kind × List ℕ). from + length bytes ≤ length b.1) inside in let x = f.0 in
        elim (apart_refs q r) [
          | inl e ↦
              ap (λ p. word_in new p field) e ∙ word-there new r field (with_bytes from bytes x.cell) (changed-here s.cells new r (with_bytes from bytes) w x.cell x.here)
              ∙ word-written x.cell x.kind x.is (fitting-at size s r x.cell stored x.here).proper from field bytes f.1
              ∙ sym (word-there s.cells r field x.cell x.here) ∙ ap (λ p. word_in s.cells p field) (sym e)
          | inr d ↦ word-same s.cells new q field (changed-others s.cells new r (with_bytes from bytes) w x.cell x.here q (differ q d))
        ]

    pub written-count : object_count new ≡ object_count s.cells
    written-count = let f = object-and s.cells r (λ (b : Kind × List ℕ). from + length bytes ≤ length b.1) inside in omega (arith, changed-total s.cells new r (with_bytes from bytes) w f.0.cell f.0.here one_if_live)

-- ---- an object is made

module _ (old new : List (List Cell)) (r : Ref) (kind : Kind) (bytes : List ℕ) (w : IsPutIn old new r (fresh kind bytes)) where
  pub made-fresh : body_in old r ≡ None
  made-fresh = ap (option_and_then body_of) (put-fresh old new r (fresh kind bytes) w)

  pub made-here : body_in new r ≡ Some (kind, bytes)
  made-here = body-there new r (fresh kind bytes) (put-here old new r (fresh kind bytes) w) ∙ body-fresh kind bytes

  pub made-unset : (field : ℕ) → word_in new r field ≡ 0
  made-unset field = word-there new r field (fresh kind bytes) (put-here old new r (fresh kind bytes) w) ∙ word-fresh kind bytes field

  pub made-others : (q : Ref) → q ≢ r → body_in new q ≡ body_in old q
  made-others q ne = body-same old new q (put-others old new r (fresh kind bytes) w q ne)

  -- nor is any link another one: that of the new object was not there, and is not set
  pub made-words : (q : Ref) (field : ℕ) → word_in new q field ≡ word_in old q field
  made-words q field = elim (apart_refs q r) [
    | inl e ↦ ap (λ p. word_in new p field) e ∙ made-unset field ∙ sym (word-none old r field (put-fresh old new r (fresh kind bytes) w)) ∙ ap (λ p. word_in old p field) (sym e)
    | inr d ↦ word-same old new q field (put-others old new r (fresh kind bytes) w q (differ q d))
  ]

  pub made-count : object_count new ≡ object_count old + 1
  made-count = put-total old new r (fresh kind bytes) w one_if_live

-- ---- an object goes

module _ (old new : List (List Cell)) (r : Ref) (some : IsSome (body_in old r)) (w : IsChangedIn old new r gap_of) where
  pub gone-here : body_in new r ≡ None
  gone-here = let x = object old r some in body-there new r (gap_of x.cell) (changed-here old new r gap_of w x.cell x.here)

  pub gone-unset : (field : ℕ) → word_in new r field ≡ 0
  gone-unset field = let x = object old r some in word-there new r field (gap_of x.cell) (changed-here old new r gap_of w x.cell x.here) ∙ word-gap field x.cell

  pub gone-others : (q : Ref) → q ≢ r → cell_in new q ≡ cell_in old q
  gone-others q ne = let x = object old r some in changed-others old new r gap_of w x.cell x.here q ne

  pub gone-count : object_count new + 1 ≡ object_count old
  gone-count = let x = object old r some in omega (arith, changed-total old new r gap_of w x.cell x.here one_if_live, one x.cell x.kind x.is)

-- ---- how objects lie

module _ (size : ℕ) (s : Stored) (stored : IsStored size s) where
  pub lie-used : (r : Ref) (c : Cell) → cell_in s.cells r ≡ Some c → r.offset + size_of c ≤ (usage_of s.usages r.segment).used
  lie-used r c e = omega (arith, at-within (cells_of s.cells r.segment) r.offset c e, stored.filled r.segment)

  pub lie-even : (r : Ref) (c : Cell) → cell_in s.cells r ≡ Some c → r.offset % 8 ≡ 0
  lie-even r c e = at-even (cells_of s.cells r.segment) r.offset c e

  pub lie-apart : (r q : Ref) (c d : Cell) → cell_in s.cells r ≡ Some c → cell_in s.cells q ≡ Some d → r ≢ q → r.segment ≡ q.segment → (r.offset + size_of c ≤ q.offset) ⊎ (q.offset + size_of d ≤ r.offset)
  lie-apart r q c d e f ne same =
      let cells = cells_of s.cells r.segment in let there : cell_at cells q.offset ≡ Some d = ap (λ n. cell_at (cells_of s.cells n) q.offset) same ∙ f in
      elim (cases_lt r.offset q.offset) [
        | inl lt ↦ inl (at-apart cells r.offset q.offset c d e there lt)
        | inr le ↦ elim (decided r.offset q.offset) [
          | inl at ↦ absurd (ne (ref-equal r q same at))
          | inr other ↦ inr (at-apart cells q.offset r.offset d c there e (omega (arith, le, other)))
        ]
      ]

  -- an object takes its header, links and bytes, rounded up
  pub lie-size : (r : Ref) (x : IsObjectIn s.cells r) → size_of x.cell ≡ rounded_size x.kind (length (drop (8 * links_of x.kind) x.cell.rest))
  lie-size r x = object-size x.cell x.kind x.is (fitting-at size s r x.cell stored x.here).proper
