-- Where cells stand, and what a change of one of them, or one more, leaves of the others.
use Rattle.std.proofs.Common.{◌≡◌, ◌≢◌, ℕ, zero, suc, ◌+◌, ◌<◌, ◌⊎◌, inl, inr, List, [], ◌∷◌, ◌++◌, length, Option, Some, None, refl, sym, ap, subst, ◌∙◌, arith}
use Rattle.std.specs.Prelude.{sum_by, IsSomeAnd}
use Rattle.std.proofs.lemmas.List.{get_or-set_same, get_or-set_other}
use Rattle.std.proofs.lemmas.List.Sums.{sum_by-set, sum_by_push}
use Rattle.lsa_pool.specs.laws.Usages.{decided, set_elim}
use Rattle.lsa_yard.specs.Cells.{Cell, size_of, extent, cell_at, IsReplaced}
use Rattle.lsa_yard.specs.laws.Reading.{size-least, extent-append}
use Rattle.lsa_yard.specs.laws.Changes.{replaced-here, replaced-others, replaced-extent, replaced-sums, at-middle, at-pushed, at-within}
use Rattle.lsa_store.specs.declared.place.Ref.{Ref}
use Rattle.lsa_store.specs.Objects.{cells_of, cell_in, IsChangedIn, IsPutIn}

-- ---- places

pub ref-equal : (r q : Ref) → r.segment ≡ q.segment → r.offset ≡ q.offset → r ≡ q
ref-equal r q e f = ap (λ (n : ℕ). record { segment = n; offset = r.offset }) e ∙ ap (λ (n : ℕ). record { segment = q.segment; offset = n }) f

-- two places are one, or lie in two segments, or at two offsets of one
pub apart_refs : (q r : Ref) → (q ≡ r) ⊎ ((q.segment ≢ r.segment) ⊎ ((q.segment ≡ r.segment) × (q.offset ≢ r.offset)))
apart_refs q r = elim (decided q.segment r.segment) [
  | inr ne ↦ inr (inl ne)
  | inl e ↦ elim (decided q.offset r.offset) [
    | inl f ↦ inl (ref-equal q r e f)
    | inr ne ↦ inr (inr (e, ne))
  ]
]

-- a segment in which a cell begins is one of the list
pub standing : (cells : List (List Cell)) (n offset : ℕ) (c : Cell) → cell_at (cells_of cells n) offset ≡ Some c → n < length cells
standing [] n offset c e = cc
standing (x ∷ cells) zero offset c e = omega arith
standing (x ∷ cells) (suc n) offset c e = omega (arith, standing cells n offset c e)

pub and_there : {X : Type 0} (o : Option X) (x : X) (P : X → Type 0) → o ≡ Some x → P x → IsSomeAnd o P
and_there o x P e p = subst (λ q. IsSomeAnd q P) (sym e) p

pub there_and : {X : Type 0} (o : Option X) (x : X) (P : X → Type 0) → o ≡ Some x → IsSomeAnd o P → P x
there_and o x P e p = subst (λ q. IsSomeAnd q P) e p

pub and_map : {X : Type 0} (o : Option X) (P Q : X → Type 0) → ((x : X) → P x → Q x) → IsSomeAnd o P → IsSomeAnd o Q
and_map None P Q f p = p
and_map (Some x) P Q f p = f x p

-- no cell begins where they end
pub none-behind : (cells : List Cell) → cell_at cells (extent cells) ≡ None
none-behind cells = none_at (cell_at cells (extent cells)) (λ c e. omega (arith, at-within cells (extent cells) c e, size-least c))
  where
    none_at : (o : Option Cell) → ((c : Cell) → o ≡ Some c → ⊥) → o ≡ None
    none_at None never = refl
    none_at (Some c) never = absurd (never c refl)

-- ---- a change of one cell

module _ (old new : List (List Cell)) (r : Ref) (change : Cell → Cell) (w : IsChangedIn old new r change) (c : Cell) (here : cell_in old r ≡ Some c) where
  pub changed-is : IsReplaced (cells_of old r.segment) w.after r.offset c (change c)
  changed-is = there_and (cell_in old r) c (λ (d : Cell). IsReplaced (cells_of old r.segment) w.after r.offset d (change d)) here w.changed

  inside : r.segment < length old
  inside = standing old r.segment r.offset c here

  after_is : cells_of new r.segment ≡ w.after
  after_is = ap (λ l. cells_of l r.segment) w.is ∙ get_or-set_same old r.segment w.after [] inside

  pub changed-here : cell_in new r ≡ Some (change c)
  changed-here = ap (λ l. cell_at l r.offset) after_is ∙ (replaced-here (cells_of old r.segment) w.after r.offset c (change c) changed-is).1

  pub changed-elsewhere : (n : ℕ) → n ≢ r.segment → cells_of new n ≡ cells_of old n
  changed-elsewhere n ne = ap (λ l. cells_of l n) w.is ∙ get_or-set_other old r.segment n w.after [] ne

  pub changed-others : (q : Ref) → q ≢ r → cell_in new q ≡ cell_in old q
  changed-others q ne = elim (apart_refs q r) [
    | inl e ↦ absurd (ne e)
    | inr (inl d) ↦ ap (λ l. cell_at l q.offset) (changed-elsewhere q.segment d)
    | inr (inr d) ↦
        ap (λ n. cell_at (cells_of new n) q.offset) d.0 ∙ ap (λ l. cell_at l q.offset) after_is
        ∙ replaced-others (cells_of old r.segment) w.after r.offset c (change c) changed-is q.offset d.1 ∙ ap (λ n. cell_at (cells_of old n) q.offset) (sym d.0)
  ]

  -- what holds of the changed segment and of the others holds of each
  pub changed-each : (P : ℕ → List Cell → Type 0) → P r.segment w.after → ((n : ℕ) → n ≢ r.segment → P n (cells_of old n)) → (n : ℕ) → P n (cells_of new n)
  changed-each P at else n = subst (λ l. P n (cells_of l n)) (sym w.is) (set_elim [] P old r.segment w.after n inside at (else n))

  pub changed-extent : (n : ℕ) → extent (cells_of new n) ≡ extent (cells_of old n)
  changed-extent = changed-each (λ n l. extent l ≡ extent (cells_of old n)) (replaced-extent (cells_of old r.segment) w.after r.offset c (change c) changed-is) (λ n ne. refl)

  -- any sum over the cells of a segment, and over all, changes by that cell alone
  pub changed-sum : (g : Cell → ℕ) → sum_by g (cells_of new r.segment) + g c ≡ sum_by g (cells_of old r.segment) + g (change c)
  changed-sum g = omega (arith, ap (sum_by g) after_is, replaced-sums (cells_of old r.segment) w.after r.offset c (change c) changed-is g)

  pub changed-total : (g : Cell → ℕ) → sum_by (sum_by g) new + g c ≡ sum_by (sum_by g) old + g (change c)
  changed-total g =
      omega (
        arith,
        ap (sum_by (sum_by g)) w.is,
        sum_by-set (sum_by g) old r.segment w.after [] inside,
        replaced-sums (cells_of old r.segment) w.after r.offset c (change c) changed-is g,
      )

-- ---- one cell more

module _ (old new : List (List Cell)) (r : Ref) (c : Cell) (w : IsPutIn old new r c) where
  abbrev put_after : List Cell
  put_after = cells_of old r.segment ++ c ∷ []

  put_is : cells_of new r.segment ≡ put_after
  put_is = ap (λ l. cells_of l r.segment) w.is ∙ get_or-set_same old r.segment put_after [] w.inside

  pub put-fresh : cell_in old r ≡ None
  put-fresh = ap (cell_at (cells_of old r.segment)) w.behind ∙ none-behind (cells_of old r.segment)

  pub put-here : cell_in new r ≡ Some c
  put-here = ap (λ l. cell_at l r.offset) put_is ∙ ap (cell_at put_after) w.behind ∙ at-middle (cells_of old r.segment) c []

  pub put-elsewhere : (n : ℕ) → n ≢ r.segment → cells_of new n ≡ cells_of old n
  put-elsewhere n ne = ap (λ l. cells_of l n) w.is ∙ get_or-set_other old r.segment n put_after [] ne

  pub put-others : (q : Ref) → q ≢ r → cell_in new q ≡ cell_in old q
  put-others q ne = elim (apart_refs q r) [
    | inl e ↦ absurd (ne e)
    | inr (inl d) ↦ ap (λ l. cell_at l q.offset) (put-elsewhere q.segment d)
    | inr (inr d) ↦
        ap (λ n. cell_at (cells_of new n) q.offset) d.0 ∙ ap (λ l. cell_at l q.offset) put_is
        ∙ at-pushed (cells_of old r.segment) c q.offset (λ e. d.1 (e ∙ sym w.behind)) ∙ ap (λ n. cell_at (cells_of old n) q.offset) (sym d.0)
  ]

  pub put-each : (P : ℕ → List Cell → Type 0) → P r.segment (cells_of old r.segment ++ c ∷ []) → ((n : ℕ) → n ≢ r.segment → P n (cells_of old n)) → (n : ℕ) → P n (cells_of new n)
  put-each P at else n = subst (λ l. P n (cells_of l n)) (sym w.is) (set_elim [] P old r.segment put_after n w.inside at (else n))

  pub put-extent : extent (cells_of new r.segment) ≡ extent (cells_of old r.segment) + size_of c
  put-extent = omega (arith, ap extent put_is, extent-append (cells_of old r.segment) (c ∷ []))

  pub put-sum : (g : Cell → ℕ) → sum_by g (cells_of new r.segment) ≡ sum_by g (cells_of old r.segment) + g c
  put-sum g = ap (sum_by g) put_is ∙ sum_by_push g (cells_of old r.segment) c

  pub put-total : (g : Cell → ℕ) → sum_by (sum_by g) new ≡ sum_by (sum_by g) old + g c
  put-total g =
      omega (arith, ap (sum_by (sum_by g)) w.is, sum_by-set (sum_by g) old r.segment put_after [] w.inside, sum_by_push g (cells_of old r.segment) c)
