-- Sums over the objects of a list of places, each once.
use Rattle.std.proofs.Common.{◌≡◌, ◌≢◌, ℕ, zero, suc, ◌+◌, ◌-◌, ◌<◌, ◌≤◌, inl, inr, Bool, true, false, cond, List, [], ◌∷◌, ◌++◌, length, get_or, Option, Some, None, refl, sym, ap, ◌∙◌, subst, arith}
use Rattle.std.specs.Prelude.{◌*◌, sum_by, is_some, drop, IsSome, Contains, AllPairs}
use Rattle.std.specs.Option.{option_map, option_map_or, option_and_then}
use Rattle.std.proofs.Math.ListN.{set}
use Rattle.std.proofs.lemmas.List.Sums.{sum_by-cons, sum_by-append}
use Rattle.lsa_pool.specs.laws.Usages.{decided}
use Rattle.lsa_kinds.specs.declared.kind.Kind.{Kind}
use Rattle.lsa_kinds.specs.Kinds.{links_of}
use Rattle.lsa_yard.specs.Cells.{Cell, size_of, extent, cell_at, body_of, gap_of}
use Rattle.lsa_yard.specs.laws.Reading.{size-least}
use Rattle.lsa_yard.specs.laws.Changes.{split, at-behind}
use Rattle.lsa_store.specs.declared.place.Ref.{Ref}
use Rattle.lsa_store.specs.Objects.{cells_of, cell_in, body_in, one_if_live, live_count, IsChangedIn}
use Rattle.lsa_store.specs.laws.Places.{changed-here, changed-others, changed-total, and_there}

-- two lists of as many elements, each of which counts as much as the other's
pub sums-same : {X Y : Type 0} (f : X → ℕ) (g : Y → ℕ) (d : X) (e : Y) (xs : List X) (ys : List Y) → length xs ≡ length ys → ((n : ℕ) → f (get_or xs n d) ≡ g (get_or ys n e)) → sum_by f xs ≡ sum_by g ys
sums-same f g d e [] [] long same = refl
sums-same f g d e [] (y ∷ ys) long same = absurd (omega (arith, long))
sums-same f g d e (x ∷ xs) [] long same = absurd (omega (arith, long))
sums-same f g d e (x ∷ xs) (y ∷ ys) long same =
    omega (arith, sum_by-cons f x xs, sum_by-cons g y ys, same 0, sums-same f g d e xs ys (omega (arith, long)) (λ n. same (suc n)))

-- no more objects are among cells than the cells take bytes
pub count-within : (cells : List Cell) → live_count cells ≤ extent cells
count-within [] = omega arith
count-within (c ∷ cells) = omega (arith, sum_by-cons one_if_live c cells, count-within cells, size-least c, most_one (is_some c.kind))
  where
    most_one : (b : Bool) → cond b 1 0 ≤ 1
    most_one true = omega arith
    most_one false = omega arith

-- a cell counts no more than all of them
pub part-of-sum : (g : Cell → ℕ) (cells : List Cell) (offset : ℕ) (c : Cell) → cell_at cells offset ≡ Some c → g c ≤ sum_by g cells
part-of-sum g cells offset c e =
    let s = split cells offset c e in omega (arith, ap (sum_by g) s.is, sum_by-append g s.before (c ∷ s.behind), sum_by-cons g c s.behind)

-- an object becomes a gap
freed : (cells : List (List Cell)) (r : Ref) (c : Cell) → cell_in cells r ≡ Some c → (new : List (List Cell)) × IsChangedIn cells new r gap_of
freed cells r c e =
    let s = split (cells_of cells r.segment) r.offset c e in let after = s.before ++ gap_of c ∷ s.behind in (
      set cells r.segment after,
      record {
        after = after;
        is = refl;
        changed = and_there (cell_in cells r) c _ e (record { before = s.before; behind = s.behind; old_is = s.is; new_is = refl; here = s.here; size = refl });
      },
    )

module _ (weight : Cell → ℕ) (gap : (c : Cell) → c.kind ≡ None → weight c ≡ 0) where
  -- what begins at a place weighs so much
  abbrev pub weight_at : List (List Cell) → Ref → ℕ
  weight_at cells r = option_map_or weight (cell_in cells r) 0

  -- what begins at these places weighs so much
  abbrev pub weigh : List (List Cell) → List Ref → ℕ
  weigh cells refs = sum_by (weight_at cells) refs

  -- all but what begins at one place
  record IsOut (cells new : List (List Cell)) (r : Ref) : Type 0 where
    pub total : sum_by (sum_by weight) new + weight_at cells r ≡ sum_by (sum_by weight) cells
    pub here : weight_at new r ≡ 0
    pub others : (q : Ref) → q ≢ r → weight_at new q ≡ weight_at cells q

  out_of : (cells : List (List Cell)) (r : Ref) (o : Option Cell) → cell_in cells r ≡ o → (new : List (List Cell)) × IsOut cells new r
  out_of cells r None e =
      let none : weight_at cells r ≡ 0 = ap (λ o. option_map_or weight o 0) e in
      (cells, record { total = omega (arith, none); here = none; others = λ q ne. refl })
  out_of cells r (Some c) e =
      let f = freed cells r c e in let there : weight_at cells r ≡ weight c = ap (λ o. option_map_or weight o 0) e in
      let none = gap (gap_of c) refl in (
        f.0,
        record {
          total = omega (arith, changed-total cells f.0 r gap_of f.1 c e weight, there, none);
          here = ap (λ o. option_map_or weight o 0) (changed-here cells f.0 r gap_of f.1 c e) ∙ none;
          others = λ q ne. ap (λ o. option_map_or weight o 0) (changed-others cells f.0 r gap_of f.1 c e q ne);
        },
      )

  -- all but what begins at these places
  record IsLeft (cells new : List (List Cell)) (refs : List Ref) : Type 0 where
    pub total : weigh cells refs + sum_by (sum_by weight) new ≡ sum_by (sum_by weight) cells
    pub rest : (q : Ref) → (Contains refs q → ⊥) → weight_at new q ≡ weight_at cells q
    pub none : (q : Ref) → Contains refs q → weight_at new q ≡ 0

  same_weights : (old new : List (List Cell)) (refs : List Ref) → ((q : Ref) → Contains refs q → weight_at new q ≡ weight_at old q) → weigh new refs ≡ weigh old refs
  same_weights old new [] same = refl
  same_weights old new (r ∷ refs) same =
      omega (
        arith,
        sum_by-cons (weight_at old) r refs,
        sum_by-cons (weight_at new) r refs,
        same r (0, omega arith, refl),
        same_weights old new refs (λ q h. same q (suc h.0, omega (arith, h.1), h.2)),
      )

  missing : (r : Ref) (refs : List Ref) → AllPairs ◌≢◌ (r ∷ refs) → Contains refs r → ⊥
  missing r refs once h = once 0 (suc h.0) r (omega arith) (omega (arith, h.1)) (sym h.2)

  left_of : (refs : List Ref) (cells : List (List Cell)) → AllPairs ◌≢◌ refs → (new : List (List Cell)) × IsLeft cells new refs
  left_of [] cells once = (cells, record { total = omega arith; rest = λ q no. refl; none = λ q h. absurd (omega (arith, h.1)) })
  left_of (r ∷ refs) cells once =
      let o = out_of cells r (cell_in cells r) refl in
      let left = left_of refs o.0 (λ i j d less lt. once (suc i) (suc j) d (omega (arith, less)) (omega (arith, lt))) in
      let others : (q : Ref) → Contains refs q → weight_at o.0 q ≡ weight_at cells q = λ q h. o.1.others q (λ e. missing r refs once (subst (Contains refs) e h)) in (
        left.0,
        record {
          total = omega (arith, sum_by-cons (weight_at cells) r refs, same_weights cells o.0 refs others, left.1.total, o.1.total);
          rest = λ q no. left.1.rest q (λ h. no (suc h.0, omega (arith, h.1), h.2)) ∙ o.1.others q (λ e. no (0, omega arith, sym e));
          none = λ q h. elim h.0 as (λ k. (k < length (r ∷ refs)) → get_or (r ∷ refs) k q ≡ q → weight_at left.0 q ≡ 0) [
            | zero ↦ λ lt is. ap (weight_at left.0) (sym is) ∙ left.1.rest r (missing r refs once) ∙ o.1.here
            | suc k ↦ λ lt is. left.1.none q (k, omega (arith, lt), is)
          ] h.1 h.2;
        },
      )

  pub weigh-most : (refs : List Ref) (cells : List (List Cell)) → AllPairs ◌≢◌ refs → weigh cells refs ≤ sum_by (sum_by weight) cells
  weigh-most refs cells once = let left = left_of refs cells once in omega (arith, left.1.total)

  -- where nothing that begins weighs anything, all weighs nothing
  pub none-in : (cells : List Cell) → ((offset : ℕ) → option_map_or weight (cell_at cells offset) 0 ≡ 0) → sum_by weight cells ≡ 0
  none-in [] none = refl
  none-in (c ∷ cells) none =
      let rest = none-in cells (λ offset.
      let back : size_of c + offset - size_of c ≡ offset = omega arith in
      ap (λ o. option_map_or weight o 0) (ap (cell_at cells) (sym back) ∙ sym (at-behind c cells (size_of c + offset) (omega arith))) ∙ none (size_of c + offset)) in
      omega (arith, sum_by-cons weight c cells, none 0, rest)

  none_weighs : (cells : List (List Cell)) → ((n offset : ℕ) → option_map_or weight (cell_at (cells_of cells n) offset) 0 ≡ 0) → sum_by (sum_by weight) cells ≡ 0
  none_weighs [] none = refl
  none_weighs (x ∷ cells) none = omega (arith, sum_by-cons (sum_by weight) x cells, none-in x (none 0), none_weighs cells (λ n. none (suc n)))

  -- what weighs anything is an object
  pub weighs-object : (cells : List (List Cell)) (q : Ref) → weight_at cells q ≢ 0 → IsSome (body_in cells q)
  weighs-object cells q ne = at (cell_in cells q) ne
    where
      of : (c : Cell) (k : Option Kind) → c.kind ≡ k → weight c ≢ 0 → IsSome (body_of c)
      of c None e ne = absurd (ne (gap c e))
      of c (Some kind) e ne = ap (λ k. is_some {T = Kind × List ℕ} (option_map (λ (kind : Kind). (kind, drop (8 * links_of kind) c.rest)) k)) e

      at : (o : Option Cell) → option_map_or weight o 0 ≢ 0 → IsSome (option_and_then body_of o)
      at None ne = absurd (ne refl)
      at (Some c) ne = of c c.kind refl ne

  pub weigh-whole : (refs : List Ref) (cells : List (List Cell)) → AllPairs ◌≢◌ refs → ((r : Ref) → IsSome (body_in cells r) → Contains refs r) → weigh cells refs ≡ sum_by (sum_by weight) cells
  weigh-whole refs cells once each =
      let left = left_of refs cells once in
      let empty : (q : Ref) → weight_at left.0 q ≡ 0 = λ q. elim (decided (weight_at left.0 q) 0) [
        | inl e ↦ e
        | inr ne ↦
            let out : Contains refs q → ⊥ = λ h. ne (left.1.none q h) in
            absurd (out (each q (weighs-object cells q (λ e. ne (left.1.rest q out ∙ e)))))
      ] in
      omega (arith, left.1.total, none_weighs left.0 (λ n offset. empty (record { segment = n; offset = offset })))
