-- The vacant numbers of a list, where one more is taken or given back.
use Rattle.std.proofs.Common.{◌≡◌, ◌≢◌, ℕ, zero, suc, ◌+◌, ◌<◌, List, [], ◌∷◌, ◌++◌, length, get_or, cond, Option, Some, None, refl, sym, ap, subst, ◌∙◌, arith, length-append}
use Rattle.std.specs.Prelude.{count_by, is_some}
use Rattle.std.proofs.Math.ListN.{set}
use Rattle.std.proofs.lemmas.List.{length-set, get_or-set_other}
use Rattle.std.proofs.lemmas.List.Sums.{sum_by-set, sum_by-cons, count_by-le-length}
use Rattle.lsa_store.specs.Usages.{set_elim}
use Rattle.lsa_region.specs.Layout.{IsVacancy}

pub there : {X : Type 0} (xs : List (Option X)) (n : ℕ) (x : X) → get_or xs n None ≡ Some x → n < length xs
there [] n x e = cc
there (y ∷ xs) zero x e = omega arith
there (y ∷ xs) (suc n) x e = omega (arith, there xs n x e)

pub count-set : {X : Type 0} (xs : List (Option X)) (n : ℕ) (x : Option X) → n < length xs
    → count_by (λ o. is_some o) (set xs n x) + cond (is_some (get_or xs n None)) 1 0 ≡ count_by (λ o. is_some o) xs + cond (is_some x) 1 0
count-set xs n x lt = sum_by-set (λ o. cond (is_some o) 1 0) xs n x None lt

module _ {X : Type 0} (xs : List (Option X)) (vacant : List ℕ) (vacant_len : ℕ) (vacancy : IsVacancy xs vacant vacant_len) where
  -- the last vacant number
  pub vacancy-last : (r before : ℕ) → vacant_len ≡ before + 1 → r ≡ get_or vacant before 0 → (r < length xs) × (get_or xs r None ≡ None)
  vacancy-last r before counted is = (omega (arith, vacancy.within before (omega arith)), ap (λ k. get_or xs k None) is ∙ vacancy.empty before (omega arith))

  pub vacancy-take : (r before : ℕ) (p : X) → vacant_len ≡ before + 1 → r ≡ get_or vacant before 0 → IsVacancy (set xs r (Some p)) vacant before
  vacancy-take r before p counted is =
      let last = vacancy-last r before counted is in let long = length-set xs r (Some p) in
      let one : ◌≡◌ {A = ℕ} (cond (is_some (get_or xs r None)) 1 0) 0 = ap (λ o. cond (is_some o) 1 0) last.1 in
      record {
        long = omega (arith, vacancy.long, long);
        counted = omega (arith, vacancy.counted, long, counted, one, count-set xs r (Some p) last.0);
        within = λ k below. omega (arith, long, vacancy.within k (omega arith));
        empty = λ k below. set_elim None (λ j w. j ≢ r → get_or xs j None ≡ None → w ≡ None) xs r (Some p) (get_or vacant k 0) last.0 (λ ne. absurd (ne refl)) (λ _ _ e. e)
            (λ e. vacancy.once k before below (omega arith) (e ∙ is)) (vacancy.empty k (omega arith));
        once = λ j k less below. vacancy.once j k less (omega arith);
      }

  pub vacancy-room : (r : ℕ) (p : X) → get_or xs r None ≡ Some p → vacant_len < length vacant
  vacancy-room r p known =
      let lt = there xs r p known in let one : ◌≡◌ {A = ℕ} (cond (is_some (get_or xs r None)) 1 0) 1 = ap (λ o. cond (is_some o) 1 0) known in
      omega (arith, vacancy.counted, vacancy.long, one, count-set xs r None lt, length-set xs r None, count_by-le-length (λ o. is_some o) (set xs r None))

  pub vacancy-give : (r : ℕ) (p : X) → get_or xs r None ≡ Some p → IsVacancy (set xs r None) (set vacant vacant_len r) (vacant_len + 1)
  vacancy-give r p known =
      let lt = there xs r p known in let long = length-set xs r None in
      let one : ◌≡◌ {A = ℕ} (cond (is_some (get_or xs r None)) 1 0) 1 = ap (λ o. cond (is_some o) 1 0) known in
      let room = vacancy-room r p known in
      record {
        long = omega (arith, length-set vacant vacant_len r, vacancy.long, long);
        counted = omega (arith, vacancy.counted, long, one, count-set xs r None lt);
        within = λ k below. set_elim 0 (λ j w. j < vacant_len + 1 → w < length (set xs r None)) vacant vacant_len r k room (λ _. omega (arith, long)) (λ ne less. omega (arith, long, vacancy.within k (omega arith))) below;
        empty = λ k below. set_elim 0 (λ j w. j < vacant_len + 1 → get_or (set xs r None) w None ≡ None) vacant vacant_len r k room
            (λ _. set_elim None (λ j w. j ≡ r → w ≡ None) xs r None r lt (λ _. refl) (λ ne e. absurd (ne e)) refl)
            (λ ne less. set_elim None (λ j w. get_or xs j None ≡ None → w ≡ None) xs r None (get_or vacant k 0) lt (λ _. refl) (λ _ e. e) (vacancy.empty k (omega arith))) below;
        once = λ j k less below. let old : get_or (set vacant vacant_len r) j 0 ≡ get_or vacant j 0 = get_or-set_other vacant vacant_len j r 0 (omega arith) in
            set_elim 0 (λ i w. j < i → i < vacant_len + 1 → get_or (set vacant vacant_len r) j 0 ≢ w) vacant vacant_len r k room
            (λ before _ e. let none = vacancy.empty j (omega arith) in let at = ap (λ i. get_or xs i None) (sym old ∙ e) in let clash = sym none ∙ at ∙ known in cc)
            (λ ne before upto e. vacancy.once j k before (omega arith) (sym old ∙ e)) less below;
      }

  -- where nothing is vacant one more is there, and the list of vacant numbers has one more place
  pub vacancy-more : (p : X) (spare : ℕ) → vacant_len ≡ 0 → IsVacancy (xs ++ Some p ∷ []) (vacant ++ spare ∷ []) vacant_len
  vacancy-more p spare none =
      record {
        long = omega (arith, vacancy.long, length-append xs (Some p ∷ []), length-append vacant (spare ∷ []));
        counted = omega (arith, vacancy.counted, length-append xs (Some p ∷ []), count-push xs p);
        within = λ k below. absurd (omega (arith, none, below));
        empty = λ k below. absurd (omega (arith, none, below));
        once = λ j k less below. absurd (omega (arith, none, below));
      }
    where
      count-push : (ys : List (Option X)) (q : X) → count_by (λ o. is_some o) (ys ++ Some q ∷ []) ≡ count_by (λ o. is_some o) ys + 1
      count-push [] q = refl
      count-push (y ∷ ys) q = let f : Option X → ℕ = λ o. cond (is_some o) 1 0 in omega (arith, sum_by-cons f y (ys ++ Some q ∷ []), sum_by-cons f y ys, count-push ys q)

  -- another name for a slot that is there
  pub vacancy-same : (r : ℕ) (p q : X) → get_or xs r None ≡ Some p → IsVacancy (set xs r (Some q)) vacant vacant_len
  vacancy-same r p q known =
      let lt = there xs r p known in let long = length-set xs r (Some q) in
      let one : ◌≡◌ {A = ℕ} (cond (is_some (get_or xs r None)) 1 0) 1 = ap (λ o. cond (is_some o) 1 0) known in
      record {
        long = omega (arith, vacancy.long, long);
        counted = omega (arith, vacancy.counted, long, one, count-set xs r (Some q) lt);
        within = λ k below. omega (arith, long, vacancy.within k below);
        empty = λ k below. set_elim None (λ j w. get_or xs j None ≡ None → w ≡ None) xs r (Some q) (get_or vacant k 0) lt (λ e. let clash = sym e ∙ known in cc) (λ _ e. e) (vacancy.empty k below);
        once = vacancy.once;
      }

  -- more places for vacant numbers, none of which is taken
  pub vacancy-wider : (spare : ℕ) → IsVacancy xs (vacant ++ spare ∷ []) vacant_len
  vacancy-wider spare =
      record {
        long = omega (arith, vacancy.long, length-append vacant (spare ∷ []));
        counted = vacancy.counted;
        within = λ k below. subst (λ v. v < length xs) (sym (kept k below)) (vacancy.within k below);
        empty = λ k below. ap (λ v. get_or xs v None) (kept k below) ∙ vacancy.empty k below;
        once = λ j k less below e. vacancy.once j k less below (sym (kept j (omega arith)) ∙ e ∙ kept k below);
      }
    where
      front : (ys zs : List ℕ) (k : ℕ) → k < length ys → get_or (ys ++ zs) k 0 ≡ get_or ys k 0
      front [] zs k lt = absurd (omega arith)
      front (y ∷ ys) zs zero lt = refl
      front (y ∷ ys) zs (suc k) lt = front ys zs k (omega arith)

      kept : (k : ℕ) → k < vacant_len → get_or (vacant ++ spare ∷ []) k 0 ≡ get_or vacant k 0
      kept k below = front vacant (spare ∷ []) k (omega (arith, vacancy.counted, vacancy.long, below))
