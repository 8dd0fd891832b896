-- What a path passes: each object once, what the links say, no more than there are, and the way back.
use Rattle.std.proofs.Common.{◌≡◌, ◌≢◌, ℕ, zero, suc, ◌≤◌, List, [], ◌∷◌, ◌++◌, length, get_or, reverse, cond, Option, Some, None, IsSome, is_some, inl, inr, refl, sym, ap, ◌∙◌, subst, arith}
use Rattle.std.specs.Prelude.{Contains, AllPairs, sum_by}
use Rattle.std.proofs.lemmas.Bool.{eq-eqb}
use Rattle.std.proofs.lemmas.List.{reverse-append}
use Rattle.std.proofs.lemmas.List.Elements.{Contains-get_or}
use Rattle.std.proofs.lemmas.List.Kept.{AllPairs-cons}
use Rattle.lsa_region.specs.Ref.{Ref}
use Rattle.lsa_region.specs.declared.end.End.{End}
use Rattle.lsa_region.specs.declared.end.End.TheVariants.{Obj}
use Rattle.lsa_region.specs.Layout.{object_extent}
use Rattle.lsa_region.specs.Paired.{WellPaired}
use Rattle.lsa_region.specs.Region.{View, body, link_of, IsWell, IsSummed, objects, live_bytes}
use Rattle.lsa_path.specs.Path.{IsPath, IsOutside, behind, AllOnward, entered_object, objects_from, walk}
use Rattle.lsa_path.specs.laws.Members.{member-cases, member-split, all-member, once-split}
use Rattle.lsa_path.specs.laws.Paths.{same_object, same_some, path-rest, fresh-next, fresh-start, fresh-behind, paths-apart}
use Rattle.lsa_path.specs.laws.Renamed.{some-there}

enters : (i : ℕ) (r : Ref) → entered_object i (Some (Obj r i)) ≡ Some r
enters i r = ap (λ b. cond b (Some r) None) (eq-eqb i i refl)

enters_none : (i : ℕ) (r : Ref) (f : Option End) → entered_object i f ≡ None → f ≡ Some (Obj r i) → ⊥
enters_none i r f free is = let clash : Some r ≡ None = sym (enters i r) ∙ ap (entered_object i) (sym is) ∙ free in cc

module _ (i o : ℕ) (named : End → Option End) where
  -- the links determine a path, and where it ends
  pub path-determined : (s : End) (xs ys : List Ref) (f g : Option End) → entered_object i f ≡ None → entered_object i g ≡ None → IsPath i o named s xs f → IsPath i o named s ys g → (xs ≡ ys) × (f ≡ g)
  path-determined s [] [] f g free free' p q = (refl, sym p ∙ q)
  path-determined s [] (y ∷ ys) f g free free' p q = absurd (enters_none i y f free (sym p ∙ q.0))
  path-determined s (x ∷ xs) [] f g free free' p q = absurd (enters_none i x g free' (sym q ∙ p.0))
  path-determined s (x ∷ xs) (y ∷ ys) f g free free' p q =
      let same = same_object x y i i (same_some (Obj x i) (Obj y i) (sym p.0 ∙ q.0)) in
      let w = path-determined (Obj x o) xs ys f g free free' p.1 (subst (λ r. IsPath i o named (Obj r o) ys g) (sym same) q.1) in
      (ap (λ r. r ∷ xs) same ∙ ap (λ l. y ∷ l) w.0, w.1)

  -- a walk of enough steps finds the objects of a path
  pub path-walked : (most : ℕ) (s : End) (xs : List Ref) (f : Option End) → length xs ≤ most → entered_object i f ≡ None → IsPath i o named s xs f → walk most i o named s ≡ xs
  path-walked zero s [] f le free p = refl
  path-walked zero s (x ∷ xs) f le free p = absurd (omega (arith, le))
  path-walked (suc most) s [] f le free p = ap (objects_from (λ r. walk most i o named (Obj r o))) (ap (entered_object i) p ∙ free)
  path-walked (suc most) s (x ∷ xs) f le free p =
      ap (objects_from (λ r. walk most i o named (Obj r o))) (ap (entered_object i) p.0 ∙ enters i x) ∙ ap (λ l. x ∷ l) (path-walked most (Obj x o) xs f (omega (arith, le)) free p.1)

  -- a member is entered from an end
  pub path-entered : (s : End) (xs : List Ref) (f : Option End) → IsPath i o named s xs f → (r : Ref) → Contains xs r → (a : End) × (named a ≡ Some (Obj r i))
  path-entered s [] f p r h = absurd (omega (arith, h.1))
  path-entered s (x ∷ xs) f p r h = elim (member-cases x r xs h) [
    | inl same ↦ (s, p.0 ∙ ap (λ q. Some (Obj q i)) same)
    | inr later ↦ path-entered (Obj x o) xs f p.1 r later
  ]

  -- and left, where the path ends in an end
  pub path-left : (s : End) (xs : List Ref) (f : End) → IsPath i o named s xs (Some f) → (r : Ref) → Contains xs r → IsSome (named (Obj r o))
  path-left s [] f p r h = absurd (omega (arith, h.1))
  path-left s (x ∷ []) f p r h = elim (member-cases x r [] h) [ inl same ↦ ap is_some (ap (λ q. named (Obj q o)) (sym same) ∙ p.1) | inr later ↦ absurd (omega (arith, later.1)) ]
  path-left s (x ∷ (y ∷ xs)) f p r h = elim (member-cases x r (y ∷ xs) h) [ inl same ↦ ap is_some (ap (λ q. named (Obj q o)) (sym same) ∙ p.1.0) | inr later ↦ path-left (Obj x o) (y ∷ xs) f p.1 r later ]

  pub path-pushed : (s : End) (xs : List Ref) (x : Ref) (f : Option End) → IsPath i o named s xs (Some (Obj x i)) → named (Obj x o) ≡ f → IsPath i o named s (xs ++ (x ∷ [])) f
  path-pushed s [] x f p last = (p, last)
  path-pushed s (y ∷ xs) x f p last = (p.0, path-pushed (Obj y o) xs x f p.1 last)

-- the way back
pub path-back : (i o : ℕ) (named : End → Option End) → WellPaired named → (s : End) (xs : List Ref) (f : End) → IsPath i o named s xs (Some f) → IsPath o i named f (reverse xs) (Some s)
path-back i o named well s [] f p = well.mates s f p
path-back i o named well s (x ∷ xs) f p = subst (λ l. IsPath o i named f l (Some s)) (sym (reverse-append (x ∷ []) xs))
    (path-pushed o i named f (reverse xs) x (Some s) (path-back i o named well (Obj x o) xs f p.1) (well.mates s (Obj x i) p.0))

module _ (i o : ℕ) (differ : i ≢ o) (named : End → Option End) (well : WellPaired named) where
  once_from : (s : End) (xs : List Ref) (f : Option End) → IsPath i o named s xs f → AllOnward o (λ e. e ≢ s) xs → AllPairs ◌≢◌ xs
  once_from s [] f p fresh = λ k j d less within. absurd (omega (arith, less, within))
  once_from s (x ∷ xs) f p fresh = let later = fresh-next i o differ named well s x xs f p fresh in
      AllPairs-cons ◌≢◌ x xs (λ k d within same. all-member o (λ e. e ≢ Obj x o) xs (get_or xs k d) later (Contains-get_or xs k d within) (ap (λ q. Obj q o) (sym same))) (once_from (Obj x o) xs f p.1 later)

  -- no object stands twice on a path
  pub path-once : (s : End) (xs : List Ref) (f : Option End) → IsOutside i o s → IsPath i o named s xs f → AllPairs ◌≢◌ xs
  path-once s xs f out p = once_from s xs f p (fresh-start i o differ named well s xs out)

  -- no two paths from different starts have an object in common
  pub paths-disjoint : (s t : End) (xs ys : List Ref) (f g : Option End) → IsOutside i o s → IsOutside i o t → t ≢ s → IsPath i o named s xs f → IsPath i o named t ys g → (r : Ref) → Contains xs r → Contains ys r → ⊥
  paths-disjoint s t xs ys f g out out' apart p q r on other =
      let all = paths-apart i o differ named well s xs f p t ys g out' q apart (fresh-start i o differ named well s ys out) in
      all-member o (λ d. d ≢ Obj r o) ys r (all-member o (λ e. (t ≢ e) × AllOnward o (λ d. d ≢ e) ys) xs r all on).1 other refl

  -- what an object is entered from; the object does not name itself
  pub path-named : (s : End) (xs ys : List Ref) (r : Ref) (f : Option End) → IsPath i o named s (xs ++ (r ∷ ys)) f → named (Obj r i) ≡ Some (behind o s xs)
  path-named s xs ys r f p = well.mates (behind o s xs) (Obj r i) (path-rest i o named s xs (r ∷ ys) f p).0

  split_apart : (s : End) (xs ys : List Ref) (r : Ref) (f : Option End) → IsOutside i o s → IsPath i o named s (xs ++ (r ∷ ys)) f → named (Obj r i) ≢ Some (Obj r o)
  split_apart s xs ys r f out p e = (fresh-behind i o differ named well s xs (r ∷ ys) f p (fresh-start i o differ named well s (xs ++ (r ∷ ys)) out)).0
      (same_some (Obj r o) (behind o s xs) (sym e ∙ path-named s xs ys r f p))

  pub path-apart : (s : End) (xs : List Ref) (f : Option End) → IsOutside i o s → IsPath i o named s xs f → (r : Ref) → Contains xs r → named (Obj r i) ≢ Some (Obj r o)
  path-apart s xs f out p r h = let w = member-split xs r h in split_apart s w.0 w.1 r f out (subst (λ l. IsPath i o named s l f) w.2 p)

-- an object is not beside itself
pub path-beside : (i o : ℕ) → i ≢ o → (named : End → Option End) → WellPaired named → (s : End) (xs ys : List Ref) (r : Ref) (f : Option End) → IsOutside i o s → IsPath i o named s (xs ++ (r ∷ ys)) f → Contains (xs ++ ys) r → ⊥
path-beside i o differ named well s xs ys r f out p h = once-split xs ys r (path-once i o differ named well s (xs ++ (r ∷ ys)) f out p) h

-- back from an object to the start
pub path-back_before : (i o : ℕ) (named : End → Option End) → WellPaired named → (s : End) (xs ys : List Ref) (r : Ref) (f : Option End) → IsPath i o named s (xs ++ (r ∷ ys)) f → IsPath o i named (Obj r i) (reverse xs) (Some s)
path-back_before i o named well s xs ys r f p = path-back i o named well s xs (Obj r i) (path-front s xs p)
  where
    path-front : (a : End) (zs : List Ref) → IsPath i o named a (zs ++ (r ∷ ys)) f → IsPath i o named a zs (Some (Obj r i))
    path-front a [] q = q.0
    path-front a (z ∷ zs) q = (q.0, path-front (Obj z o) zs q.1)

-- the objects of a path are live; so they are no more than there are
module _ (i o : ℕ) (differ : i ≢ o) (v : View) (well : IsWell v) (summed : IsSummed v) (s : End) (xs : List Ref) (f : Option End) (out : IsOutside i o s) (p : IsPath i o (link_of v) s xs f) where
  path-live : (r : Ref) → Contains xs r → IsSome (body v r)
  path-live r h = let a = path-entered i o (link_of v) s xs f p r h in some-there _ (body v r) (well.ends a.0 (Obj r i) a.1)

  pub path-few : length xs ≤ objects v
  path-few = summed.few xs (path-once i o differ (link_of v) well.paired s xs f out p) path-live

  pub path-bytes : sum_by (λ r. object_extent (body v r)) xs ≤ live_bytes v
  path-bytes = summed.most xs (path-once i o differ (link_of v) well.paired s xs f out p)
