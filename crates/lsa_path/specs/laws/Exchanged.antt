-- A path after two ends changed places, or two objects.
use Rattle.std.proofs.Common.{◌≡◌, ◌≢◌, ℕ, List, [], ◌∷◌, ◌++◌, Option, Some, None, cond, inl, inr, refl, sym, ap, ◌∙◌, subst, map}
use Rattle.std.specs.Prelude.{Contains}
use Rattle.std.specs.Option.{option_map}
use Rattle.lsa_region.specs.Ref.{Ref}
use Rattle.lsa_region.specs.declared.end.End.{End}
use Rattle.lsa_region.specs.declared.end.End.TheVariants.{Obj}
use Rattle.lsa_region.specs.Ends.{same_ref, named_as, swapped_end}
use Rattle.lsa_region.specs.Paired.{WellPaired, IsExchanged}
use Rattle.lsa_region.specs.laws.Refs.{refs_decided, ref-itself, ref-false}
use Rattle.lsa_region.specs.laws.Exchanges.{swap-first, swap-second, swap-other, map_other, at_end, swap_twice}
use Rattle.lsa_path.specs.Path.{IsPath, IsOutside, IsOutsideOrUnset, AllOnward, exchanged_end, each_other}
use Rattle.lsa_path.specs.laws.Members.{all-from_members, map-split}
use Rattle.lsa_path.specs.laws.Passing.{path-beside}
use Rattle.lsa_path.specs.laws.Paths.{same_field, same_object, outside-toward, outside-onward}
use Rattle.lsa_path.specs.laws.Renamed.{path-mapped}

-- ends that a path neither enters nor leaves by change places
module _ (i o : ℕ) (old new : End → Option End) (a b : End) (ex : IsExchanged old new a b) where
  pub path-exchanged : (s : End) (xs : List Ref) (f : Option End) → s ≢ a → s ≢ b → f ≢ Some a → f ≢ Some b → AllOnward i (λ e. (e ≢ a) × (e ≢ b)) xs → AllOnward o (λ e. (e ≢ a) × (e ≢ b)) xs → IsPath i o old s xs f → IsPath i o new s xs f
  path-exchanged s [] f no_a no_b fin_a fin_b into out p = ex.others s no_a no_b ∙ ap (option_map (swapped_end a b)) p ∙ map_other a b f fin_a fin_b
  path-exchanged s (x ∷ xs) f no_a no_b fin_a fin_b into out p = (
    ex.others s no_a no_b ∙ ap (option_map (swapped_end a b)) p.0 ∙ ap (λ e. Some e) (swap-other a b (Obj x i) into.0.0 into.0.1),
    path-exchanged (Obj x o) xs f out.0.0 out.0.1 fin_a fin_b into.1 out.1 p.1,
  )

  pub path-exchanged_outside : (s : End) (xs : List Ref) (f : Option End) → IsOutside i o a → IsOutside i o b → s ≢ a → s ≢ b → f ≢ Some a → f ≢ Some b → IsPath i o old s xs f → IsPath i o new s xs f
  path-exchanged_outside s xs f out_a out_b no_a no_b fin_a fin_b p = path-exchanged s xs f no_a no_b fin_a fin_b
      (all-from_members i (λ e. (e ≢ a) × (e ≢ b)) xs (λ r h. ((λ same. outside-toward i o a r out_a (sym same)), (λ same. outside-toward i o b r out_b (sym same)))))
      (all-from_members o (λ e. (e ≢ a) × (e ≢ b)) xs (λ r h. ((λ same. outside-onward i o a r out_a (sym same)), (λ same. outside-onward i o b r out_b (sym same))))) p

-- the names of two objects, each the other's
module _ (r q : Ref) (apart : r ≢ q) where
  pub other-first : named_as (each_other r q) r ≡ q
  other-first = ap (λ t. cond t q (cond (same_ref q r) r r)) (ref-itself r)

  pub other-second : named_as (each_other r q) q ≡ r
  other-second = ap (λ t. cond t q (cond (same_ref q q) r q)) (ref-false r q apart) ∙ ap (λ t. cond t r q) (ref-itself q)

  pub other-none : (x : Ref) → x ≢ r → x ≢ q → named_as (each_other r q) x ≡ x
  other-none x no_r no_q = ap (λ t. cond t q (cond (same_ref q x) r x)) (ref-false r x (λ e. no_r (sym e))) ∙ ap (λ t. cond t r x) (ref-false q x (λ e. no_q (sym e)))

  -- one field of both
  swapped-field : (f : ℕ) (x : Ref) → swapped_end (Obj r f) (Obj q f) (Obj x f) ≡ Obj (named_as (each_other r q) x) f
  swapped-field f x = elim (refs_decided x r) [
    | inl same ↦ ap (λ y. swapped_end (Obj r f) (Obj q f) (Obj y f)) same ∙ swap-first (Obj r f) (Obj q f) ∙ ap (λ y. Obj y f) (sym other-first ∙ ap (named_as (each_other r q)) (sym same))
    | inr no_r ↦ elim (refs_decided x q) [
      | inl same ↦ ap (λ y. swapped_end (Obj r f) (Obj q f) (Obj y f)) same ∙ swap-second (Obj r f) (Obj q f) (λ e. apart (same_object r q f f e)) ∙ ap (λ y. Obj y f) (sym other-second ∙ ap (named_as (each_other r q)) (sym same))
      | inr no_q ↦ swap-other (Obj r f) (Obj q f) (Obj x f) (λ e. no_r (same_object x r f f e)) (λ e. no_q (same_object x q f f e)) ∙ ap (λ y. Obj y f) (sym (other-none x no_r no_q))
    ]
  ]

  -- another field stays
  swapped-past : (f g : ℕ) (x : Ref) → g ≢ f → swapped_end (Obj r f) (Obj q f) (Obj x g) ≡ Obj x g
  swapped-past f g x ne = swap-other (Obj r f) (Obj q f) (Obj x g) (λ e. ne (same_field x r g f e)) (λ e. ne (same_field x q g f e))

  module _ (i o : ℕ) (differ : i ≢ o) where
    pub exchanged-toward : (x : Ref) → exchanged_end i o r q (Obj x i) ≡ Obj (named_as (each_other r q) x) i
    exchanged-toward x = ap (swapped_end (Obj r o) (Obj q o)) (swapped-field i x) ∙ swapped-past o i (named_as (each_other r q) x) differ

    pub exchanged-onward : (x : Ref) → exchanged_end i o r q (Obj x o) ≡ Obj (named_as (each_other r q) x) o
    exchanged-onward x = ap (swapped_end (Obj r o) (Obj q o)) (swapped-past i o x (λ e. differ (sym e))) ∙ swapped-field o x

    exchanged-outside : (e : End) → IsOutside i o e → exchanged_end i o r q e ≡ e
    exchanged-outside e out = ap (swapped_end (Obj r o) (Obj q o)) (swap-other (Obj r i) (Obj q i) e (outside-toward i o e r out) (outside-toward i o e q out)) ∙ swap-other (Obj r o) (Obj q o) e (outside-onward i o e r out) (outside-onward i o e q out)

    exchanged-finish : (f : Option End) → IsOutsideOrUnset i o f → option_map (exchanged_end i o r q) f ≡ f
    exchanged-finish None out = refl
    exchanged-finish (Some e) out = ap (λ x. Some x) (exchanged-outside e out)

    twice : (f g : End → End) (x : Option End) → option_map g (option_map f x) ≡ option_map (λ e. g (f e)) x
    twice f g None = refl
    twice f g (Some e) = refl

    module _ (old mid new : End → Option End) (first : IsExchanged old mid (Obj r i) (Obj q i)) (second : IsExchanged mid new (Obj r o) (Obj q o)) where
      -- two objects have changed places in both links
      pub objects-exchanged : (e : End) → new (exchanged_end i o r q e) ≡ option_map (exchanged_end i o r q) (old e)
      objects-exchanged e =
          let one = swapped_end (Obj r i) (Obj q i) in let two = swapped_end (Obj r o) (Obj q o) in
          let apart_i : Obj r i ≢ Obj q i = λ x. apart (same_object r q i i x) in let apart_o : Obj r o ≢ Obj q o = λ x. apart (same_object r q o o x) in
          at_end mid new (Obj r o) (Obj q o) apart_o second (two (one e)) ∙ ap (λ d. option_map two (mid d)) (swap_twice (Obj r o) (Obj q o) (one e) apart_o)
          ∙ ap (option_map two) (at_end old mid (Obj r i) (Obj q i) apart_i first (one e)) ∙ ap (λ d. option_map two (option_map one (old d))) (swap_twice (Obj r i) (Obj q i) e apart_i)
          ∙ twice one two (old e)

    module _ (old new : End → Option End) (links : (e : End) → new (exchanged_end i o r q e) ≡ option_map (exchanged_end i o r q) (old e)) where
      -- each stands on paths where the other stood
      pub path-renamed_objects : (s : End) (xs : List Ref) (f : Option End) → IsOutside i o s → IsOutsideOrUnset i o f → IsPath i o old s xs f → IsPath i o new s (map (named_as (each_other r q)) xs) f
      path-renamed_objects s xs f out out' p =
          let w = path-mapped i o old new (exchanged_end i o r q) (named_as (each_other r q)) exchanged-toward exchanged-onward links s xs f p in
          subst (λ g. IsPath i o new s (map (named_as (each_other r q)) xs) g) (exchanged-finish f out') (subst (λ a. IsPath i o new a (map (named_as (each_other r q)) xs) (option_map (exchanged_end i o r q) f)) (exchanged-outside s out) w)

      -- an end beside, that names one beside, names what it did
      pub exchanged-beside : (e : End) → IsOutside i o e → IsOutsideOrUnset i o (old e) → new e ≡ old e
      exchanged-beside e out out' = ap new (sym (exchanged-outside e out)) ∙ links e ∙ exchanged-finish (old e) out'

      -- one stands where the other stood
      pub path-replaced : WellPaired old → (s : End) (xs ys : List Ref) (f : Option End) → IsOutside i o s → IsOutsideOrUnset i o f → (Contains (xs ++ ys) q → ⊥) → IsPath i o old s (xs ++ (r ∷ ys)) f → IsPath i o new s (xs ++ (q ∷ ys)) f
      path-replaced well s xs ys f out out' free p = subst (λ l. IsPath i o new s l f)
          (map-split (named_as (each_other r q)) xs ys r q other-first (λ x h. other-none x (λ is. path-beside i o differ old well s xs ys r f out p (subst (Contains (xs ++ ys)) is h)) (λ is. free (subst (Contains (xs ++ ys)) is h))))
          (path-renamed_objects s (xs ++ (r ∷ ys)) f out out' p)
