-- What a path that changes leaves: the ends beside it.
use Rattle.std.proofs.Common.{◌≡◌, ◌≢◌, ℕ, List, [], ◌∷◌, ◌++◌, Option, Some, sym, ap, ◌∙◌, subst}
use Rattle.lsa_region.specs.Ref.{Ref}
use Rattle.lsa_region.specs.declared.end.End.{End}
use Rattle.lsa_region.specs.declared.end.End.TheVariants.{Obj}
use Rattle.lsa_region.specs.Paired.{WellPaired}
use Rattle.lsa_path.specs.Path.{IsPath, IsOutside, IsOutsideOrUnset, behind, IsInserted, IsTakenOut}
use Rattle.lsa_path.specs.laws.Paths.{same_some, outside-toward, outside-onward, path-rest}

module _ (i o : ℕ) (named : End → Option End) (e : End) (off : IsOutside i o e) where
  behind-off : (s : End) (xs : List Ref) → s ≢ e → behind o s xs ≢ e
  behind-off s [] ne = ne
  behind-off s (x ∷ xs) ne = behind-off (Obj x o) xs (λ same. outside-onward i o e x off (sym same))

  leads-off : (s : End) (xs : List Ref) (f : Option End) → IsPath i o named s xs f → f ≢ Some e → named s ≢ Some e
  leads-off s [] f p ne is = ne (sym p ∙ is)
  leads-off s (x ∷ xs) f p ne is = outside-toward i o e x off (same_some e (Obj x i) (sym is ∙ p.0))

  -- where one is inserted into the path
  pub inserted-beside : (new : End → Option End) (a : End) (r : Ref) → IsInserted named new a (Obj r i) (Obj r o) → (s : End) (xs ys : List Ref) (f : Option End) → s ≢ e → f ≢ Some e → IsPath i o named s (xs ++ ys) f → behind o s xs ≡ a → new e ≡ named e
  inserted-beside new a r ins s xs ys f start finish p is = ins.others e (λ same. behind-off s xs start (is ∙ sym same)) (outside-toward i o e r off) (outside-onward i o e r off)
      (λ mate. leads-off (behind o s xs) ys f (path-rest i o named s xs ys f p) finish (ap named is ∙ mate))

  -- where one is taken out of it
  pub taken-beside : WellPaired named → (new : End → Option End) (r : Ref) → IsTakenOut named new (Obj r i) (Obj r o) → (s : End) (xs ys : List Ref) (f : Option End) → s ≢ e → f ≢ Some e → IsPath i o named s (xs ++ (r ∷ ys)) f → new e ≡ named e
  taken-beside well new r out s xs ys f start finish p =
      let rest = path-rest i o named s xs (r ∷ ys) f p in
      out.others e (outside-toward i o e r off) (outside-onward i o e r off)
      (λ mate. behind-off s xs start (same_some (behind o s xs) e (sym (well.mates (behind o s xs) (Obj r i) rest.0) ∙ mate)))
      (leads-off (Obj r o) ys f rest.1 finish)

-- a path of other links than those of objects that changed places
pub path-aside : (j k : ℕ) (old new : End → Option End) → ((e : End) → IsOutside j k e → IsOutsideOrUnset j k (old e) → new e ≡ old e) → (i o : ℕ) → i ≢ j → i ≢ k → o ≢ j → o ≢ k
    → (s : End) (xs : List Ref) (f : Option End) → IsOutside j k s → IsOutsideOrUnset j k f → IsPath i o old s xs f → IsPath i o new s xs f
path-aside j k old new same i o ij ik oj ok s [] f out out' p = same s out (subst (IsOutsideOrUnset j k) (sym p) out') ∙ p
path-aside j k old new same i o ij ik oj ok s (x ∷ xs) f out out' p = (
  same s out (subst (IsOutsideOrUnset j k) (sym p.0) (ij, ik)) ∙ p.0,
  path-aside j k old new same i o ij ik oj ok (Obj x o) xs f (oj, ok) out' p.1,
)
