-- Whether keys ascend is said of the keys alone.
use Rattle.std.specs.Prelude.{◌≡◌, Bool, true, ◌&&◌, List, [], ◌∷◌, map as list_map}
use Rattle.std.proofs.Common.{refl, sym, ap, ◌∙◌}
use Rattle.std.specs.declared.cmp.Ordering.{Ordering}
use Rattle.std.specs.Ordering.{is_lt}
use Rattle.std.specs.List.{list_all}
use Rattle.std.specs.FinMap as map
use Rattle.std.specs.FinMap.{is_sorted}
use Rattle.std.specs.FinMap.Entries.{below_all}
use Rattle.rc_cell.specs.laws.ByColumn.{holds}

module _ {K : Type 0} (R : K → K → Ordering) where
  -- whether keys strictly ascend
  abbrev ascend : List K → Bool
  ascend [] = true
  ascend (k ∷ ks) = list_all (λ q. is_lt (R k q)) ks && ascend ks

  module _ {X : Type 0} where
    below_keys : (k : K) (es : List (K × X)) → below_all R k es ≡ list_all (λ q. is_lt (R k q)) (list_map (λ (e : K × X). e.0) es)
    below_keys k [] = refl
    below_keys k (e ∷ es) = ap (λ b. is_lt (R k e.0) && b) (below_keys k es)

    sorted_keys : (es : List (K × X)) → is_sorted R es ≡ ascend (list_map (λ (e : K × X). e.0) es)
    sorted_keys [] = refl
    sorted_keys (e ∷ es) = λ i. below_keys e.0 es i && sorted_keys es i

  module _ {X Z : Type 0} (key : Z → K) (value : Z → X) where
    keys_of : (zs : List Z) → list_map (λ (e : K × X). e.0) (list_map (λ z. (key z, value z)) zs) ≡ list_map key zs
    keys_of [] = refl
    keys_of (z ∷ zs) = ap (λ ks. key z ∷ ks) (keys_of zs)

    -- values, each with a key, ascend where their keys are those of a map
    pub ascend_as : {Y : Type 0} (zs : List Z) (m : map.FinMap R Y) → list_map key zs ≡ map.keys m → is_sorted R (list_map (λ z. (key z, value z)) zs) ≡ true
    ascend_as zs m e =
        sorted_keys (list_map (λ z. (key z, value z)) zs)
        ∙ ap ascend (keys_of zs ∙ e)
        ∙ sym (sorted_keys (map.entries m))
        ∙ holds (is_sorted R (map.entries m)) (map.entries_sorted m)
