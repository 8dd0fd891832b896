-- The number of the last of some tables, which are shown in another form.
use Rattle.std.proofs.Common.{◌≡◌, ◌-◌, List, [], ◌∷◌, length, refl, sym, ap, subst, ◌∙◌, option_map, slice_get, map as list_map}
use Rattle.std.proofs.lemmas.List.{length-map}
use Rattle.std.proofs.lemmas.Option.{slice_get-map}
use Rattle.rc_tfile.specs.declared.info.TableInfo.{TableInfo}

module _ {X : Type 0} (f : X → TableInfo) where
  numbered : (ts : List X) → list_map (λ (t : X). (f t).number) ts ≡ list_map (λ (i : TableInfo). i.number) (list_map f ts)
  numbered [] = refl
  numbered (t ∷ ts) = ap (λ ns. (f t).number ∷ ns) (numbered ts)

  pub last_of : (ts : List X) (infos : List TableInfo) → list_map f ts ≡ infos → option_map (λ (t : X). (f t).number) (slice_get ts (length ts - 1)) ≡ slice_get (list_map (λ (i : TableInfo). i.number) infos) (length infos - 1)
  last_of ts infos e =
      subst (λ (is : List TableInfo). option_map (λ (t : X). (f t).number) (slice_get ts (length ts - 1)) ≡ slice_get (list_map (λ (i : TableInfo). i.number) is) (length is - 1)) e
      (sym (slice_get-map (λ (t : X). (f t).number) ts (length ts - 1))
      ∙ ap (λ ns. slice_get ns (length ts - 1)) (numbered ts)
      ∙ ap (λ k. slice_get (list_map (λ (i : TableInfo). i.number) (list_map f ts)) (k - 1)) (sym (length-map ts f)))
