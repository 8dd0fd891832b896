-- A path after its objects got other names, and where some of its links name others.
use Rattle.std.proofs.Common.{◌≡◌, ◌≢◌, ℕ, List, [], ◌∷◌, Option, Some, None, refl, ap, ◌∙◌, subst, map}
use Rattle.std.specs.Prelude.{IsSome, IsSomeAnd}
use Rattle.std.specs.Option.{option_map}
use Rattle.lsa_region.specs.Ref.{Ref}
use Rattle.lsa_region.specs.declared.end.End.{End}
use Rattle.lsa_region.specs.declared.end.End.TheVariants.{Obj, Slot}
use Rattle.lsa_region.specs.Ends.{named_as, end_as}
use Rattle.lsa_region.specs.Region.{View, body, link_of, IsEnd, IsWell, Renamed}
use Rattle.lsa_path.specs.Path.{IsPath, IsOfLive}

pub some-there : {A : Type 0} (P : A → Type 0) (o : Option A) → IsSomeAnd o P → IsSome o
some-there P None h = absurd h
some-there P (Some x) h = refl

-- an end that is there is one of a live object, or a root slot
pub end-live : (v : View) (e : End) → IsEnd v e → IsOfLive v e
end-live v (Obj r field) h = some-there _ (body v r) h
end-live v (Slot s) h = tt

-- where each end that a path leaves by is renamed as its object is
pub path-mapped : (i o : ℕ) (old new : End → Option End) (ends : End → End) (refs : Ref → Ref) → ((x : Ref) → ends (Obj x i) ≡ Obj (refs x) i) → ((x : Ref) → ends (Obj x o) ≡ Obj (refs x) o)
    → ((e : End) → new (ends e) ≡ option_map ends (old e)) → (s : End) (xs : List Ref) (f : Option End) → IsPath i o old s xs f → IsPath i o new (ends s) (map refs xs) (option_map ends f)
path-mapped i o old new ends refs toward onward links s [] f p = links s ∙ ap (option_map ends) p
path-mapped i o old new ends refs toward onward links s (x ∷ xs) f p = (
  links s ∙ ap (option_map ends) p.0 ∙ ap (λ e. Some e) (toward x),
  subst (λ e. IsPath i o new e (map refs xs) (option_map ends f)) (onward x) (path-mapped i o old new ends refs toward onward links (Obj x o) xs f p.1),
)

module _ (old new : View) (names : List (Ref × Ref)) (renamed : Renamed old new names) (well : IsWell old) where
  link_renamed : (e : End) → IsOfLive old e → link_of new (end_as names e) ≡ option_map (end_as names) (link_of old e)
  link_renamed (Obj r field) live = renamed.links r field live
  link_renamed (Slot s) live = renamed.roots s

  -- a path, renamed: the path of the new names
  pub path-renamed : (i o : ℕ) (s : End) (refs : List Ref) (f : Option End) → IsOfLive old s → IsPath i o (link_of old) s refs f → IsPath i o (link_of new) (end_as names s) (map (named_as names) refs) (option_map (end_as names) f)
  path-renamed i o s [] f live p = link_renamed s live ∙ ap (option_map (end_as names)) p
  path-renamed i o s (r ∷ refs) f live p = (
    link_renamed s live ∙ ap (option_map (end_as names)) p.0,
    path-renamed i o (Obj r o) refs f (some-there _ (body old r) (well.ends s (Obj r i) p.0)) p.1,
  )
