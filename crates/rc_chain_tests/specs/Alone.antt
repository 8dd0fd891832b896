-- Objects that stand alone in the tests.
use Rattle.std.specs.Prelude.{◌≡◌, ℕ, None, IsSome}
use Rattle.lsa_store.specs.declared.place.Ref.{Ref}
use Rattle.lsa_region.specs.declared.end.End.TheVariants.{Obj}
use Rattle.lsa_region.specs.Region.{View, body, link_of}

-- the object is there, and none of its links is set
pub record IsAlone (v : View) (r : Ref) : Type 0 where
  pub there : IsSome (body v r)
  pub unset : (field : ℕ) → link_of v (Obj r field) ≡ None
