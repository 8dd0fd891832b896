-- A chain of versions, an ordered list of entries and a recency list in one region.
use Rattle.std.specs.Prelude.{◌≡◌, ◌≢◌, List, [], ◌∷◌, Some, None, Contains}
use Rattle.lsa_kinds.specs.declared.kind.Kind.TheVariants.{Version, Dummy}
use Rattle.lsa_store.specs.declared.place.Ref.{Ref}
use Rattle.lsa_region.specs.declared.end.Root.{Root}
use Rattle.lsa_region.specs.declared.end.End.TheVariants.{Obj, Slot}
use Rattle.lsa_region.specs.Region.{View, link_of}
use Rattle.lsa_path.specs.Path.{IsPath}
use Rattle.lsa_list.specs.declared.recency.List.{List as Slots}
use Rattle.lsa_list.specs.Recency.{IsList, kind_of}

-- from the slot chain lead the versions, the newest first; from the version top the entries, in order; and the list between the two slots has the listed objects
pub record StandsInRegion (chain : Root) (slots : Slots) (v : View) (versions : List Ref) (top : Ref) (entries listed : List Ref) : Type 0 where
  pub chained : IsPath 1 0 (link_of v) (Slot chain) versions None
  pub kinds : (r : Ref) → Contains versions r → kind_of v r ≡ Some Version
  pub ordered : IsPath 3 4 (link_of v) (Obj top 2) entries None
  pub dummies : (r : Ref) → Contains entries r → kind_of v r ≡ Some Dummy
  pub list : IsList slots v listed
  pub front : chain ≢ slots.front
  pub back : chain ≢ slots.back
