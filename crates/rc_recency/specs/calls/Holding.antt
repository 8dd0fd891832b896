-- The recency list with one place more.
use Rattle.std.specs.Prelude.{List, [], ◌∷◌, ◌++◌, Option, Some, None, Contains}
use Rattle.rc_core.specs.declared.entries.ChainKind.{ChainKind}
use Rattle.rc_core.specs.declared.entries.ChainKind.TheVariants.{Cache, Memtable}
use Rattle.rc_memory.specs.Memory.{Member, Memory, IsMemberObject}
use Rattle.lsa_store.specs.declared.place.Ref.{Ref}

-- what is found at a place: the object there; or none, and then the recency list does not have it
abbrev pub IsFoundAt : Memory → Member → Option Ref → Type 0
IsFoundAt m w None = Contains m.recency w → ⊥
IsFoundAt m w (Some r) = IsMemberObject m r w

-- the recency list with a place at its back, where the chain is a cache chain's
abbrev pub list_with : ChainKind → Member → List Member → List Member
list_with Memtable w list = list
list_with Cache w list = list ++ (w ∷ [])
