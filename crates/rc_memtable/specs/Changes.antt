-- What is written of one partition, as a chain of its versions stands for it.
use Rattle.std.specs.Prelude.{◌≡◌, true, List}
use Rattle.rc_position.specs.Position.{Head}
use Rattle.rc_schema.specs.SchemaValue.{SchemaValue}
use Rattle.rc_mutation.specs.declared.mutations.Mutation.{Mutation}
use Rattle.rc_core.specs.declared.entries.ChainKind.TheVariants.{Memtable}
use Rattle.rc_core.specs.Chains.{IsMemtableChain, Shown, at_place}
use Rattle.rc_core.specs.Continuity.{EachOf}
use Rattle.rc_core.specs.StandsFor.{StandsFor}
use Rattle.rc_memtable.specs.Fits.{IsVersionUnder}

-- a memtable's chain, found by its key, stands for what is written of its partition, and all that it holds is of the schema
pub record KeepsChanges (schema : SchemaValue) (c : Shown) (changes : List Mutation) : Type 0 where
  pub kind : c.kind ≡ Memtable
  pub attached : c.attached ≡ true
  pub form : IsMemtableChain (at_place Head c)
  pub stands : StandsFor changes c.versions
  pub fits : EachOf (IsVersionUnder schema) c.versions
