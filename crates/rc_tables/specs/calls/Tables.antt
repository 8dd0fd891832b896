-- What some tables of a set say of a key, joined so far.
use Rattle.std.specs.Prelude.{ℕ, ◌≤◌, List, ◌++◌, length}
use Rattle.std.specs.List.{AllByRecursion}
use Rattle.rc_schema.specs.SchemaValue.{SchemaValue}
use Rattle.rc_mutation.specs.declared.mutations.Mutation.{Mutation}
use Rattle.rc_mutation.specs.Source.{IsJoinOf}
use Rattle.rc_tfile.specs.declared.info.TableInfo.{TableInfo}
use Rattle.rc_tables.specs.Located.{SaysOf}
use Rattle.rc_tables.specs.Tables.{listing}

-- some changes of a key were joined to a mutation, at most one of each table that lists it
pub record JoinsSome (schema : SchemaValue) (infos : List TableInfo) (key : List ℕ) (old now : Mutation) : Type 0 where
  pub changes : List Mutation
  pub joined : (done : List Mutation) → IsJoinOf old done → IsJoinOf now (done ++ changes)
  pub count : length changes ≤ listing key infos
  pub fit : AllByRecursion (SaysOf schema) changes
