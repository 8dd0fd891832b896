-- What the tables of its opening say anew to a reader that goes on past the row cache.
--     IsJoinBelow    a mutation is the join of what lies below the row cache, and of what the tables said
--     IsReaderOver   an open reader over the row cache is the machine's
--     IsReadAnew     a mutation is what the first tables say now
--     IsToldAnew     what they say now may be told to the machine's reader, and then these lines are left to it
use Rattle.std.specs.Prelude.{◌≡◌, ◌≤◌, ℕ, List, ◌++◌, MatchOption}
use Rattle.rc_schema.specs.SchemaValue.{SchemaValue}
use Rattle.rc_writes.specs.Allowed.{ChangeFits}
use Rattle.rc_mutation.specs.declared.mutations.Mutation.{Mutation}
use Rattle.rc_mutation.specs.Source.{IsJoinOf, IsMutation}
use Rattle.rc_query.specs.declared.lines.OutLine.{OutLine}
use Rattle.rc_tfile.specs.declared.info.TableInfo.{TableInfo}
use Rattle.rc_tables.specs.Tables.{listing}
use Rattle.rc_memory.specs.Memory.{Memory}
use Rattle.rc_opened.specs.Opened.{AreChangesOf}
use Rattle.rc_paging.specs.declared.pages.OpenReader.{OpenReader}
use Rattle.rc_paging.specs.Pages.{LinesAreLeft}
use Rattle.rc_paging.specs.Remainders.{IsRemainderOf}
use Rattle.rc_machine.specs.State.{Reader, State, rest_of}
use Rattle.rc_machine.specs.Steps.{IsResaid}
use Rattle.rc_folder.specs.Tabled.{IsSaidByFirst}

-- a mutation that fits the schema is the join of what lies below the row cache, and of what the tables said
pub record IsJoinBelow (schema : SchemaValue) (below said : List Mutation) : Type 0 where
  pub join : Mutation
  pub mutation : IsMutation join
  pub fits : ChangeFits schema join
  pub below_cache : IsJoinOf join below
  pub of_tables : IsJoinOf join said

-- an open reader over the row cache is the machine's, which was opened over the first tables: what lies below its snapshot is what they said, what was sealed and active then is what stood in no table, and the same lines are left to both; once a page told it whether there is a next line, that one is settled
pub record IsReaderOver (schema : SchemaValue) (m : State) (first : List TableInfo) (memory : Memory) (o : OpenReader) (below sealed active : List Mutation) (r : Reader) : Type 0 where
  pub left : LinesAreLeft 131072 memory o below (rest_of r)
  pub slice : IsRemainderOf r.slice o.remainder
  pub settled : MatchOption o.behind (r.settled ≡ 0) (λ kept. 1 ≤ r.settled)
  pub writes : r.writes ≡ sealed ++ active
  pub of_below : AreChangesOf schema below
  pub of_sealed : AreChangesOf schema sealed
  pub of_active : AreChangesOf schema active
  pub joins : IsJoinBelow schema below r.said
  pub by_first : IsSaidByFirst m first r.key r.said
  pub listed : r.listed ≡ listing r.key first
  pub schema_is : m.schema ≡ schema

-- a mutation that fits the schema is the join of what the first tables say now of a key
pub record IsReadAnew (schema : SchemaValue) (m : State) (first : List TableInfo) (key : List ℕ) (read : Mutation) : Type 0 where
  pub told : List Mutation
  pub by_first : IsSaidByFirst m first key told
  pub joined : IsJoinOf read told
  pub mutation : IsMutation read
  pub fits : ChangeFits schema read

-- the machine may tell its reader anew what the first tables say, which may be told again later, and these lines are left to it then
pub record IsToldAnew (m : State) (first : List TableInfo) (r : Reader) (lines : List OutLine) : Type 0 where
  pub said : List Mutation
  pub resaid : IsResaid m r said
  pub by_first : IsSaidByFirst m first r.key said
  pub are : lines ≡ rest_of (record r { said = said })
