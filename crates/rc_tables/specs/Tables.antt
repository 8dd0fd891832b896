-- Which partitions a set of tables holds, and what they say of a key together.
--     HoldsTables     the tables of a set are those of these partitions, and their files have these texts
--     changes_at      what the tables say of a key, in the tables' order
--     IsStreamAt      a stream is that of the join of all that the tables say of a key
use Rattle.std.specs.Prelude.{◌≡◌, ◌⊎◌, ℕ, ◌≤◌, IsTrue, List, [], ◌∷◌, length, drop, map as list_map, filter, All, Option, ⊤}
use Rattle.std.specs.Ordering.{eq_by_cmp}
use Rattle.std.specs.List.{flat_map, list_any, AllByRecursion}
use Rattle.std.specs.FinMap.{is_sorted}
use Rattle.rc_outside.specs.Files.{Files}
use Rattle.rc_position.specs.Position.{bytes_cmp}
use Rattle.rc_schema.specs.SchemaValue.{SchemaValue}
use Rattle.rc_mutation.specs.declared.mutations.Mutation.{Mutation}
use Rattle.rc_mutation.specs.declared.mutations.Partition.{Partition}
use Rattle.rc_mutation.specs.Fragments.{fragments}
use Rattle.rc_mutation.specs.Source.{IsJoinOf, IsMutation}
use Rattle.rc_stream.specs.Stream.{Stream, stream_of}
use Rattle.rc_stream.specs.declared.streams.StreamErr.{StreamErr}
use Rattle.rc_stream.specs.Showing.{IsNamed}
use Rattle.rc_tfile.specs.declared.info.PartRef.{PartRef}
use Rattle.rc_tfile.specs.declared.info.TableInfo.{TableInfo}
use Rattle.rc_tfile.specs.Checking.{IsContent}
use Rattle.rc_tfile.specs.Info.{info_of}
use Rattle.rc_tfile.specs.TableText.{IsTable}
use Rattle.rc_tables.specs.Located.{Contradicts, SaysOf}

-- a table's file has the text of its partitions, whose keys strictly ascend; each says what a mutation says
pub record IsHeld (files : Option Files) (schema : SchemaValue) (table : ℕ × List Partition) : Type 0 where
  pub bytes : List ℕ
  pub content : IsContent files table.0 bytes
  pub text : IsTable bytes schema table.1
  pub ascend : IsTrue (is_sorted bytes_cmp (list_map (λ p. (p.key, p.change)) table.1))
  pub mutations : All (λ p. IsMutation p.change) table.1

-- what is known of tables is what is known of these, each a number and its partitions, and each file has the text of its partitions
abbrev pub HoldsTables : Option Files → SchemaValue → List TableInfo → List (ℕ × List Partition) → Type 0
HoldsTables files schema [] [] = ⊤
HoldsTables files schema [] (table ∷ tables) = ⊥
HoldsTables files schema (info ∷ infos) [] = ⊥
HoldsTables files schema (info ∷ infos) (table ∷ tables) = (info ≡ info_of table.0 schema table.1) × IsHeld files schema table × HoldsTables files schema infos tables

-- what partitions say of a key
abbrev pub changes_in : List ℕ → List Partition → List Mutation
changes_in key parts = list_map (λ p. p.change) (filter (λ p. eq_by_cmp bytes_cmp key p.key) parts)

-- what tables say of a key, one table behind another
abbrev pub changes_at : List ℕ → List (ℕ × List Partition) → List Mutation
changes_at key tables = flat_map (λ table. changes_in key table.1) tables

-- how many tables list a key
abbrev pub listing : List ℕ → List TableInfo → ℕ
listing key infos = length (filter (λ info. list_any (λ r. eq_by_cmp bytes_cmp key r.key) info.parts) infos)

-- a mutation is the join of all that the tables say of a key
abbrev pub IsJoinedAt : List ℕ → List (ℕ × List Partition) → Mutation → Type 0
IsJoinedAt key tables m = IsMutation m × IsJoinOf m (changes_at key tables)

-- of a set of tables of a schema in these files, a stream is that of a key from the beginning: of the fragments of the join of all that the tables say
pub record IsStreamAt (files : Option Files) (schema : SchemaValue) (infos : List TableInfo) (key : List ℕ) (stream : Stream) : Type 0 where
  pub tables : List (ℕ × List Partition)
  pub join : Mutation
  pub holds : HoldsTables files schema infos tables
  pub joined : IsJoinedAt key tables join
  pub fragments : stream ≡ stream_of (fragments join)

-- the files are those of the tables of a set, of a schema
abbrev pub AreHeld : Option Files → SchemaValue → List TableInfo → Type 0
AreHeld files schema infos = (tables : List (ℕ × List Partition)) × HoldsTables files schema infos tables

-- a mutation is the join of some changes of a key, at most one of each table that lists it, each of which a table of the schema can hold
pub record IsSomeJoin (schema : SchemaValue) (infos : List TableInfo) (key : List ℕ) (m : Mutation) : Type 0 where
  pub changes : List Mutation
  pub joined : IsJoinOf m changes
  pub count : length changes ≤ listing key infos
  pub fit : AllByRecursion (SaysOf schema) changes

-- bytes of a table that lists the key contradict it as checked: those that begin at an offset of a file
abbrev pub IsDamageIn : SchemaValue → List ℕ → TableInfo → ℕ → ℕ → Type 0
IsDamageIn schema key info file offset =
    (dir : ℕ) × (i : ℕ) × (here : PartRef) × (later : List PartRef) × (drop i info.parts ≡ here ∷ later) × (here.key ≡ key) × Contradicts schema info.number dir here later file offset

-- so do bytes of some table of a set
abbrev pub IsDamageAmong : SchemaValue → List ℕ → List TableInfo → ℕ → ℕ → Type 0
IsDamageAmong schema key [] file offset = ⊥
IsDamageAmong schema key (info ∷ infos) file offset = IsDamageIn schema key info file offset ⊎ IsDamageAmong schema key infos file offset

-- where Damaged is answered of a key, it names some table of the set that lists it
abbrev pub IsDamageOf : SchemaValue → List ℕ → List TableInfo → StreamErr → Type 0
IsDamageOf schema key infos = IsNamed (IsDamageAmong schema key infos)
