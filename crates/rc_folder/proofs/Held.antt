-- The tables over which the machine stands can be read, and what is read of them is what they say.
use Rattle.std.proofs.Common.{◌≡◌, ◌≤◌, ◌∙◌, ℕ, List, [], ◌∷◌, ◌++◌, length, take, Option, None, Some, MatchOption, Result, Ok, Err, IfOk, All, refl, sym, ap, subst, map, arith}
use Rattle.std.specs.List.{AllByRecursion}
use Rattle.std.proofs.lemmas.List.{length-map, take_all}
use Rattle.std.proofs.lemmas.List.Elements.{All-head, All-tail}
use Rattle.rc_outside.specs.Files.{Files}
use Rattle.rc_schema.specs.SchemaValue.{SchemaValue}
use Rattle.rc_mutation.specs.declared.mutations.Mutation.{Mutation}
use Rattle.rc_mutation.specs.Source.{IsJoinOf}
use Rattle.rc_tfile.specs.declared.info.TableInfo.{TableInfo}
use Rattle.rc_tfile.specs.Info.{info_of}
use Rattle.rc_tables.specs.Located.{WhereTold, SaysOf}
use Rattle.rc_tables.specs.Tables.{IsHeld, HoldsTables, AreHeld, IsJoinedAt, IsSomeJoin, changes_at, listing}
use Rattle.rc_tables.specs.laws.Ascending.{keys_of_a_table_ascend}
use Rattle.rc_machine.specs.State.{State, Table}
use Rattle.rc_machine.specs.Standing.{IsOver}
use Rattle.rc_machine.specs.Steps.{IsSaid}
use Rattle.rc_machine.specs.Tables.{AreListed, AreTables, IsStoredTable}
use Rattle.rc_folder.specs.Tabled.{IsSaidByFirst}

is_held : (told : Files) (schema : SchemaValue) (t : Table) → IsStoredTable told schema t → IsHeld (Some told) schema t
is_held told schema t kept = record { bytes = kept.0; content = kept.1; text = kept.2; ascend = keys_of_a_table_ascend schema t.1 kept.2.fit; mutations = kept.3 }

all_held : (told : Files) (schema : SchemaValue) (tables : List Table) → All (IsStoredTable told schema) tables → HoldsTables (Some told) schema (map (λ (t : Table). info_of t.0 schema t.1) tables) tables
all_held told schema [] kept = tt
all_held told schema (t ∷ ts) kept = (refl, is_held told schema t (All-head (IsStoredTable told schema) t ts kept), all_held told schema ts (All-tail (IsStoredTable told schema) t ts kept))

-- what is known of the tables is what is known of those that stand in the folder
pub holds : (told : Files) (schema : SchemaValue) (infos : List TableInfo) (m : State) → IsOver (Some told) schema infos m → HoldsTables (Some told) schema infos m.tables
holds told schema infos m over =
    let are : AreTables (Some told) m.schema m.tables = subst (λ (files : Option Files). AreTables files m.schema m.tables) over.files over.tables in
    let known : AreListed (Some told) m.schema m.tables m.infos = subst (λ (files : Option Files). AreListed files m.schema m.tables m.infos) over.files over.listed in
    let listed : infos ≡ map (λ (t : Table). info_of t.0 m.schema t.1) m.tables = sym over.infos ∙ known in
    subst (λ (schema : SchemaValue). HoldsTables (Some told) schema infos m.tables) over.schema
    (subst (λ (infos : List TableInfo). HoldsTables (Some told) m.schema infos m.tables) (sym listed) (all_held told m.schema m.tables are.1))

-- the first of them are what is known of the first ones
first_hold : (files : Option Files) (schema : SchemaValue) (first later : List TableInfo) (tables : List Table) → HoldsTables files schema (first ++ later) tables → HoldsTables files schema first (take (length first) tables)
first_hold files schema [] later tables h = tt
first_hold files schema (i ∷ is) later [] h = absurd h
first_hold files schema (i ∷ is) later (t ∷ ts) h = (h.0, h.1, first_hold files schema is later ts h.2)

holds_first : (told : Files) (schema : SchemaValue) (infos first later : List TableInfo) (m : State) → IsOver (Some told) schema infos m → infos ≡ first ++ later → HoldsTables (Some told) schema first (take (length first) m.tables)
holds_first told schema infos first later m over e = first_hold (Some told) schema first later m.tables (subst (λ known. HoldsTables (Some told) schema known m.tables) e (holds told schema infos m over))

-- so they can be read
pub to_read : (files : Option Files) (schema : SchemaValue) (infos first later : List TableInfo) (m : State) → IsOver files schema infos m → infos ≡ first ++ later → WhereTold files (AreHeld files schema first)
to_read None schema infos first later m over e = tt
to_read (Some told) schema infos first later m over e = (take (length first) m.tables, holds_first told schema infos first later m over e)

-- what is read is the join of what the first tables say, or of some changes where the folder is not told
is_said : (files : Option Files) (schema : SchemaValue) (infos first later : List TableInfo) (key : List ℕ) (join : Mutation) → ((tables : List Table) → HoldsTables files schema first tables → IsJoinedAt key tables join) → IsSomeJoin schema first key join
    → (m : State) → IsOver files schema infos m → infos ≡ first ++ later → (said : List Mutation) × IsSaidByFirst m first key said × IsJoinOf join said
is_said None schema infos first later key join joined some m over e =
    let fit : AllByRecursion (SaysOf m.schema) some.changes = subst (λ schema. AllByRecursion (SaysOf schema) some.changes) (sym over.schema) some.fit in (
      some.changes,
      subst (λ (files : Option Files). MatchOption files ((length some.changes ≤ listing key first) × AllByRecursion (SaysOf m.schema) some.changes) (λ _. some.changes ≡ changes_at key (take (length first) m.tables))) (sym over.files) (some.count, fit),
      some.joined,
    )
is_said (Some told) schema infos first later key join joined some m over e =
    let tables = take (length first) m.tables in
    let said = changes_at key tables in (
      said,
      subst (λ (files : Option Files). MatchOption files ((length said ≤ listing key first) × AllByRecursion (SaysOf m.schema) said) (λ _. said ≡ changes_at key tables)) (sym over.files) refl,
      (joined tables (holds_first told schema infos first later m over e)).1,
    )

-- where it is read
pub is_read : {E : Type 0} (files : Option Files) (schema : SchemaValue) (infos first later : List TableInfo) (key : List ℕ) (r : Result Mutation E) → ((tables : List Table) → HoldsTables files schema first tables → IfOk r (IsJoinedAt key tables))
    → IfOk r (IsSomeJoin schema first key) → (m : State) → IsOver files schema infos m → infos ≡ first ++ later → IfOk r (λ join. (said : List Mutation) × IsSaidByFirst m first key said × IsJoinOf join said)
is_read files schema infos first later key (Ok join) joined some m over e = is_said files schema infos first later key join joined some m over e
is_read files schema infos first later key (Err x) joined some m over e = tt

-- ---- all tables

-- where the folder is told each table is known
as_many : (told : Files) (schema : SchemaValue) (infos : List TableInfo) (m : State) → IsOver (Some told) schema infos m → length infos ≡ length m.tables
as_many told schema infos m over =
    let known : AreListed (Some told) m.schema m.tables m.infos = subst (λ (files : Option Files). AreListed files m.schema m.tables m.infos) over.files over.listed in
    ap length (sym over.infos ∙ known) ∙ length-map m.tables (λ (t : Table). info_of t.0 m.schema t.1)

-- what the first tables say is what the tables say, where there are no others
all_said : (files : Option Files) (schema : SchemaValue) (infos : List TableInfo) (key : List ℕ) (m : State) (said : List Mutation) → IsOver files schema infos m → IsSaidByFirst m infos key said → IsSaid m key said
all_said None schema infos key m said over h =
    let may = subst (λ (files : Option Files). MatchOption files ((length said ≤ listing key infos) × AllByRecursion (SaysOf m.schema) said) (λ _. said ≡ changes_at key (take (length infos) m.tables))) over.files h in
    subst (λ (files : Option Files). MatchOption files ((length said ≤ listing key m.infos) × AllByRecursion (SaysOf m.schema) said) (λ _. said ≡ changes_at key m.tables)) (sym over.files)
    (subst (λ (infos : List TableInfo). length said ≤ listing key infos) (sym over.infos) may.0, may.1)
all_said (Some told) schema infos key m said over h =
    let is = subst (λ (files : Option Files). MatchOption files ((length said ≤ listing key infos) × AllByRecursion (SaysOf m.schema) said) (λ _. said ≡ changes_at key (take (length infos) m.tables))) over.files h in
    subst (λ (files : Option Files). MatchOption files ((length said ≤ listing key m.infos) × AllByRecursion (SaysOf m.schema) said) (λ _. said ≡ changes_at key m.tables)) (sym over.files)
    (is ∙ ap (changes_at key) (take_all (length infos) m.tables (omega (arith, as_many told schema infos m over))))

pub all_read : {E : Type 0} (files : Option Files) (schema : SchemaValue) (infos : List TableInfo) (key : List ℕ) (r : Result Mutation E) (m : State) → IsOver files schema infos m
    → IfOk r (λ join. (said : List Mutation) × IsSaidByFirst m infos key said × IsJoinOf join said) → IfOk r (λ join. (said : List Mutation) × IsSaid m key said × IsJoinOf join said)
all_read files schema infos key (Ok join) m over h = (h.0, all_said files schema infos key m h.0 over h.1, h.2)
all_read files schema infos key (Err x) m over h = tt
