-- What the first tables say of a key that none of those behind them lists.
use Rattle.std.proofs.Common.{◌≡◌, ◌≤◌, ◌++◌, ◌∙◌, ℕ, zero, suc, List, [], ◌∷◌, length, take, drop, Option, Some, None, MatchOption, sym, ap, subst, arith, append-nil}
use Rattle.std.specs.List.{AllByRecursion}
use Rattle.std.proofs.lemmas.List.{take-append-drop}
use Rattle.std.proofs.lemmas.List.Concat.{flat_map-append}
use Rattle.rc_outside.specs.Files.{Files}
use Rattle.rc_schema.specs.SchemaValue.{SchemaValue}
use Rattle.rc_mutation.specs.declared.mutations.Mutation.{Mutation}
use Rattle.rc_mutation.specs.declared.mutations.Partition.{Partition}
use Rattle.rc_tfile.specs.declared.info.TableInfo.{TableInfo}
use Rattle.rc_tables.specs.Located.{SaysOf}
use Rattle.rc_tables.specs.Tables.{HoldsTables, changes_at, changes_in, listing}
use Rattle.rc_machine.specs.State.{State, Table}
use Rattle.rc_machine.specs.Standing.{IsOver}
use Rattle.rc_machine.specs.Steps.{IsSaid}
use Rattle.rc_folder.specs.Tabled.{IsSaidByFirst}
use Rattle.rc_folder.specs.laws.Listed.{fewer_listed}
use Rattle.rc_folder.proofs.Held.{holds}

-- the later of them are what is known of the later ones
later_hold : (files : Option Files) (schema : SchemaValue) (n : ℕ) (infos : List TableInfo) (tables : List Table) → HoldsTables files schema infos tables → HoldsTables files schema (drop n infos) (drop n tables)
later_hold files schema zero infos tables h = h
later_hold files schema (suc n) [] [] h = tt
later_hold files schema (suc n) [] (t ∷ ts) h = absurd h
later_hold files schema (suc n) (i ∷ is) [] h = absurd h
later_hold files schema (suc n) (i ∷ is) (t ∷ ts) h = later_hold files schema n is ts h.2

-- what all say, where the later ones say nothing
all_of_first : (key : List ℕ) (n : ℕ) (tables : List Table) → changes_at key (drop n tables) ≡ [] → changes_at key (take n tables) ≡ changes_at key tables
all_of_first key n tables none =
    sym (append-nil (changes_at key (take n tables))) ∙ ap (λ (ms : List Mutation). changes_at key (take n tables) ++ ms) (sym none)
    ∙ sym (flat_map-append (λ (t : Table). changes_in key t.1) (take n tables) (drop n tables)) ∙ ap (changes_at key) (take-append-drop n tables)

-- where none of the later ones says anything of the key, the first ones say what all say; and more may say what fewer may
pub said_since : (key : List ℕ) (schema : SchemaValue) (infos first : List TableInfo) → ((files : Option Files) (schema : SchemaValue) (tables : List (ℕ × List Partition)) → HoldsTables files schema (drop (length first) infos) tables → changes_at key tables ≡ []) →
    (files : Option Files) (m : State) (later : List TableInfo) (said : List Mutation) → IsOver files schema infos m → infos ≡ first ++ later → IsSaidByFirst m first key said → IsSaid m key said
said_since key schema infos first none None m later said over are h =
    let may = subst (λ (files : Option Files). MatchOption files ((length said ≤ listing key first) × AllByRecursion (SaysOf m.schema) said) (λ _. said ≡ changes_at key (take (length first) m.tables))) over.files h in
    let more = fewer_listed key first later infos are in
    let few = may.0 in
    let all : length said ≤ listing key infos = omega (arith, few, more) in
    subst (λ (files : Option Files). MatchOption files ((length said ≤ listing key m.infos) × AllByRecursion (SaysOf m.schema) said) (λ _. said ≡ changes_at key m.tables)) (sym over.files)
    (subst (λ (infos : List TableInfo). length said ≤ listing key infos) (sym over.infos) all, may.1)
said_since key schema infos first none (Some told) m later said over are h =
    let is = subst (λ (files : Option Files). MatchOption files ((length said ≤ listing key first) × AllByRecursion (SaysOf m.schema) said) (λ _. said ≡ changes_at key (take (length first) m.tables))) over.files h in
    let held = later_hold (Some told) schema (length first) infos m.tables (holds told schema infos m over) in
    subst (λ (files : Option Files). MatchOption files ((length said ≤ listing key m.infos) × AllByRecursion (SaysOf m.schema) said) (λ _. said ≡ changes_at key m.tables)) (sym over.files)
    (is ∙ all_of_first key (length first) m.tables (none (Some told) schema (drop (length first) m.tables) held))
