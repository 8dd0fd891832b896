-- What a reader was opened over, once one more table stands behind.
use Rattle.std.proofs.Common.{◌≡◌, ◌≤◌, ℕ, zero, suc, List, [], ◌∷◌, ◌++◌, length, map, take, Option, Some, None, refl, sym, ap, ◌∙◌, arith, append_assoc}
use Rattle.std.specs.Prelude.{MatchOption, option_map}
use Rattle.std.specs.FinMap as finmap
use Rattle.std.proofs.lemmas.List.{length-append}
use Rattle.rc_outside.specs.Files.{Files}
use Rattle.rc_schema.specs.SchemaValue.{SchemaValue}
use Rattle.rc_mutation.specs.declared.mutations.Mutation.{Mutation}
use Rattle.rc_mutation.specs.declared.mutations.Partition.{Partition}
use Rattle.rc_tfile.specs.Before.{text}
use Rattle.rc_tfile.specs.Info.{info_of}
use Rattle.rc_tfile.specs.TableText.{whole_table}
use Rattle.rc_tfile.specs.declared.info.TableInfo.{TableInfo}
use Rattle.rc_tables.specs.Tables.{changes_at, listing}
use Rattle.rc_folder.specs.laws.Ahead.{numbers_known}
use Rattle.rc_machine.specs.Standing.{IsOver}
use Rattle.rc_machine.specs.State.{State, Table, numbers}
use Rattle.rc_folder.specs.Tabled.{IsSaidByFirst}
use Rattle.rc_machine.specs.Steps.{IsSaid, MaySay, next_number, sealing, with_table, without_sealed}
use Rattle.rc_shard.proofs.Served.{AreSameOpened}

take-front : {X : Type 0} (n : ℕ) (xs ys : List X) → n ≤ length xs → take n (xs ++ ys) ≡ take n xs
take-front zero xs ys h = refl
take-front (suc n) [] ys h = absurd (omega (arith, h))
take-front (suc n) (x ∷ xs) ys h = ap (λ zs. x ∷ zs) (take-front n xs ys (omega (arith, h)))

long-map : {X Y : Type 0} (f : X → Y) (xs : List X) → length (map f xs) ≡ length xs
long-map f [] = refl
long-map f (x ∷ xs) = ap suc (long-map f xs)

-- as many tables are known as there are
pub as-many-known : (told : Option Files) (schema : SchemaValue) (infos : List TableInfo) (m : State) → IsOver told schema infos m → length m.infos ≡ length m.tables
as-many-known told schema infos m over =
    let same = ap (λ (ns : List ℕ). length ns) (numbers_known m.files m.schema m.tables m.infos over.listed) in
    let a = long-map (λ (i : TableInfo). i.number) m.infos in
    let b = long-map (λ (t : Table). t.0) m.tables in
    sym a ∙ same ∙ b

module _ (m : State) (parts : List Partition) (first later : List TableInfo) (key : List ℕ) (said : List Mutation) (few : length first ≤ length m.tables) where
  said-front : (files : Option Files) (f : Files → Files) → MatchOption files (MaySay m.schema (listing key first) said) (λ files. said ≡ changes_at key (take (length first) m.tables)) →
      MatchOption (option_map f files) (MaySay m.schema (listing key first) said) (λ files. said ≡ changes_at key (take (length first) (m.tables ++ (next_number (numbers m.tables), parts) ∷ [])))
  said-front None f h = h
  said-front (Some files) f h = h ∙ ap (changes_at key) (sym (take-front (length first) m.tables ((next_number (numbers m.tables), parts) ∷ []) few))

-- one more table stands behind those that a reader was opened over
pub opened-more : (told : Option Files) (schema : SchemaValue) (infos : List TableInfo) (m : State) (parts : List Partition) → IsOver told schema infos m → AreSameOpened (record m { sealed = sealing m }) (without_sealed (with_table m parts))
opened-more told schema infos m parts over = record {
  schema = refl;
  opened = λ first r w.
      let i : TableInfo = info_of (next_number (numbers m.tables)) m.schema parts in
      let few : length first ≤ length m.tables = (let known = as-many-known told schema infos m over in let long = ap (λ (is : List TableInfo). length is) w.are in let sum = length-append first w.later in omega (arith, known, long, sum)) in
      record {
        later = w.later ++ i ∷ [];
        are = ap (λ (is : List TableInfo). is ++ i ∷ []) w.are ∙ append_assoc first w.later (i ∷ []);
        listed = w.listed;
        said = said-front m parts first w.later r.key r.said few m.files (λ files. finmap.insert files (next_number (numbers m.tables)) (text (whole_table m.schema parts))) w.said;
      };
}

-- what all tables say is what the first ones say, where there are no others
all-front : {X : Type 0} (n : ℕ) (xs : List X) → length xs ≤ n → take n xs ≡ xs
all-front zero [] h = refl
all-front zero (x ∷ xs) h = absurd (omega (arith, h))
all-front (suc n) [] h = refl
all-front (suc n) (x ∷ xs) h = ap (λ ys. x ∷ ys) (all-front n xs (omega (arith, h)))

said-all : (m : State) (key : List ℕ) (said : List Mutation) → take (length m.infos) m.tables ≡ m.tables → (files : Option Files) → MatchOption files (MaySay m.schema (listing key m.infos) said) (λ files. said ≡ changes_at key m.tables) →
    MatchOption files (MaySay m.schema (listing key m.infos) said) (λ files. said ≡ changes_at key (take (length m.infos) m.tables))
said-all m key said all None h = h
said-all m key said all (Some files) h = h ∙ ap (changes_at key) (sym all)

pub said-first : (told : Option Files) (schema : SchemaValue) (infos : List TableInfo) (m : State) (key : List ℕ) (said : List Mutation) → IsOver told schema infos m → IsSaid m key said → IsSaidByFirst m m.infos key said
said-first told schema infos m key said over h = said-all m key said (all-front (length m.infos) m.tables (let same = as-many-known told schema infos m over in omega (arith, same))) m.files h
