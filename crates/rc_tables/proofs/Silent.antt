-- Tables that do not list a key say nothing of it.
use Rattle.std.proofs.Common.{◌≡◌, ◌<◌, ℕ, List, [], ◌∷◌, ◌++◌, Option, refl, ap, ◌∙◌, arith, map as list_map}
use Rattle.std.specs.Prelude.{◌≢◌, All, IsTrue}
use Rattle.std.specs.FinMap.{is_sorted}
use Rattle.rc_outside.specs.Files.{Files}
use Rattle.rc_position.specs.Position.{bytes_cmp}
use Rattle.rc_schema.specs.SchemaValue.{SchemaValue}
use Rattle.rc_mutation.specs.declared.mutations.Mutation.{Mutation}
use Rattle.rc_mutation.specs.declared.mutations.Partition.{Partition}
use Rattle.rc_tfile.specs.declared.info.TableInfo.{TableInfo}
use Rattle.rc_tables.specs.Tables.{HoldsTables, changes_at, changes_in, listing}
use Rattle.rc_tables.proofs.Joined.{listing_first}
use Rattle.rc_tables.proofs.Searching.{keys_ascend, none_there}

-- what all tables say of a key is what those say that are left
abbrev pub SilentSoFar : List ℕ → List TableInfo → List TableInfo → Type 0
SilentSoFar key all left = (files : Option Files) (schema : SchemaValue) (tables : List (ℕ × List Partition)) → HoldsTables files schema all tables → (rest : List (ℕ × List Partition)) × HoldsTables files schema left rest × (changes_at key tables ≡ changes_at key rest)

pub silent_start : (key : List ℕ) (all : List TableInfo) → SilentSoFar key all all
silent_start key all files schema tables holds = (tables, holds, refl)

-- one that does not list the key is passed
pub silent_on : (key : List ℕ) (all : List TableInfo) (info : TableInfo) (infos : List TableInfo) → (IsTrue (is_sorted bytes_cmp (list_map (λ r. (r.key, r.dir_off)) info.parts)) → All (λ r. r.key ≢ key) info.parts) → SilentSoFar key all (info ∷ infos) → SilentSoFar key all infos
silent_on key all info infos absent so_far files schema tables holds = (let r = so_far files schema tables holds in behind r.0 r.1 r.2)
  where
    behind : (rest : List (ℕ × List Partition)) → HoldsTables files schema (info ∷ infos) rest → changes_at key tables ≡ changes_at key rest → (later : List (ℕ × List Partition)) × HoldsTables files schema infos later × (changes_at key tables ≡ changes_at key later)
    behind [] h e = absurd h
    behind (table ∷ later) h e =
        let none : changes_in key table.1 ≡ [] = none_there files schema table info h.0 h.1 key (absent (keys_ascend files schema table info h.0 h.1)) in
        (later, h.2, e ∙ ap (λ (ms : List Mutation). ms ++ changes_at key later) none)

-- so all were
pub silent_all : (key : List ℕ) (all : List TableInfo) → SilentSoFar key all [] → (files : Option Files) (schema : SchemaValue) (tables : List (ℕ × List Partition)) → HoldsTables files schema all tables → changes_at key tables ≡ []
silent_all key all so_far files schema tables holds = (let r = so_far files schema tables holds in none r.0 r.1 r.2)
  where
    none : (rest : List (ℕ × List Partition)) → HoldsTables files schema [] rest → changes_at key tables ≡ changes_at key rest → changes_at key tables ≡ []
    none [] h e = e
    none (table ∷ later) h e = absurd h

-- one that lists the key is counted among all that are left
pub listed_among : (key : List ℕ) (info : TableInfo) (infos : List TableInfo) → listing key (info ∷ []) ≡ 1 → 0 < listing key (info ∷ infos)
listed_among key info infos one = let sum = listing_first key info infos in omega (arith, one, sum)

pub listed_behind : (key : List ℕ) (info : TableInfo) (infos : List TableInfo) → 0 < listing key infos → 0 < listing key (info ∷ infos)
listed_behind key info infos some = let sum = listing_first key info infos in omega (arith, some, sum)
