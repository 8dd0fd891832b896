-- What tables say of a key that one more table does not have.
use Rattle.std.proofs.Common.{◌≡◌, ◌≤◌, ℕ, true, false, cond, List, [], ◌∷◌, ◌++◌, length, filter, map, Option, Some, None, refl, sym, ap, ◌∙◌, arith}
use Rattle.std.specs.Prelude.{MatchOption, option_map}
use Rattle.std.specs.List.{list_any}
use Rattle.std.specs.Ordering.{eq_by_cmp}
use Rattle.std.specs.FinMap as finmap
use Rattle.rc_outside.specs.Files.{Files}
use Rattle.rc_position.specs.Position.{bytes_cmp}
use Rattle.rc_mutation.specs.declared.mutations.Mutation.{Mutation}
use Rattle.rc_mutation.specs.declared.mutations.Partition.{Partition}
use Rattle.rc_tfile.specs.Before.{text}
use Rattle.rc_tfile.specs.Info.{info_of}
use Rattle.rc_tfile.specs.TableText.{whole_table}
use Rattle.rc_tfile.specs.declared.info.TableInfo.{TableInfo}
use Rattle.rc_tables.specs.Tables.{changes_at, changes_in, listing}
use Rattle.rc_machine.specs.State.{State, Table, numbers}
use Rattle.rc_machine.specs.Steps.{IsSaid, MaySay, next_number, with_table, without_sealed}
use Rattle.rc_shard.specs.calls.Caching.{AreOthers}

module _ (key : List ℕ) where
  none-of : (parts : List Partition) → AreOthers key parts → changes_in key parts ≡ []
  none-of [] h = refl
  none-of (p ∷ ps) h = ap (λ b. map (λ (q : Partition). q.change) (cond b (p ∷ filter (λ (q : Partition). eq_by_cmp bytes_cmp key q.key) ps) (filter (λ (q : Partition). eq_by_cmp bytes_cmp key q.key) ps))) h.0 ∙ none-of ps h.1

  at-more : (tables : List Table) (n : ℕ) (parts : List Partition) → AreOthers key parts → changes_at key (tables ++ (n, parts) ∷ []) ≡ changes_at key tables
  at-more [] n parts h = ap (λ (cs : List Mutation). cs ++ []) (none-of parts h)
  at-more (t ∷ ts) n parts h = ap (λ (cs : List Mutation). changes_in key t.1 ++ cs) (at-more ts n parts h)

  listing-more : (infos : List TableInfo) (i : TableInfo) → listing key infos ≤ listing key (infos ++ i ∷ [])
  listing-more [] i = omega arith
  listing-more (j ∷ js) i =
      let more = listing-more js i in
      elim (list_any (λ r. eq_by_cmp bytes_cmp key r.key) j.parts) as (λ b. length (cond b (j ∷ filter (λ (x : TableInfo). list_any (λ r. eq_by_cmp bytes_cmp key r.key) x.parts) js) (filter (λ (x : TableInfo). list_any (λ r. eq_by_cmp bytes_cmp key r.key) x.parts) js))
      ≤ length (cond b (j ∷ filter (λ (x : TableInfo). list_any (λ r. eq_by_cmp bytes_cmp key r.key) x.parts) (js ++ i ∷ [])) (filter (λ (x : TableInfo). list_any (λ r. eq_by_cmp bytes_cmp key r.key) x.parts) (js ++ i ∷ [])))) [
        | true ↦ omega (arith, more)
        | false ↦ more
      ]

-- where the folder is told or not
told-more : (m : State) (parts : List Partition) (key : List ℕ) (said : List Mutation) → AreOthers key parts → (files : Option Files) (f : Files → Files) → MatchOption files (MaySay m.schema (listing key m.infos) said) (λ files. said ≡ changes_at key m.tables) →
    MatchOption (option_map f files) (MaySay m.schema (listing key (m.infos ++ info_of (next_number (numbers m.tables)) m.schema parts ∷ [])) said) (λ files. said ≡ changes_at key (m.tables ++ (next_number (numbers m.tables), parts) ∷ []))
told-more m parts key said others None f h = (let more = listing-more key m.infos (info_of (next_number (numbers m.tables)) m.schema parts) in let few = h.0 in omega (arith, more, few), h.1)
told-more m parts key said others (Some files) f h = h ∙ sym (at-more key m.tables (next_number (numbers m.tables)) parts others)

-- once the writes of other keys stand in one more table the tables say of a key what they said
pub said-still : (m : State) (parts : List Partition) (key : List ℕ) (said : List Mutation) → AreOthers key parts → IsSaid m key said → IsSaid (without_sealed (with_table m parts)) key said
said-still m parts key said others h = told-more m parts key said others m.files (λ files. finmap.insert files (next_number (numbers m.tables)) (text (whole_table m.schema parts))) h
