-- One more table, of the next number: it stands behind all others, and what is known of it behind what is known of them.
use Rattle.std.proofs.Common.{◌≡◌, ℕ, zero, suc, ◌+◌, ◌<◌, ◌⊎◌, inl, inr, ⊎_elim, List, [], ◌∷◌, ◌++◌, length, map, get_or, Option, Some, None, All, refl, sym, ap, subst, ◌∙◌, arith}
use Rattle.std.specs.List.Sorted.{IsStrictlyIncreasing}
use Rattle.std.specs.FinMap as finite
use Rattle.std.proofs.lemmas.List.{length-append, map-append}
use Rattle.std.proofs.lemmas.List.Elements.{All-append, All-cons}
use Rattle.std.proofs.Math.ListN.{get_or-append}
use Rattle.std.proofs.Math.Seq.{get_or-append_seam}
use Rattle.rc_outside.specs.Files.{Files}
use Rattle.rc_schema.specs.SchemaValue.{SchemaValue}
use Rattle.rc_mutation.specs.declared.mutations.Partition.{Partition}
use Rattle.rc_mutation.specs.Source.{IsMutation}
use Rattle.rc_tfile.specs.declared.info.TableInfo.{TableInfo}
use Rattle.rc_tfile.specs.Before.{text}
use Rattle.rc_tfile.specs.Info.{info_of}
use Rattle.rc_tfile.specs.Stored.{with_file}
use Rattle.rc_tfile.specs.TableText.{whole_table, IsTable}
use Rattle.rc_machine.specs.State.{Table, numbers}
use Rattle.rc_machine.specs.Tables.{AreListed, AreTables, IsStoredTable}
use Rattle.rc_machine.specs.Steps.{next_number}
use Rattle.rc_machine.specs.laws.Folder.{number_after, get_new, get_other, keys_next, no_file_next}

less_or_is : (a b : ℕ) → a < suc b → (a < b) ⊎ (a ≡ b)
less_or_is zero zero h = inr refl
less_or_is zero (suc b) h = inl (omega arith)
less_or_is (suc a) zero h = absurd (omega arith)
less_or_is (suc a) (suc b) h = ⊎_elim (λ l. inl (omega (arith, l))) (λ e. inr (ap suc e)) (less_or_is a b (omega arith))

after_last : (a : ℕ) (xs : List ℕ) (k : ℕ) → suc k ≡ length xs → number_after a xs ≡ get_or xs k 0 + 1
after_last a [] k e = absurd (omega (arith, e))
after_last a (x ∷ []) zero e = refl
after_last a (x ∷ []) (suc k) e = absurd (omega (arith, e))
after_last a (x ∷ y ∷ ys) zero e = absurd (omega (arith, e))
after_last a (x ∷ y ∷ ys) (suc k) e = after_last x (y ∷ ys) k (omega (arith, e))

-- ---- of numbers alone

increasing_more : (xs : List ℕ) (n : ℕ) → IsStrictlyIncreasing xs → n ≡ next_number xs → IsStrictlyIncreasing (xs ++ n ∷ [])
increasing_more xs n h e = λ k l.
    let count : length (xs ++ n ∷ []) ≡ length xs + 1 = length-append xs (n ∷ []) in
    ⊎_elim
    (λ within. subst (λ x. x < get_or (xs ++ n ∷ []) (k + 1) 0) (sym (get_or-append xs (n ∷ []) 0 k (omega (arith, within)))) (subst (λ y. get_or xs k 0 < y) (sym (get_or-append xs (n ∷ []) 0 (k + 1) within)) (h k within)))
    (λ last.
    let new : get_or (xs ++ n ∷ []) (k + 1) 0 ≡ n = ap (λ j. get_or (xs ++ n ∷ []) j 0) last ∙ get_or-append_seam xs n [] 0 in
    let old : get_or (xs ++ n ∷ []) k 0 ≡ get_or xs k 0 = get_or-append xs (n ∷ []) 0 k (omega (arith, last)) in
    let one : next_number xs ≡ get_or xs k 0 + 1 = after_last 0 xs k (omega (arith, last)) in
    omega (arith, new, old, one, e))
    (less_or_is (k + 1) (length xs) (omega (arith, l, count)))

-- ---- of a folder

kept_more : (files : Files) (schema : SchemaValue) (n : ℕ) (bytes : List ℕ) (tables : List Table) → finite.get files n ≡ None → All (IsStoredTable files schema) tables → All (IsStoredTable (finite.insert files n bytes) schema) tables
kept_more files schema n bytes tables none all = λ k d l. (let h = all k d l in (h.0, get_other files n _ bytes h.0 none h.1, h.2, h.3))

-- one more table, of the next number
pub tables_more : (files : Option Files) (schema : SchemaValue) (tables : List Table) (n : ℕ) (parts : List Partition) → AreTables files schema tables → n ≡ next_number (numbers tables) → IsTable (text (whole_table schema parts)) schema parts → All (λ p. IsMutation p.change) parts
    → AreTables (with_file files n (text (whole_table schema parts))) schema (tables ++ (n, parts) ∷ [])
tables_more None schema tables n parts are e is whole =
    subst IsStrictlyIncreasing (sym (map-append (λ (t : Table). t.0) tables ((n, parts) ∷ []))) (increasing_more (numbers tables) n are e)
tables_more (Some files) schema tables n parts are e is whole =
    let bytes = text (whole_table schema parts) in
    let next : n ≡ next_number (finite.keys files) = e ∙ ap next_number are.0 in
    let none = no_file_next files n next in (
      map-append (λ (t : Table). t.0) tables ((n, parts) ∷ []) ∙ ap (λ ns. ns ++ n ∷ []) are.0 ∙ sym (keys_next files n bytes next),
      All-append (IsStoredTable (finite.insert files n bytes) schema) tables ((n, parts) ∷ []) (kept_more files schema n bytes tables none are.1)
          (All-cons (IsStoredTable (finite.insert files n bytes) schema) (n, parts) [] (bytes, get_new files n bytes, is, whole) (λ k d l. absurd (omega arith))),
    )

-- ---- what is known of tables

info_numbers : (schema : SchemaValue) (tables : List Table) → map (λ (i : TableInfo). i.number) (map (λ (t : Table). info_of t.0 schema t.1) tables) ≡ numbers tables
info_numbers schema [] = refl
info_numbers schema (t ∷ ts) = ap (λ ns. t.0 ∷ ns) (info_numbers schema ts)

-- the infos have the tables' numbers
pub numbers_known : (files : Option Files) (schema : SchemaValue) (tables : List Table) (infos : List TableInfo) → AreListed files schema tables infos → map (λ (i : TableInfo). i.number) infos ≡ numbers tables
numbers_known None schema tables infos h = h
numbers_known (Some files) schema tables infos h = ap (map (λ (i : TableInfo). i.number)) h ∙ info_numbers schema tables

pub listed_more : (files files' : Option Files) (schema : SchemaValue) (tables : List Table) (infos : List TableInfo) (n : ℕ) (bytes : List ℕ) (parts : List Partition) → AreListed files schema tables infos → files' ≡ with_file files n bytes
    → AreListed files' schema (tables ++ (n, parts) ∷ []) (infos ++ info_of n schema parts ∷ [])
listed_more None files' schema tables infos n bytes parts h e =
    subst (λ files. AreListed files schema (tables ++ (n, parts) ∷ []) (infos ++ info_of n schema parts ∷ [])) (sym e)
    (map-append (λ (i : TableInfo). i.number) infos (info_of n schema parts ∷ []) ∙ ap (λ ns. ns ++ n ∷ []) h ∙ sym (map-append (λ (t : Table). t.0) tables ((n, parts) ∷ [])))
listed_more (Some files) files' schema tables infos n bytes parts h e =
    subst (λ files. AreListed files schema (tables ++ (n, parts) ∷ []) (infos ++ info_of n schema parts ∷ [])) (sym e)
    (ap (λ is. is ++ info_of n schema parts ∷ []) h ∙ sym (map-append (λ (t : Table). info_of t.0 schema t.1) tables ((n, parts) ∷ [])))
