-- The files of a folder, checked one after another.
use Rattle.std.proofs.Common.{◌≡◌, ℕ, zero, suc, ◌+◌, ◌/◌, take, drop, get_or, take-suc, ◌<◌, ◌≤◌, Bool, true, false, cond, ◌||◌, T, List, [], ◌∷◌, ◌++◌, length, map, Option, Some, None, Ok, is_some, All, refl, sym, ap, subst, ◌∙◌, arith}
use Rattle.std.specs.Option.{IfSome, MatchOption, unwrap_or}
use Rattle.std.specs.Ordering.{nat_cmp, is_lt, eq_by_cmp}
use Rattle.std.specs.Cmp.{nat_cmp_total, eq_by_cmp_equiv}
use Rattle.std.specs.List.{list_any}
use Rattle.std.specs.List.Sorted.{IsStrictlyIncreasing}
use Rattle.std.specs.FinMap as finite
use Rattle.std.specs.FinMap.{find, is_sorted}
use Rattle.std.specs.FinMap.Entries.{below_all}
use Rattle.std.proofs.Math.Seq.{split_at}
use Rattle.std.proofs.lemmas.List.Sums.{sum_by-cons}
use Rattle.std.proofs.lemmas.List.{length-map, map-append}
use Rattle.std.proofs.lemmas.List.Elements.{All-append, All-cons, All-head, All-tail}
use Rattle.rc_cell.specs.laws.ByColumn.{same_column}
use Rattle.rc_outside.specs.Files.{Files, IsFile, AreNumbers}
use Rattle.rc_schema.specs.SchemaValue.{SchemaValue}
use Rattle.rc_mutation.specs.declared.mutations.Partition.{Partition}
use Rattle.rc_tfile.specs.declared.info.TableInfo.{TableInfo}
use Rattle.rc_tfile.specs.Info.{info_of}
use Rattle.rc_tfile.specs.Checking.{IsContent, AsksFew}
use Rattle.rc_tfile.specs.TableText.{IsTable, IsOtherSchema, FirstDamage}
use Rattle.rc_tfile.specs.Walking.{ChecksTable}
use Rattle.rc_folder.specs.declared.opening.OpenErr.{OpenErr}
use Rattle.rc_folder.specs.declared.opening.OpenErr.TheVariants.{Fault, Damaged, OtherSchema, NoMemory}
use Rattle.rc_machine.specs.State.{Table, numbers}
use Rattle.rc_machine.specs.Tables.{AreListed, AreTables, IsStoredTable, IsFirstBad}
use Rattle.rc_machine.specs.Serving.{checks_of}
use Rattle.rc_machine.specs.laws.Folder.{apart, apart_under, first_T, less_of, not_none, second_T}
use Rattle.rc_folder.specs.Opening.{IsOpeningRefused}
use Rattle.rc_folder.specs.calls.Opening.{IsChecked, IsBadFile}

-- the first files are tables, and this is known of them
pub record Done (files : Option Files) (schema : SchemaValue) (done : List ℕ) (known : List TableInfo) : Type 0 where
  pub tables : List Table
  pub numbered : numbers tables ≡ done
  pub kept : IfSome files (λ told. All (IsStoredTable told schema) tables)
  pub infos : AreListed files schema tables known

pub done_none : (files : Option Files) (schema : SchemaValue) → Done files schema [] []
done_none None schema = record { tables = []; numbered = refl; kept = tt; infos = refl }
done_none (Some told) schema = record { tables = []; numbered = refl; kept = λ k d l. absurd (omega arith); infos = refl }

pub done_more : (files : Option Files) (schema : SchemaValue) (done : List ℕ) (infos : List TableInfo) (n : ℕ) (info : TableInfo) → IsChecked files schema n info → Done files schema done infos → Done files schema (done ++ n ∷ []) (infos ++ info ∷ [])
done_more None schema done infos n info is d = record {
  tables = d.tables ++ (n, []) ∷ [];
  numbered = map-append (λ (t : Table). t.0) d.tables ((n, []) ∷ []) ∙ ap (λ ns. ns ++ n ∷ []) d.numbered;
  kept = tt;
  infos = map-append (λ (i : TableInfo). i.number) infos (info ∷ []) ∙ (λ j. d.infos j ++ is j ∷ []) ∙ sym (map-append (λ (t : Table). t.0) d.tables ((n, []) ∷ []));
}
done_more (Some told) schema done infos n info is d = record {
  tables = d.tables ++ (n, is.0) ∷ [];
  numbered = map-append (λ (t : Table). t.0) d.tables ((n, is.0) ∷ []) ∙ ap (λ ns. ns ++ n ∷ []) d.numbered;
  kept = All-append (IsStoredTable told schema) d.tables ((n, is.0) ∷ []) d.kept (All-cons (IsStoredTable told schema) (n, is.0) [] is.1 (λ k d l. absurd (omega arith)));
  infos = (λ j. d.infos j ++ is.2 j ∷ []) ∙ sym (map-append (λ (t : Table). info_of t.0 schema t.1) d.tables ((n, is.0) ∷ []));
}

-- all files are tables
pub done_all : (files : Option Files) (schema : SchemaValue) (all : List ℕ) (infos : List TableInfo) → AreNumbers files all → Done files schema all infos → (tables : List Table) × AreTables files schema tables × AreListed files schema tables infos
done_all None schema all infos h d = (d.tables, subst IsStrictlyIncreasing (sym d.numbered) h, d.infos)
done_all (Some told) schema all infos h d = (d.tables, (d.numbered ∙ h.1, d.kept), d.infos)

or_right : (a b : Bool) → b ≡ true → (a || b) ≡ true
or_right true b h = refl
or_right false b h = h

-- a number of the folder is a file's
any_there : (done rest : List ℕ) (n : ℕ) → list_any (eq_by_cmp nat_cmp n) (done ++ n ∷ rest) ≡ true
any_there [] rest n = ap (λ b. b || list_any (eq_by_cmp nat_cmp n) rest) ((eq_by_cmp_equiv nat_cmp_total).refl n)
any_there (k ∷ done) rest n = or_right (eq_by_cmp nat_cmp n k) (list_any (eq_by_cmp nat_cmp n) (done ++ n ∷ rest)) (any_there done rest n)

pub is_file : (files : Option Files) (all done rest : List ℕ) (n : ℕ) → AreNumbers files all → all ≡ done ++ n ∷ rest → IsFile files n
is_file None all done rest n h e = tt
is_file (Some told) all done rest n h e = finite.contains_key-keys told n ∙ ap (list_any (eq_by_cmp nat_cmp n)) (sym h.1 ∙ e) ∙ any_there done rest n

-- under the first key nothing is found
find_under : (k : ℕ) (n : ℕ) (es : List (ℕ × List ℕ)) → k < n → T (below_all nat_cmp n es) → find nat_cmp k es ≡ None
find_under k n [] h below = refl
find_under k n (e ∷ es) h below =
    let near : n < e.0 = less_of n e.0 (first_T (is_lt (nat_cmp n e.0)) (below_all nat_cmp n es) below) in
    ap (λ b. cond b (Some e.1) (find nat_cmp k es)) (apart_under k e.0 (omega (arith, near))) ∙ find_under k n es h (second_T (is_lt (nat_cmp n e.0)) (below_all nat_cmp n es) below)

head_is : (k q : ℕ) (ks qs : List ℕ) → ◌≡◌ {A = List ℕ} (k ∷ ks) (q ∷ qs) → k ≡ q
head_is k q ks qs e = cc

tail_is : (k q : ℕ) (ks qs : List ℕ) → ◌≡◌ {A = List ℕ} (k ∷ ks) (q ∷ qs) → ks ≡ qs
tail_is k q ks qs e = cc

-- a file of a lower number is one of the tables so far
earlier : (told : Files) (schema : SchemaValue) (tables : List Table) (es : List (ℕ × List ℕ)) (n k : ℕ) (rest more : List ℕ) → All (IsStoredTable told schema) tables → T (is_sorted nat_cmp es)
    → map (λ (e : ℕ × List ℕ). e.0) es ≡ numbers tables ++ n ∷ rest → k < n → find nat_cmp k es ≡ Some more → (parts : List Partition) × IsStoredTable told schema (k, parts)
earlier told schema [] [] n k rest more kept up e l found = absurd (cc)
earlier told schema [] (f ∷ fs) n k rest more kept up e l found =
    let here : f.0 ≡ n = head_is f.0 n _ rest e in
    let none : find nat_cmp k (f ∷ fs) ≡ None = ap (λ b. cond b (Some f.1) (find nat_cmp k fs)) (apart_under k f.0 (omega (arith, here, l))) ∙ find_under k f.0 fs (omega (arith, here, l)) (first_T (below_all nat_cmp f.0 fs) (is_sorted nat_cmp fs) up) in
    absurd (not_none more (find nat_cmp k (f ∷ fs)) found none)
earlier told schema (t ∷ ts) [] n k rest more kept up e l found = absurd (cc)
earlier told schema (t ∷ ts) (f ∷ fs) n k rest more kept up e l found =
    let here : f.0 ≡ t.0 = head_is f.0 t.0 _ _ e in
    elim (eq_by_cmp nat_cmp k f.0) as (λ b. eq_by_cmp nat_cmp k f.0 ≡ b → cond b (Some f.1) (find nat_cmp k fs) ≡ Some more → (parts : List Partition) × IsStoredTable told schema (k, parts)) [
      | true ↦ λ b _. (t.1, subst (λ j. IsStoredTable told schema (j, t.1)) (sym (same_column k f.0 b ∙ here)) (All-head (IsStoredTable told schema) t ts kept))
      | false ↦ λ b g. earlier told schema ts fs n k rest more (All-tail (IsStoredTable told schema) t ts kept) (second_T (below_all nat_cmp f.0 fs) (is_sorted nat_cmp fs) up) (tail_is f.0 t.0 _ _ e) l g
    ] refl found

same_bytes : (bytes more : List ℕ) (o : Option (List ℕ)) → o ≡ Some bytes → o ≡ Some more → bytes ≡ more
same_bytes bytes more o e h = ap (λ o. unwrap_or o bytes) (sym e ∙ h)

first_bad : (told : Files) (schema : SchemaValue) (all done rest : List ℕ) (infos : List TableInfo) (n : ℕ) (damage : Option ℕ) → AreNumbers (Some told) all → all ≡ done ++ n ∷ rest → Done (Some told) schema done infos
    → (bytes : List ℕ) → finite.get told n ≡ Some bytes → MatchOption damage (IsOtherSchema bytes schema) (FirstDamage bytes schema) → IsFirstBad told schema n damage
first_bad told schema all done rest infos n damage h e d bytes here bad = record {
  bytes = bytes;
  here = here;
  bad = bad;
  earlier = λ k more l found.
      let keys : map (λ (e : ℕ × List ℕ). e.0) (finite.entries told) ≡ numbers d.tables ++ n ∷ rest = sym h.1 ∙ e ∙ ap (λ ns. ns ++ n ∷ rest) (sym d.numbered) in
      let t = earlier told schema d.tables (finite.entries told) n k rest more d.kept (finite.entries_sorted told) keys l (sym (finite.get-entries told k) ∙ found) in
      (t.0, subst (λ bytes. IsTable bytes schema t.0) (same_bytes t.1.0 more (finite.get told k) t.1.1 found) t.1.2);
}

-- the first file that is no table
pub refused : (files : Option Files) (schema : SchemaValue) (all done rest : List ℕ) (infos : List TableInfo) (n : ℕ) (e : OpenErr) → AreNumbers files all → all ≡ done ++ n ∷ rest → Done files schema done infos → IsBadFile files schema n e → IsOpeningRefused files schema e
refused files schema all done rest infos n Fault h is d bad = tt
refused None schema all done rest infos n (Damaged table offset) h is d bad = tt
refused (Some told) schema all done rest infos n (Damaged table offset) h is d bad =
    subst (λ j. IsFirstBad told schema j (Some offset)) (sym bad.0) (first_bad told schema all done rest infos n (Some offset) h is d bad.1.0 bad.1.1 bad.1.2)
refused None schema all done rest infos n (OtherSchema table) h is d bad = tt
refused (Some told) schema all done rest infos n (OtherSchema table) h is d bad =
    subst (λ j. IsFirstBad told schema j None) (sym bad.0) (first_bad told schema all done rest infos n None h is d bad.1.0 bad.1.1 bad.1.2)
refused files schema all done rest infos n NoMemory h is d bad = tt

-- the numbers before one, it, and those behind it
pub cut : (all : List ℕ) (i : ℕ) → i < length all → all ≡ take i all ++ get_or all i 0 ∷ drop (suc i) all
cut all i h = split_at all i 0 h

-- one file more
pub done_next : (files : Option Files) (schema : SchemaValue) (all : List ℕ) (i : ℕ) (infos : List TableInfo) (info : TableInfo) → i < length all → IsChecked files schema (get_or all i 0) info → Done files schema (take i all) infos
    → Done files schema (take (i + 1) all) (infos ++ info ∷ [])
done_next files schema all i infos info h is d =
    let one : i + 1 ≡ suc i = omega arith in
    subst (λ done. Done files schema done (infos ++ info ∷ [])) (sym (ap (λ j. take j all) one ∙ take-suc all i 0 h)) (done_more files schema (take i all) infos (get_or all i 0) info is d)

-- ---- one file

content_of : (o : Option (List ℕ)) → is_some o ≡ true → (bytes : List ℕ) × (o ≡ Some bytes)
content_of None e = absurd (cc)
content_of (Some bytes) e = (bytes, refl)

numbered : (n : ℕ) (info other : TableInfo) → info ≡ other → ◌≡◌ {A = TableInfo} (record { number = n; parts = info.parts }) (record { number = n; parts = other.parts })
numbered n info other e = λ j. record { number = n; parts = (e j).parts }

-- a file that was checked
pub is_checked : (files : Option Files) (schema : SchemaValue) (n : ℕ) (info : TableInfo) → IsFile files n → ((bytes : List ℕ) → IsContent files n bytes → ChecksTable bytes n schema (Ok info)) → IsChecked files schema n (record { number = n; parts = info.parts })
is_checked None schema n info there h = refl
is_checked (Some told) schema n info there h =
    let content = content_of (finite.get told n) there in
    let table = h content.0 content.1 in
    (table.0, (content.0, content.1, table.2, table.1), numbered n info (info_of n schema table.0) table.3)

-- a file that was refused
pub is_damaged : (files : Option Files) (schema : SchemaValue) (n offset : ℕ) → IsFile files n → ((bytes : List ℕ) → IsContent files n bytes → FirstDamage bytes schema offset) → IsBadFile files schema n (Damaged n offset)
is_damaged None schema n offset there h = (refl, tt)
is_damaged (Some told) schema n offset there h = (let content = content_of (finite.get told n) there in (refl, (content.0, content.1, h content.0 content.1)))

pub is_other : (files : Option Files) (schema : SchemaValue) (n : ℕ) → IsFile files n → ((bytes : List ℕ) → IsContent files n bytes → IsOtherSchema bytes schema) → IsBadFile files schema n (OtherSchema n)
is_other None schema n there h = (refl, tt)
is_other (Some told) schema n there h = (let content = content_of (finite.get told n) there in (refl, (content.0, content.1, h content.0 content.1)))

-- ---- how many ranges are asked for

-- so many may be asked for still, of the files from one on
abbrev pub asks_left : Files → ℕ → ℕ
asks_left told i = checks_of (drop i (finite.values told))

-- what is above all keys is above each
below_at : (k : ℕ) (es : List (ℕ × List ℕ)) (i : ℕ) → T (below_all nat_cmp k es) → i < length es → k < get_or (map (λ (e : ℕ × List ℕ). e.0) es) i 0
below_at k [] i below h = absurd (omega (arith, h))
below_at k (e ∷ es) zero below h = less_of k e.0 (first_T (is_lt (nat_cmp k e.0)) (below_all nat_cmp k es) below)
below_at k (e ∷ es) (suc i) below h = below_at k es i (second_T (is_lt (nat_cmp k e.0)) (below_all nat_cmp k es) below) (omega (arith, h))

find_at : (es : List (ℕ × List ℕ)) (i : ℕ) → T (is_sorted nat_cmp es) → i < length es → find nat_cmp (get_or (map (λ (e : ℕ × List ℕ). e.0) es) i 0) es ≡ Some (get_or (map (λ (e : ℕ × List ℕ). e.1) es) i [])
find_at [] i up h = absurd (omega (arith, h))
find_at (e ∷ es) zero up h = ap (λ b. cond b (Some e.1) (find nat_cmp e.0 es)) ((eq_by_cmp_equiv nat_cmp_total).refl e.0)
find_at (e ∷ es) (suc i) up h =
    let later : i < length es = omega (arith, h) in
    let above : e.0 < get_or (map (λ (e : ℕ × List ℕ). e.0) es) i 0 = below_at e.0 es i (first_T (below_all nat_cmp e.0 es) (is_sorted nat_cmp es) up) later in
    ap (λ b. cond b (Some e.1) (find nat_cmp (get_or (map (λ (e : ℕ × List ℕ). e.0) es) i 0) es)) (apart (get_or (map (λ (e : ℕ × List ℕ). e.0) es) i 0) e.0 above) ∙ find_at es i (second_T (below_all nat_cmp e.0 es) (is_sorted nat_cmp es) up) later

-- the number of a file is that of its bytes
pub content_at : (told : Files) (all : List ℕ) (i : ℕ) → AreNumbers (Some told) all → i < length all → finite.get told (get_or all i 0) ≡ Some (get_or (finite.values told) i [])
content_at told all i is h =
    let within : i < length (finite.entries told) = omega (arith, h, ap length is.1, length-map (finite.entries told) (λ (e : ℕ × List ℕ). e.0)) in
    ap (λ ns. finite.get told (get_or ns i 0)) is.1 ∙ finite.get-entries told _ ∙ find_at (finite.entries told) i (finite.entries_sorted told) within

checks_drop : (files : List (List ℕ)) (i : ℕ) → i < length files → checks_of (drop i files) ≡ (length (get_or files i []) / 2048 + 2) + checks_of (drop (suc i) files)
checks_drop [] i h = absurd (omega (arith, h))
checks_drop (bytes ∷ files) zero h = sum_by-cons (λ (bytes : List ℕ). length bytes / 2048 + 2) bytes files
checks_drop (bytes ∷ files) (suc i) h = checks_drop files i (omega (arith, h))

-- what is asked for in checking one file is what the files from it on may ask for more than those behind it
pub asks_next : (told : Files) (all : List ℕ) (i before now : ℕ) → AreNumbers (Some told) all → i < length all → ((bytes : List ℕ) → IsContent (Some told) (get_or all i 0) bytes → AsksFew before now bytes) → now + asks_left told (i + 1) ≤ before + asks_left told i
asks_next told all i before now is h few =
    let files = finite.values told in
    let within : i < length files = omega (arith, h, ap length is.1, length-map (finite.entries told) (λ (e : ℕ × List ℕ). e.0), length-map (finite.entries told) (λ (e : ℕ × List ℕ). e.1)) in
    let one : i + 1 ≡ suc i = omega arith in
    let here : now ≤ before + (length (get_or files i []) / 2048 + 2) = few (get_or files i []) (content_at told all i is h) in
    let rest : checks_of (drop i files) ≡ (length (get_or files i []) / 2048 + 2) + checks_of (drop (i + 1) files) = checks_drop files i within ∙ ap (λ j. (length (get_or files i []) / 2048 + 2) + checks_of (drop j files)) (sym one) in
    omega (arith, here, rest)

-- where the folder is told
abbrev pub AsksLeft : Option Files → (i now start : ℕ) → Type 0
AsksLeft files i now start = IfSome files (λ told. now + asks_left told i ≤ start + checks_of (finite.values told))

pub asks_start : (files : Option Files) (now : ℕ) → AsksLeft files 0 now now
asks_start None now = tt
asks_start (Some told) now = omega arith

pub asks_on : (files : Option Files) (all : List ℕ) (i before now start : ℕ) → AreNumbers files all → i < length all → ((bytes : List ℕ) → IsContent files (get_or all i 0) bytes → AsksFew before now bytes) → AsksLeft files i before start → AsksLeft files (i + 1) now start
asks_on None all i before now start is h few left = tt
asks_on (Some told) all i before now start is h few left = (let next = asks_next told all i before now is h few in omega (arith, next, left))

pub asks_end : (files : Option Files) (i now start : ℕ) → AsksLeft files i now start → IfSome files (λ told. now ≤ start + checks_of (finite.values told))
asks_end None i now start left = tt
asks_end (Some told) i now start left = omega (arith, left)
