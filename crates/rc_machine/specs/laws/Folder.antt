-- The files of a folder, of which the next one has one more than the last of their numbers: it stands behind all of them, and they stay.
use Rattle.std.proofs.Common.{◌≡◌, ◌==◌, nat_lt, ◌⊎◌, inl, inr, ℕ, ◌+◌, ◌<◌, Bool, true, false, cond, ◌&&◌, T, List, [], ◌∷◌, ◌++◌, length, map, Option, Some, None, refl, sym, ap, subst, ◌∙◌, append_assoc, arith}
use Rattle.std.specs.Prelude.{All, fold}
use Rattle.std.specs.declared.cmp.Ordering.TheVariants.{Less, Equal, Greater}
use Rattle.std.specs.Ordering.{nat_cmp, is_lt, is_eq, eq_by_cmp}
use Rattle.std.specs.Cmp.{nat_cmp_total, eq_by_cmp_equiv}
use Rattle.std.specs.List.{AllByRecursion}
use Rattle.std.specs.FinMap as finite
use Rattle.std.specs.FinMap.{find, put, is_sorted}
use Rattle.std.specs.FinMap.Entries.{below_all, by_order}
use Rattle.std.proofs.lemmas.Bool.Decides.{nat_tests}
use Rattle.std.proofs.lemmas.List.{map-append}
use Rattle.std.proofs.Math.Seq.{get_or-append_seam}
use Rattle.rc_cell.specs.laws.ByColumn.{same_column}
use Rattle.rc_outside.specs.Files.{Files, IsNoFile}
use Rattle.rc_schema.specs.SchemaValue.{SchemaValue}
use Rattle.rc_tfile.specs.Before.{text}
use Rattle.rc_tfile.specs.TableText.{whole_table}
use Rattle.rc_machine.specs.State.{Table, numbers}
use Rattle.rc_machine.specs.Tables.{AreTables}
use Rattle.rc_machine.specs.Steps.{next_number}
use Rattle.rc_machine.specs.Flushed.{Flush, IsFlushOf, AreNext, tables_of, writes_of, files_with}

pub first_T : (a b : Bool) → T (a && b) → T a
first_T true b p = tt
first_T false b p = absurd p

pub second_T : (a b : Bool) → T (a && b) → T b
second_T true b p = p
second_T false b p = absurd p

lt_of : (a b : Bool) → T (is_lt (cond a Less (cond b Equal Greater))) → a ≡ true
lt_of true b h = refl
lt_of false true h = absurd h
lt_of false false h = absurd h

pub less_of : (k q : ℕ) → T (is_lt (nat_cmp k q)) → k < q
less_of k q h = (let t : nat_lt k q ≡ true = lt_of (nat_lt k q) (k == q) h in grind (arith, nat_tests, t))

greater : (n k : ℕ) → k < n → nat_cmp n k ≡ Greater
greater n k h =
    let less : nat_lt n k ≡ false = grind (arith, nat_tests, h) in
    let same : (n == k) ≡ false = grind (arith, nat_tests, h) in
    λ i. cond (less i) Less (cond (same i) Equal Greater)

pub apart : (n k : ℕ) → k < n → eq_by_cmp nat_cmp n k ≡ false
apart n k h = ap is_eq (greater n k h)

pub apart_under : (k n : ℕ) → k < n → eq_by_cmp nat_cmp k n ≡ false
apart_under k n h = (let less : nat_lt k n ≡ true = grind (arith, nat_tests, h) in ap (λ b. is_eq (cond b Less (cond (k == n) Equal Greater))) less)

-- one more than the last of numbers, or than n where there are none
abbrev pub number_after : ℕ → List ℕ → ℕ
number_after n ns = fold (λ last n. n) n ns + 1

module _ {X : Type 0} where
  abbrev keys_of : List (ℕ × X) → List ℕ
  keys_of es = map (λ (e : ℕ × X). e.0) es

  -- one more than the last of ascending keys is greater than one below them
  ahead : (k : ℕ) (es : List (ℕ × X)) → T (below_all nat_cmp k es) → T (is_sorted nat_cmp es) → k < number_after k (keys_of es)
  ahead k [] below up = omega arith
  ahead k (e ∷ es) below up =
      let near : k < e.0 = less_of k e.0 (first_T (is_lt (nat_cmp k e.0)) (below_all nat_cmp k es) below) in
      let far : e.0 < number_after e.0 (keys_of es) = ahead e.0 es (first_T (below_all nat_cmp e.0 es) (is_sorted nat_cmp es) up) (second_T (below_all nat_cmp e.0 es) (is_sorted nat_cmp es) up) in
      omega (arith, near, far)

  -- and greater than each of them
  all_below : (a : ℕ) (es : List (ℕ × X)) → T (is_sorted nat_cmp es) → AllByRecursion (λ (e : ℕ × X). e.0 < number_after a (keys_of es)) es
  all_below a [] up = tt
  all_below a (e ∷ es) up =
      (ahead e.0 es (first_T (below_all nat_cmp e.0 es) (is_sorted nat_cmp es) up) (second_T (below_all nat_cmp e.0 es) (is_sorted nat_cmp es) up), all_below e.0 es (second_T (below_all nat_cmp e.0 es) (is_sorted nat_cmp es) up))

  -- at a greater key nothing is found, and what is put there stands last
  find_ahead : (n : ℕ) (es : List (ℕ × X)) → AllByRecursion (λ (e : ℕ × X). e.0 < n) es → find nat_cmp n es ≡ None
  find_ahead n [] h = refl
  find_ahead n (e ∷ es) h = ap (λ b. cond b (Some e.1) (find nat_cmp n es)) (apart n e.0 h.0) ∙ find_ahead n es h.1

  put_ahead : (n : ℕ) (v : X) (es : List (ℕ × X)) → AllByRecursion (λ (e : ℕ × X). e.0 < n) es → put nat_cmp n v es ≡ es ++ (n, v) ∷ []
  put_ahead n v [] h = refl
  put_ahead n v (e ∷ es) h = ap (λ r. by_order r ((n, v) ∷ e ∷ es) ((e.0, v) ∷ es) (e ∷ put nat_cmp n v es)) (greater n e.0 h.0) ∙ ap (λ r. e ∷ r) (put_ahead n v es h.1)

below_next : (files : Files) (n : ℕ) → n ≡ next_number (finite.keys files) → AllByRecursion (λ (e : ℕ × List ℕ). e.0 < n) (finite.entries files)
below_next files n e = subst (λ j. AllByRecursion (λ (e : ℕ × List ℕ). e.0 < j) (finite.entries files)) (sym e) (all_below 0 (finite.entries files) (finite.entries_sorted files))

-- the next number is no file's
pub no_file_next : (files : Files) (n : ℕ) → n ≡ next_number (finite.keys files) → finite.get files n ≡ None
no_file_next files n e = finite.get-entries files n ∙ find_ahead n (finite.entries files) (below_next files n e)

pub is_no_file : (files : Option Files) (schema : SchemaValue) (tables : List Table) (n : ℕ) → AreTables files schema tables → n ≡ next_number (numbers tables) → IsNoFile files n
is_no_file None schema tables n are e = tt
is_no_file (Some files) schema tables n are e = no_file_next files n (e ∙ ap next_number are.0)

-- the file that is put there is the last
pub keys_next : (files : Files) (n : ℕ) (bytes : List ℕ) → n ≡ next_number (finite.keys files) → finite.keys (finite.insert files n bytes) ≡ finite.keys files ++ n ∷ []
keys_next files n bytes e =
    ap (map (λ (e : ℕ × List ℕ). e.0)) (finite.entries-insert nat_cmp_total files n bytes ∙ put_ahead n bytes (finite.entries files) (below_next files n e))
    ∙ map-append (λ (e : ℕ × List ℕ). e.0) (finite.entries files) ((n, bytes) ∷ [])

pub not_none : {X : Type 0} (x : X) (o : Option X) → o ≡ Some x → o ≡ None → ⊥
not_none x None e h = absurd (cc)
not_none x (Some y) e h = absurd (cc)

-- the other files stay
pub get_other : (files : Files) (n k : ℕ) (bytes more : List ℕ) → finite.get files n ≡ None → finite.get files k ≡ Some more → finite.get (finite.insert files n bytes) k ≡ Some more
get_other files n k bytes more none e =
    finite.get-insert nat_cmp_total files n bytes k
    ∙ elim (eq_by_cmp nat_cmp k n) as (λ b. eq_by_cmp nat_cmp k n ≡ b → cond b (Some bytes) (finite.get files k) ≡ Some more) [
      | true ↦ λ t. absurd (not_none more (finite.get files n) (ap (finite.get files) (sym (same_column k n t)) ∙ e) none)
      | false ↦ λ t. e
    ] refl

pub get_new : (files : Files) (n : ℕ) (bytes : List ℕ) → finite.get (finite.insert files n bytes) n ≡ Some bytes
get_new files n bytes =
    finite.get-insert nat_cmp_total files n bytes n
    ∙ ap (λ b. cond b (Some bytes) (finite.get files n)) ((eq_by_cmp_equiv nat_cmp_total).refl n)

-- files that are put behind the others leave them
pub files_kept : (schema : SchemaValue) (files : Files) (tables : List Table) → AreNext (finite.keys files) (numbers tables) → (n : ℕ) (bytes : List ℕ) → finite.get files n ≡ Some bytes → finite.get (files_with schema files tables) n ≡ Some bytes
files_kept schema files [] next n bytes e = e
files_kept schema files (t ∷ ts) next n bytes e =
    let put = text (whole_table schema t.1) in
    files_kept schema (finite.insert files t.0 put) ts (subst (λ ks. AreNext ks (numbers ts)) (sym (keys_next files t.0 put next.0)) next.1) n bytes
    (get_other files t.0 n put bytes (no_file_next files t.0 next.0) e)

-- a file that was put
pub record IsPut (schema : SchemaValue) (flushes : List Flush) (bytes : List ℕ) : Type 0 where
  pub front : List Flush
  pub flush : Flush
  pub back : List Flush
  pub stands : flushes ≡ front ++ flush ∷ back
  pub is : bytes ≡ text (whole_table schema flush.0.1)

some_is : (x y : List ℕ) → Some x ≡ Some y → y ≡ x
some_is x y e = cc

-- each file is one of those before, or was put
pub files_new : (schema : SchemaValue) (files : Files) (flushes : List Flush) (n : ℕ) (bytes : List ℕ) → finite.get (files_with schema files (tables_of flushes)) n ≡ Some bytes
    → (finite.get files n ≡ Some bytes) ⊎ IsPut schema flushes bytes
files_new schema files [] n bytes e = inl e
files_new schema files (f ∷ fs) n bytes e = either (files_new schema (finite.insert files f.0.0 put) fs n bytes e)
  where
    put : List ℕ
    put = text (whole_table schema f.0.1)

    here : (b : Bool) → cond b (Some put) (finite.get files n) ≡ Some bytes → (finite.get files n ≡ Some bytes) ⊎ IsPut schema (f ∷ fs) bytes
    here true h = inr (record { front = []; flush = f; back = fs; stands = refl; is = some_is put bytes h })
    here false h = inl h

    either : (finite.get (finite.insert files f.0.0 put) n ≡ Some bytes) ⊎ IsPut schema fs bytes → (finite.get files n ≡ Some bytes) ⊎ IsPut schema (f ∷ fs) bytes
    either (inl h) = here (eq_by_cmp nat_cmp n f.0.0) (sym (finite.get-insert nat_cmp_total files f.0.0 put n) ∙ h)
    either (inr p) = inr (record { front = f ∷ p.front; flush = p.flush; back = p.back; stands = ap (λ r. f ∷ r) p.stands; is = p.is })

-- what all flushes are, one of them is
pub one_of : (schema : SchemaValue) (front back : List Flush) (flush : Flush) → All (IsFlushOf schema) (front ++ flush ∷ back) → IsFlushOf schema flush
one_of schema front back flush all =
    subst (IsFlushOf schema) (get_or-append_seam front flush back flush) (all (length front) flush (within front))
  where
    within : (fs : List Flush) → length fs < length (fs ++ flush ∷ back)
    within [] = omega arith
    within (f ∷ fs) = let rest = within fs in omega (arith, rest)

-- its writes are a run of all
pub writes_around : (front back : List Flush) (flush : Flush) → writes_of (front ++ flush ∷ back) ≡ writes_of front ++ (flush.1 ++ writes_of back)
writes_around [] back flush = refl
writes_around (f ∷ fs) back flush = ap (λ ws. f.1 ++ ws) (writes_around fs back flush) ∙ sym (append_assoc f.1 (writes_of fs) (flush.1 ++ writes_of back))
