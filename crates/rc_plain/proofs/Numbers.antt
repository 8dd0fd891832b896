-- The numbers of a partition's writes: what one write more changes, and what stands at them.
use Rattle.std.proofs.Common.{◌≡◌, ℕ, suc, ◌+◌, ◌-◌, ◌<◌, ◌≤◌, Bool, true, false, cond, ◌||◌, List, [], ◌∷◌, ◌++◌, length, take, drop, get_or, Option, Some, unwrap_or, is_some, refl, sym, ap, subst, ◌∙◌, arith, append-nil}
use Rattle.std.specs.Prelude.{map as list_map}
use Rattle.std.specs.Option.{option_map}
use Rattle.std.specs.List.{All, filter, list_any, slice_get, cons_option}
use Rattle.std.specs.Ordering.{eq_by_cmp}
use Rattle.std.specs.Global.{Vec}
use Rattle.std.specs.BTreeMap.{BTreeMap}
use Rattle.std.proofs.Math.ListN.{get_or-append}
use Rattle.std.proofs.Math.Seq.{get_or-append_seam, take-append_seam}
use Rattle.std.proofs.lemmas.List.{length-append, map-append, take_rest, take-append-drop}
use Rattle.std.proofs.lemmas.List.Elements.{All-append, All-cons, filter_map-append, filter-append}
use Rattle.std.proofs.lemmas.List.Folds.{list_any-append}
use Rattle.std.proofs.lemmas.Option.{slice_get-get_or}
use Rattle.rc_position.specs.Position.{bytes_cmp}
use Rattle.rc_mutation.specs.declared.mutations.Mutation.{Mutation}
use Rattle.rc_mutation.specs.declared.mutations.Write.{Write}
use Rattle.rc_mutation.specs.Source.{IsJoinOf, changes_to}
use Rattle.rc_mutation.specs.laws.Sources.{IsJoinOf-first, IsJoinOf-swap}
use Rattle.rc_plain.specs.calls.Index.{changes_numbered, numbers_at_key, numbers_of, IsIndexOf}
use Rattle.rc_plain.proofs.Keyed.{key_is}

-- two joined parts are joined by joining what they join to
pub joined_halves : (first rest both : Mutation) (xs ys : List Mutation) → IsJoinOf first xs → IsJoinOf rest ys → IsJoinOf both (first ∷ rest ∷ []) → IsJoinOf both (xs ++ ys)
joined_halves first rest both xs ys j k l =
    IsJoinOf-swap both ys xs (IsJoinOf-first rest both ys xs k (IsJoinOf-swap both xs (rest ∷ []) (IsJoinOf-first first both xs (rest ∷ []) j l)))

-- what stands at a number within the log
at_number : (log : List Write) (n : ℕ) (d : Write) → n < length log → option_map (λ (w : Write). w.change) (slice_get log n) ≡ Some (get_or log n d).change
at_number log n d h = ap (option_map (λ (w : Write). w.change)) (slice_get-get_or log n d h)

pub changes_numbered-one : (log : List Write) (n : ℕ) (w : Write) → n < length log → w ≡ get_or log n w → changes_numbered log (n ∷ []) ≡ w.change ∷ []
changes_numbered-one log n w h there = ap (λ o. cons_option o []) (at_number log n w h) ∙ ap (λ (v : Write). v.change ∷ []) (sym there)

pub changes_numbered-append : (log : List Write) (ns ms : List ℕ) → changes_numbered log (ns ++ ms) ≡ changes_numbered log ns ++ changes_numbered log ms
changes_numbered-append log ns ms = filter_map-append (λ n. option_map (λ (w : Write). w.change) (slice_get log n)) ns ms

All-tail : (p : ℕ → Type 0) (n : ℕ) (ns : List ℕ) → All p (n ∷ ns) → All p ns
All-tail p n ns h = λ k d l. h (suc k) d (omega arith)

-- one write more changes nothing at the numbers before
pub changes_numbered-more : (log : List Write) (w : Write) (ns : List ℕ) → All (λ n. n < length log) ns → changes_numbered (log ++ w ∷ []) ns ≡ changes_numbered log ns
changes_numbered-more log w [] h = refl
changes_numbered-more log w (n ∷ ns) h =
    let within : n < length log = h 0 0 (omega arith) in
    let longer : n < length (log ++ w ∷ []) = omega (arith, length-append log (w ∷ [])) in
    let same : option_map (λ (v : Write). v.change) (slice_get (log ++ w ∷ []) n) ≡ option_map (λ (v : Write). v.change) (slice_get log n) =
    at_number (log ++ w ∷ []) n w longer ∙ ap (λ (v : Write). Some v.change) (get_or-append log (w ∷ []) w n within) ∙ sym (at_number log n w within) in
    ap (λ o. cons_option o (changes_numbered (log ++ w ∷ []) ns)) same ∙ ap (cons_option (option_map (λ (v : Write). v.change) (slice_get log n))) (changes_numbered-more log w ns (All-tail (λ n. n < length log) n ns h))

-- the last write stands at the number of those before
changes_numbered-last : (log : List Write) (w : Write) → changes_numbered (log ++ w ∷ []) (length log ∷ []) ≡ w.change ∷ []
changes_numbered-last log w =
    let longer : length log < length (log ++ w ∷ []) = omega (arith, length-append log (w ∷ [])) in
    changes_numbered-one (log ++ w ∷ []) (length log) w longer (sym (get_or-append_seam log w [] w))

changes_to-one : (key : List ℕ) (w : Write) → changes_to key (w ∷ []) ≡ cond (eq_by_cmp bytes_cmp w.key key) (w.change ∷ []) []
changes_to-one key w = elim (eq_by_cmp bytes_cmp w.key key) as (λ b. list_map (λ (v : Write). v.change) (cond b (w ∷ []) []) ≡ cond b (w.change ∷ []) []) [ true ↦ refl | false ↦ refl ]

changes_to-more : (key : List ℕ) (log : List Write) (w : Write) → changes_to key (log ++ w ∷ []) ≡ changes_to key log ++ cond (eq_by_cmp bytes_cmp w.key key) (w.change ∷ []) []
changes_to-more key log w =
    ap (list_map (λ (v : Write). v.change)) (filter-append (λ v. eq_by_cmp bytes_cmp v.key key) log (w ∷ []))
    ∙ map-append (λ (v : Write). v.change) (filter (λ v. eq_by_cmp bytes_cmp v.key key) log) (filter (λ v. eq_by_cmp bytes_cmp v.key key) (w ∷ []))
    ∙ ap (λ ms. changes_to key log ++ ms) (changes_to-one key w)

all_numbered : (log : List Write) (w : Write) (ns : List ℕ) (b : Bool) → All (λ n. n < length log) ns → All (λ n. n < length (log ++ w ∷ [])) (ns ++ cond b (length log ∷ []) [])
all_numbered log w ns b h =
    let more : length (log ++ w ∷ []) ≡ length log + 1 = omega (arith, length-append log (w ∷ [])) in
    let old : All (λ n. n < length (log ++ w ∷ [])) ns = λ k d l. (let below : get_or ns k d < length log = h k d l in omega arith) in
    All-append (λ n. n < length (log ++ w ∷ [])) ns (cond b (length log ∷ []) []) old
    (elim b as (λ b. All (λ n. n < length (log ++ w ∷ [])) (cond b (length log ∷ []) [])) [
      | true ↦ All-cons (λ n. n < length (log ++ w ∷ [])) (length log) [] (omega arith) (λ k d l. absurd (omega arith))
      | false ↦ λ k d l. absurd (omega arith)
    ])

all_changes : (key : List ℕ) (log : List Write) (w : Write) (ns : List ℕ) (b : Bool) → All (λ n. n < length log) ns → changes_numbered log ns ≡ changes_to key log
    → changes_numbered (log ++ w ∷ []) (ns ++ cond b (length log ∷ []) []) ≡ changes_to key log ++ cond b (w.change ∷ []) []
all_changes key log w ns true h e =
    changes_numbered-append (log ++ w ∷ []) ns (length log ∷ []) ∙ ap (λ ms. ms ++ changes_numbered (log ++ w ∷ []) (length log ∷ [])) (changes_numbered-more log w ns h ∙ e) ∙ ap (λ ms. changes_to key log ++ ms) (changes_numbered-last log w)
all_changes key log w ns false h e =
    ap (changes_numbered (log ++ w ∷ [])) (append-nil ns) ∙ changes_numbered-more log w ns h ∙ e ∙ sym (append-nil (changes_to key log))

-- the numbers at a key after one more
numbers_more : (index index' : BTreeMap (List ℕ) (Vec ℕ)) (key : List ℕ) (n : ℕ) → ((q : List ℕ) → numbers_at_key index' q ≡ cond (eq_by_cmp bytes_cmp key q) (Some (numbers_of index key ++ n ∷ [])) (numbers_at_key index q))
    → (q : List ℕ) → numbers_of index' q ≡ numbers_of index q ++ cond (eq_by_cmp bytes_cmp key q) (n ∷ []) []
numbers_more index index' key n put q =
    ap (λ (o : Option (List ℕ)). unwrap_or o []) (put q)
    ∙ elim (eq_by_cmp bytes_cmp key q) as (λ b. eq_by_cmp bytes_cmp key q ≡ b → unwrap_or (cond b (Some (numbers_of index key ++ n ∷ [])) (numbers_at_key index q)) [] ≡ numbers_of index q ++ cond b (n ∷ []) []) [
      | true ↦ λ e. ap (λ k. numbers_of index k ++ n ∷ []) (key_is key q e)
      | false ↦ λ e. sym (append-nil (numbers_of index q))
    ] refl

or_last : (a b : Bool) → (a || (b || false)) ≡ cond b true a
or_last true true = refl
or_last true false = refl
or_last false true = refl
or_last false false = refl

-- a key is listed where one of the writes has it
listed_more : (writes : List Write) (w : Write) (index index' : BTreeMap (List ℕ) (Vec ℕ)) (ns : List ℕ) (q : List ℕ) → is_some (numbers_at_key index q) ≡ list_any (λ (v : Write). eq_by_cmp bytes_cmp v.key q) writes
    → numbers_at_key index' q ≡ cond (eq_by_cmp bytes_cmp w.key q) (Some ns) (numbers_at_key index q) → is_some (numbers_at_key index' q) ≡ list_any (λ (v : Write). eq_by_cmp bytes_cmp v.key q) (writes ++ w ∷ [])
listed_more writes w index index' ns q is put =
    let p : Write → Bool = λ v. eq_by_cmp bytes_cmp v.key q in
    ap is_some put
    ∙ elim (eq_by_cmp bytes_cmp w.key q) as (λ b. is_some (cond b (Some ns) (numbers_at_key index q)) ≡ cond b true (is_some (numbers_at_key index q))) [ true ↦ refl | false ↦ refl ]
    ∙ ap (λ a. cond (eq_by_cmp bytes_cmp w.key q) true a) is
    ∙ sym (or_last (list_any p writes) (eq_by_cmp bytes_cmp w.key q))
    ∙ sym (list_any-append p writes (w ∷ []))

-- the number of a write more stands behind the others at its partition's key
pub index_more : (log : List Write) (w : Write) (index index' : BTreeMap (List ℕ) (Vec ℕ)) → IsIndexOf log index
    → ((q : List ℕ) → numbers_at_key index' q ≡ cond (eq_by_cmp bytes_cmp w.key q) (Some (numbers_of index w.key ++ length log ∷ [])) (numbers_at_key index q)) → IsIndexOf (log ++ w ∷ []) index'
index_more log w index index' is put =
    let more = numbers_more index index' w.key (length log) put in
    record {
      numbered = λ key. subst (λ ns. All (λ n. n < length (log ++ w ∷ [])) ns) (sym (more key)) (all_numbered log w (numbers_of index key) (eq_by_cmp bytes_cmp w.key key) (is.numbered key));
      changes = λ key.
          ap (changes_numbered (log ++ w ∷ [])) (more key) ∙ all_changes key log w (numbers_of index key) (eq_by_cmp bytes_cmp w.key key) (is.numbered key) (is.changes key) ∙ sym (changes_to-more key log w);
      listed = λ key. listed_more log w index index' (numbers_of index w.key ++ length log ∷ []) key (is.listed key) (put key);
    }

-- the same numbers at each key are an index of the same writes
pub index_same : (log : List Write) (index index' : BTreeMap (List ℕ) (Vec ℕ)) → IsIndexOf log index → ((q : List ℕ) → numbers_at_key index' q ≡ numbers_at_key index q) → IsIndexOf log index'
index_same log index index' is same =
    let numbers : (q : List ℕ) → numbers_of index' q ≡ numbers_of index q = λ q. ap (λ (o : Option (List ℕ)). unwrap_or o []) (same q) in
    record {
      numbered = λ key. subst (λ ns. All (λ n. n < length log) ns) (sym (numbers key)) (is.numbered key);
      changes = λ key. ap (changes_numbered log) (numbers key) ∙ is.changes key;
      listed = λ key. ap is_some (same key) ∙ is.listed key;
    }

-- the last write is taken back
pub popped : (log : List Write) (w : Write) (longer shorter : List Write) (n : ℕ) → longer ≡ log ++ w ∷ [] → n ≡ length log + 1 → shorter ≡ take (n - 1) longer → shorter ≡ log
popped log w longer shorter n more count less =
    let all : n - 1 ≡ length log = omega arith in
    less ∙ ap (λ n. take n longer) all ∙ ap (take (length log)) more ∙ take-append_seam log (w ∷ [])

-- no numbers
pub joined_none : (log : List Write) (m : Mutation) (ns : List ℕ) → length ns < 1 → IsJoinOf m [] → IsJoinOf m (changes_numbered log ns)
joined_none log m [] h j = j
joined_none log m (n ∷ ns) h j = absurd (omega arith)

-- one number
pub joined_one : (log : List Write) (w : Write) (m : Mutation) (ns : List ℕ) → 1 ≤ length ns → length ns < 2 → All (λ n. n < length log) ns → w ≡ get_or log (get_or ns 0 0) w
    → IsJoinOf m ((get_or log (get_or ns 0 0) w).change ∷ []) → IsJoinOf m (changes_numbered log ns)
joined_one log w m [] g h all there j = absurd (omega arith)
joined_one log w m (n ∷ []) g h all there j =
    subst (IsJoinOf m) (ap (λ (v : Write). v.change ∷ []) (sym there) ∙ sym (changes_numbered-one log n w (all 0 0 (omega arith)) there)) j
joined_one log w m (n ∷ k ∷ ns) g h all there j = absurd (omega arith)

-- the numbers in two parts
pub joined_parts : (log : List Write) (first rest both : Mutation) (ns xs ys : List ℕ) → ns ≡ xs ++ ys → IsJoinOf first (changes_numbered log xs) → IsJoinOf rest (changes_numbered log ys)
    → IsJoinOf both (first ∷ rest ∷ []) → IsJoinOf both (changes_numbered log ns)
joined_parts log first rest both ns xs ys split j k l =
    subst (IsJoinOf both) (sym (changes_numbered-append log xs ys) ∙ ap (changes_numbered log) (sym split)) (joined_halves first rest both (changes_numbered log xs) (changes_numbered log ys) j k l)

-- a list is its first part and the rest
pub split : (ns : List ℕ) (n : ℕ) → ns ≡ take n ns ++ take (length ns - n) (drop n ns)
split ns n = sym (take-append-drop n ns) ∙ ap (λ ms. take n ns ++ ms) (sym (take_rest ns n))
