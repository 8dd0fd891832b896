-- Reading a schema's text and printing it are inverse, for crates above to cite.
use Rattle.std.specs.Prelude.{ℕ, Bool, true, false, cond, not, ◌&&◌, ◌||◌, ◌==◌, nat_le, ◌≤◌, List, [], ◌∷◌, ◌++◌, map as list_map, drop, length, codes, Option, Some, None, option_and_then, ◌≡◌, if◌then◌else◌}
use Rattle.std.proofs.Common.{refl, sym, ap, ◌∙◌, subst, arith}
use Rattle.std.specs.Char.{is_ascii_lowercase}
use Rattle.std.specs.Option.{option_map}
use Rattle.std.specs.List.{list_all, slice_split, onto_first, join_with_byte}
use Rattle.std.proofs.lemmas.Bool.Decides.{nat_tests, Decides-eqb}
use Rattle.std.proofs.lemmas.Slice.Eq.{starts_is}
use Rattle.std.specs.Cmp.Lexicographic.{same_text}
use Rattle.std.proofs.lemmas.List.Splits.{slice_split-cons_yes, slice_split-cons_no, join_with_byte-slice_split, length-slice_split}
use Rattle.std.proofs.lemmas.List.Folds.{list_all-append}
use Rattle.rc_schema.specs.declared.kinds.CkKind.{CkKind}
use Rattle.rc_schema.specs.declared.kinds.CkKind.TheVariants.{Int, Text}
use Rattle.rc_schema.specs.SchemaValue.{SchemaValue, is_name, are_distinct_by, is_schema, is_name_byte, are_names}
use Rattle.rc_spelling.specs.Words.{is_word, words, each_of}
use Rattle.rc_schema.specs.SchemaText.{kind_text, names_text, schema_text, read_kind, names_of, schema_listed, schema_of_words, schema_of}
use Rattle.rc_schema.specs.calls.Tests.{is_kind, kind_named, lists_named, are_listed, begins, schema_of_marked_words}

both : (b c : Bool) → b && c ≡ true → (b ≡ true) × (c ≡ true)
both true c h = (refl, h)
both false c h = cc

join : (b c : Bool) → b ≡ true → c ≡ true → b && c ≡ true
join b c p q = rw (p, q) refl

-- cutting

-- the byte stands nowhere in the word
abbrev lacks : ℕ → List ℕ → Bool
lacks c word = list_all (λ x. not (x == c)) word

other_than : (x c : ℕ) → not (x == c) ≡ true → x == c ≡ false
other_than x c h = grind (arith, nat_tests)

is_itself : (c : ℕ) → c == c ≡ true
is_itself c = grind (arith, nat_tests)

split_word : (c : ℕ) (word : List ℕ) → lacks c word ≡ true → slice_split (λ x. x == c) word ≡ word ∷ []
split_word c [] h = refl
split_word c (x ∷ word) h =
    let parts = both (not (x == c)) (lacks c word) h in
    slice_split-cons_no (λ x. x == c) x word (other_than x c parts.0) ∙ ap (onto_first x) (split_word c word parts.1)

split_more : (c : ℕ) (word rest : List ℕ) → lacks c word ≡ true → slice_split (λ x. x == c) (word ++ c ∷ rest) ≡ word ∷ slice_split (λ x. x == c) rest
split_more c [] rest h = slice_split-cons_yes (λ x. x == c) c rest (is_itself c)
split_more c (x ∷ word) rest h =
    let parts = both (not (x == c)) (lacks c word) h in
    slice_split-cons_no (λ x. x == c) x (word ++ c ∷ rest) (other_than x c parts.0) ∙ ap (onto_first x) (split_more c word rest parts.1)

-- words joined by a byte that they lack are cut again as they were
split_joined : (c : ℕ) (word : List ℕ) (rest : List (List ℕ)) → list_all (lacks c) (word ∷ rest) ≡ true → slice_split (λ x. x == c) (join_with_byte c (word ∷ rest)) ≡ word ∷ rest
split_joined c word [] h = split_word c word (both (lacks c word) true h).0
split_joined c word (other ∷ rest) h =
    let parts = both (lacks c word) (list_all (lacks c) (other ∷ rest)) h in
    split_more c word (join_with_byte c (other ∷ rest)) parts.0 ∙ ap (λ ws. word ∷ ws) (split_joined c other rest parts.1)

lacks-append : (c : ℕ) (xs ys : List ℕ) → lacks c xs ≡ true → lacks c ys ≡ true → lacks c (xs ++ ys) ≡ true
lacks-append c xs ys p q = list_all-append (λ x. not (x == c)) xs ys ∙ join (lacks c xs) (lacks c ys) p q

lacks-join : (c d : ℕ) → not (d == c) ≡ true → (words : List (List ℕ)) → list_all (lacks c) words ≡ true → lacks c (join_with_byte d words) ≡ true
lacks-join c d differ [] h = refl
lacks-join c d differ (word ∷ []) h = (both (lacks c word) true h).0
lacks-join c d differ (word ∷ other ∷ rest) h =
    let parts = both (lacks c word) (list_all (lacks c) (other ∷ rest)) h in
    lacks-append c word (d ∷ join_with_byte d (other ∷ rest)) parts.0 (join (not (d == c)) (lacks c (join_with_byte d (other ∷ rest))) differ (lacks-join c d differ (other ∷ rest) parts.1))

-- kinds

-- kinds with commas between them
abbrev kinds_text : List CkKind → List ℕ
kinds_text kinds = join_with_byte 44 (list_map kind_text kinds)

-- the items of a word, between commas
abbrev items : List ℕ → List (List ℕ)
items word = slice_split (λ byte. byte == 44) word

kind_lacks : (k : CkKind) → (lacks 32 (kind_text k) ≡ true) × (lacks 44 (kind_text k) ≡ true)
kind_lacks Int = (refl, refl)
kind_lacks Text = (refl, refl)

kinds_lack : (c : ℕ) → ((k : CkKind) → lacks c (kind_text k) ≡ true) → (ks : List CkKind) → list_all (lacks c) (list_map kind_text ks) ≡ true
kinds_lack c each [] = refl
kinds_lack c each (k ∷ ks) = join (lacks c (kind_text k)) (list_all (lacks c) (list_map kind_text ks)) (each k) (kinds_lack c each ks)

kind_back : (k : CkKind) → kind_named (kind_text k) ≡ k
kind_back Int = refl
kind_back Text = refl

kinds_back : (ks : List CkKind) → list_map kind_named (list_map kind_text ks) ≡ ks
kinds_back [] = refl
kinds_back (k ∷ ks) = ap (λ (j : CkKind). j ∷ list_map kind_named (list_map kind_text ks)) (kind_back k) ∙ ap (λ js. k ∷ js) (kinds_back ks)

kind_is : (k : CkKind) → is_kind (kind_text k) ≡ true
kind_is Int = refl
kind_is Text = refl

kinds_are : (ks : List CkKind) → list_all is_kind (list_map kind_text ks) ≡ true
kinds_are [] = refl
kinds_are (k ∷ ks) = join (is_kind (kind_text k)) (list_all is_kind (list_map kind_text ks)) (kind_is k) (kinds_are ks)

items_back : (ks : List CkKind) → nat_le 1 (length ks) ≡ true → items (kinds_text ks) ≡ list_map kind_text ks
items_back [] few = cc
items_back (k ∷ ks) few = split_joined 44 (kind_text k) (list_map kind_text ks) (kinds_lack 44 (λ j. (kind_lacks j).1) (k ∷ ks))

-- names

plain_32 : (b : ℕ) → is_name_byte b ≡ true → not (b == 32) ≡ true
plain_32 b h = grind (arith, nat_tests)

plain_44 : (b : ℕ) → is_name_byte b ≡ true → not (b == 44) ≡ true
plain_44 b h = grind (arith, nat_tests)

bytes_lack : (c : ℕ) → ((b : ℕ) → is_name_byte b ≡ true → not (b == c) ≡ true) → (w : List ℕ) → list_all is_name_byte w ≡ true → lacks c w ≡ true
bytes_lack c each [] h = refl
bytes_lack c each (b ∷ w) h =
    let parts = both (is_name_byte b) (list_all is_name_byte w) h in
    join (not (b == c)) (lacks c w) (each b parts.0) (bytes_lack c each w parts.1)

first_is : (b : ℕ) → is_ascii_lowercase b ≡ true → is_name_byte b ≡ true
first_is b h = rw h refl

name_bytes : (n : List ℕ) → is_name n ≡ true → list_all is_name_byte n ≡ true
name_bytes [] h = refl
name_bytes (b ∷ rest) h =
    let parts = both (is_ascii_lowercase b) (nat_le (length rest) 31 && list_all is_name_byte rest) h in
    join (is_name_byte b) (list_all is_name_byte rest) (first_is b parts.0) (both (nat_le (length rest) 31) (list_all is_name_byte rest) parts.1).1

names_lack : (c : ℕ) → ((b : ℕ) → is_name_byte b ≡ true → not (b == c) ≡ true) → (ns : List (List ℕ)) → list_all is_name ns ≡ true → list_all (lacks c) ns ≡ true
names_lack c each [] h = refl
names_lack c each (n ∷ ns) h =
    let parts = both (is_name n) (list_all is_name ns) h in
    join (lacks c n) (list_all (lacks c) ns) (bytes_lack c each n (name_bytes n parts.0)) (names_lack c each ns parts.1)

no_dash : (b : ℕ) (t : List ℕ) → is_ascii_lowercase b ≡ true → is_word (b ∷ t) (codes "-") ≡ false
no_dash b t h = (let e : b == 45 ≡ false = grind (arith, nat_tests) in rw e refl)

names_are_no_dash : (n : List ℕ) (ns : List (List ℕ)) → is_name n ≡ true → is_word (join_with_byte 44 (n ∷ ns)) (codes "-") ≡ false
names_are_no_dash [] ns h = cc
names_are_no_dash (b ∷ n) [] h = no_dash b n (both (is_ascii_lowercase b) (nat_le (length n) 31 && list_all is_name_byte n) h).0
names_are_no_dash (b ∷ n) (m ∷ ns) h = no_dash b (n ++ 44 ∷ join_with_byte 44 (m ∷ ns)) (both (is_ascii_lowercase b) (nat_le (length n) 31 && list_all is_name_byte n) h).0

choice : (b : Bool) (xs ys : List (List ℕ)) → b ≡ false → cond b xs ys ≡ ys
choice b xs ys e = rw e refl

names_back : (ns : List (List ℕ)) → list_all is_name ns ≡ true → names_of (names_text ns) ≡ ns
names_back [] h = refl
names_back (n ∷ ns) h =
    choice (is_word (join_with_byte 44 (n ∷ ns)) (codes "-")) [] (items (join_with_byte 44 (n ∷ ns))) (names_are_no_dash n ns (both (is_name n) (list_all is_name ns) h).0)
    ∙ split_joined 44 n ns (names_lack 44 plain_44 (n ∷ ns) h)

names_text_lacks : (ns : List (List ℕ)) → list_all is_name ns ≡ true → lacks 32 (names_text ns) ≡ true
names_text_lacks [] h = refl
names_text_lacks (n ∷ ns) h = lacks-join 32 44 refl (n ∷ ns) (names_lack 32 plain_32 (n ∷ ns) h)

-- the whole

-- what of a schema its spelling rests on
record Parts (s : SchemaValue) : Type 0 where
  some_kind : nat_le 1 (length s.ck) ≡ true
  statics : list_all is_name s.statics ≡ true
  cols : list_all is_name s.cols ≡ true

parts_of : (s : SchemaValue) → is_schema s ≡ true → Parts s
parts_of s h =
    let few = (nat_le 1 (length s.ck) && nat_le (length s.ck) 4) && (nat_le (length s.statics) 8 && nat_le (length s.cols) 32) in
    let halves = both few (are_names (s.statics ++ s.cols)) h in
    let named = both (list_all is_name (s.statics ++ s.cols)) (are_distinct_by is_word (s.statics ++ s.cols)) halves.1 in
    let each = both (list_all is_name s.statics) (list_all is_name s.cols) (sym (list_all-append is_name s.statics s.cols) ∙ named.0) in
    record {
      some_kind = (both (nat_le 1 (length s.ck)) (nat_le (length s.ck) 4) (both (nat_le 1 (length s.ck) && nat_le (length s.ck) 4) (nat_le (length s.statics) 8 && nat_le (length s.cols) 32) halves.0).0).0;
      statics = each.0;
      cols = each.1;
    }

-- what words say, tested first and read then

one_kind : (a b : Bool) → cond a (Some Int) (cond b (Some Text) None) ≡ cond (a || b) (Some (cond a Int Text)) None
one_kind true b = refl
one_kind false true = refl
one_kind false false = refl

first_kind : (b c : Bool) (kind : CkKind) (kinds : List CkKind) →
    option_and_then (λ k. option_map (λ ks. k ∷ ks) (cond c (Some kinds) None)) (cond b (Some kind) None) ≡ cond (b && c) (Some (kind ∷ kinds)) None
first_kind true true kind kinds = refl
first_kind true false kind kinds = refl
first_kind false c kind kinds = refl

kinds_tested : (words : List (List ℕ)) → each_of read_kind words ≡ cond (list_all is_kind words) (Some (list_map kind_named words)) None
kinds_tested [] = refl
kinds_tested (word ∷ words) =
    (λ i. option_and_then (λ k. option_map (λ ks. k ∷ ks) (kinds_tested words i)) (one_kind (is_word word (codes "int")) (is_word word (codes "text")) i))
    ∙ first_kind (is_kind word) (list_all is_kind words) (kind_named word) (list_map kind_named words)

within_limits : (b c : Bool) (kinds : List CkKind) (statics cols : List (List ℕ)) → is_schema (record { ck = kinds; statics = statics; cols = cols }) ≡ c
    → option_and_then (λ s. if is_schema s then Some s else None) (option_map {U = SchemaValue} (λ ks. record { ck = ks; statics = statics; cols = cols }) (cond b (Some kinds) None))
    ≡ cond (b && c) (Some (record { ck = kinds; statics = statics; cols = cols })) None
within_limits true c kinds statics cols e = ap (λ d. cond d (Some (record { ck = kinds; statics = statics; cols = cols })) None) e
within_limits false c kinds statics cols e = refl

pub listed_tested : (ck statics cols : List ℕ) → schema_listed ck statics cols
    ≡ cond (are_listed (slice_split (λ byte. byte == 44) ck) (names_of statics) (names_of cols)) (Some (lists_named (slice_split (λ byte. byte == 44) ck) (names_of statics) (names_of cols))) None
unfolding schema_listed
listed_tested ck statics cols =
    ap (λ o. option_and_then (λ s. if is_schema s then Some s else None) (option_map {U = SchemaValue} (λ ks. record { ck = ks; statics = names_of statics; cols = names_of cols }) o)) (kinds_tested (items ck))
    ∙ within_limits (list_all is_kind (items ck)) (is_schema (lists_named (items ck) (names_of statics) (names_of cols))) (list_map kind_named (items ck)) (names_of statics) (names_of cols) refl

same_if : (b : Bool) (x y : SchemaValue) → b ≡ true → x ≡ y → cond b (Some x) None ≡ Some y
same_if b x y p q = rw (p, q) refl

named_back : (s : SchemaValue) → Parts s → lists_named (items (kinds_text s.ck)) (names_of (names_text s.statics)) (names_of (names_text s.cols)) ≡ s
named_back s p =
    let ck = ap (list_map kind_named) (items_back s.ck p.some_kind) ∙ kinds_back s.ck in
    let statics = names_back s.statics p.statics in
    let cols = names_back s.cols p.cols in
    λ i. record { ck = ck i; statics = statics i; cols = cols i }

listed_back : (s : SchemaValue) → is_schema s ≡ true → schema_listed (kinds_text s.ck) (names_text s.statics) (names_text s.cols) ≡ Some s
listed_back s h =
    let p = parts_of s h in
    let named = lists_named (items (kinds_text s.ck)) (names_of (names_text s.statics)) (names_of (names_text s.cols)) in
    listed_tested (kinds_text s.ck) (names_text s.statics) (names_text s.cols)
    ∙ same_if (are_listed (items (kinds_text s.ck)) (names_of (names_text s.statics)) (names_of (names_text s.cols))) named s
    (join (list_all is_kind (items (kinds_text s.ck))) (is_schema named) (ap (list_all is_kind) (items_back s.ck p.some_kind) ∙ kinds_are s.ck) (ap is_schema (named_back s p) ∙ h))
    (named_back s p)

marked_back : (ck statics cols : List ℕ) → schema_of_marked_words (codes "ck=" ++ ck) (codes "static=" ++ statics) (codes "cols=" ++ cols) ≡ schema_listed ck statics cols
marked_back ck statics cols = refl

-- the text of a schema within the limits is read as that schema
pub text_reads_back : (s : SchemaValue) → is_schema s ≡ true → schema_of (schema_text s) ≡ Some s
unfolding schema_text
text_reads_back s h =
    let p = parts_of s h in
    let statics = names_text_lacks s.statics p.statics in
    let cols = names_text_lacks s.cols p.cols in
    let kinds = lacks-join 32 44 refl (list_map kind_text s.ck) (kinds_lack 32 (λ k. (kind_lacks k).0) s.ck) in
    ap schema_of_words (split_joined 32 (codes "ck=" ++ kinds_text s.ck) ((codes "static=" ++ names_text s.statics) ∷ (codes "cols=" ++ names_text s.cols) ∷ [])
    (join (lacks 32 (kinds_text s.ck)) (lacks 32 (names_text s.statics) && (lacks 32 (names_text s.cols) && true)) kinds (join (lacks 32 (names_text s.statics)) (lacks 32 (names_text s.cols) && true) statics (join (lacks 32 (names_text s.cols)) true cols refl))))
    ∙ marked_back (kinds_text s.ck) (names_text s.statics) (names_text s.cols)
    ∙ listed_back s h

-- what is read is within the limits, and its text is what was read

if_some : (b : Bool) (o : Option SchemaValue) (s : SchemaValue) → cond b o None ≡ Some s → (b ≡ true) × (o ≡ Some s)
if_some true o s h = (refl, h)
if_some false o s h = cc

begins_is : (text word : List ℕ) → begins text word ≡ true → word ≡ text ++ drop (length text) word
begins_is text word h = (starts_is Decides-eqb word text (begins text word) refl).0 h

word_is : (word text : List ℕ) → is_word word text ≡ true → word ≡ text
word_is word text h = same_text word text (sym h)

kind_text_back : (word : List ℕ) → is_kind word ≡ true → kind_text (kind_named word) ≡ word
kind_text_back word h =
    elim (is_word word (codes "int")) as (λ b. is_word word (codes "int") ≡ b → b || is_word word (codes "text") ≡ true → kind_text (cond b Int Text) ≡ word) [
      | true ↦ λ e _. sym (word_is word (codes "int") e)
      | false ↦ λ e t. sym (word_is word (codes "text") t)
    ] refl h

kinds_text_back : (words : List (List ℕ)) → list_all is_kind words ≡ true → list_map kind_text (list_map kind_named words) ≡ words
kinds_text_back [] h = refl
kinds_text_back (word ∷ words) h =
    let parts = both (is_kind word) (list_all is_kind words) h in
    ap (λ (w : List ℕ). w ∷ list_map kind_text (list_map kind_named words)) (kind_text_back word parts.0) ∙ ap (λ ws. word ∷ ws) (kinds_text_back words parts.1)

kinds_word : (word : List ℕ) → list_all is_kind (items word) ≡ true → kinds_text (list_map kind_named (items word)) ≡ word
kinds_word word h = ap (join_with_byte 44) (kinds_text_back (items word) h) ∙ join_with_byte-slice_split 44 word

names_joined : (ns : List (List ℕ)) → 1 ≤ length ns → names_text ns ≡ join_with_byte 44 ns
names_joined [] some = absurd (omega arith)
names_joined (n ∷ ns) some = refl

some_item : (word : List ℕ) → 1 ≤ length (items word)
some_item word = omega (arith, length-slice_split (λ x. x == 44) word)

names_word : (word : List ℕ) → names_text (names_of word) ≡ word
names_word word =
    elim (is_word word (codes "-")) as (λ b. is_word word (codes "-") ≡ b → names_text (cond b [] (items word)) ≡ word) [
      | true ↦ λ e. sym (word_is word (codes "-") e)
      | false ↦ λ e. names_joined (items word) (some_item word) ∙ join_with_byte-slice_split 44 word
    ] refl

-- of three words the text, and the limits
record Read (s : SchemaValue) (k n m : List ℕ) : Type 0 where
  kinds : kinds_text s.ck ≡ k
  statics : names_text s.statics ≡ n
  cols : names_text s.cols ≡ m
  within : is_schema s ≡ true

inside : (x y : SchemaValue) → ◌≡◌ {A = Option SchemaValue} (Some x) (Some y) → x ≡ y
inside x y h = cc

listed_read : (ck statics cols : List ℕ) (s : SchemaValue) → schema_listed ck statics cols ≡ Some s → Read s ck statics cols
listed_read ck statics cols s h =
    let named = lists_named (items ck) (names_of statics) (names_of cols) in
    let parts = if_some (are_listed (items ck) (names_of statics) (names_of cols)) (Some named) s (sym (listed_tested ck statics cols) ∙ h) in
    let halves = both (list_all is_kind (items ck)) (is_schema named) parts.0 in
    let whole : Read named ck statics cols = record { kinds = kinds_word ck halves.0; statics = names_word statics; cols = names_word cols; within = halves.1 } in
    subst (λ (x : SchemaValue). Read x ck statics cols) (inside named s parts.1) whole

marked_read : (ck statics cols : List ℕ) (s : SchemaValue) → schema_of_marked_words ck statics cols ≡ Some s
    → (codes "ck=" ++ kinds_text s.ck ≡ ck) × (codes "static=" ++ names_text s.statics ≡ statics) × (codes "cols=" ++ names_text s.cols ≡ cols) × (is_schema s ≡ true)
marked_read ck statics cols s h =
    let parts = if_some (begins (codes "ck=") ck && (begins (codes "static=") statics && begins (codes "cols=") cols)) (schema_listed (drop 3 ck) (drop 7 statics) (drop 5 cols)) s h in
    let first = both (begins (codes "ck=") ck) (begins (codes "static=") statics && begins (codes "cols=") cols) parts.0 in
    let second = both (begins (codes "static=") statics) (begins (codes "cols=") cols) first.1 in
    let r = listed_read (drop 3 ck) (drop 7 statics) (drop 5 cols) s parts.1 in (
      ap (λ w. codes "ck=" ++ w) r.kinds ∙ sym (begins_is (codes "ck=") ck first.0),
      ap (λ w. codes "static=" ++ w) r.statics ∙ sym (begins_is (codes "static=") statics second.0),
      ap (λ w. codes "cols=" ++ w) r.cols ∙ sym (begins_is (codes "cols=") cols second.1),
      r.within,
    )

joined_three : (a b c d e f : List ℕ) → a ≡ b → c ≡ d → e ≡ f → join_with_byte 32 (a ∷ c ∷ e ∷ []) ≡ join_with_byte 32 (b ∷ d ∷ f ∷ [])
joined_three a b c d e f p q r = cc

words_read : (ws : List (List ℕ)) (s : SchemaValue) → schema_of_words ws ≡ Some s → (schema_text s ≡ join_with_byte 32 ws) × (is_schema s ≡ true)
unfolding schema_text
words_read [] s h = cc
words_read (ck ∷ []) s h = cc
words_read (ck ∷ statics ∷ []) s h = cc
words_read (ck ∷ statics ∷ cols ∷ []) s h =
    let r = marked_read ck statics cols s h in
    (joined_three (codes "ck=" ++ kinds_text s.ck) ck (codes "static=" ++ names_text s.statics) statics (codes "cols=" ++ names_text s.cols) cols r.0 r.1 r.2, r.3)
words_read (ck ∷ statics ∷ cols ∷ more ∷ rest) s h = cc

-- a text that is read as a schema is that schema's text
pub read_is_the_text : (text : List ℕ) (s : SchemaValue) → schema_of text ≡ Some s → schema_text s ≡ text
read_is_the_text text s h = (words_read (words text) s h).0 ∙ join_with_byte-slice_split 32 text

-- and the schema is within the limits
pub read_is_within : (text : List ℕ) (s : SchemaValue) → schema_of text ≡ Some s → is_schema s ≡ true
read_is_within text s h = (words_read (words text) s h).1
