-- Reading one value behind another: what the bytes begin with.
use Rattle.std.proofs.Common.{◌≡◌, ℕ, ◌+◌, ◌≤◌, List, [], ◌∷◌, ◌++◌, length, take, drop, Option, Some, None, refl, sym, ap, ◌∙◌, arith, append_assoc}
use Rattle.std.specs.Prelude.{IfSome}
use Rattle.std.proofs.lemmas.List.{take_at, drop_at, take-append-drop, length-append, length-take-le}
use Rattle.rc_position.specs.Position.{IsPartKey}
use Rattle.rc_cell.specs.declared.writes.Tomb.{Tomb}
use Rattle.rc_rowcode.specs.Spelling.{ReadsPrefix, optional_code, tomb_code, key_code, pos_code, row_code, IsTomb, IsKey, IsPos, IsCodedRow}
use Rattle.rc_rowcode.specs.laws.Codecs.{tomb_codec, optional_codec, key_codec, pos_codec}
use Rattle.rc_rowcode.specs.laws.RowCodec.{row_codec}
use Rattle.rc_rowcode.specs.laws.Read.{one_spelling}
use Rattle.rc_items.specs.Reading.{Starts}
use Rattle.rc_items.specs.Items.{bytes_code}

-- no spelling begins another
abbrev pub PrefixFree : {X : Type 0} → (X → List ℕ) → (X → Type 0) → Type 0
PrefixFree {X} code is = (a b : X) (x y : List ℕ) → is a → is b → code a ++ x ≡ code b ++ y → (a ≡ b) × (x ≡ y)

-- what the readers of codes say, in these words
pub from_reads : {X : Type 0} (code : X → List ℕ) (is : X → Type 0) (bytes : List ℕ) (found : Option (X × ℕ)) → ReadsPrefix code is bytes found → Starts code is bytes found
from_reads code is bytes None h = λ x more fits e. h x (length (code x)) fits (ap (take (length (code x))) e ∙ take_at (code x) more (length (code x)) refl)
from_reads code is bytes (Some found) h = (h.0, sym (take-append-drop found.1 bytes) ∙ ap (λ t. t ++ drop found.1 bytes) h.1, h.2)

-- one value behind another
module _ {A B : Type 0} (f : A → List ℕ) (isA : A → Type 0) (g : B → List ℕ) (isB : B → Type 0) where
  abbrev both_code : A × B → List ℕ
  both_code x = f x.0 ++ g x.1

  abbrev AreBoth : A × B → Type 0
  AreBoth x = isA x.0 × isB x.1

  pub first_missing : (bytes : List ℕ) → Starts f isA bytes None → Starts both_code AreBoth bytes None
  first_missing bytes h = λ x more fits e. h x.0 (g x.1 ++ more) fits.0 (e ∙ append_assoc (f x.0) (g x.1) more)

  pub second_missing : PrefixFree f isA → (bytes : List ℕ) (a : A) (n : ℕ) → Starts f isA bytes (Some (a, n)) → Starts g isB (drop n bytes) None → Starts both_code AreBoth bytes None
  second_missing free bytes a n h k = λ x more fits e.
      let same = free a x.0 (drop n bytes) (g x.1 ++ more) h.0 fits.0 (sym h.1 ∙ e ∙ append_assoc (f x.0) (g x.1) more) in
      k x.1 more fits.1 same.1

  pub both_there : (bytes : List ℕ) (a : A) (n : ℕ) (b : B) (m : ℕ) → Starts f isA bytes (Some (a, n)) → Starts g isB (drop n bytes) (Some (b, m)) → Starts both_code AreBoth bytes (Some ((a, b), n + m))
  both_there bytes a n b m h k =
      let len : n + m ≡ length (f a ++ g b) = omega (arith, h.2, k.2, length-append (f a) (g b)) in
      let parts : bytes ≡ (f a ++ g b) ++ drop m (drop n bytes) = h.1 ∙ ap (λ t. f a ++ t) k.1 ∙ sym (append_assoc (f a) (g b) (drop m (drop n bytes))) in
      ((h.0, k.0), parts ∙ ap (λ t. (f a ++ g b) ++ t) (sym (drop_at (f a ++ g b) (drop m (drop n bytes)) (n + m) (sym len)) ∙ ap (drop (n + m)) (sym parts)), len)

  pub both_free : PrefixFree f isA → PrefixFree g isB → PrefixFree both_code AreBoth
  both_free free more_free = λ a b x y h k e.
      let first = free a.0 b.0 (g a.1 ++ x) (g b.1 ++ y) h.0 k.0 (sym (append_assoc (f a.0) (g a.1) x) ∙ e ∙ append_assoc (f b.0) (g b.1) y) in
      let second = more_free a.1 b.1 x y h.1 k.1 first.1 in
      (λ i. (first.0 i, second.0 i), second.1)

-- a value behind a byte of its sort
abbrev pub rest_of : List ℕ → List ℕ
rest_of [] = []
rest_of (x ∷ xs) = xs

module _ {A : Type 0} (byte : ℕ) (f : A → List ℕ) (is : A → Type 0) where
  abbrev behind_code : A → List ℕ
  behind_code x = byte ∷ f x

  pub untagged : (bytes : List ℕ) → ((rest : List ℕ) → bytes ≡ byte ∷ rest → ⊥) → Starts behind_code is bytes None
  untagged bytes h = λ x more fits e. h (f x ++ more) e

  pub tagged_none : (bytes rest : List ℕ) → bytes ≡ byte ∷ rest → Starts f is rest None → Starts behind_code is bytes None
  tagged_none bytes rest p h = λ x more fits e. h x more fits (ap rest_of (sym p ∙ e))

  pub tagged_some : (bytes rest : List ℕ) (a : A) (n : ℕ) → bytes ≡ byte ∷ rest → Starts f is rest (Some (a, n)) → Starts behind_code is bytes (Some (a, 1 + n))
  tagged_some bytes rest a n p h =
      let len : 1 + n ≡ length (byte ∷ f a) = omega (arith, h.2) in
      let parts : bytes ≡ (byte ∷ f a) ++ drop n rest = p ∙ ap (λ t. byte ∷ t) h.1 in
      (h.0, parts ∙ ap (λ t. (byte ∷ f a) ++ t) (sym (drop_at (byte ∷ f a) (drop n rest) (1 + n) (sym len)) ∙ ap (drop (1 + n)) (sym parts)), len)

-- ---- an optional tombstone

-- a tombstone in the ranges of a code, or none
abbrev pub IsOptional : Option Tomb → Type 0
IsOptional o = IfSome o IsTomb

pub no_tomb : (bytes rest : List ℕ) → bytes ≡ 0 ∷ rest → Starts (optional_code tomb_code) IsOptional bytes (Some (None, 1))
no_tomb bytes rest p = (tt, p ∙ ap (λ t. 0 ∷ t) (sym (drop_at (0 ∷ []) rest 1 refl) ∙ ap (drop 1) (sym p)), refl)

pub some_tomb : (bytes rest : List ℕ) (t : Tomb) (n : ℕ) → bytes ≡ 1 ∷ rest → Starts tomb_code IsTomb rest (Some (t, n)) → Starts (optional_code tomb_code) IsOptional bytes (Some (Some t, 1 + n))
some_tomb bytes rest t n p h = tagged_some 1 tomb_code IsTomb bytes rest t n p h

pub tomb_missing : (bytes rest : List ℕ) → ((r : List ℕ) → bytes ≡ 0 ∷ r → ⊥) → bytes ≡ 1 ∷ rest → Starts tomb_code IsTomb rest None → Starts (optional_code tomb_code) IsOptional bytes None
tomb_missing bytes rest h p k None more fits e = h more e
tomb_missing bytes rest h p k (Some t) more fits e = k t more fits (ap rest_of (sym p ∙ e))

pub no_option : (bytes : List ℕ) → ((r : List ℕ) → bytes ≡ 0 ∷ r → ⊥) → ((r : List ℕ) → bytes ≡ 1 ∷ r → ⊥) → Starts (optional_code tomb_code) IsOptional bytes None
no_option bytes h k None more fits e = h more e
no_option bytes h k (Some t) more fits e = k (tomb_code t ++ more) e

-- ---- a partition key

-- the first byte; 0 where there is none
abbrev first_of_list : List ℕ → ℕ
first_of_list [] = 0
first_of_list (x ∷ xs) = x

pub no_key : (bytes : List ℕ) → bytes ≡ [] → Starts bytes_code IsPartKey bytes None
no_key bytes p = λ x more fits e. absurd (let q : [] ≡ length x ∷ (x ++ more) = sym p ∙ e in cc)

pub key_missing : (bytes rest : List ℕ) (len : ℕ) → bytes ≡ len ∷ rest → (1 ≤ len → len ≤ 64 → len ≤ length rest → ⊥) → Starts bytes_code IsPartKey bytes None
key_missing bytes rest len p h = λ x more fits e.
    let q : len ∷ rest ≡ length x ∷ (x ++ more) = sym p ∙ e in
    let l : len ≡ length x = ap first_of_list q in
    let r : length rest ≡ length x + length more = ap (λ t. length (rest_of t)) q ∙ length-append x more in
    h (omega (arith, l, fits.0)) (omega (arith, l, fits.1)) (omega (arith, l, r))

pub key_there : (bytes rest : List ℕ) (len : ℕ) → bytes ≡ len ∷ rest → 1 ≤ len → len ≤ 64 → len ≤ length rest → Starts bytes_code IsPartKey bytes (Some (take len rest, 1 + len))
key_there bytes rest len p some few enough =
    let t = take len rest in
    let l : length t ≡ len = length-take-le len rest enough in
    let parts : bytes ≡ (length t ∷ t) ++ drop len rest = p ∙ (λ i. sym l i ∷ sym (take-append-drop len rest) i) in
    let whole : 1 + len ≡ length (length t ∷ t) = omega (arith, l) in
    ((omega (arith, l, some), omega (arith, l, few)), parts ∙ ap (λ d. (length t ∷ t) ++ d) (sym (drop_at (length t ∷ t) (drop len rest) (1 + len) (sym whole)) ∙ ap (drop (1 + len)) (sym parts)), whole)

pub key_free : PrefixFree bytes_code IsPartKey
key_free = λ a b x y f g e.
    let l : length a ≡ length b = ap first_of_list e in
    let r : a ++ x ≡ b ++ y = ap rest_of e in
    (sym (take_at a x (length a) refl) ∙ ap (take (length a)) r ∙ take_at b y (length a) (sym l), sym (drop_at a x (length a) refl) ∙ ap (drop (length a)) r ∙ drop_at b y (length a) (sym l))

pub optional_free : PrefixFree (optional_code tomb_code) (λ o. IfSome o IsTomb)
optional_free = λ a b x y f g e. one_spelling (optional_codec tomb_codec) a b x y f g e

pub full_key_free : PrefixFree key_code IsKey
full_key_free = λ a b x y f g e. one_spelling key_codec a b x y f g e

pub pos_free : PrefixFree pos_code IsPos
pos_free = λ a b x y f g e. one_spelling pos_codec a b x y f g e

pub row_free : PrefixFree row_code IsCodedRow
row_free = λ a b x y f g e. one_spelling row_codec a b x y f g e
