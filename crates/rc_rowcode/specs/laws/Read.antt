-- What a reader's answer says of a prefix of the bytes.
use Rattle.std.proofs.Common.{◌≡◌, ℕ, ◌-◌, ◌≤◌, List, ◌++◌, length, take, drop, Option, Some, None, sym, ap, ◌∙◌, arith}
use Rattle.std.specs.Option.{option_map}
use Rattle.std.proofs.lemmas.Option.{none-some, some_pair_parts}
use Rattle.std.proofs.lemmas.List.{take_at, take-append-drop, length-append}
use Rattle.rc_rowcode.specs.Spelling.{ReadsPrefix}
use Rattle.rc_rowcode.specs.calls.Reading.{Parser}
use Rattle.rc_rowcode.specs.laws.Fields.{IsBytes, Codec}

-- what is left is no longer than the bytes
pub left_within : {X : Type 0} {code : X → List ℕ} {is : X → Type 0} {read : Parser X} → Codec code is read → (bytes : List ℕ) (x : X × List ℕ) → IsBytes bytes → read bytes ≡ Some x → length x.1 ≤ length bytes
left_within {X} {code} codec bytes x fits e = let t = codec.took bytes x fits e in omega (arith, ap length t.parts, length-append (code x.0) x.1)

pub reads_value : {X : Type 0} {code : X → List ℕ} {is : X → Type 0} {read : Parser X} → Codec code is read → (bytes : List ℕ) (x : X × List ℕ) → IsBytes bytes → read bytes ≡ Some x → ReadsPrefix code is bytes (Some (x.0, length bytes - length x.1))
reads_value {X} {code} codec bytes x fits e =
    let t = codec.took bytes x fits e in
    let len : length bytes - length x.1 ≡ length (code x.0) = omega (arith, ap length t.parts, length-append (code x.0) x.1) in
    (t.fits, ap (λ (b : List ℕ). take (length bytes - length x.1) b) t.parts ∙ take_at (code x.0) x.1 (length bytes - length x.1) (sym len), len)

pub reads_none : {X : Type 0} {code : X → List ℕ} {is : X → Type 0} {read : Parser X} → Codec code is read → (bytes : List ℕ) → read bytes ≡ None → ReadsPrefix code is bytes None
reads_none {X} {code} {is} {read} codec bytes e x n fits same =
    let whole : bytes ≡ code x ++ drop n bytes = sym (take-append-drop n bytes) ∙ ap (λ (t : List ℕ). t ++ drop n bytes) same in
    let again : read bytes ≡ Some (x, drop n bytes) = ap read whole ∙ codec.again x (drop n bytes) fits in
    none-some (x, drop n bytes) (sym e ∙ again)

-- no spelling begins another
pub one_spelling : {X : Type 0} {code : X → List ℕ} {is : X → Type 0} {read : Parser X} → Codec code is read → (a b : X) (x y : List ℕ) → is a → is b → code a ++ x ≡ code b ++ y → (a ≡ b) × (x ≡ y)
one_spelling {X} {code} {is} {read} codec a b x y f g e =
    some_pair_parts a b x y (sym (codec.again a x f) ∙ ap read e ∙ codec.again b y g)

-- what was read, where the code's own value is known
pub none_read : {A B : Type 0} (o : Option A) (f : A → B) (r : Option B) → option_map f o ≡ r → o ≡ None → r ≡ None
none_read o f r e h = sym e ∙ ap (option_map f) h

pub some_read : {A B : Type 0} (o : Option A) (f : A → B) (r : Option B) (x : A) → option_map f o ≡ r → o ≡ Some x → r ≡ Some (f x)
some_read o f r x e h = sym e ∙ ap (option_map f) h
