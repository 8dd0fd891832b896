-- What stands at each key after a value is put at one.
use Rattle.std.proofs.Common.{◌≡◌, ℕ, true, false, cond, List, [], ◌∷◌, ◌++◌, Option, Some, None, unwrap_or, refl, ap, ◌∙◌}
use Rattle.std.specs.Option.{option_map}
use Rattle.std.specs.Ordering.{eq_by_cmp, is_eq}
use Rattle.std.specs.Cmp.{eq_by_cmp_equiv}
use Rattle.std.specs.declared.cmp.Ordering.{Ordering}
use Rattle.std.specs.declared.cmp.Ordering.TheVariants.{Less, Equal, Greater}
use Rattle.std.specs.Global.{Vec}
use Rattle.std.specs.BTreeMap.{BTreeMap, get}
use Rattle.rc_position.specs.Position.{bytes_cmp}
use Rattle.rc_position.specs.laws.Orders.{bytes_cmp_total, bytes_cmp_same}
use Rattle.rc_plain.specs.calls.Index.{numbers_at_key, numbers_of}

-- the key has the value, and each other key what it had
abbrev pub HasPut : BTreeMap (List ℕ) (Vec ℕ) → BTreeMap (List ℕ) (Vec ℕ) → List ℕ → Vec ℕ → Type 0
HasPut old new key value = (q : List ℕ) → get bytes_cmp new q ≡ cond (eq_by_cmp bytes_cmp key q) (Some value) (get bytes_cmp old q)

equal_is : (r : Ordering) → is_eq r ≡ true → r ≡ Equal
equal_is Less e = absurd (cc)
equal_is Equal e = refl
equal_is Greater e = absurd (cc)

pub key_is : (key q : List ℕ) → eq_by_cmp bytes_cmp key q ≡ true → key ≡ q
key_is key q e = bytes_cmp_same key q (equal_is (bytes_cmp key q) e)

-- two keys are equal either way
pub turned : (q k : List ℕ) → eq_by_cmp bytes_cmp k q ≡ eq_by_cmp bytes_cmp q k
turned q k = (eq_by_cmp_equiv bytes_cmp_total).symm k q

-- a number more at the key
pub found_put : (old new : BTreeMap (List ℕ) (Vec ℕ)) (key : List ℕ) (value : Vec ℕ) (number : ℕ) → HasPut old new key value → value.items ≡ numbers_of old key ++ number ∷ []
    → (q : List ℕ) → numbers_at_key new q ≡ cond (eq_by_cmp bytes_cmp key q) (Some (numbers_of old key ++ number ∷ [])) (numbers_at_key old q)
found_put old new key value number put more q =
    ap (option_map (λ (v : Vec ℕ). v.items)) (put q)
    ∙ elim (eq_by_cmp bytes_cmp key q) as (λ b. option_map (λ (v : Vec ℕ). v.items) (cond b (Some value) (get bytes_cmp old q)) ≡ cond b (Some (numbers_of old key ++ number ∷ [])) (numbers_at_key old q)) [ true ↦ ap Some more | false ↦ refl ]

-- the same numbers at the key
pub found_kept : (old new : BTreeMap (List ℕ) (Vec ℕ)) (key : List ℕ) (value : Vec ℕ) → HasPut old new key value → Some value.items ≡ numbers_at_key old key → (q : List ℕ) → numbers_at_key new q ≡ numbers_at_key old q
found_kept old new key value put same q =
    ap (option_map (λ (v : Vec ℕ). v.items)) (put q)
    ∙ elim (eq_by_cmp bytes_cmp key q) as (λ b. eq_by_cmp bytes_cmp key q ≡ b → option_map (λ (v : Vec ℕ). v.items) (cond b (Some value) (get bytes_cmp old q)) ≡ numbers_at_key old q) [
      | true ↦ λ e. same ∙ ap (numbers_at_key old) (key_is key q e)
      | false ↦ λ e. refl
    ] refl

-- what was found at the key
pub found_is : (m : BTreeMap (List ℕ) (Vec ℕ)) (key : List ℕ) (value : Vec ℕ) → Some value ≡ get bytes_cmp m key → Some value.items ≡ numbers_at_key m key
found_is m key value e = ap (option_map (λ (v : Vec ℕ). v.items)) e

pub numbers_are : (m : BTreeMap (List ℕ) (Vec ℕ)) (key : List ℕ) (value : Vec ℕ) → Some value ≡ get bytes_cmp m key → value.items ≡ numbers_of m key
numbers_are m key value e = ap (λ (o : Option (List ℕ)). unwrap_or o []) (found_is m key value e)

pub numbers_none : (m : BTreeMap (List ℕ) (Vec ℕ)) (key : List ℕ) → None ≡ get bytes_cmp m key → [] ≡ numbers_of m key
numbers_none m key e = ap (λ (o : Option (Vec ℕ)). unwrap_or (option_map (λ (v : Vec ℕ). v.items) o) []) e
