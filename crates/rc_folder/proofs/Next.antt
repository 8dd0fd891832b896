-- The number of the next table is one more than the last one's.
use Rattle.std.proofs.Common.{◌≡◌, ℕ, zero, suc, ◌+◌, ◌-◌, ◌<◌, List, [], ◌∷◌, length, map, Option, Some, None, option_map, unwrap_or, SomeIff, ◌^◌, slice_get, refl, sym, ap, ◌∙◌, arith}
use Rattle.std.proofs.lemmas.List.{length-map}
use Rattle.rc_tfile.specs.declared.info.TableInfo.{TableInfo}
use Rattle.rc_machine.specs.Steps.{next_number}
use Rattle.rc_machine.specs.laws.Folder.{number_after}
use Rattle.rc_folder.specs.Tabled.{IsNextNumber}

-- one more than the last of numbers is one more than the number that stands last
after_get : (a : ℕ) (ns : List ℕ) (k n : ℕ) → suc k ≡ length ns → Some n ≡ slice_get ns k → number_after a ns ≡ n + 1
after_get a [] k n e h = absurd (omega (arith, e))
after_get a (y ∷ []) zero n e h = ap (λ (o : Option ℕ). unwrap_or (option_map (λ z. z + 1) o) 0) (sym h)
after_get a (y ∷ []) (suc k) n e h = absurd (omega (arith, e))
after_get a (y ∷ z ∷ zs) zero n e h = absurd (omega (arith, e))
after_get a (y ∷ z ∷ zs) (suc k) n e h = after_get y (z ∷ zs) k n (omega (arith, e)) h

get_some : (ns : List ℕ) (k : ℕ) → k < length ns → None ≡ slice_get ns k → ⊥
get_some [] k l h = absurd (omega (arith, l))
get_some (n ∷ ns) zero l h = absurd (cc)
get_some (n ∷ ns) (suc k) l h = get_some ns k (omega (arith, l)) h

abbrev numbers_in : List TableInfo → List ℕ
numbers_in infos = map (λ (i : TableInfo). i.number) infos

last_number_of : (infos : List TableInfo) (n : ℕ) → Some n ≡ slice_get (numbers_in infos) (length infos - 1) → next_number (numbers_in infos) ≡ n + 1
last_number_of [] n h = absurd (cc)
last_number_of (i ∷ is) n h = after_get 0 (numbers_in (i ∷ is)) (length (i ∷ is) - 1) n (omega (arith, length-map (i ∷ is) (λ (i : TableInfo). i.number))) h

pub next_number_is : (infos : List TableInfo) (n : ℕ) (r : Option ℕ) → Some n ≡ slice_get (numbers_in infos) (length infos - 1) → SomeIff r (n + 1 < 2 ^ 32) (n + 1) → IsNextNumber infos r
next_number_is infos n None h is = (let last = last_number_of infos n h in omega (arith, last, is))
next_number_is infos n (Some next) h is = (let last = last_number_of infos n h in (is.1 ∙ sym last, omega (arith, is.0, is.1)))

pub number_first : (infos : List TableInfo) → None ≡ slice_get (numbers_in infos) (length infos - 1) → IsNextNumber infos (Some 1)
number_first [] h = (refl, omega arith)
number_first (i ∷ is) h = absurd (get_some (numbers_in (i ∷ is)) (length (i ∷ is) - 1) (omega (arith, length-map (i ∷ is) (λ (i : TableInfo). i.number))) h)
