-- Reading and writing a number a byte at a time.
use Rattle.std.proofs.Common.{◌≡◌, ℕ, zero, suc, ◌+◌, ◌*◌, ◌-◌, ◌/◌, ◌%◌, ◌^◌, ◌<◌, ◌≤◌, List, [], ◌∷◌, ◌++◌, length, get_or, take, drop, ap, ◌∙◌, arith, length-drop, length-take}
use Rattle.std.proofs.Math.ListN.{set}
use Rattle.std.proofs.Math.Nat.{one-le-pow, pow-suc}
use Rattle.std.proofs.lemmas.List.{get_or-drop, get_or-take, drop_more, length-take-le, drop-set-add, take_more_set}
use Rattle.lsa_kinds.specs.Fields.{number, spelled_number}

pub number-bound : (bytes : List ℕ) (width : ℕ) → ((k : ℕ) → get_or bytes k 0 < 256) → length bytes ≤ width → number bytes < 256 ^ width
number-bound [] width small short = omega (arith, one-le-pow width 256 (omega arith))
number-bound (byte ∷ bytes) zero small short = absurd (omega arith)
number-bound (byte ∷ bytes) (suc width) small short =
    omega (arith, number-bound bytes width (λ k. small (suc k)) (omega arith), small 0, pow-suc 256 width)

small_take : (n : ℕ) (bytes : List ℕ) → ((k : ℕ) → get_or bytes k 0 < 256) → (k : ℕ) → get_or (take n bytes) k 0 < 256
small_take zero bytes small k = omega arith
small_take (suc n) [] small k = omega arith
small_take (suc n) (byte ∷ bytes) small zero = small 0
small_take (suc n) (byte ∷ bytes) small (suc k) = small_take n bytes (λ j. small (suc j)) k

small_drop : (n : ℕ) (bytes : List ℕ) → ((k : ℕ) → get_or bytes k 0 < 256) → (k : ℕ) → get_or (drop n bytes) k 0 < 256
small_drop n bytes small k = rw (get_or-drop n bytes k 0) (small (n + k))

-- what a loop that has read some byte of a field has read takes seven bytes at most
pub read_bound : (offset width index : ℕ) (bytes : List ℕ) → ((k : ℕ) → get_or bytes k 0 < 256) → 0 < index → width ≤ 8
    → number (drop index (take width (drop offset bytes))) < 2 ^ 56
read_bound offset width index bytes small some short =
    number-bound (drop index (take width (drop offset bytes))) 7 (small_drop index _ (small_take width _ (small_drop offset bytes small)))
    (omega (arith, length-drop index (take width (drop offset bytes)), length-take width (drop offset bytes)))

-- the part of a list that a field is, from one of its bytes on
pub field_from : (offset width index : ℕ) (bytes : List ℕ) → index < width → offset + width ≤ length bytes
    → drop index (take width (drop offset bytes)) ≡ get_or bytes (offset + index) 0 ∷ drop (index + 1) (take width (drop offset bytes))
field_from offset width index bytes below inside =
    let long : length (take width (drop offset bytes)) ≡ width = length-take-le width (drop offset bytes) (omega (arith, length-drop offset bytes)) in
    let first : get_or (take width (drop offset bytes)) index 0 ≡ get_or bytes (offset + index) 0 = get_or-take width (drop offset bytes) index 0 below ∙ get_or-drop offset bytes index 0 in
    drop_more (take width (drop offset bytes)) index 0 (omega arith) ∙ ap (λ b. b ∷ drop (index + 1) (take width (drop offset bytes))) first

pub field_number : (offset width index : ℕ) (bytes : List ℕ) → index < width → offset + width ≤ length bytes
    → number (drop index (take width (drop offset bytes))) ≡ get_or bytes (offset + index) 0 + 256 * number (drop (index + 1) (take width (drop offset bytes)))
field_number offset width index bytes below inside = ap number (field_from offset width index bytes below inside)

pub spelled-next : (width index value : ℕ) → index < width → spelled_number (width - index) value ≡ value % 256 ∷ spelled_number (width - (index + 1)) (value / 256)
spelled-next width index value below =
    let next : width - index ≡ suc (width - (index + 1)) = omega arith in ap (λ k. spelled_number k value) next

-- one more byte of the field is written
pub write_more : (offset index byte : ℕ) (bytes : List ℕ) → offset + index < length bytes
    → take (index + 1) (drop offset (set bytes (offset + index) byte)) ≡ take index (drop offset bytes) ++ byte ∷ []
write_more offset index byte bytes inside =
    ap (take (index + 1)) (drop-set-add offset bytes index byte) ∙ take_more_set (drop offset bytes) index byte (omega (arith, length-drop offset bytes))
