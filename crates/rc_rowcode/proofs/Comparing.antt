-- The components of a code, one by one, and a code taken apart.
use Rattle.std.proofs.Common.{◌≡◌, ℕ, zero, suc, ◌-◌, ◌<◌, List, [], ◌∷◌, length, Some, None, refl, ap, ◌∙◌, arith}
use Rattle.std.specs.List.{flat_map, AllByRecursion}
use Rattle.rc_position.specs.declared.comps.Comp.{Comp}
use Rattle.rc_position.specs.declared.positions.Weight.{Weight}
use Rattle.rc_position.specs.declared.positions.Pos.{Pos}
use Rattle.rc_rowcode.specs.Spelling.{comp_code, pos_code, IsComp, IsPos}
use Rattle.rc_position.specs.Position.{weight_number}
use Rattle.rc_rowcode.specs.calls.Reading.{parse_component}
use Rattle.rc_rowcode.specs.calls.Comparing.{listed_comps}
use Rattle.rc_rowcode.specs.laws.Codecs.{comp_codec}

pub comps_end : (n : ℕ) (bytes : List ℕ) → n ≡ 0 → listed_comps n bytes ≡ []
unfolding listed_comps
comps_end n bytes e = ap (λ k. listed_comps k bytes) e

pub comps_stuck : (n : ℕ) (bytes : List ℕ) → parse_component bytes ≡ None → listed_comps n bytes ≡ []
unfolding listed_comps
comps_stuck zero bytes e = refl
comps_stuck (suc n) bytes e = rw e refl

pub comps_step : (n : ℕ) (bytes : List ℕ) (x : Comp) (rest : List ℕ) → 0 < n → parse_component bytes ≡ Some (x, rest) → listed_comps n bytes ≡ x ∷ listed_comps (n - 1) rest
unfolding listed_comps
comps_step zero bytes x rest lt e = absurd (omega arith)
comps_step (suc n) bytes x rest lt e =
    let k : suc n - 1 ≡ n = omega arith in
    rw (e, k) refl

listed_coded : (cs : List Comp) → AllByRecursion IsComp cs → listed_comps (length cs) (flat_map comp_code cs) ≡ cs
unfolding listed_comps
listed_coded [] fits = refl
listed_coded (c ∷ cs) fits = rw (comp_codec.again c (flat_map comp_code cs) fits.0, listed_coded cs fits.1) refl

first_same : (n k : ℕ) (l s : List ℕ) → n ∷ l ≡ k ∷ s → n ≡ k
first_same n k l s e = cc

rest_same : (n k : ℕ) (l s : List ℕ) → n ∷ l ≡ k ∷ s → l ≡ s
rest_same n k l s e = cc

-- a code of a weight, a count and bytes is that of one position
pub whole_pos : (w n : ℕ) (bytes : List ℕ) (v : Weight) (x : Pos) → IsPos x → w ∷ n ∷ bytes ≡ pos_code x → ((u : Weight) → w ≡ weight_number u → v ≡ u) → ◌≡◌ {A = Pos} (record { prefix = listed_comps n bytes; weight = v }) x
whole_pos w n bytes v x fits e weighs =
    let behind : n ∷ bytes ≡ length x.prefix ∷ flat_map comp_code x.prefix = rest_same w (weight_number x.weight) (n ∷ bytes) _ e in
    let same : listed_comps n bytes ≡ x.prefix = (λ i. listed_comps (first_same n (length x.prefix) bytes _ behind i) (rest_same n (length x.prefix) bytes _ behind i)) ∙ listed_coded x.prefix fits.1 in
    let weight : v ≡ x.weight = weighs x.weight (first_same w (weight_number x.weight) (n ∷ bytes) _ e) in
    λ i. record { prefix = same i; weight = weight i }
