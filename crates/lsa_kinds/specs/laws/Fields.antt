-- Laws of fields: a spelled number reads back, and what is written in one field leaves those apart from it.
use Rattle.std.proofs.Common.{◌≡◌, ℕ, zero, suc, ◌+◌, ◌-◌, ◌/◌, ◌%◌, ◌^◌, ◌<◌, ◌≤◌, inl, inr, List, ◌∷◌, ◌++◌, length, take, drop, refl, sym, ap, ◌∙◌, arith, length-take}
use Rattle.std.proofs.Math.Nat.{pow-suc, div-add-mod}
use Rattle.std.proofs.Math.Seq.{drop-append_seam, take-append_seam}
use Rattle.std.proofs.lemmas.List.{drop-take, take-take, drop-drop}
use Rattle.lsa_kinds.specs.Fields.{number, number_at, spelled_number, IsApart, IsPut}

pub number-spelled : (width value : ℕ) → value < 256 ^ width → number (spelled_number width value) ≡ value
number-spelled zero value fits = omega arith
number-spelled (suc width) value fits =
    omega (arith, number-spelled width (value / 256) (omega (arith, pow-suc 256 width, div-add-mod value 256)), div-add-mod value 256)

-- what lies before a field or behind it stays, as other fields show
take_within : (other width offset : ℕ) (bytes : List ℕ) → other + width ≤ offset → take width (drop other bytes) ≡ drop other (take (other + width) (take offset bytes))
take_within other width offset bytes le = sym (drop-take other width bytes) ∙ ap (drop other) (sym (take-take (other + width) offset bytes le))

drop_within : (other offset : ℕ) (bytes : List ℕ) → offset ≤ other → drop other bytes ≡ drop (other - offset) (drop offset bytes)
drop_within other offset bytes le =
    let same : other ≡ offset + (other - offset) = omega arith in ap (λ k. drop k bytes) same ∙ sym (drop-drop (other - offset) offset bytes)

pub other_fields : (old new : List ℕ) (offset width : ℕ) → take offset new ≡ take offset old → drop (offset + width) new ≡ drop (offset + width) old
    → (other other_width : ℕ) → IsApart offset width other other_width → number_at other other_width new ≡ number_at other other_width old
other_fields old new offset width before behind other other_width (inl le) =
    ap number (take_within other other_width offset new le ∙ ap (λ bs. drop other (take (other + other_width) bs)) before ∙ sym (take_within other other_width offset old le))
other_fields old new offset width before behind other other_width (inr le) =
    ap (λ bs. number (take other_width bs)) (drop_within other (offset + width) new le ∙ ap (drop (other - (offset + width))) behind ∙ sym (drop_within other (offset + width) old le))

pub length-spelled : (width value : ℕ) → length (spelled_number width value) ≡ width
length-spelled zero value = refl
length-spelled (suc width) value = ap (λ k. suc k) (length-spelled width (value / 256))

-- the first bytes of a number spelled in more are those of the number spelled in as many
pub take-spelled : (width all value : ℕ) → width ≤ all → take width (spelled_number all value) ≡ spelled_number width value
take-spelled zero all value le = refl
take-spelled (suc width) zero value le = absurd (omega arith)
take-spelled (suc width) (suc all) value le = ap (λ l. value % 256 ∷ l) (take-spelled width all (value / 256) (omega arith))

-- bytes written in the middle of a list are a field's
pub put-middle : (bytes middle : List ℕ) (offset width value : ℕ) → length middle ≡ width → number middle ≡ value → offset + width ≤ length bytes
    → IsPut bytes (take offset bytes ++ (middle ++ drop (offset + width) bytes)) offset width value
put-middle bytes middle offset width value long is inside =
    let front = take offset bytes in let behind = drop (offset + width) bytes in let new = front ++ (middle ++ behind) in
    let front_long : length front ≡ offset = omega (arith, length-take offset bytes) in
    let rest : drop offset new ≡ middle ++ behind = ap (λ k. drop k new) (sym front_long) ∙ drop-append_seam front (middle ++ behind) in
    let before : take offset new ≡ take offset bytes = ap (λ k. take k new) (sym front_long) ∙ take-append_seam front (middle ++ behind) in
    let after : drop (offset + width) new ≡ behind = sym (drop-drop width offset new) ∙ ap (drop width) rest ∙ ap (λ k. drop k (middle ++ behind)) (sym long) ∙ drop-append_seam middle behind in
    record {
      written = ap (λ l. number (take width l)) rest ∙ ap (λ k. number (take k (middle ++ behind))) (sym long) ∙ ap number (take-append_seam middle behind) ∙ is;
      before = before;
      behind = after;
      others = other_fields bytes new offset width before after;
    }
