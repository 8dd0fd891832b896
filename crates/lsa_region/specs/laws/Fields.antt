-- A number written over the bytes of an object.
use Rattle.std.proofs.Common.{ℕ, ◌+◌, ◌^◌, ◌<◌, ◌≤◌, List, ◌++◌, length, take, drop, sym, subst}
use Rattle.lsa_kinds.specs.Fields.{spelled_number, IsPut}
use Rattle.lsa_kinds.specs.laws.Fields.{length-spelled, number-spelled, put-middle}
use Rattle.lsa_store.specs.Bytes.{overwritten}

-- it reads back, and every field apart from it reads as it did
pub number-written : (bytes : List ℕ) (offset width value : ℕ) → offset + width ≤ length bytes → value < 256 ^ width → IsPut bytes (overwritten bytes offset (spelled_number width value)) offset width value
number-written bytes offset width value inside fits =
    let long = length-spelled width value in
    subst (λ k. IsPut bytes (take offset bytes ++ (spelled_number width value ++ drop (offset + k) bytes)) offset width value) (sym long)
    (put-middle bytes (spelled_number width value) offset width value long (number-spelled width value fits) inside)
