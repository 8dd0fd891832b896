-- What is live is what the objects of a list take, and they are as many.
use Rattle.std.proofs.Common.{◌≡◌, ℕ, suc, cond, Option, Some, None, List, [], ◌∷◌, length, drop, refl, sym, ap, ◌∙◌, arith, ◌*◌}
use Rattle.std.specs.Prelude.{sum_by, is_some, IsSome, Contains}
use Rattle.std.specs.Option.{option_map, option_map_or, option_and_then}
use Rattle.std.proofs.lemmas.List.Sums.{sum_by-cons}
use Rattle.lsa_kinds.specs.declared.kind.Kind.{Kind}
use Rattle.lsa_kinds.specs.Kinds.{links_of}
use Rattle.lsa_store.specs.Cells.{Cell, size_of, body_of}
use Rattle.lsa_store.specs.declared.place.Ref.{Ref}
use Rattle.lsa_store.specs.Objects.{cell_in, body_in, live_size, one_if_live, live_in}
use Rattle.lsa_store.specs.Stored.{IsStored}
use Rattle.lsa_store.specs.laws.Words.{object-size}
use Rattle.lsa_store.specs.laws.Written.{fitting-at, live-total}
use Rattle.lsa_store.specs.laws.Sums.{weigh-most, weigh-whole}
use Rattle.lsa_region.specs.Layout.{object_extent}
use Rattle.lsa_region.specs.Region.{View, body, live_bytes, IsSummed}

module _ (size : ℕ) (v : View) (stored : IsStored size (record { cells = v.cells; usages = v.usages })) where
  -- an object weighs what it takes, and a gap nothing
  of_kind : (c : Cell) (k : Option Kind) (r : Ref) → cell_in v.cells r ≡ Some c → c.kind ≡ k → live_size c ≡ object_extent (body_of c)
  of_kind c None r here e =
      let none : body_of c ≡ None = ap (option_map (λ (kind : Kind). (kind, drop (8 * links_of kind) c.rest))) e in
      ap (λ (k : Option Kind). cond (is_some k) (size_of c) 0) e ∙ sym (ap object_extent none)
  of_kind c (Some kind) r here e =
      let some : body_of c ≡ Some (kind, drop (8 * links_of kind) c.rest) = ap (option_map (λ (kind : Kind). (kind, drop (8 * links_of kind) c.rest))) e in
      ap (λ (k : Option Kind). cond (is_some k) (size_of c) 0) e ∙ object-size c kind e (fitting-at size (record { cells = v.cells; usages = v.usages }) r c stored here).proper ∙ sym (ap object_extent some)

  weight_is : (r : Ref) (o : Option Cell) → cell_in v.cells r ≡ o → option_map_or live_size o 0 ≡ object_extent (option_and_then body_of o)
  weight_is r None e = refl
  weight_is r (Some c) e = of_kind c c.kind r e refl

  sums_are : (refs : List Ref) → sum_by (λ r. object_extent (body v r)) refs ≡ sum_by (λ r. option_map_or live_size (cell_in v.cells r) 0) refs
  sums_are [] = refl
  sums_are (r ∷ refs) =
      omega (
        arith,
        sum_by-cons (λ (q : Ref). object_extent (body v q)) r refs,
        sum_by-cons (λ (q : Ref). option_map_or live_size (cell_in v.cells q) 0) r refs,
        weight_is r (cell_in v.cells r) refl,
        sums_are refs,
      )

no_size : (c : Cell) → c.kind ≡ None → live_size c ≡ 0
no_size c e = ap (λ (k : Option Kind). cond (is_some k) (size_of c) 0) e

no_one : (c : Cell) → c.kind ≡ None → one_if_live c ≡ 0
no_one c e = ap (λ (k : Option Kind). cond (is_some k) 1 0) e

-- each of so many objects counts as one
counted : (cells : List (List Cell)) (refs : List Ref) → ((r : Ref) → Contains refs r → IsSome (body_in cells r)) → sum_by (λ r. option_map_or one_if_live (cell_in cells r) 0) refs ≡ length refs
counted cells [] live = refl
counted cells (r ∷ refs) live =
    omega (
      arith,
      sum_by-cons (λ (q : Ref). option_map_or one_if_live (cell_in cells q) 0) r refs,
      one_at (cell_in cells r) (live r (0, omega arith, refl)),
      counted cells refs (λ q h. live q (suc h.0, omega (arith, h.1), h.2)),
    )
  where
    one_of : (c : Cell) (k : Option Kind) → c.kind ≡ k → IsSome (body_of c) → one_if_live c ≡ 1
    one_of c None e some = let none : body_of c ≡ None = ap (option_map (λ (kind : Kind). (kind, drop (8 * links_of kind) c.rest))) e in cc
    one_of c (Some kind) e some = ap (λ (k : Option Kind). cond (is_some k) 1 0) e

    one_at : (o : Option Cell) → IsSome (option_and_then body_of o) → option_map_or one_if_live o 0 ≡ 1
    one_at None some = cc
    one_at (Some c) some = one_of c c.kind refl some

pub summed : (size : ℕ) (v : View) → IsStored size (record { cells = v.cells; usages = v.usages }) → IsSummed v
summed size v stored =
    let total : sum_by live_in v.cells ≡ live_bytes v = live-total size (record { cells = v.cells; usages = v.usages }) stored in record {
      whole = λ refs live. sums_are size v stored refs ∙ weigh-whole live_size no_size refs v.cells live.once live.each ∙ total;
      most = λ refs once. omega (arith, total, sums_are size v stored refs, weigh-most live_size no_size refs v.cells once);
      all = λ refs live. sym (counted v.cells refs live.live) ∙ weigh-whole one_if_live no_one refs v.cells live.once live.each;
      few = λ refs once live. omega (arith, counted v.cells refs live, weigh-most one_if_live no_one refs v.cells once);
    }
