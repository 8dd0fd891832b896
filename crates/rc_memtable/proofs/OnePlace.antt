-- A single write, by what is there of it.
use Rattle.std.proofs.Common.{◌≡◌, Bool, true, false, List, [], ◌∷◌, Option, Some, None, is_some, length, refl, sym, ap, ◌∙◌, subst, inl, inr}
use Rattle.std.specs.Prelude.{◌&&◌, IsTrue, nat_le}
use Rattle.rc_cell.specs.declared.rows.Row.{Row}
use Rattle.rc_cell.specs.declared.writes.Tomb.{Tomb}
use Rattle.rc_cell.specs.Winner.{empty_row}
use Rattle.rc_position.specs.declared.comps.Comp.{Comp}
use Rattle.rc_ranges.specs.declared.pieces.Piece.{Piece}
use Rattle.rc_mutation.specs.declared.mutations.Mutation.{Mutation}
use Rattle.rc_mutation.specs.Fragments.{has_any, is_written}
use Rattle.rc_writes.specs.Single.{IsOnePlace, IsSingle, just_one}
use Rattle.rc_writes.specs.laws.OnePlace.{single-place}
use Rattle.rc_core.specs.StandsFor.{written_pt, written_range, written_row, written_statics}

-- by its partition tombstone
pt-place : (m : Mutation) (tomb : Tomb) → IsOnePlace m → m.pt ≡ Some tomb → m ≡ written_pt tomb
pt-place m tomb one is = elim one [
  | inl row ↦ (let e : None ≡ Some tomb = sym (ap (λ (n : Mutation). n.pt) row.2) ∙ is in absurd (cc))
  | inr other ↦ elim other [
    | inl statics ↦ (let e : None ≡ Some tomb = sym (ap (λ (n : Mutation). n.pt) statics.1) ∙ is in absurd (cc))
    | inr more ↦ elim more [
      | inl range ↦ (let e : None ≡ Some tomb = sym (ap (λ (n : Mutation). n.pt) range.1) ∙ is in absurd (cc))
      | inr pt ↦ (let e : Some pt.0 ≡ Some tomb = sym (ap (λ (n : Mutation). n.pt) pt.1) ∙ is in pt.1 ∙ ap (λ o. record { pt = o; statics = empty_row; rows = []; ranges = [] }) e)
    ]
  ]
]

pub single-pt : (m : Mutation) (tomb : Tomb) → IsSingle m → m.pt ≡ Some tomb → m ≡ written_pt tomb
single-pt m tomb s is = pt-place m tomb (single-place m s) is

-- by its row
row-place : (m : Mutation) (row : List Comp × Row) (rest : List (List Comp × Row)) → IsOnePlace m → m.rows ≡ row ∷ rest → m ≡ written_row row.0 row.1
row-place m row rest one is = elim one [
  | inl r ↦ (let e : (r.0, r.1) ∷ [] ≡ row ∷ rest = sym (ap (λ (n : Mutation). n.rows) r.2) ∙ is in let same : (r.0, r.1) ≡ row = cc in r.2 ∙ ap (λ (k : List Comp × Row). written_row k.0 k.1) same)
  | inr other ↦ elim other [
    | inl statics ↦ (let e : [] ≡ row ∷ rest = sym (ap (λ (n : Mutation). n.rows) statics.1) ∙ is in absurd (cc))
    | inr more ↦ elim more [
      | inl range ↦ (let e : [] ≡ row ∷ rest = sym (ap (λ (n : Mutation). n.rows) range.1) ∙ is in absurd (cc))
      | inr pt ↦ (let e : [] ≡ row ∷ rest = sym (ap (λ (n : Mutation). n.rows) pt.1) ∙ is in absurd (cc))
    ]
  ]
]

pub single-row : (m : Mutation) (row : List Comp × Row) (rest : List (List Comp × Row)) → IsSingle m → m.rows ≡ row ∷ rest → m ≡ written_row row.0 row.1
single-row m row rest s is = row-place m row rest (single-place m s) is

-- by its range
range-place : (m : Mutation) (p : Piece) (rest : List Piece) → IsOnePlace m → m.ranges ≡ p ∷ rest → m ≡ written_range p.from p.to p.tomb
range-place m p rest one is = elim one [
  | inl r ↦ (let e : [] ≡ p ∷ rest = sym (ap (λ (n : Mutation). n.ranges) r.2) ∙ is in absurd (cc))
  | inr other ↦ elim other [
    | inl statics ↦ (let e : [] ≡ p ∷ rest = sym (ap (λ (n : Mutation). n.ranges) statics.1) ∙ is in absurd (cc))
    | inr more ↦ elim more [
      | inl range ↦ (let e : range.0 ∷ [] ≡ p ∷ rest = sym (ap (λ (n : Mutation). n.ranges) range.1) ∙ is in let same : range.0 ≡ p = cc in range.1 ∙ ap (λ (q : Piece). written_range q.from q.to q.tomb) same)
      | inr pt ↦ (let e : [] ≡ p ∷ rest = sym (ap (λ (n : Mutation). n.ranges) pt.1) ∙ is in absurd (cc))
    ]
  ]
]

pub single-range : (m : Mutation) (p : Piece) (rest : List Piece) → IsSingle m → m.ranges ≡ p ∷ rest → m ≡ written_range p.from p.to p.tomb
single-range m p rest s is = range-place m p rest (single-place m s) is

-- by nothing else
statics-place : (m : Mutation) → IsOnePlace m → m.pt ≡ None → m.rows ≡ [] → m.ranges ≡ [] → m ≡ written_statics m.statics
statics-place m one p r q = elim one [
  | inl row ↦ (let e : ◌≡◌ {A = List (List Comp × Row)} [] ((row.0, row.1) ∷ []) = sym r ∙ ap (λ (n : Mutation). n.rows) row.2 in absurd (cc))
  | inr other ↦ elim other [
    | inl statics ↦ (statics.1 ∙ ap written_statics (sym (ap (λ (n : Mutation). n.statics) statics.1)))
    | inr more ↦ elim more [
      | inl range ↦ (let e : [] ≡ range.0 ∷ [] = sym q ∙ ap (λ (n : Mutation). n.ranges) range.1 in absurd (cc))
      | inr pt ↦ (let e : ◌≡◌ {A = Option Tomb} None (Some pt.0) = sym p ∙ ap (λ (n : Mutation). n.pt) pt.1 in absurd (cc))
    ]
  ]
]

pub single-statics : (m : Mutation) → IsSingle m → m.pt ≡ None → m.rows ≡ [] → m.ranges ≡ [] → m ≡ written_statics m.statics
single-statics m s p r q = statics-place m (single-place m s) p r q

-- and then something is written of its static row
one-at-least : (b : Bool) → IsTrue (just_one false b false false && true) → b ≡ true
one-at-least true h = refl
one-at-least false h = absurd (cc)

pub static-written : (m : Mutation) → IsSingle m → m.pt ≡ None → m.rows ≡ [] → m.ranges ≡ [] → is_written m.statics ≡ true
static-written m s p r q =
    one-at-least (is_written m.statics) (subst (λ (o : Option Tomb). IsTrue (just_one (is_some o) (is_written m.statics) false false && true)) p
    (subst (λ (rows : List (List Comp × Row)). IsTrue (just_one (is_some m.pt) (is_written m.statics) (has_any rows) false && (nat_le (length rows) 1 && true))) r
    (subst (λ (ranges : List Piece). IsTrue (just_one (is_some m.pt) (is_written m.statics) (has_any m.rows) (has_any ranges) && (nat_le (length m.rows) 1 && nat_le (length ranges) 1))) q s)))
