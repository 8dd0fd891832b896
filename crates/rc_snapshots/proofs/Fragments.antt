-- The rows and changes of a mutation that fits a schema, as a reader gives them: canonical, with nothing between a row and what stands behind its key.
use Rattle.std.specs.Prelude.{◌≡◌, ◌≢◌, ◌≤◌, All, ℕ, zero, suc, Bool, true, false, cond, ◌&&◌, ◌==◌, List, [], ◌∷◌, ◌++◌, Option, Some, None, IsTrue, length, map as list_map}
use Rattle.std.proofs.Common.{refl, sym, ap, ◌∙◌, subst, arith}
use Rattle.std.proofs.lemmas.Bool.Decides.{nat_tests}
use Rattle.std.specs.List.{list_all}
use Rattle.std.specs.declared.cmp.Ordering.{Ordering}
use Rattle.std.specs.declared.cmp.Ordering.TheVariants.{Less, Equal, Greater}
use Rattle.std.specs.Ordering.{eq_by_cmp, is_eq, is_gt, is_le, is_lt, ordering_reverse, ordering_then}
use Rattle.rc_cell.specs.declared.rows.Row.{Row}
use Rattle.rc_cell.specs.declared.writes.Tomb.{Tomb}
use Rattle.rc_cell.specs.laws.Beats.{tomb_cmp-IsAntisymmetric}
use Rattle.rc_cell.specs.Orders.{tomb_cmp}
use Rattle.rc_position.specs.declared.comps.Comp.{Comp}
use Rattle.rc_position.specs.declared.positions.Pos.{Pos}
use Rattle.rc_position.specs.Position.{IsBefore, IsPosOf, pos_cmp, row_pos}
use Rattle.rc_position.specs.laws.Bounds.{first_pos-least, row_pos-next}
use Rattle.rc_position.specs.laws.Orders.{pos_cmp_total}
use Rattle.rc_schema.specs.declared.kinds.CkKind.{CkKind}
use Rattle.rc_schema.specs.SchemaValue.{SchemaValue}
use Rattle.rc_schema.specs.Checks.{are_of_kinds, is_key_of, is_of_kind, is_short}
use Rattle.rc_writes.specs.Allowed.{ChangeFits, IsRangeBound}
use Rattle.rc_ranges.specs.declared.pieces.Piece.{Piece}
use Rattle.rc_mutation.specs.declared.fragments.Frag.{Frag}
use Rattle.rc_mutation.specs.declared.fragments.Frag.TheVariants as frag
use Rattle.rc_mutation.specs.declared.mutations.Mutation.{Mutation}
use Rattle.rc_mutation.specs.Canonical.{IsCanonicalList}
use Rattle.rc_mutation.specs.Fragments.{begins_at, changes_of, place_order, placed_change, placed_row, rows_and_changes}
use Rattle.rc_mutation.specs.Source.{IsMutation}
use Rattle.rc_mutation.specs.laws.CanonicalListed.{listed}
use Rattle.rc_mutation.specs.laws.FragMerge.{fragment_of, merge, merge_into}
use Rattle.rc_stream.specs.Merging.{IsOrdered, IsTelling, StandsBefore, place_of, same_tomb}
use Rattle.rc_stream.specs.Places.{Reaches}
use Rattle.rc_cacheread.specs.Reading.{AreRowsApart, AreWritten, StandFrom, behind_row}
use Rattle.rc_snapshots.specs.Streams.{first_position}
use Rattle.rc_snapshots.proofs.Said.{run, run-is}

-- ---- canonical

tie : (r : Ordering) → is_eq r ≡ true → r ≡ Equal
tie Less e = absurd (cc)
tie Equal e = refl
tie Greater e = absurd (cc)

differs : (tomb next : Option Tomb) → next ≢ tomb → same_tomb tomb next ≡ false
differs None None h = absurd (h refl)
differs None (Some t) h = refl
differs (Some s) None h = refl
differs (Some s) (Some t) h =
    elim (eq_by_cmp tomb_cmp s t) as (λ b. eq_by_cmp tomb_cmp s t ≡ b → b ≡ false) [
      | true ↦ λ e. absurd (h (ap Some (sym (tomb_cmp-IsAntisymmetric s t (tie (tomb_cmp s t) e)))))
      | false ↦ λ _. refl
    ] refl

-- each change tells something
pub telling : (tomb : Option Tomb) (last : Option Pos) (fs : List Frag) → IsCanonicalList tomb last fs → IsTelling tomb fs
telling tomb last [] h = tt
telling tomb last (frag.Start pt ∷ fs) h = absurd h
telling tomb last (frag.Static row ∷ fs) h = absurd h
telling tomb last (frag.Row key row ∷ fs) h = (refl, telling tomb (Some (row_pos key)) fs h.3)
telling tomb last (frag.Change x next ∷ fs) h = (differs tomb next h.2, telling next (Some x) fs h.3)
telling tomb last (frag.End ∷ fs) h = absurd h

-- no row is empty
pub written : (tomb : Option Tomb) (last : Option Pos) (fs : List Frag) → IsCanonicalList tomb last fs → AreWritten fs
written tomb last [] h = tt
written tomb last (frag.Start pt ∷ fs) h = absurd h
written tomb last (frag.Static row ∷ fs) h = absurd h
written tomb last (frag.Row key row ∷ fs) h = (h.1, written tomb (Some (row_pos key)) fs h.3)
written tomb last (frag.Change x next ∷ fs) h = written next (Some x) fs h.3
written tomb last (frag.End ∷ fs) h = absurd h

-- ---- each at a position of rows with so many components

module _ (n : ℕ) where
  abbrev pub Stands : Frag → Type 0
  Stands (frag.Start pt) = Unit {0}
  Stands (frag.Static row) = Unit {0}
  Stands (frag.Row key row) = length key ≡ n
  Stands (frag.Change x next) = IsPosOf n x
  Stands frag.End = Unit {0}

  abbrev pub EachStands : List Frag → Type 0
  EachStands [] = Unit {0}
  EachStands (f ∷ fs) = Stands f × EachStands fs

  abbrev HaveKeys : List (List Comp × Row) → Type 0
  HaveKeys [] = Unit {0}
  HaveKeys (a ∷ os) = (length a.0 ≡ n) × HaveKeys os

  abbrev HavePlaces : List (Pos × Option Tomb) → Type 0
  HavePlaces [] = Unit {0}
  HavePlaces (b ∷ bs) = IsPosOf n b.0 × HavePlaces bs

  each-change : (bs : List (Pos × Option Tomb)) → HavePlaces bs → EachStands (list_map fragment_of (list_map placed_change bs))
  each-change [] h = tt
  each-change (b ∷ bs) h = (h.0, each-change bs h.1)

  each-row : (os : List (List Comp × Row)) → HaveKeys os → EachStands (list_map fragment_of (list_map placed_row os))
  each-row [] h = tt
  each-row (a ∷ os) h = (h.0, each-row os h.1)

  each-into : (a : List Comp × Row) (os : List (List Comp × Row)) → ((bs : List (Pos × Option Tomb)) → HavePlaces bs → EachStands (run os bs)) → HaveKeys (a ∷ os) → (bs : List (Pos × Option Tomb)) → HavePlaces bs → EachStands (list_map fragment_of (merge_into a os (merge os) bs))
  each-into a os ih h [] k = each-row (a ∷ os) h
  each-into a os ih h (b ∷ bs) k =
      elim (is_lt (pos_cmp (row_pos a.0) b.0)) as (λ r. EachStands (list_map fragment_of (cond r (placed_row a ∷ merge os (b ∷ bs)) (placed_change b ∷ merge_into a os (merge os) bs)))) [
        | true ↦ (h.0, ih (b ∷ bs) k)
        | false ↦ (k.0, each-into a os ih h bs k.1)
      ]

  each-of : (os : List (List Comp × Row)) → HaveKeys os → (bs : List (Pos × Option Tomb)) → HavePlaces bs → EachStands (run os bs)
  each-of [] h bs k = each-change bs k
  each-of (a ∷ os) h bs k = each-into a os (each-of os h.1) h bs k

  -- ---- nothing stands between a row and what is behind its key

  plain : (r : Ordering) → ordering_then r Equal ≡ Less → r ≡ Less
  plain Less e = refl
  plain Equal e = absurd (cc)
  plain Greater e = absurd (cc)

  strict : (r : Ordering) → ordering_then r Greater ≡ Less → r ≡ Less
  strict Less e = refl
  strict Equal e = absurd (cc)
  strict Greater e = absurd (cc)

  turned : (r : Ordering) → (r ≡ Less → ⊥) → is_le (ordering_reverse r) ≡ true
  turned Less h = absurd (h refl)
  turned Equal h = refl
  turned Greater h = refl

  beyond : (key : List Comp) → length key ≡ n → (x : Pos) → IsPosOf n x → IsBefore (row_pos key) x → Reaches (behind_row key) x
  beyond key full x of l =
      ap is_le (pos_cmp_total.antisymm (behind_row key) x)
      ∙ turned (pos_cmp x (behind_row key)) (λ k. row_pos-next key x (subst (λ j. IsPosOf j x) (sym full) of) l k)

  one-behind : (key : List Comp) → length key ≡ n → (g : Frag) → place_order (row_pos key, 1) (place_of g) ≡ Less → IsOrdered (g ∷ []) → Stands g → Reaches (behind_row key) (place_of g).0
  one-behind key full (frag.Start pt) l o s = absurd o.0
  one-behind key full (frag.Static row) l o s = absurd o.0
  one-behind key full (frag.Row k row) l o s = beyond key full (row_pos k) (omega (arith, s), λ _. s) (plain (pos_cmp (row_pos key) (row_pos k)) l)
  one-behind key full (frag.Change x next) l o s = beyond key full x s (strict (pos_cmp (row_pos key) x) l)
  one-behind key full frag.End l o s = absurd o.0

  all-behind : (key : List Comp) → length key ≡ n → (gs : List Frag) → IsOrdered gs → StandsBefore (row_pos key, 1) gs → EachStands gs → StandFrom (behind_row key) gs
  all-behind key full [] o b s = tt
  all-behind key full (g ∷ gs) o b s = (one-behind key full g b.0 (o.0, tt, tt) s.0, all-behind key full gs o.2 b.1 s.1)

  pub apart : (fs : List Frag) → IsOrdered fs → EachStands fs → AreRowsApart fs
  apart [] o s = tt
  apart (frag.Start pt ∷ fs) o s = absurd o.0
  apart (frag.Static row ∷ fs) o s = absurd o.0
  apart (frag.Row key row ∷ fs) o s = (all-behind key s.0 fs o.2 o.1 s.1, apart fs o.2 s.1)
  apart (frag.Change x next ∷ fs) o s = apart fs o.2 s.1
  apart (frag.End ∷ fs) o s = absurd o.0

-- ---- of a mutation that fits a schema

first : (a b : Bool) → (a && b) ≡ true → a ≡ true
first true b e = refl
first false b e = e

second : (a b : Bool) → (a && b) ≡ true → b ≡ true
second true b e = e
second false b e = absurd (cc)

kinds-short : (key : List Comp) (kinds : List CkKind) → are_of_kinds key kinds ≡ true → length key ≤ length kinds
kinds-short [] kinds e = omega arith
kinds-short (c ∷ key) [] e = absurd (cc)
kinds-short (c ∷ key) (k ∷ kinds) e = let rest = kinds-short key kinds (second (is_of_kind c k) (are_of_kinds key kinds) e) in omega (arith, rest)

module _ (schema : SchemaValue) where
  short : (key : List Comp) → IsTrue (is_key_of false schema key) → length key ≤ length schema.ck
  short key h = kinds-short key schema.ck (first (are_of_kinds key schema.ck) true (first (are_of_kinds key schema.ck && true) (list_all is_short key) h))

  full : (key : List Comp) → IsTrue (is_key_of true schema key) → length key ≡ length schema.ck
  full key h =
      let test : (length key == length schema.ck) ≡ true = second (are_of_kinds key schema.ck) (length key == length schema.ck) (first (are_of_kinds key schema.ck && (length key == length schema.ck)) (list_all is_short key) h) in
      grind (arith, nat_tests, test)

  keys-full : (os : List (List Comp × Row)) → All (λ e. IsTrue (is_key_of true schema e.0)) os → HaveKeys (length schema.ck) os
  keys-full [] h = tt
  keys-full (a ∷ os) h = (full a.0 (h zero a (omega arith)), keys-full os (λ k d l. h (suc k) d (omega arith)))

  of-bound : (x : Pos) → IsRangeBound schema x → IsPosOf (length schema.ck) x
  of-bound x h = (short x.prefix h.1, λ e. absurd (h.0 e))

  bounds-of : (ps : List Piece) → All (λ p. IsRangeBound schema p.from × IsRangeBound schema p.to) ps → HavePlaces (length schema.ck) (changes_of ps)
  bounds-of [] h = tt
  bounds-of (p ∷ ps) h =
      let both = h zero p (omega arith) in
      let rest = bounds-of ps (λ k d l. h (suc k) d (omega arith)) in (
        of-bound p.from both.0,
        elim (begins_at p.to ps) as (λ b. HavePlaces (length schema.ck) (cond b [] ((p.to, None) ∷ []) ++ changes_of ps)) [
          | true ↦ rest
          | false ↦ (of-bound p.to both.1, rest)
        ],
      )

  module _ (m : Mutation) (is : IsMutation m) (fits : ChangeFits schema m) where
    pub canonical : IsCanonicalList None None (rows_and_changes m)
    canonical = listed m is (λ k d l. ((fits.ranges k d l).0.0, (fits.ranges k d l).1.0))

    pub each-stands : EachStands (length schema.ck) (rows_and_changes m)
    each-stands = subst (EachStands (length schema.ck)) (run-is m is) (each-of (length schema.ck) m.rows (keys-full m.rows (λ k d l. (fits.rows k d l).0)) (changes_of m.ranges) (bounds-of m.ranges fits.ranges))

-- ---- from the first position on

reached : (r : Ordering) → is_gt r ≡ false → is_le r ≡ true
reached Less h = refl
reached Equal h = refl
reached Greater h = absurd (cc)

pub from-first : (x : Pos) → Reaches first_position x
from-first x = reached (pos_cmp first_position x) (first_pos-least x)

pub all-from-first : (fs : List Frag) → StandFrom first_position fs
all-from-first [] = tt
all-from-first (f ∷ fs) = (from-first (place_of f).0, all-from-first fs)
