-- Versions whose rows have codes: whatever is joined in them has one, too, and is small.
use Rattle.std.proofs.Common.{ℕ, zero, suc, ◌+◌, ◌≤◌, Bool, true, false, cond, List, [], ◌∷◌, ◌++◌, length, map, Option, Some, None, inl, inr, sym, ◌∙◌, subst, arith}
use Rattle.std.specs.Prelude.{Contains, IfSome}
use Rattle.std.specs.List.{AllByRecursion}
use Rattle.std.specs.Ordering.{eq_by_cmp}
use Rattle.std.specs.declared.cmp.Ordering.{Ordering}
use Rattle.std.specs.declared.cmp.Ordering.TheVariants.{Less, Equal, Greater}
use Rattle.rc_cell.specs.declared.rows.Row.{Row}
use Rattle.rc_cell.specs.Winner.{joined_row}
use Rattle.rc_cell.specs.laws.{joined_row-cons, joined_row-one}
use Rattle.rc_position.specs.declared.positions.Pos.{Pos}
use Rattle.rc_position.specs.Position.{pos_cmp}
use Rattle.rc_rowcode.specs.Objects.{dummy_size}
use Rattle.rc_rowcode.specs.Spelling.{pos_code, row_code, IsCodedRow, KeyFits}
use Rattle.rc_rowcode.specs.laws.Limits.{row_limits}
use Rattle.rc_rowcode.specs.laws.Sizes.{pos_code_small, row_code_small}
use Rattle.lsa_kinds.specs.Kinds.{up8}
use Rattle.rc_core.specs.declared.entries.Entry.{Entry}
use Rattle.rc_core.specs.Change.{gap_split, joined_onto, split_by, with_row}
use Rattle.rc_core.specs.Steps.{on_version, row_joined}
use Rattle.rc_core.specs.Version.{Spot, Version, On, entry_answers, finding_in, spot_cmp}
use Rattle.rc_version.specs.Versions.{bytes_at, joined_bytes}
use Rattle.rc_partition.specs.laws.Lists.{elem-cases, elem-first, elem-later, elem-none}
use Rattle.rc_memory.specs.Room.{FitTogether, HasRowAt}
use Rattle.rc_memory.specs.laws.Places.{no_some}
use Rattle.rc_chain_bench.specs.Partition.{IsCodedEntry, IsCodedVersion}

-- a joined row has a code, as the crate of codes shows
abbrev pub JoinedCoded : Type 0
JoinedCoded = (r q : Row) → IsCodedRow r → IsCodedRow q → IsCodedRow (joined_row (r ∷ q ∷ []))

-- ---- sizes

up8_least : (n : ℕ) → up8 n ≤ n + 7
up8_least n = omega arith

pub entry-small : (x : Pos) → KeyFits x.prefix → (row : Row) → IsCodedRow row → bytes_at x (Some row) ≤ 8952
entry-small x fits row coded =
    let place = pos_code_small x fits in let short = row_code_small row coded.ascending (row_limits row coded) in let least = up8_least (80 + (length (pos_code x) + length (row_code row))) in
    omega (arith, place, short, least)

dummy-small : (x : Pos) → KeyFits x.prefix → dummy_size x ≤ 8952
dummy-small x fits = let place = pos_code_small x fits in let least = up8_least (80 + length (pos_code x)) in omega (arith, place, least)

-- ---- lists

module _ {X : Type 0} (P : X → Type 0) where
  all-in : (xs : List X) → AllByRecursion P xs → (x : X) → Contains xs x → P x
  all-in [] h x on = absurd (elem-none x on)
  all-in (y ∷ xs) h x on = elim (elem-cases y x xs on) [ inl same ↦ subst P same h.0 | inr later ↦ all-in xs h.1 x later ]

  all-mapped : (f : X → X) → ((x : X) → P x → P (f x)) → (xs : List X) → AllByRecursion P xs → AllByRecursion P (map f xs)
  all-mapped f each [] h = tt
  all-mapped f each (x ∷ xs) h = (each x h.0, all-mapped f each xs h.1)

  pub all-pushed : (xs : List X) → AllByRecursion P xs → (x : X) → P x → AllByRecursion P (xs ++ (x ∷ []))
  all-pushed [] h x k = (k, tt)
  all-pushed (y ∷ xs) h x k = (h.0, all-pushed xs h.1 x k)

all-on : (P : Version → Type 0) (f : Version → Version) → ((v : Version) → P v → P (f v)) → (j : ℕ) (vs : List Version) → AllByRecursion P vs → AllByRecursion P (on_version j f vs)
all-on P f each j [] h = tt
all-on P f each zero (v ∷ vs) h = (each v h.0, h.1)
all-on P f each (suc j) (v ∷ vs) h = (h.0, all-on P f each j vs h.1)

-- ---- a row is joined

module _ (law : JoinedCoded) where
  onto-coded : (o : Option Row) → IfSome o IsCodedRow → (row : Row) → IsCodedRow row → IsCodedRow (joined_onto o row)
  onto-coded None h row k = k
  onto-coded (Some old) h row k = law old row h k

  together-coded : (one : Row) (rows : List Row) → ((row : Row) → Contains (one ∷ rows) row → IsCodedRow row) → IsCodedRow (joined_row (one ∷ rows))
  together-coded one [] each = let h = each one (elem-first one []) in subst IsCodedRow (sym (joined_row-one one h.ascending)) h
  together-coded one (two ∷ rows) each =
      let h = each one (elem-first one (two ∷ rows)) in
      subst IsCodedRow (sym (joined_row-cons one (two ∷ rows) h.ascending)) (law one (joined_row (two ∷ rows)) h (together-coded two rows (λ row on. each row (elem-later one row (two ∷ rows) on))))

  module _ (x : Pos) (fits : KeyFits x.prefix) where
    split-coded : (es : List Entry) → AllByRecursion IsCodedEntry es → AllByRecursion IsCodedEntry (gap_split x es)
    split-coded [] h = tt
    split-coded (e ∷ es) h = told (pos_cmp x e.position) (split-coded es h.1)
      where
        told : (r : Ordering) → AllByRecursion IsCodedEntry (gap_split x es) → AllByRecursion IsCodedEntry (split_by r x e es (gap_split x es))
        told Less k = ((fits, tt), h)
        told Equal k = h
        told Greater k = (h.0, k)

    module _ (row : Row) (coded : IsCodedRow row) where
      with-coded : (e : Entry) → IsCodedEntry e → (b : Bool) → IsCodedEntry (cond b (with_row row e) e)
      with-coded e h true = (h.0, onto-coded e.row h.1 row coded)
      with-coded e h false = h

      pub joined-coded : (v : Version) → IsCodedVersion v → IsCodedVersion (row_joined x row v)
      joined-coded v h = (h.0, all-mapped IsCodedEntry (λ e. cond (eq_by_cmp pos_cmp x e.position) (with_row row e) e) (λ e k. with-coded e k (eq_by_cmp pos_cmp x e.position)) (gap_split x v.entries) (split-coded v.entries h.1))

      pub on-coded : (j : ℕ) (vs : List Version) → AllByRecursion IsCodedVersion vs → AllByRecursion IsCodedVersion (on_version j (row_joined x row) vs)
      on-coded j vs h = all-on IsCodedVersion (row_joined x row) joined-coded j vs h

      seen_coded : (s : Spot) (es : List Entry) → AllByRecursion IsCodedEntry es → IfSome (finding_in s es).row IsCodedRow
      seen_coded s [] h = tt
      seen_coded s (e ∷ es) h = told (spot_cmp s e.position) (seen_coded s es h.1)
        where
          told : (r : Ordering) → IfSome (finding_in s es).row IsCodedRow → IfSome (entry_answers r e (finding_in s es)).row IsCodedRow
          told Less k = tt
          told Equal k = h.0.1
          told Greater k = k

      pub joined-small : (v : Version) → IsCodedVersion v → joined_bytes x row v ≤ 8952
      joined-small v h = entry-small x fits (joined_onto (finding_in (On x) v.entries).row row) (onto-coded (finding_in (On x) v.entries).row (seen_coded (On x) v.entries h.1) row coded)

  -- ---- what may be joined fits

  row-at : (vs : List Version) → AllByRecursion IsCodedVersion vs → (x : Pos) (row : Row) → HasRowAt vs x row → KeyFits x.prefix × IsCodedRow row
  row-at vs h x row k =
      let e = all-in IsCodedEntry k.0.entries (all-in IsCodedVersion vs h k.0 k.2).1 k.1 k.3 in
      (subst (λ y. KeyFits y.prefix) k.4 e.0, subst (λ o. IfSome o IsCodedRow) k.5 e.1)

  pub fit-coded : (vs : List Version) → AllByRecursion IsCodedVersion vs → FitTogether 131072 vs
  fit-coded vs h = record {
    rows = λ x one rows each.
        let small = entry-small x (row-at vs h x one (each one (elem-first one rows))).0 (joined_row (one ∷ rows)) (together-coded one rows (λ row on. (row-at vs h x row (each row on)).1)) in
        omega (arith, small);
    statics = λ one rows each. let k = each one (elem-first one rows) in absurd (no_some one (sym (all-in IsCodedVersion vs h k.0 k.1).0 ∙ k.2));
    positions = λ v e on in_v. let small = dummy-small e.position (all-in IsCodedEntry v.entries (all-in IsCodedVersion vs h v on).1 e in_v).0 in omega (arith, small);
  }
