-- What is left of a slice, and how a reader goes on in it past the row cache.
use Rattle.std.specs.Prelude.{◌≡◌, ◌||◌, Bool, true, false, ℕ, suc, List, [], ◌∷◌, ◌++◌, Option, Some, None, MatchOption, take, drop}
use Rattle.std.specs.Option.{option_to_list}
use Rattle.std.proofs.Common.{refl, sym, ap, subst, ◌∙◌}
use Rattle.rc_position.specs.declared.slices.Slice.{Slice}
use Rattle.rc_mutation.specs.declared.mutations.Mutation.{Mutation}
use Rattle.rc_mutation.specs.Source.{source_at_head, static_rows}
use Rattle.rc_query.specs.declared.lines.OutLine.{OutLine}
use Rattle.rc_query.specs.declared.lines.OutLine.TheVariants as line
use Rattle.rc_query.specs.Answer.{answer, row_lines, static_line}
use Rattle.rc_opened.specs.Behind.{lines_behind}
use Rattle.rc_paging.specs.declared.remainders.Remainder.{Remainder}
use Rattle.rc_paging.specs.Past.{lines_past}
use Rattle.rc_paging.specs.Remainders.{IsRemainderOf, begins_static, count_given, given_before}
use Rattle.rc_paging.specs.calls.Remainders.{after_line, after_lines, last_of}
use Rattle.rc_paging.proofs.Behind.{answer_is, rows_dropped}
use Rattle.rc_paging.proofs.Cutting.{AreRows, all_rows_lines}

-- ---- after a page

after_of : (slice : Slice) (r : Remainder) (told : Bool) (l : Option OutLine) → IsRemainderOf slice r → IsRemainderOf slice (after_line told l r)
after_of slice r told None is = is
after_of slice r told (Some (line.Static v)) is = record { to = is.to; from = is.from }
after_of slice r told (Some (line.Row k v)) is = record { to = is.to; from = λ e. absurd (cc) }

pub still_of : (slice : Slice) (r next : Remainder) (lines : List OutLine) → next ≡ after_lines lines r → IsRemainderOf slice r → IsRemainderOf slice next
still_of slice r next lines e is = subst (IsRemainderOf slice) (sym e) (after_of slice r (r.static_given || begins_static lines) (last_of lines) is)

pub same_of : (slice : Slice) (r next : Remainder) → next ≡ r → IsRemainderOf slice r → IsRemainderOf slice next
same_of slice r next e is = subst (IsRemainderOf slice) (sym e) is

-- ---- past the row cache

-- until a line was given none of a row was
none_given : (told row : Bool) → count_given told row ≡ 0 → row ≡ false
none_given false false e = refl
none_given false true e = absurd (cc)
none_given true false e = refl
none_given true true e = absurd (cc)

-- lines behind the first one are of rows
behind_first : (s : Option OutLine) (rows : List OutLine) (n : ℕ) → AreRows rows → AreRows (drop (suc n) (option_to_list s ++ rows))
behind_first None rows n are = rows_dropped (suc n) rows are
behind_first (Some l) rows n are = rows_dropped n rows are

behind_row : (s : Option OutLine) (rows : List OutLine) (told : Bool) → AreRows rows → AreRows (drop (count_given told true) (option_to_list s ++ rows))
behind_row s rows false are = behind_first s rows 0 are
behind_row s rows true are = behind_first s rows 1 are

not_static : (lines : List OutLine) → AreRows lines → (v : List (ℕ × List ℕ)) (ls : List OutLine) → line.Static v ∷ ls ≡ take 1 lines → ⊥
not_static [] are v ls e = absurd (cc)
not_static (line.Static w ∷ lines) are v ls e = are
not_static (line.Row k w ∷ lines) are v ls e = (let none : true ≡ false = ap begins_static e in absurd (cc))

module _ (changes : List Mutation) (r : Remainder) (lines : List OutLine) (are : lines ≡ drop (given_before r) (answer changes r.slice)) (v : List (ℕ × List ℕ)) (ls : List OutLine) (e : line.Static v ∷ ls ≡ take 1 lines) where
  by_row : (b : Bool) → r.row_given ≡ b → r.row_given ≡ false
  by_row false h = h
  by_row true h =
      let s = static_line (source_at_head changes) (static_rows changes) in
      let rows = row_lines changes r.slice in
      let here : lines ≡ drop (count_given r.static_given true) (option_to_list s ++ rows) = are ∙ (λ i. drop (count_given r.static_given (h i)) (answer_is changes r.slice i)) in
      absurd (not_static lines (subst AreRows (sym here) (behind_row s rows r.static_given (all_rows_lines changes r.slice))) v ls e)

  -- before the static line no line of a row was given
  static_first : r.row_given ≡ false
  static_first = by_row r.row_given refl

-- how it goes on is told by the slice of which its own is left
pub goes_on_of : (changes below written : List Mutation) (read : Mutation) (slice : Slice) (r : Remainder) (lines : List OutLine) (told : Option (List OutLine)) → lines ≡ drop (given_before r) (answer changes r.slice) → MatchOption told (given_before r ≡ 0) (λ kept. kept ≡ take 1 lines) → IsRemainderOf slice r →
    lines_past below read written told r.slice ≡ lines_past below read written told slice
goes_on_of changes below written read slice r lines None are told of =
    let from = of.from (none_given r.static_given r.row_given told) in
    λ i. lines_behind None (read ∷ written) (record { from = from i; to = of.to i })
goes_on_of changes below written read slice r lines (Some []) are told of = λ i. lines_past below read written (Some []) (record { from = r.slice.from; to = of.to i })
goes_on_of changes below written read slice r lines (Some (line.Row k v ∷ ls)) are told of = λ i. lines_past below read written (Some (line.Row k v ∷ ls)) (record { from = r.slice.from; to = of.to i })
goes_on_of changes below written read slice r lines (Some (line.Static v ∷ ls)) are told of =
    let from = of.from (static_first changes r lines are v ls told) in
    λ i. lines_past below read written (Some (line.Static v ∷ ls)) (record { from = from i; to = of.to i })
