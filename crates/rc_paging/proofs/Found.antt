-- Where the first lines of a slice end: right behind the row of the line behind them, or where the slice does.
use Rattle.std.proofs.Common.{◌≡◌, ℕ, zero, suc, ◌+◌, List, [], ◌∷◌, ◌++◌, take, drop, length, true, false, refl, sym, ap, inl, inr, ◌∙◌, arith, length-append, length-take, length-drop}
use Rattle.std.specs.Prelude.{◌<◌, All}
use Rattle.std.specs.Ordering.{is_gt, is_le, ordering_reverse}
use Rattle.std.specs.declared.cmp.Ordering.{Ordering}
use Rattle.std.specs.declared.cmp.Ordering.TheVariants.{Less, Equal, Greater}
use Rattle.rc_position.specs.declared.comps.Comp.{Comp}
use Rattle.rc_position.specs.declared.positions.Pos.{Pos}
use Rattle.rc_position.specs.declared.slices.Slice.{Slice}
use Rattle.rc_position.specs.Position.{pos_cmp, start_bound}
use Rattle.rc_position.specs.laws.Orders.{pos_cmp_total}
use Rattle.rc_mutation.specs.declared.mutations.Mutation.{Mutation}
use Rattle.rc_schema.specs.SchemaValue.{SchemaValue}
use Rattle.rc_writes.specs.Allowed.{ChangeFits}
use Rattle.rc_query.specs.declared.lines.OutLine.{OutLine}
use Rattle.rc_query.specs.declared.lines.OutLine.TheVariants as line
use Rattle.rc_query.specs.Answer.{answer, sliced_before}
use Rattle.rc_stream.specs.Stream.{Stream}
use Rattle.rc_stream.specs.laws.Ordered.{passes-itself}
use Rattle.rc_reader.specs.Left.{slice_lines}
use Rattle.rc_reader.specs.Steps.{AreFoundBefore}
use Rattle.rc_spliced.specs.Lines.{lines_from, lines_short_of}
use Rattle.rc_paging.specs.Pages.{page_end}
use Rattle.rc_paging.proofs.Behind.{parted}

drop_none : (n : ℕ) → drop {A = OutLine} n [] ≡ []
drop_none zero = refl
drop_none (suc n) = refl

pub drop_both : (n m : ℕ) (ls : List OutLine) → drop (n + m) ls ≡ drop m (drop n ls)
drop_both zero m ls = ap (λ k. drop k ls) (let e : 0 + m ≡ m = omega arith in e)
drop_both (suc n) m [] = drop_none (suc n + m) ∙ sym (drop_none m)
drop_both (suc n) m (l ∷ ls) = ap (λ k. drop k (l ∷ ls)) (let e : suc n + m ≡ suc (n + m) = omega arith in e) ∙ drop_both n m ls

not_gt : (r : Ordering) → is_le (ordering_reverse r) ≡ false → is_gt r ≡ false
not_gt Less h = refl
not_gt Equal h = absurd (cc)
not_gt Greater h = absurd (cc)

-- what an answer has up to a line behind so many
abbrev Cut : Type 0
Cut = (schema : SchemaValue) (changes : List Mutation) (slice : Slice) (given rest : List OutLine) (key : List Comp) (shown : List (ℕ × List ℕ)) → All (ChangeFits schema) changes → answer changes slice ≡ given ++ line.Row key shown ∷ rest →
    (lines_short_of (start_bound key false) (answer changes slice) ≡ given ++ line.Row key shown ∷ []) × (lines_from (start_bound key false) (answer changes slice) ≡ rest)

abbrev Part : Type 0
Part = (changes : List Mutation) (slice : Slice) (x : Pos) → is_gt (pos_cmp x slice.to) ≡ false → lines_short_of x (answer changes slice) ≡ answer changes (sliced_before slice x)

module _ (cut : Cut) (part : Part) (schema : SchemaValue) (changes : List Mutation) (fit : All (ChangeFits schema) changes) (slice : Slice) (P : Stream → Type 0) (t : Stream) (seen : P t) (are : (s : Slice) → s.from ≡ slice.from → slice_lines s t ≡ answer changes s) (n : ℕ) where
  more_before : (key : List Comp) (shown : List (ℕ × List ℕ)) (rest : List OutLine) → drop n (answer changes slice) ≡ line.Row key shown ∷ rest → is_gt (pos_cmp (start_bound key false) slice.to) ≡ false → n < length (slice_lines (sliced_before slice (start_bound key false)) t)
  more_before key shown rest e in_slice =
      let ls = answer changes slice in
      let whole : ls ≡ take n ls ++ line.Row key shown ∷ rest = parted n ls ∙ ap (λ r. take n ls ++ r) e in
      let short : slice_lines (sliced_before slice (start_bound key false)) t ≡ take n ls ++ line.Row key shown ∷ [] = are (sliced_before slice (start_bound key false)) refl ∙ sym (part changes slice (start_bound key false) in_slice) ∙ (cut schema changes slice (take n ls) rest key shown fit whole).0 in
      omega (arith, ap length short, length-append (take n ls) (line.Row key shown ∷ []), length-drop n ls, ap length e, length-take n ls)

  pub found : (rest : List OutLine) → drop n (answer changes slice) ≡ rest → AreFoundBefore P slice n (page_end rest slice)
  found [] e = inl (passes-itself slice.to)
  found (line.Static values ∷ rest) e = inl (passes-itself slice.to)
  found (line.Row key shown ∷ rest) e =
      let y = start_bound key false in
      elim (is_le (pos_cmp slice.to y)) as (λ b. is_le (pos_cmp slice.to y) ≡ b → AreFoundBefore P slice n y) [
        | true ↦ λ h. inl h
        | false ↦ λ h. inr (t, seen, more_before key shown rest e (not_gt (pos_cmp y slice.to) (ap is_le (sym (pos_cmp_total.antisymm slice.to y)) ∙ h)))
      ] refl
