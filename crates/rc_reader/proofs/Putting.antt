-- Fragments before a position, and the line of one more of them.
use Rattle.std.specs.Prelude.{◌≡◌, ◌<◌, ◌≤◌, ℕ, true, false, cond, List, [], ◌∷◌, ◌++◌, length, Option, Some, None}
use Rattle.std.proofs.Common.{refl, sym, ap, ◌∙◌, append_assoc, append-nil, arith}
use Rattle.std.specs.declared.cmp.Ordering.{Ordering}
use Rattle.std.specs.declared.cmp.Ordering.TheVariants.{Less, Equal, Greater}
use Rattle.std.specs.List.{cons_option}
use Rattle.std.specs.Option.{option_to_list}
use Rattle.std.specs.Ordering.{is_le, is_lt}
use Rattle.rc_cell.specs.declared.writes.Tomb.{Tomb}
use Rattle.rc_position.specs.declared.positions.Pos.{Pos}
use Rattle.rc_position.specs.Position.{pos_cmp, row_pos}
use Rattle.rc_mutation.specs.declared.fragments.Frag.{Frag}
use Rattle.rc_mutation.specs.declared.fragments.Frag.TheVariants as frag
use Rattle.rc_mutation.specs.Fragments.{tomb_after}
use Rattle.rc_query.specs.declared.lines.OutLine.{OutLine}
use Rattle.rc_query.specs.Compacting.{compacted_lines, fragment_line}
use Rattle.rc_stream.specs.Merging.{place_of}
use Rattle.rc_stream.specs.Places.{Reaches, bound_of}
use Rattle.rc_stream.specs.Stream.{first_upto, is_upto, rest}
use Rattle.rc_stream.specs.laws.Says.{le_le}
use Rattle.rc_reader.specs.Left.{is_short_of, lines_before, until}
use Rattle.rc_reader.specs.declared.work.Work.{Work}

-- ---- one fragment

lt-le : (r : Ordering) → is_lt r ≡ true → is_le r ≡ true
lt-le Less e = refl
lt-le Equal e = absurd (cc)
lt-le Greater e = absurd (cc)

short-upto : (x : Pos) (f : Frag) → is_short_of x f ≡ true → is_upto x f ≡ true
short-upto x (frag.Start pt) e = absurd (cc)
short-upto x (frag.Static row) e = absurd (cc)
short-upto x (frag.Row key row) e = lt-le (pos_cmp (row_pos key) x) e
short-upto x (frag.Change from tomb) e = lt-le (pos_cmp from x) e
short-upto x frag.End e = absurd (cc)

not-short : (x : Pos) (f : Frag) → is_upto x f ≡ false → is_short_of x f ≡ false
not-short x f e =
    elim (is_short_of x f) as (λ b. is_short_of x f ≡ b → b ≡ false) [
      | true ↦ λ s. absurd (let clash : true ≡ false = sym (short-upto x f s) ∙ e in cc)
      | false ↦ λ _. refl
    ] refl

short-reaches : (x : Pos) (f : Frag) → is_short_of x f ≡ true → Reaches (place_of f).0 x
short-reaches x (frag.Start pt) e = absurd (cc)
short-reaches x (frag.Static row) e = absurd (cc)
short-reaches x (frag.Row key row) e = lt-le (pos_cmp (row_pos key) x) e
short-reaches x (frag.Change from tomb) e = lt-le (pos_cmp from x) e
short-reaches x frag.End e = absurd (cc)

-- a fragment with a line is a row, and leaves the tombstone in force
pub line-keeps : (head tomb : Option Tomb) (f : Frag) (l : OutLine) → Some l ≡ fragment_line head tomb f → tomb_after tomb f ≡ tomb
line-keeps head tomb (frag.Start pt) l e = refl
line-keeps head tomb (frag.Static row) l e = refl
line-keeps head tomb (frag.Row key row) l e = refl
line-keeps head tomb (frag.Change from next) l e = absurd (cc)
line-keeps head tomb frag.End l e = refl

-- ---- the first of fragments

abbrev given : Frag → Option Frag → Frag
given d None = d
given d (Some f) = f

same-some : (f g : Frag) → Some f ≡ Some g → f ≡ g
same-some f g e = ap (given f) e

pub first-is : (x : Pos) (f : Frag) (fs : List Frag) → Some f ≡ first_upto x fs → fs ≡ f ∷ rest fs
first-is x f [] e = absurd (cc)
first-is x f (g ∷ gs) e =
    elim (is_upto x g) as (λ b. Some f ≡ cond b (Some g) None → (g ∷ gs) ≡ f ∷ gs) [
      | true ↦ λ k. ap (λ h. h ∷ gs) (sym (same-some f g k))
      | false ↦ λ k. absurd (cc)
    ] e

pub none-left : (x : Pos) (fs : List Frag) → None ≡ first_upto x fs → until x fs ≡ []
none-left x [] e = refl
none-left x (f ∷ fs) e =
    elim (is_upto x f) as (λ b. is_upto x f ≡ b → None ≡ cond b (Some f) None → cond (is_short_of x f) (f ∷ until x fs) [] ≡ []) [
      | true ↦ λ u k. absurd (cc)
      | false ↦ λ u k. ap (λ b. cond {A = List Frag} b (f ∷ until x fs) []) (not-short x f u)
    ] refl e

nearer : (x y : Pos) (f : Frag) (fs : List Frag) → Reaches (place_of f).0 y → Reaches (bound_of x (f ∷ fs)) y
nearer x y f fs r =
    elim (is_le (pos_cmp x (place_of f).0)) as (λ b. is_le (pos_cmp x (place_of f).0) ≡ b → Reaches (cond b x (place_of f).0) y) [
      | true ↦ λ u. le_le x (place_of f).0 y (pos_cmp x (place_of f).0) (pos_cmp (place_of f).0 y) refl refl u r
      | false ↦ λ _. r
    ] refl

-- where more lines than are made are left before y, the first fragment stands before y
pub near : (x y : Pos) (head tomb : Option Tomb) (made : List OutLine) (n : ℕ) (fs : List Frag) → length made ≤ n → n < length (made ++ compacted_lines head tomb (until y fs)) → Reaches (bound_of x fs) y
near x y head tomb made n [] few more = absurd (omega (arith, few, more, ap length (append-nil made)))
near x y head tomb made n (f ∷ fs) few more =
    elim (is_short_of y f) as (λ b. is_short_of y f ≡ b → n < length (made ++ compacted_lines head tomb (cond b (f ∷ until y fs) [])) → Reaches (bound_of x (f ∷ fs)) y) [
      | true ↦ λ s _. nearer x y f fs (short-reaches y f s)
      | false ↦ λ _ m. absurd (omega (arith, few, m, ap length (append-nil made)))
    ] refl more

-- ---- one more fragment that was taken

cons_one : {X : Type 0} (o : Option X) (xs : List X) → option_to_list o ++ xs ≡ cons_option o xs
cons_one None xs = refl
cons_one (Some x) xs = refl

put-list : (x : Pos) (head tomb : Option Tomb) (made : List OutLine) (f : Frag) (fs : List Frag) → is_short_of x f ≡ true →
    (made ++ option_to_list (fragment_line head tomb f)) ++ compacted_lines head (tomb_after tomb f) (until x fs) ≡ made ++ compacted_lines head tomb (until x (f ∷ fs))
put-list x head tomb made f fs s =
    append_assoc made (option_to_list (fragment_line head tomb f)) (compacted_lines head (tomb_after tomb f) (until x fs))
    ∙ ap (λ ls. made ++ ls) (cons_one (fragment_line head tomb f) (compacted_lines head (tomb_after tomb f) (until x fs)))
    ∙ ap (λ b. made ++ compacted_lines head tomb (cond b (f ∷ until x fs) [])) (sym s)

-- the work with the line of what was taken
pub record HasPut (w v : Work) (f : Frag) : Type 0 where
  pub taken : w.taken ≡ Some f
  pub idle : v.taken ≡ None
  pub compactor : v.compactor ≡ (w.compactor.0, tomb_after w.compactor.1 f)
  pub lines : v.lines.items ≡ w.lines.items ++ option_to_list (fragment_line w.compactor.0.pt w.compactor.1 f)

pub put-lines : (w v : Work) (f : Frag) → HasPut w v f → (x : Pos) (fs : List Frag) → is_short_of x f ≡ true → lines_before x v fs ≡ lines_before x w fs
put-lines w v f p x fs s =
    (λ i. p.lines i ++ compacted_lines (p.compactor i).0.pt (p.compactor i).1 (until x (option_to_list (p.idle i) ++ fs)))
    ∙ put-list x w.compactor.0.pt w.compactor.1 w.lines.items f fs s
    ∙ sym (λ i. w.lines.items ++ compacted_lines w.compactor.0.pt w.compactor.1 (until x (option_to_list (p.taken i) ++ fs)))

-- where it does not stand before the position, nothing is left but what is made
pub put-ended : (w : Work) (f : Frag) → w.taken ≡ Some f → (x : Pos) (fs : List Frag) → is_short_of x f ≡ false → lines_before x w fs ≡ w.lines.items
put-ended w f t x fs s =
    (λ i. w.lines.items ++ compacted_lines w.compactor.0.pt w.compactor.1 (until x (option_to_list (t i) ++ fs)))
    ∙ ap (λ b. w.lines.items ++ compacted_lines w.compactor.0.pt w.compactor.1 (cond b (f ∷ until x fs) [])) s
    ∙ append-nil w.lines.items

pub put-before : (w v : Work) (f : Frag) → HasPut w v f → (x : Pos) (fs : List Frag) → length w.lines.items < length (lines_before x w fs) → lines_before x v fs ≡ lines_before x w fs
put-before w v f p x fs more =
    elim (is_short_of x f) as (λ b. is_short_of x f ≡ b → lines_before x v fs ≡ lines_before x w fs) [
      | true ↦ λ s. put-lines w v f p x fs s
      | false ↦ λ s. absurd (omega (arith, more, ap length (put-ended w f p.taken x fs s)))
    ] refl

-- the same is left where nothing that counts is changed
pub same-lines : (w v : Work) → v.taken ≡ w.taken → v.compactor ≡ w.compactor → v.lines.items ≡ w.lines.items → (x : Pos) (fs : List Frag) → lines_before x v fs ≡ lines_before x w fs
same-lines w v t c l x fs = λ i. l i ++ compacted_lines (c i).0.pt (c i).1 (until x (option_to_list (t i) ++ fs))

-- the compactor as it was, where a line could not be kept
pub kept : (w : Work) (f : Frag) (line : Option OutLine) (l : OutLine) → line ≡ fragment_line w.compactor.0.pt w.compactor.1 f → line ≡ Some l → (w.compactor.0, tomb_after w.compactor.1 f) ≡ w.compactor
kept w f line l e is = ap (λ t. (w.compactor.0, t)) (line-keeps w.compactor.0.pt w.compactor.1 f l (sym is ∙ e))
