-- What a read gives of the lines that are left, by those that are made.
use Rattle.std.specs.Prelude.{◌≡◌, ◌⊎◌, ℕ, IsTrue, List, [], ◌++◌, length, take, drop, nat_lt, ◌-◌, ◌≤◌}
use Rattle.std.proofs.Common.{sym, ap, ◌∙◌, subst, arith, inl, inr, length-append, length-drop}
use Rattle.std.proofs.lemmas.Bool.{lt-ltb, ltb-true}
use Rattle.std.proofs.lemmas.List.{append_cancel_left, append-nil, drop-append-le, take-append-le}
use Rattle.std.specs.Option.{option_to_list}
use Rattle.rc_position.specs.declared.positions.Pos.{Pos}
use Rattle.rc_stream.specs.Places.{Reaches}
use Rattle.rc_query.specs.declared.lines.OutLine.{OutLine}
use Rattle.rc_query.specs.Compacting.{compacted_lines}
use Rattle.rc_reader.specs.Left.{Remains, lines_before, until}
use Rattle.rc_reader.specs.Steps.{GoesNoFurther}
use Rattle.rc_reader.specs.calls.Making.{AreEnough}
use Rattle.rc_reader.specs.declared.work.Work.{Work}
use Rattle.rc_reader.proofs.Holding.{Seen}

-- ---- of lists: what is left is made, or more than so many are made of it

abbrev pub Lines : Type 0
Lines = List OutLine

abbrev pub IsMade : ℕ → Lines → Lines → Type 0
IsMade n made lines = IsTrue (nat_lt n (length made)) ⊎ (lines ≡ made)

taken-list : (n : ℕ) (made others lines : Lines) → lines ≡ made ++ others → IsMade n made lines → take n made ≡ take n lines
taken-list n made others lines e (inl t) = let lt = ltb-true n (length made) t in sym (take-append-le n made others (omega (arith, lt))) ∙ ap (take n) (sym e)
taken-list n made others lines e (inr s) = ap (take n) (sym s)

more-list : (n : ℕ) (made others lines : Lines) → lines ≡ made ++ others → IsMade n made lines → nat_lt n (length made) ≡ nat_lt n (length lines)
more-list n made others lines e (inl t) = let lt = ltb-true n (length made) t in t ∙ sym (lt-ltb n (length lines) (omega (arith, lt, ap length e, length-append made others)))
more-list n made others lines e (inr s) = ap (λ ls. nat_lt n (length ls)) (sym s)

none-behind : (made others : Lines) → made ≡ made ++ others → others ≡ []
none-behind made others e = append_cancel_left made others [] (sym e ∙ sym (append-nil made))

left-list : (n : ℕ) (made others lines : Lines) → lines ≡ made ++ others → IsMade n made lines → drop n lines ≡ drop n made ++ others
left-list n made others lines e (inl t) = let lt = ltb-true n (length made) t in ap (drop n) e ∙ drop-append-le n made others (omega (arith, lt))
left-list n made others lines e (inr s) =
    let none : others ≡ [] = none-behind made others (sym s ∙ e) in
    ap (drop n) s ∙ sym (append-nil (drop n made)) ∙ ap (λ ls. drop n made ++ ls) (sym none)

next-list : (n : ℕ) (made others lines : Lines) → lines ≡ made ++ others → IsMade n made lines → take 1 (drop n made) ≡ take 1 (drop n lines)
next-list n made others lines e (inl t) =
    let lt = ltb-true n (length made) t in
    sym (take-append-le 1 (drop n made) others (omega (arith, lt, length-drop n made))) ∙ ap (take 1) (sym (left-list n made others lines e (inl t)))
next-list n made others lines e (inr s) = ap (λ ls. take 1 (drop n ls)) (sym s)

-- ---- of works

abbrev others_of : (P : Seen) (v : Work) (lines : Lines) → Remains P v lines → Lines
others_of P v lines h = compacted_lines v.compactor.0.pt v.compactor.1 (until v.to (option_to_list v.taken ++ h.stream.left))

made-is : (n : ℕ) (P : Seen) (w v : Work) → AreEnough n (Remains P w) v.lines.items → (lines : Lines) → Remains P w lines → IsMade n v.lines.items lines
made-is n P w v (inl t) lines h = inl t
made-is n P w v (inr all) lines h = inr (all lines h)

pub goes-given : (P : Seen) (v u : Work) (count n : ℕ) (y : Pos) → u.taken ≡ v.taken → u.compactor ≡ v.compactor → u.to ≡ v.to → u.lines.items ≡ drop count v.lines.items → count ≤ n → GoesNoFurther P v n y → GoesNoFurther P u (n - count) y
goes-given P v u count n y t c to l few (inl e) = inl (subst (λ x. Reaches x y) (sym to) e)
goes-given P v u count n y t c to l few (inr h) =
    let others : Lines = compacted_lines v.compactor.0.pt v.compactor.1 (until y (option_to_list v.taken ++ h.0.left)) in
    let e : lines_before y u h.0.left ≡ drop count v.lines.items ++ others = (λ i. l i ++ compacted_lines (c i).0.pt (c i).1 (until y (option_to_list (t i) ++ h.0.left))) in
    inr (h.0, h.1, omega (arith, few, h.2, ap length e, length-append (drop count v.lines.items) others, length-drop count v.lines.items, length-append v.lines.items others))

module _ (n : ℕ) (P Q : Seen) (w v : Work) (on : (lines : Lines) → Remains P w lines → Remains Q v lines) (enough : AreEnough n (Remains P w) v.lines.items) where
  pub gives : (lines : Lines) → Remains P w lines → take n v.lines.items ≡ take n lines
  gives lines h = let k = on lines h in taken-list n v.lines.items (others_of Q v lines k) lines k.are (made-is n P w v enough lines h)

  pub tells : (lines : Lines) → Remains P w lines → nat_lt n (length v.lines.items) ≡ nat_lt n (length lines)
  tells lines h = let k = on lines h in more-list n v.lines.items (others_of Q v lines k) lines k.are (made-is n P w v enough lines h)

  pub nexts : (lines : Lines) → Remains P w lines → take 1 (drop n v.lines.items) ≡ take 1 (drop n lines)
  nexts lines h = let k = on lines h in next-list n v.lines.items (others_of Q v lines k) lines k.are (made-is n P w v enough lines h)

  pub leaves : (u : Work) → u.taken ≡ v.taken → u.compactor ≡ v.compactor → u.to ≡ v.to → u.lines.items ≡ drop n v.lines.items → (lines : Lines) → Remains P w lines → Remains Q u (drop n lines)
  leaves u t c to l lines h = let k = on lines h in record {
    stream = k.stream;
    stands = k.stands;
    are = left-list n v.lines.items (others_of Q v lines k) lines k.are (made-is n P w v enough lines h)
        ∙ sym (λ i. l i ++ compacted_lines (c i).0.pt (c i).1 (until (to i) (option_to_list (t i) ++ k.stream.left)));
  }
