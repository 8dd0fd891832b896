-- An entry taken out by its index is the entry at its position dropped.
use Rattle.std.specs.Prelude.{◌≡◌, ◌+◌, ◌<◌, ℕ, zero, suc, List, [], ◌∷◌, ◌++◌, HoldsAt, take, drop, length}
use Rattle.std.proofs.Common.{refl, sym, ap, ◌∙◌, subst, arith, get_or, inl, inr}
use Rattle.std.specs.declared.cmp.Ordering.TheVariants.{Less}
use Rattle.rc_position.specs.declared.positions.Pos.{Pos}
use Rattle.rc_position.specs.Position.{Place, Head, Static, Clustered, End, pos_cmp}
use Rattle.rc_position.specs.laws.Orders.{pos_cmp_total}
use Rattle.rc_core.specs.declared.entries.Entry.{Entry}
use Rattle.rc_core.specs.AtPlace.{HasEntryAt, IsAtPlace}
use Rattle.rc_core.specs.Continuity.{with_entries}
use Rattle.rc_core.specs.Version.{Ascend, EndsWithDummy, Version, IsVersion, end_position}
use Rattle.rc_core.specs.laws.Placed.{evicted-at-place}
use Rattle.rc_core.specs.Change.{drop_at, lose_first_gap, lost_mark, without_gap}
use Rattle.rc_core.specs.laws.Spots.{taken_out}

record Parts (xs : List Entry) (i : ℕ) : Type 0 where
  pub front : List Entry
  pub here : Entry
  pub next : Entry
  pub back : List Entry
  pub whole : xs ≡ front ++ here ∷ next ∷ back
  pub index : i ≡ length front

parts_at : (xs : List Entry) (i : ℕ) → i + 1 < length xs → Parts xs i
parts_at [] i l = absurd (omega (arith, l))
parts_at (e ∷ []) i l = absurd (omega (arith, l))
parts_at (e ∷ f ∷ es) zero l = record { front = []; here = e; next = f; back = es; whole = refl; index = refl }
parts_at (e ∷ f ∷ es) (suc i) l = let p = parts_at (f ∷ es) i (omega (arith, l)) in record { front = e ∷ p.front; here = p.here; next = p.next; back = p.back; whole = ap (λ xs. e ∷ xs) p.whole; index = ap suc p.index }

without : (front back : List Entry) (e f : Entry) → take (length front) (front ++ e ∷ f ∷ back) ++ lose_first_gap (drop (length front + 1) (front ++ e ∷ f ∷ back)) ≡ front ++ without_gap f ∷ back
without [] back e f = refl
without (b ∷ bs) back e f = let n : suc (length bs + 1) ≡ suc (length bs) + 1 = omega arith in subst (λ n. b ∷ (take (length bs) (bs ++ e ∷ f ∷ back) ++ lose_first_gap (drop n (b ∷ (bs ++ e ∷ f ∷ back)))) ≡ b ∷ (bs ++ without_gap f ∷ back)) n (ap (λ xs. b ∷ xs) (without bs back e f))

holds_there : (P : Entry → Type 0) (front back : List Entry) (e : Entry) → P e → HoldsAt P (front ++ e ∷ back) (length front)
holds_there P [] back e h = λ d. h
holds_there P (b ∷ bs) back e h = holds_there P bs back e h

pub dropped_by_index : (xs ys : List Entry) (i : ℕ) → i + 1 < length xs → ys ≡ take i xs ++ lose_first_gap (drop (i + 1) xs) → Ascend xs → HoldsAt (λ e. ys ≡ drop_at e.position xs) xs i
dropped_by_index xs ys i l h a = let p = parts_at xs i l in
    subst (λ zs. HoldsAt (λ e. ys ≡ drop_at e.position zs) zs i) (sym p.whole)
    (subst (HoldsAt (λ e. ys ≡ drop_at e.position (p.front ++ p.here ∷ p.next ∷ p.back)) (p.front ++ p.here ∷ p.next ∷ p.back)) (sym p.index)
    (holds_there (λ e. ys ≡ drop_at e.position (p.front ++ p.here ∷ p.next ∷ p.back)) p.front (p.next ∷ p.back) p.here
    (h ∙ (λ j. take (p.index j) (p.whole j) ++ lose_first_gap (drop (p.index j + 1) (p.whole j))) ∙ without p.front p.back p.here p.next ∙ sym (taken_out lost_mark p.front p.here p.next p.back (subst Ascend p.whole a)))))

-- ---- a version at the update's place after the entry of an index went

has_index : (xs : List Entry) (i : ℕ) (r : Entry) → i < length xs → HasEntryAt (get_or xs i r).position xs
has_index [] i r l = absurd (omega (arith, l))
has_index (x ∷ xs) zero r l = inl refl
has_index (x ∷ xs) (suc i) r l = inr (has_index xs i r (omega (arith, l)))

last_after : (e f : Entry) (es : List Entry) → Ascend (e ∷ f ∷ es) → EndsWithDummy (f ∷ es) → pos_cmp e.position end_position ≡ Less
last_after e f [] a d = subst (λ y. pos_cmp e.position y ≡ Less) d.0 a.0
last_after e f (g ∷ gs) a d = pos_cmp_total.trans e.position f.position end_position a.0 (last_after f g gs a.1 d)

before_last : (xs : List Entry) (i : ℕ) (r : Entry) → i + 1 < length xs → Ascend xs → EndsWithDummy xs → pos_cmp (get_or xs i r).position end_position ≡ Less
before_last [] i r l a d = absurd (omega (arith, l))
before_last (e ∷ []) i r l a d = absurd (omega (arith, l))
before_last (e ∷ f ∷ es) zero r l a d = last_after e f es a d
before_last (e ∷ f ∷ es) (suc i) r l a d = before_last (f ∷ es) i r (omega (arith, l)) a.1 d

-- the position of a place that is clustered
abbrev position_in : Place → Pos
position_in Head = end_position
position_in Static = end_position
position_in (Clustered x) = x
position_in End = end_position

pub next_in : (i n : ℕ) → i < n → (i + 1 ≡ n → ⊥) → i + 1 < n
next_in i zero l off = absurd (omega (arith, l))
next_in zero (suc zero) l off = absurd (off (omega arith))
next_in zero (suc (suc n)) l off = omega arith
next_in (suc i) (suc n) l off = let k = next_in i n (omega (arith, l)) (λ e. off (omega (arith, e))) in omega (arith, k)

pub evicted_kept : (p : Pos) (v : Version) (es : List Entry) (i : ℕ) (r : Entry) → i + 1 < length v.entries → r ≡ get_or v.entries i r → (r.position ≡ p → ⊥) →
    (Ascend v.entries → es ≡ drop_at (get_or v.entries i r).position v.entries) → IsVersion v → IsAtPlace (Clustered p) v → IsAtPlace (Clustered p) (with_entries es v)
evicted_kept p v es i r l g off h iv a =
    subst (λ zs. IsAtPlace (Clustered p) (with_entries zs v)) (sym (h iv.ascend))
    (evicted-at-place (Clustered p) v (get_or v.entries i r).position iv (has_index v.entries i r (omega (arith, l))) (before_last v.entries i r l iv.ascend iv.ends)
    (λ d. off (ap (λ (e : Entry). e.position) g ∙ sym (ap position_in d))) a)
