-- What a sweep over two lists of pieces keeps, from one bound to the next.
use Rattle.std.proofs.Common.{◌≡◌, ◌+◌, ◌*◌, ◌<◌, ◌≤◌, ◌⊎◌, inl, inr, Bool, true, false, cond, List, [], ◌∷◌, length, Option, Some, None, refl, sym, ap, ◌∙◌, subst, arith, ⊎_elim}
use Rattle.rc_position.specs.declared.positions.Pos.{Pos}
use Rattle.rc_position.specs.Position.{IsBefore}
use Rattle.rc_cell.specs.declared.writes.Tomb.{Tomb}
use Rattle.rc_cell.specs.Orders.{tomb_cmp}
use Rattle.rc_cell.specs.Greatest.{greater}
use Rattle.rc_ranges.specs.declared.pieces.Piece.{Piece}
use Rattle.rc_ranges.specs.Cover.{cover, IsCanonical, IsRangeJoinOf}
use Rattle.rc_ranges.specs.calls.Sweep.{lt, sweep_tomb, next_bound, rest_from, earlier, bounds_left, extended_by}
use Rattle.rc_ranges.specs.laws.Order.{gt-lt, before-lt, lt-before, lt-irrefl, lt-asym, le-trans, le-lt, lt-le}
use Rattle.rc_ranges.specs.laws.Greater.{greater-none}
use Rattle.rc_ranges.specs.laws.Covering.{piece_at-inside, piece_at-before, cover-none, cover-before, cover-inside, cover-behind}
use Rattle.rc_ranges.proofs.Extending.{EndBy, EndBy-later, EndBy-cover, cover-extended, IsCanonical-extended, EndBy-extended}

-- the first piece ends behind the mark
abbrev pub EndsBehind : List Piece → Pos → Type 0
EndsBehind [] m = Unit {0}
EndsBehind (p ∷ ps) m = lt m p.to ≡ true

-- n is at most the bound
abbrev pub IsUpTo : Pos → Option Pos → Type 0
IsUpTo n None = Unit {0}
IsUpTo n (Some y) = lt y n ≡ false

no_both : (b : Bool) → b ≡ true → b ≡ false → ⊥
no_both true e f = cc
no_both false e f = cc

-- ---- one list

-- from the mark up to the next bound nothing changes
pub cover-in_force : (xs : List Piece) (m n : Pos) → IsCanonical xs → IsUpTo n (next_bound xs m) → (x : Pos) → lt x m ≡ false → lt x n ≡ true → cover xs x ≡ sweep_tomb xs m
cover-in_force [] m n c u x e f = cover-none x
cover-in_force (p ∷ ps) m n c u x e f =
    elim (lt m p.from) as (λ b. lt m p.from ≡ b → lt (cond b p.from p.to) n ≡ false → cover (p ∷ ps) x ≡ cond b None (Some p.tomb)) [
      | true ↦ λ g v. cover-before p ps c x (lt-le x n p.from f v)
      | false ↦ λ g v. cover-inside p ps c x (le-trans p.from m x g e) (lt-le x n p.to f v)
    ] refl u

-- what is left says the same from the next bound on
pub cover-rest : (xs : List Piece) (n x : Pos) → lt x n ≡ false → cover xs x ≡ cover (rest_from xs n) x
cover-rest [] n x e = refl
cover-rest (p ∷ ps) n x e =
    elim (lt n p.to) as (λ b. lt n p.to ≡ b → cover (p ∷ ps) x ≡ cover (cond b (p ∷ ps) ps) x) [
      | true ↦ λ f. refl
      | false ↦ λ f. cover-behind p ps x (le-trans p.to n x f e)
    ] refl

pub IsCanonical-rest : (xs : List Piece) (n : Pos) → IsCanonical xs → IsCanonical (rest_from xs n)
IsCanonical-rest [] n c = tt
IsCanonical-rest (p ∷ ps) n c = elim (lt n p.to) as (λ b. IsCanonical (cond b (p ∷ ps) ps)) [ true ↦ c | false ↦ c.2 ]

-- the next bound is at most the end of the first piece
up_to_end : (p : Piece) (m n : Pos) → IsBefore p.from p.to → lt (cond (lt m p.from) p.from p.to) n ≡ false → lt p.to n ≡ false
up_to_end p m n before u =
    elim (lt m p.from) as (λ b. lt (cond b p.from p.to) n ≡ false → lt p.to n ≡ false) [
      | true ↦ λ v. le-trans n p.from p.to v (lt-asym p.from p.to (before-lt p.from p.to before))
      | false ↦ λ v. v
    ] u

later_ends : (p : Piece) (ps : List Piece) → IsCanonical (p ∷ ps) → (n : Pos) → lt p.to n ≡ false → EndsBehind ps n
later_ends p [] c n e = tt
later_ends p (q ∷ qs) c n e =
    let begins : lt q.from n ≡ false = le-trans n p.to q.from e (sym (gt-lt p.to q.from) ∙ c.1.0) in
    le-lt n q.from q.to begins (before-lt q.from q.to c.2.0)

pub EndsBehind-rest : (xs : List Piece) (m n : Pos) → IsCanonical xs → IsUpTo n (next_bound xs m) → EndsBehind (rest_from xs n) n
EndsBehind-rest [] m n c u = tt
EndsBehind-rest (p ∷ ps) m n c u =
    elim (lt n p.to) as (λ b. lt n p.to ≡ b → EndsBehind (cond b (p ∷ ps) ps) n) [
      | true ↦ λ e. e
      | false ↦ λ e. later_ends p ps c n (up_to_end p m n c.0 u)
    ] refl

same_some : (x y : Pos) → Some x ≡ Some y → x ≡ y
same_some x y e = cc

pub next_bound-behind : (xs : List Piece) (m n : Pos) → EndsBehind xs m → next_bound xs m ≡ Some n → lt m n ≡ true
next_bound-behind [] m n h e = absurd (cc)
next_bound-behind (p ∷ ps) m n h e =
    elim (lt m p.from) as (λ b. lt m p.from ≡ b → Some (cond b p.from p.to) ≡ Some n → lt m n ≡ true) [
      | true ↦ λ f g. subst (λ z. lt m z ≡ true) (same_some p.from n g) f
      | false ↦ λ f g. subst (λ z. lt m z ≡ true) (same_some p.to n g) h
    ] refl e

-- ---- the bounds that are left

flag_least : (b : Bool) → 1 ≤ cond b 2 1
flag_least true = omega arith
flag_least false = omega arith

flag_most : (b : Bool) → cond b 2 1 ≤ 2
flag_most true = omega arith
flag_most false = omega arith

pub bounds_left-most : (ps : List Piece) (n : Pos) → bounds_left ps n ≤ 2 * length ps
bounds_left-most [] n = omega arith
bounds_left-most (q ∷ qs) n = let most : cond (lt n q.from) 2 1 ≤ 2 = flag_most (lt n q.from) in omega arith

-- once begun, begun for good
begun : (f m n : Pos) → lt m n ≡ true → cond (lt n f) 2 1 ≤ cond (lt m f) 2 1
begun f m n e =
    elim (lt m f) as (λ b. lt m f ≡ b → cond (lt n f) 2 1 ≤ cond b 2 1) [
      | true ↦ λ g. flag_most (lt n f)
      | false ↦ λ g.
          let still : lt n f ≡ false = le-trans f m n g (lt-asym m n e) in
          subst (λ b. cond b 2 1 ≤ 1) (sym still) (omega arith)
    ] refl

pub bounds_left-rest : (xs : List Piece) (m n : Pos) → lt m n ≡ true → bounds_left (rest_from xs n) n ≤ bounds_left xs m
bounds_left-rest [] m n e = omega arith
bounds_left-rest (p ∷ ps) m n e =
    elim (lt n p.to) as (λ b. bounds_left (cond b (p ∷ ps) ps) n ≤ cond (lt m p.from) 2 1 + 2 * length ps) [
      | true ↦ let less : cond (lt n p.from) 2 1 ≤ cond (lt m p.from) 2 1 = begun p.from m n e in omega arith
      | false ↦
          let most : bounds_left ps n ≤ 2 * length ps = bounds_left-most ps n in
          omega arith
    ]

pub bounds_left-falls : (xs : List Piece) (m n : Pos) → lt m n ≡ true → next_bound xs m ≡ Some n → bounds_left (rest_from xs n) n < bounds_left xs m
bounds_left-falls [] m n e f = absurd (cc)
bounds_left-falls (p ∷ ps) m n e f =
    elim (lt n p.to) as (λ b. lt n p.to ≡ b → bounds_left (cond b (p ∷ ps) ps) n < cond (lt m p.from) 2 1 + 2 * length ps) [
      | true ↦ λ g. elim (lt m p.from) as (λ b. Some (cond b p.from p.to) ≡ Some n → cond (lt n p.from) 2 1 + 2 * length ps < cond b 2 1 + 2 * length ps) [
        | true ↦ λ h.
            let now : lt n p.from ≡ false = subst (λ z. lt n z ≡ false) (sym (same_some p.from n h)) (lt-irrefl n) in
            subst (λ b. cond b 2 1 + 2 * length ps < 2 + 2 * length ps) (sym now) (omega arith)
        | false ↦ λ h. absurd (no_both (lt n p.to) g (subst (λ z. lt n z ≡ false) (sym (same_some p.to n h)) (lt-irrefl n)))
      ] f
      | false ↦ λ g.
          let most : bounds_left ps n ≤ 2 * length ps = bounds_left-most ps n in
          let least : 1 ≤ cond (lt m p.from) 2 1 = flag_least (lt m p.from) in
          omega arith
    ] refl

-- ---- the earlier of two bounds

pub earlier-left : (a b : Option Pos) (n : Pos) → earlier a b ≡ Some n → IsUpTo n a
earlier-left None b n e = tt
earlier-left (Some x) None n e = subst (λ z. lt x z ≡ false) (same_some x n e) (lt-irrefl x)
earlier-left (Some x) (Some y) n e =
    elim (lt y x) as (λ c. lt y x ≡ c → Some (cond c y x) ≡ Some n → lt x n ≡ false) [
      | true ↦ λ f g. subst (λ z. lt x z ≡ false) (same_some y n g) (lt-asym y x f)
      | false ↦ λ f g. subst (λ z. lt x z ≡ false) (same_some x n g) (lt-irrefl x)
    ] refl e

pub earlier-right : (a b : Option Pos) (n : Pos) → earlier a b ≡ Some n → IsUpTo n b
earlier-right a None n e = tt
earlier-right None (Some y) n e = subst (λ z. lt y z ≡ false) (same_some y n e) (lt-irrefl y)
earlier-right (Some x) (Some y) n e =
    elim (lt y x) as (λ c. lt y x ≡ c → Some (cond c y x) ≡ Some n → lt y n ≡ false) [
      | true ↦ λ f g. subst (λ z. lt y z ≡ false) (same_some y n g) (lt-irrefl y)
      | false ↦ λ f g. subst (λ z. lt y z ≡ false) (same_some x n g) f
    ] refl e

pub earlier-one : (a b : Option Pos) (n : Pos) → earlier a b ≡ Some n → (a ≡ Some n) ⊎ (b ≡ Some n)
earlier-one None b n e = inr e
earlier-one (Some x) None n e = inl e
earlier-one (Some x) (Some y) n e =
    elim (lt y x) as (λ c. Some (cond c y x) ≡ Some n → (Some x ≡ Some n) ⊎ (Some y ≡ Some n)) [ true ↦ λ f. inr f | false ↦ λ f. inl f ] e

pub earlier-none : (xs ys : List Piece) (m : Pos) → earlier (next_bound xs m) (next_bound ys m) ≡ None → (xs ≡ []) × (ys ≡ [])
earlier-none [] [] m e = (refl, refl)
earlier-none [] (q ∷ ys) m e = absurd (cc)
earlier-none (p ∷ xs) [] m e = absurd (cc)
earlier-none (p ∷ xs) (q ∷ ys) m e = absurd (cc)

-- ---- the sweep

-- what is done before the mark, and what is left of the two lists
pub record IsSwept (ours theirs made xs ys : List Piece) (m : Pos) : Type 0 where
  pub ours_canonical : IsCanonical xs
  pub theirs_canonical : IsCanonical ys
  pub ours_end : EndsBehind xs m
  pub theirs_end : EndsBehind ys m
  pub made_canonical : IsCanonical made
  pub made_ends : EndBy made m
  pub done : (x : Pos) → lt x m ≡ true → cover made x ≡ greater tomb_cmp (cover ours x) (cover theirs x)
  pub ours_left : (x : Pos) → lt x m ≡ false → cover ours x ≡ cover xs x
  pub theirs_left : (x : Pos) → lt x m ≡ false → cover theirs x ≡ cover ys x

ends_at_first : (xs : List Piece) (m : Pos) → IsCanonical xs → ((x : Pos) → lt x m ≡ false) → EndsBehind xs m
ends_at_first [] m c first = tt
ends_at_first (p ∷ ps) m c first = le-lt m p.from p.to (first p.from) (before-lt p.from p.to c.0)

pub IsSwept-none : (ours theirs : List Piece) (m : Pos) → IsCanonical ours → IsCanonical theirs → ((x : Pos) → lt x m ≡ false) → IsSwept ours theirs [] ours theirs m
IsSwept-none ours theirs m c d first = record {
  ours_canonical = c;
  theirs_canonical = d;
  ours_end = ends_at_first ours m c first;
  theirs_end = ends_at_first theirs m d first;
  made_canonical = tt;
  made_ends = tt;
  done = λ x e. absurd (no_both (lt x m) e (first x));
  ours_left = λ x e. refl;
  theirs_left = λ x e. refl;
}

-- what the new piece has before and from the mark
before_mark : (t : Option Tomb) (made : List Piece) (m n : Pos) → IsCanonical made → IsBefore m n → (x : Pos) → lt x m ≡ true → cover (extended_by made m n t) x ≡ cover made x
before_mark None made m n c before x e = refl
before_mark (Some tomb) made m n c before x e =
    let q : Piece = record { from = m; to = n; tomb = tomb } in
    cover-extended made q c before x ∙ ap (greater tomb_cmp (cover made x)) (piece_at-before q x e) ∙ greater-none (cover made x)

from_mark : (t : Option Tomb) (made : List Piece) (m n : Pos) → IsCanonical made → EndBy made m → IsBefore m n → (x : Pos) → lt x m ≡ false → lt x n ≡ true → cover (extended_by made m n t) x ≡ t
from_mark None made m n c ends before x e f = EndBy-cover made m x ends e
from_mark (Some tomb) made m n c ends before x e f =
    let q : Piece = record { from = m; to = n; tomb = tomb } in
    cover-extended made q c before x ∙ (λ i. greater tomb_cmp (EndBy-cover made m x ends e i) (piece_at-inside q x e f i))

pub IsCanonical-by : (t : Option Tomb) (made : List Piece) (m n : Pos) → IsCanonical made → EndBy made m → IsBefore m n → IsCanonical (extended_by made m n t)
IsCanonical-by None made m n c ends before = c
IsCanonical-by (Some tomb) made m n c ends before = IsCanonical-extended made (record { from = m; to = n; tomb = tomb }) c ends before

pub EndBy-by : (t : Option Tomb) (made : List Piece) (m n : Pos) → EndBy made m → IsBefore m n → EndBy (extended_by made m n t) n
EndBy-by None made m n ends before = EndBy-later made m n (before-lt m n before) ends
EndBy-by (Some tomb) made m n ends before = EndBy-extended made (record { from = m; to = n; tomb = tomb }) ends before

module _ (ours theirs made xs ys : List Piece) (m n : Pos) (h : IsSwept ours theirs made xs ys m) (next : earlier (next_bound xs m) (next_bound ys m) ≡ Some n) where
  pub mark-behind : lt m n ≡ true
  mark-behind = ⊎_elim (next_bound-behind xs m n h.ours_end) (next_bound-behind ys m n h.theirs_end) (earlier-one (next_bound xs m) (next_bound ys m) n next)

  abbrev both : Option Tomb
  both = greater tomb_cmp (sweep_tomb xs m) (sweep_tomb ys m)

  done_more : (x : Pos) → lt x n ≡ true → cover (extended_by made m n both) x ≡ greater tomb_cmp (cover ours x) (cover theirs x)
  done_more x f =
      let before : IsBefore m n = lt-before m n mark-behind in
      elim (lt x m) as (λ b. lt x m ≡ b → cover (extended_by made m n both) x ≡ greater tomb_cmp (cover ours x) (cover theirs x)) [
        | true ↦ λ e. before_mark both made m n h.made_canonical before x e ∙ h.done x e
        | false ↦ λ e.
            from_mark both made m n h.made_canonical h.made_ends before x e f
            ∙ sym (λ i. greater tomb_cmp
            ((h.ours_left x e ∙ cover-in_force xs m n h.ours_canonical (earlier-left (next_bound xs m) (next_bound ys m) n next) x e f) i)
            ((h.theirs_left x e ∙ cover-in_force ys m n h.theirs_canonical (earlier-right (next_bound xs m) (next_bound ys m) n next) x e f) i))
      ] refl

  still : (x : Pos) → lt x n ≡ false → lt x m ≡ false
  still x e = le-trans m n x (lt-asym m n mark-behind) e

  pub IsSwept-more : IsSwept ours theirs (extended_by made m n both) (rest_from xs n) (rest_from ys n) n
  IsSwept-more = record {
    ours_canonical = IsCanonical-rest xs n h.ours_canonical;
    theirs_canonical = IsCanonical-rest ys n h.theirs_canonical;
    ours_end = EndsBehind-rest xs m n h.ours_canonical (earlier-left (next_bound xs m) (next_bound ys m) n next);
    theirs_end = EndsBehind-rest ys m n h.theirs_canonical (earlier-right (next_bound xs m) (next_bound ys m) n next);
    made_canonical = IsCanonical-by both made m n h.made_canonical h.made_ends (lt-before m n mark-behind);
    made_ends = EndBy-by both made m n h.made_ends (lt-before m n mark-behind);
    done = done_more;
    ours_left = λ x e. h.ours_left x (still x e) ∙ cover-rest xs n x e;
    theirs_left = λ x e. h.theirs_left x (still x e) ∙ cover-rest ys n x e;
  }

  pub bounds-fall : bounds_left (rest_from xs n) n + bounds_left (rest_from ys n) n < bounds_left xs m + bounds_left ys m
  bounds-fall =
      let less_ours : bounds_left (rest_from xs n) n ≤ bounds_left xs m = bounds_left-rest xs m n mark-behind in
      let less_theirs : bounds_left (rest_from ys n) n ≤ bounds_left ys m = bounds_left-rest ys m n mark-behind in
      ⊎_elim
      (λ e. let falls : bounds_left (rest_from xs n) n < bounds_left xs m = bounds_left-falls xs m n mark-behind e in omega arith)
      (λ e. let falls : bounds_left (rest_from ys n) n < bounds_left ys m = bounds_left-falls ys m n mark-behind e in omega arith)
      (earlier-one (next_bound xs m) (next_bound ys m) n next)

pub IsSwept-all : (ours theirs made xs ys : List Piece) (m : Pos) → IsSwept ours theirs made xs ys m → earlier (next_bound xs m) (next_bound ys m) ≡ None → IsRangeJoinOf made ours theirs
IsSwept-all ours theirs made xs ys m h none x =
    let empty = earlier-none xs ys m none in
    elim (lt x m) as (λ b. lt x m ≡ b → cover made x ≡ greater tomb_cmp (cover ours x) (cover theirs x)) [
      | true ↦ λ e. h.done x e
      | false ↦ λ e.
          EndBy-cover made m x h.made_ends e
          ∙ sym (λ i. greater tomb_cmp
          ((h.ours_left x e ∙ ap (λ ps. cover ps x) empty.0 ∙ cover-none x) i)
          ((h.theirs_left x e ∙ ap (λ ps. cover ps x) empty.1 ∙ cover-none x) i))
    ] refl
