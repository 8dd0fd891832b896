-- Fills one after another.
use Rattle.std.specs.Prelude.{◌≡◌, ◌≢◌, ◌≤◌, ◌-◌, ℕ, zero, suc, drop, length, slice_index_or, take, List, [], ◌∷◌, Option, None, Err, Ok, OnOk, Result}
use Rattle.std.proofs.Common.{refl, sym, ap, ◌∙◌, subst, arith}
use Rattle.rc_cell.specs.declared.rows.Row.{Row}
use Rattle.rc_cell.specs.Winner.{empty_row}
use Rattle.rc_position.specs.declared.comps.Comp.{Comp}
use Rattle.rc_position.specs.declared.positions.Pos.{Pos}
use Rattle.rc_position.specs.Position.{row_pos}
use Rattle.rc_mutation.specs.declared.fragments.Frag.{Frag}
use Rattle.rc_mutation.specs.declared.fragments.Frag.TheVariants as frag
use Rattle.std.specs.declared.alloc.AllocError.{AllocError}
use Rattle.rc_mutation.specs.declared.mutations.Mutation.{Mutation}
use Rattle.rc_mutation.specs.Fragments.{tomb_after}
use Rattle.rc_cell.specs.declared.writes.Tomb.{Tomb}
use Rattle.rc_stream.specs.Did.{Many, StepsInTurn}
use Rattle.rc_stream.specs.Snapshot.{NoneLost, There, Throughout, Unlost}
use Rattle.rc_cacheread.specs.Passing.{IsKnownOver}
use Rattle.rc_cacheread.specs.Reading.{behind_row}
use Rattle.rc_cacheread.specs.Sharing.{OfFiller}
use Rattle.rc_snapshots.specs.Streams.{first_position}
use Rattle.rc_lookup.specs.calls.Filling.{IsFilledBy, IsFilling, IsNotEmptyRow, NoEmptyRows, OneFill, SaysUpToFragment, past}
use Rattle.rc_lookup.proofs.Over.{over-gap, over-nothing, over-row, over-still}

-- where nothing was lost in the end nothing was lost before or since
pub between : (a b c : ℕ) → a ≤ b → b ≤ c → NoneLost a c → NoneLost a b × NoneLost b c
between a b c h k none = let same = none.0 in let below = none.1 in ((omega (arith, h, k, same), omega (arith, k, below)), (omega (arith, h, k, same), below))

more : {S : Type 0} (step : S → S → Type 0) (n : ℕ) (s t u : S) → StepsInTurn step n s t → Many step t u → Many step s u
more step zero s t u e m = subst (λ z. Many step z u) (sym e) m
more step (suc n) s t u c m = (let r = more step n c.0 t u c.2 m in (suc r.0, (c.0, c.1, r.1)))

pub many-many : {S : Type 0} (step : S → S → Type 0) (s t u : S) → Many step s t → Many step t u → Many step s u
many-many step s t u m k = more step m.0 s t u m.1 k

take-all : (fs : List Frag) → take (length fs) fs ≡ fs
take-all [] = refl
take-all (f ∷ fs) = ap (λ gs. f ∷ gs) (take-all fs)

-- what is first and the rest are all
pub split-first : (fs : List Frag) (f d : Frag) → 1 ≤ length fs → f ≡ slice_index_or fs 0 d → fs ≡ f ∷ take (length fs - 1) (drop 1 fs)
split-first [] f d h e = absurd (omega (arith, h))
split-first (g ∷ gs) f d h e = (let n : length (g ∷ gs) - 1 ≡ length gs = omega arith in ap (λ y. y ∷ gs) (sym e) ∙ ap (λ hs. f ∷ hs) (sym (ap (λ k. take k gs) n ∙ take-all gs)))

module _ {P H : Type 0} (fi : OfFiller P H) where
  pub filled-none : (p : P) (h : H) → fi.ready p h → IsFilledBy fi p h p h
  filled-none p h ready = record { did = (0, refl); still = λ m. m; lost = omega arith; each = λ m e x v d. d; ready = ready }

  pub filled-one : (p : P) (h : H) (q : P) (g : H) → fi.fills p h q g → (fi.may p h → fi.may q g) → fi.lost h ≤ fi.lost g → Unlost (fi.may p h) (fi.lost h) (fi.lost g) ((x : Pos) (v : There) → fi.knows p h x v → fi.knows q g x v) → fi.ready q g → IsFilledBy fi p h q g
  filled-one p h q g did still lost each ready = record { did = (1, ((q, g), did, refl)); still = still; lost = lost; each = each; ready = ready }

  pub filled-then : (p : P) (h : H) (q : P) (g : H) (r : P) (i : H) → IsFilledBy fi p h q g → IsFilledBy fi q g r i → IsFilledBy fi p h r i
  filled-then p h q g r i a b = record {
    did = many-many (OneFill fi) (p, h) (q, g) (r, i) a.did b.did;
    still = λ m. b.still (a.still m);
    lost = omega (arith, a.lost, b.lost);
    each = λ m e x v d. (let u = between (fi.lost h) (fi.lost g) (fi.lost i) a.lost b.lost e in b.each (a.still m) u.1 x v (a.each m u.0 x v d));
    ready = b.ready;
  }

  -- what was known, and what becomes known then
  pub known-then : (p : P) (h : H) (q : P) (g : H) (r : P) (i : H) (A B C : Type 0) → IsFilledBy fi p h q g → IsFilledBy fi q g r i → Unlost (fi.may p h) (fi.lost h) (fi.lost g) A → Unlost (fi.may q g) (fi.lost g) (fi.lost i) B →
      (((x : Pos) (v : There) → fi.knows q g x v → fi.knows r i x v) → A → B → C) → Unlost (fi.may p h) (fi.lost h) (fi.lost i) C
  known-then p h q g r i A B C a b s t f = λ m e.
      let u = between (fi.lost h) (fi.lost g) (fi.lost i) a.lost b.lost e in
      f (b.each (a.still m) u.1) (s m u.0) (t (a.still m) u.1)

  -- what was known, then nothing up to a position
  pub known-gap : (p : P) (h : H) (q : P) (g : H) (x to from : Pos) (tomb : Option Tomb) → to ≡ from → IsFilledBy fi p h q g → Unlost (fi.may p h) (fi.lost h) (fi.lost g) (Throughout x to (λ z. fi.knows q g z (empty_row, tomb))) →
      Unlost (fi.may p h) (fi.lost h) (fi.lost g) (IsKnownOver (fi.knows p h) first_position x → IsKnownOver (fi.knows q g) first_position from)
  known-gap p h q g x to from tomb e a gap = λ m none over.
      over-gap (fi.knows q g) x from tomb (over-still (fi.knows p h) (fi.knows q g) (a.each m none) x over) (subst (λ y. Throughout x y (λ z. fi.knows q g z (empty_row, tomb))) e (gap m none))

  -- and then a row
  pub known-row : (p : P) (h : H) (q : P) (g : H) (r : P) (i : H) (x : Pos) (copied key : List Comp) (row : Row) (tomb : Option Tomb) → copied ≡ key → IsFilledBy fi p h q g → IsFilledBy fi q g r i → Unlost (fi.may p h) (fi.lost h) (fi.lost g) (Throughout x (row_pos copied) (λ z. fi.knows q g z (empty_row, tomb))) →
      Unlost (fi.may q g) (fi.lost g) (fi.lost i) (fi.knows r i (row_pos key) (row, tomb)) → Unlost (fi.may p h) (fi.lost h) (fi.lost i) (row ≢ empty_row → IsKnownOver (fi.knows p h) first_position x → IsKnownOver (fi.knows r i) first_position (behind_row key))
  known-row p h q g r i x copied key row tomb e a b gap at = λ m none written over.
      let u = between (fi.lost h) (fi.lost g) (fi.lost i) a.lost b.lost none in
      let before = known-gap p h q g x (row_pos copied) (row_pos key) tomb (λ j. row_pos (e j)) a gap m u.0 over in
      over-row (fi.knows r i) key row tomb (over-still (fi.knows q g) (fi.knows r i) (b.each (a.still m) u.1) (row_pos key) before) (at (a.still m) u.1) written

  -- what a fragment makes known
  abbrev pub KnownBy : P → H → P → H → Pos → Frag → Type 0
  KnownBy p h q g x f = Unlost (fi.may p h) (fi.lost h) (fi.lost g) (IsNotEmptyRow f → IsKnownOver (fi.knows p h) first_position x → IsKnownOver (fi.knows q g) first_position (past x f))

  pub by-row : (p : P) (h : H) (q : P) (g : H) (x : Pos) (f : Frag) (key : List Comp) (row : Row) (r : Result (Unit {0}) AllocError) → f ≡ frag.Row key row → OnOk r (KnownBy p h q g x (frag.Row key row)) → OnOk r (KnownBy p h q g x f)
  by-row p h q g x f key row r e d = subst (λ z. OnOk r (KnownBy p h q g x z)) (sym e) d

  pub by-change : (p : P) (h : H) (q : P) (g : H) (x : Pos) (f : Frag) (from : Pos) (tomb : Option Tomb) (r : Result (Unit {0}) AllocError) → f ≡ frag.Change from tomb → OnOk r (Unlost (fi.may p h) (fi.lost h) (fi.lost g) (IsKnownOver (fi.knows p h) first_position x → IsKnownOver (fi.knows q g) first_position from)) → OnOk r (KnownBy p h q g x f)
  by-change p h q g x f from tomb (Ok y) e d = subst (KnownBy p h q g x) (sym e) (λ m none _ over. d m none over)
  by-change p h q g x f from tomb (Err y) e d = tt

  pub filling-none : (all : List Frag) (p : P) (h : H) → fi.ready p h → NoEmptyRows all → IsFilling fi all p h p h first_position None all
  filling-none all p h ready written = record { filled = filled-none p h ready; known = λ m e. over-nothing (fi.knows p h); stands = λ writes d s. (d, s); written = written }

  -- one fragment more
  pub filling-more : (all : List Frag) (p : P) (h : H) (q : P) (g : H) (r : P) (i : H) (x : Pos) (tomb : Option Tomb) (f : Frag) (left : List Frag) → IsFilling fi all p h q g x tomb (f ∷ left) → IsFilledBy fi q g r i →
      Unlost (fi.may q g) (fi.lost g) (fi.lost i) (IsNotEmptyRow f → IsKnownOver (fi.knows q g) first_position x → IsKnownOver (fi.knows r i) first_position (past x f)) →
      ((writes : List Mutation) → fi.stands q g writes → SaysUpToFragment writes x tomb f → fi.stands r i writes) →
      IsFilling fi all p h r i (past x f) (tomb_after tomb f) left
  filling-more all p h q g r i x tomb f left a b known stands = record {
    filled = filled-then p h q g r i a.filled b;
    known = known-then p h q g r i (IsKnownOver (fi.knows q g) first_position x) (IsNotEmptyRow f → IsKnownOver (fi.knows q g) first_position x → IsKnownOver (fi.knows r i) first_position (past x f)) (IsKnownOver (fi.knows r i) first_position (past x f)) a.filled b a.known known (λ on here k. k a.written.0 here);
    stands = λ writes d s. (let e = a.stands writes d s in (stands writes e.0 e.1.0, e.1.1));
    written = a.written.1;
  }

-- ---- what was answered

pub on-also : {T : Type 0} (A B : Type 0) (r : Result T AllocError) → OnOk r A → (A → B) → OnOk r B
on-also A B (Ok x) a f = f a
on-also A B (Err e) a f = tt
