-- What calls of the parts leave of what is known, one after another.
use Rattle.std.specs.Prelude.{◌≡◌, ⊤}
use Rattle.std.proofs.Common.{refl, arith}
use Rattle.rc_position.specs.declared.positions.Pos.{Pos}
use Rattle.rc_stream.specs.Places.{Reaches}
use Rattle.rc_stream.specs.Snapshot.{SameKnown, There}
use Rattle.rc_cacheread.specs.calls.Below.{StaysLost, TakenIn}
use Rattle.rc_cacheread.specs.Did.{ReaderFilled}
use Rattle.rc_cacheread.specs.Passing.{IsKnownOver}
use Rattle.rc_cacheread.specs.Sharing.{Fit, Kept, OfBelow, OfFiller, OfKnown, Shares, StillStands}
use Rattle.rc_cacheread.proofs.Leaving.{FillsLeft, KnownLeft, fills-left}
use Rattle.rc_cacheread.specs.laws.Passing.{over-over}
use Rattle.rc_cacheread.proofs.Passed.{between, over-ends, over-still}

module _ {K P H : Type 0} (kn : OfKnown K H) (fi : OfFiller P H) where
  pub filled-still : (k : K) (p : P) (h : H) (A : Type 0) → A → ReaderFilled kn fi k p h k p h A
  filled-still k p h A a = record { still = λ m. m; lost = omega arith; each = λ m e x v d. d; static_row = λ m e s. s; now = λ m e. a }

  pub filled-on : (k l : K) (p q : P) (h g : H) (A B : Type 0) → (A → B) → ReaderFilled kn fi k p h l q g A → ReaderFilled kn fi k p h l q g B
  filled-on k l p q h g A B f d = record { still = d.still; lost = d.lost; each = d.each; static_row = d.static_row; now = λ m e. f (d.now m e) }

  pub filled-join : (k l n : K) (p q r : P) (h g i : H) (A B C : Type 0) → (((x : Pos) (v : There) → kn.knows l g x v → kn.knows n i x v) → A → B → C) → ReaderFilled kn fi k p h l q g A → ReaderFilled kn fi l q g n r i B → ReaderFilled kn fi k p h n r i C
  filled-join k l n p q r h g i A B C f a b = record {
    still = λ m. b.still (a.still m);
    lost = omega (arith, a.lost, b.lost);
    each = λ m e x v d. (let u = between (fi.lost h) (fi.lost g) (fi.lost i) a.lost b.lost e in b.each (a.still m) u.1 x v (a.each m u.0 x v d));
    static_row = λ m e s. (let u = between (fi.lost h) (fi.lost g) (fi.lost i) a.lost b.lost e in b.static_row (a.still m) u.1 (a.static_row m u.0 s));
    now = λ m e. (let u = between (fi.lost h) (fi.lost g) (fi.lost i) a.lost b.lost e in f (b.each (a.still m) u.1) (a.now m u.0) (b.now (a.still m) u.1));
  }

  pub filled-then : (k l n : K) (p q r : P) (h g i : H) (A B : Type 0) → ReaderFilled kn fi k p h l q g A → ReaderFilled kn fi l q g n r i B → ReaderFilled kn fi k p h n r i B
  filled-then k l n p q r h g i A B a b = filled-join k l n p q r h g i A B B (λ e x y. y) a b

  -- one stretch after another
  pub filled-over : (k l n : K) (p q r : P) (h g i : H) (x y z : Pos) → Reaches x y → ReaderFilled kn fi k p h l q g (IsKnownOver (kn.knows l g) x y) → ReaderFilled kn fi l q g n r i (IsKnownOver (kn.knows n i) y z) → ReaderFilled kn fi k p h n r i (IsKnownOver (kn.knows n i) x z)
  filled-over k l n p q r h g i x y z on a b = filled-join k l n p q r h g i (IsKnownOver (kn.knows l g) x y) (IsKnownOver (kn.knows n i) y z) (IsKnownOver (kn.knows n i) x z) (λ e c d. over-over (kn.knows n i) x y z on (over-still (kn.knows l g) (kn.knows n i) e x y c) d) a b

module _ {K F P H W : Type 0} (kn : OfKnown K H) (be : OfBelow F H W) (fi : OfFiller P H) where
  -- calls of the snapshot
  pub filled-known : (b : F) (p : P) (w : W) (k l : K) (h g : H) (A : Type 0) → KnownLeft kn be fi b p w (k, h) (l, g) → SameKnown (kn.knows k h) (kn.knows l g) → A → ReaderFilled kn fi k p h l p g A
  filled-known b p w k l h g A d s a = record { still = d.kept.may; lost = d.kept.lost; each = λ m e x v c. (s x v).0 c; static_row = d.kept.static_row; now = λ m e. a }

  -- a call of the stream below
  pub filled-below : (k : K) (p : P) (h g : H) (A : Type 0) → Kept kn fi k p h k p g → SameKnown (kn.knows k h) (kn.knows k g) → A → ReaderFilled kn fi k p h k p g A
  filled-below k p h g A d s a = record { still = d.may; lost = d.lost; each = λ m e x v c. (s x v).0 c; static_row = d.static_row; now = λ m e. a }

  -- fills
  pub filled-in : (b : F) (w : W) (k : K) (p q : P) (h g : H) (A B : Type 0) → Fit kn be fi k b p h w → FillsLeft kn be fi k b w (p, h) (q, g) → (A → B) → TakenIn fi.may fi.lost fi.knows p h q g A → ReaderFilled kn fi k p h k q g B
  filled-in b w k p q h g A B fit d f t = record {
    still = d.kept.may;
    lost = d.kept.lost;
    each = λ m e x v c. (d.fit.same x v).0 (t.each m e x v ((fit.same x v).1 c));
    static_row = d.kept.static_row;
    now = λ m e. f (t.now m e);
  }

  -- a call of the stream below and then fills, from where a reader stands on
  pub filled-read : (b : F) (w : W) (k : K) (p q : P) (h g i : H) (x x' y : Pos) → x' ≡ x → Fit kn be fi k b p g w × Kept kn fi k p h k p g × StillStands fi p h p g × SameKnown (kn.knows k h) (kn.knows k g) → FillsLeft kn be fi k b w (p, g) (q, i) → TakenIn fi.may fi.lost fi.knows p g q i (IsKnownOver (fi.knows q i) x y) → ReaderFilled kn fi k p h k q i (IsKnownOver (kn.knows k i) x' y)
  filled-read b w k p q h g i x x' y e a d t =
      filled-then kn fi k k k p p q h g i ⊤ (IsKnownOver (kn.knows k i) x' y)
      (filled-below k p h g ⊤ a.1 a.3 tt)
      (filled-in b w k p q g i (IsKnownOver (fi.knows q i) x y) (IsKnownOver (kn.knows k i) x' y) a.0 d (λ c. over-ends (kn.knows k i) x x' y y e refl (over-still (fi.knows q i) (kn.knows k i) (λ z v. (d.fit.same z v).0) x y c)) t)

  -- along fills from here on what was lost is not forgotten
  pub stays-lost : (k : K) (b : F) (w : W) (p : P) (h : H) → Shares kn be fi → Fit kn be fi k b p h w → StaysLost fi.fills fi.lost p h
  stays-lost k b w p h shares fit = λ q g r i d e.
      let x = fills-left kn be fi shares k b w (p, h) (q, g) d fit in
      (fills-left kn be fi shares k b w (q, g) (r, i) e x.fit).kept.lost
