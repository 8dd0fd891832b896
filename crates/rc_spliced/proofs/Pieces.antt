-- Range tombstones cut at a position: what is left of them before it, and from there on.
use Rattle.std.proofs.Common.{◌≡◌, Bool, true, false, not, ◌&&◌, cond, List, [], ◌∷◌, Some, None, refl, sym, ap, ◌∙◌, map as list_map}
use Rattle.rc_cell.specs.Greatest.{greater}
use Rattle.rc_cell.specs.Orders.{tomb_cmp}
use Rattle.rc_position.specs.declared.positions.Pos.{Pos}
use Rattle.rc_ranges.specs.declared.pieces.Piece.{Piece}
use Rattle.rc_ranges.specs.Cover.{cover}
use Rattle.rc_ranges.specs.calls.Sweep.{lt}
use Rattle.rc_ranges.specs.laws.Covering.{cover-cons, cover-none, piece_at}
use Rattle.rc_ranges.specs.laws.Order.{le-trans, lt-asym, lt-le}

-- a function on pieces leaves of each what stands at positions that pass a test
abbrev pub Cuts : (Pos → Bool) → (Piece → Piece) → Type 0
Cuts keep cut = (p : Piece) (y : Pos) → piece_at (cut p) y ≡ cond (keep y) (piece_at p y) None

greater-kept : (b : Bool) (p : Piece) (ps : List Piece) (y : Pos) → greater tomb_cmp (cond b (piece_at p y) None) (cond b (cover ps y) None) ≡ cond b (greater tomb_cmp (piece_at p y) (cover ps y)) None
greater-kept true p ps y = refl
greater-kept false p ps y = refl

none-kept : (b : Bool) (y : Pos) → cover [] y ≡ cond b (cover [] y) None
none-kept true y = refl
none-kept false y = cover-none y

-- and so of all of them
pub cover-cut : (keep : Pos → Bool) (cut : Piece → Piece) → Cuts keep cut → (ps : List Piece) (y : Pos) → cover (list_map cut ps) y ≡ cond (keep y) (cover ps y) None
cover-cut keep cut h [] y = none-kept (keep y) y
cover-cut keep cut h (p ∷ ps) y =
    cover-cons (cut p) (list_map cut ps) y
    ∙ (λ i. greater tomb_cmp (h p y i) (cover-cut keep cut h ps y i))
    ∙ greater-kept (keep y) p ps y
    ∙ ap (λ t. cond (keep y) t None) (sym (cover-cons p ps y))

module _ (x : Pos) where
  -- a piece without what stands from x on
  abbrev pub cut_short : Piece → Piece
  cut_short p = record p { to = cond (lt p.to x) p.to x }

  -- a piece without what stands before x
  abbrev pub cut_off : Piece → Piece
  cut_off p = record p { from = cond (lt p.from x) x p.from }

  ends-short : (p : Piece) (y : Pos) (b : Bool) → lt y x ≡ b → lt y (cond (lt p.to x) p.to x) ≡ cond b (lt y p.to) false
  ends-short p y true h =
      elim (lt p.to x) as (λ t. lt p.to x ≡ t → lt y (cond t p.to x) ≡ lt y p.to) [
        | true ↦ λ e. refl
        | false ↦ λ e. h ∙ sym (lt-le y x p.to h e)
      ] refl
  ends-short p y false h =
      elim (lt p.to x) as (λ t. lt p.to x ≡ t → lt y (cond t p.to x) ≡ false) [
        | true ↦ λ e. le-trans p.to x y (lt-asym p.to x e) h
        | false ↦ λ e. h
      ] refl

  begins-off : (p : Piece) (y : Pos) (b : Bool) → lt y x ≡ b → lt y (cond (lt p.from x) x p.from) ≡ cond b true (lt y p.from)
  begins-off p y true h =
      elim (lt p.from x) as (λ t. lt p.from x ≡ t → lt y (cond t x p.from) ≡ true) [
        | true ↦ λ e. h
        | false ↦ λ e. lt-le y x p.from h e
      ] refl
  begins-off p y false h =
      elim (lt p.from x) as (λ t. lt p.from x ≡ t → lt y (cond t x p.from) ≡ lt y p.from) [
        | true ↦ λ e. h ∙ sym (le-trans p.from x y (lt-asym p.from x e) h)
        | false ↦ λ e. refl
      ] refl

  never : (b : Bool) (p : Piece) → cond (b && false) (Some p.tomb) None ≡ None
  never true p = refl
  never false p = refl

  short-at : (p : Piece) (y : Pos) (b : Bool) → lt y x ≡ b → piece_at (cut_short p) y ≡ cond b (piece_at p y) None
  short-at p y true h = ap (λ t. cond (not (lt y p.from) && t) (Some p.tomb) None) (ends-short p y true h)
  short-at p y false h = ap (λ t. cond (not (lt y p.from) && t) (Some p.tomb) None) (ends-short p y false h) ∙ never (not (lt y p.from)) p

  off-at : (p : Piece) (y : Pos) (b : Bool) → lt y x ≡ b → piece_at (cut_off p) y ≡ cond (not b) (piece_at p y) None
  off-at p y true h = ap (λ t. cond (not t && lt y p.to) (Some p.tomb) None) (begins-off p y true h)
  off-at p y false h = ap (λ t. cond (not t && lt y p.to) (Some p.tomb) None) (begins-off p y false h)

  pub cuts_short : Cuts (λ y. lt y x) cut_short
  cuts_short p y = short-at p y (lt y x) refl

  pub cuts_off : Cuts (λ y. not (lt y x)) cut_off
  cuts_off p y = off-at p y (lt y x) refl
