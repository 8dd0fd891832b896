-- Positions of no components, and keys of one number.
use Rattle.std.proofs.Common.{◌≡◌, ◌≤◌, zero, suc, List, [], ◌∷◌, refl, sym, subst, arith}
use Rattle.std.specs.Prelude.{All, ℤ}
use Rattle.rc_position.specs.declared.comps.Comp.{Comp}
use Rattle.rc_position.specs.declared.comps.Comp.TheVariants.{Int}
use Rattle.rc_position.specs.declared.positions.Pos.{Pos}
use Rattle.rc_position.specs.declared.positions.Weight.{Weight}
use Rattle.rc_position.specs.declared.positions.Weight.TheVariants.{After, At, Before}
use Rattle.rc_position.specs.Position.{IsBefore, pos_cmp}
use Rattle.rc_rowcode.specs.Objects.{dummy_size}
use Rattle.rc_rowcode.specs.Spelling.{CompFits, KeyFits}

abbrev pub bare : Weight → Pos
bare w = record { prefix = []; weight = w }

pub before-at : IsBefore (bare Before) (bare At)
unfolding pos_cmp
before-at = refl

pub before-after : IsBefore (bare Before) (bare After)
unfolding pos_cmp
before-after = refl

pub ascend : (a b : Weight) → IsBefore (bare a) (bare b) → (x y : Pos) → x ≡ bare a → y ≡ bare b → IsBefore x y
ascend a b before x y e k = subst (λ (p : Pos). IsBefore p y) (sym e) (subst (λ (p : Pos). IsBefore (bare a) p) (sym k) before)

pub no_components : KeyFits []
no_components = (omega arith, λ k d l. absurd (omega (arith, l)))

pub fits : (w : Weight) (x : Pos) → x ≡ bare w → KeyFits x.prefix
fits w x e = subst (λ (p : Pos). KeyFits p.prefix) (sym e) no_components

pub takes : (w : Weight) (x : Pos) → x ≡ bare w → dummy_size x ≤ 88
takes w x e = subst (λ (p : Pos). dummy_size p ≤ 88) (sym e) (omega arith)

number-small : (number : ℤ) → All CompFits (Int number ∷ [])
number-small number zero d lt = tt
number-small number (suc k) d lt = absurd (omega (arith, lt))

pub number-fits : (number : ℤ) (key : List Comp) → key ≡ Int number ∷ [] → KeyFits key
number-fits number key e = subst KeyFits (sym e) (omega arith, number-small number)
