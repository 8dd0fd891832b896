-- Each part ends ahead, and fewer entries are left behind it.
use Rattle.std.proofs.Common.{◌≡◌, ◌⊎◌, ⊎_elim, inl, inr, ◌+◌, ◌<◌, ◌≤◌, ℕ, List, [], ◌∷◌, Option, length, refl, sym, ap, ◌∙◌, subst, arith, append-nil}
use Rattle.std.specs.declared.cmp.Ordering.{Ordering}
use Rattle.std.specs.declared.cmp.Ordering.TheVariants.{Less, Equal, Greater}
use Rattle.std.specs.Ordering.{ordering_reverse}
use Rattle.std.specs.Cmp.{tied_itself}
use Rattle.rc_cell.specs.declared.rows.Row.{Row}
use Rattle.rc_cell.specs.declared.writes.Tomb.{Tomb}
use Rattle.rc_cell.specs.Winner.{empty_row}
use Rattle.rc_position.specs.declared.comps.Comp.{Comp}
use Rattle.rc_position.specs.declared.positions.Pos.{Pos}
use Rattle.rc_position.specs.Position.{IsBefore, pos_cmp, row_pos}
use Rattle.rc_position.specs.laws.Orders.{pos_cmp_same, pos_cmp_total}
use Rattle.rc_position.specs.laws.Bounds.{After-rows}
use Rattle.rc_schema.specs.SchemaValue.{SchemaValue}
use Rattle.rc_mutation.specs.declared.mutations.Mutation.{Mutation}
use Rattle.rc_core.specs.declared.entries.ChainKind.TheVariants.{Memtable}
use Rattle.rc_core.specs.declared.entries.Entry.{Entry}
use Rattle.rc_core.specs.declared.parts.Part.{Part}
use Rattle.rc_core.specs.declared.parts.Part.TheVariants as part
use Rattle.rc_core.specs.AtPlace.{HasEntryAt}
use Rattle.rc_core.specs.Chain.{content, states_at}
use Rattle.rc_core.specs.Continuity.{EachOf}
use Rattle.rc_core.specs.Parts.{IsFirstPart, SomeHasEntryAt}
use Rattle.rc_core.specs.StandsFor.{place_after}
use Rattle.rc_core.specs.Version.{EndsWithDummy, IsVersion, On, Version, end_position}
use Rattle.rc_core.specs.laws.Written.{memtable-known, row-at-key}
use Rattle.rc_memtable.specs.calls.Reading.{EndsAhead, SayChanges}
use Rattle.rc_memtable.proofs.Standing.{row-stands}
use Rattle.rc_memtable.proofs.Whole.{after}

turn-to : (x y : Pos) (r : Ordering) → pos_cmp x y ≡ r → pos_cmp y x ≡ ordering_reverse r
turn-to x y r e = pos_cmp_total.antisymm y x ∙ ap ordering_reverse e

pub never : (x : Pos) → IsBefore x x → ⊥
never x l = let u : Equal ≡ Less = sym (tied_itself pos_cmp_total x) ∙ l in cc

pub before-after-key : (key : List Comp) → IsBefore (row_pos key) (after key)
before-after-key key = subst (λ k. IsBefore (row_pos k) (after key)) (append-nil key) (After-rows key [])

-- ---- how much is left from a place on

-- an entry that stands behind the place counts twice, and one at it once
abbrev left_by : Ordering → ℕ
left_by Less = 0
left_by Equal = 1
left_by Greater = 2

abbrev left_in : Pos → List Entry → ℕ
left_in x [] = 0
left_in x (e ∷ es) = left_by (pos_cmp e.position x) + left_in x es

-- how much of versions is left from a place on
abbrev pub left_from : Pos → List Version → ℕ
left_from x [] = 0
left_from x (v ∷ vs) = left_in x v.entries + left_from x vs

most : (r : Ordering) → left_by r ≤ 2
most Less = omega arith
most Equal = omega arith
most Greater = omega arith

no-more : (p x y : Pos) → IsBefore x y → left_by (pos_cmp p y) ≤ left_by (pos_cmp p x)
no-more p x y l = elim (pos_cmp p x) as (λ r. pos_cmp p x ≡ r → left_by (pos_cmp p y) ≤ left_by r) [
  | Less ↦ λ e. let now : left_by (pos_cmp p y) ≡ 0 = ap left_by (pos_cmp_total.trans p x y e l) in omega (arith, now)
  | Equal ↦ λ e. let now : left_by (pos_cmp p y) ≡ 0 = ap left_by (subst (λ q. pos_cmp q y ≡ Less) (sym (pos_cmp_same p x e)) l) in omega (arith, now)
  | Greater ↦ λ e. most (pos_cmp p y)
] refl

fewer-at : (p x y : Pos) → IsBefore x y → (p ≡ x) ⊎ (p ≡ y) → left_by (pos_cmp p y) < left_by (pos_cmp p x)
fewer-at p x y l h = ⊎_elim
    (λ e. let was : left_by (pos_cmp p x) ≡ 1 = ap left_by (subst (λ q. pos_cmp p q ≡ Equal) e (tied_itself pos_cmp_total p)) in
    let now : left_by (pos_cmp p y) ≡ 0 = ap left_by (subst (λ q. pos_cmp q y ≡ Less) (sym e) l) in omega (arith, was, now))
    (λ e. let now : left_by (pos_cmp p y) ≡ 1 = ap left_by (subst (λ q. pos_cmp p q ≡ Equal) e (tied_itself pos_cmp_total p)) in
    let was : left_by (pos_cmp p x) ≡ 2 = ap left_by (subst (λ q. pos_cmp q x ≡ Greater) (sym e) (turn-to x y Less l)) in omega (arith, was, now))
    h

no-more-in : (x y : Pos) (es : List Entry) → IsBefore x y → left_in y es ≤ left_in x es
no-more-in x y [] l = omega arith
no-more-in x y (e ∷ es) l = let one = no-more e.position x y l in let rest = no-more-in x y es l in omega (arith, one, rest)

fewer-in : (x y : Pos) (es : List Entry) → IsBefore x y → HasEntryAt x es ⊎ HasEntryAt y es → left_in y es < left_in x es
fewer-in x y [] l h = ⊎_elim (λ n. absurd n) (λ n. absurd n) h
fewer-in x y (e ∷ es) l h =
    let rest = no-more-in x y es l in
    let one = no-more e.position x y l in
    ⊎_elim
    (λ g. ⊎_elim (λ at. let less = fewer-at e.position x y l (inl at) in omega (arith, less, rest)) (λ k. let less = fewer-in x y es l (inl k) in omega (arith, less, one)) g)
    (λ g. ⊎_elim (λ at. let less = fewer-at e.position x y l (inr at) in omega (arith, less, rest)) (λ k. let less = fewer-in x y es l (inr k) in omega (arith, less, one)) g)
    h

no-more-from : (x y : Pos) (vs : List Version) → IsBefore x y → left_from y vs ≤ left_from x vs
no-more-from x y [] l = omega arith
no-more-from x y (v ∷ vs) l = let one = no-more-in x y v.entries l in let rest = no-more-from x y vs l in omega (arith, one, rest)

fewer-from : (x y : Pos) (vs : List Version) → IsBefore x y → SomeHasEntryAt x vs ⊎ SomeHasEntryAt y vs → left_from y vs < left_from x vs
fewer-from x y [] l h = ⊎_elim (λ n. absurd n) (λ n. absurd n) h
fewer-from x y (v ∷ vs) l h =
    let rest = no-more-from x y vs l in
    let one = no-more-in x y v.entries l in
    ⊎_elim
    (λ g. ⊎_elim (λ at. let less = fewer-in x y v.entries l (inl at) in omega (arith, less, rest)) (λ k. let less = fewer-from x y vs l (inl k) in omega (arith, less, one)) g)
    (λ g. ⊎_elim (λ at. let less = fewer-in x y v.entries l (inr at) in omega (arith, less, rest)) (λ k. let less = fewer-from x y vs l (inr k) in omega (arith, less, one)) g)
    h

-- ---- the end dummy

dummy-there : (es : List Entry) → EndsWithDummy es → HasEntryAt end_position es
dummy-there [] h = absurd h
dummy-there (e ∷ []) h = inl h.0
dummy-there (e ∷ f ∷ es) h = inr (dummy-there (f ∷ es) h)

some-dummy : (vs : List Version) → EachOf IsVersion vs → 0 < length vs → SomeHasEntryAt end_position vs
some-dummy [] h l = absurd (omega (arith, l))
some-dummy (v ∷ vs) h l = inl (dummy-there v.entries h.0.ends)

-- ---- a part

module _ (schema : SchemaValue) (versions : List Version) (changes : List Mutation) (say : SayChanges schema versions changes) (x : Pos) (inside : IsBefore x end_position) where
  pub row-seen : (key : List Comp) (row : Row) (tomb : Option Tomb) → IsFirstPart Memtable versions x end_position (part.Row key row tomb) → (content (states_at (On x) versions)).0 ≡ empty_row → ⊥
  row-seen key row tomb p e = p.2 (record { inside = inside; no_row = e })

  -- a row is at the position of its key
  pub row-place : (key : List Comp) (row : Row) (tomb : Option Tomb) → IsFirstPart Memtable versions x end_position (part.Row key row tomb) → x ≡ row_pos key
  row-place key row tomb p = row-at-key changes versions x say.stands (row-seen key row tomb p) ∙ ap row_pos (sym p.3)

  row-ahead : (key : List Comp) (row : Row) (tomb : Option Tomb) → IsFirstPart Memtable versions x end_position (part.Row key row tomb) → IsBefore x (after key)
  row-ahead key row tomb p = subst (λ z. IsBefore z (after key)) (sym (row-place key row tomb p)) (before-after-key key)

  pub ends-ahead : (p : Part) → IsFirstPart Memtable versions x end_position p → EndsAhead p x
  ends-ahead (part.Row key row tomb) p = (λ e. row-seen key row tomb p (ap (λ (a : Row × Option Tomb). a.0) p.4 ∙ e), row-ahead key row tomb p)
  ends-ahead (part.Gap to tomb) p = p.3.ahead
  ends-ahead (part.Missing to) p = p.1 (memtable-known versions say.inherit x)
  ends-ahead part.End p = never x (subst (λ z. IsBefore x z) (sym p) inside)

  -- less is left behind it
  pub part-less : (p : Part) → IsFirstPart Memtable versions x end_position p → left_from (place_after p x) versions < left_from x versions
  part-less (part.Row key row tomb) p = fewer-from x (after key) versions (row-ahead key row tomb p) (inl (row-stands schema x versions say.fits (row-seen key row tomb p)).0)
  part-less (part.Gap to tomb) p = fewer-from x to versions p.3.ahead (inr (⊎_elim (λ e. subst (λ z. SomeHasEntryAt z versions) (sym e) (some-dummy versions say.sound say.some)) (λ h. h) p.3.stops))
  part-less (part.Missing to) p = absurd (p.1 (memtable-known versions say.inherit x))
  part-less part.End p = absurd (never x (subst (λ z. IsBefore x z) (sym p) inside))
