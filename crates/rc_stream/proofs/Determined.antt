-- Ordered fragments in which each change tells something are determined by what they say.
use Rattle.std.specs.Prelude.{◌≡◌, true, false, cond, List, [], ◌∷◌, ◌++◌, Option, Some, None}
use Rattle.std.proofs.Common.{refl, sym, ap, ◌∙◌, subst}
use Rattle.std.specs.declared.cmp.Ordering.TheVariants.{Less, Equal, Greater}
use Rattle.std.specs.Ordering.{is_eq, ordering_reverse}
use Rattle.std.specs.Cmp.{tied_itself}
use Rattle.rc_cell.specs.declared.rows.Row.{Row}
use Rattle.rc_cell.specs.declared.writes.Tomb.{Tomb}
use Rattle.rc_cell.specs.Orders.{tomb_cmp_total}
use Rattle.rc_position.specs.declared.positions.Pos.{Pos}
use Rattle.rc_position.specs.Position.{row_pos}
use Rattle.rc_mutation.specs.declared.fragments.Frag.{Frag}
use Rattle.rc_mutation.specs.declared.fragments.Frag.TheVariants as frag
use Rattle.rc_mutation.specs.Fragments.{place_order, tomb_after}
use Rattle.rc_stream.specs.Stream.{force, is_passed, row_at}
use Rattle.rc_stream.specs.Merging.{IsOrdered, IsTelling, StandsBefore, changes_nothing, place_of, rows_here, same_tomb}
use Rattle.rc_stream.specs.laws.Ordered.{Place, Lt, place_total, place_same, before-through, irreflexive, itself, no_rows, passes-itself, stop, unpassed}
use Rattle.rc_stream.proofs.Stepping.{other_rank}

same-itself : (t : Option Tomb) → same_tomb t t ≡ true
same-itself None = refl
same-itself (Some t) = ap is_eq (tied_itself tomb_cmp_total t)

never : (r : Row) (rs : List Row) → r ∷ rs ≡ [] → ⊥
never r rs e = cc

-- what is first to say something differs from what stands behind it
unlike : (tomb : Option Tomb) (f : Frag) (fs gs : List Frag) → IsOrdered (f ∷ fs) → changes_nothing tomb f ≡ false → IsOrdered gs → StandsBefore (place_of f) gs → ((x : Pos) → rows_here x (f ∷ fs) ≡ rows_here x gs) → ((x : Pos) → force x tomb (f ∷ fs) ≡ force x tomb gs) → ⊥
unlike tomb (frag.Start pt) fs gs o c k b rows tombs = o.0
unlike tomb (frag.Static row) fs gs o c k b rows tombs = o.0
unlike tomb (frag.Row key row) fs gs o c k b rows tombs =
    let x = row_pos key in
    never row (rows_here x fs) (ap (λ d. cond d (row ∷ []) [] ++ rows_here x fs) (sym (itself x)) ∙ rows x ∙ no_rows x (x, 1) gs k b (irreflexive (x, 1)))
unlike tomb (frag.Change from next) fs gs o c k b rows tombs =
    let same : next ≡ tomb =
    sym (stop from (from, 0) next fs o.2 o.1 (irreflexive (from, 0)))
    ∙ ap (λ d. cond d (force from next fs) tomb) (sym (passes-itself from))
    ∙ tombs from
    ∙ stop from (from, 0) tomb gs k b (irreflexive (from, 0)) in
    let told : true ≡ false = sym (same-itself tomb) ∙ ap (same_tomb tomb) (sym same) ∙ c in
    cc
unlike tomb frag.End fs gs o c k b rows tombs = o.0

abbrev first_row : Row → List Row → Row
first_row r [] = r
first_row r (q ∷ qs) = q

abbrev behind_first : List Row → List Row
behind_first [] = []
behind_first (q ∷ qs) = qs

cancel : (xs ys zs : List Row) → xs ++ ys ≡ xs ++ zs → ys ≡ zs
cancel [] ys zs e = e
cancel (x ∷ xs) ys zs e = cancel xs ys zs (ap behind_first e)

abbrev SameRows : List Frag → List Frag → Type 0
SameRows fs gs = (x : Pos) → rows_here x fs ≡ rows_here x gs

abbrev SameTombs : Option Tomb → List Frag → List Frag → Type 0
SameTombs tomb fs gs = (x : Pos) → force x tomb fs ≡ force x tomb gs

-- two at one place that say the same are the same
same-first : (tomb : Option Tomb) (f g : Frag) (fs gs : List Frag) → IsOrdered (f ∷ fs) → IsOrdered (g ∷ gs) → place_of f ≡ place_of g → SameRows (f ∷ fs) (g ∷ gs) → SameTombs tomb (f ∷ fs) (g ∷ gs) → f ≡ g
same-first tomb (frag.Start pt) g fs gs o k e rows tombs = absurd o.0
same-first tomb (frag.Static row) g fs gs o k e rows tombs = absurd o.0
same-first tomb (frag.Row key row) (frag.Start pt) fs gs o k e rows tombs = absurd k.0
same-first tomb (frag.Row key row) (frag.Static s) fs gs o k e rows tombs = absurd k.0
same-first tomb (frag.Row key row) (frag.Row key' row') fs gs o k e rows tombs =
    let x = row_pos key in
    let same : x ≡ row_pos key' = ap (λ (p : Place). p.0) e in
    let ours : rows_here x (frag.Row key row ∷ fs) ≡ row ∷ rows_here x fs = ap (λ d. cond d (row ∷ []) [] ++ rows_here x fs) (itself x) in
    let theirs : rows_here x (frag.Row key' row' ∷ gs) ≡ row' ∷ rows_here x gs = ap (λ y. row_at y (frag.Row key' row') ++ rows_here x gs) same ∙ ap (λ d. cond d (row' ∷ []) [] ++ rows_here x gs) (itself (row_pos key')) in
    let rowsame : row ≡ row' = ap (first_row row) (sym ours ∙ rows x ∙ theirs) in
    let keysame : key ≡ key' = ap (λ (p : Pos). p.prefix) same in
    λ i. frag.Row (keysame i) (rowsame i)
same-first tomb (frag.Row key row) (frag.Change from next) fs gs o k e rows tombs = absurd (other_rank (row_pos key) from e)
same-first tomb (frag.Row key row) frag.End fs gs o k e rows tombs = absurd k.0
same-first tomb (frag.Change from next) (frag.Start pt) fs gs o k e rows tombs = absurd k.0
same-first tomb (frag.Change from next) (frag.Static s) fs gs o k e rows tombs = absurd k.0
same-first tomb (frag.Change from next) (frag.Row key row) fs gs o k e rows tombs = absurd (other_rank (row_pos key) from (sym e))
same-first tomb (frag.Change from next) (frag.Change from' next') fs gs o k e rows tombs =
    let same : from ≡ from' = ap (λ (p : Place). p.0) e in
    let ours : force from tomb (frag.Change from next ∷ fs) ≡ next = ap (λ d. cond d (force from next fs) tomb) (passes-itself from) ∙ stop from (from, 0) next fs o.2 o.1 (irreflexive (from, 0)) in
    let theirs : force from tomb (frag.Change from' next' ∷ gs) ≡ next' =
    ap (λ y. force y tomb (frag.Change from' next' ∷ gs)) same
    ∙ ap (λ d. cond d (force from' next' gs) tomb) (passes-itself from')
    ∙ stop from' (from', 0) next' gs k.2 k.1 (irreflexive (from', 0)) in
    let tombsame : next ≡ next' = sym ours ∙ tombs from ∙ theirs in
    λ i. frag.Change (same i) (tombsame i)
same-first tomb (frag.Change from next) frag.End fs gs o k e rows tombs = absurd k.0
same-first tomb frag.End g fs gs o k e rows tombs = absurd o.0

tail-tombs : (tomb : Option Tomb) (f : Frag) (fs gs : List Frag) → IsOrdered (f ∷ fs) → IsOrdered (f ∷ gs) → SameTombs tomb (f ∷ fs) (f ∷ gs) → SameTombs (tomb_after tomb f) fs gs
tail-tombs tomb f fs gs o k tombs x =
    elim (is_passed x f) as (λ c. is_passed x f ≡ c → cond c (force x (tomb_after tomb f) fs) tomb ≡ cond c (force x (tomb_after tomb f) gs) tomb → force x (tomb_after tomb f) fs ≡ force x (tomb_after tomb f) gs) [
      | true ↦ λ e same. same
      | false ↦ λ e same. stop x (place_of f) (tomb_after tomb f) fs o.2 o.1 (unpassed x f o.0 e) ∙ sym (stop x (place_of f) (tomb_after tomb f) gs k.2 k.1 (unpassed x f o.0 e))
    ] refl (tombs x)

pub determined : (tomb : Option Tomb) (fs gs : List Frag) → IsOrdered fs → IsOrdered gs → IsTelling tomb fs → IsTelling tomb gs → SameRows fs gs → SameTombs tomb fs gs → fs ≡ gs
determined tomb [] [] o k c d rows tombs = refl
determined tomb [] (g ∷ gs) o k c d rows tombs = absurd (unlike tomb g gs [] k d.0 tt tt (λ x. sym (rows x)) (λ x. sym (tombs x)))
determined tomb (f ∷ fs) [] o k c d rows tombs = absurd (unlike tomb f fs [] o c.0 tt tt rows tombs)
determined tomb (f ∷ fs) (g ∷ gs) o k c d rows tombs =
    elim (place_order (place_of f) (place_of g)) as (λ r. place_order (place_of f) (place_of g) ≡ r → f ∷ fs ≡ g ∷ gs) [
      | Less ↦ λ e. absurd (unlike tomb f fs (g ∷ gs) o c.0 k (e, before-through (place_of f) (place_of g) gs e k.1) rows tombs)
      | Equal ↦ λ e.
          let same : f ≡ g = same-first tomb f g fs gs o k (place_same (place_of f) (place_of g) e) rows tombs in
          let k' : IsOrdered (f ∷ gs) = subst (λ h. IsOrdered (h ∷ gs)) (sym same) k in
          let d' : IsTelling tomb (f ∷ gs) = subst (λ h. IsTelling tomb (h ∷ gs)) (sym same) d in
          let rows' : SameRows (f ∷ fs) (f ∷ gs) = λ x. rows x ∙ ap (λ h. rows_here x (h ∷ gs)) (sym same) in
          let tombs' : SameTombs tomb (f ∷ fs) (f ∷ gs) = λ x. tombs x ∙ ap (λ h. force x tomb (h ∷ gs)) (sym same) in
          let left : fs ≡ gs = determined (tomb_after tomb f) fs gs o.2 k'.2 c.1 d'.1 (λ x. cancel (row_at x f) (rows_here x fs) (rows_here x gs) (rows' x)) (tail-tombs tomb f fs gs o k' tombs') in
          λ i. same i ∷ left i
      | Greater ↦ λ e.
          let a : Lt (place_of g) (place_of f) = place_total.antisymm (place_of g) (place_of f) ∙ ap ordering_reverse e in
          absurd (unlike tomb g gs (f ∷ fs) k d.0 o (a, before-through (place_of g) (place_of f) fs a o.1) (λ x. sym (rows x)) (λ x. sym (tombs x)))
    ] refl
