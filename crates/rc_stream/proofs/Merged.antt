-- What two ordered lists merged say, and that they are canonical.
use Rattle.std.specs.Prelude.{◌≡◌, true, false, cond, List, [], ◌∷◌, ◌++◌, Option}
use Rattle.std.proofs.Common.{refl, sym, ap, ◌∙◌, subst}
use Rattle.std.specs.declared.cmp.Ordering.TheVariants.{Less, Equal, Greater}
use Rattle.std.specs.Ordering.{is_lt, is_le, eq_by_cmp, ordering_reverse}
use Rattle.std.specs.Option.{option_to_list}
use Rattle.rc_cell.specs.declared.rows.Row.{Row}
use Rattle.rc_cell.specs.declared.writes.Tomb.{Tomb}
use Rattle.rc_cell.specs.Greatest.{greater}
use Rattle.rc_cell.specs.laws.{joined_row-one, IsRow-joined_row}
use Rattle.rc_cell.specs.Orders.{tomb_cmp}
use Rattle.rc_cell.specs.Winner.{joined_row}
use Rattle.rc_position.specs.declared.positions.Pos.{Pos}
use Rattle.rc_position.specs.Position.{pos_cmp, row_pos}
use Rattle.rc_mutation.specs.declared.fragments.Frag.{Frag}
use Rattle.rc_mutation.specs.declared.fragments.Frag.TheVariants as frag
use Rattle.rc_mutation.specs.laws.ByKey.{joined_if_any}
use Rattle.rc_mutation.specs.Fragments.{place_order, tomb_after}
use Rattle.rc_stream.specs.Stream.{force, is_passed, row_at}
use Rattle.rc_stream.specs.Merging.{IsInner, IsOrdered, IsTelling, StandsBefore, changes_nothing, merged_left, place_of, rows_here}
use Rattle.rc_stream.specs.calls.Merging.{together}
use Rattle.rc_stream.specs.calls.Merging.{beside}
use Rattle.rc_stream.specs.laws.Ordered.{Place, Lt, place_total, place_same, before-through, irreflexive, no_rows, same_pos, stop, unpassed}
use Rattle.rc_stream.proofs.Stepping.{after-beside, after-theirs, after-together, beside_theirs, nothing-after, step-none, step-ours, step-theirs, step-together, tell, other_rank}

-- ---- induction over the steps

module _
    (P : Option Tomb → List Frag → Option Tomb → List Frag → Type 0)
    (none : (tomb other : Option Tomb) → P tomb [] other [])
    (ours : (tomb other : Option Tomb) (f : Frag) (fs gs : List Frag) → IsOrdered (f ∷ fs) → IsOrdered gs → StandsBefore (place_of f) gs → P (tomb_after tomb f) fs other gs → P tomb (f ∷ fs) other gs)
    (theirs : (tomb other : Option Tomb) (g : Frag) (fs gs : List Frag) → IsOrdered fs → IsOrdered (g ∷ gs) → StandsBefore (place_of g) fs → P tomb fs (tomb_after other g) gs → P tomb fs other (g ∷ gs))
    (both : (tomb other : Option Tomb) (f g : Frag) (fs gs : List Frag) → IsOrdered (f ∷ fs) → IsOrdered (g ∷ gs) → place_order (place_of f) (place_of g) ≡ Equal → P (tomb_after tomb f) fs (tomb_after other g) gs → P tomb (f ∷ fs) other (g ∷ gs)) where
  steps_alone : (gs : List Frag) (tomb other : Option Tomb) → IsOrdered gs → P tomb [] other gs
  steps_alone [] tomb other k = none tomb other
  steps_alone (g ∷ gs) tomb other k = theirs tomb other g [] gs tt k tt (steps_alone gs tomb (tomb_after other g) k.2)

  steps_into : (f : Frag) (fs : List Frag) → IsOrdered (f ∷ fs) → ((tomb other : Option Tomb) (gs : List Frag) → IsOrdered gs → P tomb fs other gs) → (gs : List Frag) (tomb other : Option Tomb) → IsOrdered gs → P tomb (f ∷ fs) other gs
  steps_into f fs o ih [] tomb other k = ours tomb other f fs [] o tt tt (ih (tomb_after tomb f) other [] tt)
  steps_into f fs o ih (g ∷ gs) tomb other k =
      elim (place_order (place_of f) (place_of g)) as (λ r. place_order (place_of f) (place_of g) ≡ r → P tomb (f ∷ fs) other (g ∷ gs)) [
        | Less ↦ λ e. ours tomb other f fs (g ∷ gs) o k (e, before-through (place_of f) (place_of g) gs e k.1) (ih (tomb_after tomb f) other (g ∷ gs) k)
        | Equal ↦ λ e. both tomb other f g fs gs o k e (ih (tomb_after tomb f) (tomb_after other g) gs k.2)
        | Greater ↦ λ e.
            let a : Lt (place_of g) (place_of f) = place_total.antisymm (place_of g) (place_of f) ∙ ap ordering_reverse e in
            theirs tomb other g (f ∷ fs) gs o k (a, before-through (place_of g) (place_of f) fs a o.1) (steps_into f fs o ih gs tomb (tomb_after other g) k.2)
      ] refl

  -- what holds where both are empty, and is kept by each step, holds
  pub by_steps : (fs : List Frag) (tomb other : Option Tomb) (gs : List Frag) → IsOrdered fs → IsOrdered gs → P tomb fs other gs
  by_steps [] tomb other gs o k = steps_alone gs tomb other k
  by_steps (f ∷ fs) tomb other gs o k = steps_into f fs o (λ t u hs l. by_steps fs t u hs o.2 l) gs tomb other k

-- ---- one step

tell-ordered : (tomb : Option Tomb) (a : Frag) (l : List Frag) → IsInner a → StandsBefore (place_of a) l → IsOrdered l → IsOrdered (tell tomb a l)
tell-ordered tomb a l i b o = elim (changes_nothing tomb a) as (λ c. IsOrdered (cond c l (a ∷ l))) [ true ↦ o | false ↦ (i, b, o) ]

tell-before : (q : Place) (tomb : Option Tomb) (a : Frag) (l : List Frag) → Lt q (place_of a) → StandsBefore q l → StandsBefore q (tell tomb a l)
tell-before q tomb a l h b = elim (changes_nothing tomb a) as (λ c. StandsBefore q (cond c l (a ∷ l))) [ true ↦ b | false ↦ (h, b) ]

tell-telling : (tomb : Option Tomb) (a : Frag) (l : List Frag) → IsTelling (tomb_after tomb a) l → IsTelling tomb (tell tomb a l)
tell-telling tomb a l h =
    elim (changes_nothing tomb a) as (λ c. changes_nothing tomb a ≡ c → IsTelling tomb (cond c l (a ∷ l))) [
      | true ↦ λ e. subst (λ t. IsTelling t l) (nothing-after tomb a e) h
      | false ↦ λ e. (e, h)
    ] refl

nothing-rows : (tomb : Option Tomb) (x : Pos) (a : Frag) → changes_nothing tomb a ≡ true → row_at x a ≡ []
nothing-rows tomb x (frag.Start pt) e = refl
nothing-rows tomb x (frag.Static row) e = refl
nothing-rows tomb x (frag.Row key row) e = absurd (cc)
nothing-rows tomb x (frag.Change from next) e = refl
nothing-rows tomb x frag.End e = refl

tell-rows : (x : Pos) (tomb : Option Tomb) (a : Frag) (l : List Frag) → rows_here x (tell tomb a l) ≡ row_at x a ++ rows_here x l
tell-rows x tomb a l =
    elim (changes_nothing tomb a) as (λ c. changes_nothing tomb a ≡ c → rows_here x (cond c l (a ∷ l)) ≡ row_at x a ++ rows_here x l) [
      | true ↦ λ e. ap (λ rs. rs ++ rows_here x l) (sym (nothing-rows tomb x a e))
      | false ↦ λ e. refl
    ] refl

tell-force : (x : Pos) (tomb : Option Tomb) (a : Frag) (l : List Frag) → (is_passed x a ≡ false → force x (tomb_after tomb a) l ≡ tomb_after tomb a) → force x tomb (tell tomb a l) ≡ cond (is_passed x a) (force x (tomb_after tomb a) l) tomb
tell-force x tomb a l h =
    elim (changes_nothing tomb a) as (λ c. changes_nothing tomb a ≡ c → force x tomb (cond c l (a ∷ l)) ≡ cond (is_passed x a) (force x (tomb_after tomb a) l) tomb) [
      | true ↦ λ e.
          elim (is_passed x a) as (λ p. is_passed x a ≡ p → force x tomb l ≡ cond p (force x (tomb_after tomb a) l) tomb) [
            | true ↦ λ p. ap (λ t. force x t l) (sym (nothing-after tomb a e))
            | false ↦ λ p. ap (λ t. force x t l) (sym (nothing-after tomb a e)) ∙ h p ∙ nothing-after tomb a e
          ] refl
      | false ↦ λ e. refl
    ] refl

-- ---- what two lists merged say

-- the rows at x as one, where there are any
abbrev pub one_row : List Row → List Row
one_row rows = option_to_list (joined_if_any rows)

-- a list is what two ordered ones say together
pub record Says (tomb : Option Tomb) (fs : List Frag) (other : Option Tomb) (gs made : List Frag) : Type 0 where
  pub ordered : IsOrdered made
  pub telling : IsTelling (greater tomb_cmp tomb other) made
  pub before : (q : Place) → StandsBefore q fs → StandsBefore q gs → StandsBefore q made
  pub rows : (x : Pos) → rows_here x made ≡ one_row (rows_here x fs ++ rows_here x gs)
  pub tombs : (x : Pos) → force x (greater tomb_cmp tomb other) made ≡ greater tomb_cmp (force x tomb fs) (force x other gs)

-- a fragment a, where something like f stands
pub record Alike (f a : Frag) : Type 0 where
  pub inner : IsInner a
  pub place : place_of a ≡ place_of f
  pub passed : (x : Pos) → is_passed x a ≡ is_passed x f

beside-alike : (other : Option Tomb) (f : Frag) → IsInner f → Alike f (beside other f)
beside-alike other (frag.Start pt) i = absurd i
beside-alike other (frag.Static row) i = absurd i
beside-alike other (frag.Row key row) i = record { inner = i; place = refl; passed = λ x. refl }
beside-alike other (frag.Change from next) i = record { inner = tt; place = refl; passed = λ x. refl }
beside-alike other frag.End i = absurd i

theirs-alike : (tomb : Option Tomb) (f : Frag) → IsInner f → Alike f (beside_theirs tomb f)
theirs-alike tomb (frag.Start pt) i = absurd i
theirs-alike tomb (frag.Static row) i = absurd i
theirs-alike tomb (frag.Row key row) i = record { inner = i; place = refl; passed = λ x. refl }
theirs-alike tomb (frag.Change from next) i = record { inner = tt; place = refl; passed = λ x. refl }
theirs-alike tomb frag.End i = absurd i

together-alike : (f g : Frag) → IsInner f → Alike f (together f g)
together-alike (frag.Start pt) g i = absurd i
together-alike (frag.Static row) g i = absurd i
together-alike (frag.Row key row) (frag.Start pt) i = record { inner = i; place = refl; passed = λ x. refl }
together-alike (frag.Row key row) (frag.Static s) i = record { inner = i; place = refl; passed = λ x. refl }
together-alike (frag.Row key row) (frag.Row key' row') i = record { inner = IsRow-joined_row (row ∷ row' ∷ []); place = refl; passed = λ x. refl }
together-alike (frag.Row key row) (frag.Change from next) i = record { inner = i; place = refl; passed = λ x. refl }
together-alike (frag.Row key row) frag.End i = record { inner = i; place = refl; passed = λ x. refl }
together-alike (frag.Change from next) (frag.Start pt) i = record { inner = tt; place = refl; passed = λ x. refl }
together-alike (frag.Change from next) (frag.Static s) i = record { inner = tt; place = refl; passed = λ x. refl }
together-alike (frag.Change from next) (frag.Row key row) i = record { inner = tt; place = refl; passed = λ x. refl }
together-alike (frag.Change from next) (frag.Change from' next') i = record { inner = tt; place = refl; passed = λ x. refl }
together-alike (frag.Change from next) frag.End i = record { inner = tt; place = refl; passed = λ x. refl }
together-alike frag.End g i = absurd i

-- a step: f' stands at the place of f, and of g; what is left of both says as L
module _ (tomb other : Option Tomb) (fs gs : List Frag) (tomb' other' : Option Tomb) (fs' gs' : List Frag) (f a : Frag) (made : List Frag) where
  next-says :
      IsInner f → Alike f a →
      tomb_after (greater tomb_cmp tomb other) a ≡ greater tomb_cmp tomb' other' →
      StandsBefore (place_of f) fs' → StandsBefore (place_of f) gs' →
      ((q : Place) → StandsBefore q fs → StandsBefore q gs → Lt q (place_of f) × StandsBefore q fs' × StandsBefore q gs') →
      ((x : Pos) → row_at x a ++ one_row (rows_here x fs' ++ rows_here x gs') ≡ one_row (rows_here x fs ++ rows_here x gs)) →
      ((x : Pos) → cond (is_passed x f) (greater tomb_cmp (force x tomb' fs') (force x other' gs')) (greater tomb_cmp tomb other) ≡ greater tomb_cmp (force x tomb fs) (force x other gs)) →
      Says tomb' fs' other' gs' made → Says tomb fs other gs (tell (greater tomb_cmp tomb other) a made)
  next-says i like now bf bg through rows tombs s =
      let t = greater tomb_cmp tomb other in
      let behind : StandsBefore (place_of a) made = subst (λ p. StandsBefore p made) (sym like.place) (s.before (place_of f) bf bg) in
      let left : IsTelling (tomb_after t a) made = subst (λ u. IsTelling u made) (sym now) s.telling in
      record {
        ordered = tell-ordered t a made like.inner behind s.ordered;
        telling = tell-telling t a made left;
        before = λ q b c. (let th = through q b c in tell-before q t a made (subst (λ p. Lt q p) (sym like.place) th.0) (s.before q th.1 th.2));
        rows = λ x. tell-rows x t a made ∙ ap (λ rs. row_at x a ++ rs) (s.rows x) ∙ rows x;
        tombs = λ x.
            tell-force x t a made (λ e. stop x (place_of a) (tomb_after t a) made s.ordered behind (unpassed x a like.inner e))
            ∙ ap (λ u. cond (is_passed x a) (force x u made) t) now
            ∙ ap (λ u. cond (is_passed x a) u t) (s.tombs x)
            ∙ ap (λ b. cond b (greater tomb_cmp (force x tomb' fs') (force x other' gs')) t) (like.passed x)
            ∙ tombs x;
      }

level : (x y : Pos) → x ≡ y → is_lt (place_order (y, 1) (x, 1)) ≡ false
level x y e = ap (λ z. is_lt (place_order (y, 1) (z, 1))) e ∙ irreflexive (y, 1)

lone : (row : Row) → IsInner (frag.Row [] row) → row ∷ [] ≡ one_row (row ∷ [])
lone row i = ap (λ r. r ∷ []) (sym (joined_row-one row i))

ours-rows : (x : Pos) (other : Option Tomb) (f : Frag) (fs gs : List Frag) → IsOrdered (f ∷ fs) → IsOrdered gs → StandsBefore (place_of f) gs → row_at x (beside other f) ++ one_row (rows_here x fs ++ rows_here x gs) ≡ one_row (rows_here x (f ∷ fs) ++ rows_here x gs)
ours-rows x other (frag.Start pt) fs gs o k b = refl
ours-rows x other (frag.Static row) fs gs o k b = refl
ours-rows x other (frag.Row key row) fs gs o k b =
    elim (eq_by_cmp pos_cmp x (row_pos key)) as (λ c. eq_by_cmp pos_cmp x (row_pos key) ≡ c → cond c (row ∷ []) [] ++ one_row (rows_here x fs ++ rows_here x gs) ≡ one_row ((cond c (row ∷ []) [] ++ rows_here x fs) ++ rows_here x gs)) [
      | true ↦ λ e.
          let at = level x (row_pos key) (same_pos x (row_pos key) e) in
          let ours : rows_here x fs ≡ [] = no_rows x (row_pos key, 1) fs o.2 o.1 at in
          let theirs : rows_here x gs ≡ [] = no_rows x (row_pos key, 1) gs k b at in
          ap (λ rs. row ∷ one_row (rs ++ rows_here x gs)) ours
          ∙ ap (λ rs. row ∷ one_row rs) theirs
          ∙ lone row o.0
          ∙ ap (λ rs. one_row (row ∷ rs)) (sym theirs)
          ∙ ap (λ rs. one_row ((row ∷ rs) ++ rows_here x gs)) (sym ours)
      | false ↦ λ e. refl
    ] refl
ours-rows x other (frag.Change from next) fs gs o k b = refl
ours-rows x other frag.End fs gs o k b = refl

theirs-rows : (x : Pos) (tomb : Option Tomb) (g : Frag) (fs gs : List Frag) → IsOrdered fs → IsOrdered (g ∷ gs) → StandsBefore (place_of g) fs → row_at x (beside_theirs tomb g) ++ one_row (rows_here x fs ++ rows_here x gs) ≡ one_row (rows_here x fs ++ rows_here x (g ∷ gs))
theirs-rows x tomb (frag.Start pt) fs gs o k b = refl
theirs-rows x tomb (frag.Static row) fs gs o k b = refl
theirs-rows x tomb (frag.Row key row) fs gs o k b =
    elim (eq_by_cmp pos_cmp x (row_pos key)) as (λ c. eq_by_cmp pos_cmp x (row_pos key) ≡ c → cond c (row ∷ []) [] ++ one_row (rows_here x fs ++ rows_here x gs) ≡ one_row (rows_here x fs ++ (cond c (row ∷ []) [] ++ rows_here x gs))) [
      | true ↦ λ e.
          let at = level x (row_pos key) (same_pos x (row_pos key) e) in
          let ours : rows_here x fs ≡ [] = no_rows x (row_pos key, 1) fs o b at in
          let theirs : rows_here x gs ≡ [] = no_rows x (row_pos key, 1) gs k.2 k.1 at in
          ap (λ rs. row ∷ one_row (rs ++ rows_here x gs)) ours
          ∙ ap (λ rs. row ∷ one_row rs) theirs
          ∙ lone row k.0
          ∙ ap (λ rs. one_row (row ∷ rs)) (sym theirs)
          ∙ ap (λ rs. one_row (rs ++ (row ∷ rows_here x gs))) (sym ours)
      | false ↦ λ e. refl
    ] refl
theirs-rows x tomb (frag.Change from next) fs gs o k b = refl
theirs-rows x tomb frag.End fs gs o k b = refl

both-rows : (x : Pos) (f g : Frag) (fs gs : List Frag) → IsOrdered (f ∷ fs) → IsOrdered (g ∷ gs) → place_of f ≡ place_of g → row_at x (together f g) ++ one_row (rows_here x fs ++ rows_here x gs) ≡ one_row (rows_here x (f ∷ fs) ++ rows_here x (g ∷ gs))
both-rows x (frag.Start pt) g fs gs o k e = absurd o.0
both-rows x (frag.Static row) g fs gs o k e = absurd o.0
both-rows x (frag.Row key row) (frag.Start pt) fs gs o k e = absurd k.0
both-rows x (frag.Row key row) (frag.Static s) fs gs o k e = absurd k.0
both-rows x (frag.Row key row) (frag.Row key' row') fs gs o k e =
    let same : row_pos key ≡ row_pos key' = ap (λ (p : Place). p.0) e in
    elim (eq_by_cmp pos_cmp x (row_pos key)) as (λ c. eq_by_cmp pos_cmp x (row_pos key) ≡ c → cond c (joined_row (row ∷ row' ∷ []) ∷ []) [] ++ one_row (rows_here x fs ++ rows_here x gs) ≡ one_row ((cond c (row ∷ []) [] ++ rows_here x fs) ++ (cond c (row' ∷ []) [] ++ rows_here x gs))) [
      | true ↦ λ t.
          let at = level x (row_pos key) (same_pos x (row_pos key) t) in
          let ours : rows_here x fs ≡ [] = no_rows x (row_pos key, 1) fs o.2 o.1 at in
          let theirs : rows_here x gs ≡ [] = no_rows x (row_pos key, 1) gs k.2 (subst (λ p. StandsBefore p gs) (sym e) k.1) at in
          ap (λ rs. joined_row (row ∷ row' ∷ []) ∷ one_row (rs ++ rows_here x gs)) ours
          ∙ ap (λ rs. joined_row (row ∷ row' ∷ []) ∷ one_row rs) theirs
          ∙ ap (λ rs. one_row (row ∷ row' ∷ rs)) (sym theirs)
          ∙ ap (λ rs. one_row ((row ∷ rs) ++ (row' ∷ rows_here x gs))) (sym ours)
      | false ↦ λ t. refl
    ] refl
    ∙ ap (λ y. one_row (rows_here x (frag.Row key row ∷ fs) ++ (cond (eq_by_cmp pos_cmp x y) (row' ∷ []) [] ++ rows_here x gs))) same
both-rows x (frag.Row key row) (frag.Change from next) fs gs o k e = absurd (other_rank (row_pos key) from e)
both-rows x (frag.Row key row) frag.End fs gs o k e = absurd k.0
both-rows x (frag.Change from next) (frag.Start pt) fs gs o k e = absurd k.0
both-rows x (frag.Change from next) (frag.Static s) fs gs o k e = absurd k.0
both-rows x (frag.Change from next) (frag.Row key row) fs gs o k e = absurd (other_rank (row_pos key) from (sym e))
both-rows x (frag.Change from next) (frag.Change from' next') fs gs o k e = refl
both-rows x (frag.Change from next) frag.End fs gs o k e = absurd k.0
both-rows x frag.End g fs gs o k e = absurd o.0

pub same-passed : (x : Pos) (f g : Frag) → IsInner f → IsInner g → place_of f ≡ place_of g → is_passed x f ≡ is_passed x g
same-passed x (frag.Start pt) g i j e = absurd i
same-passed x (frag.Static row) g i j e = absurd i
same-passed x (frag.Row key row) (frag.Start pt) i j e = absurd j
same-passed x (frag.Row key row) (frag.Static s) i j e = absurd j
same-passed x (frag.Row key row) (frag.Row key' row') i j e = ap (λ (p : Place). is_lt (pos_cmp p.0 x)) e
same-passed x (frag.Row key row) (frag.Change from next) i j e = absurd (other_rank (row_pos key) from e)
same-passed x (frag.Row key row) frag.End i j e = absurd j
same-passed x (frag.Change from next) (frag.Start pt) i j e = absurd j
same-passed x (frag.Change from next) (frag.Static s) i j e = absurd j
same-passed x (frag.Change from next) (frag.Row key row) i j e = absurd (other_rank (row_pos key) from (sym e))
same-passed x (frag.Change from next) (frag.Change from' next') i j e = ap (λ (p : Place). is_le (pos_cmp p.0 x)) e
same-passed x (frag.Change from next) frag.End i j e = absurd j
same-passed x frag.End g i j e = absurd i

abbrev Merges : Option Tomb → List Frag → Option Tomb → List Frag → Type 0
Merges tomb fs other gs = Says tomb fs other gs (merged_left tomb fs other gs)

none-says : (tomb other : Option Tomb) → Merges tomb [] other []
none-says tomb other = subst (Says tomb [] other []) (sym (step-none tomb other)) (record { ordered = tt; telling = tt; before = λ q b c. tt; rows = λ x. refl; tombs = λ x. refl })

ours-says : (tomb other : Option Tomb) (f : Frag) (fs gs : List Frag) → IsOrdered (f ∷ fs) → IsOrdered gs → StandsBefore (place_of f) gs → Merges (tomb_after tomb f) fs other gs → Merges tomb (f ∷ fs) other gs
ours-says tomb other f fs gs o k b s =
    subst (Says tomb (f ∷ fs) other gs) (sym (step-ours tomb other f fs gs o k b))
    (next-says tomb other (f ∷ fs) gs (tomb_after tomb f) other fs gs f (beside other f) (merged_left (tomb_after tomb f) fs other gs) o.0 (beside-alike other f o.0) (after-beside tomb other f) o.1 b
    (λ q c d. (c.0, c.1, d))
    (λ x. ours-rows x other f fs gs o k b)
    (λ x. elim (is_passed x f) as (λ c. is_passed x f ≡ c → cond c (greater tomb_cmp (force x (tomb_after tomb f) fs) (force x other gs)) (greater tomb_cmp tomb other) ≡ greater tomb_cmp (cond c (force x (tomb_after tomb f) fs) tomb) (force x other gs)) [
      | true ↦ λ e. refl
      | false ↦ λ e. ap (greater tomb_cmp tomb) (sym (stop x (place_of f) other gs k b (unpassed x f o.0 e)))
    ] refl)
    s)

theirs-says : (tomb other : Option Tomb) (g : Frag) (fs gs : List Frag) → IsOrdered fs → IsOrdered (g ∷ gs) → StandsBefore (place_of g) fs → Merges tomb fs (tomb_after other g) gs → Merges tomb fs other (g ∷ gs)
theirs-says tomb other g fs gs o k b s =
    subst (Says tomb fs other (g ∷ gs)) (sym (step-theirs tomb other g fs gs o k b))
    (next-says tomb other fs (g ∷ gs) tomb (tomb_after other g) fs gs g (beside_theirs tomb g) (merged_left tomb fs (tomb_after other g) gs) k.0 (theirs-alike tomb g k.0) (after-theirs tomb other g) b k.1
    (λ q c d. (d.0, c, d.1))
    (λ x. theirs-rows x tomb g fs gs o k b)
    (λ x. elim (is_passed x g) as (λ c. is_passed x g ≡ c → cond c (greater tomb_cmp (force x tomb fs) (force x (tomb_after other g) gs)) (greater tomb_cmp tomb other) ≡ greater tomb_cmp (force x tomb fs) (cond c (force x (tomb_after other g) gs) other)) [
      | true ↦ λ e. refl
      | false ↦ λ e. ap (λ t. greater tomb_cmp t other) (sym (stop x (place_of g) tomb fs o b (unpassed x g k.0 e)))
    ] refl)
    s)

both-say : (tomb other : Option Tomb) (f g : Frag) (fs gs : List Frag) → IsOrdered (f ∷ fs) → IsOrdered (g ∷ gs) → place_order (place_of f) (place_of g) ≡ Equal → Merges (tomb_after tomb f) fs (tomb_after other g) gs → Merges tomb (f ∷ fs) other (g ∷ gs)
both-say tomb other f g fs gs o k e s =
    let one = place_same (place_of f) (place_of g) e in
    subst (Says tomb (f ∷ fs) other (g ∷ gs)) (sym (step-together tomb other f g fs gs o k e))
    (next-says tomb other (f ∷ fs) (g ∷ gs) (tomb_after tomb f) (tomb_after other g) fs gs f (together f g) (merged_left (tomb_after tomb f) fs (tomb_after other g) gs) o.0 (together-alike f g o.0) (after-together tomb other f g o.0 k.0 one) o.1 (subst (λ p. StandsBefore p gs) (sym one) k.1)
    (λ q c d. (c.0, c.1, d.1))
    (λ x. both-rows x f g fs gs o k one)
    (λ x.
    elim (is_passed x f) as (λ c. cond c (greater tomb_cmp (force x (tomb_after tomb f) fs) (force x (tomb_after other g) gs)) (greater tomb_cmp tomb other) ≡ greater tomb_cmp (cond c (force x (tomb_after tomb f) fs) tomb) (cond c (force x (tomb_after other g) gs) other)) [ true ↦ refl | false ↦ refl ]
    ∙ ap (λ c. greater tomb_cmp (force x tomb (f ∷ fs)) (cond c (force x (tomb_after other g) gs) other)) (same-passed x f g o.0 k.0 one))
    s)

pub merged-says : (tomb other : Option Tomb) (fs gs : List Frag) → IsOrdered fs → IsOrdered gs → Says tomb fs other gs (merged_left tomb fs other gs)
merged-says tomb other fs gs o k = by_steps Merges none-says ours-says theirs-says both-say fs tomb other gs o k
