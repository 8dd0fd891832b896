-- What was read below is taken: where the reader stands then, and what is due.
use Rattle.std.specs.Prelude.{◌≡◌, ◌≢◌, ◌⊎◌, Bool, true, false, cond, List, [], ◌∷◌, ◌++◌, Option, Some, None, Ok, IfSome, IsTrue}
use Rattle.std.proofs.Common.{refl, sym, ap, ◌∙◌, subst, inl, inr}
use Rattle.rc_cell.specs.declared.rows.Row.{Row}
use Rattle.rc_cell.specs.declared.writes.Tomb.{Tomb}
use Rattle.rc_cell.specs.Winner.{empty_row}
use Rattle.rc_position.specs.declared.comps.Comp.{Comp}
use Rattle.rc_position.specs.declared.positions.Pos.{Pos}
use Rattle.rc_position.specs.Position.{IsBefore, row_pos}
use Rattle.rc_mutation.specs.declared.fragments.Frag.{Frag}
use Rattle.rc_mutation.specs.declared.fragments.Frag.TheVariants as frag
use Rattle.rc_mutation.specs.declared.mutations.Mutation.{Mutation}
use Rattle.rc_stream.specs.Merging.{same_tomb}
use Rattle.rc_stream.specs.Places.{Passes, Reaches}
use Rattle.rc_stream.specs.Snapshot.{SayThere, There}
use Rattle.rc_stream.specs.Stream.{Stream, first_upto, is_upto, took}
use Rattle.rc_cacheread.specs.declared.readers.Stage.{Stage}
use Rattle.rc_cacheread.specs.declared.readers.Stage.TheVariants.{Away, Sought, Within}
use Rattle.rc_cacheread.specs.declared.spots.RowAt.TheVariants as row
use Rattle.rc_cacheread.specs.declared.spots.Spot.{Spot}
use Rattle.rc_cacheread.specs.declared.spots.Step.{Step}
use Rattle.rc_cacheread.specs.declared.spots.Step.TheVariants as step
use Rattle.rc_cacheread.specs.calls.Below.{IsChangeTaken, IsBesidePlace, Tells, TellsHere, TookChange, TookFound, TookHere, TookNothing, TookRow, TookRowHere, found_of, near_of}
use Rattle.rc_cacheread.specs.Reading.{behind_row, said_at}
use Rattle.rc_cacheread.specs.Sharing.{Fits, IsPlaceAt, Leads}
use Rattle.rc_cacheread.specs.Spots.{again_due, past_row, change_place, due_change, front, row_due, since_or, stand, tomb_told, told_or}
use Rattle.rc_cacheread.specs.calls.Spots.{HasNothingDue}
use Rattle.rc_cacheread.proofs.Idle.{idle-front, idle-stand}
use Rattle.rc_cacheread.proofs.Lists.{behind-its-row, change_if, same-tombs, untrue}
use Rattle.rc_cacheread.specs.laws.Orders.{before-reaches, never-before, reach-through, same-place}
use Rattle.rc_cacheread.proofs.Orders.{before-reach, near-is, near-on, near-row, near-within, reach-itself}
use Rattle.rc_cacheread.proofs.Outcomes.{Outcome, before-outcome, change-before, change-here, change-outcome, empty-here, empty-outcome, end-outcome, none-here, other-here, outcome-at, row-before, row-here, row-outcome, upto-outcome}
use Rattle.rc_cacheread.proofs.Streams.{first-change, first-row, nothing-says}

pub append-none : (xs : List Frag) → xs ++ [] ≡ xs
append-none [] = refl
append-none (x ∷ xs) = ap (λ l. x ∷ l) (append-none xs)

-- where nothing but place and row changed, the row alone is due
pub front-elsewhere : (s t : Spot) → HasNothingDue s → IsBesidePlace s t → front t ≡ row_due t.row t.place.prefix
front-elsewhere s t i e =
    ap (λ a. again_due a t.told ++ (due_change t ++ row_due t.row t.place.prefix)) (e.1 ∙ i.again)
    ∙ ap (λ b. cond b [] (frag.Change (change_place t) t.tomb ∷ []) ++ row_due t.row t.place.prefix) (ap (λ z. same_tomb z t.tomb) e.0 ∙ ap (same_tomb s.told) e.2 ∙ i.told)

pub told-elsewhere : (s t : Spot) → t.told ≡ s.told → t.again ≡ s.again → tomb_told t ≡ tomb_told s
told-elsewhere s t u a = ap (λ z. told_or z t.told) a ∙ ap (told_or s.again) u

-- where another tombstone is in force from the place on, the change to it is due
pub front-changed : (s t : Spot) (next : Option Tomb) → HasNothingDue s → t.told ≡ s.told → t.again ≡ s.again → t.tomb ≡ next → t.since ≡ None → front t ≡ change_if t.place s.tomb next ++ row_due t.row t.place.prefix
front-changed s t next i u a m n =
    ap (λ z. again_due z t.told ++ (due_change t ++ row_due t.row t.place.prefix)) (a ∙ i.again)
    ∙ ap (λ z. cond (same_tomb z t.tomb) [] (frag.Change (change_place t) t.tomb ∷ []) ++ row_due t.row t.place.prefix) (u ∙ same-tombs s.told s.tomb i.told)
    ∙ ap (λ z. cond (same_tomb s.tomb t.tomb) [] (frag.Change (since_or z t.place) t.tomb ∷ []) ++ row_due t.row t.place.prefix) n
    ∙ ap (λ z. cond (same_tomb s.tomb z) [] (frag.Change t.place z ∷ []) ++ row_due t.row t.place.prefix) m

-- what a step came to
abbrev pub Came : (seen : Stream → Type 0) (a : Stage) (s t : Spot) (to upto : Pos) → Step → Type 0
Came seen a s t to upto z = (z ≡ step.Passed) ⊎ ((z ≡ step.Nothing) × (front t ≡ []) × (stand t ≡ upto) × (t.tomb ≡ s.tomb) × IsBefore upto to × ((u : Stream) → seen u → Fits a (stand s) s.tomb u → said_at upto u.tomb u.left ≡ (empty_row, s.tomb)))

-- where the reader stands after something was read below
pub record Gone (S : Pos → There → Type 0) (seen now : Stream → Type 0) (to upto : Pos) (a : Stage) (s : Spot) (b : Stage) (t : Spot) (got : Option Frag) (z : Step) : Type 0 where
  pub on : Reaches (stand s) (stand t)
  pub told : tomb_told t ≡ tomb_told s
  pub outcome : Outcome S seen now to a (stand s) s.tomb b (stand t) t.tomb (front t)
  pub passes : (x : Pos) → Reaches (stand t) x → Passes (Ok got) x
  pub came : Came seen a s t to upto z

-- ---- what may be filled

pub tells : (writes : List Mutation) (seen : Stream → Type 0) (x upto end to : Pos) (u : Option Tomb) (got : Option Frag) → Leads writes seen Within x to u → Reaches end to → ((t : Stream) → seen t → got ≡ first_upto (near_of upto end) t.left) → IfSome got (λ f. IsTrue (is_upto (near_of upto end) f)) → Tells (SayThere writes) x (near_of upto end) end u (found_of got)
tells writes seen x upto end to u None l e g k = λ y h n b. l.each y (empty_row, u) h (before-reaches y end to b e) (λ t s f. sym (nothing-says (near_of upto end) y x u t f (sym (g t s)) n))
tells writes seen x upto end to u (Some (frag.Start pt)) l e g k = untrue (sym k)
tells writes seen x upto end to u (Some (frag.Static r)) l e g k = untrue (sym k)
tells writes seen x upto end to u (Some (frag.Row key r)) l e g k =
    let near = near_of upto end in
    let z = row_pos key in
    let b : IsBefore z to = before-reaches z end to (near-row key upto end k) e in (
      λ y h c. l.each y (empty_row, u) h (before-reaches y z to c (before-reach z to b)) (λ t s f. sym ((first-row key r x near u t f (sym (g t s))).before y c)),
      λ h. l.each z (r, u) h b (λ t s f. sym (first-row key r x near u t f (sym (g t s))).there_is),
    )
tells writes seen x upto end to u (Some (frag.Change from next)) l e g k =
    let near = near_of upto end in
    let on : Reaches from to = reach-through from near to k (reach-through near end to (near-within upto end) e) in
    λ y h c. l.each y (empty_row, u) h (before-reaches y from to c on) (λ t s f. sym ((first-change from next x near u t f (sym (g t s))).before y c))
tells writes seen x upto end to u (Some frag.End) l e g k = untrue (sym k)

-- ---- behind the place

module _ (S : Pos → There → Type 0) (seen now : Stream → Type 0) (to upto end : Pos) (s t : Spot) (i : HasNothingDue s) (b : Stage) (e : Reaches end to) (near : Reaches s.place upto) (inside : IsBefore s.place end) where
  abbrev N : Pos
  N = near_of upto end

  abbrev Result : Option Frag → Step → Type 0
  Result got z = Gone S seen now to upto Within s b t got z

  abbrev Given : Option Frag → Type 0
  Given got = (u : Stream) → seen u → got ≡ first_upto N u.left

  abbrev On : Option Frag → Type 0
  On got = (u : Stream) → seen u → now (took got u)

  P : stand s ≡ s.place
  P = idle-stand s i

  unread : stand t ≡ past_row t.row t.place
  unread = refl

  at-place : (x : Pos) → t.place ≡ x → t.row ≡ s.row → stand t ≡ x
  at-place x p r = ap (λ z. past_row z t.place) (r ∙ i.row) ∙ p

  none-due : IsBesidePlace s t → t.row ≡ s.row → front t ≡ []
  none-due o r = front-elsewhere s t i o ∙ ap (λ z. row_due z t.place.prefix) (r ∙ i.row)

  put : (got : Option Frag) (z : Step) (b' : Stage) (y : Pos) (v : Option Tomb) (due : List Frag) → b ≡ b' → stand t ≡ y → t.tomb ≡ v → front t ≡ due → Reaches s.place y → tomb_told t ≡ tomb_told s → Outcome S seen now to Within s.place s.tomb b' y v due → ((x : Pos) → Reaches y x → Passes (Ok got) x) → Came seen Within s t to upto z → Result got z
  put got z b' y v due p q m f on u o pass came = record {
    on = subst (λ (w : Pos × Pos). Reaches w.0 w.1) (λ j. (sym P j, sym q j)) on;
    told = u;
    outcome = subst (λ x. Outcome S seen now to Within x s.tomb b (stand t) t.tomb (front t)) (sym P) (outcome-at S seen now to Within s.place s.tomb b' b y (stand t) v t.tomb due (front t) p q m f o);
    passes = λ x h. pass x (subst (λ w. Reaches w x) q h);
    came = came;
  }

  gone-row : (key : List Comp) (r : Row) (z : Step) → Given (Some (frag.Row key r)) → On (Some (frag.Row key r)) → Reaches (row_pos key) N → TookRow key r s t → b ≡ Within → z ≡ step.Passed → Result (Some (frag.Row key r)) z
  gone-row key r z g n k (inl (q, c)) p w =
      put (Some (frag.Row key r)) z Within s.place s.tomb [] p (ap stand q ∙ P) (ap (λ (o : Spot). o.tomb) q) (ap front q ∙ idle-front s i) (reach-itself s.place) (ap tomb_told q)
      (row-before S seen now to s.place N s.tomb key r Within refl g (λ h. never-before (row_pos key) s.place h c))
      (λ x h. reach-through (row_pos key) s.place x (before-reach (row_pos key) s.place c) h)
      (inl w)
  gone-row key r z g n k (inr (h, q, o, inl (d, l))) p w =
      put (Some (frag.Row key r)) z Within (row_pos key) s.tomb [] p (at-place (row_pos key) q l) o.2 (none-due o l) h (told-elsewhere s t o.0 o.1)
      (empty-outcome S seen now to s.place N s.tomb key r g n h (before-reaches (row_pos key) end to (near-row key upto end k) e) d)
      (λ x m. m)
      (inl w)
  gone-row key r z g n k (inr (h, q, o, inr (d, l))) p w =
      put (Some (frag.Row key r)) z Within (behind_row key) s.tomb (frag.Row key r ∷ []) p (λ j. past_row (l j) (q j)) o.2 (front-elsewhere s t i o ∙ (λ j. row_due (l j) (q j).prefix)) (reach-through s.place (row_pos key) (behind_row key) h (before-reach (row_pos key) (behind_row key) (behind-its-row key))) (told-elsewhere s t o.0 o.1)
      (row-outcome S seen now to s.place N s.tomb key r g n h (before-reaches (row_pos key) end to (near-row key upto end k) e) d)
      (λ x m. reach-through (row_pos key) (behind_row key) x (before-reach (row_pos key) (behind_row key) (behind-its-row key)) m)
      (inl w)

  gone-end : (got : Option Frag) (z : Step) → TookNothing end s t → b ≡ Away → Outcome S seen now to Within s.place s.tomb Away end s.tomb [] → ((x : Pos) → Reaches end x → Passes (Ok got) x) → z ≡ step.Passed → Result got z
  gone-end got z (q, l, o) p out pass w = put got z Away end s.tomb [] p (at-place end q l) o.2 (none-due o l) (before-reach s.place end inside) (told-elsewhere s t o.0 o.1) out pass (inl w)

  gone-change : (from : Pos) (next : Option Tomb) (z : Step) → Given (Some (frag.Change from next)) → On (Some (frag.Change from next)) → IsBefore from end → TookChange from next s t → b ≡ Within → z ≡ step.Passed → Result (Some (frag.Change from next)) z
  gone-change from next z g n k (inl (q, c)) p w =
      put (Some (frag.Change from next)) z Within s.place s.tomb [] p (ap stand q ∙ P) (ap (λ (o : Spot). o.tomb) q) (ap front q ∙ idle-front s i) (reach-itself s.place) (ap tomb_told q)
      (change-before S seen now to s.place N s.tomb from next g (λ h. never-before from s.place h c))
      (λ x h. reach-through from s.place x (before-reach from s.place c) h)
      (inl w)
  gone-change from next z g n k (inr (h, q, l, u, a, m, v)) p w =
      put (Some (frag.Change from next)) z Within from next (change_if from s.tomb next) p (at-place from q l) m (front-changed s t next i u a m v ∙ ap (λ r. change_if t.place s.tomb next ++ row_due r t.place.prefix) (l ∙ i.row) ∙ append-none (change_if t.place s.tomb next) ∙ ap (λ y. change_if y s.tomb next) q) h (told-elsewhere s t u a)
      (change-outcome S seen now to s.place N s.tomb from next g n h (before-reaches from end to k e))
      (λ x d. d)
      (inl w)

  pub gone : (got : Option Frag) (a : Stage) (z : Step) → a ≡ Within → Given got → IfSome got (λ f. IsTrue (is_upto N f)) → On got → TookFound (found_of got) N end upto s t a b z → Result got z
  gone None a z w g k n (inl (h, o, p, q)) =
      gone-end None z o p (end-outcome S seen now to s.place N s.tomb end g n (before-reach s.place end inside) e (λ y c. near-on y upto end (reach-through y end upto (before-reach y end c) h) c)) (λ x d. tt) q
  gone None a z w g k n (inr (h, o, p, q)) =
      let same : N ≡ upto = same-place N upto (near-is upto end).0 (near-on upto upto end (reach-itself upto) h) in
      let c : IsBefore upto to = before-reaches upto end to h e in
      put None z Within N s.tomb [] (p ∙ w) (at-place N o.0 o.1) o.2.2 (none-due o.2 o.1) (near-on s.place upto end near inside) (told-elsewhere s t o.2.0 o.2.1)
      (upto-outcome S seen now to s.place N s.tomb g n (near-on s.place upto end near inside) (subst (λ y. IsBefore y to) (sym same) c))
      (λ x d. tt)
      (inr (q, none-due o.2 o.1, at-place N o.0 o.1 ∙ same, o.2.2, c, λ u m f. nothing-says N upto (stand s) s.tomb u f (sym (g u m)) (near-on upto upto end (reach-itself upto) h)))
  gone (Some (frag.Start pt)) a z w g k n o = untrue (sym k)
  gone (Some (frag.Static r)) a z w g k n o = untrue (sym k)
  gone (Some (frag.Row key r)) a z w g k n o = gone-row key r z g n k o.0 (o.1 ∙ w) o.2
  gone (Some (frag.Change from next)) a z w g k n (inl (h, o, p), q) = gone-change from next z g n h o (p ∙ w) q
  gone (Some (frag.Change from next)) a z w g k n (inr (h, o, p), q) =
      gone-end (Some (frag.Change from next)) z o p (before-outcome S seen now to s.place N s.tomb end from next g n (before-reach s.place end inside) e h (near-within upto end)) (λ x d. reach-through from end x (reach-through from N end k (near-within upto end)) d) q
  gone (Some frag.End) a z w g k n o = untrue (sym k)

-- ---- at the place itself

pub tells-here : (writes : List Mutation) (seen : Stream → Type 0) (x to : Pos) (u : Option Tomb) (got : Option Frag) → Leads writes seen Sought x to u → IsBefore x to → ((t : Stream) → seen t → got ≡ first_upto x t.left) → TellsHere (SayThere writes) x (found_of got)
tells-here writes seen x to u None l b g = tt
tells-here writes seen x to u (Some (frag.Start pt)) l b g = tt
tells-here writes seen x to u (Some (frag.Static r)) l b g = tt
tells-here writes seen x to u (Some (frag.Row key r)) l b g = λ e. l.each x (r, None) (reach-itself x) b (λ t s f. sym (subst (λ z. said_at z t.tomb t.left ≡ (r, None)) e (first-row key r x x None t f (sym (g t s))).there_is))
tells-here writes seen x to u (Some (frag.Change from next)) l b g = tt
tells-here writes seen x to u (Some frag.End) l b g = tt

module _ (S : Pos → There → Type 0) (seen now : Stream → Type 0) (to upto : Pos) (s t : Spot) (i : HasNothingDue s) (inside : IsBefore s.place to) where
  abbrev Here : Option Frag → Type 0
  Here got = Gone S seen now to upto Sought s Within t got step.Passed

  abbrev GivenHere : Option Frag → Type 0
  GivenHere got = (u : Stream) → seen u → got ≡ first_upto s.place u.left

  abbrev OnHere : Option Frag → Type 0
  OnHere got = (u : Stream) → seen u → now (took got u)

  put-here : (got : Option Frag) (y : Pos) (v : Option Tomb) (due : List Frag) → stand t ≡ y → t.tomb ≡ v → front t ≡ due → Reaches s.place y → tomb_told t ≡ tomb_told s → Outcome S seen now to Sought s.place s.tomb Within y v due → ((x : Pos) → Reaches y x → Passes (Ok got) x) → Here got
  put-here got y v due q m f on u o pass = record {
    on = subst (λ (w : Pos × Pos). Reaches w.0 w.1) (λ j. (sym (idle-stand s i) j, sym q j)) on;
    told = u;
    outcome = subst (λ x. Outcome S seen now to Sought x s.tomb Within (stand t) t.tomb (front t)) (sym (idle-stand s i)) (outcome-at S seen now to Sought s.place s.tomb Within Within y (stand t) v t.tomb due (front t) refl q m f o);
    passes = λ x h. pass x (subst (λ w. Reaches w x) q h);
    came = inl refl;
  }

  here-changed : (got : Option Frag) (next : Option Tomb) → IsChangeTaken next s t → Outcome S seen now to Sought s.place s.tomb Within s.place next (change_if s.place s.tomb next) → ((x : Pos) → Reaches s.place x → Passes (Ok got) x) → Here got
  here-changed got next c o pass =
      put-here got s.place next (change_if s.place s.tomb next) (ap (λ r. past_row r t.place) (c.row ∙ i.row) ∙ c.place) c.now
      (front-changed s t next i c.told c.again c.now c.since ∙ ap (λ r. change_if t.place s.tomb next ++ row_due r t.place.prefix) (c.row ∙ i.row) ∙ append-none (change_if t.place s.tomb next) ∙ ap (λ y. change_if y s.tomb next) c.place)
      (reach-itself s.place) (told-elsewhere s t c.told c.again) o pass

  as-changed : (key : List Comp) (r : Row) → TookRowHere key r s t → t.row ≡ s.row → IsChangeTaken None s t
  as-changed key r c l = record { place = c.place; row = l; told = c.told; again = c.again; now = c.tomb; since = c.since }

  here-row : (key : List Comp) (r : Row) → GivenHere (Some (frag.Row key r)) → OnHere (Some (frag.Row key r)) → Reaches (row_pos key) s.place → (c : TookRowHere key r s t) → ((t.row ≡ s.row) × ((r ≡ empty_row) ⊎ (row_pos key ≢ s.place))) ⊎ ((row_pos key ≡ s.place) × (r ≢ empty_row) × (t.row ≡ row.Due r)) → Here (Some (frag.Row key r))
  here-row key r g n k c (inl (l, inl d)) = here-changed (Some (frag.Row key r)) None (as-changed key r c l) (empty-here S seen now to s.place s.tomb inside key r g n d) (λ x h. reach-through (row_pos key) s.place x k h)
  here-row key r g n k c (inl (l, inr d)) = here-changed (Some (frag.Row key r)) None (as-changed key r c l) (other-here S seen now to s.place s.tomb inside key r g n d) (λ x h. reach-through (row_pos key) s.place x k h)
  here-row key r g n k c (inr (e, d, l)) =
      let at : t.place ≡ row_pos key = c.place ∙ sym e in
      put-here (Some (frag.Row key r)) (behind_row key) None (change_if s.place s.tomb None ++ (frag.Row key r ∷ [])) (λ j. past_row (l j) (at j)) c.tomb
      (front-changed s t None i c.told c.again c.tomb c.since ∙ (λ j. change_if (c.place j) s.tomb None ++ row_due (l j) (at j).prefix))
      (subst (λ z. Reaches z (behind_row key)) e (before-reach (row_pos key) (behind_row key) (behind-its-row key)))
      (told-elsewhere s t c.told c.again)
      (row-here S seen now to s.place s.tomb inside key r g n e d)
      (λ x m. reach-through (row_pos key) (behind_row key) x (before-reach (row_pos key) (behind_row key) (behind-its-row key)) m)

  pub gone-here : (got : Option Frag) → GivenHere got → IfSome got (λ f. IsTrue (is_upto s.place f)) → OnHere got → TookHere (found_of got) s t → Here got
  gone-here None g k n c = here-changed None None c (none-here S seen now to s.place s.tomb inside g n) (λ x h. tt)
  gone-here (Some (frag.Start pt)) g k n c = untrue (sym k)
  gone-here (Some (frag.Static r)) g k n c = untrue (sym k)
  gone-here (Some (frag.Row key r)) g k n c = here-row key r g n k c c.due
  gone-here (Some (frag.Change from next)) g k n c = here-changed (Some (frag.Change from next)) next c (change-here S seen now to s.place s.tomb inside from next g n) (λ x h. reach-through from s.place x k h)
  gone-here (Some frag.End) g k n c = untrue (sym k)

-- ---- where the snapshot lags, and what leads at the place

pub at-on : (b : Bool) (p x y : Pos) → b ≡ true → IsPlaceAt b p x → Reaches x y → IsPlaceAt b p y
at-on true p x y e a h = reach-through p x y a h
at-on false p x y e a h = untrue (sym e)

pub leads-here : (writes : List Mutation) (seen : Stream → Type 0) (x y to : Pos) (u : Option Tomb) (a : Stage) {b : Stage} → a ≡ b → x ≡ y → Leads writes seen a x to u → Leads writes seen b y to u
leads-here writes seen x y to u a {b} p q l = subst (λ (z : Stage × Pos). Leads writes seen z.0 z.1 to u) (λ i. (p i, q i)) l

pub at-lags : (b : Bool) (p x : Pos) → IsPlaceAt b p x → Reaches p x
at-lags true p x a = a
at-lags false p x a = subst (Reaches p) a (reach-itself p)
