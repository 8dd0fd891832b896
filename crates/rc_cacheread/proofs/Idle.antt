-- What is due at a place, by its parts.
use Rattle.std.specs.Prelude.{◌≡◌, ◌&&◌, Bool, true, false, not, is_some, cond, List, [], ◌∷◌, ◌++◌, Option, Some, None}
use Rattle.std.proofs.Common.{refl, sym, ap, ◌∙◌, subst}
use Rattle.std.specs.declared.cmp.Ordering.{Ordering}
use Rattle.std.specs.declared.cmp.Ordering.TheVariants.{Less, Equal, Greater}
use Rattle.std.specs.Ordering.{is_ge, is_gt, is_le, is_lt}
use Rattle.rc_position.specs.declared.comps.Comp.{Comp}
use Rattle.rc_position.specs.declared.positions.Pos.{Pos}
use Rattle.rc_position.specs.Position.{pos_cmp, row_pos}
use Rattle.rc_cell.specs.declared.writes.Tomb.{Tomb}
use Rattle.rc_mutation.specs.declared.fragments.Frag.{Frag}
use Rattle.rc_mutation.specs.declared.fragments.Frag.TheVariants as frag
use Rattle.rc_stream.specs.Merging.{same_tomb}
use Rattle.rc_stream.specs.Places.{Reaches}
use Rattle.rc_stream.specs.Stream.{force, onward, opening}
use Rattle.rc_cacheread.specs.declared.spots.RowAt.{RowAt}
use Rattle.rc_cacheread.specs.declared.spots.RowAt.TheVariants as row
use Rattle.rc_cacheread.specs.declared.spots.Spot.{Spot}
use Rattle.rc_cacheread.specs.declared.spots.Turn.{Turn}
use Rattle.rc_cacheread.specs.declared.spots.Turn.TheVariants as turn
use Rattle.rc_cacheread.specs.Spots.{again_due, past_row, change_place, due_change, front, row_due, since_or, stand, tomb_told, told_or}
use Rattle.rc_cacheread.specs.calls.Spots.{GivesDue, GoesOn, IsSameSpot, HasNothingDue, IsSpotSought, WentTo, is_behind, is_row_due, is_row_from, told_at}
use Rattle.rc_cacheread.proofs.Lists.{same-itself, same-tombs, untrue}

pub none-of : (t : Option Tomb) → is_some t ≡ false → t ≡ None
none-of None e = refl
none-of (Some t) e = untrue e

pub not-none : (t : Option Tomb) (b : Bool) → is_some t ≡ not b → b ≡ false → is_some t ≡ true
not-none t b e f = e ∙ ap not f

pub idle-front : (s : Spot) → HasNothingDue s → front s ≡ []
idle-front s i =
    ap (λ a. again_due a s.told ++ (due_change s ++ row_due s.row s.place.prefix)) i.again
    ∙ ap (λ b. cond b [] (frag.Change (change_place s) s.tomb ∷ []) ++ row_due s.row s.place.prefix) i.told
    ∙ ap (λ r. row_due r s.place.prefix) i.row

pub idle-stand : (s : Spot) → HasNothingDue s → stand s ≡ s.place
idle-stand s i = ap (λ r. past_row r s.place) i.row

pub idle-told : (s : Spot) → HasNothingDue s → tomb_told s ≡ s.tomb
idle-told s i = ap (λ a. told_or a s.told) i.again ∙ same-tombs s.told s.tomb i.told

pub unsame : (t : Option Tomb) → is_some t ≡ true → same_tomb t None ≡ false
unsame None e = untrue (sym e)
unsame (Some t) e = refl

pub closed-front : (s : Spot) → HasNothingDue s → is_some s.tomb ≡ true → front (record { place = s.place; row = s.row; told = s.told; again = s.again; tomb = None; since = None }) ≡ frag.Change (stand s) None ∷ []
closed-front s i e =
    ap (λ a. again_due a s.told ++ (cond (same_tomb s.told None) [] (frag.Change s.place None ∷ []) ++ row_due s.row s.place.prefix)) i.again
    ∙ ap (λ b. cond b [] (frag.Change s.place None ∷ []) ++ row_due s.row s.place.prefix) (ap (λ t. same_tomb t None) (same-tombs s.told s.tomb i.told) ∙ unsame s.tomb e)
    ∙ ap (λ r. frag.Change s.place None ∷ row_due r s.place.prefix) i.row
    ∙ ap (λ x. frag.Change x None ∷ []) (sym (idle-stand s i))

-- ---- a seek

gt-le : (r : Ordering) → is_gt r ≡ false → is_le r ≡ true
gt-le Less e = refl
gt-le Equal e = refl
gt-le Greater e = untrue e

gt-not-le : (r : Ordering) → is_gt r ≡ true → is_le r ≡ false
gt-not-le Less e = untrue (sym e)
gt-not-le Equal e = untrue (sym e)
gt-not-le Greater e = refl

ge-not-lt : (r : Ordering) → is_ge r ≡ true → is_lt r ≡ false
ge-not-lt Less e = untrue (sym e)
ge-not-lt Equal e = refl
ge-not-lt Greater e = refl

not-ge-lt : (r : Ordering) → is_ge r ≡ false → is_lt r ≡ true
not-ge-lt Less e = refl
not-ge-lt Equal e = untrue e
not-ge-lt Greater e = untrue e

-- what a seek to x leaves of fragments, and the tombstone in force there
pub record Leaves (x : Pos) (tomb : Option Tomb) (fs : List Frag) (now : Option Tomb) (gs : List Frag) : Type 0 where
  pub tomb_there : force x tomb fs ≡ now
  pub left : onward x fs ≡ gs

leaves-on : (x : Pos) (t u v : Option Tomb) (fs gs hs : List Frag) → Leaves x t fs (force x u gs) (onward x gs) → Leaves x u gs v hs → Leaves x t fs v hs
leaves-on x t u v fs gs hs a b = record { tomb_there = a.tomb_there ∙ b.tomb_there; left = a.left ∙ b.left }

passed-again : (x : Pos) (again : Option Pos) (told : Option Tomb) (fs : List Frag) → is_behind again x ≡ false → Leaves x (told_or again told) (again_due again told ++ fs) (force x told fs) (onward x fs)
passed-again x None told fs e = record { tomb_there = refl; left = refl }
passed-again x (Some a) told fs e = record {
  tomb_there = ap (λ b. cond b (force x told fs) None) (gt-le (pos_cmp a x) e);
  left = ap (λ b. cond b (onward x fs) (frag.Change a told ∷ fs)) (gt-le (pos_cmp a x) e);
}

abbrev change_at : Bool → Pos → Option Tomb → List Frag
change_at b c tomb = cond b [] (frag.Change c tomb ∷ [])

passed-change : (x c : Pos) (told tomb : Option Tomb) (fs : List Frag) (b : Bool) → same_tomb told tomb ≡ b → (not b && is_gt (pos_cmp c x)) ≡ false → Leaves x told (change_at b c tomb ++ fs) (force x tomb fs) (onward x fs)
passed-change x c told tomb fs true e h = record { tomb_there = ap (λ t. force x t fs) (same-tombs told tomb e); left = refl }
passed-change x c told tomb fs false e h = record {
  tomb_there = ap (λ b. cond b (force x tomb fs) told) (gt-le (pos_cmp c x) h);
  left = ap (λ b. cond b (onward x fs) (frag.Change c tomb ∷ fs)) (gt-le (pos_cmp c x) h);
}

kept-change : (x c : Pos) (told tomb : Option Tomb) (fs : List Frag) (b : Bool) → (not b && is_gt (pos_cmp c x)) ≡ true → Leaves x told (change_at b c tomb ++ fs) told (change_at b c tomb ++ fs)
kept-change x c told tomb fs true h = untrue (sym h)
kept-change x c told tomb fs false h = record {
  tomb_there = ap (λ b. cond b (force x tomb fs) told) (gt-not-le (pos_cmp c x) h);
  left = ap (λ b. cond b (onward x fs) (frag.Change c tomb ∷ fs)) (gt-not-le (pos_cmp c x) h);
}

not-nothing : (x c : Pos) (tomb : Option Tomb) (fs : List Frag) (b : Bool) → (not b && is_gt (pos_cmp c x)) ≡ true → change_at b c tomb ++ fs ≡ [] → ⊥
not-nothing x c tomb fs true h e = untrue (sym h)
not-nothing x c tomb fs false h e = absurd (cc)

passed-row : (x : Pos) (r : RowAt) (key : List Comp) (tomb : Option Tomb) → is_row_from r key x ≡ false → Leaves x tomb (row_due r key) tomb []
passed-row x row.Unread key tomb e = record { tomb_there = refl; left = refl }
passed-row x (row.Due r) key tomb e = record {
  tomb_there = ap (λ b. cond b tomb tomb) (not-ge-lt (pos_cmp (row_pos key) x) e);
  left = ap (λ b. cond b [] (frag.Row key r ∷ [])) (not-ge-lt (pos_cmp (row_pos key) x) e);
}
passed-row x row.Given key tomb e = record { tomb_there = refl; left = refl }

kept-row : (x : Pos) (r : RowAt) (key : List Comp) (tomb : Option Tomb) → is_row_from r key x ≡ true → Leaves x tomb (row_due r key) tomb (row_due r key)
kept-row x row.Unread key tomb e = untrue (sym e)
kept-row x (row.Due r) key tomb e = record {
  tomb_there = ap (λ b. cond b tomb tomb) (ge-not-lt (pos_cmp (row_pos key) x) e);
  left = ap (λ b. cond b [] (frag.Row key r ∷ [])) (ge-not-lt (pos_cmp (row_pos key) x) e);
}
kept-row x row.Given key tomb e = untrue (sym e)

no-row : (x : Pos) (r : RowAt) (key : List Comp) → is_row_from r key x ≡ true → row_due r key ≡ [] → ⊥
no-row x row.Unread key e n = untrue (sym e)
no-row x (row.Due r) key e n = absurd (cc)
no-row x row.Given key e n = untrue (sym e)

opened : (t : Option Tomb) (x : Pos) (fs : List Frag) → again_due (told_at t x) t ++ fs ≡ opening x t ++ fs
opened None x fs = refl
opened (Some t) x fs = refl

told-none : (t : Option Tomb) (x : Pos) → told_or (told_at t x) t ≡ None
told-none None x = refl
told-none (Some t) x = refl

abbrev pub spot : Pos → RowAt → Option Tomb → Option Pos → Option Tomb → Option Pos → Spot
spot a b c d e f = record { place = a; row = b; told = c; again = d; tomb = e; since = f }

-- a change is due behind the position
pub sought-change : (s t : Spot) (x : Pos) → is_behind s.again x ≡ false → (not (same_tomb s.told s.tomb) && is_gt (pos_cmp (change_place s) x)) ≡ true → t.place ≡ s.place → t.row ≡ s.row → t.told ≡ s.told → t.again ≡ told_at s.told x → t.tomb ≡ s.tomb → t.since ≡ s.since → IsSpotSought x s t
sought-change s t x a h p r u g m n =
    let R = row_due s.row s.place.prefix in
    let b = same_tomb s.told s.tomb in
    let l = leaves-on x (tomb_told s) s.told s.told (front s) (due_change s ++ R) (due_change s ++ R) (passed-again x s.again s.told (due_change s ++ R) a) (kept-change x (change_place s) s.told s.tomb R b h) in
    subst (IsSpotSought x s) (λ i. spot (sym p i) (sym r i) (sym u i) (sym g i) (sym m i) (sym n i)) (record {
      due = opened s.told x (due_change s ++ R) ∙ ap (λ z. opening x z ++ (due_change s ++ R)) (sym l.tomb_there) ∙ ap (λ z. opening x (force x (tomb_told s) (front s)) ++ z) (sym l.left);
      from = refl;
      told = told-none s.told x;
      tomb = refl;
      before = λ e. absurd (not-nothing x (change_place s) s.tomb R b h (sym l.left ∙ e));
    })

-- a row is due at the position or behind it
pub sought-row : (s t : Spot) (x : Pos) → is_behind s.again x ≡ false → (not (same_tomb s.told s.tomb) && is_gt (pos_cmp (change_place s) x)) ≡ false → is_row_from s.row s.place.prefix x ≡ true → t.place ≡ s.place → t.row ≡ s.row → t.told ≡ s.tomb → t.again ≡ told_at s.tomb x → t.tomb ≡ s.tomb → IsSpotSought x s t
sought-row s t x a h k p r u g m =
    let R = row_due s.row s.place.prefix in
    let b = same_tomb s.told s.tomb in
    let l =
    leaves-on x (tomb_told s) s.told s.tomb (front s) (due_change s ++ R) R (passed-again x s.again s.told (due_change s ++ R) a)
    (leaves-on x s.told s.tomb s.tomb (due_change s ++ R) R R (passed-change x (change_place s) s.told s.tomb R b refl h) (kept-row x s.row s.place.prefix s.tomb k)) in
    subst (IsSpotSought x s) (λ i. spot (sym p i) (sym r i) (sym u i) (sym g i) (sym m i) t.since) (record {
      due =
          ap (λ z. again_due (told_at s.tomb x) s.tomb ++ (change_at z (since_or t.since s.place) s.tomb ++ R)) (same-itself s.tomb)
          ∙ opened s.tomb x R
          ∙ ap (λ z. opening x z ++ R) (sym l.tomb_there)
          ∙ ap (λ z. opening x (force x (tomb_told s) (front s)) ++ z) (sym l.left);
      from = refl;
      told = told-none s.tomb x;
      tomb = refl;
      before = λ e. absurd (no-row x s.row s.place.prefix k (sym l.left ∙ e));
    })

-- all that is due is passed
pub went-on : (s t : Spot) (x : Pos) (b : Bool) → is_behind s.again x ≡ false → (not (same_tomb s.told s.tomb) && is_gt (pos_cmp (change_place s) x)) ≡ false → is_row_from s.row s.place.prefix x ≡ false → WentTo x (spot s.place s.row s.tomb None s.tomb s.since) t b → GoesOn x s t b
went-on s t x b a h k w =
    let R = row_due s.row s.place.prefix in
    let l =
    leaves-on x (tomb_told s) s.told s.tomb (front s) (due_change s ++ R) [] (passed-again x s.again s.told (due_change s ++ R) a)
    (leaves-on x s.told s.tomb s.tomb (due_change s ++ R) R [] (passed-change x (change_place s) s.told s.tomb R (same_tomb s.told s.tomb) refl h) (passed-row x s.row s.place.prefix s.tomb k)) in
    by_way b l w where
      by_way : (b : Bool) → Leaves x (tomb_told s) (front s) s.tomb [] → WentTo x (spot s.place s.row s.tomb None s.tomb s.since) t b → GoesOn x s t b
      by_way false l w = subst (IsSpotSought x s) (λ i. spot (sym w.1 i) (sym w.2 i) (sym w.3 i) (sym w.4 i) (sym w.5 i) t.since) (record {
        due =
            ap (λ z. again_due (told_at s.tomb x) s.tomb ++ (change_at z (since_or t.since (stand s)) s.tomb ++ [])) (same-itself s.tomb)
            ∙ opened s.tomb x []
            ∙ ap (λ z. opening x z ++ []) (sym l.tomb_there)
            ∙ ap (λ z. opening x (force x (tomb_told s) (front s)) ++ z) (sym l.left);
        from = refl;
        told = told-none s.tomb x;
        tomb = refl;
        before = λ _. w.0;
      })
      by_way true l w = record { due = l.left; force = l.tomb_there; on = w.0; place = w.1; row = w.2; told = w.3; again = w.4; tomb = w.5 }

-- a row that was given is stepped over
pub over-alike : (s t : Spot) → is_row_due s.row ≡ false → t.place ≡ stand s → t.row ≡ row.Unread → t.told ≡ s.told → t.again ≡ s.again → t.tomb ≡ s.tomb → t.since ≡ s.since → same_tomb s.told s.tomb ≡ true → s.again ≡ None → (front t ≡ []) × (stand t ≡ stand s) × (tomb_told t ≡ tomb_told s) × HasNothingDue t × (front s ≡ [])
over-alike s t d p r u g m n e a =
    let idle : HasNothingDue t = record { again = g ∙ a; told = ap (λ z. same_tomb z t.tomb) u ∙ ap (same_tomb s.told) m ∙ e; row = r } in
    (idle-front t idle, idle-stand t idle ∙ p, ap (λ z. told_or z t.told) g ∙ ap (told_or s.again) u, idle, nothing-due) where
      no-due : (r : RowAt) (key : List Comp) → is_row_due r ≡ false → row_due r key ≡ []
      no-due row.Unread key e = refl
      no-due (row.Due r) key e = untrue e
      no-due row.Given key e = refl

      nothing-due : front s ≡ []
      nothing-due =
          ap (λ z. again_due z s.told ++ (due_change s ++ row_due s.row s.place.prefix)) a
          ∙ ap (λ z. cond z [] (frag.Change (change_place s) s.tomb ∷ []) ++ row_due s.row s.place.prefix) e
          ∙ no-due s.row s.place.prefix d

pub no-again : (a : Option Pos) → is_some a ≡ false → a ≡ None
no-again None e = refl
no-again (Some x) e = untrue e

alike-on : (s t u : Spot) → front t ≡ front s → stand t ≡ stand s → tomb_told t ≡ tomb_told s → t.tomb ≡ s.tomb → IsSameSpot t u → IsSameSpot s u
alike-on s t u f p o m a = record { due = a.due ∙ f; from = a.from ∙ p; told = a.told ∙ o; tomb = a.tomb ∙ m }

-- what comes next behind a row that was given
pub gives-over : (to upto : Pos) (s t u : Spot) (r : Turn) → (front t ≡ []) × (stand t ≡ stand s) × (tomb_told t ≡ tomb_told s) × HasNothingDue t × (front s ≡ []) → t.tomb ≡ s.tomb → GivesDue to upto t u r → GivesDue to upto s u r
gives-over to upto s t u (turn.Given f) o m g = absurd (never f (front u) (sym o.0 ∙ g.0)) where
  never : (f : Frag) (fs : List Frag) → [] ≡ f ∷ fs → ⊥
  never f fs e = absurd (cc)
gives-over to upto s t u turn.Nothing o m g = (alike-on s t u (o.0 ∙ sym o.4) o.1 o.2 m g.0, g.1)
gives-over to upto s t u turn.Closed o m g = (o.4, subst (Reaches to) o.1 g.1, g.2 ∙ o.1, g.3 ∙ o.2, g.4, g.5 ∙ ap (λ x. frag.Change x None ∷ []) o.1, sym (ap (λ z. same_tomb z None) m) ∙ g.6)
gives-over to upto s t u turn.Unread o m g = (alike-on s t u (o.0 ∙ sym o.4) o.1 o.2 m g.0, g.1, g.2, g.3)
