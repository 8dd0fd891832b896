-- Each change of entries leaves those of a version: they ascend, and the last one is the end dummy.
use Rattle.std.specs.Prelude.{◌≡◌, Bool, true, false, List, [], ◌∷◌, Option, cond, map as list_map}
use Rattle.std.proofs.Common.{refl, sym, ap, ◌∙◌, subst}
use Rattle.std.specs.declared.cmp.Ordering.TheVariants.{Less, Equal, Greater}
use Rattle.std.specs.Ordering.{is_eq, eq_by_cmp}
use Rattle.rc_cell.specs.declared.rows.Row.{Row}
use Rattle.rc_cell.specs.declared.writes.Tomb.{Tomb}
use Rattle.rc_position.specs.declared.positions.Pos.{Pos}
use Rattle.rc_position.specs.Position.{pos_cmp, IsBefore}
use Rattle.rc_position.specs.laws.Orders.{pos_cmp_total}
use Rattle.rc_core.specs.declared.entries.Entry.{Entry}
use Rattle.rc_core.specs.declared.entries.Mark.{Mark}
use Rattle.rc_core.specs.Version.{Version, IsVersion, Ascend, EndsWithDummy, end_position}
use Rattle.rc_core.specs.Change.{gap_split, split_by, entry_changed, change, at_entry, with_row, with_mark, known_with, join_row_at, fill_row, take_out, with_gap, with_first_gap, lose_last_gap}
use Rattle.rc_core.specs.Continuity.{with_entries}
use Rattle.rc_core.specs.laws.Spots.{turn_to}

-- the first entry, where there is one, stands behind p
abbrev pub IsAhead : Pos → List Entry → Type 0
IsAhead p [] = Unit {0}
IsAhead p (e ∷ es) = IsBefore p e.position

ascend-cons : (e : Entry) (es : List Entry) → IsAhead e.position es → Ascend es → Ascend (e ∷ es)
ascend-cons e [] h a = tt
ascend-cons e (f ∷ es) h a = (h, a)

ascend-first : (e : Entry) (es : List Entry) → Ascend (e ∷ es) → IsAhead e.position es
ascend-first e [] a = tt
ascend-first e (f ∷ es) a = a.0

ascend-rest : (e : Entry) (es : List Entry) → Ascend (e ∷ es) → Ascend es
ascend-rest e [] a = tt
ascend-rest e (f ∷ es) a = a.1

ends-cons : (e : Entry) (es : List Entry) → EndsWithDummy es → EndsWithDummy (e ∷ es)
ends-cons e [] d = absurd d
ends-cons e (f ∷ es) d = d

-- ---- split

split-first : (p x : Pos) (es : List Entry) → IsBefore p x → IsAhead p es → IsAhead p (gap_split x es)
split-first p x [] l h = h
split-first p x (e ∷ es) l h = elim (pos_cmp x e.position) as (λ r. IsAhead p (split_by r x e es (gap_split x es))) [ Less ↦ l | Equal ↦ h | Greater ↦ h ]

pub split-ascends : (x : Pos) (es : List Entry) → Ascend es → Ascend (gap_split x es)
split-ascends x [] a = a
split-ascends x (e ∷ es) a = elim (pos_cmp x e.position) as (λ r. pos_cmp x e.position ≡ r → Ascend (split_by r x e es (gap_split x es))) [
  | Less ↦ λ l. (l, a)
  | Equal ↦ λ _. a
  | Greater ↦ λ l. ascend-cons e (gap_split x es) (split-first e.position x es (turn_to x e.position Greater l) (ascend-first e es a)) (split-ascends x es (ascend-rest e es a))
] refl

pub split-ends : (x : Pos) (es : List Entry) → EndsWithDummy es → EndsWithDummy (gap_split x es)
split-ends x [] d = d
split-ends x (e ∷ []) d = elim (pos_cmp x e.position) as (λ r. pos_cmp x e.position ≡ r → EndsWithDummy (split_by r x e [] [])) [
  | Less ↦ λ _. d
  | Equal ↦ λ _. d
  | Greater ↦ λ l. d
] refl
split-ends x (e ∷ f ∷ es) d = elim (pos_cmp x e.position) as (λ r. EndsWithDummy (split_by r x e (f ∷ es) (gap_split x (f ∷ es)))) [
  | Less ↦ d
  | Equal ↦ d
  | Greater ↦ ends-cons e (gap_split x (f ∷ es)) (split-ends x (f ∷ es) d)
]

-- ---- each entry in its place

pub ascend-map : (g : Entry → Entry) → ((e : Entry) → (g e).position ≡ e.position) → (es : List Entry) → Ascend es → Ascend (list_map g es)
ascend-map g same [] a = tt
ascend-map g same (e ∷ []) a = tt
ascend-map g same (e ∷ f ∷ es) a = ((λ i. pos_cmp (same e i) (same f i)) ∙ a.0, ascend-map g same (f ∷ es) a.1)

pub ends-map : (g : Entry → Entry) → ((e : Entry) → (g e).position ≡ e.position) → ((e : Entry) → e.position ≡ end_position → (g e).row ≡ e.row) → (es : List Entry) → EndsWithDummy es → EndsWithDummy (list_map g es)
ends-map g same row [] d = d
ends-map g same row (e ∷ []) d = (same e ∙ d.0, row e d.0 ∙ d.1)
ends-map g same row (e ∷ f ∷ es) d = ends-map g same row (f ∷ es) d

pub change-is : (f : Mark → Mark) (from to : Pos) (v : Version) → IsVersion v → IsVersion (with_entries (change f from to v.entries) v)
change-is f from to v i = record {
  ascend = ascend-map (entry_changed f from to) (λ _. refl) (gap_split to (gap_split from v.entries)) (split-ascends to (gap_split from v.entries) (split-ascends from v.entries i.ascend));
  ends = ends-map (entry_changed f from to) (λ _. refl) (λ _ _. refl) (gap_split to (gap_split from v.entries)) (split-ends to (gap_split from v.entries) (split-ends from v.entries i.ends));
}

pub put_position : (b : Bool) (f e : Entry) → f.position ≡ e.position → (cond b f e).position ≡ e.position
put_position true f e h = h
put_position false f e h = refl

-- at a position before the end the end dummy is left as it is
left_at_end : (x : Pos) (f e : Entry) → IsBefore x end_position → e.position ≡ end_position → cond (eq_by_cmp pos_cmp x e.position) f e ≡ e
left_at_end x f e b h = ap (λ r. cond (is_eq r) f e) (ap (pos_cmp x) h ∙ b)

at_entry-ascends : (x : Pos) (f : Entry → Entry) → ((e : Entry) → (f e).position ≡ e.position) → (es : List Entry) → Ascend es → Ascend (at_entry x f es)
at_entry-ascends x f same es a = ascend-map (λ e. cond (eq_by_cmp pos_cmp x e.position) (f e) e) (λ e. put_position (eq_by_cmp pos_cmp x e.position) (f e) e (same e)) es a

at_entry-ends : (x : Pos) (f : Entry → Entry) → IsBefore x end_position → ((e : Entry) → (f e).position ≡ e.position) → (es : List Entry) → EndsWithDummy es → EndsWithDummy (at_entry x f es)
at_entry-ends x f b same es d =
    ends-map (λ e. cond (eq_by_cmp pos_cmp x e.position) (f e) e) (λ e. put_position (eq_by_cmp pos_cmp x e.position) (f e) e (same e)) (λ e h. ap (λ (k : Entry). k.row) (left_at_end x (f e) e b h)) es d

pub join_row-is : (x : Pos) (row : Row) (v : Version) → IsBefore x end_position → IsVersion v → IsVersion (with_entries (join_row_at x row v.entries) v)
join_row-is x row v b i = record {
  ascend = at_entry-ascends x (with_row row) (λ _. refl) (gap_split x v.entries) (split-ascends x v.entries i.ascend);
  ends = at_entry-ends x (with_row row) b (λ _. refl) (gap_split x v.entries) (split-ends x v.entries i.ends);
}

pub fill_row-is : (x : Pos) (row : Row) (tomb : Option Tomb) (v : Version) → IsBefore x end_position → IsVersion v → IsVersion (with_entries (fill_row x row tomb v.entries) v)
fill_row-is x row tomb v b i = let j = join_row-is x row v b i in record {
  ascend = at_entry-ascends x (with_mark (known_with tomb)) (λ _. refl) (join_row_at x row v.entries) j.ascend;
  ends = at_entry-ends x (with_mark (known_with tomb)) b (λ _. refl) (join_row_at x row v.entries) j.ends;
}

pub split-is : (x : Pos) (v : Version) → IsVersion v → IsVersion (with_entries (gap_split x v.entries) v)
split-is x v i = record { ascend = split-ascends x v.entries i.ascend; ends = split-ends x v.entries i.ends }

-- ---- an entry taken out

marked-ascends : (m : Mark) (es : List Entry) → Ascend es → Ascend (with_first_gap m es)
marked-ascends m [] a = tt
marked-ascends m (e ∷ []) a = tt
marked-ascends m (e ∷ f ∷ es) a = a

take_out-first : (m : Mark) (p x : Pos) (e : Entry) (es : List Entry) → IsBefore p e.position → Ascend (e ∷ es) → IsAhead p (take_out m x (e ∷ es))
take_out-first m p x e [] l a = elim (is_eq (pos_cmp x e.position)) as (λ b. IsAhead p (cond b [] (e ∷ []))) [ true ↦ tt | false ↦ l ]
take_out-first m p x e (f ∷ es) l a = elim (is_eq (pos_cmp x e.position)) as (λ b. IsAhead p (cond b (with_gap m f ∷ es) (e ∷ take_out m x (f ∷ es)))) [ true ↦ pos_cmp_total.trans p e.position f.position l a.0 | false ↦ l ]

take_out-ascends : (m : Mark) (x : Pos) (es : List Entry) → Ascend es → Ascend (take_out m x es)
take_out-ascends m x [] a = tt
take_out-ascends m x (e ∷ []) a = elim (is_eq (pos_cmp x e.position)) as (λ b. Ascend (cond b [] (e ∷ []))) [ true ↦ tt | false ↦ tt ]
take_out-ascends m x (e ∷ f ∷ es) a = elim (is_eq (pos_cmp x e.position)) as (λ b. Ascend (cond b (with_gap m f ∷ es) (e ∷ take_out m x (f ∷ es)))) [
  | true ↦ marked-ascends m (f ∷ es) a.1
  | false ↦ ascend-cons e (take_out m x (f ∷ es)) (take_out-first m e.position x f es a.0 a.1) (take_out-ascends m x (f ∷ es) a.1)
]

marked-ends : (m : Mark) (e : Entry) (es : List Entry) → EndsWithDummy (e ∷ es) → EndsWithDummy (with_gap m e ∷ es)
marked-ends m e [] d = d
marked-ends m e (f ∷ es) d = d

take_out-ends : (m : Mark) (x : Pos) (es : List Entry) → IsBefore x end_position → EndsWithDummy es → EndsWithDummy (take_out m x es)
take_out-ends m x [] b d = d
take_out-ends m x (e ∷ []) b d = subst (λ r. EndsWithDummy (cond (is_eq r) [] (e ∷ []))) (sym (ap (pos_cmp x) d.0 ∙ b)) d
take_out-ends m x (e ∷ f ∷ es) b d = elim (is_eq (pos_cmp x e.position)) as (λ t. EndsWithDummy (cond t (with_gap m f ∷ es) (e ∷ take_out m x (f ∷ es)))) [
  | true ↦ marked-ends m f es d
  | false ↦ ends-cons e (take_out m x (f ∷ es)) (take_out-ends m x (f ∷ es) b d)
]

pub take_out-is : (m : Mark) (x : Pos) (v : Version) → IsBefore x end_position → IsVersion v → IsVersion (with_entries (take_out m x v.entries) v)
take_out-is m x v b i = record { ascend = take_out-ascends m x v.entries i.ascend; ends = take_out-ends m x v.entries b i.ends }

lose_last-first : (p : Pos) (es : List Entry) → IsAhead p es → IsAhead p (lose_last_gap es)
lose_last-first p [] h = tt
lose_last-first p (e ∷ []) h = h
lose_last-first p (e ∷ f ∷ es) h = h

lose_last-ascends : (es : List Entry) → Ascend es → Ascend (lose_last_gap es)
lose_last-ascends [] a = tt
lose_last-ascends (e ∷ []) a = tt
lose_last-ascends (e ∷ f ∷ es) a = ascend-cons e (lose_last_gap (f ∷ es)) (lose_last-first e.position (f ∷ es) a.0) (lose_last-ascends (f ∷ es) a.1)

lose_last-ends : (es : List Entry) → EndsWithDummy es → EndsWithDummy (lose_last_gap es)
lose_last-ends [] d = d
lose_last-ends (e ∷ []) d = d
lose_last-ends (e ∷ f ∷ es) d = ends-cons e (lose_last_gap (f ∷ es)) (lose_last-ends (f ∷ es) d)

pub lose_last-is : (v : Version) → IsVersion v → IsVersion (with_entries (lose_last_gap v.entries) v)
lose_last-is v i = record { ascend = lose_last-ascends v.entries i.ascend; ends = lose_last-ends v.entries i.ends }
