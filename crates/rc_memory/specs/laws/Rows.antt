-- Rows of a version changed: which are as they were, which are gone, and that all that may be joined still fits.
use Rattle.std.proofs.Common.{◌≡◌, ◌≢◌, ◌⊎◌, ℕ, zero, suc, ◌≤◌, ◌/◌, Bool, true, false, cond, List, [], ◌∷◌, ◌++◌, Option, Some, None, IsSome, inl, inr, refl, sym, ap, ◌∙◌, subst, map}
use Rattle.std.specs.Prelude.{Contains}
use Rattle.std.specs.Ordering.{eq_by_cmp}
use Rattle.std.specs.declared.cmp.Ordering.{Ordering}
use Rattle.std.specs.declared.cmp.Ordering.TheVariants.{Less, Equal, Greater}
use Rattle.rc_cell.specs.declared.rows.Row.{Row}
use Rattle.rc_cell.specs.declared.writes.Tomb.{Tomb}
use Rattle.rc_position.specs.declared.positions.Pos.{Pos}
use Rattle.rc_position.specs.Position.{pos_cmp}
use Rattle.rc_position.specs.laws.Orders.{eq_by_cmp-same, pos_cmp_same, pos_cmp_total}
use Rattle.rc_rowcode.specs.Objects.{dummy_size}
use Rattle.rc_registry.specs.Entry.{Entry}
use Rattle.rc_registry.specs.Flag.{Flag}
use Rattle.rc_registry.specs.Mark.{Mark}
use Rattle.rc_registry.specs.AtPlace.{HasEntryAt}
use Rattle.rc_registry.specs.Change.{at_entry, drop_at, dummy, entry_changed, gap_split, lost_mark, split_by, take_out, with_first_gap, with_gap}
use Rattle.rc_registry.specs.Continuity.{with_entries, without_statics}
use Rattle.rc_registry.specs.Steps.{join_pt, on_version, set_flags, set_static_flag, set_tombs, with_flags, with_phase, with_tombs}
use Rattle.rc_registry.specs.Version.{EndsWithDummy, Version, end_position}
use Rattle.rc_partition.specs.laws.Lists.{elem-cases, elem-first, elem-later, elem-map, elem-mapped, elem-none}
use Rattle.rc_memory.specs.Changes.{KeepsRows, position_and_row}
use Rattle.rc_memory.specs.Recency.{HasObject, IsLastInner}
use Rattle.rc_memory.specs.Room.{FitTogether, HasRowAt, HasStaticRow}
use Rattle.rc_memory.specs.laws.Places.{heads, no_some, tails}

-- ---- positions and rows that are as they were

has-alike : (x : Pos) (es ds : List Entry) → map position_and_row ds ≡ map position_and_row es → HasEntryAt x es → HasEntryAt x ds
has-alike x [] ds same h = absurd h
has-alike x (e ∷ es) [] same h = cc same
has-alike x (e ∷ es) (d ∷ ds) same (inl here) = inl (ap (λ (k : Pos × Option Row). k.0) (heads (position_and_row d) (position_and_row e) (map position_and_row ds) (map position_and_row es) same) ∙ here)
has-alike x (e ∷ es) (d ∷ ds) same (inr later) = inr (has-alike x es ds (tails (position_and_row d) (position_and_row e) (map position_and_row ds) (map position_and_row es) same) later)

-- the last two are, too
pub record EndsAlike (ds : List Entry) (x : Pos) : Type 0 where
  pub front : List Entry
  pub inner : Entry
  pub last : Entry
  pub split : ds ≡ front ++ (inner ∷ last ∷ [])
  pub position : inner.position ≡ x

ends-alike : (front : List Entry) (e end : Entry) (ds : List Entry) → map position_and_row ds ≡ map position_and_row (front ++ (e ∷ end ∷ [])) → EndsAlike ds e.position
ends-alike [] e end [] same = cc same
ends-alike [] e end (d ∷ []) same = absurd (let clash = tails (position_and_row d) (position_and_row e) [] (position_and_row end ∷ []) same in cc)
ends-alike [] e end (d ∷ f ∷ []) same = record { front = []; inner = d; last = f; split = refl; position = ap (λ (k : Pos × Option Row). k.0) (heads (position_and_row d) (position_and_row e) (position_and_row f ∷ []) (position_and_row end ∷ []) same) }
ends-alike [] e end (d ∷ f ∷ g ∷ ds) same = absurd (let clash = tails (position_and_row f) (position_and_row end) (position_and_row g ∷ map position_and_row ds) []
    (tails (position_and_row d) (position_and_row e) (position_and_row f ∷ position_and_row g ∷ map position_and_row ds) (position_and_row end ∷ []) same) in cc)
ends-alike (o ∷ front) e end [] same = cc same
ends-alike (o ∷ front) e end (d ∷ ds) same = let k = ends-alike front e end ds (tails (position_and_row d) (position_and_row o) (map position_and_row ds) (map position_and_row (front ++ (e ∷ end ∷ []))) same) in
    record { front = d ∷ k.front; inner = k.inner; last = k.last; split = ap (λ l. d ∷ l) k.split; position = k.position }

module _ (v w : Version) (statics : w.statics ≡ v.statics) (entries : map position_and_row w.entries ≡ map position_and_row v.entries) where
  pub object-alike : (at : Option Pos) → HasObject v at → HasObject w at
  object-alike None h = subst (λ (o : Option Row). IsSome o) (sym statics) h
  object-alike (Some x) h = has-alike x v.entries w.entries entries h

  pub last-alike : (at : Option Pos) → IsLastInner v at → IsLastInner w at
  last-alike at l = let k = ends-alike l.0 l.1 l.2 w.entries (entries ∙ ap (map position_and_row) l.3) in (k.front, k.inner, k.last, k.split, l.4 ∙ ap (λ y. Some y) (sym k.position))

-- ---- what changes no row

map-alike : (g : Entry → Entry) → ((e : Entry) → position_and_row (g e) ≡ position_and_row e) → (es : List Entry) → map position_and_row (map g es) ≡ map position_and_row es
map-alike g same [] = refl
map-alike g same (e ∷ es) = let one = same e in let rest = map-alike g same es in λ i. one i ∷ rest i

at-alike : (b : Bool) (g : Entry → Entry) (e : Entry) → position_and_row (g e) ≡ position_and_row e → position_and_row (cond b (g e) e) ≡ position_and_row e
at-alike true g e same = same
at-alike false g e same = refl

-- what is done to each entry, and to the entry at a position
pub keeps-entries : (g : Entry → Entry) → ((e : Entry) → position_and_row (g e) ≡ position_and_row e) → KeepsRows (λ v. with_entries (map g v.entries) v)
keeps-entries g same v = (refl, map-alike g same v.entries)

pub keeps-at : (x : Pos) (g : Entry → Entry) → ((e : Entry) → position_and_row (g e) ≡ position_and_row e) → KeepsRows (λ v. with_entries (at_entry x g v.entries) v)
keeps-at x g same = keeps-entries (λ e. cond (eq_by_cmp pos_cmp x e.position) (g e) e) (λ e. at-alike (eq_by_cmp pos_cmp x e.position) g e (same e))

-- flags and range tombstones at a position, and marks from one position on and before another
pub keeps-flags : (x : Pos) (at gap : Flag) → KeepsRows (set_flags x at gap)
keeps-flags x at gap = keeps-at x (with_flags at gap) (λ e. refl)

pub keeps-tombs : (x : Pos) (at gap : Option Tomb) → KeepsRows (set_tombs x at gap)
keeps-tombs x at gap = keeps-at x (with_tombs at gap) (λ e. refl)

pub keeps-marks : (g : Mark → Mark) (from to : Pos) → KeepsRows (λ v. with_entries (map (entry_changed g from to) v.entries) v)
keeps-marks g from to = keeps-entries (entry_changed g from to) (λ e. refl)

-- the partition tombstone, the flag of the static row, and the phase
pub keeps-head : (tomb : Tomb) → KeepsRows (join_pt tomb)
keeps-head tomb v = (refl, refl)

pub keeps-static_flag : (flag : Flag) → KeepsRows (set_static_flag flag)
keeps-static_flag flag v = (refl, refl)

pub keeps-phase : (phase : ℕ) → KeepsRows (with_phase phase)
keeps-phase phase v = (refl, refl)

-- ---- rows of one version that are rows of another one

-- an entry with this position and this row is among entries
abbrev pub IsAlikeIn : List Entry → Entry → Type 0
IsAlikeIn es e = (d : Entry) × Contains es d × (d.position ≡ e.position) × (d.row ≡ e.row)

-- each row of a version is one of another version, and so is each entry but dummies at these positions
pub record IsWithin (may : Pos → Type 0) (v w : Version) : Type 0 where
  pub entries : (e : Entry) → Contains w.entries e → IsAlikeIn v.entries e ⊎ (may e.position × (e.row ≡ None))
  pub statics : (row : Row) → w.statics ≡ Some row → v.statics ≡ Some row

-- no position
abbrev pub NoPosition : Pos → Type 0
NoPosition x = ⊥

within-itself : (may : Pos → Type 0) (v : Version) → IsWithin may v v
within-itself may v = record { entries = λ e on. inl (e, on, refl, refl); statics = λ row is. is }

pub within-alike : (v w : Version) → w.statics ≡ v.statics → map position_and_row w.entries ≡ map position_and_row v.entries → IsWithin NoPosition v w
within-alike v w statics entries = record {
  entries = λ e on. let k = elem-mapped position_and_row v.entries (position_and_row e) (subst (λ l. Contains l (position_and_row e)) entries (elem-map position_and_row w.entries e on)) in
      inl (k.0, k.1, ap (λ (z : Pos × Option Row). z.0) k.2, ap (λ (z : Pos × Option Row). z.1) k.2);
  statics = λ row is. sym statics ∙ is;
}

first-within : (m : Mark) (es : List Entry) (e : Entry) → Contains (with_first_gap m es) e → IsAlikeIn es e
first-within m [] e on = absurd (elem-none e on)
first-within m (f ∷ es) e on = elim (elem-cases (with_gap m f) e es on) [
  | inl same ↦ (f, elem-first f es, ap (λ (k : Entry). k.position) same, ap (λ (k : Entry). k.row) same)
  | inr later ↦ (e, elem-later f e es later, refl, refl)
]

taken-within : (m : Mark) (x : Pos) (es : List Entry) (e : Entry) → Contains (take_out m x es) e → IsAlikeIn es e
taken-within m x [] e on = absurd (elem-none e on)
taken-within m x (f ∷ es) e on = told (eq_by_cmp pos_cmp x f.position) (λ k. taken-within m x es e k) on
  where
    told : (b : Bool) → (Contains (take_out m x es) e → IsAlikeIn es e) → Contains (cond b (with_first_gap m es) (f ∷ take_out m x es)) e → IsAlikeIn (f ∷ es) e
    told true further h = let k = first-within m es e h in (k.0, elem-later f k.0 es k.1, k.2, k.3)
    told false further h = elim (elem-cases f e (take_out m x es) h) [
      | inl same ↦ (f, elem-first f es, ap (λ (k : Entry). k.position) same, ap (λ (k : Entry). k.row) same)
      | inr later ↦ let k = further later in (k.0, elem-later f k.0 es k.1, k.2, k.3)
    ]

pub within-dropped : (x : Pos) (v : Version) → IsWithin NoPosition v (with_entries (drop_at x v.entries) v)
within-dropped x v = record { entries = λ e on. inl (taken-within lost_mark x v.entries e on); statics = λ row is. is }

pub within-undone : (v : Version) → IsWithin NoPosition v (without_statics v)
within-undone v = record { entries = λ e on. inl (e, on, refl, refl); statics = λ row is. absurd (no_some row is) }

split-within : (x : Pos) (es : List Entry) (e : Entry) → Contains (gap_split x es) e → IsAlikeIn es e ⊎ ((e.position ≡ x) × (e.row ≡ None))
split-within x [] e on = absurd (elem-none e on)
split-within x (f ∷ es) e on = told (pos_cmp x f.position) (λ k. split-within x es e k) on
  where
    told : (r : Ordering) → (Contains (gap_split x es) e → IsAlikeIn es e ⊎ ((e.position ≡ x) × (e.row ≡ None))) → Contains (split_by r x f es (gap_split x es)) e → IsAlikeIn (f ∷ es) e ⊎ ((e.position ≡ x) × (e.row ≡ None))
    told Less further h = elim (elem-cases (dummy x f.gap) e (f ∷ es) h) [
      | inl same ↦ inr (ap (λ (k : Entry). k.position) (sym same), ap (λ (k : Entry). k.row) (sym same))
      | inr old ↦ inl (e, old, refl, refl)
    ]
    told Equal further h = inl (e, h, refl, refl)
    told Greater further h = elim (elem-cases f e (gap_split x es) h) [
      | inl same ↦ inl (f, elem-first f es, ap (λ (k : Entry). k.position) same, ap (λ (k : Entry). k.row) same)
      | inr later ↦ elim (further later) [
        | inl k ↦ inl (k.0, elem-later f k.0 es k.1, k.2, k.3)
        | inr made ↦ inr made
      ]
    ]

pub within-split : (x : Pos) (v : Version) → IsWithin (λ y. y ≡ x) v (with_entries (gap_split x v.entries) v)
within-split x v = record { entries = λ e on. split-within x v.entries e on; statics = λ row is. is }

-- ---- what fits still does

module _ (S : ℕ) (may : Pos → Type 0) (fits : (x : Pos) → may x → dummy_size x ≤ S / 8) (vs ws : List Version) (within : (w : Version) → Contains ws w → (v : Version) × Contains vs v × IsWithin may v w) where
  row_was : (x : Pos) (row : Row) → HasRowAt ws x row → HasRowAt vs x row
  row_was x row k = let v = within k.0 k.2 in elim (v.2.entries k.1 k.3) [
    | inl d ↦ (v.0, d.0, v.1, d.1, d.2 ∙ k.4, d.3 ∙ k.5)
    | inr made ↦ absurd (no_some row (sym made.1 ∙ k.5))
  ]

  static_was : (row : Row) → HasStaticRow ws row → HasStaticRow vs row
  static_was row k = let v = within k.0 k.1 in (v.0, v.1, v.2.statics row k.2)

  fit-within : FitTogether S vs → FitTogether S ws
  fit-within h = record {
    rows = λ x one rows each. h.rows x one rows (λ row on. row_was x row (each row on));
    statics = λ one rows each. h.statics one rows (λ row on. static_was row (each row on));
    positions = λ w e on in_w. let v = within w on in elim (v.2.entries e in_w) [
      | inl d ↦ subst (λ y. dummy_size y ≤ S / 8) d.2 (h.positions v.0 d.0 v.1 d.1)
      | inr made ↦ fits e.position made.0
    ];
  }

-- what is among versions of which one is another is it, or was among them
on-cases : (j : ℕ) (f : Version → Version) (vs : List Version) (w : Version) → Contains (on_version j f vs) w → Contains vs w ⊎ ((v : Version) × Contains vs v × (f v ≡ w))
on-cases j f [] w on = inl on
on-cases zero f (v ∷ vs) w on = elim (elem-cases (f v) w vs on) [ inl same ↦ inr (v, elem-first v vs, same) | inr later ↦ inl (elem-later v w vs later) ]
on-cases (suc j) f (v ∷ vs) w on = elim (elem-cases v w (on_version j f vs) on) [
  | inl same ↦ inl (subst (Contains (v ∷ vs)) same (elem-first v vs))
  | inr later ↦ elim (on-cases j f vs w later) [
    | inl old ↦ inl (elem-later v w vs old)
    | inr made ↦ inr (made.0, elem-later v made.0 vs made.1, made.2)
  ]
]

-- where a version has no row but those that it had, and dummies at positions that fit
pub fit-changed : (S j : ℕ) (f : Version → Version) (may : Pos → Type 0) → ((x : Pos) → may x → dummy_size x ≤ S / 8) → (vs : List Version) → ((v : Version) → IsWithin may v (f v)) → FitTogether S vs → FitTogether S (on_version j f vs)
fit-changed S j f may fits vs less h = fit-within S may fits vs (on_version j f vs) (λ w on. elim (on-cases j f vs w on) [
  | inl old ↦ (w, old, within-itself may w)
  | inr made ↦ (made.0, made.1, subst (IsWithin may made.0) made.2 (less made.0))
]) h

pub fit-split : (S j : ℕ) (x : Pos) (vs : List Version) → dummy_size x ≤ S / 8 → FitTogether S vs → FitTogether S (on_version j (λ c. with_entries (gap_split x c.entries) c) vs)
fit-split S j x vs fits h = fit-changed S j (λ c. with_entries (gap_split x c.entries) c) (λ y. y ≡ x) (λ y e. subst (λ z. dummy_size z ≤ S / 8) (sym e) fits) vs (within-split x) h

-- ---- an entry that is taken out is not the last one before the end, or another one is that then

last_end : (front : List Entry) (e end : Entry) → EndsWithDummy (front ++ (e ∷ end ∷ [])) → end.position ≡ end_position
last_end [] e end h = h.0
last_end (f ∷ []) e end h = h.0
last_end (f ∷ g ∷ front) e end h = last_end (g ∷ front) e end h

not-at : (x y : Pos) → x ≢ y → false ≡ eq_by_cmp pos_cmp x y
not-at x y ne = told (eq_by_cmp pos_cmp x y) refl
  where
    told : (b : Bool) → b ≡ eq_by_cmp pos_cmp x y → false ≡ b
    told true is = absurd (ne ((eq_by_cmp-same pos_cmp_total pos_cmp_same x y true is).0 refl))
    told false is = refl

first-last : (m : Mark) (front : List Entry) (e end : Entry) → EndsAlike (with_first_gap m (front ++ (e ∷ end ∷ []))) e.position
first-last m [] e end = record { front = []; inner = with_gap m e; last = end; split = refl; position = refl }
first-last m (f ∷ front) e end = record { front = with_gap m f ∷ front; inner = e; last = end; split = refl; position = refl }

taken-last : (m : Mark) (x : Pos) (front : List Entry) (e end : Entry) → x ≢ e.position → x ≢ end.position → EndsAlike (take_out m x (front ++ (e ∷ end ∷ []))) e.position
taken-last m x [] e end ne last = record {
  front = [];
  inner = e;
  last = end;
  split = (λ i. cond (sym (not-at x e.position ne) i) (with_first_gap m (end ∷ [])) (e ∷ take_out m x (end ∷ []))) ∙ (λ i. e ∷ cond (sym (not-at x end.position last) i) (with_first_gap m []) (end ∷ take_out m x []));
  position = refl;
}
taken-last m x (f ∷ front) e end ne last = told (eq_by_cmp pos_cmp x f.position) (taken-last m x front e end ne last)
  where
    told : (b : Bool) → EndsAlike (take_out m x (front ++ (e ∷ end ∷ []))) e.position → EndsAlike (cond b (with_first_gap m (front ++ (e ∷ end ∷ []))) (f ∷ take_out m x (front ++ (e ∷ end ∷ [])))) e.position
    told true k = first-last m front e end
    told false k = record { front = f ∷ k.front; inner = k.inner; last = k.last; split = ap (λ l. f ∷ l) k.split; position = k.position }

pub last-dropped : (v : Version) (x : Pos) → EndsWithDummy v.entries → x ≢ end_position → (at : Option Pos) → at ≢ Some x → IsLastInner v at → IsLastInner (with_entries (drop_at x v.entries) v) at
last-dropped v x ends inner at ne l =
    let end_at : l.2.position ≡ end_position = last_end l.0 l.1 l.2 (subst EndsWithDummy l.3 ends) in
    let k = taken-last lost_mark x l.0 l.1 l.2 (λ e. ne (l.4 ∙ ap (λ y. Some y) (sym e))) (λ e. inner (e ∙ end_at)) in
    (k.front, k.inner, k.last, ap (drop_at x) l.3 ∙ k.split, l.4 ∙ ap (λ y. Some y) (sym k.position))
