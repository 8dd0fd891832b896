-- What holds of each entry of a version, and of each version of a chain, where something is done to them; and of versions up to one of them.
use Rattle.std.proofs.Common.{◌≡◌, ◌⊎◌, ◌<◌, ◌≤◌, ℕ, zero, suc, true, false, cond, List, [], ◌∷◌, ◌++◌, length, map, get_or, take, inl, inr, refl, sym, ap, ◌∙◌, subst, arith}
use Rattle.std.specs.Ordering.{eq_by_cmp}
use Rattle.std.specs.declared.cmp.Ordering.{Ordering}
use Rattle.std.specs.declared.cmp.Ordering.TheVariants.{Less, Equal, Greater}
use Rattle.std.proofs.lemmas.List.{map-append}
use Rattle.rc_position.specs.declared.positions.Pos.{Pos}
use Rattle.rc_position.specs.Position.{pos_cmp}
use Rattle.rc_core.specs.declared.entries.Entry.{Entry}
use Rattle.rc_core.specs.declared.entries.Mark.{Mark}
use Rattle.rc_core.specs.AtPlace.{EachEntry}
use Rattle.rc_core.specs.Chains.{phase_at, phases, upto}
use Rattle.rc_core.specs.Change.{dummy, gap_split, lose_last_gap, lost_mark, split_by, take_out, with_first_gap, with_gap}
use Rattle.rc_core.specs.Continuity.{EachOf}
use Rattle.rc_core.specs.Steps.{on_newest, on_version}
use Rattle.rc_core.specs.Version.{Version}

-- ---- numbers

pub low-or : (a b : ℕ) → (a < b) ⊎ (b ≤ a)
low-or zero zero = inr (omega arith)
low-or zero (suc b) = inl (omega arith)
low-or (suc a) zero = inr (omega arith)
low-or (suc a) (suc b) = elim (low-or a b) [ inl l ↦ inl (omega (arith, l)) | inr h ↦ inr (omega (arith, h)) ]

-- ---- entries

pub each-map : (P Q : Entry → Type 0) (g : Entry → Entry) → ((e : Entry) → P e → Q (g e)) → (es : List Entry) → EachEntry P es → EachEntry Q (map g es)
each-map P Q g keeps [] h = tt
each-map P Q g keeps (e ∷ es) h = (keeps e h.0, each-map P Q g keeps es h.1)

module _ (P : Entry → Type 0) (x : Pos) (made : (m : Mark) → P (dummy x m)) where
  split-by-each : (r : Ordering) (e : Entry) (es rest : List Entry) → EachEntry P (e ∷ es) → EachEntry P rest → EachEntry P (split_by r x e es rest)
  split-by-each Less e es rest h k = (made e.gap, h)
  split-by-each Equal e es rest h k = h
  split-by-each Greater e es rest h k = (h.0, k)

  pub split-each : (es : List Entry) → EachEntry P es → EachEntry P (gap_split x es)
  split-each [] h = tt
  split-each (e ∷ es) h = split-by-each (pos_cmp x e.position) e es (gap_split x es) h (split-each es h.1)

module _ (P : Entry → Type 0) (gaps : (m : Mark) (e : Entry) → P e → P (with_gap m e)) where
  first-gap-each : (m : Mark) (es : List Entry) → EachEntry P es → EachEntry P (with_first_gap m es)
  first-gap-each m [] h = tt
  first-gap-each m (e ∷ es) h = (gaps m e h.0, h.1)

  pub taken-each : (m : Mark) (x : Pos) (es : List Entry) → EachEntry P es → EachEntry P (take_out m x es)
  taken-each m x [] h = tt
  taken-each m x (e ∷ es) h = elim (eq_by_cmp pos_cmp x e.position) as (λ b. EachEntry P (cond b (with_first_gap m es) (e ∷ take_out m x es))) [
    | true ↦ first-gap-each m es h.1
    | false ↦ (h.0, taken-each m x es h.1)
  ]

  pub last-gap-each : (es : List Entry) → EachEntry P es → EachEntry P (lose_last_gap es)
  last-gap-each [] h = tt
  last-gap-each (e ∷ []) h = (gaps lost_mark e h.0, tt)
  last-gap-each (e ∷ f ∷ es) h = (h.0, last-gap-each (f ∷ es) h.1)

-- ---- versions

pub on-each : (P : Version → Type 0) (j : ℕ) (f : Version → Version) → ((v : Version) → P v → P (f v)) → (vs : List Version) → EachOf P vs → EachOf P (on_version j f vs)
on-each P j f keeps [] h = tt
on-each P zero f keeps (v ∷ vs) h = (keeps v h.0, h.1)
on-each P (suc j) f keeps (v ∷ vs) h = (h.0, on-each P j f keeps vs h.1)

-- one thing holds of each older version, and another of the newest one
abbrev pub OlderAndNewest : (Version → Type 0) → (Version → Type 0) → List Version → Type 0
OlderAndNewest P Q [] = Unit {0}
OlderAndNewest P Q (v ∷ []) = Q v
OlderAndNewest P Q (v ∷ w ∷ vs) = P v × OlderAndNewest P Q (w ∷ vs)

module _ (P Q : Version → Type 0) where
  pub older-and : ((v : Version) → P v → Q v) → (vs : List Version) → EachOf P vs → OlderAndNewest P Q vs
  older-and weaker [] h = tt
  older-and weaker (v ∷ []) h = weaker v h.0
  older-and weaker (v ∷ w ∷ vs) h = (h.0, older-and weaker (w ∷ vs) h.1)

  pub on-both : (j : ℕ) (f : Version → Version) → ((v : Version) → P v → P (f v)) → ((v : Version) → Q v → Q (f v)) → (vs : List Version) → OlderAndNewest P Q vs → OlderAndNewest P Q (on_version j f vs)
  on-both j f keeps stays [] h = tt
  on-both zero f keeps stays (v ∷ []) h = stays v h
  on-both zero f keeps stays (v ∷ w ∷ vs) h = (keeps v h.0, h.1)
  on-both (suc j) f keeps stays (v ∷ []) h = h
  on-both (suc zero) f keeps stays (v ∷ w ∷ []) h = (h.0, stays w h.1)
  on-both (suc zero) f keeps stays (v ∷ w ∷ x ∷ vs) h = (h.0, on-both zero f keeps stays (w ∷ x ∷ vs) h.1)
  on-both (suc (suc j)) f keeps stays (v ∷ w ∷ vs) h = (h.0, on-both (suc j) f keeps stays (w ∷ vs) h.1)

  pub on-last : (f : Version → Version) → ((v : Version) → Q v → Q (f v)) → (vs : List Version) → OlderAndNewest P Q vs → OlderAndNewest P Q (on_newest f vs)
  on-last f stays [] h = tt
  on-last f stays (v ∷ []) h = stays v h
  on-last f stays (v ∷ w ∷ []) h = (h.0, stays w h.1)
  on-last f stays (v ∷ w ∷ x ∷ vs) h = (h.0, on-last f stays (w ∷ x ∷ vs) h.1)

  -- what holds of the newest version where the other does, by those before it
  pub settle : (front vs : List Version) → OlderAndNewest P Q vs → ((older : List Version) (v : Version) → front ++ vs ≡ older ++ v ∷ [] → Q v → P v) → EachOf P vs
  settle front [] h last = tt
  settle front (v ∷ []) h last = (last front v refl h, tt)
  settle front (v ∷ w ∷ vs) h last = (h.0, settle (front ++ v ∷ []) (w ∷ vs) h.1 (λ older x e. last older x (sym (again front v (w ∷ vs)) ∙ e)))
    where
      again : (front : List Version) (v : Version) (vs : List Version) → (front ++ v ∷ []) ++ vs ≡ front ++ v ∷ vs
      again [] v vs = refl
      again (f ∷ fs) v vs = ap (λ us. f ∷ us) (again fs v vs)

pub newest-long : (f : Version → Version) (vs : List Version) → length (on_newest f vs) ≡ length vs
newest-long f [] = refl
newest-long f (v ∷ []) = refl
newest-long f (v ∷ w ∷ vs) = ap suc (newest-long f (w ∷ vs))

pub newest-upto : (f : Version → Version) (vs : List Version) (i : ℕ) → suc i < length vs → upto (on_newest f vs) i ≡ upto vs i
newest-upto f [] i low = refl
newest-upto f (v ∷ []) i low = absurd (omega (arith, low))
newest-upto f (v ∷ w ∷ vs) zero low = refl
newest-upto f (v ∷ w ∷ vs) (suc i) low = ap (λ us. v ∷ us) (newest-upto f (w ∷ vs) i (omega (arith, low)))

pub newest-phases : (f : Version → Version) → ((v : Version) → (f v).phase ≡ v.phase) → (vs : List Version) → phases (on_newest f vs) ≡ phases vs
newest-phases f same [] = refl
newest-phases f same (v ∷ []) = ap (λ p. p ∷ []) (same v)
newest-phases f same (v ∷ w ∷ vs) = ap (λ ps. v.phase ∷ ps) (newest-phases f same (w ∷ vs))

pub newest-phase : (f : Version → Version) → ((v : Version) → (f v).phase ≡ v.phase) → (vs : List Version) (i : ℕ) → phase_at (on_newest f vs) i ≡ phase_at vs i
newest-phase f same vs i = ap (λ ps. get_or ps i 0) (newest-phases f same vs)

-- ---- versions up to a number

cut : (j : ℕ) (front back : List Version) → ((x : Version) → upto (front ++ x ∷ back) j ≡ upto front j) ⊎ ((n : ℕ) × ((x : Version) → upto (front ++ x ∷ back) j ≡ front ++ x ∷ take n back))
cut j [] back = inr (j, λ x. refl)
cut zero (f ∷ fs) back = inl (λ x. refl)
cut (suc j) (f ∷ fs) back = elim (cut j fs back) [ inl h ↦ inl (λ x. ap (λ vs. f ∷ vs) (h x)) | inr h ↦ inr (h.0, λ x. ap (λ vs. f ∷ vs) (h.1 x)) ]

-- what a change of one version keeps of it and newer ones it keeps of those up to a number
pub upto-kept : (P : List Version → Type 0) (front back : List Version) (v w : Version) → ((newer : List Version) → P (front ++ v ∷ newer) → P (front ++ w ∷ newer)) → (j : ℕ) → P (upto (front ++ v ∷ back) j) → P (upto (front ++ w ∷ back) j)
upto-kept P front back v w step j h = elim (cut j front back) [
  | inl e ↦ subst P (e v ∙ sym (e w)) h
  | inr e ↦ subst P (sym (e.1 w)) (step (take e.0 back) (subst P (e.1 v) h))
]

pub same-phases : (front back : List Version) (v w : Version) → w.phase ≡ v.phase → (j : ℕ) → phase_at (front ++ w ∷ back) j ≡ phase_at (front ++ v ∷ back) j
same-phases front back v w e j = ap (λ ps. get_or ps j 0) (map-append (λ (x : Version). x.phase) front (w ∷ back) ∙ ap (λ n. map (λ (x : Version). x.phase) front ++ n ∷ map (λ (x : Version). x.phase) back) e ∙ sym (map-append (λ (x : Version). x.phase) front (v ∷ back)))

-- all versions are those up to the newest
pub upto-newest : (vs : List Version) (j : ℕ) → suc j ≡ length vs → upto vs j ≡ vs
upto-newest [] j e = absurd (omega (arith, e))
upto-newest (v ∷ []) zero e = refl
upto-newest (v ∷ []) (suc j) e = absurd (omega (arith, e))
upto-newest (v ∷ w ∷ vs) zero e = absurd (omega (arith, e))
upto-newest (v ∷ w ∷ vs) (suc j) e = ap (λ us. v ∷ us) (upto-newest (w ∷ vs) j (omega (arith, e)))
