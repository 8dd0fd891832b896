-- What is seen after each entry of a version took something: the gap that answers at a spot, and where it belongs.
use Rattle.std.specs.Prelude.{◌⊎◌, ◌≡◌, false, List, [], ◌∷◌, None, map as list_map}
use Rattle.std.proofs.Common.{refl, sym, ap, ◌∙◌, subst, ⊎_elim}
use Rattle.std.specs.declared.cmp.Ordering.{Ordering}
use Rattle.std.specs.declared.cmp.Ordering.TheVariants.{Less, Equal, Greater}
use Rattle.std.specs.Ordering.{is_gt}
use Rattle.std.specs.Cmp.{tied_itself, upto}
use Rattle.rc_position.specs.declared.positions.Pos.{Pos}
use Rattle.rc_position.specs.Position.{pos_cmp}
use Rattle.rc_position.specs.laws.Orders.{pos_cmp_total, pos_cmp_same}
use Rattle.rc_core.specs.declared.entries.Entry.{Entry}
use Rattle.rc_core.specs.declared.entries.Flag.TheVariants.{Inherit}
use Rattle.rc_core.specs.Version.{Spot, On, Behind, gap_ordering, spot_cmp, Finding, finding_of, entry_answers, finding_in, IsBeforeEnd, IsReachedBy}
use Rattle.rc_core.specs.Change.{gap_split, mark, split_by}
use Rattle.rc_core.specs.laws.Spots.{turn_to, behind-Equal, spot-Less, spot-before}

-- ---- the gap that answers

abbrev pub GapBy : Ordering → Type 0 → Type 0 → Type 0
GapBy Less here rest = here
GapBy Equal here rest = Unit {0}
GapBy Greater here rest = rest

-- the gap that answers at a spot is that before an entry whose position has a property
abbrev pub GapIs : (Pos → Type 0) → Spot → List Entry → Type 0
GapIs P s [] = Unit {0}
GapIs P s (y ∷ ys) = GapBy (spot_cmp s y.position) (P y.position) (GapIs P s ys)

-- an entry stands at q, as far as a spot up to q can see: its gap does not reach behind q
abbrev pub CutAt : Spot → Pos → Pos → Type 0
CutAt s q y = is_gt (spot_cmp s q) ≡ false → is_gt (pos_cmp y q) ≡ false

pub gap-any : (P : Pos → Type 0) (s : Spot) (es : List Entry) → ((y : Pos) → P y) → GapIs P s es
gap-any P s [] p = tt
gap-any P s (y ∷ ys) p = elim (spot_cmp s y.position) as (λ r. GapBy r (P y.position) (GapIs P s ys)) [ Less ↦ p y.position | Equal ↦ tt | Greater ↦ gap-any P s ys p ]

cut-behind : (s : Spot) (q : Pos) (es : List Entry) → spot_cmp s q ≡ Greater → GapIs (CutAt s q) s es
cut-behind s q es g = gap-any (CutAt s q) s es (λ y h. let u : is_gt Greater ≡ false = ap is_gt (sym g) ∙ h in absurd (cc))

pub cut-split : (s : Spot) (x : Pos) (es : List Entry) → GapIs (CutAt s x) s (gap_split x es)
cut-split s x [] = tt
cut-split s x (e ∷ es) =
    elim (pos_cmp x e.position) as (λ r. pos_cmp x e.position ≡ r → GapIs (CutAt s x) s (split_by r x e es (gap_split x es))) [
      | Less ↦ λ l. elim (spot_cmp s x) as (λ r. spot_cmp s x ≡ r → GapBy r (CutAt s x x) (GapIs (CutAt s x) s (e ∷ es))) [
        | Less ↦ λ h _. ap is_gt (tied_itself pos_cmp_total x)
        | Equal ↦ λ h. tt
        | Greater ↦ λ h. cut-behind s x (e ∷ es) h
      ] refl
      | Equal ↦ λ l. elim (spot_cmp s e.position) as (λ r. spot_cmp s e.position ≡ r → GapBy r (CutAt s x e.position) (GapIs (CutAt s x) s es)) [
        | Less ↦ λ h _. ap is_gt (turn_to x e.position Equal l)
        | Equal ↦ λ h. tt
        | Greater ↦ λ h. cut-behind s x es (subst (λ y. spot_cmp s y ≡ Greater) (sym (pos_cmp_same x e.position l)) h)
      ] refl
      | Greater ↦ λ l. elim (spot_cmp s e.position) as (λ r. GapBy r (CutAt s x e.position) (GapIs (CutAt s x) s (gap_split x es))) [
        | Less ↦ λ _. ap is_gt (turn_to x e.position Greater l)
        | Equal ↦ tt
        | Greater ↦ cut-split s x es
      ]
    ] refl

pub cut-kept : (s : Spot) (q x : Pos) (es : List Entry) → GapIs (CutAt s q) s es → GapIs (CutAt s q) s (gap_split x es)
cut-kept s q x [] m = tt
cut-kept s q x (e ∷ es) m =
    elim (pos_cmp x e.position) as (λ r. pos_cmp x e.position ≡ r → GapIs (CutAt s q) s (split_by r x e es (gap_split x es))) [
      | Less ↦ λ l. elim (spot_cmp s x) as (λ r. spot_cmp s x ≡ r → GapBy r (CutAt s q x) (GapIs (CutAt s q) s (e ∷ es))) [
        | Less ↦ λ h k. upto pos_cmp_total x e.position q (ap is_gt l) (subst (λ r. GapBy r (CutAt s q e.position) (GapIs (CutAt s q) s es)) (spot-before s x e.position h l) m k)
        | Equal ↦ λ h. tt
        | Greater ↦ λ h. m
      ] refl
      | Equal ↦ λ l. m
      | Greater ↦ λ l. elim (spot_cmp s e.position) as (λ r. GapBy r (CutAt s q e.position) (GapIs (CutAt s q) s es) → GapBy r (CutAt s q e.position) (GapIs (CutAt s q) s (gap_split x es))) [
        | Less ↦ λ h. h
        | Equal ↦ λ h. tt
        | Greater ↦ λ h. cut-kept s q x es h
      ] m
    ] refl

-- ---- spots against positions

-- a spot at which an entry stands is compared as the entry is
pub on-spot : (s : Spot) (y q : Pos) → spot_cmp s y ≡ Equal → pos_cmp y q ≡ spot_cmp s q
on-spot (On x) y q e = ap (λ z. pos_cmp z q) (sym (pos_cmp_same x y e))
on-spot (Behind x) y q e = absurd (behind-Equal (pos_cmp x y) e)

after_it : (r : Ordering) (x e y : Pos) → pos_cmp x e ≡ r → (r ≡ Less → ⊥) → pos_cmp x y ≡ Less → pos_cmp e y ≡ Less
after_it Less x e y h off l = absurd (off refl)
after_it Equal x e y h off l = subst (λ z. pos_cmp z y ≡ Less) (pos_cmp_same x e h) l
after_it Greater x e y h off l = pos_cmp_total.trans e x y (turn_to x e Greater h) l

-- an entry behind a spot stands behind each position that the spot is not before
pub spot-between : (s : Spot) (e y : Pos) → (spot_cmp s e ≡ Less → ⊥) → spot_cmp s y ≡ Less → pos_cmp e y ≡ Less
spot-between (On x) e y off l = after_it (pos_cmp x e) x e y refl off l
spot-between (Behind x) e y off l = after_it (pos_cmp x e) x e y refl (λ h. off (ap gap_ordering h)) (spot-Less (Behind x) y l)

-- ---- a function on each entry

abbrev pub nothing_found : Finding
nothing_found = finding_of (mark Inherit None) None

module _ (f : Entry → Entry) (keeps : (y : Entry) → (f y).position ≡ y.position) (s : Spot) (F : Finding → Finding) (P : Pos → Type 0)
    (gaps : (y : Entry) → spot_cmp s y.position ≡ Less → P y.position → finding_of (f y).gap None ≡ F (finding_of y.gap None))
    (ats : (y : Entry) → spot_cmp s y.position ≡ Equal → finding_of (f y).at (f y).row ≡ F (finding_of y.at y.row)) where
  pub map-seen : (es : List Entry) → IsBeforeEnd s es ⊎ (F nothing_found ≡ nothing_found) → GapIs P s es → finding_in s (list_map f es) ≡ F (finding_in s es)
  map-seen [] b g = ⊎_elim (λ h. absurd h) (λ e. sym e) b
  map-seen (y ∷ ys) b g =
      ap (λ q. entry_answers (spot_cmp s q) (f y) (finding_in s (list_map f ys))) (keeps y)
      ∙ elim (spot_cmp s y.position) as (λ r. spot_cmp s y.position ≡ r → IsReachedBy r (IsBeforeEnd s ys) ⊎ (F nothing_found ≡ nothing_found) → GapBy r (P y.position) (GapIs P s ys) →
      entry_answers r (f y) (finding_in s (list_map f ys)) ≡ F (entry_answers r y (finding_in s ys))) [
        | Less ↦ λ l _ p. gaps y l p
        | Equal ↦ λ l _ _. ats y l
        | Greater ↦ λ _ h p. map-seen ys h p
      ] refl b g
