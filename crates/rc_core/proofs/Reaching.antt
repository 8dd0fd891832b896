-- Where the gap behind a position ends, entry by entry and version by version.
use Rattle.std.specs.Prelude.{◌≡◌, ◌≢◌, ◌⊎◌, ◌≤◌, ◌<◌, ◌-◌, true, false, List, [], ◌∷◌, length, take, drop, map as list_map}
use Rattle.std.proofs.Common.{get_or, refl, sym, ap, ◌∙◌, subst, ⊎_elim, inl, inr, arith}
use Rattle.std.proofs.lemmas.List.{take_rest}
use Rattle.std.specs.declared.cmp.Ordering.TheVariants.{Less, Equal, Greater}
use Rattle.std.specs.Ordering.{is_gt}
use Rattle.rc_position.specs.declared.positions.Pos.{Pos}
use Rattle.rc_position.specs.Position.{pos_cmp, IsBefore}
use Rattle.rc_position.specs.laws.Orders.{pos_cmp_total, pos_cmp_same}
use Rattle.rc_position.specs.laws.Bounds.{last_pos-greatest}
use Rattle.rc_core.specs.declared.entries.Entry.{Entry}
use Rattle.rc_core.specs.declared.slow.PlainVersion.{PlainVersion}
use Rattle.rc_core.specs.Slow.{plain}
use Rattle.rc_core.specs.Version.{Version, end_position}
use Rattle.rc_core.specs.Parts.{IsClear, IsReach}
use Rattle.rc_core.specs.calls.Parts.{IsNearer}
use Rattle.rc_core.specs.AtPlace.{HasEntryAt}
use Rattle.rc_core.proofs.Parting.{never}

-- what is before r is before what r is not behind
pub upto_before : (r to q : Pos) → (r ≡ to) ⊎ IsBefore r to → IsBefore q r → IsBefore q to
upto_before r to q h l = ⊎_elim (λ e. subst (IsBefore q) e l) (λ m. pos_cmp_total.trans q r to l m) h

upto_upto : (r mid to : Pos) → (r ≡ mid) ⊎ IsBefore r mid → (mid ≡ to) ⊎ IsBefore mid to → (r ≡ to) ⊎ IsBefore r to
upto_upto r mid to h k = ⊎_elim (λ e. ⊎_elim (λ d. inl (e ∙ d)) (λ m. inr (subst (λ y. IsBefore y to) (sym e) m)) k) (λ l. inr (⊎_elim (λ d. subst (IsBefore r) d l) (λ m. pos_cmp_total.trans r mid to l m) k)) h

-- ---- one entry

pub not_nearer : (x to : Pos) (e : Entry) (es : List Entry) (r : Pos) → (IsBefore x e.position → IsBefore e.position to → ⊥) → IsNearer x to r es → IsNearer x to r (e ∷ es)
not_nearer x to e es r off n = record { ahead = n.ahead; within = n.within; clear = (λ l m. off l (upto_before r to e.position n.within m), n.clear); stops = ⊎_elim inl (λ h. inr (inr h)) n.stops }

pub is_nearer : (x to : Pos) (e : Entry) (es : List Entry) (r : Pos) → IsBefore e.position to → IsNearer x e.position r es → IsNearer x to r (e ∷ es)
is_nearer x to e es r l n = record {
  ahead = n.ahead;
  within = upto_upto r e.position to n.within (inr l);
  clear = (λ _ m. never e.position (upto_before r e.position e.position n.within m), n.clear);
  stops = inr (⊎_elim (λ h. inl (sym h)) inr n.stops);
}

pub nearest : (x to : Pos) → IsBefore x to → IsNearer x to to []
nearest x to l = record { ahead = l; within = inl refl; clear = tt; stops = inl refl }

-- ---- one version

sooner_clear : (x r mid : Pos) (es : List Entry) → (r ≡ mid) ⊎ IsBefore r mid → IsClear x mid es → IsClear x r es
sooner_clear x r mid [] h c = tt
sooner_clear x r mid (e ∷ es) h c = (λ l m. c.0 l (upto_before r mid e.position h m), sooner_clear x r mid es h c.1)

pub reach_further : (x to mid : Pos) (v : Version) (vs : List Version) (r : Pos) → IsNearer x to mid v.entries → IsReach vs x mid r → IsReach (v ∷ vs) x to r
reach_further x to mid v vs r n s = record {
  ahead = s.ahead;
  within = upto_upto r mid to s.within n.within;
  clear = (sooner_clear x r mid v.entries s.within n.clear, s.clear);
  stops = ⊎_elim (λ e. ⊎_elim (λ d. inl (e ∙ d)) (λ h. inr (inl (subst (λ y. HasEntryAt y v.entries) (sym e) h))) n.stops) (λ h. inr (inr h)) s.stops;
}

pub reached : (x to : Pos) → IsBefore x to → IsReach [] x to to
reached x to l = record { ahead = l; within = inl refl; clear = tt; stops = inl refl }

-- ---- steps of the loops

-- whatever is nearest by what is left is nearest by all
abbrev pub Nearest : Pos → Pos → Pos → List Entry → List Entry → Type 0
Nearest x to first left all = IsBefore x to × ((r : Pos) → IsNearer x to r left → IsNearer x first r all)

abbrev pub Reaches : Pos → Pos → Pos → List Version → List Version → Type 0
Reaches x to upto left all = IsBefore x to × ((r : Pos) → IsReach left x to r → IsReach all x upto r)

pub pass_over : (x to first : Pos) (left all : List Entry) (e : Entry) → 1 ≤ length left → e ≡ get_or left 0 e → (IsBefore x e.position → IsBefore e.position to → ⊥) → Nearest x to first left all → Nearest x to first (take (length left - 1) (drop 1 left)) all
pass_over x to first [] all e l is off n = absurd (omega (arith, l))
pass_over x to first (f ∷ es) all e l is off n = subst (λ us. Nearest x to first us all) (sym (take_rest (f ∷ es) 1)) (n.0, λ r h. n.1 r (subst (λ g. IsNearer x to r (g ∷ es)) is (not_nearer x to e es r off h)))

pub take_it : (x to mid first : Pos) (left all : List Entry) (e : Entry) → 1 ≤ length left → e ≡ get_or left 0 e → mid ≡ e.position → IsBefore x e.position → IsBefore e.position to → Nearest x to first left all → Nearest x mid first (take (length left - 1) (drop 1 left)) all
take_it x to mid first [] all e l is same a b n = absurd (omega (arith, l))
take_it x to mid first (f ∷ es) all e l is same a b n =
    subst (λ us. Nearest x mid first us all) (sym (take_rest (f ∷ es) 1))
    (subst (λ y. Nearest x y first es all) (sym same) (a, λ r h. n.1 r (subst (λ g. IsNearer x to r (g ∷ es)) is (is_nearer x to e es r b h))))

pub next_version : (x to mid upto : Pos) (left : List PlainVersion) (all : List Version) (v : PlainVersion) → 1 ≤ length left → v ≡ get_or left 0 v → IsNearer x to mid v.entries.items → Reaches x to upto (list_map plain left) all →
    Reaches x mid upto (list_map plain (take (length left - 1) (drop 1 left))) all
next_version x to mid upto [] all v l is n h = absurd (omega (arith, l))
next_version x to mid upto (u ∷ us) all v l is n h =
    subst (λ ws. Reaches x mid upto (list_map plain ws) all) (sym (take_rest (u ∷ us) 1))
    (n.ahead, λ r s. h.1 r (subst (λ g. IsReach (plain g ∷ list_map plain us) x to r) is (reach_further x to mid (plain v) (list_map plain us) r n s)))

pub none_left : (x to first : Pos) (left all : List Entry) → length left < 1 → Nearest x to first left all → IsNearer x first to all
none_left x to first [] all l n = n.1 to (nearest x to n.0)
none_left x to first (e ∷ es) all l n = absurd (omega (arith, l))

-- ---- orders

pub before_the_end : (x upto : Pos) → IsBefore x upto → IsBefore x end_position
before_the_end x upto l = elim (pos_cmp upto end_position) as (λ r. pos_cmp upto end_position ≡ r → IsBefore x end_position) [
  | Less ↦ λ e. pos_cmp_total.trans x upto end_position l e
  | Equal ↦ λ e. subst (IsBefore x) (pos_cmp_same upto end_position e) l
  | Greater ↦ λ e. let u : false ≡ true = sym (last_pos-greatest upto) ∙ ap is_gt e in absurd (cc)
] refl
