-- The entry of a version that is next behind a place, and what the version says over the gap up to it.
use Rattle.std.proofs.Common.{◌≡◌, List, [], ◌∷◌, ◌++◌, Some, None, inl, inr, refl, sym, ap, ◌∙◌, subst, append_assoc}
use Rattle.std.specs.declared.cmp.Ordering.TheVariants.{Less, Equal, Greater}
use Rattle.rc_position.specs.declared.positions.Pos.{Pos}
use Rattle.rc_position.specs.Position.{IsBefore, pos_cmp}
use Rattle.lsa_store.specs.declared.place.Ref.{Ref}
use Rattle.lsa_region.specs.Region.{View}
use Rattle.lsa_tree.specs.declared.tree.Place.TheVariants.{Before, Last}
use Rattle.lsa_tree.specs.Entries.{IsEntryAtPosition}
use Rattle.lsa_tree.specs.Search.{IsFound, first_entry}
use Rattle.lsa_tree.specs.laws.Orders.{not-both, stands-once}
use Rattle.rc_core.specs.AtPlace.{EachEntry, HasEntryAt}
use Rattle.rc_core.specs.declared.entries.Entry.{Entry}
use Rattle.rc_core.specs.Parts.{IsClear}
use Rattle.rc_core.specs.Plain.{no_mark}
use Rattle.rc_core.specs.Version.{Ascend, Behind, Version, entry_answers, finding_in, finding_of, gap_ordering, spot_cmp}
use Rattle.rc_core.specs.laws.Placed.{each-wider}
use Rattle.rc_core.specs.laws.Surgery.{back-above, front-below}
use Rattle.rc_version.specs.Versions.{HoldEntries, IsVersionOf}
use Rattle.rc_version.specs.laws.Holding.{AreAround, IsAround, around, both-around, each-earlier, later-at, none-held}
use Rattle.rc_version.specs.laws.Objects.{holds-stands}
use Rattle.rc_agreement.specs.calls.Gaps.{IsFirstBehind, IsNextAt, IsNextEntry, StandsUpTo}
use Rattle.rc_agreement.proofs.Orders.{never}

-- ---- of entries

-- those before a place do not stand behind it
earlier-upto : (x : Pos) (es : List Entry) → EachEntry (λ e. IsBefore e.position x) es → EachEntry (StandsUpTo x) es
earlier-upto x es h = each-wider (λ e. IsBefore e.position x) (StandsUpTo x) (λ e l m. not-both x e.position m l) es h

upto-both : (x : Pos) (front back : List Entry) → EachEntry (StandsUpTo x) front → EachEntry (StandsUpTo x) back → EachEntry (StandsUpTo x) (front ++ back)
upto-both x [] back f b = b
upto-both x (e ∷ es) back f b = (f.0, upto-both x es back f.1 b)

answers-not : (x : Pos) (e : Entry) → StandsUpTo x e → spot_cmp (Behind x) e.position ≡ Greater
answers-not x e h = elim (pos_cmp x e.position) as (λ r. pos_cmp x e.position ≡ r → gap_ordering r ≡ Greater) [
  | Less ↦ λ o. absurd (h o)
  | Equal ↦ λ o. refl
  | Greater ↦ λ o. refl
] refl

passed : (x : Pos) (front rest : List Entry) → EachEntry (StandsUpTo x) front → finding_in (Behind x) (front ++ rest) ≡ finding_in (Behind x) rest
passed x [] rest h = refl
passed x (e ∷ es) rest h = ap (λ r. entry_answers r e (finding_in (Behind x) (es ++ rest))) (answers-not x e h.0) ∙ passed x es rest h.1

-- where none stands behind the place nothing is said over the gap
pub seen-none : (x : Pos) (es : List Entry) → EachEntry (StandsUpTo x) es → finding_in (Behind x) es ≡ finding_of no_mark None
seen-none x [] h = refl
seen-none x (e ∷ es) h = ap (λ r. entry_answers r e (finding_in (Behind x) es)) (answers-not x e h.0) ∙ seen-none x es h.1

pub none-clear : (x to : Pos) (es : List Entry) → EachEntry (StandsUpTo x) es → IsClear x to es
none-clear x to [] h = tt
none-clear x to (e ∷ es) h = (λ l m. h.0 l, none-clear x to es h.1)

clear-both : (x to : Pos) (front back : List Entry) → IsClear x to front → IsClear x to back → IsClear x to (front ++ back)
clear-both x to [] back f b = b
clear-both x to (e ∷ es) back f b = (f.0, clear-both x to es back f.1 b)

clear-behind : (x to : Pos) (es : List Entry) → EachEntry (λ e. IsBefore to e.position) es → IsClear x to es
clear-behind x to [] h = tt
clear-behind x to (e ∷ es) h = (λ l m. not-both to e.position h.0 m, clear-behind x to es h.1)

has-amid : (front : List Entry) (e : Entry) (back : List Entry) → HasEntryAt e.position (front ++ (e ∷ back))
has-amid [] e back = inl refl
has-amid (f ∷ front) e back = inr (has-amid front e back)

module _ (x : Pos) (entries : List Entry) (e : Entry) (h : IsFirstBehind x entries e) where
  -- the next one says what is over the gap
  pub seen-first : finding_in (Behind x) entries ≡ finding_of e.gap None
  seen-first = ap (finding_in (Behind x)) h.is ∙ passed x h.before (e ∷ h.behind) h.upto ∙ ap (λ r. entry_answers (gap_ordering r) e (finding_in (Behind x) h.behind)) h.ahead

  pub next-first : IsNextAt x entries (Some e.position)
  next-first = (
    h.ahead,
    subst (HasEntryAt e.position) (sym h.is) (has-amid h.before e h.behind),
    subst (IsClear x e.position) (sym h.is) (clear-both x e.position h.before (e ∷ h.behind) (none-clear x e.position h.before h.upto) (λ l m. never e.position m, clear-behind x e.position h.behind h.others)),
  )

-- ---- of the objects of a version

module _ (v : View) (n : Ref) (x : Pos) where
  -- the first behind the place, where none stands at it
  pub entry-before : (refs : List Ref) (c : Version) → IsVersionOf v n refs c → (r : Ref) → IsFound v refs x (Before r) → IsNextEntry v x c.entries (Some r)
  entry-before refs c h r f =
      let w : IsAround v f.0 r f.1 c.entries = around v f.0 r f.1 c.entries (subst (λ l. HoldEntries v l c.entries) f.2 h.entries) in (
        w.here,
        w.holds,
        record {
          before = w.before;
          behind = w.behind;
          is = w.is;
          upto = earlier-upto x w.before (each-earlier v x f.0 w.before w.held_before f.3.before);
          ahead = later-at v x r w.here w.holds f.3.behind.0;
          others = back-above w.before w.here w.behind (subst Ascend w.is h.version.ascend);
        },
      )

  at-upto : (e : Entry) → e.position ≡ x → StandsUpTo x e
  at-upto e at l = never x (subst (IsBefore x) at l)

  before-upto : (y : Pos) → y ≡ x → (es : List Entry) → EachEntry (λ f. IsBefore f.position y) es → EachEntry (StandsUpTo x) es
  before-upto y at es h = earlier-upto x es (subst (λ z. EachEntry (λ f. IsBefore f.position z) es) at h)

  -- the one behind that at the place
  pub entry-after : (front : List Ref) (e : Ref) (back : List Ref) (c : Version) → IsVersionOf v n (front ++ (e ∷ back)) c → IsEntryAtPosition v e x → IsNextEntry v x c.entries (first_entry back)
  entry-after front e [] c h stands =
      let w : IsAround v front e [] c.entries = around v front e [] c.entries h.entries in
      let at : w.here.position ≡ x = stands-once v e w.here.position x (holds-stands v e w.here w.holds) stands in
      let alone : c.entries ≡ w.before ++ (w.here ∷ []) = w.is ∙ ap (λ (l : List Entry). w.before ++ (w.here ∷ l)) (none-held v w.behind w.held_behind) in
      subst (EachEntry (StandsUpTo x)) (sym alone) (upto-both x w.before (w.here ∷ []) (before-upto w.here.position at w.before (front-below w.before w.here [] (subst Ascend alone h.version.ascend))) (at-upto w.here at, tt))
  entry-after front e (q ∷ back) c h stands =
      let w : AreAround v front e q back c.entries = both-around v front e q back c.entries h.entries in
      let at : w.here.position ≡ x = stands-once v e w.here.position x (holds-stands v e w.here w.holds) stands in
      let ascend : Ascend (w.before ++ (w.here ∷ w.there ∷ w.behind)) = subst Ascend w.is h.version.ascend in
      let above : EachEntry (λ f. IsBefore w.here.position f.position) (w.there ∷ w.behind) = back-above w.before w.here (w.there ∷ w.behind) ascend in
      let grouped : w.before ++ (w.here ∷ w.there ∷ w.behind) ≡ (w.before ++ (w.here ∷ [])) ++ (w.there ∷ w.behind) = sym (append_assoc w.before (w.here ∷ []) (w.there ∷ w.behind)) in (
        w.there,
        w.next_holds,
        record {
          before = w.before ++ (w.here ∷ []);
          behind = w.behind;
          is = w.is ∙ grouped;
          upto = upto-both x w.before (w.here ∷ []) (before-upto w.here.position at w.before (front-below w.before w.here (w.there ∷ w.behind) ascend)) (at-upto w.here at, tt);
          ahead = subst (λ y. IsBefore y w.there.position) at above.0;
          others = back-above (w.before ++ (w.here ∷ [])) w.there w.behind (subst Ascend grouped ascend);
        },
      )

  -- none, where all stand before the place
  pub entry-none : (refs : List Ref) (c : Version) → IsVersionOf v n refs c → IsFound v refs x Last → IsNextEntry v x c.entries None
  entry-none refs c h f = earlier-upto x c.entries (each-earlier v x refs c.entries h.entries f.before)
