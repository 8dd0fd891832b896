-- What a version's entries say of a place, by where the search for it ended.
use Rattle.std.proofs.Common.{◌≡◌, List, [], ◌∷◌, ◌++◌, Some, None, refl, ap, ◌∙◌, subst}
use Rattle.std.specs.Cmp.{tied_itself}
use Rattle.std.specs.declared.cmp.Ordering.TheVariants.{Less, Greater}
use Rattle.rc_position.specs.declared.positions.Pos.{Pos}
use Rattle.rc_position.specs.Position.{pos_cmp, IsBefore}
use Rattle.rc_position.specs.laws.Orders.{pos_cmp_total}
use Rattle.lsa_store.specs.declared.place.Ref.{Ref}
use Rattle.lsa_region.specs.Region.{View}
use Rattle.lsa_tree.specs.declared.tree.Place.TheVariants.{Here, Before}
use Rattle.lsa_tree.specs.Entries.{IsEntryAtPosition}
use Rattle.lsa_tree.specs.Search.{IsFound, first_entry}
use Rattle.lsa_tree.specs.laws.Orders.{stands-once}
use Rattle.rc_core.specs.AtPlace.{EachEntry}
use Rattle.rc_core.specs.declared.entries.Entry.{Entry}
use Rattle.rc_core.specs.declared.slow.Side.{Side}
use Rattle.rc_core.specs.declared.slow.Side.TheVariants as side
use Rattle.rc_core.specs.laws.Placed.{each-wider}
use Rattle.rc_core.specs.laws.Spots.{turn_to}
use Rattle.rc_core.specs.laws.Surgery.{front-below, seen-behind, seen-on}
use Rattle.rc_core.specs.Plain.{no_mark}
use Rattle.rc_core.specs.Slow.{spot_at}
use Rattle.rc_core.specs.Version.{Ascend, Behind, On, Spot, Version, entry_answers, finding_in, finding_of, gap_ordering, spot_cmp}
use Rattle.rc_object.specs.Objects.{HoldsEntry}
use Rattle.rc_partition.specs.Versions.{HoldEntries, IsVersionOf}
use Rattle.rc_partition.specs.Holding.{AreAround, IsAround, around, both-around, each-earlier, later-at, none-held}
use Rattle.rc_partition.specs.Objects.{holds-stands}

-- ---- over entries

-- entries before the place do not answer
passed : (s : Spot) (front rest : List Entry) → EachEntry (λ f. spot_cmp s f.position ≡ Greater) front → finding_in s (front ++ rest) ≡ finding_in s rest
passed s [] rest h = refl
passed s (f ∷ fs) rest h = ap (λ r. entry_answers r f (finding_in s (fs ++ rest))) h.0 ∙ passed s fs rest h.1

-- a place stands to other positions as its position does
side_behind : (which : Side) (x y : Pos) → pos_cmp x y ≡ Greater → spot_cmp (spot_at which x) y ≡ Greater
side_behind side.On x y e = e
side_behind side.Behind x y e = ap gap_ordering e

side_before : (which : Side) (x y : Pos) → pos_cmp x y ≡ Less → spot_cmp (spot_at which x) y ≡ Less
side_before side.On x y e = e
side_before side.Behind x y e = ap gap_ordering e

gap_answers : (which : Side) (x : Pos) (front : List Entry) (next : Entry) (rest : List Entry) → EachEntry (λ f. IsBefore f.position x) front → IsBefore x next.position → finding_in (spot_at which x) (front ++ (next ∷ rest)) ≡ finding_of next.gap None
gap_answers which x front next rest before less =
    passed (spot_at which x) front (next ∷ rest) (each-wider (λ f. IsBefore f.position x) (λ f. spot_cmp (spot_at which x) f.position ≡ Greater) (λ f l. side_behind which x f.position (turn_to f.position x Less l)) front before)
    ∙ ap (λ r. entry_answers r next (finding_in (spot_at which x) rest)) (side_before which x next.position less)

nothing_behind : (front : List Entry) (e : Entry) → Ascend (front ++ (e ∷ [])) → finding_in (Behind e.position) (front ++ (e ∷ [])) ≡ finding_of no_mark None
nothing_behind front e a =
    passed (Behind e.position) front (e ∷ []) (each-wider (λ f. IsBefore f.position e.position) (λ f. spot_cmp (Behind e.position) f.position ≡ Greater) (λ f l. ap gap_ordering (turn_to f.position e.position Less l)) front (front-below front e [] a))
    ∙ ap (λ r. entry_answers (gap_ordering r) e (finding_in (Behind e.position) [])) (tied_itself pos_cmp_total e.position)

-- ---- over the objects of a version

module _ (v : View) (n : Ref) (refs : List Ref) (c : Version) (h : IsVersionOf v n refs c) (x : Pos) where
  -- the entry at the position
  pub found-on : (e : Ref) → IsFound v refs x (Here e) → (y : Entry) × HoldsEntry v e y × (finding_in (On x) c.entries ≡ finding_of y.at y.row)
  found-on e f =
      let w : IsAround v f.0 e f.1 c.entries = around v f.0 e f.1 c.entries (subst (λ l. HoldEntries v l c.entries) f.2 h.entries) in
      let at : w.here.position ≡ x = stands-once v e w.here.position x (holds-stands v e w.here w.holds) f.3 in
      (w.here, w.holds, ap (finding_in (On x)) w.is ∙ subst (λ z. finding_in (On z) (w.before ++ (w.here ∷ w.behind)) ≡ finding_of w.here.at w.here.row) at (seen-on w.before w.here w.behind (subst Ascend w.is h.version.ascend)))

  -- the next entry behind it
  pub found-gap : (which : Side) (e : Ref) → IsFound v refs x (Before e) → (y : Entry) × HoldsEntry v e y × (finding_in (spot_at which x) c.entries ≡ finding_of y.gap None)
  found-gap which e f =
      let w : IsAround v f.0 e f.1 c.entries = around v f.0 e f.1 c.entries (subst (λ l. HoldEntries v l c.entries) f.2 h.entries) in
      (w.here, w.holds, ap (finding_in (spot_at which x)) w.is ∙ gap_answers which x w.before w.here w.behind (each-earlier v x f.0 w.before w.held_before f.3.before) (later-at v x e w.here w.holds f.3.behind.0))

-- the entry behind that at the position
pub found-next : (v : View) (n e next : Ref) (front back : List Ref) (c : Version) (x : Pos) → IsVersionOf v n (front ++ (e ∷ back)) c → IsEntryAtPosition v e x → first_entry back ≡ Some next → (y : Entry) × HoldsEntry v next y × (finding_in (Behind x) c.entries ≡ finding_of y.gap None)
found-next v n e next front [] c x h stands is = cc is
found-next v n e next front (q ∷ back) c x h stands is =
    let same : q ≡ next = cc in
    let w : AreAround v front e q back c.entries = both-around v front e q back c.entries h.entries in
    let at : w.here.position ≡ x = stands-once v e w.here.position x (holds-stands v e w.here w.holds) stands in
    (w.there, subst (λ r. HoldsEntry v r w.there) same w.next_holds, ap (finding_in (Behind x)) w.is ∙ subst (λ z. finding_in (Behind z) (w.before ++ (w.here ∷ w.there ∷ w.behind)) ≡ finding_of w.there.gap None) at (seen-behind w.before w.here w.there w.behind (subst Ascend w.is h.version.ascend)))

-- no entry behind it
pub found-end : (v : View) (n e : Ref) (front back : List Ref) (c : Version) (x : Pos) → IsVersionOf v n (front ++ (e ∷ back)) c → IsEntryAtPosition v e x → first_entry back ≡ None → finding_in (Behind x) c.entries ≡ finding_of no_mark None
found-end v n e front [] c x h stands is =
    let w : IsAround v front e [] c.entries = around v front e [] c.entries h.entries in
    let at : w.here.position ≡ x = stands-once v e w.here.position x (holds-stands v e w.here w.holds) stands in
    let alone : c.entries ≡ w.before ++ (w.here ∷ []) = w.is ∙ ap (λ (l : List Entry). w.before ++ (w.here ∷ l)) (none-held v w.behind w.held_behind) in
    ap (finding_in (Behind x)) alone ∙ subst (λ z. finding_in (Behind z) (w.before ++ (w.here ∷ [])) ≡ finding_of no_mark None) at (nothing_behind w.before w.here (subst Ascend alone h.version.ascend))
found-end v n e front (q ∷ back) c x h stands is = cc is

pub next-held : (v : View) (n e next : Ref) (front back : List Ref) (c : Version) → IsVersionOf v n (front ++ (e ∷ back)) c → first_entry back ≡ Some next → (y : Entry) × HoldsEntry v next y
next-held v n e next front back c h is =
    let a = around v front e back c.entries h.entries in
    let w = found-next v n e next front back c a.here.position h (holds-stands v e a.here a.holds) is in (w.0, w.1)
