-- The gap behind a place, version by version.
use Rattle.std.proofs.Common.{◌≡◌, ⊎_elim, inl, inr, ℕ, ◌+◌, ◌<◌, Bool, true, false, cond, List, [], ◌∷◌, ◌++◌, Option, Some, None, length, take, refl, sym, ap, ◌∙◌, subst, arith, append_assoc, length-append}
use Rattle.std.specs.Prelude.{IfSome, IsSomeAnd}
use Rattle.std.specs.Option.{option_to_list}
use Rattle.std.specs.Ordering.{is_lt}
use Rattle.std.proofs.lemmas.List.{map-append, take_at}
use Rattle.rc_cell.specs.declared.writes.Tomb.{Tomb}
use Rattle.rc_cell.specs.Greatest.{greater}
use Rattle.rc_cell.specs.Orders.{tomb_cmp}
use Rattle.rc_cell.specs.Winner.{greatest}
use Rattle.rc_cell.specs.laws.Greatest.{greatest-none}
use Rattle.rc_position.specs.declared.positions.Pos.{Pos}
use Rattle.rc_position.specs.Position.{IsBefore, pos_cmp}
use Rattle.rc_position.specs.laws.Orders.{pos_cmp_total}
use Rattle.rc_ranges.specs.laws.Greater.{greatest-both}
use Rattle.rc_ranges.specs.laws.Order.{lt-before}
use Rattle.rc_core.specs.AtPlace.{HasEntryAt}
use Rattle.rc_core.specs.Chain.{states_at}
use Rattle.rc_core.specs.Continuity.{EachOf}
use Rattle.rc_core.specs.declared.entries.Entry.{Entry}
use Rattle.rc_core.specs.declared.entries.Flag.{Flag}
use Rattle.rc_core.specs.declared.entries.Flag.TheVariants.{Known, Unknown, Inherit}
use Rattle.rc_core.specs.declared.entries.Mark.{Mark}
use Rattle.rc_core.specs.Parts.{IsClear, IsReach, SomeHasEntryAt}
use Rattle.rc_core.specs.SpotState.{SpotState, over, spot_state, through, under}
use Rattle.rc_core.specs.Steps.{pin_at}
use Rattle.rc_core.specs.Version.{Behind, Version, end_position, finding_in, finding_of, state_at, state_of}
use Rattle.rc_core.specs.laws.Folding.{through-append, under-above}
use Rattle.rc_core.specs.laws.Losing.{tomb-alone}
use Rattle.rc_core.specs.laws.Pins.{pin-is-pinned}
use Rattle.rc_core.specs.laws.Surgery.{each-of-both}
use Rattle.rc_memory.specs.Kept.{IsSoundChain}
use Rattle.rc_memory.specs.Memory.{HasVersion, IsVersionAt, KeptChain, Memory, chain_at}
use Rattle.rc_stream.specs.Places.{Reaches}
use Rattle.rc_agreement.specs.declared.gaps.GapBehind.{GapBehind}
use Rattle.rc_agreement.specs.calls.Gaps.{IsGapSeen, IsNextAt, IsLaidOver, flag_above, nearer_end, tomb_above}
use Rattle.rc_agreement.proofs.Orders.{before-reached, before-reaches, lt-is, lt-reached}

-- ---- flags and tombstones

flag-over : (f : Flag) (below : SpotState) (ts : List Tomb) → flag_above below.flag f ≡ (over f below (spot_state f [] ts)).flag
flag-over Known below ts = refl
flag-over Unknown below ts = refl
flag-over Inherit below ts = refl

tomb-over : (f : Flag) (below : SpotState) (mark : Mark) → tomb_above (greatest tomb_cmp below.tombs) mark f ≡ greatest tomb_cmp (over f below (spot_state f [] (option_to_list mark.tomb))).tombs
tomb-over Known below mark = sym (tomb-alone mark.tomb)
tomb-over Unknown below mark = sym (tomb-alone mark.tomb)
tomb-over Inherit below mark = ap (greater tomb_cmp (greatest tomb_cmp below.tombs)) (sym (tomb-alone mark.tomb)) ∙ sym (greatest-both below.tombs (option_to_list mark.tomb))

-- one more version over others
one-more : (x : Pos) (older : List Version) (v : Version) → through (states_at (Behind x) (older ++ v ∷ [])) ≡ under (through (states_at (Behind x) older)) (state_at (Behind x) v)
one-more x older v =
    ap through (map-append (λ w. state_at (Behind x) w) older (v ∷ []))
    ∙ through-append (states_at (Behind x) older) (state_at (Behind x) v ∷ [])
    ∙ ap (under (through (states_at (Behind x) older))) (under-above (state_at (Behind x) v))

-- ---- where it ends

sooner-clear : (x to far : Pos) → Reaches to far → (es : List Entry) → IsClear x far es → IsClear x to es
sooner-clear x to far h [] c = tt
sooner-clear x to far h (e ∷ es) c = (λ l m. c.0 l (before-reached e.position to far m h), sooner-clear x to far h es c.1)

sooner-each : (x to far : Pos) → Reaches to far → (vs : List Version) → EachOf (λ v. IsClear x far v.entries) vs → EachOf (λ v. IsClear x to v.entries) vs
sooner-each x to far h [] c = tt
sooner-each x to far h (v ∷ vs) c = (sooner-clear x to far h v.entries c.0, sooner-each x to far h vs c.1)

some-front : (x : Pos) (front back : List Version) → SomeHasEntryAt x front → SomeHasEntryAt x (front ++ back)
some-front x [] back h = absurd h
some-front x (v ∷ vs) back (inl h) = inl h
some-front x (v ∷ vs) back (inr h) = inr (some-front x vs back h)

some-last : (x : Pos) (front : List Version) (v : Version) → HasEntryAt x v.entries → SomeHasEntryAt x (front ++ v ∷ [])
some-last x [] v h = inl h
some-last x (w ∷ vs) v h = inr (some-last x vs v h)

-- as far as before
same-reach : (older : List Version) (v : Version) (x to : Pos) → IsReach older x end_position to → IsClear x to v.entries → IsReach (older ++ v ∷ []) x end_position to
same-reach older v x to r clear = record {
  ahead = r.ahead;
  within = r.within;
  clear = each-of-both (λ w. IsClear x to w.entries) older (v ∷ []) r.clear (clear, tt);
  stops = ⊎_elim (λ e. inl e) (λ s. inr (some-front to older (v ∷ []) s)) r.stops;
}

nearer-by : (older : List Version) (v : Version) (x to y : Pos) → IsReach older x end_position to → IsNextAt x v.entries (Some y) → (b : Bool) → is_lt (pos_cmp y to) ≡ b → IsReach (older ++ v ∷ []) x end_position (cond b y to)
nearer-by older v x to y r n true e =
    let sooner : IsBefore y to = lt-before y to (lt-is y to ∙ e) in record {
      ahead = n.0;
      within = inr (⊎_elim (λ d. subst (IsBefore y) d sooner) (λ m. pos_cmp_total.trans y to end_position sooner m) r.within);
      clear = each-of-both (λ w. IsClear x y w.entries) older (v ∷ []) (sooner-each x y to (before-reaches y to sooner) older r.clear) (n.2, tt);
      stops = inr (some-last y older v n.1);
    }
nearer-by older v x to y r n false e = same-reach older v x to r (sooner-clear x to y (lt-reached to y (lt-is y to ∙ e)) v.entries n.2)

nearer : (older : List Version) (v : Version) (x to : Pos) (next : Option Pos) → IsReach older x end_position to → IsNextAt x v.entries next → IsReach (older ++ v ∷ []) x end_position (nearer_end to next)
nearer older v x to None r n = same-reach older v x to r (n to)
nearer older v x to (Some y) r n = nearer-by older v x to y r n (is_lt (pos_cmp y to)) refl

-- ---- version by version

pub gap-none : (x : Pos) (gap : GapBehind) → IsBefore x end_position → gap.flag ≡ Inherit → gap.tomb ≡ None → gap.to ≡ end_position → IsGapSeen [] x gap
gap-none x gap inside f t e = record {
  flag = f;
  tomb = t ∙ sym (greatest-none tomb_cmp);
  reach = record { ahead = subst (IsBefore x) (sym e) inside; within = inl e; clear = tt; stops = inl e };
}

gap-of : (older : List Version) (v : Version) (x : Pos) (below : GapBehind) → IsGapSeen older x below → (mark : Mark) (next : Option Pos) → finding_in (Behind x) v.entries ≡ finding_of mark None → IsNextAt x v.entries next → (now : GapBehind) → now.flag ≡ flag_above below.flag mark.flag → now.tomb ≡ tomb_above below.tomb mark mark.flag → now.to ≡ nearer_end below.to next → IsGapSeen (older ++ v ∷ []) x now
gap-of older v x below h mark next says n now f t e =
    let here : state_at (Behind x) v ≡ spot_state mark.flag [] (option_to_list mark.tomb) = ap state_of says in
    let all : through (states_at (Behind x) (older ++ v ∷ [])) ≡ over mark.flag (through (states_at (Behind x) older)) (spot_state mark.flag [] (option_to_list mark.tomb)) = one-more x older v ∙ ap (under (through (states_at (Behind x) older))) here in record {
      flag = f ∙ ap (λ g. flag_above g mark.flag) h.flag ∙ flag-over mark.flag (through (states_at (Behind x) older)) (option_to_list mark.tomb) ∙ ap (λ (s : SpotState). s.flag) (sym all);
      tomb = t ∙ ap (λ o. tomb_above o mark mark.flag) h.tomb ∙ tomb-over mark.flag (through (states_at (Behind x) older)) mark ∙ ap (λ (s : SpotState). greatest tomb_cmp s.tombs) (sym all);
      reach = subst (IsReach (older ++ v ∷ []) x end_position) (sym e) (nearer older v x below.to next h.reach n);
    }

pub gap-more : (older : List Version) (v : Version) (x : Pos) (below now : GapBehind) → IsGapSeen older x below → IsLaidOver x v below now → IsGapSeen (older ++ v ∷ []) x now
gap-more older v x below now h o = gap-of older v x below h o.0 o.1 o.2.0 o.2.1 now (ap (λ (g : GapBehind). g.flag) o.3) (ap (λ (g : GapBehind). g.tomb) o.3) (ap (λ (g : GapBehind). g.to) o.3)

-- ---- by number

pub versions-below : (vs : List Version) (j : ℕ) (v : Version) (at : IsVersionAt vs j v) → take j vs ≡ at.older
versions-below vs j v at = ap (take j) at.split ∙ take_at at.older (v ∷ at.newer) j at.number

pub versions-upto : (vs : List Version) (j i : ℕ) (v : Version) (at : IsVersionAt vs j v) → i ≡ j + 1 → take i vs ≡ at.older ++ v ∷ []
versions-upto vs j i v at e =
    ap (take i) (at.split ∙ sym (append_assoc at.older (v ∷ []) at.newer))
    ∙ take_at (at.older ++ v ∷ []) at.newer i (let long = length-append at.older (v ∷ []) in let n = at.number in omega (arith, long, n, e))

-- a snapshot pins a version that its chain has
pub pinned-low : (m : Memory) (id pin : ℕ) (k : KeptChain) (j : ℕ) → ((i : ℕ) → IfSome (chain_at m i) (λ q. IsSoundChain q.chain)) → chain_at m id ≡ Some k → pin_at k.chain.pins pin ≡ Some j → j < length k.chain.versions
pinned-low m id pin k j sound there pinned =
    let s : IsSoundChain k.chain = subst (λ (o : Option KeptChain). IfSome o (λ q. IsSoundChain q.chain)) there (sound id) in
    s.pins j (pin-is-pinned k.chain.pins pin j pinned)

pub has-version : (m : Memory) (id : ℕ) (k : KeptChain) (j : ℕ) → chain_at m id ≡ Some k → j < length k.chain.versions → HasVersion m id j
has-version m id k j there low = subst (λ (o : Option KeptChain). IsSomeAnd o (λ q. j < length q.chain.versions)) (sym there) low
