-- Versions of which some lost objects, each in its place: what is seen through them is as before or Unknown.
use Rattle.std.specs.Prelude.{◌≡◌, ℕ, zero, suc, List, [], ◌∷◌, Option, Some, None, take, map as list_map}
use Rattle.std.specs.List.{cons_option}
use Rattle.std.proofs.Common.{refl, ap, ◌∙◌, inl, inr}
use Rattle.rc_cell.specs.declared.rows.Row.{Row}
use Rattle.rc_cell.specs.declared.writes.Tomb.{Tomb}
use Rattle.rc_cell.specs.Orders.{tomb_cmp}
use Rattle.rc_cell.specs.Winner.{greatest}
use Rattle.rc_position.specs.declared.positions.Pos.{Pos}
use Rattle.rc_position.specs.Position.{Place}
use Rattle.rc_core.specs.declared.entries.ChainKind.TheVariants.{Cache}
use Rattle.rc_core.specs.SpotState.{SpotState, through}
use Rattle.rc_core.specs.Chain.{IsKnown, content, states_at}
use Rattle.rc_core.specs.Chains.{IsCarried}
use Rattle.rc_core.specs.Continuity.{EachOf, IsEvicted, IsKeptOrLost, IsSameOrLost, SameOrLost, version_tombs}
use Rattle.rc_core.specs.Steps.{but_newest, on_version, pinned_by_snapshot}
use Rattle.rc_core.specs.Version.{Behind, IsVersion, On, Version, state_at, static_state}
use Rattle.rc_core.specs.laws.Losing.{kept-same, known-before, same_or_lost-above, same_or_lost-below}

-- ---- one version

kept_then : (a b c : SpotState) → IsKeptOrLost a b → IsKeptOrLost b c → IsKeptOrLost a c
kept_then a b c (inl e) (inl f) = inl (f ∙ e)
kept_then a b c (inr e) (inl f) = inr (f ∙ e)
kept_then a b c h (inr f) = inr f

pub evicted-itself : (v : Version) → IsEvicted v v
evicted-itself v = record { statics = inl refl; clustered = λ s. inl refl; head = refl }

pub evicted-then : (u v w : Version) → IsEvicted u v → IsEvicted v w → IsEvicted u w
evicted-then u v w a b = record {
  statics = kept_then (static_state u) (static_state v) (static_state w) a.statics b.statics;
  clustered = λ s. kept_then (state_at s u) (state_at s v) (state_at s w) (a.clustered s) (b.clustered s);
  head = b.head ∙ a.head;
}

-- ---- each of several

abbrev pub EachEvicted : List Version → List Version → Type 0
EachEvicted [] [] = Unit {0}
EachEvicted [] (w ∷ ws) = ⊥
EachEvicted (v ∷ vs) [] = ⊥
EachEvicted (v ∷ vs) (w ∷ ws) = IsEvicted v w × EachEvicted vs ws

pub each-itself : (vs : List Version) → EachEvicted vs vs
each-itself [] = tt
each-itself (v ∷ vs) = (evicted-itself v, each-itself vs)

pub each-then : (us vs ws : List Version) → EachEvicted us vs → EachEvicted vs ws → EachEvicted us ws
each-then [] [] ws a b = b
each-then [] (v ∷ vs) ws a b = absurd a
each-then (u ∷ us) [] ws a b = absurd a
each-then (u ∷ us) (v ∷ vs) [] a b = absurd b
each-then (u ∷ us) (v ∷ vs) (w ∷ ws) a b = (evicted-then u v w a.0 b.0, each-then us vs ws a.1 b.1)

pub each-on : (j : ℕ) (f : Version → Version) (vs : List Version) → ((v : Version) → IsVersion v → IsEvicted v (f v)) → EachOf IsVersion vs → EachEvicted vs (on_version j f vs)
each-on j f [] lost h = tt
each-on zero f (v ∷ vs) lost h = (lost v h.0, each-itself vs)
each-on (suc j) f (v ∷ vs) lost h = (evicted-itself v, each-on j f vs lost h.1)

pub each-of-on : (j : ℕ) (f : Version → Version) (vs : List Version) → ((v : Version) → IsVersion v → IsVersion (f v)) → EachOf IsVersion vs → EachOf IsVersion (on_version j f vs)
each-of-on j f [] is h = h
each-of-on zero f (v ∷ vs) is h = (is v h.0, h.1)
each-of-on (suc j) f (v ∷ vs) is h = (h.0, each-of-on j f vs is h.1)

pub each-take : (n : ℕ) (vs ws : List Version) → EachEvicted vs ws → EachEvicted (take n vs) (take n ws)
each-take n [] [] h = each-itself (take n [])
each-take n [] (w ∷ ws) h = absurd h
each-take n (v ∷ vs) [] h = absurd h
each-take zero (v ∷ vs) (w ∷ ws) h = tt
each-take (suc n) (v ∷ vs) (w ∷ ws) h = (h.0, each-take n vs ws h.1)

pub each-but : (vs ws : List Version) → EachEvicted vs ws → EachEvicted (but_newest vs) (but_newest ws)
each-but [] [] h = tt
each-but [] (w ∷ ws) h = absurd h
each-but (v ∷ vs) [] h = absurd h
each-but (v ∷ []) (w ∷ []) h = tt
each-but (v ∷ []) (w ∷ x ∷ ws) h = absurd h.1
each-but (v ∷ u ∷ vs) (w ∷ []) h = absurd h.1
each-but (v ∷ u ∷ vs) (w ∷ x ∷ ws) h = (h.0, each-but (u ∷ vs) (x ∷ ws) h.1)

-- ---- what is seen through them

same_then : (a b c : SpotState) → SameOrLost a b → SameOrLost b c → SameOrLost a c
same_then a b c h (inr f) = inr f
same_then a b c (inl e) (inl f) = inl (f ∙ e)
same_then a b c (inr e) (inl f) = inr (ap (λ (s : SpotState). s.flag) f ∙ e)

through_each : (f : Version → SpotState) → ((v w : Version) → IsEvicted v w → IsKeptOrLost (f v) (f w)) → (vs ws : List Version) → EachEvicted vs ws → SameOrLost (through (list_map f vs)) (through (list_map f ws))
through_each f one [] [] h = inl refl
through_each f one [] (w ∷ ws) h = absurd h
through_each f one (v ∷ vs) [] h = absurd h
through_each f one (v ∷ vs) (w ∷ ws) h =
    same_then (through (list_map f (v ∷ vs))) (through (f w ∷ list_map f vs)) (through (list_map f (w ∷ ws)))
    (same_or_lost-above (f v) (f w) (through (list_map f vs)) (kept-same (f v) (f w) (one v w h.0)))
    (same_or_lost-below (f w) (through (list_map f vs)) (through (list_map f ws)) (through_each f one vs ws h.1))

tombs_each : (vs ws : List Version) → EachEvicted vs ws → version_tombs ws ≡ version_tombs vs
tombs_each [] [] h = refl
tombs_each [] (w ∷ ws) h = absurd h
tombs_each (v ∷ vs) [] h = absurd h
tombs_each (v ∷ vs) (w ∷ ws) h = ap (λ t. cons_option t (version_tombs ws)) h.0.head ∙ ap (cons_option v.pt) (tombs_each vs ws h.1)

pub each-seen : (vs ws : List Version) → EachEvicted vs ws → IsSameOrLost vs ws
each-seen vs ws h = record {
  statics = through_each static_state (λ v w e. e.statics) vs ws h;
  clustered = λ s. through_each (state_at s) (λ v w e. e.clustered s) vs ws h;
  head = ap (greatest tomb_cmp) (tombs_each vs ws h);
}

-- ---- what is known then was known

module _ (before now : List Version) (h : IsSameOrLost before now) (x : Pos) (k : IsKnown Cache now x) where
  pub known-falls : IsKnown Cache before x
  known-falls =
      let on = known-before (states_at (On x) before) (states_at (On x) now) (h.clustered (On x)) k.at in record {
        at = on.0;
        gap = λ bare. (known-before (states_at (Behind x) before) (states_at (Behind x) now) (h.clustered (Behind x)) (k.gap (record { inside = bare.inside; no_row = ap (λ (a : Row × Option Tomb). a.0) on.1 ∙ bare.no_row }))).0;
      }

  pub known-alike : content (states_at (On x) now) ≡ content (states_at (On x) before)
  known-alike = (known-before (states_at (On x) before) (states_at (On x) now) (h.clustered (On x)) k.at).1

-- so what is carried then was carried
pub carried-falls : (place : Option Place) (vs ws : List Version) (x : Pos) → EachEvicted vs ws → IsCarried place (pinned_by_snapshot place ws) ws x → IsCarried place (pinned_by_snapshot place vs) vs x
carried-falls None vs ws x h k = known-falls vs ws (each-seen vs ws h) x k
carried-falls (Some p) vs ws x h k = (known-falls (but_newest vs) (but_newest ws) (each-seen (but_newest vs) (but_newest ws) (each-but vs ws h)) x k.0, λ early. known-falls vs ws (each-seen vs ws h) x (k.1 early))
