-- Seeing through versions is a fold in a monoid, and gives what the definitions by the base say.
use Rattle.std.specs.Prelude.{◌≡◌, ◌<◌, ℕ, zero, suc, true, false, List, [], ◌∷◌, ◌++◌, Option, Some, None, cond, drop}
use Rattle.std.specs.List.{flat_map}
use Rattle.std.proofs.Common.{refl, sym, ap, ◌∙◌, subst, arith, append-nil}
use Rattle.std.proofs.lemmas.List.{append_assoc}
use Rattle.rc_cell.specs.declared.rows.Row.{Row}
use Rattle.rc_cell.specs.declared.writes.Tomb.{Tomb}
use Rattle.rc_core.specs.declared.entries.ChainKind.{ChainKind}
use Rattle.rc_core.specs.declared.entries.Flag.{Flag}
use Rattle.rc_core.specs.declared.entries.Flag.TheVariants.{Known, Unknown, Inherit}
use Rattle.rc_core.specs.SpotState.{SpotState, spot_state, silent, under, through, joined_state}
use Rattle.rc_core.specs.Chain.{base, newer_first, from_number, first_flag, has_flag, flagged_from, flag_over, decides, is_known, content}

pub same_cell : {f g : Flag} {rs qs : List Row} {ts us : List Tomb} → f ≡ g → rs ≡ qs → ts ≡ us → spot_state f rs ts ≡ spot_state g qs us
same_cell a b c = λ i. spot_state (a i) (b i) (c i)

below_parts : (f : Flag) (rs : List Row) (ts : List Tomb) → under silent (spot_state f rs ts) ≡ spot_state f rs ts
below_parts Known rs ts = refl
below_parts Unknown rs ts = refl
below_parts Inherit rs ts = refl

pub under-below : (c : SpotState) → under silent c ≡ c
under-below c = below_parts c.flag c.rows c.tombs

pub under-above : (c : SpotState) → under c silent ≡ c
under-above c = same_cell refl (append-nil c.rows) (append-nil c.tombs)

grouping_two : (a : SpotState) (g : Flag) (qs : List Row) (us : List Tomb) (rs : List Row) (ts : List Tomb) → under (under a (spot_state g qs us)) (spot_state Inherit rs ts) ≡ under a (under (spot_state g qs us) (spot_state Inherit rs ts))
grouping_two a Known qs us rs ts = refl
grouping_two a Unknown qs us rs ts = refl
grouping_two a Inherit qs us rs ts = same_cell refl (append_assoc a.rows qs rs) (append_assoc a.tombs us ts)

grouping_parts : (a b : SpotState) (f : Flag) (rs : List Row) (ts : List Tomb) → under (under a b) (spot_state f rs ts) ≡ under a (under b (spot_state f rs ts))
grouping_parts a b Known rs ts = refl
grouping_parts a b Unknown rs ts = refl
grouping_parts a b Inherit rs ts = grouping_two a b.flag b.rows b.tombs rs ts

pub under-grouping : (a b c : SpotState) → under (under a b) c ≡ under a (under b c)
under-grouping a b c = grouping_parts a b c.flag c.rows c.tombs

pub through-append : (older newer : List SpotState) → through (older ++ newer) ≡ under (through older) (through newer)
through-append [] newer = sym (under-below (through newer))
through-append (c ∷ cs) newer = ap (under c) (through-append cs newer) ∙ sym (under-grouping c (through cs) (through newer))

-- ---- the base

-- the number in it
abbrev number : Option ℕ → ℕ
number None = 0
number (Some i) = i

-- the flag of the base; Inherit where there is none
abbrev pub flag_from : Option ℕ → List SpotState → Flag
flag_from (Some i) cells = first_flag (drop i cells)
flag_from None cells = Inherit

pub base-found : (cells : List SpotState) (i : ℕ) → base cells ≡ Some i → decides (first_flag (drop i cells)) ≡ true
base-found [] i e = absurd (cc)
base-found (c ∷ cs) i e =
    elim (base cs) as (λ b. base cs ≡ b → newer_first c.flag b ≡ Some i → decides (first_flag (drop i (c ∷ cs))) ≡ true) [
      | Some k ↦ λ h g. subst (λ n. decides (first_flag (drop n (c ∷ cs))) ≡ true) (ap number g) (base-found cs k h)
      | None ↦ λ h g. elim (decides c.flag) as (λ d. decides c.flag ≡ d → cond d (Some 0) None ≡ Some i → decides (first_flag (drop i (c ∷ cs))) ≡ true) [
        | true ↦ λ d k. subst (λ n. decides (first_flag (drop n (c ∷ cs))) ≡ true) (ap number k) d
        | false ↦ λ d k. absurd (cc)
      ] refl g
    ] refl e

none-decides : (f : Flag) (b : Option ℕ) → newer_first f b ≡ None → decides f ≡ false
none-decides f (Some n) e = absurd (cc)
none-decides Known None e = absurd (cc)
none-decides Unknown None e = absurd (cc)
none-decides Inherit None e = refl

pub base-none : (cells : List SpotState) (k : ℕ) → base cells ≡ None → decides (first_flag (drop k cells)) ≡ false
base-none [] zero e = refl
base-none [] (suc k) e = refl
base-none (c ∷ cs) zero e = none-decides c.flag (base cs) e
base-none (c ∷ cs) (suc k) e =
    elim (base cs) as (λ b. base cs ≡ b → newer_first c.flag b ≡ None → decides (first_flag (drop k cs)) ≡ false) [
      | Some n ↦ λ h g. absurd (cc)
      | None ↦ λ h g. base-none cs k h
    ] refl e

pub base-newest : (cells : List SpotState) (i k : ℕ) → base cells ≡ Some i → i < k → decides (first_flag (drop k cells)) ≡ false
base-newest [] i k e lt = absurd (cc)
base-newest (c ∷ cs) i zero e lt = absurd (omega arith)
base-newest (c ∷ cs) i (suc k) e lt =
    elim (base cs) as (λ b. base cs ≡ b → newer_first c.flag b ≡ Some i → decides (first_flag (drop k cs)) ≡ false) [
      | Some n ↦ λ h g. let same : suc n ≡ i = ap number g in base-newest cs n k h (omega arith)
      | None ↦ λ h g. base-none cs k h
    ] refl e

decided_over : (c : SpotState) (f : Flag) (rs : List Row) (ts : List Tomb) → decides f ≡ true → under c (spot_state f rs ts) ≡ spot_state f rs ts
decided_over c Known rs ts d = refl
decided_over c Unknown rs ts d = refl
decided_over c Inherit rs ts d = absurd (cc)

-- the state that the definitions by the base give
abbrev by_base : Option ℕ → List SpotState → SpotState
by_base b cells = spot_state (flag_from b cells) (flat_map (λ (c : SpotState). c.rows) (from_number b cells)) (flat_map (λ (c : SpotState). c.tombs) (from_number b cells))

alone : (f : Flag) (rs : List Row) (ts : List Tomb) (cs : List SpotState) → under (spot_state f rs ts) (by_base None cs) ≡ by_base (newer_first f None) (spot_state f rs ts ∷ cs)
alone Known rs ts cs = refl
alone Unknown rs ts cs = refl
alone Inherit rs ts cs = refl

pub through-base : (cells : List SpotState) → through cells ≡ by_base (base cells) cells
through-base [] = refl
through-base (c ∷ cs) =
    ap (under c) (through-base cs)
    ∙ elim (base cs) as (λ b. base cs ≡ b → under c (by_base b cs) ≡ by_base (newer_first c.flag b) (c ∷ cs)) [
      | Some i ↦ λ h. decided_over c _ _ _ (base-found cs i h)
      | None ↦ λ h. alone c.flag c.rows c.tombs cs
    ] refl

known_or_not : (kind : ChainKind) (f : Flag) → decides f ≡ true → is_known f ≡ flag_over kind f
known_or_not kind Known d = refl
known_or_not kind Unknown d = refl
known_or_not kind Inherit d = absurd (cc)

pub flagged-through : (kind : ChainKind) (cells : List SpotState) → has_flag kind cells ≡ flag_over kind (through cells).flag
flagged-through kind cells =
    elim (base cells) as (λ b. base cells ≡ b → flagged_from kind b cells ≡ flag_over kind (flag_from b cells)) [
      | Some i ↦ λ h. known_or_not kind (first_flag (drop i cells)) (base-found cells i h)
      | None ↦ λ h. refl
    ] refl
    ∙ ap (λ (c : SpotState). flag_over kind c.flag) (sym (through-base cells))

pub content-through : (cells : List SpotState) → content cells ≡ joined_state (through cells)
content-through cells = ap joined_state (sym (through-base cells))
