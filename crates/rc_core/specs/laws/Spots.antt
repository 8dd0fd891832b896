-- Spots against positions, and what is seen after each change of a version's entries.
use Rattle.std.specs.Prelude.{◌⊎◌, ◌≡◌, Bool, true, false, not, ◌&&◌, List, [], ◌∷◌, ◌++◌, Option, Some, None, cond, map as list_map}
use Rattle.std.proofs.Common.{refl, sym, ap, ◌∙◌, subst, inl, inr}
use Rattle.std.specs.declared.cmp.Ordering.{Ordering}
use Rattle.std.specs.declared.cmp.Ordering.TheVariants.{Less, Equal, Greater}
use Rattle.std.specs.Ordering.{ordering_reverse, is_lt, is_le, is_gt, is_eq}
use Rattle.std.specs.Cmp.{tied_itself, upto}
use Rattle.rc_cell.specs.declared.rows.Row.{Row}
use Rattle.rc_position.specs.declared.positions.Pos.{Pos}
use Rattle.rc_position.specs.Position.{pos_cmp, covers, IsBefore}
use Rattle.rc_position.specs.laws.Orders.{pos_cmp_total, pos_cmp_same}
use Rattle.rc_position.specs.laws.Bounds.{last_pos-greatest}
use Rattle.rc_core.specs.declared.entries.Entry.{Entry}
use Rattle.rc_core.specs.declared.entries.Mark.{Mark}
use Rattle.rc_core.specs.Version.{Spot, On, Behind, gap_ordering, spot_cmp, Finding, finding_of, entry_answers, finding_in, IsBeforeEnd, IsReachedBy, EndsWithDummy, Ascend, end_position}
use Rattle.rc_cell.specs.declared.writes.Tomb.{Tomb}
use Rattle.rc_core.specs.Change.{join_row_at, joined_onto, known_with, fill_row, dummy, gap_split, split_by, entry_changed, change, position_of, at_entry, drop_at, take_out, with_gap, with_first_gap, lose_last_gap, lost_mark}

-- ---- orders

turn_gt : (r : Ordering) → is_gt (ordering_reverse r) ≡ is_lt r
turn_gt Less = refl
turn_gt Equal = refl
turn_gt Greater = refl

pub turned : (x y : Pos) → is_gt (pos_cmp x y) ≡ is_lt (pos_cmp y x)
turned x y = ap is_gt (pos_cmp_total.antisymm x y) ∙ turn_gt (pos_cmp y x)

le_not_gt : (r : Ordering) → is_le r ≡ not (is_gt r)
le_not_gt Less = refl
le_not_gt Equal = refl
le_not_gt Greater = refl

not_not : (b : Bool) → not (not b) ≡ b
not_not true = refl
not_not false = refl

pub turn_to : (x y : Pos) (r : Ordering) → pos_cmp x y ≡ r → pos_cmp y x ≡ ordering_reverse r
turn_to x y r e = pos_cmp_total.antisymm y x ∙ ap ordering_reverse e

behind-Less : (r : Ordering) → gap_ordering r ≡ Less → r ≡ Less
behind-Less Less e = refl
behind-Less Equal e = absurd (cc)
behind-Less Greater e = absurd (cc)

pub behind-Equal : (r : Ordering) → gap_ordering r ≡ Equal → ⊥
behind-Equal Less e = cc
behind-Equal Equal e = cc
behind-Equal Greater e = cc

pub spot-Less : (s : Spot) (q : Pos) → spot_cmp s q ≡ Less → pos_cmp (position_of s) q ≡ Less
spot-Less (On x) q e = e
spot-Less (Behind x) q e = behind-Less (pos_cmp x q) e

pub Less-spot : (s : Spot) (q : Pos) → pos_cmp (position_of s) q ≡ Less → spot_cmp s q ≡ Less
Less-spot (On x) q e = e
Less-spot (Behind x) q e = ap gap_ordering e

behind_lt : (r : Ordering) → is_lt (gap_ordering r) ≡ is_lt r
behind_lt Less = refl
behind_lt Equal = refl
behind_lt Greater = refl

-- a spot stands before a position exactly where its own position does
pub spot-lt : (s : Spot) (q : Pos) → is_lt (spot_cmp s q) ≡ is_lt (pos_cmp (position_of s) q)
spot-lt (On x) q = refl
spot-lt (Behind x) q = behind_lt (pos_cmp x q)

pub spot-Equal : (s : Spot) (q : Pos) → spot_cmp s q ≡ Equal → position_of s ≡ q
spot-Equal (On x) q e = pos_cmp_same x q e
spot-Equal (Behind x) q e = absurd (behind-Equal (pos_cmp x q) e)

pub spot-before : (s : Spot) (q r : Pos) → spot_cmp s q ≡ Less → pos_cmp q r ≡ Less → spot_cmp s r ≡ Less
spot-before s q r e l = Less-spot s r (pos_cmp_total.trans (position_of s) q r (spot-Less s q e) l)

pub spot-at : (s : Spot) (q r : Pos) → spot_cmp s q ≡ Equal → pos_cmp q r ≡ Less → spot_cmp s r ≡ Less
spot-at s q r e l = Less-spot s r (subst (λ x. pos_cmp x r ≡ Less) (sym (spot-Equal s q e)) l)

upto_or : (s : Spot) (q r : Pos) (o : Ordering) → pos_cmp q r ≡ o → spot_cmp s q ≡ Less → is_gt o ≡ false → spot_cmp s r ≡ Less
upto_or s q r Less h e l = spot-before s q r e h
upto_or s q r Equal h e l = subst (λ x. spot_cmp s x ≡ Less) (pos_cmp_same q r h) e
upto_or s q r Greater h e l = absurd (cc)

-- ---- split

pub split-seen : (s : Spot) (x : Pos) (es : List Entry) → finding_in s (gap_split x es) ≡ finding_in s es
split-seen s x [] = refl
split-seen s x (e ∷ es) =
    elim (pos_cmp x e.position) as (λ r. pos_cmp x e.position ≡ r → finding_in s (split_by r x e es (gap_split x es)) ≡ finding_in s (e ∷ es)) [
      | Less ↦ λ l. elim (spot_cmp s x) as (λ r. spot_cmp s x ≡ r → entry_answers r (dummy x e.gap) (finding_in s (e ∷ es)) ≡ finding_in s (e ∷ es)) [
        | Less ↦ λ h. sym (ap (λ r. entry_answers r e (finding_in s es)) (spot-before s x e.position h l))
        | Equal ↦ λ h. sym (ap (λ r. entry_answers r e (finding_in s es)) (spot-at s x e.position h l))
        | Greater ↦ λ h. refl
      ] refl
      | Equal ↦ λ _. refl
      | Greater ↦ λ _. ap (entry_answers (spot_cmp s e.position) e) (split-seen s x es)
    ] refl

pub split-reaches : (s : Spot) (x : Pos) (es : List Entry) → IsBeforeEnd s es → IsBeforeEnd s (gap_split x es)
split-reaches s x [] b = b
split-reaches s x (e ∷ es) b =
    elim (pos_cmp x e.position) as (λ r. IsBeforeEnd s (split_by r x e es (gap_split x es))) [
      | Less ↦ elim (spot_cmp s x) as (λ r. IsReachedBy r (IsBeforeEnd s (e ∷ es))) [ Less ↦ tt | Equal ↦ tt | Greater ↦ b ]
      | Equal ↦ b
      | Greater ↦ elim (spot_cmp s e.position) as (λ r. IsReachedBy r (IsBeforeEnd s es) → IsReachedBy r (IsBeforeEnd s (gap_split x es))) [ Less ↦ λ _. tt | Equal ↦ λ _. tt | Greater ↦ λ h. split-reaches s x es h ] b
    ]

-- ---- change

-- where the gap before an entry answers at a spot that stands before q, the entry does not stand behind q
abbrev pub MetBy : Ordering → Spot → Pos → Entry → Type 0 → Type 0
MetBy Less s q e rest = spot_cmp s q ≡ Less → is_gt (pos_cmp e.position q) ≡ false
MetBy Equal s q e rest = Unit {0}
MetBy Greater s q e rest = rest

-- the same of the entry whose gap answers at the spot, if one does
abbrev pub Met : Spot → Pos → List Entry → Type 0
Met s q [] = Unit {0}
Met s q (e ∷ es) = MetBy (spot_cmp s e.position) s q e (Met s q es)

met-behind : (s : Spot) (q : Pos) (es : List Entry) → spot_cmp s q ≡ Greater → Met s q es
met-behind s q [] g = tt
met-behind s q (e ∷ es) g = elim (spot_cmp s e.position) as (λ r. MetBy r s q e (Met s q es)) [
  | Less ↦ λ l. let u : Less ≡ Greater = sym l ∙ g in absurd (cc)
  | Equal ↦ tt
  | Greater ↦ met-behind s q es g
]

met-split : (s : Spot) (x : Pos) (es : List Entry) → Met s x (gap_split x es)
met-split s x [] = tt
met-split s x (e ∷ es) =
    elim (pos_cmp x e.position) as (λ r. pos_cmp x e.position ≡ r → Met s x (split_by r x e es (gap_split x es))) [
      | Less ↦ λ l. elim (spot_cmp s x) as (λ r. spot_cmp s x ≡ r → MetBy r s x (dummy x e.gap) (Met s x (e ∷ es))) [
        | Less ↦ λ h k. ap is_gt (tied_itself pos_cmp_total x)
        | Equal ↦ λ h. tt
        | Greater ↦ λ h. met-behind s x (e ∷ es) h
      ] refl
      | Equal ↦ λ l. elim (spot_cmp s e.position) as (λ r. spot_cmp s e.position ≡ r → MetBy r s x e (Met s x es)) [
        | Less ↦ λ h k. ap is_gt (turn_to x e.position Equal l)
        | Equal ↦ λ h. tt
        | Greater ↦ λ h. met-behind s x es (subst (λ y. spot_cmp s y ≡ Greater) (sym (pos_cmp_same x e.position l)) h)
      ] refl
      | Greater ↦ λ l. elim (spot_cmp s e.position) as (λ r. MetBy r s x e (Met s x (gap_split x es))) [
        | Less ↦ λ k. ap is_gt (turn_to x e.position Greater l)
        | Equal ↦ tt
        | Greater ↦ met-split s x es
      ]
    ] refl

met-kept : (s : Spot) (q x : Pos) (es : List Entry) → Met s q es → Met s q (gap_split x es)
met-kept s q x [] m = tt
met-kept s q x (e ∷ es) m =
    elim (pos_cmp x e.position) as (λ r. pos_cmp x e.position ≡ r → Met s q (split_by r x e es (gap_split x es))) [
      | Less ↦ λ l. elim (spot_cmp s x) as (λ r. spot_cmp s x ≡ r → MetBy r s q (dummy x e.gap) (Met s q (e ∷ es))) [
        | Less ↦ λ h k. upto pos_cmp_total x e.position q (ap is_gt l) (subst (λ r. MetBy r s q e (Met s q es)) (spot-before s x e.position h l) m k)
        | Equal ↦ λ h. tt
        | Greater ↦ λ h. m
      ] refl
      | Equal ↦ λ l. m
      | Greater ↦ λ l. elim (spot_cmp s e.position) as (λ r. MetBy r s q e (Met s q es) → MetBy r s q e (Met s q (gap_split x es))) [
        | Less ↦ λ h. h
        | Equal ↦ λ h. tt
        | Greater ↦ λ h. met-kept s q x es h
      ] m
    ] refl

met-test : (s : Spot) (q : Pos) (e : Entry) → spot_cmp s e.position ≡ Less → (spot_cmp s q ≡ Less → is_gt (pos_cmp e.position q) ≡ false) → is_gt (pos_cmp e.position q) ≡ not (is_lt (spot_cmp s q))
met-test s q e l m =
    elim (spot_cmp s q) as (λ r. spot_cmp s q ≡ r → is_gt (pos_cmp e.position q) ≡ not (is_lt r)) [
      | Less ↦ λ h. m h
      | Equal ↦ λ h. beyond Equal h (λ u. cc)
      | Greater ↦ λ h. beyond Greater h (λ u. cc)
    ] refl
  where
    beyond : (r : Ordering) → spot_cmp s q ≡ r → (r ≡ Less → ⊥) → is_gt (pos_cmp e.position q) ≡ true
    beyond r h off = elim (is_gt (pos_cmp e.position q)) as (λ b. is_gt (pos_cmp e.position q) ≡ b → b ≡ true) [
      | true ↦ λ _. refl
      | false ↦ λ g. absurd (off (sym h ∙ upto_or s e.position q (pos_cmp e.position q) refl l g))
    ] refl

covers-spot : (s : Spot) (from to : Pos) → covers from to (position_of s) ≡ (not (is_lt (spot_cmp s from)) && is_lt (spot_cmp s to))
covers-spot s from to = λ i. (le_not_gt (pos_cmp from (position_of s)) ∙ ap not (turned from (position_of s) ∙ sym (spot-lt s from))) i && sym (spot-lt s to) i

between : (s : Spot) (from to : Pos) (e : Entry) → spot_cmp s e.position ≡ Less → (spot_cmp s from ≡ Less → is_gt (pos_cmp e.position from) ≡ false) → (spot_cmp s to ≡ Less → is_gt (pos_cmp e.position to) ≡ false) →
    (is_lt (pos_cmp from e.position) && is_le (pos_cmp e.position to)) ≡ covers from to (position_of s)
between s from to e l m n =
    (λ i. (sym (turned e.position from) ∙ met-test s from e l m) i && (le_not_gt (pos_cmp e.position to) ∙ ap not (met-test s to e l n) ∙ not_not (is_lt (spot_cmp s to))) i)
    ∙ sym (covers-spot s from to)

-- what is said with a function on the flag and tombstone
abbrev pub with_f : (Mark → Mark) → Finding → Finding
with_f f a = finding_of (f a.mark) a.row

choose : (b : Bool) (m n : Mark) (r : Option Row) → finding_of (cond b m n) r ≡ cond b (finding_of m r) (finding_of n r)
choose true m n r = refl
choose false m n r = refl

changed-seen : (f : Mark → Mark) (s : Spot) (from to : Pos) (es : List Entry) → IsBeforeEnd s es → Met s from es → Met s to es →
    finding_in s (list_map (entry_changed f from to) es) ≡ cond (covers from to (position_of s)) (with_f f (finding_in s es)) (finding_in s es)
changed-seen f s from to [] b m n = absurd b
changed-seen f s from to (e ∷ es) b m n =
    elim (spot_cmp s e.position) as (λ r. spot_cmp s e.position ≡ r → IsReachedBy r (IsBeforeEnd s es) → MetBy r s from e (Met s from es) → MetBy r s to e (Met s to es) →
    entry_answers r (entry_changed f from to e) (finding_in s (list_map (entry_changed f from to) es)) ≡ cond (covers from to (position_of s)) (with_f f (entry_answers r e (finding_in s es))) (entry_answers r e (finding_in s es))) [
      | Less ↦ λ l _ k j. choose (is_lt (pos_cmp from e.position) && is_le (pos_cmp e.position to)) (f e.gap) e.gap None ∙ ap (λ c. cond c (finding_of (f e.gap) None) (finding_of e.gap None)) (between s from to e l k j)
      | Equal ↦ λ l _ k j. choose (covers from to e.position) (f e.at) e.at e.row ∙ ap (λ x. cond (covers from to x) (finding_of (f e.at) e.row) (finding_of e.at e.row)) (sym (spot-Equal s e.position l))
      | Greater ↦ λ l h k j. changed-seen f s from to es h k j
    ] refl b m n

pub change-seen : (f : Mark → Mark) (s : Spot) (from to : Pos) (es : List Entry) → IsBeforeEnd s es →
    finding_in s (change f from to es) ≡ cond (covers from to (position_of s)) (with_f f (finding_in s es)) (finding_in s es)
change-seen f s from to es b =
    changed-seen f s from to (gap_split to (gap_split from es)) (split-reaches s to (gap_split from es) (split-reaches s from es b)) (met-kept s from to (gap_split from es) (met-split s from es)) (met-split s to (gap_split from es))
    ∙ ap (λ a. cond (covers from to (position_of s)) (with_f f a) a) (split-seen s to (gap_split from es) ∙ split-seen s from es)

-- ---- one position

-- by where x stands against an entry: at it, or behind it and the rest decides
abbrev pub StandsBy : Ordering → Type 0 → Type 0
StandsBy Less rest = ⊥
StandsBy Equal rest = Unit {0}
StandsBy Greater rest = rest

-- an entry stands at x
abbrev pub StandsAt : Pos → List Entry → Type 0
StandsAt x [] = ⊥
StandsAt x (e ∷ es) = StandsBy (pos_cmp x e.position) (StandsAt x es)

pub split-stands : (x : Pos) (es : List Entry) → IsBeforeEnd (On x) es → StandsAt x (gap_split x es)
split-stands x [] b = b
split-stands x (e ∷ es) b =
    elim (pos_cmp x e.position) as (λ r. pos_cmp x e.position ≡ r → IsReachedBy r (IsBeforeEnd (On x) es) → StandsAt x (split_by r x e es (gap_split x es))) [
      | Less ↦ λ h _. subst (λ r. StandsBy r (StandsAt x (e ∷ es))) (sym (tied_itself pos_cmp_total x)) tt
      | Equal ↦ λ h _. subst (λ r. StandsBy r (StandsAt x es)) (sym h) tt
      | Greater ↦ λ h k. subst (λ r. StandsBy r (StandsAt x (gap_split x es))) (sym h) (split-stands x es k)
    ] refl b

module _ (ro : Option Row → Option Row) (ma : Mark → Mark) where
  abbrev put : Entry → Entry
  put e = record { position = e.position; row = ro e.row; at = ma e.at; gap = e.gap }

  pub at_entry-other : (s : Spot) (x : Pos) (es : List Entry) → (spot_cmp s x ≡ Equal → ⊥) → finding_in s (at_entry x put es) ≡ finding_in s es
  at_entry-other s x [] off = refl
  at_entry-other s x (e ∷ es) off =
      elim (pos_cmp x e.position) as (λ r. pos_cmp x e.position ≡ r → finding_in s (cond (is_eq r) (put e) e ∷ at_entry x put es) ≡ finding_in s (e ∷ es)) [
        | Less ↦ λ _. ap (entry_answers (spot_cmp s e.position) e) (at_entry-other s x es off)
        | Equal ↦ λ h. elim (spot_cmp s e.position) as (λ r. spot_cmp s e.position ≡ r → entry_answers r (put e) (finding_in s (at_entry x put es)) ≡ entry_answers r e (finding_in s es)) [
          | Less ↦ λ _. refl
          | Equal ↦ λ k. absurd (off (subst (λ y. spot_cmp s y ≡ Equal) (sym (pos_cmp_same x e.position h)) k))
          | Greater ↦ λ _. at_entry-other s x es off
        ] refl
        | Greater ↦ λ _. ap (entry_answers (spot_cmp s e.position) e) (at_entry-other s x es off)
      ] refl

  pub at_entry-there : (x : Pos) (es : List Entry) → StandsAt x es → finding_in (On x) (at_entry x put es) ≡ finding_of (ma (finding_in (On x) es).mark) (ro (finding_in (On x) es).row)
  at_entry-there x [] st = absurd st
  at_entry-there x (e ∷ es) st =
      elim (pos_cmp x e.position) as (λ r. pos_cmp x e.position ≡ r → StandsBy r (StandsAt x es) → finding_in (On x) (cond (is_eq r) (put e) e ∷ at_entry x put es) ≡ finding_of (ma (entry_answers r e (finding_in (On x) es)).mark) (ro (entry_answers r e (finding_in (On x) es)).row)) [
        | Less ↦ λ _ off. absurd off
        | Equal ↦ λ h _. ap (λ r. entry_answers r (put e) (finding_in (On x) (at_entry x put es))) h
        | Greater ↦ λ h k. ap (λ r. entry_answers r e (finding_in (On x) (at_entry x put es))) h ∙ at_entry-there x es k
      ] refl st

  pub at_entry-stands : (x : Pos) (es : List Entry) → StandsAt x es → StandsAt x (at_entry x put es)
  at_entry-stands x [] st = st
  at_entry-stands x (e ∷ es) st =
      elim (pos_cmp x e.position) as (λ r. pos_cmp x e.position ≡ r → StandsBy r (StandsAt x es) → StandsAt x (cond (is_eq r) (put e) e ∷ at_entry x put es)) [
        | Less ↦ λ _ off. absurd off
        | Equal ↦ λ h _. subst (λ r. StandsBy r (StandsAt x (at_entry x put es))) (sym h) tt
        | Greater ↦ λ h k. subst (λ r. StandsBy r (StandsAt x (at_entry x put es))) (sym h) (at_entry-stands x es k)
      ] refl st

-- ---- what is taken out

-- what is said where an entry was taken out
abbrev pub left : Mark → Finding
left m = finding_of m None

marked_first : (m : Mark) (s : Spot) (e : Entry) (es : List Entry) → (finding_in s (with_gap m e ∷ es) ≡ finding_in s (e ∷ es)) ⊎ (finding_in s (with_gap m e ∷ es) ≡ left m)
marked_first m s e es = elim (spot_cmp s e.position) as (λ r. (entry_answers r (with_gap m e) (finding_in s es) ≡ entry_answers r e (finding_in s es)) ⊎ (entry_answers r (with_gap m e) (finding_in s es) ≡ left m)) [
  | Less ↦ inr refl
  | Equal ↦ inl refl
  | Greater ↦ inl refl
]

behind_the_first : (m : Mark) (s : Spot) (f : Entry) (es : List Entry) → spot_cmp s f.position ≡ Less → finding_in s (with_first_gap m (f ∷ es)) ≡ left m
behind_the_first m s f es l = ap (λ r. entry_answers r (with_gap m f) (finding_in s es)) l

pub take_out-seen : (m : Mark) (s : Spot) (x : Pos) (es : List Entry) → Ascend es → EndsWithDummy es → IsBefore x end_position → (finding_in s (take_out m x es) ≡ finding_in s es) ⊎ (finding_in s (take_out m x es) ≡ left m)
take_out-seen m s x [] a d b = inl refl
take_out-seen m s x (e ∷ []) a d b =
    elim (pos_cmp x e.position) as (λ r. pos_cmp x e.position ≡ r → (finding_in s (cond (is_eq r) [] (e ∷ [])) ≡ finding_in s (e ∷ [])) ⊎ (finding_in s (cond (is_eq r) [] (e ∷ [])) ≡ left m)) [
      | Less ↦ λ _. inl refl
      | Equal ↦ λ h. let u : Equal ≡ Less = sym h ∙ ap (pos_cmp x) d.0 ∙ b in absurd (cc)
      | Greater ↦ λ _. inl refl
    ] refl
take_out-seen m s x (e ∷ f ∷ es) a d b =
    elim (pos_cmp x e.position) as (λ r. (finding_in s (cond (is_eq r) (with_gap m f ∷ es) (e ∷ take_out m x (f ∷ es))) ≡ finding_in s (e ∷ f ∷ es)) ⊎ (finding_in s (cond (is_eq r) (with_gap m f ∷ es) (e ∷ take_out m x (f ∷ es))) ≡ left m)) [
      | Less ↦ later (take_out-seen m s x (f ∷ es) a.1 d b)
      | Equal ↦ here
      | Greater ↦ later (take_out-seen m s x (f ∷ es) a.1 d b)
    ]
  where
    later : (finding_in s (take_out m x (f ∷ es)) ≡ finding_in s (f ∷ es)) ⊎ (finding_in s (take_out m x (f ∷ es)) ≡ left m) → (finding_in s (e ∷ take_out m x (f ∷ es)) ≡ finding_in s (e ∷ f ∷ es)) ⊎ (finding_in s (e ∷ take_out m x (f ∷ es)) ≡ left m)
    later ih = elim (spot_cmp s e.position) as (λ r. (entry_answers r e (finding_in s (take_out m x (f ∷ es))) ≡ entry_answers r e (finding_in s (f ∷ es))) ⊎ (entry_answers r e (finding_in s (take_out m x (f ∷ es))) ≡ left m)) [
      | Less ↦ inl refl
      | Equal ↦ inl refl
      | Greater ↦ ih
    ]

    here : (finding_in s (with_gap m f ∷ es) ≡ finding_in s (e ∷ f ∷ es)) ⊎ (finding_in s (with_gap m f ∷ es) ≡ left m)
    here = elim (spot_cmp s e.position) as (λ r. spot_cmp s e.position ≡ r → (finding_in s (with_gap m f ∷ es) ≡ entry_answers r e (finding_in s (f ∷ es))) ⊎ (finding_in s (with_gap m f ∷ es) ≡ left m)) [
      | Less ↦ λ h. inr (behind_the_first m s f es (spot-before s e.position f.position h a.0))
      | Equal ↦ λ h. inr (behind_the_first m s f es (spot-at s e.position f.position h a.0))
      | Greater ↦ λ h. marked_first m s f es
    ] refl

pub drop-seen : (s : Spot) (x : Pos) (es : List Entry) → Ascend es → EndsWithDummy es → IsBefore x end_position → (finding_in s (drop_at x es) ≡ finding_in s es) ⊎ (finding_in s (drop_at x es) ≡ finding_of lost_mark None)
drop-seen = take_out-seen lost_mark

pub lose_last-seen : (s : Spot) (es : List Entry) → (finding_in s (lose_last_gap es) ≡ finding_in s es) ⊎ (finding_in s (lose_last_gap es) ≡ left lost_mark)
lose_last-seen s [] = inl refl
lose_last-seen s (e ∷ []) = marked_first lost_mark s e []
lose_last-seen s (e ∷ f ∷ es) = elim (spot_cmp s e.position) as (λ r. (entry_answers r e (finding_in s (lose_last_gap (f ∷ es))) ≡ entry_answers r e (finding_in s (f ∷ es))) ⊎ (entry_answers r e (finding_in s (lose_last_gap (f ∷ es))) ≡ left lost_mark)) [
  | Less ↦ inl refl
  | Equal ↦ inl refl
  | Greater ↦ lose_last-seen s (f ∷ es)
]

-- ---- the end

not_behind : (r : Ordering) → is_gt r ≡ false → IsReachedBy r ⊥
not_behind Less h = tt
not_behind Equal h = tt
not_behind Greater h = absurd (cc)

reach-more : (s : Spot) (e : Entry) (es : List Entry) → IsBeforeEnd s es → IsBeforeEnd s (e ∷ es)
reach-more s e es b = elim (spot_cmp s e.position) as (λ r. IsReachedBy r (IsBeforeEnd s es)) [ Less ↦ tt | Equal ↦ tt | Greater ↦ b ]

pub position-reached : (x : Pos) (es : List Entry) → EndsWithDummy es → IsBeforeEnd (On x) es
position-reached x [] d = d
position-reached x (e ∷ []) d = not_behind (pos_cmp x e.position) (ap (λ y. is_gt (pos_cmp x y)) d.0 ∙ last_pos-greatest x)
position-reached x (e ∷ f ∷ es) d = reach-more (On x) e (f ∷ es) (position-reached x (f ∷ es) d)

pub gap-reached : (x : Pos) (es : List Entry) → EndsWithDummy es → IsBefore x end_position → IsBeforeEnd (Behind x) es
gap-reached x [] d b = d
gap-reached x (e ∷ []) d b = subst (λ r. IsReachedBy (gap_ordering r) ⊥) (sym (ap (pos_cmp x) d.0 ∙ b)) tt
gap-reached x (e ∷ f ∷ es) d b = reach-more (Behind x) e (f ∷ es) (gap-reached x (f ∷ es) d b)

-- ---- rows, as the laws say it

pub not_at : (s : Spot) (x : Pos) → (s ≡ On x → ⊥) → spot_cmp s x ≡ Equal → ⊥
not_at (On y) x off e = off (ap On (pos_cmp_same y x e))
not_at (Behind y) x off e = behind-Equal (pos_cmp y x) e

pub join_row-there : (x : Pos) (row : Row) (es : List Entry) → EndsWithDummy es →
    finding_in (On x) (join_row_at x row es) ≡ finding_of (finding_in (On x) es).mark (Some (joined_onto (finding_in (On x) es).row row))
join_row-there x row es d =
    at_entry-there (λ r. Some (joined_onto r row)) (λ m. m) x (gap_split x es) (split-stands x es (position-reached x es d))
    ∙ ap (λ (a : Finding). finding_of a.mark (Some (joined_onto a.row row))) (split-seen (On x) x es)

pub join_row-elsewhere : (s : Spot) (x : Pos) (row : Row) (es : List Entry) → (s ≡ On x → ⊥) → finding_in s (join_row_at x row es) ≡ finding_in s es
join_row-elsewhere s x row es off = at_entry-other (λ r. Some (joined_onto r row)) (λ m. m) s x (gap_split x es) (not_at s x off) ∙ split-seen s x es

pub fill_row-there : (x : Pos) (row : Row) (tomb : Option Tomb) (es : List Entry) → EndsWithDummy es →
    finding_in (On x) (fill_row x row tomb es) ≡ finding_of (known_with tomb (finding_in (On x) es).mark) (Some (joined_onto (finding_in (On x) es).row row))
fill_row-there x row tomb es d =
    at_entry-there (λ r. r) (known_with tomb) x (join_row_at x row es) (at_entry-stands (λ r. Some (joined_onto r row)) (λ m. m) x (gap_split x es) (split-stands x es (position-reached x es d)))
    ∙ ap (λ (a : Finding). finding_of (known_with tomb a.mark) a.row) (join_row-there x row es d)

pub fill_row-elsewhere : (s : Spot) (x : Pos) (row : Row) (tomb : Option Tomb) (es : List Entry) → (s ≡ On x → ⊥) → finding_in s (fill_row x row tomb es) ≡ finding_in s es
fill_row-elsewhere s x row tomb es off = at_entry-other (λ r. r) (known_with tomb) s x (join_row_at x row es) (not_at s x off) ∙ join_row-elsewhere s x row es off

-- ---- exactly what a dropped entry takes with it

pub ascend-tail : (e : Entry) (es : List Entry) → Ascend (e ∷ es) → Ascend es
ascend-tail e [] a = tt
ascend-tail e (f ∷ es) a = a.1

pub ahead : (b : Entry) (bs : List Entry) (e : Entry) (es : List Entry) → Ascend (b ∷ (bs ++ e ∷ es)) → pos_cmp b.position e.position ≡ Less
ahead b [] e es a = a.0
ahead b (c ∷ bs) e es a = pos_cmp_total.trans b.position c.position e.position a.0 (ahead c bs e es a.1)

pub ascend-back : (bs : List Entry) (es : List Entry) → Ascend (bs ++ es) → Ascend es
ascend-back [] es a = a
ascend-back (b ∷ bs) es a = ascend-back bs es (ascend-tail b (bs ++ es) a)

pub taken_out : (m : Mark) (bs : List Entry) (e f : Entry) (es : List Entry) → Ascend (bs ++ e ∷ f ∷ es) → take_out m e.position (bs ++ e ∷ f ∷ es) ≡ bs ++ with_gap m f ∷ es
taken_out m [] e f es a = ap (λ r. cond (is_eq r) (with_gap m f ∷ es) (e ∷ take_out m e.position (f ∷ es))) (tied_itself pos_cmp_total e.position)
taken_out m (b ∷ bs) e f es a =
    ap (λ r. cond (is_eq r) (with_first_gap m (bs ++ e ∷ f ∷ es)) (b ∷ take_out m e.position (bs ++ e ∷ f ∷ es))) (turn_to b.position e.position Less (ahead b bs e (f ∷ es) a))
    ∙ ap (λ xs. b ∷ xs) (taken_out m bs e f es (ascend-tail b (bs ++ e ∷ f ∷ es) a))

seen-front : (s : Spot) (bs xs ys : List Entry) → IsBeforeEnd s bs → finding_in s (bs ++ xs) ≡ finding_in s (bs ++ ys)
seen-front s [] xs ys h = absurd h
seen-front s (b ∷ bs) xs ys h = elim (spot_cmp s b.position) as (λ r. IsReachedBy r (IsBeforeEnd s bs) → entry_answers r b (finding_in s (bs ++ xs)) ≡ entry_answers r b (finding_in s (bs ++ ys))) [
  | Less ↦ λ _. refl
  | Equal ↦ λ _. refl
  | Greater ↦ λ k. seen-front s bs xs ys k
] h

seen-back : (s : Spot) (bs xs : List Entry) → (IsBeforeEnd s bs → ⊥) → finding_in s (bs ++ xs) ≡ finding_in s xs
seen-back s [] xs h = refl
seen-back s (b ∷ bs) xs h = elim (spot_cmp s b.position) as (λ r. (IsReachedBy r (IsBeforeEnd s bs) → ⊥) → entry_answers r b (finding_in s (bs ++ xs)) ≡ finding_in s xs) [
  | Less ↦ λ k. absurd (k tt)
  | Equal ↦ λ k. absurd (k tt)
  | Greater ↦ λ k. seen-back s bs xs k
] h

seen-same : (s : Spot) (bs xs ys : List Entry) → finding_in s xs ≡ finding_in s ys → finding_in s (bs ++ xs) ≡ finding_in s (bs ++ ys)
seen-same s [] xs ys e = e
seen-same s (b ∷ bs) xs ys e = ap (entry_answers (spot_cmp s b.position) b) (seen-same s bs xs ys e)

pub take_out-front : (m : Mark) (s : Spot) (bs : List Entry) (e f : Entry) (es : List Entry) → Ascend (bs ++ e ∷ f ∷ es) → IsBeforeEnd s bs → finding_in s (take_out m e.position (bs ++ e ∷ f ∷ es)) ≡ finding_in s (bs ++ e ∷ f ∷ es)
take_out-front m s bs e f es a h = ap (finding_in s) (taken_out m bs e f es a) ∙ seen-front s bs (with_gap m f ∷ es) (e ∷ f ∷ es) h

pub take_out-between : (m : Mark) (s : Spot) (bs : List Entry) (e f : Entry) (es : List Entry) → Ascend (bs ++ e ∷ f ∷ es) → (IsBeforeEnd s bs → ⊥) → spot_cmp s f.position ≡ Less → finding_in s (take_out m e.position (bs ++ e ∷ f ∷ es)) ≡ finding_of m None
take_out-between m s bs e f es a h l = ap (finding_in s) (taken_out m bs e f es a) ∙ seen-back s bs (with_gap m f ∷ es) h ∙ ap (λ r. entry_answers r (with_gap m f) (finding_in s es)) l

pub behind_both : (m : Mark) (s : Spot) (e f : Entry) (es : List Entry) → pos_cmp e.position f.position ≡ Less → (spot_cmp s f.position ≡ Less → ⊥) → finding_in s (with_gap m f ∷ es) ≡ finding_in s (e ∷ f ∷ es)
behind_both m s e f es a h =
    elim (spot_cmp s f.position) as (λ r. (r ≡ Less → ⊥) → entry_answers r (with_gap m f) (finding_in s es) ≡ entry_answers r f (finding_in s es)) [ Less ↦ λ k. absurd (k refl) | Equal ↦ λ _. refl | Greater ↦ λ _. refl ] h
    ∙ elim (spot_cmp s e.position) as (λ r. spot_cmp s e.position ≡ r → finding_in s (f ∷ es) ≡ entry_answers r e (finding_in s (f ∷ es))) [
      | Less ↦ λ k. absurd (h (spot-before s e.position f.position k a))
      | Equal ↦ λ k. absurd (h (spot-at s e.position f.position k a))
      | Greater ↦ λ _. refl
    ] refl

pub take_out-behind : (m : Mark) (s : Spot) (bs : List Entry) (e f : Entry) (es : List Entry) → Ascend (bs ++ e ∷ f ∷ es) → (spot_cmp s f.position ≡ Less → ⊥) → finding_in s (take_out m e.position (bs ++ e ∷ f ∷ es)) ≡ finding_in s (bs ++ e ∷ f ∷ es)
take_out-behind m s bs e f es a h = ap (finding_in s) (taken_out m bs e f es a) ∙ seen-same s bs (with_gap m f ∷ es) (e ∷ f ∷ es) (behind_both m s e f es (ascend-back bs (e ∷ f ∷ es) a).0 h)

pub join_row-other : (s : Spot) (x : Pos) (row : Row) (es : List Entry) → (spot_cmp s x ≡ Equal → ⊥) → finding_in s (join_row_at x row es) ≡ finding_in s es
join_row-other s x row es off = at_entry-other (λ r. Some (joined_onto r row)) (λ m. m) s x (gap_split x es) off ∙ split-seen s x es

pub fill_row-other : (s : Spot) (x : Pos) (row : Row) (tomb : Option Tomb) (es : List Entry) → (spot_cmp s x ≡ Equal → ⊥) → finding_in s (fill_row x row tomb es) ≡ finding_in s es
fill_row-other s x row tomb es off =
    at_entry-other (λ r. r) (known_with tomb) s x (join_row_at x row es) off ∙ join_row-other s x row es off
