-- The form of a memtable's chain: all flags are Inherit, and tombstones are even.
use Rattle.std.specs.Prelude.{◌≡◌, ◌<◌, ◌&&◌, ℕ, suc, Bool, true, false, List, [], ◌∷◌, ◌++◌, Option, Some, None, cond, length, map as list_map}
use Rattle.std.proofs.Common.{append-nil, refl, sym, ap, ◌∙◌, subst, ⊎_elim, inl, inr, arith}
use Rattle.std.proofs.lemmas.List.{append_assoc}
use Rattle.std.specs.declared.cmp.Ordering.TheVariants.{Less, Equal, Greater}
use Rattle.std.specs.Ordering.{is_lt, is_le}
use Rattle.std.specs.Option.{option_to_list}
use Rattle.rc_cell.specs.declared.rows.Row.{Row}
use Rattle.rc_cell.specs.declared.writes.Tomb.{Tomb}
use Rattle.rc_cell.specs.Orders.{tomb_cmp, tomb_cmp_total}
use Rattle.rc_cell.specs.laws.Beats.{tomb_cmp-IsAntisymmetric}
use Rattle.rc_cell.specs.Greatest.{greater}
use Rattle.rc_cell.specs.laws.Greatest.{greatest-two}
use Rattle.rc_cell.specs.Winner.{greatest, joined_row, empty_row}
use Rattle.rc_position.specs.declared.positions.Pos.{Pos}
use Rattle.rc_position.specs.Position.{IsBefore, covers, pos_cmp}
use Rattle.rc_position.specs.laws.Orders.{pos_cmp_same}
use Rattle.rc_core.specs.declared.entries.ChainKind.{ChainKind}
use Rattle.rc_core.specs.declared.entries.ChainKind.TheVariants.{Memtable}
use Rattle.rc_core.specs.declared.entries.Entry.{Entry}
use Rattle.rc_core.specs.declared.entries.Mark.{Mark}
use Rattle.rc_core.specs.declared.entries.Flag.TheVariants.{Inherit}
use Rattle.rc_core.specs.SpotState.{SpotState, spot_state, through, joined_state}
use Rattle.rc_core.specs.Version.{Spot, On, Behind, Version, IsVersion, state_at, static_state, state_of, Finding, finding_of, entry_answers, finding_in, spot_cmp, end_position, IsBeforeEnd}
use Rattle.rc_core.specs.Change.{raised_mark, joined_onto, position_of, gap_split, entry_changed}
use Rattle.rc_core.specs.Chain.{has_flag, content, states_at, flag_over, IsEvenAt}
use Rattle.rc_core.specs.Continuity.{EachOf}
use Rattle.rc_core.specs.Chains.{Chain, upto, AllInherit, IsMemtableChain, with_versions}
use Rattle.rc_core.specs.Steps.{IsChain, on_newest, with_newest, row_joined, range_joined, join_pt, join_statics}
use Rattle.rc_core.specs.laws.Folding.{flagged-through, content-through}
use Rattle.rc_core.specs.laws.Spots.{change-seen, split-seen, join_row-there, join_row-other, behind-Equal, position-reached, gap-reached}
use Rattle.rc_core.specs.laws.Losing.{joined-again, tomb-alone, each-one, each-other}
use Rattle.rc_core.specs.laws.Merging.{rows_by_parts, tombs_by_parts, joins_on_top}
use Rattle.rc_core.specs.laws.Filling.{seen-same}
use Rattle.rc_core.specs.laws.Units.{nothing_first, on_top}
use Rattle.rc_core.specs.laws.Standing.{Stand, above-zero, older_or_newest, length-cons, stand-older, stand-at, newest-is, Newest, on_newest-parts}

-- ---- evenness, from what is seen

pub even_as_before : (kind : ChainKind) (before now : List Version) (x : Pos) → through (states_at (On x) now) ≡ through (states_at (On x) before) → (IsBefore x end_position → through (states_at (Behind x) now) ≡ through (states_at (Behind x) before)) →
    IsEvenAt kind before x → IsEvenAt kind now x
even_as_before kind before now x e g even bare known =
    content1 (On x) e
    ∙ even (record { inside = bare.inside; no_row = ap (λ (a : Row × Option Tomb). a.0) (sym (same (On x) e)) ∙ bare.no_row })
    (record { at = sym (flag (On x) e) ∙ known.at; gap = λ _. sym (flag (Behind x) (g bare.inside)) ∙ known.gap bare })
    ∙ sym (content1 (Behind x) (g bare.inside))
  where
    same : (s : Spot) → through (states_at s now) ≡ through (states_at s before) → content (states_at s now) ≡ content (states_at s before)
    same s h = content-through (states_at s now) ∙ ap joined_state h ∙ sym (content-through (states_at s before))

    content1 : (s : Spot) → through (states_at s now) ≡ through (states_at s before) → (content (states_at s now)).1 ≡ (content (states_at s before)).1
    content1 s h = ap (λ (a : Row × Option Tomb). a.1) (same s h)

    flag : (s : Spot) → through (states_at s now) ≡ through (states_at s before) → has_flag kind (states_at s now) ≡ has_flag kind (states_at s before)
    flag s h = flagged-through kind (states_at s now) ∙ ap (λ (c : SpotState). flag_over kind c.flag) h ∙ sym (flagged-through kind (states_at s before))

-- a state that inherits, on top of others
through_top : (f : Version → SpotState) (older : List Version) (v : Version) → (f v).flag ≡ Inherit → through (list_map f (older ++ v ∷ [])) ≡ spot_state (through (list_map f older)).flag ((through (list_map f older)).rows ++ (f v).rows) ((through (list_map f older)).tombs ++ (f v).tombs)
through_top f older v e = ap through (on_top f older v e) ∙ joins_on_top (list_map f older) (f v).rows (f v).tombs

flag_top : (f : Version → SpotState) (older : List Version) (v w : Version) → (f v).flag ≡ Inherit → (f w).flag ≡ Inherit → has_flag Memtable (list_map f (older ++ w ∷ [])) ≡ has_flag Memtable (list_map f (older ++ v ∷ []))
flag_top f older v w e d =
    flagged-through Memtable (list_map f (older ++ w ∷ []))
    ∙ ap (λ (c : SpotState). flag_over Memtable c.flag) (through_top f older w d)
    ∙ sym (ap (λ (c : SpotState). flag_over Memtable c.flag) (through_top f older v e))
    ∙ sym (flagged-through Memtable (list_map f (older ++ v ∷ [])))

pub content_top : (f : Version → SpotState) (older : List Version) (v : Version) → (f v).flag ≡ Inherit → content (list_map f (older ++ v ∷ [])) ≡ (joined_row ((through (list_map f older)).rows ++ (f v).rows), greatest tomb_cmp ((through (list_map f older)).tombs ++ (f v).tombs))
content_top f older v e = content-through (list_map f (older ++ v ∷ [])) ∙ ap joined_state (through_top f older v e)

-- ---- a row joined

-- rows that join to nothing with one more join to nothing without it
nothing_before : (rows : List Row) (old : Option Row) (row : Row) → joined_row (rows ++ joined_onto old row ∷ []) ≡ empty_row → joined_row (rows ++ option_to_list old) ≡ empty_row
nothing_before rows None row e = ap joined_row (append-nil rows) ∙ nothing_first rows (row ∷ []) e
nothing_before rows (Some o) row e = nothing_first (rows ++ o ∷ []) (row ∷ []) (ap joined_row (append_assoc rows (o ∷ []) (row ∷ [])) ∙ sym (rows_by_parts rows (joined_row (o ∷ row ∷ []) ∷ []) rows (o ∷ row ∷ []) refl (joined-again (o ∷ row ∷ []))) ∙ e)

-- a change that leaves each flag leaves what is seen of it
cond_flag : (b : Bool) (m n : Mark) → m.flag ≡ n.flag → (cond b m n).flag ≡ n.flag
cond_flag true m n e = e
cond_flag false m n e = refl

changed_flag : (f : Mark → Mark) → ((m : Mark) → (f m).flag ≡ m.flag) → (s : Spot) (from to : Pos) (es : List Entry) → (finding_in s (list_map (entry_changed f from to) es)).mark.flag ≡ (finding_in s es).mark.flag
changed_flag f same s from to [] = refl
changed_flag f same s from to (e ∷ es) = elim (spot_cmp s e.position) as (λ r. (entry_answers r (entry_changed f from to e) (finding_in s (list_map (entry_changed f from to) es))).mark.flag ≡ (entry_answers r e (finding_in s es)).mark.flag) [
  | Less ↦ cond_flag (is_lt (pos_cmp from e.position) && is_le (pos_cmp e.position to)) (f e.gap) e.gap (same e.gap)
  | Equal ↦ cond_flag (covers from to e.position) (f e.at) e.at (same e.at)
  | Greater ↦ changed_flag f same s from to es
]

module _ (older : List Version) (v : Version) (i : IsVersion v) (ai : AllInherit v) where
  module _ (p : Pos) (row : Row) where
    abbrev with_row : Version
    with_row = row_joined p row v

    pub row_there : state_at (On p) with_row ≡ spot_state (state_at (On p) v).flag (joined_onto (finding_in (On p) v.entries).row row ∷ []) (state_at (On p) v).tombs
    row_there = ap state_of (join_row-there p row v.entries i.ends)

    pub row_other : (s : Spot) → (spot_cmp s p ≡ Equal → ⊥) → state_at s with_row ≡ state_at s v
    row_other s off = ap state_of (join_row-other s p row v.entries off)

    spot_flag : (s : Spot) → (state_at s with_row).flag ≡ Inherit
    spot_flag (Behind x) = ap (λ (c : SpotState). c.flag) (row_other (Behind x) (behind-Equal (pos_cmp x p))) ∙ ai.clustered (Behind x)
    spot_flag (On x) = elim (pos_cmp x p) as (λ r. pos_cmp x p ≡ r → (state_at (On x) with_row).flag ≡ Inherit) [
      | Less ↦ λ e. ap (λ (c : SpotState). c.flag) (row_other (On x) (λ d. let u : Less ≡ Equal = sym e ∙ d in cc)) ∙ ai.clustered (On x)
      | Equal ↦ λ e. subst (λ y. (state_at (On y) with_row).flag ≡ Inherit) (sym (pos_cmp_same x p e)) (ap (λ (c : SpotState). c.flag) row_there ∙ ai.clustered (On p))
      | Greater ↦ λ e. ap (λ (c : SpotState). c.flag) (row_other (On x) (λ d. let u : Greater ≡ Equal = sym e ∙ d in cc)) ∙ ai.clustered (On x)
    ] refl

    pub row-inherits : AllInherit with_row
    row-inherits = record { statics = ai.statics; clustered = spot_flag }

    even_there : IsEvenAt Memtable (older ++ v ∷ []) p → IsEvenAt Memtable (older ++ with_row ∷ []) p
    even_there even bare known =
        tombs_there
        ∙ even (record { inside = bare.inside; no_row = was_bare })
        (record {
          at = sym (flag_top (state_at (On p)) older v with_row (ai.clustered (On p)) (spot_flag (On p))) ∙ known.at;
          gap = λ _. sym (flag_top (state_at (Behind p)) older v with_row (ai.clustered (Behind p)) (spot_flag (Behind p))) ∙ known.gap bare;
        })
        ∙ ap (λ (a : Row × Option Tomb). a.1) (sym (same_content (seen-same (state_at (Behind p)) older v with_row (row_other (Behind p) (behind-Equal (pos_cmp p p))))))
      where
        same_content : through (states_at (Behind p) (older ++ with_row ∷ [])) ≡ through (states_at (Behind p) (older ++ v ∷ [])) → content (states_at (Behind p) (older ++ with_row ∷ [])) ≡ content (states_at (Behind p) (older ++ v ∷ []))
        same_content h = content-through (states_at (Behind p) (older ++ with_row ∷ [])) ∙ ap joined_state h ∙ sym (content-through (states_at (Behind p) (older ++ v ∷ [])))

        tombs_there : (content (states_at (On p) (older ++ with_row ∷ []))).1 ≡ (content (states_at (On p) (older ++ v ∷ []))).1
        tombs_there =
            ap (λ (a : Row × Option Tomb). a.1) (content_top (state_at (On p)) older with_row (spot_flag (On p)))
            ∙ ap (λ (c : SpotState). greatest tomb_cmp ((through (states_at (On p) older)).tombs ++ c.tombs)) row_there
            ∙ ap (λ (a : Row × Option Tomb). a.1) (sym (content_top (state_at (On p)) older v (ai.clustered (On p))))

        was_bare : (content (states_at (On p) (older ++ v ∷ []))).0 ≡ empty_row
        was_bare =
            ap (λ (a : Row × Option Tomb). a.0) (content_top (state_at (On p)) older v (ai.clustered (On p)))
            ∙ nothing_before (through (states_at (On p) older)).rows (finding_in (On p) v.entries).row row
            (sym (ap (λ (a : Row × Option Tomb). a.0) (content_top (state_at (On p)) older with_row (spot_flag (On p))) ∙ ap (λ (c : SpotState). joined_row ((through (states_at (On p) older)).rows ++ c.rows)) row_there) ∙ bare.no_row)

    pub row-even : (x : Pos) → IsEvenAt Memtable (older ++ v ∷ []) x → IsEvenAt Memtable (older ++ with_row ∷ []) x
    row-even x = elim (pos_cmp x p) as (λ r. pos_cmp x p ≡ r → IsEvenAt Memtable (older ++ v ∷ []) x → IsEvenAt Memtable (older ++ with_row ∷ []) x) [
      | Less ↦ λ e. other (λ d. let u : Less ≡ Equal = sym e ∙ d in cc)
      | Equal ↦ λ e. subst (λ y. IsEvenAt Memtable (older ++ v ∷ []) y → IsEvenAt Memtable (older ++ with_row ∷ []) y) (sym (pos_cmp_same x p e)) even_there
      | Greater ↦ λ e. other (λ d. let u : Greater ≡ Equal = sym e ∙ d in cc)
    ] refl
      where
        other : (spot_cmp (On x) p ≡ Equal → ⊥) → IsEvenAt Memtable (older ++ v ∷ []) x → IsEvenAt Memtable (older ++ with_row ∷ []) x
        other off = even_as_before Memtable (older ++ v ∷ []) (older ++ with_row ∷ []) x (seen-same (state_at (On x)) older v with_row (row_other (On x) off)) (λ _. seen-same (state_at (Behind x)) older v with_row (row_other (Behind x) (behind-Equal (pos_cmp x p))))

  -- ---- a range tombstone joined

  module _ (from to : Pos) (tomb : Tomb) where
    abbrev with_range : Version
    with_range = range_joined from to tomb v

    range_state : (s : Spot) → IsBeforeEnd s v.entries → state_at s with_range ≡ state_of (cond (covers from to (position_of s)) (finding_of (raised_mark (Some tomb) (finding_in s v.entries).mark) (finding_in s v.entries).row) (finding_in s v.entries))
    range_state s b = ap state_of (change-seen (raised_mark (Some tomb)) s from to v.entries b)

    pub range_inside : (s : Spot) → IsBeforeEnd s v.entries → covers from to (position_of s) ≡ true → state_at s with_range ≡ spot_state (state_at s v).flag (state_at s v).rows (option_to_list (greater tomb_cmp (finding_in s v.entries).mark.tomb (Some tomb)))
    range_inside s b c = range_state s b ∙ ap (λ t. state_of (cond t (finding_of (raised_mark (Some tomb) (finding_in s v.entries).mark) (finding_in s v.entries).row) (finding_in s v.entries))) c

    pub range_outside : (s : Spot) → IsBeforeEnd s v.entries → covers from to (position_of s) ≡ false → state_at s with_range ≡ state_at s v
    range_outside s b c = range_state s b ∙ ap (λ t. state_of (cond t (finding_of (raised_mark (Some tomb) (finding_in s v.entries).mark) (finding_in s v.entries).row) (finding_in s v.entries))) c

    on : (x : Pos) → IsBeforeEnd (On x) v.entries
    on x = position-reached x v.entries i.ends

    gap : (x : Pos) → IsBefore x end_position → IsBeforeEnd (Behind x) v.entries
    gap x b = gap-reached x v.entries i.ends b

    range_flag : (s : Spot) → (state_at s with_range).flag ≡ Inherit
    range_flag s = changed_flag (raised_mark (Some tomb)) (λ _. refl) s from to (gap_split to (gap_split from v.entries)) ∙ ap (λ (a : Finding). a.mark.flag) (split-seen s to (gap_split from v.entries) ∙ split-seen s from v.entries) ∙ ai.clustered s

    pub range-inherits : AllInherit with_range
    range-inherits = record { statics = ai.statics; clustered = range_flag }

    -- the tombstone seen there is the greater of that of before and the joined one
    tomb_seen : (s : Spot) → IsBeforeEnd s v.entries → covers from to (position_of s) ≡ true →
        (content (states_at s (older ++ with_range ∷ []))).1 ≡ greatest tomb_cmp (option_to_list (content (states_at s (older ++ v ∷ []))).1 ++ tomb ∷ [])
    tomb_seen s b c =
        ap (λ (a : Row × Option Tomb). a.1) (content_top (state_at s) older with_range (range_flag s))
        ∙ ap (λ (k : SpotState). greatest tomb_cmp ((through (states_at s older)).tombs ++ k.tombs)) (range_inside s b c)
        ∙ raised_on_top (through (states_at s older)).tombs (finding_in s v.entries).mark.tomb
        ∙ ap (λ t. greatest tomb_cmp (option_to_list t ++ tomb ∷ [])) (ap (λ (a : Row × Option Tomb). a.1) (sym (content_top (state_at s) older v (ai.clustered s))))
      where
        raised_on_top : (ts : List Tomb) (t : Option Tomb) → greatest tomb_cmp (ts ++ option_to_list (greater tomb_cmp t (Some tomb))) ≡ greatest tomb_cmp (option_to_list (greatest tomb_cmp (ts ++ option_to_list t)) ++ tomb ∷ [])
        raised_on_top ts t =
            tombs_by_parts ts (option_to_list (greater tomb_cmp t (Some tomb))) ts (option_to_list t ++ tomb ∷ []) refl (tomb-alone (greater tomb_cmp t (Some tomb)) ∙ sym (greatest-two tomb_cmp_total tomb_cmp-IsAntisymmetric t (Some tomb)))
            ∙ ap (greatest tomb_cmp) (sym (append_assoc ts (option_to_list t) (tomb ∷ [])))
            ∙ tombs_by_parts (ts ++ option_to_list t) (tomb ∷ []) (option_to_list (greatest tomb_cmp (ts ++ option_to_list t))) (tomb ∷ []) (sym (tomb-alone (greatest tomb_cmp (ts ++ option_to_list t)))) refl

    row_seen : (x : Pos) → covers from to x ≡ true → (content (states_at (On x) (older ++ with_range ∷ []))).0 ≡ (content (states_at (On x) (older ++ v ∷ []))).0
    row_seen x c =
        ap (λ (a : Row × Option Tomb). a.0) (content_top (state_at (On x)) older with_range (range_flag (On x)))
        ∙ ap (λ (k : SpotState). joined_row ((through (states_at (On x) older)).rows ++ k.rows)) (range_inside (On x) (on x) c)
        ∙ ap (λ (a : Row × Option Tomb). a.0) (sym (content_top (state_at (On x)) older v (ai.clustered (On x))))

    pub range-even : (x : Pos) → IsEvenAt Memtable (older ++ v ∷ []) x → IsEvenAt Memtable (older ++ with_range ∷ []) x
    range-even x even bare known = elim (covers from to x) as (λ t. covers from to x ≡ t → (content (states_at (On x) (older ++ with_range ∷ []))).1 ≡ (content (states_at (Behind x) (older ++ with_range ∷ []))).1) [
      | true ↦ λ c.
          tomb_seen (On x) (on x) c
          ∙ ap (λ t. greatest tomb_cmp (option_to_list t ++ tomb ∷ [])) (even (record { inside = bare.inside; no_row = sym (row_seen x c) ∙ bare.no_row }) (record {
            at = sym (flag_top (state_at (On x)) older v with_range (ai.clustered (On x)) (range_flag (On x))) ∙ known.at;
            gap = λ _. sym (flag_top (state_at (Behind x)) older v with_range (ai.clustered (Behind x)) (range_flag (Behind x))) ∙ known.gap bare;
          }))
          ∙ sym (tomb_seen (Behind x) (gap x bare.inside) c)
      | false ↦ λ c. even_as_before Memtable (older ++ v ∷ []) (older ++ with_range ∷ []) x (seen-same (state_at (On x)) older v with_range (range_outside (On x) (on x) c)) (λ b. seen-same (state_at (Behind x)) older v with_range (range_outside (Behind x) (gap x b) c)) even bare known
    ] refl

-- ---- whole chains

module _ (c : Chain) (older : List Version) (v w : Version) where
  abbrev with_v : Chain
  with_v = with_versions (older ++ v ∷ []) c

  abbrev with_w : Chain
  with_w = with_versions (older ++ w ∷ []) c

  pub newest-written : IsChain with_v → c.attached ≡ true → AllInherit w → ((x : Pos) → IsEvenAt Memtable (older ++ v ∷ []) x → IsEvenAt Memtable (older ++ w ∷ []) x) → IsMemtableChain with_v → IsMemtableChain with_w
  newest-written ch att ai step k = record {
    flags = each-other _ older [] v w k.flags ai;
    even = λ j need x. ⊎_elim
        (λ o. subst (λ (s : Stand). IsEvenAt Memtable s.1 x) (stand-older j older (v ∷ []) o ∙ sym (stand-older j older (w ∷ []) o)) (k.even j (⊎_elim inl (λ a. absurd (omega (arith, o, a.1, length-cons older w []))) need) x))
        (λ n. subst (λ (s : Stand). IsEvenAt Memtable s.1 x) (sym (stand-at j older [] w n))
        (step x (subst (λ (s : Stand). IsEvenAt Memtable s.1 x) (stand-at j older [] v n) (k.even j (inr (att, omega (arith, n, above-zero (length older), length-cons older v []))) x))))
        (older_or_newest j older v (⊎_elim (λ p. ch.pins j p) (λ a. omega (arith, a.1, length-cons older w [], length-cons older v [])) need));
  }

-- what is seen at a version that is not the newest stays
pub left-alone : (c : Chain) (f : Version → Version) (newest j : ℕ) → suc newest ≡ length c.versions → suc j < length c.versions → upto (on_newest f c.versions) j ≡ upto c.versions j
left-alone c f newest j e l = let n = newest-is c.versions newest e in
    ap (λ us. upto us j) (ap (on_newest f) n.parts ∙ on_newest-parts f n.older n.newest)
    ∙ ap (λ (s : Stand). s.1) (stand-older j n.older (f n.newest ∷ []) (inside n) ∙ sym (stand-older j n.older (n.newest ∷ []) (inside n)))
    ∙ sym (ap (λ us. upto us j) n.parts)
  where
    inside : (n : Newest c.versions newest) → j < length n.older
    inside n = omega (arith, l, ap length n.parts, length-cons n.older n.newest [])

pub written : (c : Chain) (newest : ℕ) (f : Version → Version) → suc newest ≡ length c.versions → IsChain c → c.attached ≡ true →
    ((v : Version) → AllInherit v → IsVersion v → AllInherit (f v)) →
    ((older : List Version) (v : Version) → IsVersion v → AllInherit v → (x : Pos) → IsEvenAt Memtable (older ++ v ∷ []) x → IsEvenAt Memtable (older ++ f v ∷ []) x) →
    IsMemtableChain c → IsMemtableChain (with_newest f c)
written c newest f e ch att keep step k = let n = newest-is c.versions newest e in
    subst (λ us. IsMemtableChain (with_versions us c)) (sym (ap (on_newest f) n.parts ∙ on_newest-parts f n.older n.newest))
    (newest-written c n.older n.newest (f n.newest) (subst (λ us. IsChain (with_versions us c)) n.parts ch) att (keep n.newest (inherits n) (form n)) (step n.older n.newest (form n) (inherits n))
    (subst (λ us. IsMemtableChain (with_versions us c)) n.parts k))
  where
    inherits : (n : Newest c.versions newest) → AllInherit n.newest
    inherits n = each-one AllInherit n.older [] n.newest (subst (EachOf AllInherit) n.parts k.flags)

    form : (n : Newest c.versions newest) → IsVersion n.newest
    form n = each-one IsVersion n.older [] n.newest (subst (EachOf IsVersion) n.parts ch.versions)

module _ (c : Chain) (newest : ℕ) (e : suc newest ≡ length c.versions) (ch : IsChain c) (att : c.attached ≡ true) (k : IsMemtableChain c) where
  pub row-memtable : (p : Pos) (row : Row) → IsMemtableChain (with_newest (row_joined p row) c)
  row-memtable p row = written c newest (row_joined p row) e ch att (λ v a i. row-inherits [] v i a p row) (λ older v i a. row-even older v i a p row) k

  pub range-memtable : (from to : Pos) (tomb : Tomb) → IsMemtableChain (with_newest (range_joined from to tomb) c)
  range-memtable from to tomb = written c newest (range_joined from to tomb) e ch att (λ v a i. range-inherits [] v i a from to tomb) (λ older v i a. range-even older v i a from to tomb) k

  same_cells : (f : Version → Version) → ((v : Version) → (static_state (f v)).flag ≡ (static_state v).flag) → ((v : Version) (s : Spot) → state_at s (f v) ≡ state_at s v) → IsMemtableChain (with_newest f c)
  same_cells f st cl = written c newest f e ch att
      (λ v a i. record { statics = st v ∙ a.statics; clustered = λ s. ap (λ (d : SpotState). d.flag) (cl v s) ∙ a.clustered s })
      (λ older v i a x. even_as_before Memtable (older ++ v ∷ []) (older ++ f v ∷ []) x (seen-same (state_at (On x)) older v (f v) (cl v (On x))) (λ _. seen-same (state_at (Behind x)) older v (f v) (cl v (Behind x)))) k

  pub pt-memtable : (tomb : Tomb) → IsMemtableChain (with_newest (join_pt tomb) c)
  pt-memtable tomb = same_cells (join_pt tomb) (λ _. refl) (λ _ _. refl)

  pub statics-memtable : (row : Row) → IsMemtableChain (with_newest (join_statics row) c)
  statics-memtable row = same_cells (join_statics row) (λ _. refl) (λ _ _. refl)
