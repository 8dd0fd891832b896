-- A portion that is filled leaves the writes for which a snapshot stands, is known to it then, and leaves what it knew.
use Rattle.std.proofs.Common.{◌≡◌, ◌&&◌, ℕ, Bool, true, false, List, [], ◌∷◌, Option, Some, None, cond, get_or, refl, sym, ap, ◌∙◌, subst}
use Rattle.std.specs.Prelude.{◌≢◌, All, IsTrue}
use Rattle.std.specs.Option.{option_to_list}
use Rattle.std.specs.Ordering.{is_le, is_lt}
use Rattle.std.specs.declared.cmp.Ordering.{Ordering}
use Rattle.std.specs.declared.cmp.Ordering.TheVariants.{Less, Equal, Greater}
use Rattle.rc_cell.specs.declared.rows.Row.{Row}
use Rattle.rc_cell.specs.declared.writes.Tomb.{Tomb}
use Rattle.rc_cell.specs.Winner.{empty_row, joined_row}
use Rattle.rc_position.specs.declared.comps.Comp.{Comp}
use Rattle.rc_position.specs.declared.positions.Pos.{Pos}
use Rattle.rc_position.specs.Position.{Head, IsBefore, Place, covers, pos_cmp, row_pos}
use Rattle.rc_schema.specs.SchemaValue.{SchemaValue}
use Rattle.rc_mutation.specs.declared.mutations.Mutation.{Mutation}
use Rattle.rc_mutation.specs.Source.{SameSource, source_at, source_at_static}
use Rattle.rc_writes.specs.Allowed.{ChangeFits}
use Rattle.rc_core.specs.declared.entries.ChainKind.TheVariants.{Cache}
use Rattle.rc_core.specs.Chain.{IsKnown, content, has_flag, states_at}
use Rattle.rc_core.specs.Chains.{IsChainContinuous, IsPinned, Shown, at_place, phase_at, phases, upto}
use Rattle.rc_core.specs.Continuity.{IsContinuous, fill_statics, static_states}
use Rattle.rc_core.specs.Steps.{IsChain, MayPopulate, gap_filled, on_newest, row_filled}
use Rattle.rc_core.specs.Version.{On, Version, end_position}
use Rattle.rc_memory.specs.Memory.{KeptChain, Memory, chain_at, on_chain, on_shown}
use Rattle.rc_chain.specs.laws.PlaceBeside.{anywhere-fills, anywhere-same, updating-or-not}
use Rattle.rc_populate.specs.Filling.{filled_statics, on_newest_of}
use Rattle.rc_filler.specs.Stands.{HasCacheSnapshot, HoldsRowsOf, StandsForWrites}
use Rattle.rc_filler.specs.Fills.{IsPortion, IsPortionFilled, OfGap, OfRow, OfStatics, Portion, SayPortion, filled_with}
use Rattle.rc_filler.proofs.Entries.{newest-each}
use Rattle.rc_filler.proofs.FromSource.{row-of, static-of}
use Rattle.rc_filler.proofs.OfSchema.{gap-rows, row-rows, static-rows}
use Rattle.rc_filler.proofs.Seen.{may-there, pins-there}

-- what is known of fills
pub record FillLaws : Type 0 where
  pub here : (id : ℕ) (f : Version → Version) (old new : Memory) (k : KeptChain) → new.chains ≡ on_chain id (on_shown (on_newest_of f)) old.chains → chain_at old id ≡ Some k → chain_at new id ≡ Some (on_shown (on_newest_of f) k)
  pub given_is : (writes : List Mutation) → joined_row (option_to_list (filled_statics (source_at_static writes))) ≡ source_at_static writes
  pub gap_form : (p : Place) (c : Shown) (j : ℕ) (from to : Pos) (tomb : Option Tomb) → MayPopulate (at_place p c) j → IsChain (at_place p c) → IsChain (at_place p (on_newest_of (gap_filled from to tomb) c))
  pub gap_chain : (below : ℕ → List Mutation) (p : Place) (c : Shown) (j : ℕ) (from to : Pos) (tomb : Option Tomb) → MayPopulate (at_place p c) j → IsChain (at_place p c) →
      ((x : Pos) → covers from to x ≡ true → source_at (below (phase_at c.versions j)) x ≡ (empty_row, tomb)) → IsChainContinuous below (at_place p c) → IsChainContinuous below (at_place p (on_newest_of (gap_filled from to tomb) c))
  pub gap_known : (c : Shown) (j : ℕ) (from to : Pos) (tomb : Option Tomb) (x : Pos) → MayPopulate (at_place Head c) j → IsChain (at_place Head c) → covers from to x ≡ true → IsKnown Cache (upto (on_newest_of (gap_filled from to tomb) c).versions j) x
  pub gap_kept : (c : Shown) (j : ℕ) (from to : Pos) (tomb : Option Tomb) (x : Pos) → MayPopulate (at_place Head c) j → IsChain (at_place Head c) → IsKnown Cache (upto c.versions j) x → IsKnown Cache (upto (on_newest_of (gap_filled from to tomb) c).versions j) x
  pub row_form : (p : Place) (c : Shown) (j : ℕ) (x : Pos) (row : Row) (tomb : Option Tomb) → MayPopulate (at_place p c) j → IsBefore x end_position → IsChain (at_place p c) → IsChain (at_place p (on_newest_of (row_filled x row tomb) c))
  pub row_chain : (below : ℕ → List Mutation) (p : Place) (c : Shown) (j : ℕ) (x : Pos) (row : Row) (tomb : Option Tomb) → MayPopulate (at_place p c) j → IsChain (at_place p c) →
      source_at (below (phase_at c.versions j)) x ≡ (row, tomb) → row ≢ empty_row → IsChainContinuous below (at_place p c) → IsChainContinuous below (at_place p (on_newest_of (row_filled x row tomb) c))
  pub row_known : (below : ℕ → List Mutation) (c : Shown) (j : ℕ) (x : Pos) (row : Row) (tomb : Option Tomb) → MayPopulate (at_place Head c) j → IsChain (at_place Head c) →
      source_at (below (phase_at c.versions j)) x ≡ (row, tomb) → row ≢ empty_row → IsChainContinuous below (at_place Head c) → IsKnown Cache (upto (on_newest_of (row_filled x row tomb) c).versions j) x
  pub row_kept : (below : ℕ → List Mutation) (c : Shown) (j : ℕ) (x : Pos) (row : Row) (tomb : Option Tomb) → MayPopulate (at_place Head c) j → IsChain (at_place Head c) →
      source_at (below (phase_at c.versions j)) x ≡ (row, tomb) → row ≢ empty_row → IsChainContinuous below (at_place Head c) → (y : Pos) → IsKnown Cache (upto c.versions j) y → IsKnown Cache (upto (on_newest_of (row_filled x row tomb) c).versions j) y
  pub statics_form : (p : Place) (c : Shown) (j : ℕ) (statics : Option Row) → MayPopulate (at_place p c) j → IsChain (at_place p c) → IsChain (at_place p (on_newest_of (fill_statics statics) c))
  pub statics_chain : (below : ℕ → List Mutation) (p : Place) (c : Shown) (j : ℕ) (statics : Option Row) → MayPopulate (at_place p c) j → IsChain (at_place p c) →
      joined_row (option_to_list statics) ≡ source_at_static (below (phase_at c.versions j)) → IsChainContinuous below (at_place p c) → IsChainContinuous below (at_place p (on_newest_of (fill_statics statics) c))
  pub statics_known : (c : Shown) (j : ℕ) (statics : Option Row) → MayPopulate (at_place Head c) j → IsTrue (has_flag Cache (static_states (upto (on_newest_of (fill_statics statics) c).versions j)))
  pub statics_kept : (c : Shown) (j : ℕ) (statics : Option Row) (x : Pos) → MayPopulate (at_place Head c) j → IsKnown Cache (upto c.versions j) x → IsKnown Cache (upto (on_newest_of (fill_statics statics) c).versions j) x

-- ---- what is said

both-true : (a b : Bool) → a && b ≡ true → (a ≡ true) × (b ≡ true)
both-true true b h = (refl, h)
both-true false b h = absurd (cc)

less-is : (r : Ordering) → is_lt r ≡ true → r ≡ Less
less-is Less h = refl
less-is Equal h = absurd (cc)
less-is Greater h = absurd (cc)

before-end : (key : List Comp) → IsBefore (row_pos key) end_position
unfolding pos_cmp
before-end [] = refl
before-end (c ∷ cs) = refl

-- where two lists of writes say the same, one says what the other says
pub say-same : (writes others : List Mutation) (q : Portion) → SameSource writes others → SayPortion others q → SayPortion writes q
say-same writes others (OfGap from to tomb) same said = λ x on before. same.clustered x ∙ said x on before
say-same writes others (OfRow key row tomb) same said = same.clustered (row_pos key) ∙ said
say-same writes others (OfStatics row) same said = same.statics ∙ said

-- where a snapshot may fill no update stands in its chain
pub settled : (p : Place) (c : Shown) (j : ℕ) → MayPopulate (at_place p c) j → c.updating ≡ false
settled p c j m = updating-or-not (c.updating ≡ false) c.updating
    (λ u. let e : Some p ≡ None = sym (ap (λ b. cond b (Some p) None) u) ∙ m.settled in absurd (cc))
    (λ u. u)

phase-kept : (q : Portion) (v : Version) → (filled_with q v).phase ≡ v.phase
phase-kept (OfGap from to tomb) v = refl
phase-kept (OfRow key row tomb) v = refl
phase-kept (OfStatics row) v = refl

pub phases-kept : (q : Portion) (vs : List Version) → phases (on_newest (filled_with q) vs) ≡ phases vs
phases-kept q [] = refl
phases-kept q (v ∷ []) = ap (λ p. p ∷ []) (phase-kept q v)
phases-kept q (v ∷ w ∷ vs) = ap (λ ps. v.phase ∷ ps) (phases-kept q (w ∷ vs))

-- ---- a version filled

portion-rows : (schema : SchemaValue) (writes : List Mutation) → All (ChangeFits schema) writes → (q : Portion) → IsPortion q → SayPortion writes q → (v : Version) → HoldsRowsOf schema v → HoldsRowsOf schema (filled_with q v)
portion-rows schema writes fit (OfGap from to tomb) whole said v h = gap-rows schema from to tomb v h
portion-rows schema writes fit (OfRow key row tomb) whole said v h = let is = row-of schema writes fit key row tomb said whole in row-rows schema key row tomb is.0 is.1 v h
portion-rows schema writes fit (OfStatics row) whole said v h = let is = static-of schema writes fit row said in static-rows schema row is.0 is.1 v h

-- what a chain knows of a portion that was filled
abbrev pub KnownIn : Portion → Shown → ℕ → Type 0
KnownIn (OfGap from to tomb) c j = (x : Pos) → covers from to x ≡ true → IsKnown Cache (upto c.versions j) x
KnownIn (OfRow key row tomb) c j = IsKnown Cache (upto c.versions j) (row_pos key)
KnownIn (OfStatics row) c j = IsTrue (has_flag Cache (static_states (upto c.versions j)))

module _ (laws : FillLaws) where
  portion-form : (q : Portion) → IsPortion q → (p : Place) (c : Shown) (j : ℕ) → MayPopulate (at_place p c) j → IsChain (at_place p c) → IsChain (at_place p (on_newest_of (filled_with q) c))
  portion-form (OfGap from to tomb) whole p c j may ch = laws.gap_form p c j from to tomb may ch
  portion-form (OfRow key row tomb) whole p c j may ch = laws.row_form p c j (row_pos key) row tomb may (before-end key) ch
  portion-form (OfStatics row) whole p c j may ch = laws.statics_form p c j (filled_statics row) may ch

  statics-given : (writes : List Mutation) (row : Row) → source_at_static writes ≡ row → joined_row (option_to_list (filled_statics row)) ≡ source_at_static writes
  statics-given writes row said = ap (λ r. joined_row (option_to_list (filled_statics r))) (sym said) ∙ laws.given_is writes

  gap-said : (writes : List Mutation) (from to : Pos) (tomb : Option Tomb) → SayPortion writes (OfGap from to tomb) → (x : Pos) → covers from to x ≡ true → source_at writes x ≡ (empty_row, tomb)
  gap-said writes from to tomb said x inside = let both = both-true (is_le (pos_cmp from x)) (is_lt (pos_cmp x to)) inside in said x both.0 (less-is (pos_cmp x to) both.1)

  pub portion-chain : (q : Portion) → IsPortion q → (below : ℕ → List Mutation) (p : Place) (c : Shown) (j : ℕ) → MayPopulate (at_place p c) j → IsChain (at_place p c) → SayPortion (below (phase_at c.versions j)) q →
      IsChainContinuous below (at_place p c) → IsChainContinuous below (at_place p (on_newest_of (filled_with q) c))
  portion-chain (OfGap from to tomb) whole below p c j may ch said on = laws.gap_chain below p c j from to tomb may ch (gap-said (below (phase_at c.versions j)) from to tomb said) on
  portion-chain (OfRow key row tomb) whole below p c j may ch said on = laws.row_chain below p c j (row_pos key) row tomb may ch said whole on
  portion-chain (OfStatics row) whole below p c j may ch said on = laws.statics_chain below p c j (filled_statics row) may ch (statics-given (below (phase_at c.versions j)) row said) on

  module _ (below : ℕ → List Mutation) (c : Shown) (j : ℕ) (may : MayPopulate (at_place Head c) j) (ch : IsChain (at_place Head c)) (on : IsChainContinuous below (at_place Head c)) where
    pub portion-known : (q : Portion) → IsPortion q → SayPortion (below (phase_at c.versions j)) q → KnownIn q (on_newest_of (filled_with q) c) j
    portion-known (OfGap from to tomb) whole said = λ x inside. laws.gap_known c j from to tomb x may ch inside
    portion-known (OfRow key row tomb) whole said = laws.row_known below c j (row_pos key) row tomb may ch said whole on
    portion-known (OfStatics row) whole said = laws.statics_known c j (filled_statics row) may

    pub portion-kept : (q : Portion) → IsPortion q → SayPortion (below (phase_at c.versions j)) q → (x : Pos) → IsKnown Cache (upto c.versions j) x → IsKnown Cache (upto (on_newest_of (filled_with q) c).versions j) x
    portion-kept (OfGap from to tomb) whole said x k = laws.gap_kept c j from to tomb x may ch k
    portion-kept (OfRow key row tomb) whole said x k = laws.row_kept below c j (row_pos key) row tomb may ch said whole on x k
    portion-kept (OfStatics row) whole said x k = laws.statics_kept c j (filled_statics row) x may k

  -- ---- a snapshot's chain filled

  module _ (q : Portion) (id pin : ℕ) (old new : Memory) (f : IsPortionFilled q id pin old new) where
    -- the chain then
    pub filled-chain : (k : KeptChain) → chain_at old id ≡ Some k → chain_at new id ≡ Some (on_shown (on_newest_of (filled_with q)) k)
    filled-chain k e = laws.here id (filled_with q) old new k f.filled.chains e

    abbrev pub filled-there : HasCacheSnapshot old id pin → HasCacheSnapshot new id pin
    filled-there h = record { chain = on_shown (on_newest_of (filled_with q)) h.chain; number = h.number; there = filled-chain h.chain h.there; pinned = h.pinned; cached = h.cached }

    module _ (S : ℕ) (writes : List Mutation) (s : StandsForWrites S old id pin writes) (said : SayPortion writes q) where
      abbrev pub chain_filled : Shown
      chain_filled = s.snapshot.chain.chain

      may : MayPopulate (at_place Head chain_filled) s.snapshot.number
      may = may-there old id pin s.snapshot f.may

      no_update : chain_filled.updating ≡ false
      no_update = settled Head chain_filled s.snapshot.number may

      said_below : SayPortion (s.below (phase_at chain_filled.versions s.snapshot.number)) q
      said_below = say-same (s.below (phase_at chain_filled.versions s.snapshot.number)) writes q s.source said

      at_head : at_place s.place chain_filled ≡ at_place Head chain_filled
      at_head = anywhere-same s.place Head chain_filled no_update

      filled_form : IsChain (at_place s.place (on_newest_of (filled_with q) chain_filled))
      filled_form = portion-form q f.whole s.place chain_filled s.snapshot.number (anywhere-fills Head s.place chain_filled s.snapshot.number may) s.form

      filled_continuous : IsChainContinuous s.below (at_place s.place (on_newest_of (filled_with q) chain_filled))
      filled_continuous = portion-chain q f.whole s.below s.place chain_filled s.snapshot.number (anywhere-fills Head s.place chain_filled s.snapshot.number may) s.form said_below s.continuous

      source_then : SameSource (s.below (phase_at (on_newest (filled_with q) chain_filled.versions) s.snapshot.number)) writes
      source_then = subst (λ (ps : List ℕ). SameSource (s.below (get_or ps s.snapshot.number 0)) writes) (sym (phases-kept q chain_filled.versions)) s.source

      pub filled-stands : StandsForWrites S new id pin writes
      filled-stands = record {
        snapshot = filled-there s.snapshot;
        place = s.place;
        below = s.below;
        form = filled_form;
        continuous = filled_continuous;
        unlisted = λ x j is up last on. (let clash : true ≡ false = sym up ∙ no_update in cc);
        source = source_then;
        schema = s.schema;
        limits = s.limits;
        small = s.small;
        changes = s.changes;
        rows = newest-each (HoldsRowsOf s.schema) (filled_with q) (portion-rows s.schema writes s.changes q f.whole said) chain_filled.versions s.rows;
      }

      pub filled-known : KnownIn q (on_newest_of (filled_with q) chain_filled) s.snapshot.number
      filled-known = portion-known s.below chain_filled s.snapshot.number may (subst IsChain at_head s.form) (subst (IsChainContinuous s.below) at_head s.continuous) q f.whole said_below

      pub filled-kept : (x : Pos) → IsKnown Cache (upto chain_filled.versions s.snapshot.number) x → IsKnown Cache (upto (on_newest_of (filled_with q) chain_filled).versions s.snapshot.number) x
      filled-kept = portion-kept s.below chain_filled s.snapshot.number may (subst IsChain at_head s.form) (subst (IsChainContinuous s.below) at_head s.continuous) q f.whole said_below

      module _ (source : (below : ℕ → List Mutation) (p : Place) (c : Shown) (j : ℕ) → IsChain (at_place p c) → IsChainContinuous below (at_place p c) → IsPinned c.pins j → IsContinuous None (below (phase_at c.versions j)) (upto c.versions j)) where
        seen_then : IsContinuous None (s.below (phase_at (on_newest (filled_with q) chain_filled.versions) s.snapshot.number)) (upto (on_newest (filled_with q) chain_filled.versions) s.snapshot.number)
        seen_then = source s.below s.place (on_newest_of (filled_with q) chain_filled) s.snapshot.number filled_form filled_continuous (pins-there old id pin s.snapshot)

        -- what is seen where a position is known, and of the static row
        pub filled-content : (x : Pos) → IsKnown Cache (upto (on_newest (filled_with q) chain_filled.versions) s.snapshot.number) x → content (states_at (On x) (upto (on_newest (filled_with q) chain_filled.versions) s.snapshot.number)) ≡ source_at writes x
        filled-content x k = seen_then.clustered x tt k.at ∙ source_then.clustered x

        pub filled-statics : IsTrue (has_flag Cache (static_states (upto (on_newest (filled_with q) chain_filled.versions) s.snapshot.number))) → (content (static_states (upto (on_newest (filled_with q) chain_filled.versions) s.snapshot.number))).0 ≡ source_at_static writes
        filled-statics known = ap (λ (a : Row × Option Tomb). a.0) (seen_then.statics tt known) ∙ source_then.statics
