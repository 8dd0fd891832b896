-- A chain of which the newest version is filled through a snapshot, several times: once the snapshot stands for what lies below it, the chain says what lies below.
use Rattle.std.proofs.Common.{◌≡◌, ◌<◌, ◌≤◌, ℕ, suc, true, false, cond, List, [], ◌∷◌, ◌++◌, Option, None, length, nat_eq, inl, inr, refl, sym, ◌∙◌, subst, arith}
use Rattle.std.specs.Prelude.{All}
use Rattle.rc_cell.specs.declared.rows.Row.{Row}
use Rattle.rc_cell.specs.declared.writes.Tomb.{Tomb}
use Rattle.rc_position.specs.declared.comps.Comp.{Comp}
use Rattle.rc_position.specs.declared.positions.Pos.{Pos}
use Rattle.rc_position.specs.Position.{Head, IsBefore, Place, pos_cmp, row_pos}
use Rattle.rc_schema.specs.SchemaValue.{SchemaValue}
use Rattle.rc_mutation.specs.declared.mutations.Mutation.{Mutation}
use Rattle.rc_mutation.specs.Source.{SameSource}
use Rattle.rc_writes.specs.Allowed.{ChangeFits}
use Rattle.rc_core.specs.Chains.{Shown, at_place, phase_at, upto}
use Rattle.rc_core.specs.Continuity.{EachOf, HoldNoMore, IsContinuous, IsEvicted, fill_statics}
use Rattle.rc_core.specs.Steps.{IsChain, MayPopulate, gap_filled, on_version, row_filled}
use Rattle.rc_core.specs.Version.{IsVersion, Version, end_position}
use Rattle.rc_core.specs.laws.Losing.{each-one}
use Rattle.rc_core.specs.laws.Updating.{relabelled}
use Rattle.rc_memory.specs.Memory.{KeptChain, Member, on_shown, on_version_of}
use Rattle.rc_filler.specs.Evictions.{evicted_at, evicted_of}
use Rattle.rc_entries.specs.Filling.{filled_statics, on_newest_of}
use Rattle.rc_filler.specs.Stands.{HoldsRowsOf}
use Rattle.rc_filler.specs.Fills.{IsPortion, OfGap, OfRow, OfStatics, Portion, filled_with}
use Rattle.rc_row_cache.specs.Saying.{SaysBelow}
use Rattle.rc_row_cache.proofs.Lists.{OlderAndNewest, low-or, newest-long, older-and, on-both, on-each, on-last, settle, upto-newest}
use Rattle.rc_row_cache.proofs.Rows.{HoldsOrKnows, evicted-or, evicted-rows, filled-or, holds-or, newest-settles}
use Rattle.rc_row_cache.proofs.Under.{AreSaidUnder, said-evicted, said-filled, said-under, said-whole}

-- what is known of evictions and of fills, of one version and of one chain
pub record ChainLaws : Type 0 where
  pub lost : (at : Option Pos) (v : Version) → IsVersion v → IsEvicted v (evicted_at at v)
  pub phase : (at : Option Pos) (v : Version) → (evicted_at at v).phase ≡ v.phase
  pub form : (p : Place) (id : ℕ) (went : List Member) (k : KeptChain) → IsChain (at_place p k.chain) → IsChain (at_place p (evicted_of id went k).chain)
  pub updating : (id : ℕ) (went : List Member) (k : KeptChain) → (evicted_of id went k).chain.updating ≡ k.chain.updating
  pub count : (id : ℕ) (went : List Member) (k : KeptChain) → length (evicted_of id went k).chain.versions ≡ length k.chain.versions
  pub gap_form : (p : Place) (c : Shown) (j : ℕ) (from to : Pos) (tomb : Option Tomb) → MayPopulate (at_place p c) j → IsChain (at_place p c) → IsChain (at_place p (on_newest_of (gap_filled from to tomb) c))
  pub row_form : (p : Place) (c : Shown) (j : ℕ) (x : Pos) (row : Row) (tomb : Option Tomb) → MayPopulate (at_place p c) j → IsBefore x end_position → IsChain (at_place p c) → IsChain (at_place p (on_newest_of (row_filled x row tomb) c))
  pub statics_form : (p : Place) (c : Shown) (j : ℕ) (statics : Option Row) → MayPopulate (at_place p c) j → IsChain (at_place p c) → IsChain (at_place p (on_newest_of (fill_statics statics) c))

-- each version of a number below the newest one says what lies below it, and the newest holds rows of the schema, or such as are known
pub record IsFilling (schema : SchemaValue) (below : ℕ → List Mutation) (j : ℕ) (k : KeptChain) : Type 0 where
  pub settled : k.chain.updating ≡ false
  pub form : IsChain (at_place Head k.chain)
  pub newest : suc j ≡ length k.chain.versions
  pub under : AreSaidUnder below j k.chain
  pub rows : OlderAndNewest (HoldsRowsOf schema) (HoldsOrKnows schema) k.chain.versions

before-end : (key : List Comp) → IsBefore (row_pos key) end_position
unfolding pos_cmp
before-end [] = refl
before-end (c ∷ cs) = refl

pub phase-kept : (q : Portion) (v : Version) → (filled_with q v).phase ≡ v.phase
phase-kept (OfGap from to tomb) v = refl
phase-kept (OfRow key row tomb) v = refl
phase-kept (OfStatics row) v = refl

module _ (laws : ChainLaws) (schema : SchemaValue) (below : ℕ → List Mutation) where
  -- ---- evicted

  said-without : (id : ℕ) (went : List Member) (k : KeptChain) (n : ℕ) → IsChain (at_place Head k.chain) → AreSaidUnder below n k.chain → AreSaidUnder below n (evicted_of id went k).chain
  said-without id [] k n ch s = s
  said-without id (w ∷ ws) k n ch s = said-without id ws (cond (nat_eq w.chain id) (on_shown (on_version_of w.version (evicted_at w.position)) k) k) n (laws.form Head id (w ∷ []) k ch)
      (elim (nat_eq w.chain id) as (λ b. AreSaidUnder below n (cond b (on_shown (on_version_of w.version (evicted_at w.position)) k) k).chain) [
        | true ↦ said-evicted below w.version (evicted_at w.position) k.chain (laws.lost w.position) (laws.phase w.position) ch.versions n s
        | false ↦ s
      ])

  -- what each eviction keeps of versions evictions keep
  kept-without : (P : List Version → Type 0) → ((j : ℕ) (at : Option Pos) (vs : List Version) → P vs → P (on_version j (evicted_at at) vs)) → (id : ℕ) (went : List Member) (k : KeptChain) → P k.chain.versions → P (evicted_of id went k).chain.versions
  kept-without P keeps id [] k h = h
  kept-without P keeps id (w ∷ ws) k h = kept-without P keeps id ws (cond (nat_eq w.chain id) (on_shown (on_version_of w.version (evicted_at w.position)) k) k)
      (elim (nat_eq w.chain id) as (λ b. P (cond b (on_shown (on_version_of w.version (evicted_at w.position)) k) k).chain.versions) [ true ↦ keeps w.version w.position k.chain.versions h | false ↦ h ])

  pub says-without : (id : ℕ) (went : List Member) (k : KeptChain) → SaysBelow schema below k → SaysBelow schema below (evicted_of id went k)
  says-without id went k s =
      let settled = laws.updating id went k ∙ s.settled in
      let form = laws.form Head id went k s.form in
      record {
        settled = settled;
        form = form;
        continuous = said-whole below (evicted_of id went k).chain settled form
            (subst (λ n. AreSaidUnder below n (evicted_of id went k).chain) (sym (laws.count id went k)) (said-without id went k (length k.chain.versions) s.form (said-under below k.chain s.settled (length k.chain.versions) (omega arith) s.continuous)));
        rows = kept-without (EachOf (HoldsRowsOf schema)) (λ j at. on-each (HoldsRowsOf schema) j (evicted_at at) (evicted-rows schema at)) id went k s.rows;
      }

  pub filling-without : (id : ℕ) (went : List Member) (j : ℕ) (k : KeptChain) → IsFilling schema below j k → IsFilling schema below j (evicted_of id went k)
  filling-without id went j k s = record {
    settled = laws.updating id went k ∙ s.settled;
    form = laws.form Head id went k s.form;
    newest = s.newest ∙ sym (laws.count id went k);
    under = said-without id went k j s.form s.under;
    rows = kept-without (OlderAndNewest (HoldsRowsOf schema) (HoldsOrKnows schema)) (λ i at. on-both (HoldsRowsOf schema) (HoldsOrKnows schema) i (evicted_at at) (evicted-rows schema at) (evicted-or schema at)) id went k s.rows;
  }

  -- ---- filled

  portion-form : (q : Portion) (c : Shown) (j : ℕ) → MayPopulate (at_place Head c) j → IsChain (at_place Head c) → IsChain (at_place Head (on_newest_of (filled_with q) c))
  portion-form (OfGap from to tomb) c j may ch = laws.gap_form Head c j from to tomb may ch
  portion-form (OfRow key row tomb) c j may ch = laws.row_form Head c j (row_pos key) row tomb may (before-end key) ch
  portion-form (OfStatics row) c j may ch = laws.statics_form Head c j (filled_statics row) may ch

  pub filling-filled : (q : Portion) → IsPortion q → (j : ℕ) (k : KeptChain) → MayPopulate (at_place Head k.chain) j → IsFilling schema below j k → IsFilling schema below j (on_shown (on_newest_of (filled_with q)) k)
  filling-filled q whole j k may s = record {
    settled = s.settled;
    form = portion-form q k.chain j may s.form;
    newest = s.newest ∙ sym (newest-long (filled_with q) k.chain.versions);
    under = said-filled below (filled_with q) k.chain (phase-kept q) j s.newest s.under;
    rows = on-last (HoldsRowsOf schema) (HoldsOrKnows schema) (filled_with q) (filled-or schema q whole) k.chain.versions s.rows;
  }

  -- ---- before the first fill, and once the snapshot stands for what lies below

  pub filling-from : (j : ℕ) (k : KeptChain) → suc j ≡ length k.chain.versions → SaysBelow schema below k → IsFilling schema below j k
  filling-from j k newest s = record {
    settled = s.settled;
    form = s.form;
    newest = newest;
    under = said-under below k.chain s.settled j (omega (arith, newest)) s.continuous;
    rows = older-and (HoldsRowsOf schema) (HoldsOrKnows schema) (holds-or schema) k.chain.versions s.rows;
  }

  -- by a chain that is continuous for what says the same below the newest version, whose rows are of whatever schema
  module _ (j : ℕ) (k : KeptChain) (s : IsFilling schema below j k) (writes : List Mutation) (fit : All (ChangeFits schema) writes) (same : SameSource writes (below (phase_at k.chain.versions j)))
      (on : IsContinuous None writes (upto k.chain.versions j)) (other : SchemaValue) (held : EachOf (HoldsRowsOf other) k.chain.versions) where
    at-newest : IsContinuous None (below (phase_at k.chain.versions j)) (upto k.chain.versions j)
    at-newest = relabelled None writes (below (phase_at k.chain.versions j)) (upto k.chain.versions j) same on

    is-newest : (i : ℕ) → i < length k.chain.versions → j ≤ i → j ≡ i
    is-newest i low high = let last = s.newest in omega (arith, low, high, last)

    said-then : AreSaidUnder below (length k.chain.versions) k.chain
    said-then = record {
      within = λ i low. elim (low-or i j) [
        | inl before ↦ s.under.within i before
        | inr high ↦ subst (λ n. HoldNoMore (below (phase_at k.chain.versions n)) (upto k.chain.versions n)) (is-newest i low high) at-newest.within
      ];
      needed = λ i low need. elim (low-or i j) [
        | inl before ↦ s.under.needed i before need
        | inr high ↦ subst (λ n. IsContinuous None (below (phase_at k.chain.versions n)) (upto k.chain.versions n)) (is-newest i low high) at-newest
      ];
    }

    last-settles : (older : List Version) (v : Version) → k.chain.versions ≡ older ++ v ∷ [] → HoldsOrKnows schema v → HoldsRowsOf schema v
    last-settles older v parts h = newest-settles schema writes fit other older v (each-one IsVersion older [] v (subst (EachOf IsVersion) parts s.form.versions))
        (subst (IsContinuous None writes) (upto-newest k.chain.versions j s.newest ∙ parts) on) (each-one (HoldsRowsOf other) older [] v (subst (EachOf (HoldsRowsOf other)) parts held)) h

    pub says-then : SaysBelow schema below k
    says-then = record {
      settled = s.settled;
      form = s.form;
      continuous = said-whole below k.chain s.settled s.form said-then;
      rows = settle (HoldsRowsOf schema) (HoldsOrKnows schema) [] k.chain.versions s.rows last-settles;
    }
