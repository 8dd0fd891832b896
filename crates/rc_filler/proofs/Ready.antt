-- What a fill asks for is there where a snapshot stands for writes that say what is filled.
use Rattle.std.proofs.Common.{◌≡◌, ◌≤◌, ◌/◌, ℕ, true, false, cond, List, Option, Some, None, refl, sym, ap, ◌∙◌, subst, arith}
use Rattle.std.specs.Prelude.{◌≢◌, IfSome}
use Rattle.std.specs.Ordering.{eq_by_cmp}
use Rattle.rc_cell.specs.declared.rows.Row.{Row}
use Rattle.rc_cell.specs.declared.writes.Tomb.{Tomb}
use Rattle.rc_cell.specs.Winner.{IsRow, empty_row}
use Rattle.rc_position.specs.declared.comps.Comp.{Comp}
use Rattle.rc_position.specs.declared.positions.Pos.{Pos}
use Rattle.rc_position.specs.Position.{IsBefore, Place, pos_cmp, row_pos}
use Rattle.rc_rowcode.specs.Objects.{dummy_size, entry_size}
use Rattle.rc_rowcode.specs.Spelling.{KeyFits, RowFits}
use Rattle.rc_schema.specs.laws.Fitting.{cells_fit, cells_pass, dummy_within, key_fits, key_passes}
use Rattle.rc_mutation.specs.declared.mutations.Mutation.{Mutation}
use Rattle.rc_mutation.specs.Fragments.{is_written}
use Rattle.rc_mutation.specs.Source.{source_at, source_at_static}
use Rattle.rc_writes.specs.Allowed.{IsRowOf, IsStaticOf}
use Rattle.rc_core.specs.AtPlace.{EachEntry}
use Rattle.rc_core.specs.Chains.{IsChainContinuous, Shown, at_place, phase_at}
use Rattle.rc_core.specs.Change.{gap_split, with_row}
use Rattle.rc_core.specs.Continuity.{EachOf, IsWithin, fill_statics}
use Rattle.rc_core.specs.Steps.{gap_filled, on_newest, pin_at, row_filled, row_joined}
use Rattle.rc_core.specs.Version.{On, Version, state_at, static_state}
use Rattle.rc_version.specs.Versions.{statics_bytes}
use Rattle.rc_memory.specs.Changes.{AtAlone, IsRenewed, Nowhere, member_at}
use Rattle.rc_memory.specs.Kept.{IsSoundChain}
use Rattle.rc_memory.specs.Memory.{IsVersionAt, KeptChain, Member, Memory, chain_at}
use Rattle.rc_memory.specs.Room.{ChainsFit, FitTogether}
use Rattle.rc_memory.specs.laws.At.{number-there}
use Rattle.rc_memory.specs.laws.Places.{same_some}
use Rattle.rc_memory.specs.laws.Still.{still-wider}
use Rattle.rc_populate.specs.Filling.{AreBoundsListed, IsFilled, IsGivenListed, MayFill, OfPinned, filled_statics}
use Rattle.rc_filler.specs.Stands.{HasCacheSnapshot, HoldsRowsOf, StandsForWrites}
use Rattle.rc_filler.specs.Fills.{IsPortionFilled, OfGap, OfRow, OfStatics}
use Rattle.rc_filler.proofs.Entries.{each-map, entries-all, newest-each, split-each, versions-all}
use Rattle.rc_filler.proofs.FromSource.{row-of, static-of}
use Rattle.rc_filler.proofs.Listed.{come-bounds, come-given, come-renewed, stay-bounds, stay-given, stay-renewed}
use Rattle.rc_filler.proofs.Seen.{pins-there}
use Rattle.rc_filler.proofs.OfSchema.{entry-small, fit-together, joined-rows, static-rows, static-small}

same-number : (i j : ℕ) → ◌≡◌ {A = Option ℕ} (Some i) (Some j) → i ≡ j
same-number i j e = cc

-- what holds of the version that a snapshot pins
pub of-snapshot : (m : Memory) (id pin : ℕ) (h : HasCacheSnapshot m id pin) (P : KeptChain → ℕ → Version → Type 0) → ((v : Version) → IsVersionAt h.chain.chain.versions h.number v → P h.chain h.number v) → OfPinned m id pin P
of-snapshot m id pin h P all k j v e at number =
    subst (λ (q : KeptChain). (i : ℕ) (w : Version) → pin_at q.chain.pins pin ≡ Some i → IsVersionAt q.chain.versions i w → P q i w) (same_some h.chain k (sym h.there ∙ e))
    (λ i w there is. (let same : h.number ≡ i = same-number h.number i (sym h.pinned ∙ there) in
    subst (λ x. P h.chain x w) same (all w (subst (λ x. IsVersionAt h.chain.chain.versions x w) (sym same) is))))
    j v at number

-- no dummy at a position of a version is larger than an eighth of a segment
abbrev AreDummiesSmall : ℕ → Version → Type 0
AreDummiesSmall S v = EachEntry (λ e. dummy_size e.position ≤ S / 8) v.entries

dummies-of : (S : ℕ) (vs : List Version) → FitTogether S vs → EachOf (AreDummiesSmall S) vs
dummies-of S vs fit = versions-all (AreDummiesSmall S) vs (λ v on. entries-all (λ e. dummy_size e.position ≤ S / 8) v.entries (λ e in_v. fit.positions v e on in_v))

module _ (S : ℕ) (m : Memory) (id pin : ℕ) (writes : List Mutation) (s : StandsForWrites S m id pin writes) where
  fit-there : ChainsFit S m → EachOf (AreDummiesSmall S) s.snapshot.chain.chain.versions
  fit-there fit = dummies-of S s.snapshot.chain.chain.versions (subst (λ (o : Option KeptChain). IfSome o (λ k. FitTogether S k.chain.versions)) s.snapshot.there (fit id))

  -- ---- a row

  module _ (key : List Comp) (row : Row) (tomb : Option Tomb) (said : source_at writes (row_pos key) ≡ (row, tomb)) (some : row ≢ empty_row) where
    of-schema : IsRowOf s.schema key row × IsRow row
    of-schema = row-of s.schema writes s.changes key row tomb said some

    pub row-key : KeyFits key
    row-key = key_fits true s.schema key s.limits (key_passes true s.schema key of-schema.0.0)

    pub row-limits : RowFits row
    row-limits = cells_fit false s.schema row.cells s.limits (cells_pass false s.schema row.cells of-schema.0.1)

    pub row-small : entry_size key row ≤ S / 8
    row-small = let within = entry-small s.schema s.limits key row of-schema.0 of-schema.1 in let small = s.small.entry in omega (arith, within, small)

    pub row-within : ((below : ℕ → List Mutation) (p : Place) (c : Shown) (j : ℕ) (v : Version) (x : Pos) → IsVersionAt c.versions j v → IsChainContinuous below (at_place p c) → IsWithin (state_at (On x) v) (source_at (below (phase_at c.versions j)) x)) →
        OfPinned m id pin (λ k j v. IsWithin (state_at (On (row_pos key)) v) (row, tomb))
    row-within law = of-snapshot m id pin s.snapshot (λ k j v. IsWithin (state_at (On (row_pos key)) v) (row, tomb))
        (λ v at. subst (IsWithin (state_at (On (row_pos key)) v)) (s.source.clustered (row_pos key) ∙ said) (law s.below s.place s.snapshot.chain.chain s.snapshot.number v (row_pos key) at s.continuous))

    here-small : dummy_size (row_pos key) ≤ S / 8
    here-small = let within = dummy_within true s.schema (row_pos key) (key_passes true s.schema key of-schema.0.0) in let small = s.small.entry in omega (arith, within, small)

    dummies-joined : (v : Version) → AreDummiesSmall S v → AreDummiesSmall S (row_joined (row_pos key) row v)
    dummies-joined v h = each-map (λ e. dummy_size e.position ≤ S / 8) (λ e. cond (eq_by_cmp pos_cmp (row_pos key) e.position) (with_row row e) e)
        (λ e k. elim (eq_by_cmp pos_cmp (row_pos key) e.position) as (λ b. dummy_size (cond b (with_row row e) e).position ≤ S / 8) [ true ↦ k | false ↦ k ])
        (gap_split (row_pos key) v.entries) (split-each (λ e. dummy_size e.position ≤ S / 8) (row_pos key) (λ mark. here-small) v.entries h)

    pub row-fits : ChainsFit S m → OfPinned m id pin (λ k j v. FitTogether S (on_newest (row_joined (row_pos key) row) k.chain.versions))
    row-fits fit = of-snapshot m id pin s.snapshot (λ k j v. FitTogether S (on_newest (row_joined (row_pos key) row) k.chain.versions))
        (λ v at. fit-together s.schema s.limits S s.small (on_newest (row_joined (row_pos key) row) s.snapshot.chain.chain.versions)
        (newest-each (HoldsRowsOf s.schema) (row_joined (row_pos key) row) (joined-rows s.schema key row of-schema.0 of-schema.1) s.snapshot.chain.chain.versions s.rows)
        (newest-each (AreDummiesSmall S) (row_joined (row_pos key) row) dummies-joined s.snapshot.chain.chain.versions (fit-there fit)))

  -- ---- a static row

  module _ (row : Row) (said : source_at_static writes ≡ row) where
    static-schema : IsStaticOf s.schema row × IsRow row
    static-schema = static-of s.schema writes s.changes row said

    pub static-limits : RowFits row
    static-limits = cells_fit true s.schema row.cells s.limits (cells_pass true s.schema row.cells static-schema.0.2)

    pub static-fits-small : statics_bytes (filled_statics row) ≤ S / 8
    static-fits-small =
        let within = static-small s.schema s.limits row static-schema.0 static-schema.1 in
        let small = s.small.statics in
        elim (is_written row) as (λ b. statics_bytes (cond b (Some row) None) ≤ S / 8) [ true ↦ omega (arith, within, small) | false ↦ omega arith ]

    pub static-within : ((below : ℕ → List Mutation) (p : Place) (c : Shown) (j : ℕ) (v : Version) → IsVersionAt c.versions j v → IsChainContinuous below (at_place p c) → IsWithin (static_state v) (source_at_static (below (phase_at c.versions j)), None)) →
        OfPinned m id pin (λ k j v. IsWithin (static_state v) (row, None))
    static-within law = of-snapshot m id pin s.snapshot (λ k j v. IsWithin (static_state v) (row, None))
        (λ v at. subst (λ (r : Row). IsWithin (static_state v) (r, None)) (s.source.statics ∙ said) (law s.below s.place s.snapshot.chain.chain s.snapshot.number v at s.continuous))

    pub static-fits : ChainsFit S m → OfPinned m id pin (λ k j v. FitTogether S (on_newest (fill_statics (filled_statics row)) k.chain.versions))
    static-fits fit = of-snapshot m id pin s.snapshot (λ k j v. FitTogether S (on_newest (fill_statics (filled_statics row)) k.chain.versions))
        (λ v at. fit-together s.schema s.limits S s.small (on_newest (fill_statics (filled_statics row)) s.snapshot.chain.chain.versions)
        (newest-each (HoldsRowsOf s.schema) (fill_statics (filled_statics row)) (static-rows s.schema row static-schema.0 static-schema.1) s.snapshot.chain.chain.versions s.rows)
        (newest-each (AreDummiesSmall S) (fill_statics (filled_statics row)) (λ w k. k) s.snapshot.chain.chain.versions (fit-there fit)))

-- ---- a portion filled

module _ (m n : Memory) (id pin : ℕ) (h : HasCacheSnapshot m id pin) (may : MayFill m id pin) (sound : (i : ℕ) → IfSome (chain_at m i) (λ k. IsSoundChain k.chain)) where
  sound_there : IsSoundChain h.chain.chain
  sound_there = subst (λ (o : Option KeptChain). IfSome o (λ k. IsSoundChain k.chain)) h.there (sound id)

  pinned_version : (v : Version) × IsVersionAt h.chain.chain.versions h.number v
  pinned_version = number-there h.chain.chain.versions h.number (sound_there.pins h.number (pins-there m id pin h))

  -- what holds of the version that is pinned
  at_pinned : (P : KeptChain → ℕ → Version → Type 0) → OfPinned m id pin P → P h.chain h.number pinned_version.0
  at_pinned P all = all h.chain h.number pinned_version.0 h.there h.pinned pinned_version.1

  wider : (f : Version → Version) (these : Member → Type 0) → ((w : Member) → these w → w.chain ≡ id) → IsFilled id f these m n → IsFilled id f (λ w. w.chain ≡ id) m n
  wider f these own is = record { chains = is.chains; dropped = is.dropped; counts = is.counts; still = still-wider these (λ w. w.chain ≡ id) m n own is.still; region = is.region }

  pub gap-filled : (from to : Pos) (tomb : Option Tomb) → IsBefore from to → OfPinned m id pin (λ k j v. IsFilled id (gap_filled from to tomb) Nowhere m n) →
      OfPinned m id pin (λ k j v. AreBoundsListed k.chain.kind v (member_at id j (Some from)) (member_at id j (Some to)) m.recency n.recency) → IsPortionFilled (OfGap from to tomb) id pin m n
  gap-filled from to tomb ascend filled listed = record {
    snapshot = h;
    may = may;
    whole = ascend;
    filled = wider (gap_filled from to tomb) Nowhere (λ w no. absurd no) (at_pinned (λ k j v. IsFilled id (gap_filled from to tomb) Nowhere m n) filled);
    listed = come-bounds id h.chain.chain.kind pinned_version.0 (member_at id h.number (Some from)) (member_at id h.number (Some to)) m.recency n.recency refl refl
        (at_pinned (λ k j v. AreBoundsListed k.chain.kind v (member_at id j (Some from)) (member_at id j (Some to)) m.recency n.recency) listed);
    stay = stay-bounds h.chain.chain.kind pinned_version.0 (member_at id h.number (Some from)) (member_at id h.number (Some to)) m.recency n.recency
        (at_pinned (λ k j v. AreBoundsListed k.chain.kind v (member_at id j (Some from)) (member_at id j (Some to)) m.recency n.recency) listed);
  }

  pub row-filled : (key : List Comp) (row : Row) (tomb : Option Tomb) → row ≢ empty_row → OfPinned m id pin (λ k j v. IsFilled id (row_filled (row_pos key) row tomb) (AtAlone (member_at id j (Some (row_pos key)))) m n) →
      OfPinned m id pin (λ k j v. IsRenewed k.chain.kind (member_at id j (Some (row_pos key))) m.recency n.recency) → IsPortionFilled (OfRow key row tomb) id pin m n
  row-filled key row tomb some filled listed = record {
    snapshot = h;
    may = may;
    whole = some;
    filled = wider (row_filled (row_pos key) row tomb) (AtAlone (member_at id h.number (Some (row_pos key)))) (λ w at. ap (λ (x : Member). x.chain) at)
        (at_pinned (λ k j v. IsFilled id (row_filled (row_pos key) row tomb) (AtAlone (member_at id j (Some (row_pos key)))) m n) filled);
    listed = come-renewed id (member_at id h.number (Some (row_pos key))) refl h.chain.chain.kind m.recency n.recency
        (at_pinned (λ k j v. IsRenewed k.chain.kind (member_at id j (Some (row_pos key))) m.recency n.recency) listed);
    stay = stay-renewed (member_at id h.number (Some (row_pos key))) h.chain.chain.kind m.recency n.recency (at_pinned (λ k j v. IsRenewed k.chain.kind (member_at id j (Some (row_pos key))) m.recency n.recency) listed);
  }

  pub static-filled : (row : Row) → OfPinned m id pin (λ k j v. IsFilled id (fill_statics (filled_statics row)) (AtAlone (member_at id j None)) m n) →
      OfPinned m id pin (λ k j v. IsGivenListed k.chain.kind (filled_statics row) (member_at id j None) m.recency n.recency) → IsPortionFilled (OfStatics row) id pin m n
  static-filled row filled listed = record {
    snapshot = h;
    may = may;
    whole = tt;
    filled = wider (fill_statics (filled_statics row)) (AtAlone (member_at id h.number None)) (λ w at. ap (λ (x : Member). x.chain) at)
        (at_pinned (λ k j v. IsFilled id (fill_statics (filled_statics row)) (AtAlone (member_at id j None)) m n) filled);
    listed = come-given id (member_at id h.number None) refl h.chain.chain.kind (filled_statics row) m.recency n.recency
        (at_pinned (λ k j v. IsGivenListed k.chain.kind (filled_statics row) (member_at id j None) m.recency n.recency) listed);
    stay = stay-given (member_at id h.number None) h.chain.chain.kind (filled_statics row) m.recency n.recency (at_pinned (λ k j v. IsGivenListed k.chain.kind (filled_statics row) (member_at id j None) m.recency n.recency) listed);
  }
