-- A memory keeps its rules where one version of a chain changed as calls change it.
use Rattle.std.proofs.Common.{◌≡◌, ◌≢◌, ◌⊎◌, ℕ, List, [], ◌∷◌, Option, Some, None, IsSome, inl, inr, refl, sym, ◌∙◌, subst, slice_index_or}
use Rattle.std.specs.Prelude.{Contains, IfSome}
use Rattle.rc_cell.specs.declared.rows.Row.{Row}
use Rattle.rc_position.specs.declared.positions.Pos.{Pos}
use Rattle.lsa_region.specs.Region.{View}
use Rattle.rc_partition.specs.List.{List as Slots}
use Rattle.rc_registry.specs.Entry.{Entry}
use Rattle.rc_registry.specs.AtPlace.{HasEntryAt}
use Rattle.rc_registry.specs.Change.{drop_at, gap_split}
use Rattle.rc_registry.specs.Continuity.{with_entries, without_statics}
use Rattle.rc_registry.specs.Steps.{on_version, row_joined}
use Rattle.rc_registry.specs.Version.{EndsWithDummy, Version, IsVersion, end_position}
use Rattle.rc_registry.specs.Registry.{Registry}
use Rattle.rc_memory.specs.declared.counts.Counts.{Counts}
use Rattle.rc_memory.specs.Memory.{KeptChain, Memory, HasVersion, IsVersionAt, chain_at, on_chain, on_shown, on_version_of}
use Rattle.rc_memory.specs.Recency.{HasObject, IsLastInner, IsRecency, IsUnderUpdate}
use Rattle.rc_memory.specs.Room.{FitTogether}
use Rattle.rc_memory.specs.Kept.{HoldMemory, IsMemory, IsSoundChain}
use Rattle.rc_memory.specs.Changes.{FitsChanged, IsRenewed, IsRenewedWhereNone, IsWithout, KeepsLast, KeepsRows, OfVersion, member_at}
use Rattle.rc_memory.specs.laws.At.{found-version, version-is}
use Rattle.rc_memory.specs.laws.Entries.{here-joined, here-split, keeps-dropped, keeps-joined, keeps-split, only-dropped, only-joined, only-split}
use Rattle.rc_memory.specs.laws.Listing.{pos_decided}
use Rattle.rc_memory.specs.laws.Renewed.{rule-kept, rule-out, rule-renewed}
use Rattle.rc_memory.specs.laws.Rows.{fit-changed, last-alike, last-dropped, object-alike, within-alike, within-dropped, within-undone, IsWithin, NoPosition}
use Rattle.rc_memory.specs.laws.Rules.{each-on, sound-changed}

-- ---- whether an entry stands there

entry_decided : (x : Pos) (es : List Entry) → HasEntryAt x es ⊎ (HasEntryAt x es → ⊥)
entry_decided x [] = inr (λ h. h)
entry_decided x (e ∷ es) = elim (pos_decided e.position x) [
  | inl here ↦ inl (inl here)
  | inr ne ↦ elim (entry_decided x es) [
    | inl later ↦ inl (inr later)
    | inr off ↦ inr (λ h. elim h [ inl here ↦ ne here | inr later ↦ off later ])
  ]
]

-- the end dummy stands at the end
end-there : (es : List Entry) → EndsWithDummy es → HasEntryAt end_position es
end-there [] h = absurd h
end-there (e ∷ []) h = inl h.0
end-there (e ∷ f ∷ es) h = inr (end-there (f ∷ es) h)

-- ---- a version changed

module _ (S : ℕ) (slots : Slots) (old new : View) (registry : Registry) (counts : Counts) (m n : Memory) (h : IsMemory S slots old registry counts m) (held : HoldMemory slots new registry counts n) (id j : ℕ) where
  module _ (f : Version → Version) (changed : n.chains ≡ on_chain id (on_shown (on_version_of j f)) m.chains) where
    -- where the recency list keeps its rule, and what may be joined fits
    memory-changed : IsRecency n → FitsChanged S id j f m → IsMemory S slots new registry counts n
    memory-changed rule fits = record {
      held = held;
      sound = subst (λ cs. (i : ℕ) → IfSome (slice_index_or cs i None) (λ k. IsSoundChain k.chain)) (sym changed)
          (each-on (λ k. IsSoundChain k.chain) m.chains id (on_shown (on_version_of j f)) h.sound (λ k e sound. sound-changed k.chain j f sound));
      rule = rule;
      fit = subst (λ cs. (i : ℕ) → IfSome (slice_index_or cs i None) (λ k. FitTogether S k.chain.versions)) (sym changed)
          (each-on (λ k. FitTogether S k.chain.versions) m.chains id (on_shown (on_version_of j f)) h.fit
          (λ k e was. subst (λ o. IfSome o (λ q. FitTogether S (on_version j f q.chain.versions))) e fits));
    }

    -- where no row is there but those that were, it does
    less-fits : ((v : Version) → IsWithin NoPosition v (f v)) → FitsChanged S id j f m
    less-fits less = of (chain_at m id) (h.fit id)
      where
        of : (o : Option KeptChain) → IfSome o (λ k. FitTogether S k.chain.versions) → IfSome o (λ k. FitTogether S (on_version j f k.chain.versions))
        of None fits = tt
        of (Some k) fits = fit-changed S j f NoPosition (λ x may. absurd may) k.chain.versions less fits

    module _ (has : HasVersion m id j) where
      abbrev here : (k : KeptChain) × (v : Version) × (chain_at m id ≡ Some k) × IsVersionAt k.chain.versions j v
      here = found-version m id j has

      -- the version, and that its last entry before the end stays the last one or is listed
      is-one : IsVersion here.1
      is-one = version-is slots old registry counts m h.held id j here.0 here.1 here.2 here.3

      stays-last : KeepsLast id j f m → IsUnderUpdate here.0.chain j → (at : Option Pos) → IsLastInner here.1 at → IsLastInner (f here.1) at ⊎ Contains m.recency (member_at id j at)
      stays-last last = subst (λ o. IfSome o (λ k. (v : Version) → IsVersionAt k.chain.versions j v → IsUnderUpdate k.chain j → (at : Option Pos) → IsLastInner v at → IsLastInner (f v) at ⊎ Contains m.recency (member_at id j at))) here.2 last here.1 here.3

      -- no row and no position changed
      pub memory-marked : KeepsRows f → n.recency ≡ m.recency → IsMemory S slots new registry counts n
      memory-marked keeps list =
          let rows = keeps here.1 in
          memory-changed (rule-kept m n id j f here.0 here.1 here.2 here.3 changed h.rule list
          (λ at object. object-alike here.1 (f here.1) rows.0 rows.1 at object) (λ at object. object-alike (f here.1) here.1 (sym rows.0) (sym rows.1) at object)
          (λ u at last. inl (last-alike here.1 (f here.1) rows.0 rows.1 at last)))
          (less-fits (λ v. let k = keeps v in within-alike v (f v) k.0 k.1))

      -- a static row made anew
      pub memory-statics : ((v : Version) → ((f v).entries ≡ v.entries) × IsSome (f v).statics) → OfVersion m id j (λ k v. IsRenewed k.chain.kind (member_at id j None) m.recency n.recency) → FitsChanged S id j f m → IsMemory S slots new registry counts n
      memory-statics does list fits =
          let now = does here.1 in
          memory-changed (rule-renewed m n id j f here.0 here.1 here.2 here.3 changed h.rule None (list here.0 here.1 here.2 here.3) (keeps now) (only now) now.1 (λ e. cc e) (λ u at last. inl (last_same now at last))) fits
        where
          keeps : ((f here.1).entries ≡ here.1.entries) × IsSome (f here.1).statics → (at : Option Pos) → HasObject here.1 at → HasObject (f here.1) at
          keeps now None object = now.1
          keeps now (Some x) object = subst (HasEntryAt x) (sym now.0) object

          only : ((f here.1).entries ≡ here.1.entries) × IsSome (f here.1).statics → (at : Option Pos) → HasObject (f here.1) at → HasObject here.1 at ⊎ (at ≡ None)
          only now None object = inr refl
          only now (Some x) object = inl (subst (HasEntryAt x) now.0 object)

          last_same : ((f here.1).entries ≡ here.1.entries) × IsSome (f here.1).statics → (at : Option Pos) → IsLastInner here.1 at → IsLastInner (f here.1) at
          last_same now at last = (last.0, last.1, last.2, now.0 ∙ last.3, last.4)

  module _ (has : HasVersion m id j) where
    abbrev found : (k : KeptChain) × (v : Version) × (chain_at m id ≡ Some k) × IsVersionAt k.chain.versions j v
    found = found-version m id j has

    one : IsVersion found.1
    one = version-is slots old registry counts m h.held id j found.0 found.1 found.2 found.3

    module _ (x : Pos) where
      -- a split
      pub memory-split : n.chains ≡ on_chain id (on_shown (on_version_of j (λ c. with_entries (gap_split x c.entries) c))) m.chains → OfVersion m id j (λ k v. IsRenewedWhereNone k.chain.kind v (member_at id j (Some x)) m.recency n.recency)
          → FitsChanged S id j (λ c. with_entries (gap_split x c.entries) c) m → KeepsLast id j (λ c. with_entries (gap_split x c.entries) c) m → IsMemory S slots new registry counts n
      memory-split changed list fits last = memory-changed (λ c. with_entries (gap_split x c.entries) c) changed (elim (entry_decided x found.1.entries) [
        | inl there ↦ rule-kept m n id j (λ c. with_entries (gap_split x c.entries) c) found.0 found.1 found.2 found.3 changed h.rule ((list found.0 found.1 found.2 found.3).there there) (keeps-split found.1 x)
            (λ at object. elim (only-split found.1 x at object) [ inl was ↦ was | inr this ↦ subst (HasObject found.1) (sym this) there ])
            (stays-last (λ c. with_entries (gap_split x c.entries) c) changed has last)
        | inr none ↦ rule-renewed m n id j (λ c. with_entries (gap_split x c.entries) c) found.0 found.1 found.2 found.3 changed h.rule (Some x) ((list found.0 found.1 found.2 found.3).made none) (keeps-split found.1 x) (only-split found.1 x) (here-split found.1 x one.ends)
            (λ e. none (subst (λ y. HasEntryAt y found.1.entries) (sym (same_position e)) (end-there found.1.entries one.ends)))
            (stays-last (λ c. with_entries (gap_split x c.entries) c) changed has last)
      ]) fits
        where
          same_position : Some x ≡ Some end_position → x ≡ end_position
          same_position e = cc e

      -- a row joined
      pub memory-joined : (row : Row) → x ≢ end_position → n.chains ≡ on_chain id (on_shown (on_version_of j (row_joined x row))) m.chains → OfVersion m id j (λ k v. IsRenewed k.chain.kind (member_at id j (Some x)) m.recency n.recency)
          → FitsChanged S id j (row_joined x row) m → KeepsLast id j (row_joined x row) m → IsMemory S slots new registry counts n
      memory-joined row inner changed list fits last = memory-changed (row_joined x row) changed
          (rule-renewed m n id j (row_joined x row) found.0 found.1 found.2 found.3 changed h.rule (Some x) (list found.0 found.1 found.2 found.3) (keeps-joined found.1 x row) (only-joined found.1 x row) (here-joined found.1 x one.ends row)
          (λ e. inner (cc e)) (stays-last (row_joined x row) changed has last)) fits

      -- an entry taken out
      pub memory-dropped : x ≢ end_position → n.chains ≡ on_chain id (on_shown (on_version_of j (λ c. with_entries (drop_at x c.entries) c))) m.chains → IsWithout (member_at id j (Some x)) m.recency n.recency → IsMemory S slots new registry counts n
      memory-dropped inner changed list = memory-changed (λ c. with_entries (drop_at x c.entries) c) changed
          (rule-out m n id j (λ c. with_entries (drop_at x c.entries) c) found.0 found.1 found.2 found.3 changed h.rule (Some x) list (keeps-dropped found.1 x) (only-dropped found.1 x one.ascend)
          (λ u at ne l. last-dropped found.1 x one.ends inner at ne l)) (less-fits (λ c. with_entries (drop_at x c.entries) c) changed (within-dropped x))

    -- a static row taken out
    pub memory-undone : n.chains ≡ on_chain id (on_shown (on_version_of j without_statics)) m.chains → IsWithout (member_at id j None) m.recency n.recency → IsMemory S slots new registry counts n
    memory-undone changed list = memory-changed without_statics changed
        (rule-out m n id j without_statics found.0 found.1 found.2 found.3 changed h.rule None list keeps only (λ u at ne l. l)) (less-fits without_statics changed within-undone)
      where
        keeps : (at : Option Pos) → at ≢ None → HasObject found.1 at → HasObject (without_statics found.1) at
        keeps None ne object = absurd (ne refl)
        keeps (Some x) ne object = object

        only : (at : Option Pos) → HasObject (without_statics found.1) at → HasObject found.1 at × (at ≢ None)
        only None object = cc object
        only (Some x) object = (object, λ e. cc e)
