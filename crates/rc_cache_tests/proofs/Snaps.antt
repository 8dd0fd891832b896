-- A snapshot that was taken is there, and the chain has the versions that it had; and what may be filled into a chain that knows nothing.
use Rattle.std.proofs.Common.{◌≡◌, ◌≤◌, ◌/◌, ℕ, suc, true, List, [], ◌∷◌, ◌++◌, Option, Some, None, length, IsSome, slice_index_or, refl, sym, ap, ◌∙◌, subst, arith}
use Rattle.std.specs.Prelude.{Contains, IfSome, IsSomeAnd}
use Rattle.std.specs.Option.{option_map}
use Rattle.rc_cell.specs.declared.rows.Row.{Row}
use Rattle.rc_cell.specs.declared.writes.Tomb.{Tomb}
use Rattle.rc_cell.specs.Winner.{IsRow}
use Rattle.rc_core.specs.Chains.{at_place}
use Rattle.rc_core.specs.Continuity.{IsWithin, fill_statics}
use Rattle.rc_core.specs.declared.entries.ChainKind.TheVariants.{Cache}
use Rattle.rc_core.specs.declared.entries.Flag.TheVariants.{Unknown}
use Rattle.rc_core.specs.Steps.{MayPopulate, free_number, on_newest, pin_at, pins_with, version_of}
use Rattle.rc_core.specs.Version.{Version, static_state}
use Rattle.rc_position.specs.Position.{Head}
use Rattle.rc_partition.specs.laws.Lists.{elem-here, elem-none}
use Rattle.rc_version.specs.Versions.{statics_bytes}
use Rattle.rc_memory.specs.Memory.{HasPin, KeptChain, Member, Memory, IsSnapshotTaken, IsVersionAt, chain_at, snapshot_number, with_snapshot}
use Rattle.rc_memory.specs.Room.{ChainsFit, FitTogether}
use Rattle.rc_memory.specs.laws.At.{number-there}
use Rattle.rc_memory.specs.laws.Places.{heads, tails}
use Rattle.rc_memory.specs.laws.Put.{put-at}
use Rattle.rc_chain.specs.Lives.{IsChainMade, chain_of_new}
use Rattle.rc_populate.specs.Filling.{IsEntryOpened, OfPinned, chain_opened, filled_statics}
use Rattle.rc_populate.specs.laws.Opening.{bare-within, fits-filled, given-is, some-and}

-- ---- a chain that came to be

module _ (old new : Memory) (id phase : ℕ) (pt : Option Tomb) (list : List Member) (made : IsChainMade id Cache pt phase list old new) where
  pub made-at : chain_at new id ≡ Some (chain_of_new Cache pt phase)
  made-at = ap (λ cs. slice_index_or cs id None) made.chains ∙ put-at old.chains id (Some (chain_of_new Cache pt phase))

module _ (old new : Memory) (id phase : ℕ) (pt : Option Tomb) (statics : Option Row) (made : IsEntryOpened id pt statics phase old new) where
  pub opened-at : chain_at new id ≡ Some (chain_opened pt statics phase)
  opened-at = ap (λ cs. slice_index_or cs id None) made.chains ∙ put-at old.chains id (Some (chain_opened pt statics phase))

pub found-is : (m : Memory) (id : ℕ) (k : KeptChain) → chain_at m id ≡ Some k → k.chain.attached ≡ true → IsSomeAnd (chain_at m id) (λ k. k.chain.attached ≡ true)
found-is m id k e a = subst (λ (o : Option KeptChain). IsSomeAnd o (λ k. k.chain.attached ≡ true)) (sym e) a

-- ---- a snapshot

pinned-there : (ps : List (Option ℕ)) (v : ℕ) → IsSome (pin_at (pins_with v ps) (free_number ps))
pinned-there [] v = refl
pinned-there (None ∷ ps) v = refl
pinned-there (Some p ∷ ps) v = pinned-there ps v

module _ (old new : Memory) (id chain pin phase : ℕ) (k : KeptChain) (e : chain_at old id ≡ Some k) (same : chain ≡ id) (taken : IsSnapshotTaken old new id pin phase) where
  taken-at : chain_at new chain ≡ Some (with_snapshot (snapshot_number k.chain) k)
  taken-at = ap (chain_at new) same ∙ ap (λ (m : Memory). chain_at m id) taken.now ∙ put-at old.chains id (option_map (λ q. with_snapshot (snapshot_number q.chain) q) (slice_index_or old.chains id None)) ∙ ap (option_map (λ q. with_snapshot (snapshot_number q.chain) q)) e

  pub taken-there : HasPin new chain pin
  taken-there =
      let number : pin ≡ free_number k.chain.pins = subst (λ (o : Option KeptChain). IfSome o (λ q. pin ≡ free_number q.chain.pins)) e taken.number in
      subst (λ (o : Option KeptChain). IsSomeAnd o (λ q. IsSome (pin_at q.chain.pins pin))) (sym taken-at) (subst (λ n. IsSome (pin_at (pins_with (snapshot_number k.chain) k.chain.pins) n)) (sym number) (pinned-there k.chain.pins (snapshot_number k.chain)))

  pub taken-versions : (vs : List Version) → k.chain.versions ≡ vs → IsSomeAnd (chain_at new chain) (λ k. k.chain.versions ≡ vs)
  taken-versions vs is = subst (λ (o : Option KeptChain). IsSomeAnd o (λ k. k.chain.versions ≡ vs)) (sym taken-at) is

-- ---- a chain that knows nothing

some-of : {X : Type 0} (o : Option X) → IsSome o → (x : X) × (o ≡ Some x)
some-of None h = absurd (cc)
some-of (Some x) h = (x, refl)

-- a snapshot's chain, and the number that it pins
pub pin-of : (m : Memory) (id pin : ℕ) → HasPin m id pin → (k : KeptChain) × (j : ℕ) × (chain_at m id ≡ Some k) × (pin_at k.chain.pins pin ≡ Some j)
pin-of m id pin h = let k = some-and (chain_at m id) (λ k. IsSome (pin_at k.chain.pins pin)) h in let j = some-of (pin_at k.0.chain.pins pin) k.2 in (k.0, j.0, k.1, j.1)

module _ (m : Memory) (id pin : ℕ) (bare : IsSomeAnd (chain_at m id) (λ k. k.chain.versions ≡ version_of Unknown None 7 ∷ [])) where
  versions-are : (k : KeptChain) → chain_at m id ≡ Some k → k.chain.versions ≡ version_of Unknown None 7 ∷ []
  versions-are k e = subst (λ (o : Option KeptChain). IsSomeAnd o (λ k. k.chain.versions ≡ version_of Unknown None 7 ∷ [])) e bare

  one-of : (vs : List Version) (j : ℕ) (v : Version) → vs ≡ version_of Unknown None 7 ∷ [] → IsVersionAt vs j v → v ≡ version_of Unknown None 7
  one-of vs j v e at = of at.older at.newer (sym at.split ∙ e)
    where
      of : (older newer : List Version) → older ++ (v ∷ newer) ≡ version_of Unknown None 7 ∷ [] → v ≡ version_of Unknown None 7
      of [] newer e = heads v (version_of Unknown None 7) newer [] e
      of (o ∷ older) newer e = absurd (elem-none v (subst (λ l. Contains l v) (tails o (version_of Unknown None 7) (older ++ (v ∷ newer)) [] e) (elem-here older newer v)))

  module _ (row : Row) (is : IsRow row) where
    pub source-there : OfPinned m id pin (λ k j v. IsWithin (static_state v) (row, None))
    source-there k j v e on at = subst (λ w. IsWithin (static_state w) (row, None)) (sym (one-of k.chain.versions j v (versions-are k e) at)) (bare-within None 7 row is)

    pub fits-there : ChainsFit 4096 m → statics_bytes (filled_statics row) ≤ 4096 / 8 → OfPinned m id pin (λ k j v. FitTogether 4096 (on_newest (fill_statics (filled_statics row)) k.chain.versions))
    fits-there fit small k j v e on at = subst (λ vs. FitTogether 4096 (on_newest (fill_statics (filled_statics row)) vs)) (sym (versions-are k e))
        (fits-filled None 7 4096 (filled_statics row) (subst (FitTogether 4096) (versions-are k e) (subst (λ (o : Option KeptChain). IfSome o (λ k. FitTogether 4096 k.chain.versions)) e (fit id))) (given-is row is) small)

pub some-version : (k : KeptChain) (j : ℕ) → MayPopulate (at_place Head k.chain) j → (v : Version) × IsVersionAt k.chain.versions j v
some-version k j h = number-there k.chain.versions j (let e : suc j ≡ length k.chain.versions = h.newest in omega (arith, e))
