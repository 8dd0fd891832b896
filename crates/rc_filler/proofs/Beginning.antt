-- A snapshot that is taken of a continuous cache chain stands for what lies below the version that it pins; so does one of a chain that was opened.
use Rattle.std.proofs.Common.{◌≡◌, ℕ, true, false, cond, List, Option, Some, None, slice_index_or, refl, sym, ap, ◌∙◌, subst, arith}
use Rattle.std.specs.Prelude.{All, IfSome, IsTrue}
use Rattle.std.specs.Option.{option_map, option_to_list}
use Rattle.rc_cell.specs.declared.rows.Row.{Row}
use Rattle.rc_cell.specs.declared.writes.Tomb.{Tomb}
use Rattle.rc_cell.specs.Winner.{IsRow, joined_row}
use Rattle.rc_position.specs.Position.{Head, Place}
use Rattle.rc_schema.specs.SchemaValue.{SchemaValue, is_schema}
use Rattle.rc_mutation.specs.declared.mutations.Mutation.{Mutation}
use Rattle.rc_mutation.specs.Fragments.{is_written}
use Rattle.rc_mutation.specs.Source.{SameSource, source_at_head, source_at_static}
use Rattle.rc_writes.specs.Allowed.{ChangeFits, IsStaticOf}
use Rattle.rc_core.specs.declared.entries.ChainKind.TheVariants.{Cache}
use Rattle.rc_core.specs.Chains.{IsChainContinuous, at_place, phase_at}
use Rattle.rc_core.specs.Continuity.{EachOf}
use Rattle.rc_core.specs.Steps.{IsChain, free_number, opened_version, pin_at}
use Rattle.rc_memory.specs.Kept.{IsSoundChain}
use Rattle.rc_memory.specs.Memory.{IsSnapshotTaken, KeptChain, Memory, chain_at, snapshot_number, with_snapshot}
use Rattle.rc_memory.specs.laws.Put.{put-at}
use Rattle.rc_memtable.specs.Writes.{AreSmall}
use Rattle.rc_evict.specs.Evictions.{IsPlaceUnlisted}
use Rattle.rc_populate.specs.Filling.{IsEntryOpened, chain_opened, filled_statics}
use Rattle.rc_filler.specs.Stands.{HoldsRowsOf, StandsForWrites}
use Rattle.rc_filler.proofs.FromSource.{static-of}

-- what is known of a snapshot that is taken
pub record TakenLaws : Type 0 where
  pub given_at : (version : ℕ) (k : KeptChain) → pin_at (with_snapshot version k).chain.pins (free_number k.chain.pins) ≡ Some version
  pub chain : (below : ℕ → List Mutation) (p : Place) (k : KeptChain) → IsSoundChain k.chain → k.chain.attached ≡ true → IsChainContinuous below (at_place p k.chain) → IsChainContinuous below (at_place p (with_snapshot (snapshot_number k.chain) k).chain)
  pub form : (p : Place) (k : KeptChain) → IsSoundChain k.chain → IsChain (at_place p k.chain) → IsChain (at_place p (with_snapshot (snapshot_number k.chain) k).chain)

module _ (laws : TakenLaws) (S : ℕ) (schema : SchemaValue) (limits : IsTrue (is_schema schema)) (small : AreSmall S schema) where
  pub taken-stands : (below : ℕ → List Mutation) (p : Place) (m n : Memory) (id pin phase : ℕ) (k : KeptChain) (writes : List Mutation) → chain_at m id ≡ Some k → k.chain.kind ≡ Cache → k.chain.attached ≡ true → IsSoundChain k.chain → IsChain (at_place p k.chain) →
      IsChainContinuous below (at_place p k.chain) → IsPlaceUnlisted p id k.chain m.recency → EachOf (HoldsRowsOf schema) k.chain.versions → All (ChangeFits schema) writes → SameSource (below (phase_at k.chain.versions (snapshot_number k.chain))) writes →
      IsSnapshotTaken m n id pin phase → StandsForWrites S n id pin writes
  taken-stands below p m n id pin phase k writes e cached attached sound ch on off rows fit same taken =
      let number : pin ≡ free_number k.chain.pins = subst (λ (o : Option KeptChain). IfSome o (λ k. pin ≡ free_number k.chain.pins)) e taken.number in
      let chains = ap (λ (x : Memory). x.chains) taken.now in
      let now = λ (q : KeptChain). with_snapshot (snapshot_number q.chain) q in
      record {
        snapshot = record {
          chain = with_snapshot (snapshot_number k.chain) k;
          number = snapshot_number k.chain;
          there = ap (λ cs. slice_index_or cs id None) chains ∙ (put-at m.chains id (option_map now (chain_at m id)) ∙ ap (option_map now) e);
          pinned = ap (pin_at (with_snapshot (snapshot_number k.chain) k).chain.pins) number ∙ laws.given_at (snapshot_number k.chain) k;
          cached = cached;
        };
        place = p;
        below = below;
        form = laws.form p k sound ch;
        continuous = laws.chain below p k sound attached on;
        unlisted = subst (IsPlaceUnlisted p id k.chain) (sym (ap (λ (x : Memory). x.recency) taken.now)) off;
        source = same;
        schema = schema;
        limits = limits;
        small = small;
        changes = fit;
        rows = rows;
      }

  -- a chain that was opened
  module _ (opened_form : (p : Place) (pt : Option Tomb) (statics : Option Row) (phase : ℕ) → IsChain (at_place p (chain_opened pt statics phase).chain))
      (opened_chain : (below : ℕ → List Mutation) (p : Place) (pt : Option Tomb) (statics : Option Row) (phase : ℕ) → pt ≡ source_at_head (below phase) → joined_row (option_to_list statics) ≡ source_at_static (below phase) → IsChainContinuous below (at_place p (chain_opened pt statics phase).chain))
      (opened_at : (id : ℕ) (pt : Option Tomb) (statics : Option Row) (phase : ℕ) (old new : Memory) → IsEntryOpened id pt statics phase old new → chain_at new id ≡ Some (chain_opened pt statics phase))
      (given_is : (writes : List Mutation) → joined_row (option_to_list (filled_statics (source_at_static writes))) ≡ source_at_static writes) where
    opened_sound : (pt : Option Tomb) (statics : Option Row) (phase : ℕ) → IsSoundChain (chain_opened pt statics phase).chain
    opened_sound pt statics phase = record {
      some = omega arith;
      pins = λ j on. absurd on;
      cached = λ up. refl;
      attached = λ up. refl;
      below = λ up. absurd (cc);
      unpinned = λ up j on. absurd on;
    }

    statics_rows : (writes : List Mutation) → All (ChangeFits schema) writes → IfSome (filled_statics (source_at_static writes)) (λ row. IsStaticOf schema row × IsRow row)
    statics_rows writes fit = elim (is_written (source_at_static writes)) as (λ b. IfSome (cond b (Some (source_at_static writes)) None) (λ row. IsStaticOf schema row × IsRow row)) [
      | true ↦ static-of schema writes fit (source_at_static writes) refl
      | false ↦ tt
    ]

    opened_rows : (writes : List Mutation) (phase : ℕ) → All (ChangeFits schema) writes → HoldsRowsOf schema (opened_version (source_at_head writes) (filled_statics (source_at_static writes)) phase)
    opened_rows writes phase fit = record { entries = (tt, tt); statics = statics_rows writes fit }

    pub opened-stands : (writes : List Mutation) (old mid new : Memory) (id pin phase of_pin : ℕ) → All (ChangeFits schema) writes → IsEntryOpened id (source_at_head writes) (filled_statics (source_at_static writes)) phase old mid → IsSnapshotTaken mid new id pin of_pin → StandsForWrites S new id pin writes
    opened-stands writes old mid new id pin phase of_pin fit opened taken =
        let pt = source_at_head writes in
        let statics = filled_statics (source_at_static writes) in
        taken-stands (λ (x : ℕ). writes) Head mid new id pin of_pin (chain_opened pt statics phase) writes (opened_at id pt statics phase old mid opened) refl refl (opened_sound pt statics phase) (opened_form Head pt statics phase)
        (opened_chain (λ (x : ℕ). writes) Head pt statics phase refl (given_is writes))
        (λ x j is up last on. (let clash : false ≡ true = up in cc))
        (opened_rows writes phase fit, tt) fit (record { head = refl; statics = refl; clustered = λ x. refl }) taken
