-- A static row as it is filled: none where nothing is written in it.
use Rattle.std.proofs.Common.{◌≡◌, ◌≤◌, ◌+◌, ◌/◌, ℕ, true, false, ◌∷◌, Option, Some, None, cond, refl, sym, ap, ◌∙◌, subst, arith}
use Rattle.std.specs.Option.{option_to_list}
use Rattle.lsa_pool.specs.Room.{spare_of}
use Rattle.rc_cell.specs.declared.rows.Row.{Row}
use Rattle.rc_cell.specs.declared.writes.Tomb.{Tomb}
use Rattle.rc_position.specs.declared.positions.Pos.{Pos}
use Rattle.rc_cell.specs.Winner.{empty_row, joined_row}
use Rattle.rc_cell.specs.laws.{joined_row-comm}
use Rattle.rc_rowcode.specs.Objects.{static_size}
use Rattle.rc_mutation.specs.Fragments.{is_written}
use Rattle.rc_mutation.specs.laws.Written.{unwritten}
use Rattle.rc_core.specs.declared.entries.Flag.TheVariants.{Known}
use Rattle.rc_core.specs.Change.{joined_onto}
use Rattle.rc_core.specs.Continuity.{IsWithin, fill_statics}
use Rattle.rc_core.specs.Steps.{join_flagged_statics, set_static_flag}
use Rattle.rc_core.specs.Version.{On, finding_in, state_at, static_state}
use Rattle.rc_version.specs.Versions.{bytes_at, joined_bytes, statics_bytes}
use Rattle.rc_memory.specs.Memory.{HasVersion, Memory}
use Rattle.rc_memory.specs.laws.At.{found-version}
use Rattle.rc_memory.specs.Changes.{AtAlone, FitsChanged, IsRenewed, IsVersionChanged, Nowhere, OfVersion, member_at}
use Rattle.rc_memory.specs.laws.Still.{still-wider}
use Rattle.rc_populate.specs.Filling.{IsGivenListed, filled_statics}

-- nothing is written in the empty row, and in no other
pub written-unless : (row : Row) → (row ≡ empty_row → ⊥) → is_written row ≡ true
written-unless row off = elim (is_written row) as (λ b. is_written row ≡ b → b ≡ true) [ true ↦ λ e. refl | false ↦ λ e. absurd (off (unwritten row e)) ] refl

pub given-some : (row : Row) → (row ≡ empty_row → ⊥) → filled_statics row ≡ Some row
given-some row off = ap (λ b. cond b (Some row) None) (written-unless row off)

pub given-none : (row : Row) → row ≡ empty_row → filled_statics row ≡ None
given-none row e = ap filled_statics e

-- a row that holds no less than the one there is what both join to
pub joined-within : (old : Option Row) (row : Row) → joined_row (row ∷ option_to_list old) ≡ row → joined_onto old row ≡ row
joined-within None row w = refl
joined-within (Some r) row w = joined_row-comm r row ∙ w

module _ (S : ℕ) (m : Memory) (id j : ℕ) (row : Row) where
  -- where something is written in it
  module _ (off : row ≡ empty_row → ⊥) where
    pub some-small : statics_bytes (filled_statics row) ≤ S / 8 → static_size row ≤ S / 8
    some-small h = subst (λ g. statics_bytes g ≤ S / 8) (given-some row off) h

    pub some-spare : OfVersion m id j (λ k v. IsWithin (static_state v) (row, None)) → statics_bytes (filled_statics row) ≤ spare_of S m.region.usages → OfVersion m id j (λ k v. static_size (joined_onto v.statics row) ≤ spare_of S m.region.usages)
    some-spare source h k v e at = subst (λ r. static_size r ≤ spare_of S m.region.usages) (sym (joined-within v.statics row (source k v e at).0)) (subst (λ g. statics_bytes g ≤ spare_of S m.region.usages) (given-some row off) h)

    pub some-fits : FitsChanged S id j (fill_statics (filled_statics row)) m → FitsChanged S id j (join_flagged_statics row Known) m
    some-fits h = subst (λ g. FitsChanged S id j (fill_statics g) m) (given-some row off) h

    module _ (n : Memory) where
      pub some-filled : IsVersionChanged id j (join_flagged_statics row Known) (AtAlone (member_at id j None)) m n → IsVersionChanged id j (fill_statics (filled_statics row)) (AtAlone (member_at id j None)) m n
      some-filled h = subst (λ g. IsVersionChanged id j (fill_statics g) (AtAlone (member_at id j None)) m n) (sym (given-some row off)) h

      pub some-listed : OfVersion m id j (λ k v. IsRenewed k.chain.kind (member_at id j None) m.recency n.recency) → OfVersion m id j (λ k v. IsGivenListed k.chain.kind (filled_statics row) (member_at id j None) m.recency n.recency)
      some-listed h k v e at = subst (λ g. IsGivenListed k.chain.kind g (member_at id j None) m.recency n.recency) (sym (given-some row off)) (h k v e at)

      pub some-left : HasVersion m id j → OfVersion m id j (λ k v. IsWithin (static_state v) (row, None)) → OfVersion m id j (λ k v. spare_of S m.region.usages ≤ spare_of S n.region.usages + static_size (joined_onto v.statics row)) → spare_of S m.region.usages ≤ spare_of S n.region.usages + statics_bytes (filled_statics row)
      some-left has source h = let f = found-version m id j has in subst (λ g. spare_of S m.region.usages ≤ spare_of S n.region.usages + statics_bytes g) (sym (given-some row off))
          (subst (λ r. spare_of S m.region.usages ≤ spare_of S n.region.usages + static_size r) (joined-within f.1.statics row (source f.0 f.1 f.2 f.3).0) (h f.0 f.1 f.2 f.3))

  -- where nothing is written in it
  module _ (empty : row ≡ empty_row) (n : Memory) where
    pub none-filled : IsVersionChanged id j (set_static_flag Known) Nowhere m n → IsVersionChanged id j (fill_statics (filled_statics row)) (AtAlone (member_at id j None)) m n
    none-filled h = subst (λ g. IsVersionChanged id j (fill_statics g) (AtAlone (member_at id j None)) m n) (sym (given-none row empty))
        (record { chains = h.chains; dropped = h.dropped; counts = h.counts; still = still-wider Nowhere (AtAlone (member_at id j None)) m n (λ w off. absurd off) h.still; region = h.region })

    pub none-listed : n.recency ≡ m.recency → OfVersion m id j (λ k v. IsGivenListed k.chain.kind (filled_statics row) (member_at id j None) m.recency n.recency)
    none-listed h k v e at = subst (λ g. IsGivenListed k.chain.kind g (member_at id j None) m.recency n.recency) (sym (given-none row empty)) h

-- what is spare is as it was where nothing was made
pub none-left : (S : ℕ) (m : Memory) (row : Row) (n : Memory) → spare_of S n.region.usages ≡ spare_of S m.region.usages → spare_of S m.region.usages ≤ spare_of S n.region.usages + statics_bytes (filled_statics row)
none-left S m row n e = omega (arith, e)

-- a row that is filled at a position, where the version holds no more there: both join to it
module _ (S : ℕ) (m : Memory) (id j : ℕ) (x : Pos) (row : Row) (tomb : Option Tomb) (source : OfVersion m id j (λ k v. IsWithin (state_at (On x) v) (row, tomb))) where
  pub row-spare : bytes_at x (Some row) ≤ spare_of S m.region.usages → OfVersion m id j (λ k v. joined_bytes x row v ≤ spare_of S m.region.usages)
  row-spare h k v e at = subst (λ r. bytes_at x (Some r) ≤ spare_of S m.region.usages) (sym (joined-within (finding_in (On x) v.entries).row row (source k v e at).0)) h

  pub row-left : (n : Memory) → HasVersion m id j → OfVersion m id j (λ k v. spare_of S m.region.usages ≤ spare_of S n.region.usages + joined_bytes x row v) → spare_of S m.region.usages ≤ spare_of S n.region.usages + bytes_at x (Some row)
  row-left n has h = let f = found-version m id j has in subst (λ r. spare_of S m.region.usages ≤ spare_of S n.region.usages + bytes_at x (Some r)) (joined-within (finding_in (On x) f.1.entries).row row (source f.0 f.1 f.2 f.3).0) (h f.0 f.1 f.2 f.3)
