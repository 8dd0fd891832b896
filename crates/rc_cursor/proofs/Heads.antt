-- What is seen at the head, as it is given.
use Rattle.std.proofs.Common.{◌≡◌, ℕ, Some, ◌∙◌}
use Rattle.rc_cell.specs.declared.rows.Row.{Row}
use Rattle.rc_cell.specs.Orders.{tomb_cmp}
use Rattle.rc_cell.specs.Winner.{greatest}
use Rattle.rc_mutation.specs.declared.fragments.HeadAt.{HeadAt}
use Rattle.rc_core.specs.Chain.{content, has_flag}
use Rattle.rc_core.specs.Chains.{upto}
use Rattle.rc_core.specs.Continuity.{static_states, version_tombs}
use Rattle.rc_core.specs.Steps.{pin_at}
use Rattle.rc_reading.specs.declared.reads.ReadHead.{ReadHead}
use Rattle.rc_reading.specs.Reading.{IsRowGiven}
use Rattle.rc_chain.specs.Memory.{HasPin, KeptChain, Memory, chain_at}
use Rattle.rc_chain.specs.declared.chains.Snap.{Snap}
use Rattle.rc_cursor.specs.Snapshots.{IsHeadSeen, versions_seen}
use Rattle.rc_cursor.proofs.Parts.{seen-as}

module _ (m : Memory) (s : Snap) (pin : HasPin m s.chain s.pin) (read : ReadHead) where
  pub head-seen :
      ((k : KeptChain) (j : ℕ) → chain_at m s.chain ≡ Some k → pin_at k.chain.pins s.pin ≡ Some j → read.pt ≡ greatest tomb_cmp (version_tombs (upto k.chain.versions j)))
      → ((k : KeptChain) (j : ℕ) → chain_at m s.chain ≡ Some k → pin_at k.chain.pins s.pin ≡ Some j → read.known ≡ has_flag k.chain.kind (static_states (upto k.chain.versions j)))
      → ((k : KeptChain) (j : ℕ) → chain_at m s.chain ≡ Some k → pin_at k.chain.pins s.pin ≡ Some j → IsRowGiven read.row (content (static_states (upto k.chain.versions j))).0)
      → (h : HeadAt) → h.head.pt ≡ read.pt → h.known ≡ read.known → ((row : Row) → IsRowGiven read.row row → h.head.statics ≡ row) → IsHeadSeen m s h
  head-seen pt known row h pt_is known_is statics_are = record {
    pt = pt_is ∙ seen-as (λ kind versions. read.pt ≡ greatest tomb_cmp (version_tombs versions)) m s pin pt;
    statics = statics_are (content (static_states (versions_seen m s))).0 (seen-as (λ kind versions. IsRowGiven read.row (content (static_states versions)).0) m s pin row);
    known = known_is ∙ seen-as (λ kind versions. read.known ≡ has_flag kind (static_states versions)) m s pin known;
  }
