-- An idle chain that is dropped.
use Rattle.std.proofs.Common.{◌≡◌, ◌+◌, ◌*◌, ℕ, List, Some, length, sym, ap, ◌∙◌, arith}
use Rattle.std.specs.Prelude.{sum_by}
use Rattle.lsa_region.specs.Region.{live_bytes}
use Rattle.rc_core.specs.Version.{IsVersion}
use Rattle.rc_memory.specs.Changes.{OfVersion}
use Rattle.rc_memory.specs.Kept.{IsLiveInChains, present}
use Rattle.rc_memory.specs.Memory.{KeptChain, Member, Memory, chain_at}
use Rattle.rc_memory.specs.Recency.{IsRecency}
use Rattle.rc_memory.specs.Room.{chain_bytes}
use Rattle.rc_chain.specs.Lives.{IsChainDropped, IsIdle}
use Rattle.rc_evict.specs.Crowding.{LosesWhereCrowded, version_count}
use Rattle.rc_evict.specs.laws.Crowds.{loses-gone, sum-gone}
use Rattle.rc_evict.proofs.Bytes.{idle-bytes}

gone_live : (a b before now chain count : ℕ) → a ≡ before → b ≡ now → before ≡ now + chain → chain ≡ 152 * count → a ≡ b + 152 * count
gone_live a b before now chain count p q r s = omega (arith, p, q, r, s)

pub dropped-loses : (S : ℕ) (old new : Memory) (id : ℕ) (list : List Member) (k : KeptChain) → chain_at old id ≡ Some k → IsRecency old → ((i j : ℕ) → OfVersion old i j (λ k v. IsVersion v)) → IsLiveInChains old → IsLiveInChains new → IsIdle old id k.chain → IsChainDropped id list old new → LosesWhereCrowded S 0 old new
dropped-loses S old new id list k there rule versions before now idle gone = loses-gone S (length k.chain.versions) old new gone.region.budget
    (gone_live (live_bytes old.region) (live_bytes new.region) (sum_by chain_bytes (present old.chains)) (sum_by chain_bytes (present new.chains)) (chain_bytes k) (length k.chain.versions) before now
    (sum-gone chain_bytes id k old.chains there ∙ ap (λ cs. sum_by chain_bytes (present cs) + chain_bytes k) (sym gone.chains)) (idle-bytes old id k there rule versions idle))
    (sum-gone version_count id k old.chains there ∙ ap (λ cs. sum_by version_count (present cs) + length k.chain.versions) (sym gone.chains))
    gone.counts
