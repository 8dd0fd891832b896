-- A new chain is found by its key, and a snapshot that was taken is there.
use Rattle.std.proofs.Common.{◌≡◌, ◌<◌, ℕ, true, List, Option, Some, None, length, refl, sym, ap, ◌∙◌, subst, slice_index_or, arith}
use Rattle.std.specs.Prelude.{IsSomeAnd}
use Rattle.rc_cell.specs.declared.writes.Tomb.{Tomb}
use Rattle.rc_core.specs.declared.entries.ChainKind.{ChainKind}
use Rattle.rc_memory.specs.Memory.{HasPin, HasVersion, IsSnapshotTaken, KeptChain, Member, Memory, chain_at}
use Rattle.rc_memory.specs.laws.Put.{put-at}
use Rattle.rc_chain.specs.declared.chains.Snap.{Snap}
use Rattle.rc_chain.specs.Lives.{IsChainMade, chain_of_new}

module _ (old new : Memory) (id : ℕ) (kind : ChainKind) (pt : Option Tomb) (phase : ℕ) (list : List Member) (made : IsChainMade id kind pt phase list old new) where
  pub made-at : chain_at new id ≡ Some (chain_of_new kind pt phase)
  made-at = ap (λ cs. slice_index_or cs id None) made.chains ∙ put-at old.chains id (Some (chain_of_new kind pt phase))

  pub made-attached : IsSomeAnd (chain_at new id) (λ k. k.chain.attached ≡ true)
  made-attached = subst (λ (o : Option KeptChain). IsSomeAnd o (λ k. k.chain.attached ≡ true)) (sym made-at) refl

  pub made-version : HasVersion new id 0
  made-version = subst (λ (o : Option KeptChain). IsSomeAnd o (λ k. 0 < length k.chain.versions)) (sym made-at) (omega arith)

pub taken-of : ((m n : Memory) (s : Snap) (k : KeptChain) → chain_at m s.chain ≡ Some k → IsSnapshotTaken m n s.chain s.pin s.phase → HasPin n s.chain s.pin)
    → (m n : Memory) (id : ℕ) (k : KeptChain) → chain_at m id ≡ Some k → (s : Snap) → (s.chain ≡ id) × IsSnapshotTaken m n id s.pin s.phase → HasPin n s.chain s.pin
taken-of there m n id k e s t = there m n s k (subst (λ i. chain_at m i ≡ Some k) (sym t.0) e) (subst (λ i. IsSnapshotTaken m n i s.pin s.phase) (sym t.0) t.1)
