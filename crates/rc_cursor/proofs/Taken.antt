-- A snapshot that was taken, and what it sees.
use Rattle.std.proofs.Common.{◌≡◌, ℕ, List, Option, Some, IsSome, is_some, sym, ap, ◌∙◌, subst}
use Rattle.std.specs.Prelude.{IfSome, IsSomeAnd}
use Rattle.std.specs.Option.{option_map}
use Rattle.rc_core.specs.Chains.{upto}
use Rattle.rc_core.specs.Steps.{free_number, pin_at, pins_with}
use Rattle.rc_chain.specs.Put.{put-at}
use Rattle.rc_chain.specs.Memory.{HasPin, IsSnapshotTaken, KeptChain, Memory, chain_at, snapshot_number, with_snapshot}
use Rattle.rc_chain.specs.declared.chains.Snap.{Snap}
use Rattle.rc_cursor.specs.Snapshots.{kind_in, kind_seen, versions_in, versions_seen, versions_upto}

-- the chain with a snapshot more
abbrev with_one : KeptChain → KeptChain
with_one k = with_snapshot (snapshot_number k.chain) k

module _ (given : (version : ℕ) (pins : List (Option ℕ)) → pin_at (pins_with version pins) (free_number pins) ≡ Some version) (m n : Memory) (s : Snap) (k : KeptChain) (e : chain_at m s.chain ≡ Some k) (taken : IsSnapshotTaken m n s.chain s.pin s.phase) where
  now : chain_at n s.chain ≡ Some (with_one k)
  now = ap (λ (q : Memory). chain_at q s.chain) taken.now ∙ put-at m.chains s.chain (option_map with_one (chain_at m s.chain)) ∙ ap (option_map with_one) e

  pinned_there : pin_at (with_one k).chain.pins s.pin ≡ Some (snapshot_number k.chain)
  pinned_there =
      let number : s.pin ≡ free_number k.chain.pins = subst (λ (o : Option KeptChain). IfSome o (λ q. s.pin ≡ free_number q.chain.pins)) e taken.number in
      ap (pin_at (with_one k).chain.pins) number ∙ given (snapshot_number k.chain) k.chain.pins

  pub taken-pin : HasPin n s.chain s.pin
  taken-pin = subst (λ (o : Option KeptChain). IsSomeAnd o (λ q. IsSome (pin_at q.chain.pins s.pin))) (sym now) (ap is_some pinned_there)

  pub taken-versions : versions_seen n s ≡ upto k.chain.versions (snapshot_number k.chain)
  taken-versions = ap (λ o. versions_in o s.pin) now ∙ ap (versions_upto k.chain.versions) pinned_there

  pub taken-kind : kind_seen n s ≡ k.chain.kind
  taken-kind = ap kind_in now
