-- What the caches' chains that come to be leave of the writes.
use Rattle.std.proofs.Common.{◌≡◌, ℕ, List, Option, Some, None, inl, inr, sym, ap, ◌∙◌, subst, slice_index_or}
use Rattle.lsa_pool.specs.laws.Usages.{decided}
use Rattle.rc_schema.specs.SchemaValue.{SchemaValue}
use Rattle.rc_mutation.specs.declared.mutations.Write.{Write}
use Rattle.rc_cell.specs.declared.writes.Tomb.{Tomb}
use Rattle.rc_core.specs.declared.entries.ChainKind.{ChainKind}
use Rattle.rc_memory.specs.Memory.{KeptChain, Member, Memory, chain_at}
use Rattle.rc_memory.specs.laws.Places.{no_some}
use Rattle.rc_memory.specs.laws.Put.{put-beside}
use Rattle.rc_chain.specs.Lives.{IsChainMade, IsSameButSlots, chain_of_new}
use Rattle.rc_memtable.specs.Writes.{HasWrites, chain_of}
use Rattle.rc_unstored.specs.declared.unstored.Unstored.{Unstored}
use Rattle.rc_unstored.specs.Memtables.{HaveWrites, in_chains}
use Rattle.rc_cache_tests.specs.Holding.{ChainsStay, HaveSome}

pub left-itself : (m : Memory) → ChainsStay m m
left-itself m id k there = there

pub left-then : (old mid new : Memory) → ChainsStay old mid → ChainsStay mid new → ChainsStay old new
left-then old mid new f g id k there = g id k (f id k there)

pub left-made : (id : ℕ) (kind : ChainKind) (pt : Option Tomb) (phase : ℕ) (list : List Member) (old new : Memory) → IsChainMade id kind pt phase list old new → ChainsStay old new
left-made id kind pt phase list old new made i k there = elim (decided i id) [
  | inl same ↦ absurd (no_some k (sym made.vacant ∙ ap (chain_at old) (sym same) ∙ there))
  | inr ne ↦ ap (λ cs. slice_index_or cs i None) made.chains ∙ put-beside old.chains id (Some (chain_of_new kind pt phase)) i ne ∙ there
]

pub left-slots : (old new : Memory) → IsSameButSlots old new → ChainsStay old new
left-slots old new slots id k there = ap (λ (m : Memory). chain_at m id) slots.same ∙ there

-- both memtables stand for what they stood for
pub left-some : {S : ℕ} (schema : SchemaValue) (u : Unstored S) (m : Memory) →
    ((S : ℕ) (schema : SchemaValue) (u : Unstored S) (m : Memory) (writes later : List Write) → ((key : List ℕ) (id : ℕ) → chain_of u.sealed key ≡ Some id → chain_at m id ≡ chain_at u.chains id) → ((key : List ℕ) (id : ℕ) → chain_of u.active key ≡ Some id → chain_at m id ≡ chain_at u.chains id) →
    HaveWrites schema u writes later → HaveWrites schema (in_chains m u) writes later) →
    ChainsStay u.chains m → HaveSome schema u → HaveSome schema (in_chains m u)
left-some {S = S} schema u m beside left h = (h.0, h.1, beside S schema u m h.0 h.1 (theirs u.sealed h.0 h.2.sealed) (theirs u.active h.1 h.2.active) h.2)
  where
    theirs : (keys : List (List ℕ × ℕ)) (writes : List Write) → HasWrites schema keys u.chains writes → (key : List ℕ) (id : ℕ) → chain_of keys key ≡ Some id → chain_at m id ≡ chain_at u.chains id
    theirs keys writes has key id e = let k = has.kept key id e in left id k.0 k.1 ∙ sym k.1
