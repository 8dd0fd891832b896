-- What the chains of entries know, where something is done to chains and entries.
use Rattle.std.proofs.Common.{◌≡◌, ℕ, false, List, [], Option, Some, None, sym, ap, ◌∙◌, subst, slice_index_or}
use Rattle.std.specs.BTreeMap.{insert_entry, is_at}
use Rattle.std.specs.Map.{remove_entry}
use Rattle.std.specs.Option.{option_map}
use Rattle.std.specs.Ordering.{eq_by_cmp}
use Rattle.rc_cell.specs.declared.rows.Row.{Row}
use Rattle.rc_cell.specs.declared.writes.Tomb.{Tomb}
use Rattle.rc_position.specs.Position.{Head, bytes_cmp}
use Rattle.rc_mutation.specs.declared.mutations.Mutation.{Mutation}
use Rattle.rc_core.specs.Chains.{IsChainContinuous, at_place}
use Rattle.rc_core.specs.Version.{Version}
use Rattle.rc_memory.specs.Memory.{KeptChain, Member, Memory, IsUntouched, chain_at, on_chain, on_shown, with_dropped}
use Rattle.rc_chain.specs.Lives.{IsChainDropped}
use Rattle.rc_populate.specs.Filling.{IsEntryOpened, chain_opened, on_newest_of}
use Rattle.rc_entries.specs.Found.{IsForgotten, entry_number}
use Rattle.rc_entries.specs.Entries.{AreContinuous, AreEntries}
use Rattle.rc_entries.specs.Detached.{IsDetached}
use Rattle.rc_entries.proofs.Keys.{by-test, gone-found, key-is}
use Rattle.rc_entries.proofs.Ways.{none-is-none, same-some}
use Rattle.rc_entries.proofs.Numbered.{chain-beside, chain-here, changed-was, here-or-beside}
use Rattle.rc_entries.proofs.Opening.{opened-beside, opened-other, opened-own}
use Rattle.rc_entries.proofs.Taken.{detached-beside, left-others}

module _ (below : List ℕ → ℕ → List Mutation) where
  -- a chain is continuous where no update stands in it
  abbrev pub Knows : List ℕ → KeptChain → Type 0
  Knows key k = k.chain.updating ≡ false → IsChainContinuous (below key) (at_place Head k.chain)

  pub beside-continuous : (entries : List (List ℕ × ℕ)) (old new : Memory) → ((key : List ℕ) (id : ℕ) (k : KeptChain) → entry_number entries key ≡ Some id → chain_at new id ≡ Some k → chain_at old id ≡ Some k) → AreContinuous below entries old → AreContinuous below entries new
  beside-continuous entries old new back h key id k e there = h key id k e (back key id k e there)

  pub several-continuous : (entries : List (List ℕ × ℕ)) (old new : Memory) → ((key : List ℕ) (id : ℕ) (k : KeptChain) → entry_number entries key ≡ Some id → chain_at new id ≡ Some k → k.chain.updating ≡ false → (was : KeptChain) × (chain_at old id ≡ Some was) × (was.chain.updating ≡ false) × (IsChainContinuous (below key) (at_place Head was.chain) → IsChainContinuous (below key) (at_place Head k.chain))) →
      AreContinuous below entries old → AreContinuous below entries new
  several-continuous entries old new each h key id k e there settled = let was = each key id k e there settled in was.3 (h key id was.0 e was.1 was.2)

  pub moved-continuous : (entries : List (List ℕ × ℕ)) (old new : Memory) → IsUntouched old new → AreContinuous below entries old → AreContinuous below entries new
  moved-continuous entries old new u = beside-continuous entries old new (λ key id k e there. sym (ap (λ cs. slice_index_or cs id None) u.chains) ∙ there)

  pub forgotten-continuous : (before now : List (List ℕ × ℕ)) (numbers : List ℕ) (m : Memory) → IsForgotten numbers before now → AreContinuous below before m → AreContinuous below now (with_dropped [] m)
  forgotten-continuous before now numbers m f h key id k e there = h key id k (f.left key id e).0 there

  pub changed-continuous : (entries : List (List ℕ × ℕ)) (id : ℕ) (f : KeptChain → KeptChain) (old new : Memory) → new.chains ≡ on_chain id f old.chains → ((key : List ℕ) (k : KeptChain) → entry_number entries key ≡ Some id → chain_at old id ≡ Some k → Knows key k → Knows key (f k)) →
      AreContinuous below entries old → AreContinuous below entries new
  changed-continuous entries id f old new is keeps h key i = here-or-beside (λ n. (k : KeptChain) → entry_number entries key ≡ Some n → chain_at new n ≡ Some k → Knows key k) id i
      (λ k e there. let was = changed-was old new id f is k there in subst (Knows key) was.2 (keeps key was.0 e was.1 (h key id was.0 e was.1)))
      (λ ne k e there. h key i k e (sym (chain-beside old new id (option_map f (chain_at old id)) is i ne) ∙ there))

  pub filled-continuous : (entries : List (List ℕ × ℕ)) (id : ℕ) (f : Version → Version) (old new : Memory) → new.chains ≡ on_chain id (on_shown (on_newest_of f)) old.chains →
      ((key : List ℕ) (k : KeptChain) → entry_number entries key ≡ Some id → chain_at old id ≡ Some k → IsChainContinuous (below key) (at_place Head k.chain) → IsChainContinuous (below key) (at_place Head (on_newest_of f k.chain))) → AreContinuous below entries old → AreContinuous below entries new
  filled-continuous entries id f old new is keeps = changed-continuous entries id (on_shown (on_newest_of f)) old new is (λ key k e there knows settled. keeps key k e there (knows settled))

  pub dropped-continuous : (entries : List (List ℕ × ℕ)) (id : ℕ) (list : List Member) (old new : Memory) → IsChainDropped id list old new → AreContinuous below entries old → AreContinuous below entries new
  dropped-continuous entries id list old new d = beside-continuous entries old new (λ key i. here-or-beside (λ n. (k : KeptChain) → entry_number entries key ≡ Some n → chain_at new n ≡ Some k → chain_at old n ≡ Some k) id i
      (λ k e there. absurd (none-is-none k (sym (chain-here old new id None d.chains) ∙ there)))
      (λ ne k e there. sym (chain-beside old new id None d.chains i ne) ∙ there))

  module _ (entries : List (List ℕ × ℕ)) (key : List ℕ) (id : ℕ) where
    pub opened-continuous : (pt : Option Tomb) (statics : Option Row) (phase : ℕ) (old new : Memory) → AreEntries entries old → entry_number entries key ≡ None → IsEntryOpened id pt statics phase old new → IsChainContinuous (below key) (at_place Head (chain_opened pt statics phase).chain) →
        AreContinuous below entries old → AreContinuous below (insert_entry bytes_cmp entries key id) new
    opened-continuous pt statics phase old new a absent o knows h q i k e there settled = by-test (IsChainContinuous (below q) (at_place Head k.chain)) (eq_by_cmp bytes_cmp key q)
        (λ t. let same : id ≡ i = opened-own entries key id pt statics phase old new a absent o q i t e in
        let now : chain_opened pt statics phase ≡ k = same-some (chain_opened pt statics phase) k (sym (chain-here old new id (Some (chain_opened pt statics phase)) o.chains) ∙ ap (chain_at new) same ∙ there) in
        subst (λ (p : List ℕ). IsChainContinuous (below p) (at_place Head k.chain)) (key-is key q t) (subst (λ (c : KeptChain). IsChainContinuous (below key) (at_place Head c.chain)) now knows))
        (λ n. let was = opened-other entries key id pt statics phase old new a absent o q i n e in
        h q i k was.1 (sym (opened-beside entries key id pt statics phase old new a absent o i was.0) ∙ there) settled)

    pub detached-continuous : (old new : Memory) → AreEntries entries old → entry_number entries key ≡ Some id → IsDetached id old new → AreContinuous below entries old → AreContinuous below (remove_entry (is_at (bytes_cmp key)) entries) new
    detached-continuous old new a found d h q i k e there = let was = left-others id old new d entries (remove_entry (is_at (bytes_cmp key)) entries) key a found (λ p. gone-found entries key p a.ascend) q i e in
        h q i k was.1 (sym (detached-beside id old new d i was.0) ∙ there)
