-- A new chain of which the front is covered, and positions in it.
use Rattle.std.proofs.Common.{◌≡◌, ℕ, ◌+◌, ◌<◌, ◌≤◌, true, false, List, [], Option, None, Some, IsTrue, refl, sym, ap, ◌∙◌, subst, length, arith, slice_index_or}
use Rattle.std.specs.Prelude.{IsSomeAnd}
use Rattle.std.specs.declared.cmp.Ordering.{Ordering}
use Rattle.std.specs.declared.cmp.Ordering.TheVariants.{Less, Equal, Greater}
use Rattle.std.specs.Option.{option_map}
use Rattle.std.specs.Ordering.{is_gt, is_le}
use Rattle.rc_cell.specs.declared.writes.Tomb.{Tomb}
use Rattle.rc_position.specs.declared.positions.Pos.{Pos}
use Rattle.rc_position.specs.declared.positions.Weight.{Weight}
use Rattle.rc_position.specs.declared.positions.Weight.TheVariants.{Before, At}
use Rattle.rc_position.specs.Position.{IsBefore, pos_cmp}
use Rattle.rc_position.specs.laws.Bounds.{last_pos-greatest}
use Rattle.rc_rowcode.specs.Objects.{dummy_size}
use Rattle.rc_rowcode.specs.Spelling.{IsPos, KeyFits, pos_code}
use Rattle.rc_core.specs.declared.entries.ChainKind.{ChainKind}
use Rattle.rc_core.specs.Version.{Version, end_position}
use Rattle.rc_stream.specs.Places.{Reaches}
use Rattle.rc_memory.specs.Changes.{IsVersionChanged, LastIsListed, Nowhere}
use Rattle.rc_memory.specs.laws.Places.{same_some}
use Rattle.rc_memory.specs.laws.Put.{put-at}
use Rattle.rc_memory.specs.Memory.{HasPin, IsSnapshotTaken, KeptChain, Member, Memory, chain_at, on_shown, on_version_of}
use Rattle.rc_chain.specs.declared.chains.Snap.{Snap}
use Rattle.rc_chain.specs.Lives.{IsChainMade, chain_of_new}
use Rattle.rc_chain_tests.proofs.Bare.{bare, before-at, no_components}
use Rattle.rc_chain_tests.proofs.Pins.{made-at, taken-of}

-- the end is behind each position
pub to-end : (x : Pos) → Reaches x end_position
to-end x = by (pos_cmp x end_position) refl
  where
    by : (r : Ordering) → pos_cmp x end_position ≡ r → IsTrue (is_le (pos_cmp x end_position))
    by Less e = ap is_le e
    by Equal e = ap is_le e
    by Greater e = let u : true ≡ false = sym (ap is_gt e) ∙ last_pos-greatest x in absurd (cc)

small : ((x : Pos) → IsPos x → length (pos_code x) ≤ 266) → (w : Weight) → dummy_size (bare w) ≤ 352
small short w = let l = short (bare w) (omega arith, tt) in omega (arith, l)

-- what is asked of the bounds of a range
pub record AreBounds (from to : Pos) : Type 0 where
  pub ascend : IsBefore from to
  pub limits : KeyFits from.prefix × KeyFits to.prefix
  pub first : dummy_size from ≤ 352
  pub second : dummy_size to ≤ 352

pub bounds : ((x : Pos) → IsPos x → length (pos_code x) ≤ 266) → (from to : Pos) → from ≡ bare Before → to ≡ bare At → AreBounds from to
bounds short from to e k = subst (λ f. AreBounds f to) (sym e) (subst (AreBounds (bare Before)) (sym k)
    (record { ascend = before-at; limits = (no_components, no_components); first = small short Before; second = small short At }))

module _ (old new : Memory) (id : ℕ) (kind : ChainKind) (pt : Option Tomb) (phase : ℕ) (list : List Member) (made : IsChainMade id kind pt phase list old new) where
  pub made-settled : LastIsListed id new
  made-settled k j v at e under = let same = same_some (chain_of_new kind pt phase) k (sym (made-at old new id kind pt phase list made) ∙ e) in let u : false ≡ true = ap (λ (q : KeptChain). q.chain.updating) same ∙ under.0 in absurd (cc)

  -- with its version changed
  module _ (f : Version → Version) (now : Memory) (changed : IsVersionChanged id 0 f Nowhere new now) where
    pub changed-at : chain_at now id ≡ Some (on_shown (on_version_of 0 f) (chain_of_new kind pt phase))
    changed-at = ap (λ cs. slice_index_or cs id None) changed.chains ∙ put-at new.chains id (option_map (on_shown (on_version_of 0 f)) (chain_at new id)) ∙ ap (option_map (on_shown (on_version_of 0 f))) (made-at old new id kind pt phase list made)

    pub changed-attached : IsSomeAnd (chain_at now id) (λ k. k.chain.attached ≡ true)
    changed-attached = subst (λ (o : Option KeptChain). IsSomeAnd o (λ k. k.chain.attached ≡ true)) (sym changed-at) refl

    -- a snapshot of it that was taken is there
    pub changed-taken : ((m n : Memory) (s : Snap) (k : KeptChain) → chain_at m s.chain ≡ Some k → IsSnapshotTaken m n s.chain s.pin s.phase → HasPin n s.chain s.pin)
        → (after : Memory) (s : Snap) → (s.chain ≡ id) × IsSnapshotTaken now after id s.pin s.phase → HasPin after s.chain s.pin
    changed-taken there after s t = taken-of there now after id (on_shown (on_version_of 0 f) (chain_of_new kind pt phase)) changed-at s t
