-- The one version of a new chain is there, under no update; and after a split entries stand at the position and at the end.
use Rattle.std.proofs.Common.{◌≡◌, ◌<◌, ◌⊎◌, ℕ, true, false, List, [], ◌∷◌, Option, Some, None, length, inl, inr, refl, sym, ap, ◌∙◌, subst, slice_index_or, arith}
use Rattle.std.specs.Prelude.{Contains, IfSome, IsSomeAnd}
use Rattle.std.specs.Option.{option_map}
use Rattle.rc_cell.specs.declared.writes.Tomb.{Tomb}
use Rattle.rc_position.specs.declared.positions.Pos.{Pos}
use Rattle.rc_position.specs.Position.{IsBefore}
use Rattle.rc_core.specs.AtPlace.{HasEntryAt}
use Rattle.rc_core.specs.Change.{dummy, gap_split, mark, split_by}
use Rattle.rc_core.specs.Continuity.{with_entries}
use Rattle.rc_core.specs.declared.entries.ChainKind.TheVariants.{Cache}
use Rattle.rc_core.specs.declared.entries.Entry.{Entry}
use Rattle.rc_core.specs.declared.entries.Flag.TheVariants.{Unknown}
use Rattle.rc_core.specs.Steps.{version_of}
use Rattle.rc_core.specs.Version.{Version, end_position}
use Rattle.rc_memory.specs.Memory.{HasVersion, KeptChain, Member, Memory, IsVersionAt, chain_at, on_shown, on_version_of}
use Rattle.rc_memory.specs.Recency.{IsLastInner, IsUnderUpdate}
use Rattle.rc_memory.specs.Changes.{IsVersionChanged, KeepsLast, Nowhere, OfVersion, member_at}
use Rattle.rc_memory.specs.laws.Listed.{one-at}
use Rattle.rc_memory.specs.laws.Places.{same_some}
use Rattle.rc_memory.specs.laws.Put.{put-at}
use Rattle.rc_chain.specs.Lives.{IsChainMade, chain_of_new}
use Rattle.rc_chain_tests.proofs.Pins.{made-at}

-- the end dummy of a new version
abbrev end_dummy : Entry
end_dummy = dummy end_position (mark Unknown None)

module _ (old new : Memory) (id phase : ℕ) (pt : Option Tomb) (list : List Member) (made : IsChainMade id Cache pt phase list old new) where
  pub keeps-first : (f : Version → Version) → KeepsLast id 0 f new
  keeps-first f = subst (λ (o : Option KeptChain). IfSome o (λ k. (v : Version) → IsVersionAt k.chain.versions 0 v → IsUnderUpdate k.chain 0 → (at : Option Pos) → IsLastInner v at → IsLastInner (f v) at ⊎ Contains new.recency (member_at id 0 at)))
      (sym (made-at old new id Cache pt phase list made)) (λ v number under at inner. absurd (let e : false ≡ true = under.0 in cc))

  module _ (from end : Pos) (then : Memory) (changed : IsVersionChanged id 0 (λ c. with_entries (gap_split from c.entries) c) Nowhere new then) where
    abbrev f : Version → Version
    f c = with_entries (gap_split from c.entries) c

    split-at : chain_at then id ≡ Some (on_shown (on_version_of 0 f) (chain_of_new Cache pt phase))
    split-at = ap (λ cs. slice_index_or cs id None) changed.chains ∙ put-at new.chains id (option_map (on_shown (on_version_of 0 f)) (chain_at new id)) ∙ ap (option_map (on_shown (on_version_of 0 f))) (made-at old new id Cache pt phase list made)

    pub has-split : HasVersion then id 0
    has-split = subst (λ (o : Option KeptChain). IsSomeAnd o (λ k. 0 < length k.chain.versions)) (sym split-at) (omega arith)

    module _ (is : end ≡ end_position) (before : IsBefore from end) where
      stand : HasEntryAt from (gap_split from (end_dummy ∷ [])) × HasEntryAt end (gap_split from (end_dummy ∷ []))
      stand = subst (λ o. HasEntryAt from (split_by o from end_dummy [] []) × HasEntryAt end (split_by o from end_dummy [] [])) (sym (subst (IsBefore from) is before)) (inl refl, inr (inl (sym is)))

      pub ends-stand : OfVersion then id 0 (λ k v. HasEntryAt from v.entries × HasEntryAt end v.entries)
      ends-stand k v there number =
          let one : f (version_of Unknown pt phase) ≡ v = one-at k.chain.versions 0 (f (version_of Unknown pt phase)) v
          (subst (λ (q : KeptChain). IsVersionAt q.chain.versions 0 (f (version_of Unknown pt phase))) (same_some (on_shown (on_version_of 0 f) (chain_of_new Cache pt phase)) k (sym split-at ∙ there)) (record { older = []; newer = []; split = refl; number = refl })) number in
          subst (λ (w : Version). HasEntryAt from w.entries × HasEntryAt end w.entries) one stand
