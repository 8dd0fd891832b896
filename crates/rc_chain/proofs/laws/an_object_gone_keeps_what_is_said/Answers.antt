use Rattle.std.specs.Prelude.{◌≡◌, ◌++◌, ◌∷◌, true, false, List, length}
use Rattle.std.proofs.Common.{refl, sym, ap, subst, ◌∙◌}
use Rattle.std.specs.declared.cmp.Ordering.{Ordering}
use Rattle.std.specs.declared.cmp.Ordering.TheVariants.{Less, Equal, Greater}
use Rattle.std.specs.Ordering.{is_gt}
use Rattle.rc_position.specs.declared.positions.Pos.{Pos}
use Rattle.rc_position.specs.Position.{pos_cmp}
use Rattle.rc_position.specs.laws.Bounds.{last_pos-greatest}
use Rattle.rc_position.specs.laws.Orders.{pos_cmp_same}
use Rattle.rc_core.specs.Chains.{IsChainContinuous, Shown, at_place}
use Rattle.rc_core.specs.Change.{drop_at}
use Rattle.rc_core.specs.Continuity.{IsEvicted, IsSameOrLost, with_entries, without_statics}
use Rattle.rc_core.specs.Steps.{on_version}
use Rattle.rc_core.specs.Version.{Version, end_position}
use Rattle.rc_memory.specs.Memory.{on_version_of}
use Rattle.rc_chain.specs.laws.Numbered.{replaced-beside}
use Rattle.rc_chain.proofs.laws.an_object_gone_keeps_what_is_said.Goals as goal

-- no position stands behind the end
before : (x : Pos) (r : Ordering) → pos_cmp x end_position ≡ r → (x ≡ end_position → ⊥) → r ≡ Less
before x Less e off = refl
before x Equal e off = absurd (off (pos_cmp_same x end_position e))
before x Greater e off = let u : false ≡ true = sym (last_pos-greatest x) ∙ ap is_gt e in absurd (cc)

pub returns : goal.returns
returns c = record {
  entry = λ below p d older newer v x parts i there b off k. subst (IsChainContinuous below) (sym (replaced-beside p d older newer v (λ w. with_entries (drop_at x w.entries) w) parts (c.one_version_is_changed.ensures older v newer (λ w. with_entries (drop_at x w.entries) w))))
      (c.each_eviction_keeps_the_whole_chain.ensures.entry below (at_place p d) older newer v parts k x i there b off);
  statics = λ below p d older newer v parts some k. subst (IsChainContinuous below) (sym (replaced-beside p d older newer v without_statics parts (c.one_version_is_changed.ensures older v newer without_statics)))
      (c.each_eviction_keeps_the_whole_chain.ensures.statics below (at_place p d) older newer v parts k some);
  inner = λ x off. before x (pos_cmp x end_position) refl off;
  entry_seen = λ d older newer v x parts i b. lost d older newer v (λ w. with_entries (drop_at x w.entries) w) parts (c.each_eviction_is_one.ensures.entry v x i b);
  statics_seen = λ d older newer v parts. lost d older newer v without_statics parts (c.each_eviction_is_one.ensures.statics v);
}
  where
    lost : (d : Shown) (older newer : List Version) (v : Version) (f : Version → Version) → d.versions ≡ older ++ v ∷ newer → IsEvicted v (f v) → IsSameOrLost d.versions (on_version_of (length older) f d).versions
    lost d older newer v f parts e = subst (λ vs. IsSameOrLost vs (on_version (length older) f vs)) (sym parts)
        (subst (IsSameOrLost (older ++ v ∷ newer)) (sym (c.one_version_is_changed.ensures older v newer f)) (c.an_eviction_is_seen_as_same_or_lost.ensures older newer v (f v) e))
