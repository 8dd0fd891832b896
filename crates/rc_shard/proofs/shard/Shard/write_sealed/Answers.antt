-- The parts of the sealed writes fit a table, and the number is no file's; then they stand in it.
use Rattle.std.proofs.Common.{◌≡◌, ◌∙◌, [], inl, inr, All, List, refl, sym, subst, arith}
use Rattle.rc_mutation.specs.declared.mutations.Partition.{Partition}
use Rattle.rc_mutation.specs.Source.{IsMutation}
use Rattle.rc_snapshots.specs.laws.Seeing.{all-see, lost-then}
use Rattle.rc_tfile.specs.TableText.{PartsFit}
use Rattle.rc_folder.specs.Tabled.{IsTableAdded}
use Rattle.rc_shard.specs.calls.Storing.{KeepsUnstored}
use Rattle.rc_shard.proofs.Flushing.{no-file, parts-of-sealed}
use Rattle.rc_lookup.specs.Writes.{DoAscend}
use Rattle.rc_lookup.specs.NoMore.{counts-then, no-more-then}
use Rattle.rc_shard.specs.calls.Caching.{Forgets}
use Rattle.rc_shard.proofs.Caching.{keeps-then}
use Rattle.rc_shard.proofs.Forgotten.{forgets-behind}
use Rattle.rc_shard.proofs.Looking.{on-ok}
use Rattle.rc_shard.proofs.Standing.{if-ok-weaker, on-err, room-kept}
use Rattle.rc_shard.proofs.shard.Shard.write_sealed.Goals as goal

pub add-requires-clause-fit : goal.add-requires-clause-fit
add-requires-clause-fit g c = subst (λ (parts : List Partition). PartsFit c.args.self.now.folder.schema parts) (sym c.as_slice-written.ensures.value) (parts-of-sealed _ (g.W.Store.files c.args.store.now) c.args.self.now c.in_ok-parts.parts.items c.requires.stands c.in_ok-parts.ensures.parts)

pub add-requires-clause-mutations : goal.add-requires-clause-mutations
add-requires-clause-mutations g c =
    let h = c.requires.stands.1.have in
    subst (λ (parts : List Partition). All (λ p. IsMutation p.change) parts) (sym c.as_slice-written.ensures.value) (c.in_ok-parts.ensures.parts c.args.self.now.folder.schema h.sealed h.later h.have).mutations

pub add-requires-clause-fresh : goal.add-requires-clause-fresh
add-requires-clause-fresh g c = no-file _ (g.W.Store.files c.args.store.now) c.args.self.now c.args.number c.requires.stands c.requires.number

pub drop_sealed-requires : goal.drop_sealed-requires
drop_sealed-requires g c =
    let h = c.requires.stands.1.have in
    (omega arith, (c.args.self.now.folder.schema, h.sealed, h.later, c.sealed_partitions.ensures.stands c.args.self.now.folder.schema h.sealed h.later h.have))

pub returns-in-Ok-clause-written : goal.returns-in-Ok-clause-written
returns-in-Ok-clause-written g c = inl (
  refl,
  record {
    parts = c.in_ok-parts.parts.items;
    of_writes = λ schema writes later h. c.in_ok-parts.ensures.parts schema writes later h;
    added = subst (λ (parts : List Partition). IsTableAdded (g.W.Store.files c.args.store.now) c.args.self.now.folder c.args.number parts (g.W.Store.files c.add.new.store) c.add.new.self) c.as_slice-written.ensures.value c.in-Ok.ensures.added;
    gone = λ schema writes later h. c.forget_all.ensures.keeps.stands schema [] later (c.drop_sealed.ensures.gone schema writes later (c.sealed_partitions.ensures.stands schema writes later h));
    seen = all-see c.args.self.now.unstored.chains c.forget_all.new.unstored.chains (lost-then c.args.self.now.unstored.chains c.drop_sealed.new.self.chains c.forget_all.new.unstored.chains (lost-then c.args.self.now.unstored.chains c.sealed_partitions.new.self.chains c.drop_sealed.new.self.chains c.sealed_partitions.ensures.seen.alike c.drop_sealed.ensures.seen) c.forget_all.ensures.keeps.seen);
    budget = c.forget_all.ensures.keeps.budget ∙ (no-more-then c.args.self.now.unstored.chains c.sealed_partitions.new.self.chains c.drop_sealed.new.self.chains (c.what_a_call_leaves_of_the_room.ensures.before _ _ c.sealed_partitions.ensures.left) c.drop_sealed.ensures.room).budget;
    counts = counts-then c.args.self.now.unstored.chains c.drop_sealed.new.self.chains c.forget_all.new.unstored.chains (counts-then c.args.self.now.unstored.chains c.sealed_partitions.new.self.chains c.drop_sealed.new.self.chains (c.what_a_call_leaves_of_the_room.ensures.before _ _ c.sealed_partitions.ensures.left).counts c.drop_sealed.ensures.room.counts) c.forget_all.ensures.keeps.counts;
    cache = (let h = c.requires.stands.1.have in
        forgets-behind c.in_ok-parts.parts.items c.args.self.now.cache.entries c.forget_all.new.cache.entries c.args.self.now.unstored.chains c.drop_sealed.new.self.chains c.forget_all.new.unstored.chains
        (keeps-then c.args.self.now.unstored.chains c.sealed_partitions.new.self.chains c.drop_sealed.new.self.chains (c.what_calls_leave_of_the_cache.ensures.before _ _ c.sealed_partitions.ensures.left)
        (c.what_calls_leave_of_the_cache.ensures.let_go c.args.self.now.folder.schema c.sealed_partitions.new.self c.drop_sealed.new.self.chains h.sealed h.later (subst DoAscend (sym c.sealed_partitions.ensures.keys.sealed) c.known.ensures) (c.sealed_partitions.ensures.stands c.args.self.now.folder.schema h.sealed h.later h.have) c.drop_sealed.ensures.let_go))
        (subst (λ (parts : List Partition). Forgets parts c.args.self.now.cache.entries c.forget_all.new.cache.entries c.drop_sealed.new.self.chains c.forget_all.new.unstored.chains) c.as_slice-written.ensures.value c.forget_all.ensures.forgets));
  },
)

pub forget_all-requires : goal.forget_all-requires
forget_all-requires g c =
    let h = c.requires.stands.1.have in
    let cached = c.requires.stands.1.cached in
    let left = (keeps-then c.args.self.now.unstored.chains c.sealed_partitions.new.self.chains c.drop_sealed.new.self.chains (c.what_calls_leave_of_the_cache.ensures.before _ _ c.sealed_partitions.ensures.left)
    (c.what_calls_leave_of_the_cache.ensures.let_go c.args.self.now.folder.schema c.sealed_partitions.new.self c.drop_sealed.new.self.chains h.sealed h.later (subst DoAscend (sym c.sealed_partitions.ensures.keys.sealed) c.known.ensures) (c.sealed_partitions.ensures.stands c.args.self.now.folder.schema h.sealed h.later h.have) c.drop_sealed.ensures.let_go)).left in
    record { are = left.entries c.args.self.now.cache.entries cached.are; one = left.one cached.one; used = left.used cached.used }

pub returns-in_err-parts-clause-err : goal.returns-in_err-parts-clause-err
returns-in_err-parts-clause-err g c =
    let kept : KeepsUnstored c.args.self.now.folder.schema c.args.self.now.unstored c.sealed_partitions.new.self =
    room-kept c.args.self.now.folder.schema c.args.self.now.unstored c.sealed_partitions.new.self (λ writes later h. c.sealed_partitions.ensures.stands c.args.self.now.folder.schema writes later h) c.sealed_partitions.ensures.seen (c.what_a_call_leaves_of_the_room.ensures.before _ _ c.sealed_partitions.ensures.left) (c.what_calls_leave_of_the_cache.ensures.before _ _ c.sealed_partitions.ensures.left) in
    let left : (c.args.self.now.folder ≡ c.args.self.now.folder) × (c.args.self.now.cache ≡ c.args.self.now.cache) × KeepsUnstored c.args.self.now.folder.schema c.args.self.now.unstored c.sealed_partitions.new.self × (g.W.Store.files c.args.store.now ≡ g.W.Store.files c.args.store.now) = (refl, refl, kept, refl) in
    on-err _ _ left

pub returns-clause-written : goal.returns-clause-written
returns-clause-written g c =
    let kept : KeepsUnstored c.args.self.now.folder.schema c.args.self.now.unstored c.sealed_partitions.new.self =
    room-kept c.args.self.now.folder.schema c.args.self.now.unstored c.sealed_partitions.new.self (λ writes later h. c.sealed_partitions.ensures.stands c.args.self.now.folder.schema writes later h) c.sealed_partitions.ensures.seen (c.what_a_call_leaves_of_the_room.ensures.before _ _ c.sealed_partitions.ensures.left) (c.what_calls_leave_of_the_cache.ensures.before _ _ c.sealed_partitions.ensures.left) in
    if-ok-weaker c.not_written.result _ _ (λ reply is. inr (is.1, c.in-Err.ensures.refused.0, refl, kept, c.in-Err.ensures.refused.1)) c.not_written.ensures

pub returns-clause-err : goal.returns-clause-err
returns-clause-err g c =
    let kept : KeepsUnstored c.args.self.now.folder.schema c.args.self.now.unstored c.sealed_partitions.new.self =
    room-kept c.args.self.now.folder.schema c.args.self.now.unstored c.sealed_partitions.new.self (λ writes later h. c.sealed_partitions.ensures.stands c.args.self.now.folder.schema writes later h) c.sealed_partitions.ensures.seen (c.what_a_call_leaves_of_the_room.ensures.before _ _ c.sealed_partitions.ensures.left) (c.what_calls_leave_of_the_cache.ensures.before _ _ c.sealed_partitions.ensures.left) in
    let left : (c.add.new.self ≡ c.args.self.now.folder) × (c.args.self.now.cache ≡ c.args.self.now.cache) × KeepsUnstored c.args.self.now.folder.schema c.args.self.now.unstored c.sealed_partitions.new.self × (g.W.Store.files c.add.new.store ≡ g.W.Store.files c.args.store.now) = (c.in-Err.ensures.refused.0, refl, kept, c.in-Err.ensures.refused.1) in
    on-err _ _ left

pub returns-in_err-parts-clause-counts : goal.returns-in_err-parts-clause-counts
returns-in_err-parts-clause-counts g c = record { answered = refl; segments = refl; asked = refl; none_fell = (c.what_a_call_leaves_of_the_room.ensures.before _ _ c.sealed_partitions.ensures.left).counts }

pub returns-in-Ok-clause-counts : goal.returns-in-Ok-clause-counts
returns-in-Ok-clause-counts g c = record {
  answered = refl;
  segments = refl;
  asked = refl;
  none_fell = counts-then c.args.self.now.unstored.chains c.drop_sealed.new.self.chains c.forget_all.new.unstored.chains (counts-then c.args.self.now.unstored.chains c.sealed_partitions.new.self.chains c.drop_sealed.new.self.chains (c.what_a_call_leaves_of_the_room.ensures.before _ _ c.sealed_partitions.ensures.left).counts c.drop_sealed.ensures.room.counts) c.forget_all.ensures.keeps.counts;
}

pub returns-clause-counts : goal.returns-clause-counts
returns-clause-counts g c = record { answered = refl; segments = refl; asked = refl; none_fell = (c.what_a_call_leaves_of_the_room.ensures.before _ _ c.sealed_partitions.ensures.left).counts }

-- nothing is counted
pub returns-in-Ok-clause-same : goal.returns-in-Ok-clause-same
returns-in-Ok-clause-same g c =
    let h = c.requires.stands.1.have in
    let schema = c.args.self.now.folder.schema in
    let stands = c.sealed_partitions.ensures.stands schema h.sealed h.later h.have in
    c.forget_all.ensures.counts
    ∙ c.what_is_let_go_counts_nothing.ensures.let_go 131072 schema c.sealed_partitions.new.self c.drop_sealed.new.self.chains h.sealed h.later (subst DoAscend (sym c.sealed_partitions.ensures.keys.sealed) c.known.ensures) stands c.drop_sealed.ensures.let_go
    ∙ c.sealed_partitions.ensures.left.counts

pub returns-clause-same : goal.returns-clause-same
returns-clause-same g c = on-ok c.not_written.result _ c.sealed_partitions.ensures.left.counts
