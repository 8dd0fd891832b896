-- What both memtables say joins to one mutation, and with what the tables say to another one, of which the merge of all is the stream.
use Rattle.std.proofs.Common.{◌≡◌, ◌++◌, true, refl, sym, ap, subst, ◌∙◌}
use Rattle.std.specs.Ordering.{is_le}
use Rattle.rc_position.specs.Position.{pos_cmp}
use Rattle.rc_mutation.specs.Fragments.{fragments}
use Rattle.rc_query.specs.Compacting.{compacted_all}
use Rattle.rc_stream.specs.Merging.{IsOrdered, merged_stream}
use Rattle.rc_stream.specs.Stream.{Stream, sought_stream, stream_of}
use Rattle.rc_stream.specs.laws.Ordered.{passes-itself}
use Rattle.rc_stream.specs.laws.Sought.{sought-ordered}
use Rattle.rc_reader.specs.Left.{slice_lines, until}
use Rattle.rc_paging.specs.calls.Layers.{IsCacheLayerOf, IsMemtableLayerOf, OfLayers, active_in, cached_in, sealed_in}
use Rattle.rc_paging.specs.calls.Standing.{OfMemtables}
use Rattle.rc_paging.proofs.Fresh.{leaves_once, memtable_of, memtable_ready, memtable_seen, still_in}
use Rattle.rc_paging.proofs.Moving.{keeps, keeps_seen, moved, once}
use Rattle.rc_paging.proofs.Saying.{all_said}
use Rattle.rc_paging.proofs.opening.new_layers_say_what_was_written.Goals as goal

pub returns-clause-ready : goal.returns-clause-ready
returns-clause-ready g c = λ writes later written inner cached m w s seals acts new all ready.
    let law = c.a_snapshots_stream_says_what_was_written.ensures in
    let leave = c.a_cached_stream_leaves_what_others_see.ensures.moves in
    let stay = c.what_memtables_have_stays.ensures in
    let both = c.a_new_merge_stands_for_both.ensures.ready new.sealed new.active inner m w new.both
    (memtable_ready _ writes m (λ z r n sees. law.ready z r writes m w n sees) law.made written.sealed new.sealed.stream new.new_sealed seals)
    (memtable_ready _ later m (λ z r n sees. law.ready z r later m w n sees) law.made written.active new.active.stream new.new_active acts)
    (keeps _ _ (once _ (λ h w k v d. d))) (keeps _ _ (once _ (λ h w k v d. d))) (keeps_seen _ _ (once _ (λ h w k v d. d))) (keeps_seen _ _ (once _ (λ h w k v d. d))) in
    let leaves = leaves_once _ (λ m w n v d. (leave m w n v d).0) in
    c.a_new_merge_stands_for_both-2.ensures.ready inner cached s m w all both ready
    (λ t h w k v d. stay.ready t h k w v (still_in h k t.ours.stream.stream (leaves h w k v d)) (still_in h k t.theirs.stream.stream (leaves h w k v d)))
    (keeps _ _ (moved _ _ (once _ (λ h w k v d. d)) (once _ (λ h w k v d. d))))
    (λ t z h w k v d. stay.seen t h k w v z (still_in h k t.ours.stream.stream (leaves h w k v d)) (still_in h k t.theirs.stream.stream (leaves h w k v d)))
    (keeps_seen _ _ (moved _ _ (once _ (λ h w k v d. d)) (once _ (λ h w k v d. d))))

pub returns-clause-layers : goal.returns-clause-layers
returns-clause-layers g c = λ held inner cached s new all is.
    let made = c.a_snapshots_stream_says_what_was_written.ensures.made in record {
      sealed = subst (IsMemtableLayerOf held.written.sealed) (sym (ap (λ (z : OfLayers). sealed_in z) all ∙ ap (λ (z : OfMemtables). z.ours.stream.stream) new.both)) (memtable_of made held.written.sealed new.sealed.stream new.new_sealed);
      active = subst (IsMemtableLayerOf held.written.active) (sym (ap (λ (z : OfLayers). active_in z) all ∙ ap (λ (z : OfMemtables). z.theirs.stream.stream) new.both)) (memtable_of made held.written.active new.active.stream new.new_active);
      cached = subst (IsCacheLayerOf held.cached) (sym (ap (λ (z : OfLayers). cached_in z) all)) is;
    }

pub returns-clause-seen : goal.returns-clause-seen
returns-clause-seen g c = λ schema below writes later written inner cached m w s x tables fits more seals acts new all say.
    let law = c.a_snapshots_stream_says_what_was_written.ensures in
    let start = c.the_stream_of_a_mutation.ensures.whole in
    let join = c.a_merge_is_the_stream_of_the_join.ensures in
    let a = c.writes_have_a_join.ensures.all writes fits.mutations in
    let b = c.writes_have_a_join.ensures.all later more.mutations in
    let d = c.writes_have_a_join.ensures.all below tables.mutations in
    let ab = c.writes_have_a_join.ensures.two a.0 b.0 a.1 b.1 in
    let joined = c.writes_have_a_join.ensures.two ab.0 d.0 ab.1 d.1 in
    let same_a = c.a_join_says_what_the_writes_say.ensures a.0 writes a.1 a.2 in
    let same_b = c.a_join_says_what_the_writes_say.ensures b.0 later b.1 b.2 in
    let fit_a = c.what_says_the_same_fits.ensures schema a.0 writes a.1 same_a fits.fit in
    let fit_b = c.what_says_the_same_fits.ensures schema b.0 later b.1 same_b more.fit in
    let both = c.a_new_merge_stands_for_both.ensures.seen new.sealed new.active inner m w (stream_of (fragments a.0)) (stream_of (fragments b.0)) new.both
    (memtable_seen _ writes a.0 m a.1 a.2 (λ z r n sees. law.seen z r writes m w n sees schema a.0 a.1 fit_a same_a) law.made written.sealed new.sealed.stream new.new_sealed seals)
    (memtable_seen _ later b.0 m b.1 b.2 (λ z r n sees. law.seen z r later m w n sees schema b.0 b.1 fit_b same_b) law.made written.active new.active.stream new.new_active acts)
    (start a.0 a.1).0 (start b.0 b.1).0 (start a.0 a.1).1 (start b.0 b.1).1 in
    let memtables : Stream = merged_stream (stream_of (fragments a.0)) (stream_of (fragments b.0)) in
    let tables_say : Stream = stream_of (fragments d.0) in
    let same : memtables ≡ stream_of (fragments ab.0) = join a.0 b.0 ab.0 a.1 b.1 ab.1 ab.2 in
    let in_order : IsOrdered memtables.left = subst (λ (z : Stream). IsOrdered z.left) (sym same) (start ab.0 ab.1).1 in
    let sought_order : IsOrdered (sought_stream x tables_say).left = sought-ordered x tables_say.tomb tables_say.left (start d.0 d.1).1 in (
      merged_stream memtables (sought_stream x tables_say),
      c.a_new_merge_stands_for_both-2.ensures.seen inner cached s m w memtables (sought_stream x tables_say) all both (say d.0 d.1 d.2)
          (ap (λ (z : Stream). z.tomb) same ∙ (start ab.0 ab.1).0) refl in_order sought_order,
      λ slice at.
          let later_seek = c.a_later_seek_forgets_an_earlier.ensures tables_say x slice.from (subst (λ z. is_le (pos_cmp x z) ≡ true) (sym at) (passes-itself x)) in
          let sought : sought_stream slice.from (merged_stream memtables (sought_stream x tables_say)) ≡ sought_stream slice.from (merged_stream memtables tables_say) =
          c.a_merge_is_sought_in_both.ensures memtables (sought_stream x tables_say) slice.from in_order sought_order
          ∙ ap (merged_stream (sought_stream slice.from memtables)) later_seek
          ∙ sym (c.a_merge_is_sought_in_both.ensures memtables tables_say slice.from in_order (start d.0 d.1).1) in
          ap (λ (z : Stream). compacted_all z.head (until slice.to z.left)) sought
          ∙ ap (λ z. slice_lines slice (merged_stream z tables_say)) same
          ∙ ap (slice_lines slice) (join ab.0 d.0 joined.0 ab.1 d.1 joined.1 joined.2)
          ∙ c.the_lines_of_a_mutation_are_its_answer.ensures.joined joined.0 (below ++ (writes ++ later)) slice joined.1 (all_said a.0 b.0 ab.0 d.0 joined.0 below writes later a.2 b.2 ab.2 d.2 joined.2),
    )
