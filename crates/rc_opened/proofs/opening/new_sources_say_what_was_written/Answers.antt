-- What both memtables say joins to one mutation, and with what the tables said to another one, of which the merge of all is the stream.
use Rattle.std.proofs.Common.{◌≡◌, ◌++◌, refl, sym, ap, subst, ◌∙◌}
use Rattle.rc_mutation.specs.Fragments.{fragments}
use Rattle.rc_stream.specs.Merging.{IsOrdered, merged_stream}
use Rattle.rc_stream.specs.Stream.{Stream, stream_of}
use Rattle.rc_reader.specs.Left.{slice_lines}
use Rattle.rc_opened.specs.Opened.{no_files}
use Rattle.rc_opened.proofs.Fresh as fresh
use Rattle.rc_opened.proofs.Moving.{keeps, keeps_seen, moved}
use Rattle.rc_opened.proofs.Saying.{all_said}
use Rattle.rc_opened.proofs.opening.new_sources_say_what_was_written.Goals as goal

pub returns-clause-ready : goal.returns-clause-ready
returns-clause-ready g c = λ tables writes later snaps m s sealed active new.
    let law = c.a_snapshots_stream_says_what_was_written.ensures.ready in
    let inner = c.a_new_merge_stands_for_both.ensures.ready new.sealed new.active new.inner m no_files new.written
    (fresh.ready _ writes m (λ z r n sees. law z r writes m no_files n sees) snaps.sealed new.sealed.stream new.new_sealed sealed)
    (fresh.ready _ later m (λ z r n sees. law z r later m no_files n sees) snaps.active new.active.stream new.new_active active)
    (keeps _ _ (λ h w k v d. d)) (keeps _ _ (λ h w k v d. d)) (keeps_seen _ _ (λ h w k v d. d)) (keeps_seen _ _ (λ h w k v d. d)) in
    c.a_new_merge_stands_for_both-2.ensures.ready (stream_of (fragments tables)) new.inner s m no_files new.all tt inner
    (keeps _ _ (moved _ _ (λ h w k v d. d) (λ h w k v d. d))) (keeps _ _ (λ h w k v d. (sym d.0, sym d.1))) (keeps_seen _ _ (moved _ _ (λ h w k v d. d) (λ h w k v d. d))) (keeps_seen _ _ (λ h w k v d. (sym d.0, sym d.1)))

pub returns-clause-seen : goal.returns-clause-seen
returns-clause-seen g c = λ schema tables said writes later snaps m s is_tables j fits more sealed active new.
    let law = c.a_snapshots_stream_says_what_was_written.ensures.seen in
    let start = c.the_stream_of_a_mutation.ensures.whole in
    let join = c.a_merge_is_the_stream_of_the_join.ensures in
    let a = c.writes_have_a_join.ensures.all writes fits.mutations in
    let b = c.writes_have_a_join.ensures.all later more.mutations in
    let ab = c.writes_have_a_join.ensures.two a.0 b.0 a.1 b.1 in
    let all = c.writes_have_a_join.ensures.two tables ab.0 is_tables ab.1 in
    let same_a = c.a_join_says_what_the_writes_say.ensures a.0 writes a.1 a.2 in
    let same_b = c.a_join_says_what_the_writes_say.ensures b.0 later b.1 b.2 in
    let fit_a = c.what_says_the_same_fits.ensures schema a.0 writes a.1 same_a fits.fit in
    let fit_b = c.what_says_the_same_fits.ensures schema b.0 later b.1 same_b more.fit in
    let inner = c.a_new_merge_stands_for_both.ensures.seen new.sealed new.active new.inner m no_files (stream_of (fragments a.0)) (stream_of (fragments b.0)) new.written
    (fresh.seen _ writes a.0 m a.1 a.2 (λ z r n sees. law z r writes m no_files n sees schema a.0 a.1 fit_a same_a) snaps.sealed new.sealed.stream new.new_sealed sealed)
    (fresh.seen _ later b.0 m b.1 b.2 (λ z r n sees. law z r later m no_files n sees schema b.0 b.1 fit_b same_b) snaps.active new.active.stream new.new_active active)
    (start a.0 a.1).0 (start b.0 b.1).0 (start a.0 a.1).1 (start b.0 b.1).1 in
    let written : Stream = merged_stream (stream_of (fragments a.0)) (stream_of (fragments b.0)) in
    let same : written ≡ stream_of (fragments ab.0) = join a.0 b.0 ab.0 a.1 b.1 ab.1 ab.2 in (
      merged_stream (stream_of (fragments tables)) written,
      c.a_new_merge_stands_for_both-2.ensures.seen (stream_of (fragments tables)) new.inner s m no_files (stream_of (fragments tables)) written new.all refl inner
          (start tables is_tables).0 (ap (λ (z : Stream). z.tomb) same ∙ (start ab.0 ab.1).0) (start tables is_tables).1 (subst (λ (z : Stream). IsOrdered z.left) (sym same) (start ab.0 ab.1).1),
      λ slice. ap (λ z. slice_lines slice (merged_stream (stream_of (fragments tables)) z)) same
          ∙ ap (slice_lines slice) (join tables ab.0 all.0 is_tables ab.1 all.1 all.2)
          ∙ c.the_lines_of_a_mutation_are_its_answer.ensures.joined all.0 (said ++ (writes ++ later)) slice all.1 (all_said tables a.0 b.0 ab.0 all.0 said writes later j a.2 b.2 ab.2 all.2),
    )
