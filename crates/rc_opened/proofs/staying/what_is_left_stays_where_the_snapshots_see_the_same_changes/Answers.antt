-- Both streams of snapshots stay, so what is merged of them does.
use Rattle.rc_stream.specs.Stream.{Stream}
use Rattle.rc_opened.specs.Opened.{active_stream_of, no_files, sealed_stream_of, snaps_of}
use Rattle.rc_opened.proofs.staying.what_is_left_stays_where_the_snapshots_see_the_same_changes.Goals as goal

pub returns : goal.returns
returns g c = λ o m n lines same given.
    let stream = o.reader.stream in
    let left = given.left in
    let see = given.see in
    let sees = c.a_snapshot_sees_what_it_saw.ensures.all_changes in
    let sealed = sees see.writes m n (snaps_of o).sealed same.sealed see.sealed in
    let active = sees see.later m n (snaps_of o).active same.active see.active in
    let sealed_ready = c.what_is_written_stays.ensures.ready (sealed_stream_of stream) see.writes m n given.streams.sealed see.sealed sealed given.may.0.1.0.0 in
    let active_ready = c.what_is_written_stays.ensures.ready (active_stream_of stream) see.later m n given.streams.active see.active active given.may.0.1.0.1 in
    let inner = λ (z : Stream). c.a_merge_stays.ensures stream.theirs.stream m n no_files no_files z
    (λ t. c.what_is_written_stays.ensures.seen (sealed_stream_of stream) see.writes m n t given.streams.sealed see.sealed sealed)
    (λ t. c.what_is_written_stays.ensures.seen (active_stream_of stream) see.later m n t given.streams.active see.active active) in
    record {
      may = ((tt, ((sealed_ready, active_ready), given.may.0.1.1, given.may.0.1.2)), given.may.1, given.may.2);
      left = record { stream = left.stream; stands = c.a_merge_stays-2.ensures stream m n no_files no_files left.stream (λ t d. d) inner left.stands; are = left.are };
      streams = given.streams;
      see = record { writes = see.writes; later = see.later; sealed = sealed; active = active };
    }
