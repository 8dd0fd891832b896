-- The streams as they are made; a seek leaves chains and readings as they are, and what others need of the cached stream.
use Rattle.std.proofs.Common.{◌≡◌, sym, ap, subst, ◌∙◌, Result}
use Rattle.std.specs.Option.{IfSome, MatchOption}
use Rattle.rc_stream.specs.declared.streams.StreamErr.{StreamErr}
use Rattle.rc_opened.specs.Written.{nothing_said}
use Rattle.rc_cacheread.specs.Sharing.{Sees}
use Rattle.rc_cached.specs.calls.Parts.{of_its_filler, of_snapshot, of_underlying}
use Rattle.rc_mutation.specs.Fragments.{fragments}
use Rattle.rc_stream.specs.Did.{Call.OfSeek, has_answer}
use Rattle.rc_stream.specs.Leaving.{sought_by}
use Rattle.rc_stream.specs.Stream.{stream_of}
use Rattle.rc_cacheread.specs.Spots.{stand}
use Rattle.rc_snapshots.specs.Seeing.{SeesAllOf}
use Rattle.rc_cached.specs.declared.readings.Readings.{Readings}
use Rattle.rc_cached.specs.Streams.{SayBelow}
use Rattle.rc_paging.specs.Pages.{StandFor}
use Rattle.rc_paging.specs.calls.Layers.{OfLayers, cached_in}
use Rattle.rc_paging.specs.calls.Words.{IsReaderIn, IsUnreadIn}
use Rattle.rc_paging.proofs.Called.{CallLaws, keeps_cache}
use Rattle.rc_paging.proofs.Fresh.{cache_of, cache_ready, cache_seen, cache_unread, reader_of}
use Rattle.rc_paging.proofs.Sought.{on_ok, seek_placed, seek_same}
use Rattle.rc_paging.proofs.seeking.layers_from.Goals as goal

pub seek-went-requires-clause-ready : goal.seek-went-requires-clause-ready
seek-went-requires-clause-ready g c =
    let r = c.requires in
    cache_ready g.row.S _ r.0 c.args.chains.now (λ z q n st. c.a_cached_stream_says_what_lies_below.ensures.ready z q c.args.chains.now c.args.readings.now r.0 n st.ready st.stands r.4) c.args.held.cached c.cache_stream-cached.result.stream c.cache_stream-cached.ensures r.3.cached

pub returns-clause-home : goal.returns-clause-home
returns-clause-home g c =
    let laws : CallLaws g.row.S = record { leaves = c.a_cached_stream_leaves_what_others_see.ensures.did; handed = c.a_cached_stream_misses_only_what_is_not_known.ensures.handed; unread = c.a_cached_stream_misses_only_what_is_not_known.ensures.unread; known = c.a_cached_stream_misses_only_what_is_not_known.ensures.known } in
    let same = seek_same g.row.S laws c.args.from.now c.cache_stream-cached.result.stream c.seek-went.new.self.stream c.args.chains.now c.args.readings.now (has_answer c.seek-went.result) c.seek-went.new.home c.seek-went.new.store c.seek-went.ensures.did in
    same.0

pub returns-clause-ready : goal.returns-clause-ready
returns-clause-ready g c =
    let laws : CallLaws g.row.S = record { leaves = c.a_cached_stream_leaves_what_others_see.ensures.did; handed = c.a_cached_stream_misses_only_what_is_not_known.ensures.handed; unread = c.a_cached_stream_misses_only_what_is_not_known.ensures.unread; known = c.a_cached_stream_misses_only_what_is_not_known.ensures.known } in
    let same = seek_same g.row.S laws c.args.from.now c.cache_stream-cached.result.stream c.seek-went.new.self.stream c.args.chains.now c.args.readings.now (has_answer c.seek-went.result) c.seek-went.new.home c.seek-went.new.store c.seek-went.ensures.did in
    let r = c.requires in
    c.new_layers_say_what_was_written.ensures.ready r.1 r.2 c.args.held.written c.memtable_layers-both.result c.seek-went.new.self c.seek-went.new.home c.seek-went.new.store c.new.result
    (subst (λ z. SeesAllOf r.1 z c.args.held.written.sealed) (sym same.0) r.3.sealed)
    (subst (λ z. SeesAllOf r.2 z c.args.held.written.active) (sym same.0) r.3.active)
    c.memtable_layers-both.ensures c.new.ensures c.seek-went.ensures.ready

pub returns-clause-begun : goal.returns-clause-begun
returns-clause-begun g c =
    let laws : CallLaws g.row.S = record { leaves = c.a_cached_stream_leaves_what_others_see.ensures.did; handed = c.a_cached_stream_misses_only_what_is_not_known.ensures.handed; unread = c.a_cached_stream_misses_only_what_is_not_known.ensures.unread; known = c.a_cached_stream_misses_only_what_is_not_known.ensures.known } in
    let same = seek_same g.row.S laws c.args.from.now c.cache_stream-cached.result.stream c.seek-went.new.self.stream c.args.chains.now c.args.readings.now (has_answer c.seek-went.result) c.seek-went.new.home c.seek-went.new.store c.seek-went.ensures.did in
    let kept = keeps_cache g.row.S laws c.cache_stream-cached.result.stream c.seek-went.new.self.stream c.args.chains.now c.args.readings.now (OfSeek c.args.from.now) (has_answer c.seek-went.result) c.seek-went.new.home c.seek-went.new.store c.seek-went.ensures.did in
    let in_all = ap (λ (z : OfLayers). cached_in z) c.new.ensures in
    let made = c.a_cached_stream_says_what_lies_below.ensures.made in record {
      layers = c.new_layers_say_what_was_written.ensures.layers c.args.held c.memtable_layers-both.result c.seek-went.new.self c.new.result c.memtable_layers-both.ensures c.new.ensures (kept.of c.args.held.cached (cache_of made c.args.held.cached c.cache_stream-cached.result.stream c.cache_stream-cached.ensures));
      reader = λ below writes later stand say.
          let stood = subst (λ z. StandFor g.row.S z c.args.held below writes later) same.0 stand in
          let said = subst (SayBelow below) same.1 say in
          subst (IsReaderIn g.row.S below c.seek-went.new.home c.seek-went.new.store) (sym in_all)
          (kept.reader below (cache_ready g.row.S _ below c.args.chains.now (λ z r n st. reader_of g.row.S below c.args.chains.now c.args.readings.now z r (made z r n) st.stands (c.what_is_below_still_says.ensures.made z r c.args.chains.now c.args.readings.now below n st.stands said).0) c.args.held.cached c.cache_stream-cached.result.stream c.cache_stream-cached.ensures stood.cached));
      unread = λ none. subst (IsUnreadIn c.seek-went.new.store) (sym in_all) (kept.unread (cache_unread c.args.held.cached c.cache_stream-cached.result.stream c.args.readings.now c.cache_stream-cached.ensures (ap (λ (w : Readings). w.list) (sym same.1) ∙ none))).0;
    }

pub returns-clause-seen : goal.returns-clause-seen
returns-clause-seen g c = λ schema below writes later tables fits more stand say.
    let laws : CallLaws g.row.S = record { leaves = c.a_cached_stream_leaves_what_others_see.ensures.did; handed = c.a_cached_stream_misses_only_what_is_not_known.ensures.handed; unread = c.a_cached_stream_misses_only_what_is_not_known.ensures.unread; known = c.a_cached_stream_misses_only_what_is_not_known.ensures.known } in
    let same = seek_same g.row.S laws c.args.from.now c.cache_stream-cached.result.stream c.seek-went.new.self.stream c.args.chains.now c.args.readings.now (has_answer c.seek-went.result) c.seek-went.new.home c.seek-went.new.store c.seek-went.ensures.did in
    on_ok _ c.seek-went.result (λ u e.
    c.new_layers_say_what_was_written.ensures.seen schema below writes later c.args.held.written c.memtable_layers-both.result c.seek-went.new.self c.seek-went.new.home c.seek-went.new.store c.new.result c.args.from.now tables fits more
    (subst (λ z. SeesAllOf writes z c.args.held.written.sealed) (sym same.0) stand.sealed)
    (subst (λ z. SeesAllOf later z c.args.held.written.active) (sym same.0) stand.active)
    c.memtable_layers-both.ensures c.new.ensures
    (λ d is join. subst (λ (q : Result (Unit {0}) StreamErr). MatchOption c.seek-went.new.self.stream (sought_by q c.args.from.now (stream_of (fragments d)) ≡ nothing_said) (λ a. Sees of_snapshot of_underlying (of_its_filler g.row.S) a c.seek-went.new.home c.seek-went.new.store (sought_by q c.args.from.now (stream_of (fragments d))))) e (c.seek-went.ensures.seen (stream_of (fragments d))
    (cache_seen g.row.S _ below d c.args.chains.now is join (λ z r n st. c.a_cached_stream_says_what_lies_below.ensures.seen z r c.args.chains.now c.args.readings.now below n st.stands say d is (c.a_join_says_what_the_writes_say.ensures d below is join)) c.args.held.cached c.cache_stream-cached.result.stream c.cache_stream-cached.ensures stand.cached))))

pub returns-clause-placed : goal.returns-clause-placed
returns-clause-placed g c =
    let laws : CallLaws g.row.S = record { leaves = c.a_cached_stream_leaves_what_others_see.ensures.did; handed = c.a_cached_stream_misses_only_what_is_not_known.ensures.handed; unread = c.a_cached_stream_misses_only_what_is_not_known.ensures.unread; known = c.a_cached_stream_misses_only_what_is_not_known.ensures.known } in
    on_ok _ c.seek-went.result (λ u e. record {
      due = ap (λ (z : OfLayers). z.due) c.new.ensures;
      at = subst (λ o. IfSome o (λ r. stand r.spot ≡ c.args.from.now)) (sym (ap (λ (z : OfLayers). cached_in z) c.new.ensures))
          (seek_placed g.row.S laws c.args.from.now c.args.held.cached c.cache_stream-cached.result.stream c.seek-went.new.self.stream c.args.chains.now c.args.readings.now (has_answer c.seek-went.result) c.seek-went.new.home c.seek-went.new.store (ap has_answer e) c.cache_stream-cached.ensures c.seek-went.ensures.did);
    })
