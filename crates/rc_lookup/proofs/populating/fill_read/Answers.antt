-- The fragments are what writes say that say the same, and the filler is that of the snapshot.
use Rattle.std.proofs.Common.{◌≡◌, List, [], None, sym, ap, ◌∙◌, subst, arith}
use Rattle.std.specs.Prelude.{IfOk}
use Rattle.rc_mutation.specs.declared.fragments.Frag.{Frag}
use Rattle.rc_mutation.specs.Fragments.{fragments, rows_and_changes}
use Rattle.rc_core.specs.Version.{end_position}
use Rattle.rc_memory.specs.Memory.{chain_at}
use Rattle.rc_cached.specs.Filling.{MayFill}
use Rattle.rc_stream.specs.Stream.{Stream, stream_of}
use Rattle.rc_stream.specs.Snapshot.{NoneLost}
use Rattle.rc_cursor.specs.Snapshots.{IsKnownAs, Knows, kind_in, versions_in}
use Rattle.rc_cacheread.specs.Passing.{IsKnownOver}
use Rattle.rc_row_cache.specs.Fillers.{FillerKnows, losses}
use Rattle.rc_cached.specs.Stands.{HasCacheSnapshot, StandsForWrites}
use Rattle.rc_snapshots.specs.Streams.{first_position}
use Rattle.rc_row_cache.specs.Crowds.{loses-nothing}
use Rattle.rc_lookup.specs.calls.Filling.{FragmentsFit, NoEmptyRows, SaysAll}
use Rattle.rc_lookup.proofs.Limits.{all-fit}
use Rattle.rc_lookup.proofs.Fills.{on-also}
use Rattle.rc_lookup.proofs.Said.{all-written, says-all}
use Rattle.rc_lookup.proofs.Turns.{FillLaws, IsFillerOf, at-filler, at-snapshot, filled-through, still-filler}
use Rattle.rc_lookup.proofs.populating.fill_read.Goals as goal

pub fill_all-requires : goal.fill_all-requires
fill_all-requires g c =
    let S = g.row.S in
    let m = c.args.read.now in
    let is = c.holds_together.ensures in
    let left : (stream_of (fragments m)).left ≡ rows_and_changes m = ap (λ (t : Stream). t.left) (c.the_stream_of_a_mutation.ensures.fragments m is) in
    let reads = c.a_mutations_stream_reads_it.ensures.reads c.requires.fits.0 m is c.requires.fits.1 in
    let list : c.as_slice.result.now ≡ fragments m = c.as_slice.ensures ∙ subst (λ r. IfOk r (λ (l : List Frag). l ≡ fragments m)) c.in-Ok.is c.fragments.ensures in
    let writes = c.requires.stands.0 in
    let s = c.args.snap.now in
    let f = c.of-filler.result in
    let old = c.args.chains.now in
    let of : IsFillerOf S s f = (c.of-filler.ensures.chain, c.of-filler.ensures.pin) in (
      omega arith,
      (
        record { snapshot = at-filler S (λ id pin. HasCacheSnapshot old id pin) s f of c.requires.stands.1.snapshot; roomy = c.requires.roomy },
        (
          subst NoEmptyRows (sym list) (all-written m left reads),
          (writes, at-filler S (λ id pin. StandsForWrites S old id pin writes) s f of c.requires.stands.1, subst (SaysAll writes first_position None) (sym list) (says-all m left reads writes c.requires.stands.2)),
        ),
      ),
    )

pub returns-in-Ok-clause-through : goal.returns-in-Ok-clause-through
returns-in-Ok-clause-through g c =
    let S = g.row.S in
    let s = c.args.snap.now in
    let f = c.of-filler.result in
    let h = c.of-filler.result in
    let old = c.args.chains.now in
    let new = c.fill_all.new.home in
    let of : IsFillerOf S s f = (c.of-filler.ensures.chain, c.of-filler.ensures.pin) in
    let did = c.fill_all.ensures.filled.did in
    let laws : FillLaws = record {
      memtable = c.a_fill_spares_memtables_and_readers.ensures.memtable;
      sees = c.a_fill_spares_memtables_and_readers.ensures.sees;
      pins = c.a_fill_spares_memtables_and_readers.ensures.pins;
      told = c.a_fill_spares_memtables_and_readers.ensures.told;
      still = c.a_fill_spares_memtables_and_readers.ensures.still;
      absent = c.a_fill_spares_memtables_and_readers.ensures.absent;
      budget = c.a_fill_takes_no_segment.ensures.budget;
      bytes = c.what_calls_leave_of_memtables.ensures.filled;
      one = c.each_chain_of_the_cache_has_one_version.ensures.filled;
      used = c.chains_of_the_cache_stay_in_use.ensures.filled;
      held = λ size chain of_pin m n done id pin there. (c.each_snapshot_pins_what_it_pinned.ensures.filled (λ _. []) id pin size chain of_pin m n done there).0;
      snapshots = c.what_calls_leave_of_snapshots.ensures.filled;
    } in
    filled-through S laws s f h old new of c.counts_in_range.ensures did

pub returns-in-Ok-clause-may : goal.returns-in-Ok-clause-may
returns-in-Ok-clause-may g c = λ may.
    let S = g.row.S in
    let s = c.args.snap.now in
    let f = c.of-filler.result in
    let h = c.of-filler.result in
    let old = c.args.chains.now in
    let new = c.fill_all.new.home in
    let of : IsFillerOf S s f = (c.of-filler.ensures.chain, c.of-filler.ensures.pin) in
    let did = c.fill_all.ensures.filled.did in
    let still = still-filler S s f h old new of did in
    at-snapshot S (MayFill new) s h still (c.fill_all.ensures.filled.still (at-filler S (MayFill old) s f of may))

pub returns-in-Ok-clause-stands : goal.returns-in-Ok-clause-stands
returns-in-Ok-clause-stands g c = λ writes stands same.
    let m = c.args.read.now in
    let is = c.holds_together.ensures in
    let left : (stream_of (fragments m)).left ≡ rows_and_changes m = ap (λ (t : Stream). t.left) (c.the_stream_of_a_mutation.ensures.fragments m is) in
    let reads = c.a_mutations_stream_reads_it.ensures.reads c.requires.fits.0 m is c.requires.fits.1 in
    let list : c.as_slice.result.now ≡ fragments m = c.as_slice.ensures ∙ subst (λ r. IfOk r (λ (l : List Frag). l ≡ fragments m)) c.in-Ok.is c.fragments.ensures in
    let S = g.row.S in
    let s = c.args.snap.now in
    let f = c.of-filler.result in
    let h = c.of-filler.result in
    let old = c.args.chains.now in
    let new = c.fill_all.new.home in
    let of : IsFillerOf S s f = (c.of-filler.ensures.chain, c.of-filler.ensures.pin) in
    let did = c.fill_all.ensures.filled.did in
    let still = still-filler S s f h old new of did in
    at-snapshot S (λ id pin. StandsForWrites S new id pin writes) s h still
    (c.fill_all.ensures.stands writes (at-filler S (λ id pin. StandsForWrites S old id pin writes) s f of stands) (subst (SaysAll writes first_position None) (sym list) (says-all m left reads writes same)))

pub returns-in-Ok-clause-known : goal.returns-in-Ok-clause-known
returns-in-Ok-clause-known g c =
    let S = g.row.S in
    let s = c.args.snap.now in
    let f = c.of-filler.result in
    let h = c.of-filler.result in
    let old = c.args.chains.now in
    let new = c.fill_all.new.home in
    let of : IsFillerOf S s f = (c.of-filler.ensures.chain, c.of-filler.ensures.pin) in
    let did = c.fill_all.ensures.filled.did in
    let still = still-filler S s f h old new of did in
    on-also (MayFill old f.filler.chain f.filler.pin → NoneLost (losses old) (losses new) → IsKnownOver (FillerKnows new h.filler) first_position end_position)
    (MayFill old s.chain s.pin → NoneLost (losses old) (losses new) → IsKnownOver (Knows new s) first_position end_position)
    c.fill_all.result c.fill_all.ensures.known
    (λ k may none. at-snapshot S (λ id pin. IsKnownOver (IsKnownAs (kind_in (chain_at new id)) (versions_in (chain_at new id) pin)) first_position end_position) s h still (k (at-filler S (MayFill old) s f of may) none))

pub returns-in-Ok-clause-loses : goal.returns-in-Ok-clause-loses
returns-in-Ok-clause-loses g c = λ schema limits fits.
    let m = c.args.read.now in
    let list : c.as_slice.result.now ≡ fragments m = c.as_slice.ensures ∙ subst (λ r. IfOk r (λ (l : List Frag). l ≡ fragments m)) c.in-Ok.is c.fragments.ensures in
    c.fill_all.ensures.loses (subst FragmentsFit (sym list) (all-fit schema m c.holds_together.ensures limits fits))

pub returns-in-Err-clause-loses : goal.returns-in-Err-clause-loses
returns-in-Err-clause-loses g c = λ schema limits fits. loses-nothing g.row.S c.args.chains.now
