-- The entry is opened by the head of what was read, and what was read is filled into it.
use Rattle.std.proofs.Common.{◌≡◌, ◌∷◌, ◌≤◌, ℕ, [], None, Some, sym, ap, ◌∙◌, subst, arith}
use Rattle.std.specs.Prelude.{All, Contains, IfNone, IfOk, IfSome, Ok, OnErr}
use Rattle.std.proofs.lemmas.List.Elements.{All-cons, All-nil}
use Rattle.rc_mutation.specs.Source.{SameSource, source_at_head, source_at_static}
use Rattle.rc_writes.specs.Allowed.{ChangeFits}
use Rattle.rc_core.specs.Version.{end_position}
use Rattle.rc_memory.specs.Changes.{member_at}
use Rattle.rc_memory.specs.Memory.{HasPin, Memory}
use Rattle.rc_chain.specs.declared.chains.Snap.{Snap}
use Rattle.rc_cached.specs.Evictions.{IsRoomMade}
use Rattle.rc_cached.specs.Filling.{MayFill, filled_statics}
use Rattle.rc_cached.specs.Stands.{HasCacheSnapshot}
use Rattle.rc_stream.specs.Stream.{Stream}
use Rattle.rc_stream.specs.Snapshot.{NoneLost}
use Rattle.rc_row_cache.specs.Found.{entry_number}
use Rattle.rc_row_cache.specs.Crowds.{loses-before}
use Rattle.rc_row_cache.specs.Fillers.{losses}
use Rattle.rc_row_cache.specs.Calls.{IsEnterRefused, IsEntered, IsKeptOut, below_entry}
use Rattle.rc_row_cache.specs.Saying.{CacheSays, phase_pinned}
use Rattle.rc_lookup.specs.Known.{KnowsStaticRow}
use Rattle.rc_lookup.specs.Held.{IsHeldOf, IsHeldWhole}
use Rattle.rc_lookup.specs.Rest.{LeavesBut, LeavesRest}
use Rattle.rc_lookup.specs.calls.Entering.{IsFilledThrough, IsPartlyHeld}
use Rattle.rc_lookup.proofs.Entered.{RoomLaws, entered-apart, entered-but, entered-fresh, entered-listed, entered-statics, kept-out-lost, kept-out-rest, kept-out-skips, refused-rest, rest-made}
use Rattle.rc_lookup.proofs.Fills.{between}
use Rattle.rc_lookup.proofs.Holding.{failed-done, if-held, match-held, never-none, on-failed}
use Rattle.rc_lookup.proofs.Kept.{same-number, same-source}
use Rattle.rc_lookup.proofs.Leaving.{own-below}
use Rattle.rc_lookup.specs.laws.Rest.{but-then}
use Rattle.rc_lookup.proofs.Statics.{statics-fit, statics-small}
use Rattle.rc_lookup.proofs.Staying.{entry-entered, on-done}
use Rattle.rc_lookup.proofs.Turns.{FillLaws}
use Rattle.rc_lookup.proofs.populating.enter_read.Goals as goal

pub enter-requires : goal.enter-requires
enter-requires g c =
    let over = c.requires.over in
    let fit = statics-fit g.row.S over.0 over.2.limits over.2.small c.args.read.now c.holds_together.ensures over.3 in
    let small = statics-small g.row.S over.0 over.2.limits over.2.small c.args.read.now c.holds_together.ensures over.3 in
    (omega arith, (c.requires.entries, (c.requires.absent, (c.requires.roomy, (fit, small)))))

pub fill_held-requires : goal.fill_held-requires
fill_held-requires g c =
    let S = g.row.S in
    let key = c.args.key.now in
    let m = c.args.read.now in
    let phase : ℕ = 0 in
    let old = c.args.chains.now in
    let mid = c.enter.new.chains in
    let es = c.enter.new.self.entries in
    let s = c.in-Ok-Some.snap in
    let is = c.in-Ok-Some.is ∙ ap Ok c.in-Ok-Some.field-0-is in
    let e : IsEntered S key m.pt m.statics phase es old mid s = subst (λ r. IfOk r (λ o. IfSome o (IsEntered S key m.pt m.statics phase es old mid))) is c.enter.ensures.entered in
    let stream = c.the_stream_of_a_mutation.ensures.fragments m c.holds_together.ensures in
    let pt : source_at_head (m ∷ []) ≡ m.pt = sym (c.a_mutations_stream_reads_it.ensures.pt m c.holds_together.ensures) ∙ ap (λ (t : Stream). t.head.pt) stream in
    let statics : source_at_static (m ∷ []) ≡ m.statics = sym (c.a_mutations_stream_reads_it.ensures.statics m c.holds_together.ensures) ∙ ap (λ (t : Stream). t.head.statics) stream in
    let over = c.requires.over in
    let fits : All (ChangeFits over.0) (m ∷ []) = All-cons (ChangeFits over.0) m [] over.3 (All-nil (ChangeFits over.0)) in
    let below = below_entry (entry_number es key) (λ _. m ∷ []) over.1 in
    let says : CacheSays over.0 below mid = c.enter.ensures.says over.0 over.1 (λ _. m ∷ []) fits pt statics over.2.says in
    let h = e.taken.there.0 in
    let here : SameSource (below s.chain (phase_pinned h)) (m ∷ []) = own-below (entry_number es key) s.chain (phase_pinned h) (m ∷ []) over.1 e.taken.entry in
    (omega arith, (c.requires.roomy, ((over.0, over.3), (m ∷ [], c.a_snapshot_stands_for_what_lies_below.ensures.there S over.0 below mid s.chain s.pin h (m ∷ []) over.2.limits over.2.small fits says here, same-source (m ∷ [])))))

pub returns-in-Ok-Some-clause-rest : goal.returns-in-Ok-Some-clause-rest
returns-in-Ok-Some-clause-rest g c =
    let S = g.row.S in
    let key = c.args.key.now in
    let m = c.args.read.now in
    let phase : ℕ = 0 in
    let old = c.args.chains.now in
    let mid = c.enter.new.chains in
    let es = c.enter.new.self.entries in
    let s = c.in-Ok-Some.snap in
    let is = c.in-Ok-Some.is ∙ ap Ok c.in-Ok-Some.field-0-is in
    let e : IsEntered S key m.pt m.statics phase es old mid s = subst (λ r. IfOk r (λ o. IfSome o (IsEntered S key m.pt m.statics phase es old mid))) is c.enter.ensures.entered in
    let fills : FillLaws = record {
      memtable = c.a_fill_spares_memtables_and_readers.ensures.memtable;
      sees = c.a_fill_spares_memtables_and_readers.ensures.sees;
      pins = c.a_fill_spares_memtables_and_readers.ensures.pins;
      told = c.a_fill_spares_memtables_and_readers.ensures.told;
      still = c.a_fill_spares_memtables_and_readers.ensures.still;
      absent = c.a_fill_spares_memtables_and_readers.ensures.absent;
      budget = c.a_fill_takes_no_segment.ensures.budget;
      bytes = c.what_calls_leave_of_memtables.ensures.filled;
      one = c.each_chain_of_the_cache_has_one_version.ensures.filled;
      used = c.chains_of_the_cache_stay_in_use.ensures.filled;
      held = λ size chain of_pin m n done id pin there. (c.each_snapshot_pins_what_it_pinned.ensures.filled (λ _. []) id pin size chain of_pin m n done there).0;
      snapshots = c.what_calls_leave_of_snapshots.ensures.filled;
    } in
    let rooms : RoomLaws = record { bytes = c.what_calls_leave_of_memtables.ensures.made; one = c.each_chain_of_the_cache_has_one_version.ensures.made; used = c.chains_of_the_cache_stay_in_use.ensures.made; held = λ size m n room id pin there. (c.each_snapshot_pins_what_it_pinned.ensures.room (λ _. []) id pin size m n room there).0; snapshots = c.what_calls_leave_of_snapshots.ensures.made } in
    let made : (mid : Memory) → IsRoomMade S old mid → LeavesRest old mid = λ mid. rest-made rooms fills S old mid c.known.ensures.rule in
    let but : LeavesBut s old mid = entered-but S key m.pt m.statics phase es old mid s e (made e.made e.room) c.enter.ensures.seen
    (c.what_calls_leave_of_memtables.ensures.entered S key m.pt m.statics phase es old mid s e)
    (c.each_chain_of_the_cache_has_one_version.ensures.entered S key m.pt m.statics phase es old mid s e)
    (c.chains_of_the_cache_stay_in_use.ensures.entered S key m.pt m.statics phase es old mid s e)
    (λ id pin there. (c.enter.ensures.pins (λ _. []) id pin there).0)
    (c.what_calls_leave_of_snapshots.ensures.entered S key m.pt m.statics phase es old mid s e) in
    let new = c.fill_held.new.chains in
    let kept : Snap → Type 0 = λ x. (x ≡ s) × IsFilledThrough S s mid new in
    match-held kept (λ x. LeavesBut x old new) ⊥ (LeavesRest old new) c.fill_held.result
    (λ x k. subst (λ (y : Snap). LeavesBut y old new) (sym k.0) (but-then s old mid new but k.1.rest)) (λ no. absurd no) c.fill_held.ensures.through (never-none ⊥ c.fill_held.result c.fill_held.ensures.some)

pub returns-in-Ok-Some-clause-rest_err : goal.returns-in-Ok-Some-clause-rest_err
returns-in-Ok-Some-clause-rest_err g c =
    let S = g.row.S in
    let key = c.args.key.now in
    let m = c.args.read.now in
    let phase : ℕ = 0 in
    let old = c.args.chains.now in
    let mid = c.enter.new.chains in
    let es = c.enter.new.self.entries in
    let s = c.in-Ok-Some.snap in
    let is = c.in-Ok-Some.is ∙ ap Ok c.in-Ok-Some.field-0-is in
    let e : IsEntered S key m.pt m.statics phase es old mid s = subst (λ r. IfOk r (λ o. IfSome o (IsEntered S key m.pt m.statics phase es old mid))) is c.enter.ensures.entered in
    let fills : FillLaws = record {
      memtable = c.a_fill_spares_memtables_and_readers.ensures.memtable;
      sees = c.a_fill_spares_memtables_and_readers.ensures.sees;
      pins = c.a_fill_spares_memtables_and_readers.ensures.pins;
      told = c.a_fill_spares_memtables_and_readers.ensures.told;
      still = c.a_fill_spares_memtables_and_readers.ensures.still;
      absent = c.a_fill_spares_memtables_and_readers.ensures.absent;
      budget = c.a_fill_takes_no_segment.ensures.budget;
      bytes = c.what_calls_leave_of_memtables.ensures.filled;
      one = c.each_chain_of_the_cache_has_one_version.ensures.filled;
      used = c.chains_of_the_cache_stay_in_use.ensures.filled;
      held = λ size chain of_pin m n done id pin there. (c.each_snapshot_pins_what_it_pinned.ensures.filled (λ _. []) id pin size chain of_pin m n done there).0;
      snapshots = c.what_calls_leave_of_snapshots.ensures.filled;
    } in
    let rooms : RoomLaws = record { bytes = c.what_calls_leave_of_memtables.ensures.made; one = c.each_chain_of_the_cache_has_one_version.ensures.made; used = c.chains_of_the_cache_stay_in_use.ensures.made; held = λ size m n room id pin there. (c.each_snapshot_pins_what_it_pinned.ensures.room (λ _. []) id pin size m n room there).0; snapshots = c.what_calls_leave_of_snapshots.ensures.made } in
    let made : (mid : Memory) → IsRoomMade S old mid → LeavesRest old mid = λ mid. rest-made rooms fills S old mid c.known.ensures.rule in
    let but : LeavesBut s old mid = entered-but S key m.pt m.statics phase es old mid s e (made e.made e.room) c.enter.ensures.seen
    (c.what_calls_leave_of_memtables.ensures.entered S key m.pt m.statics phase es old mid s e)
    (c.each_chain_of_the_cache_has_one_version.ensures.entered S key m.pt m.statics phase es old mid s e)
    (c.chains_of_the_cache_stay_in_use.ensures.entered S key m.pt m.statics phase es old mid s e)
    (λ id pin there. (c.enter.ensures.pins (λ _. []) id pin there).0)
    (c.what_calls_leave_of_snapshots.ensures.entered S key m.pt m.statics phase es old mid s e) in
    let new = c.fill_held.new.chains in
    let kept : Snap → Type 0 = λ x. (x ≡ s) × IsFilledThrough S s mid new in
    on-failed ((before : Memory) → LeavesBut s before mid → (HasPin before s.chain s.pin → ⊥) → LeavesRest before new) (LeavesRest old new) c.fill_held.result (λ f. f old but (entered-fresh S key m.pt m.statics phase es old mid s e (made e.made e.room))) c.fill_held.ensures.rest_err

pub returns-in-Ok-Some-clause-taken : goal.returns-in-Ok-Some-clause-taken
returns-in-Ok-Some-clause-taken g c =
    let S = g.row.S in
    let key = c.args.key.now in
    let m = c.args.read.now in
    let phase : ℕ = 0 in
    let old = c.args.chains.now in
    let mid = c.enter.new.chains in
    let es = c.enter.new.self.entries in
    let s = c.in-Ok-Some.snap in
    let is = c.in-Ok-Some.is ∙ ap Ok c.in-Ok-Some.field-0-is in
    let e : IsEntered S key m.pt m.statics phase es old mid s = subst (λ r. IfOk r (λ o. IfSome o (IsEntered S key m.pt m.statics phase es old mid))) is c.enter.ensures.entered in
    let fills : FillLaws = record {
      memtable = c.a_fill_spares_memtables_and_readers.ensures.memtable;
      sees = c.a_fill_spares_memtables_and_readers.ensures.sees;
      pins = c.a_fill_spares_memtables_and_readers.ensures.pins;
      told = c.a_fill_spares_memtables_and_readers.ensures.told;
      still = c.a_fill_spares_memtables_and_readers.ensures.still;
      absent = c.a_fill_spares_memtables_and_readers.ensures.absent;
      budget = c.a_fill_takes_no_segment.ensures.budget;
      bytes = c.what_calls_leave_of_memtables.ensures.filled;
      one = c.each_chain_of_the_cache_has_one_version.ensures.filled;
      used = c.chains_of_the_cache_stay_in_use.ensures.filled;
      held = λ size chain of_pin m n done id pin there. (c.each_snapshot_pins_what_it_pinned.ensures.filled (λ _. []) id pin size chain of_pin m n done there).0;
      snapshots = c.what_calls_leave_of_snapshots.ensures.filled;
    } in
    let rooms : RoomLaws = record { bytes = c.what_calls_leave_of_memtables.ensures.made; one = c.each_chain_of_the_cache_has_one_version.ensures.made; used = c.chains_of_the_cache_stay_in_use.ensures.made; held = λ size m n room id pin there. (c.each_snapshot_pins_what_it_pinned.ensures.room (λ _. []) id pin size m n room there).0; snapshots = c.what_calls_leave_of_snapshots.ensures.made } in
    let made : (mid : Memory) → IsRoomMade S old mid → LeavesRest old mid = λ mid. rest-made rooms fills S old mid c.known.ensures.rule in
    let but : LeavesBut s old mid = entered-but S key m.pt m.statics phase es old mid s e (made e.made e.room) c.enter.ensures.seen
    (c.what_calls_leave_of_memtables.ensures.entered S key m.pt m.statics phase es old mid s e)
    (c.each_chain_of_the_cache_has_one_version.ensures.entered S key m.pt m.statics phase es old mid s e)
    (c.chains_of_the_cache_stay_in_use.ensures.entered S key m.pt m.statics phase es old mid s e)
    (λ id pin there. (c.enter.ensures.pins (λ _. []) id pin there).0)
    (c.what_calls_leave_of_snapshots.ensures.entered S key m.pt m.statics phase es old mid s e) in
    let new = c.fill_held.new.chains in
    let kept : Snap → Type 0 = λ x. (x ≡ s) × IsFilledThrough S s mid new in
    if-held kept (IsHeldOf key es old new) c.fill_held.result
    (λ x k. subst (IsHeldOf key es old new) (sym k.0) (record { entry = e.taken.entry; there = k.1.rest.pins s.chain s.pin e.taken.there.0; fresh = (entered-fresh S key m.pt m.statics phase es old mid s e (made e.made e.room)) })) c.fill_held.ensures.through

pub returns-in-Ok-Some-clause-apart : goal.returns-in-Ok-Some-clause-apart
returns-in-Ok-Some-clause-apart g c =
    let S = g.row.S in
    let key = c.args.key.now in
    let m = c.args.read.now in
    let phase : ℕ = 0 in
    let old = c.args.chains.now in
    let mid = c.enter.new.chains in
    let es = c.enter.new.self.entries in
    let s = c.in-Ok-Some.snap in
    let is = c.in-Ok-Some.is ∙ ap Ok c.in-Ok-Some.field-0-is in
    let e : IsEntered S key m.pt m.statics phase es old mid s = subst (λ r. IfOk r (λ o. IfSome o (IsEntered S key m.pt m.statics phase es old mid))) is c.enter.ensures.entered in
    let fills : FillLaws = record {
      memtable = c.a_fill_spares_memtables_and_readers.ensures.memtable;
      sees = c.a_fill_spares_memtables_and_readers.ensures.sees;
      pins = c.a_fill_spares_memtables_and_readers.ensures.pins;
      told = c.a_fill_spares_memtables_and_readers.ensures.told;
      still = c.a_fill_spares_memtables_and_readers.ensures.still;
      absent = c.a_fill_spares_memtables_and_readers.ensures.absent;
      budget = c.a_fill_takes_no_segment.ensures.budget;
      bytes = c.what_calls_leave_of_memtables.ensures.filled;
      one = c.each_chain_of_the_cache_has_one_version.ensures.filled;
      used = c.chains_of_the_cache_stay_in_use.ensures.filled;
      held = λ size chain of_pin m n done id pin there. (c.each_snapshot_pins_what_it_pinned.ensures.filled (λ _. []) id pin size chain of_pin m n done there).0;
      snapshots = c.what_calls_leave_of_snapshots.ensures.filled;
    } in
    let rooms : RoomLaws = record { bytes = c.what_calls_leave_of_memtables.ensures.made; one = c.each_chain_of_the_cache_has_one_version.ensures.made; used = c.chains_of_the_cache_stay_in_use.ensures.made; held = λ size m n room id pin there. (c.each_snapshot_pins_what_it_pinned.ensures.room (λ _. []) id pin size m n room there).0; snapshots = c.what_calls_leave_of_snapshots.ensures.made } in
    let made : (mid : Memory) → IsRoomMade S old mid → LeavesRest old mid = λ mid. rest-made rooms fills S old mid c.known.ensures.rule in
    let but : LeavesBut s old mid = entered-but S key m.pt m.statics phase es old mid s e (made e.made e.room) c.enter.ensures.seen
    (c.what_calls_leave_of_memtables.ensures.entered S key m.pt m.statics phase es old mid s e)
    (c.each_chain_of_the_cache_has_one_version.ensures.entered S key m.pt m.statics phase es old mid s e)
    (c.chains_of_the_cache_stay_in_use.ensures.entered S key m.pt m.statics phase es old mid s e)
    (λ id pin there. (c.enter.ensures.pins (λ _. []) id pin there).0)
    (c.what_calls_leave_of_snapshots.ensures.entered S key m.pt m.statics phase es old mid s e) in
    let new = c.fill_held.new.chains in
    let kept : Snap → Type 0 = λ x. (x ≡ s) × IsFilledThrough S s mid new in
    if-held kept (λ x. (pin : ℕ) → HasCacheSnapshot old x.chain pin → ⊥) c.fill_held.result
    (λ x k. subst (λ (y : Snap). (pin : ℕ) → HasCacheSnapshot old y.chain pin → ⊥) (sym k.0) (entered-apart S key m.pt m.statics phase es old mid s e (made e.made e.room))) c.fill_held.ensures.through

pub returns-in-Ok-Some-clause-apart_err : goal.returns-in-Ok-Some-clause-apart_err
returns-in-Ok-Some-clause-apart_err g c =
    let S = g.row.S in
    let key = c.args.key.now in
    let m = c.args.read.now in
    let phase : ℕ = 0 in
    let old = c.args.chains.now in
    let mid = c.enter.new.chains in
    let es = c.enter.new.self.entries in
    let s = c.in-Ok-Some.snap in
    let is = c.in-Ok-Some.is ∙ ap Ok c.in-Ok-Some.field-0-is in
    let e : IsEntered S key m.pt m.statics phase es old mid s = subst (λ r. IfOk r (λ o. IfSome o (IsEntered S key m.pt m.statics phase es old mid))) is c.enter.ensures.entered in
    let fills : FillLaws = record {
      memtable = c.a_fill_spares_memtables_and_readers.ensures.memtable;
      sees = c.a_fill_spares_memtables_and_readers.ensures.sees;
      pins = c.a_fill_spares_memtables_and_readers.ensures.pins;
      told = c.a_fill_spares_memtables_and_readers.ensures.told;
      still = c.a_fill_spares_memtables_and_readers.ensures.still;
      absent = c.a_fill_spares_memtables_and_readers.ensures.absent;
      budget = c.a_fill_takes_no_segment.ensures.budget;
      bytes = c.what_calls_leave_of_memtables.ensures.filled;
      one = c.each_chain_of_the_cache_has_one_version.ensures.filled;
      used = c.chains_of_the_cache_stay_in_use.ensures.filled;
      held = λ size chain of_pin m n done id pin there. (c.each_snapshot_pins_what_it_pinned.ensures.filled (λ _. []) id pin size chain of_pin m n done there).0;
      snapshots = c.what_calls_leave_of_snapshots.ensures.filled;
    } in
    let rooms : RoomLaws = record { bytes = c.what_calls_leave_of_memtables.ensures.made; one = c.each_chain_of_the_cache_has_one_version.ensures.made; used = c.chains_of_the_cache_stay_in_use.ensures.made; held = λ size m n room id pin there. (c.each_snapshot_pins_what_it_pinned.ensures.room (λ _. []) id pin size m n room there).0; snapshots = c.what_calls_leave_of_snapshots.ensures.made } in
    let made : (mid : Memory) → IsRoomMade S old mid → LeavesRest old mid = λ mid. rest-made rooms fills S old mid c.known.ensures.rule in
    let but : LeavesBut s old mid = entered-but S key m.pt m.statics phase es old mid s e (made e.made e.room) c.enter.ensures.seen
    (c.what_calls_leave_of_memtables.ensures.entered S key m.pt m.statics phase es old mid s e)
    (c.each_chain_of_the_cache_has_one_version.ensures.entered S key m.pt m.statics phase es old mid s e)
    (c.chains_of_the_cache_stay_in_use.ensures.entered S key m.pt m.statics phase es old mid s e)
    (λ id pin there. (c.enter.ensures.pins (λ _. []) id pin there).0)
    (c.what_calls_leave_of_snapshots.ensures.entered S key m.pt m.statics phase es old mid s e) in
    let new = c.fill_held.new.chains in
    let kept : Snap → Type 0 = λ x. (x ≡ s) × IsFilledThrough S s mid new in
    failed-done c.fill_held.result ((id pin : ℕ) → entry_number es key ≡ Some id → HasCacheSnapshot old id pin → ⊥)
    (λ id pin found there. (entered-apart S key m.pt m.statics phase es old mid s e (made e.made e.room)) pin (subst (λ i. HasCacheSnapshot old i pin) (same-number id s.chain (sym found ∙ e.taken.entry)) there))

pub returns-in-Ok-Some-clause-absent : goal.returns-in-Ok-Some-clause-absent
returns-in-Ok-Some-clause-absent g c = never-none (entry_number c.enter.new.self.entries c.args.key.now ≡ None) c.fill_held.result c.fill_held.ensures.some

pub returns-in-Ok-Some-clause-entries : goal.returns-in-Ok-Some-clause-entries
returns-in-Ok-Some-clause-entries g c = c.what_leaves_the_caches_chains_leaves_the_entries.ensures.entries c.enter.new.self.entries c.enter.new.chains c.fill_held.new.chains c.fill_held.ensures.cached c.enter.ensures.entries

pub returns-in-Ok-Some-clause-says : goal.returns-in-Ok-Some-clause-says
returns-in-Ok-Some-clause-says g c = λ schema below writes over fits same.
    let S = g.row.S in
    let key = c.args.key.now in
    let m = c.args.read.now in
    let phase : ℕ = 0 in
    let old = c.args.chains.now in
    let mid = c.enter.new.chains in
    let es = c.enter.new.self.entries in
    let s = c.in-Ok-Some.snap in
    let is = c.in-Ok-Some.is ∙ ap Ok c.in-Ok-Some.field-0-is in
    let e : IsEntered S key m.pt m.statics phase es old mid s = subst (λ r. IfOk r (λ o. IfSome o (IsEntered S key m.pt m.statics phase es old mid))) is c.enter.ensures.entered in
    let stream = c.the_stream_of_a_mutation.ensures.fragments m c.holds_together.ensures in
    let pt : source_at_head (m ∷ []) ≡ m.pt = sym (c.a_mutations_stream_reads_it.ensures.pt m c.holds_together.ensures) ∙ ap (λ (t : Stream). t.head.pt) stream in
    let statics : source_at_static (m ∷ []) ≡ m.statics = sym (c.a_mutations_stream_reads_it.ensures.statics m c.holds_together.ensures) ∙ ap (λ (t : Stream). t.head.statics) stream in
    let now = below_entry (entry_number es key) (λ _. writes) below in
    let says : CacheSays schema now mid = c.enter.ensures.says schema below (λ _. writes) fits (sym same.head ∙ pt) (sym same.statics ∙ statics) over.says in
    let h = e.taken.there.0 in
    let here : SameSource (now s.chain (phase_pinned h)) writes = own-below (entry_number es key) s.chain (phase_pinned h) writes below e.taken.entry in
    c.fill_held.ensures.says schema now h writes fits (c.a_snapshot_stands_for_what_lies_below.ensures.there S schema now mid s.chain s.pin h writes over.limits over.small fits says here) same here says

pub returns-in-Ok-Some-clause-whole : goal.returns-in-Ok-Some-clause-whole
returns-in-Ok-Some-clause-whole g c =
    let S = g.row.S in
    let key = c.args.key.now in
    let m = c.args.read.now in
    let phase : ℕ = 0 in
    let old = c.args.chains.now in
    let mid = c.enter.new.chains in
    let es = c.enter.new.self.entries in
    let s = c.in-Ok-Some.snap in
    let is = c.in-Ok-Some.is ∙ ap Ok c.in-Ok-Some.field-0-is in
    let e : IsEntered S key m.pt m.statics phase es old mid s = subst (λ r. IfOk r (λ o. IfSome o (IsEntered S key m.pt m.statics phase es old mid))) is c.enter.ensures.entered in
    let fills : FillLaws = record {
      memtable = c.a_fill_spares_memtables_and_readers.ensures.memtable;
      sees = c.a_fill_spares_memtables_and_readers.ensures.sees;
      pins = c.a_fill_spares_memtables_and_readers.ensures.pins;
      told = c.a_fill_spares_memtables_and_readers.ensures.told;
      still = c.a_fill_spares_memtables_and_readers.ensures.still;
      absent = c.a_fill_spares_memtables_and_readers.ensures.absent;
      budget = c.a_fill_takes_no_segment.ensures.budget;
      bytes = c.what_calls_leave_of_memtables.ensures.filled;
      one = c.each_chain_of_the_cache_has_one_version.ensures.filled;
      used = c.chains_of_the_cache_stay_in_use.ensures.filled;
      held = λ size chain of_pin m n done id pin there. (c.each_snapshot_pins_what_it_pinned.ensures.filled (λ _. []) id pin size chain of_pin m n done there).0;
      snapshots = c.what_calls_leave_of_snapshots.ensures.filled;
    } in
    let rooms : RoomLaws = record { bytes = c.what_calls_leave_of_memtables.ensures.made; one = c.each_chain_of_the_cache_has_one_version.ensures.made; used = c.chains_of_the_cache_stay_in_use.ensures.made; held = λ size m n room id pin there. (c.each_snapshot_pins_what_it_pinned.ensures.room (λ _. []) id pin size m n room there).0; snapshots = c.what_calls_leave_of_snapshots.ensures.made } in
    let made : (mid : Memory) → IsRoomMade S old mid → LeavesRest old mid = λ mid. rest-made rooms fills S old mid c.known.ensures.rule in
    let but : LeavesBut s old mid = entered-but S key m.pt m.statics phase es old mid s e (made e.made e.room) c.enter.ensures.seen
    (c.what_calls_leave_of_memtables.ensures.entered S key m.pt m.statics phase es old mid s e)
    (c.each_chain_of_the_cache_has_one_version.ensures.entered S key m.pt m.statics phase es old mid s e)
    (c.chains_of_the_cache_stay_in_use.ensures.entered S key m.pt m.statics phase es old mid s e)
    (λ id pin there. (c.enter.ensures.pins (λ _. []) id pin there).0)
    (c.what_calls_leave_of_snapshots.ensures.entered S key m.pt m.statics phase es old mid s e) in
    let new = c.fill_held.new.chains in
    let may : MayFill mid s.chain s.pin = subst (λ r. IfOk r (λ o. IfSome o (λ (x : Snap). MayFill mid x.chain x.pin))) is c.enter.ensures.may in
    let statics : KnowsStaticRow mid s = entered-statics S key m.pt m.statics phase es old mid s e (made e.made e.room) (c.an_opened_chain_says_what_is_handed_in.ensures.known m.pt (filled_statics m.statics) phase) in
    let listed : Contains mid.recency (member_at s.chain 0 (Some end_position)) = entered-listed S key m.pt m.statics phase es old mid s e (made e.made e.room) in
    match-held (λ x. IsPartlyHeld mid s → NoneLost (losses mid) (losses new) → IsHeldWhole new x) (λ x. NoneLost (losses old) (losses new) → IsHeldWhole new x) ⊥ (NoneLost (losses old) (losses new) → ⊥) c.fill_held.result
    (λ x k none.
    let evicted = but.counts.evicted in
    let skipped = but.counts.skipped in
    let less : losses old ≤ losses mid = omega (arith, evicted, skipped) in
    k (record { statics = statics; may = may; listed = listed }) (between (losses old) (losses mid) (losses new) less c.fill_held.ensures.lost none).1)
    (λ no. absurd no) c.fill_held.ensures.whole (never-none ⊥ c.fill_held.result c.fill_held.ensures.some)

pub returns-in-Ok-None-clause-rest : goal.returns-in-Ok-None-clause-rest
returns-in-Ok-None-clause-rest g c =
    let S = g.row.S in
    let key = c.args.key.now in
    let m = c.args.read.now in
    let phase : ℕ = 0 in
    let old = c.args.chains.now in
    let mid = c.enter.new.chains in
    let es = c.enter.new.self.entries in
    let fills : FillLaws = record {
      memtable = c.a_fill_spares_memtables_and_readers.ensures.memtable;
      sees = c.a_fill_spares_memtables_and_readers.ensures.sees;
      pins = c.a_fill_spares_memtables_and_readers.ensures.pins;
      told = c.a_fill_spares_memtables_and_readers.ensures.told;
      still = c.a_fill_spares_memtables_and_readers.ensures.still;
      absent = c.a_fill_spares_memtables_and_readers.ensures.absent;
      budget = c.a_fill_takes_no_segment.ensures.budget;
      bytes = c.what_calls_leave_of_memtables.ensures.filled;
      one = c.each_chain_of_the_cache_has_one_version.ensures.filled;
      used = c.chains_of_the_cache_stay_in_use.ensures.filled;
      held = λ size chain of_pin m n done id pin there. (c.each_snapshot_pins_what_it_pinned.ensures.filled (λ _. []) id pin size chain of_pin m n done there).0;
      snapshots = c.what_calls_leave_of_snapshots.ensures.filled;
    } in
    let rooms : RoomLaws = record { bytes = c.what_calls_leave_of_memtables.ensures.made; one = c.each_chain_of_the_cache_has_one_version.ensures.made; used = c.chains_of_the_cache_stay_in_use.ensures.made; held = λ size m n room id pin there. (c.each_snapshot_pins_what_it_pinned.ensures.room (λ _. []) id pin size m n room there).0; snapshots = c.what_calls_leave_of_snapshots.ensures.made } in
    let made : (mid : Memory) → IsRoomMade S old mid → LeavesRest old mid = λ mid. rest-made rooms fills S old mid c.known.ensures.rule in
    let out : IsKeptOut S old mid = (subst (λ r. IfOk r (λ o. IfNone o ((entry_number es key ≡ None) × IsKeptOut S old mid))) (c.in-Ok-None.is ∙ ap Ok c.in-Ok-None.field-0-is) c.enter.ensures.kept_out).1 in
    kept-out-rest S old mid c.counts_in_range.ensures out (made out.0 out.1)

pub returns-in-Ok-None-clause-whole : goal.returns-in-Ok-None-clause-whole
returns-in-Ok-None-clause-whole g c = λ none.
    let S = g.row.S in
    let key = c.args.key.now in
    let m = c.args.read.now in
    let phase : ℕ = 0 in
    let old = c.args.chains.now in
    let mid = c.enter.new.chains in
    let es = c.enter.new.self.entries in
    let out : IsKeptOut S old mid = (subst (λ r. IfOk r (λ o. IfNone o ((entry_number es key ≡ None) × IsKeptOut S old mid))) (c.in-Ok-None.is ∙ ap Ok c.in-Ok-None.field-0-is) c.enter.ensures.kept_out).1 in
    kept-out-lost S old mid c.counts_in_range.ensures out none

pub returns-in-Ok-None-clause-skips : goal.returns-in-Ok-None-clause-skips
returns-in-Ok-None-clause-skips g c = λ none.
    let S = g.row.S in
    let old = c.args.chains.now in
    let mid = c.enter.new.chains in
    let es = c.enter.new.self.entries in
    let out : IsKeptOut S old mid = (subst (λ r. IfOk r (λ o. IfNone o ((entry_number es c.args.key.now ≡ None) × IsKeptOut S old mid))) (c.in-Ok-None.is ∙ ap Ok c.in-Ok-None.field-0-is) c.enter.ensures.kept_out).1 in
    kept-out-skips S old mid c.counts_in_range.ensures out none

pub returns-in-Ok-Some-clause-skips : goal.returns-in-Ok-Some-clause-skips
returns-in-Ok-Some-clause-skips g c = never-none (NoneLost c.args.chains.now.counts.skipped c.fill_held.new.chains.counts.skipped → ⊥) c.fill_held.result c.fill_held.ensures.some

pub returns-in-Ok-None-clause-absent : goal.returns-in-Ok-None-clause-absent
returns-in-Ok-None-clause-absent g c =
    let old = c.args.chains.now in
    let mid = c.enter.new.chains in
    let es = c.enter.new.self.entries in
    (subst (λ r. IfOk r (λ o. IfNone o ((entry_number es c.args.key.now ≡ None) × IsKeptOut g.row.S old mid))) (c.in-Ok-None.is ∙ ap Ok c.in-Ok-None.field-0-is) c.enter.ensures.kept_out).0

pub returns-in-Ok-None-clause-says : goal.returns-in-Ok-None-clause-says
returns-in-Ok-None-clause-says g c = λ schema below writes over fits same.
    let S = g.row.S in
    let key = c.args.key.now in
    let m = c.args.read.now in
    let phase : ℕ = 0 in
    let old = c.args.chains.now in
    let mid = c.enter.new.chains in
    let es = c.enter.new.self.entries in
    let stream = c.the_stream_of_a_mutation.ensures.fragments m c.holds_together.ensures in
    let pt : source_at_head (m ∷ []) ≡ m.pt = sym (c.a_mutations_stream_reads_it.ensures.pt m c.holds_together.ensures) ∙ ap (λ (t : Stream). t.head.pt) stream in
    let statics : source_at_static (m ∷ []) ≡ m.statics = sym (c.a_mutations_stream_reads_it.ensures.statics m c.holds_together.ensures) ∙ ap (λ (t : Stream). t.head.statics) stream in
    c.enter.ensures.says schema below (λ _. writes) fits (sym same.head ∙ pt) (sym same.statics ∙ statics) over.says

pub returns-in-Err-clause-rest_err : goal.returns-in-Err-clause-rest_err
returns-in-Err-clause-rest_err g c =
    let S = g.row.S in
    let key = c.args.key.now in
    let m = c.args.read.now in
    let phase : ℕ = 0 in
    let old = c.args.chains.now in
    let mid = c.enter.new.chains in
    let es = c.enter.new.self.entries in
    let fills : FillLaws = record {
      memtable = c.a_fill_spares_memtables_and_readers.ensures.memtable;
      sees = c.a_fill_spares_memtables_and_readers.ensures.sees;
      pins = c.a_fill_spares_memtables_and_readers.ensures.pins;
      told = c.a_fill_spares_memtables_and_readers.ensures.told;
      still = c.a_fill_spares_memtables_and_readers.ensures.still;
      absent = c.a_fill_spares_memtables_and_readers.ensures.absent;
      budget = c.a_fill_takes_no_segment.ensures.budget;
      bytes = c.what_calls_leave_of_memtables.ensures.filled;
      one = c.each_chain_of_the_cache_has_one_version.ensures.filled;
      used = c.chains_of_the_cache_stay_in_use.ensures.filled;
      held = λ size chain of_pin m n done id pin there. (c.each_snapshot_pins_what_it_pinned.ensures.filled (λ _. []) id pin size chain of_pin m n done there).0;
      snapshots = c.what_calls_leave_of_snapshots.ensures.filled;
    } in
    let rooms : RoomLaws = record { bytes = c.what_calls_leave_of_memtables.ensures.made; one = c.each_chain_of_the_cache_has_one_version.ensures.made; used = c.chains_of_the_cache_stay_in_use.ensures.made; held = λ size m n room id pin there. (c.each_snapshot_pins_what_it_pinned.ensures.room (λ _. []) id pin size m n room there).0; snapshots = c.what_calls_leave_of_snapshots.ensures.made } in
    let made : (mid : Memory) → IsRoomMade S old mid → LeavesRest old mid = λ mid. rest-made rooms fills S old mid c.known.ensures.rule in
    let refused : IsEnterRefused S m.pt m.statics phase old mid = subst (λ r. OnErr r (IsEnterRefused S m.pt m.statics phase old mid)) c.in-Err.is c.enter.ensures.refused in
    refused-rest S m.pt m.statics phase old mid refused made c.enter.ensures.seen
    (c.what_calls_leave_of_memtables.ensures.enter_refused S m.pt m.statics phase old mid refused)
    (c.each_chain_of_the_cache_has_one_version.ensures.enter_refused S m.pt m.statics phase old mid refused)
    (c.chains_of_the_cache_stay_in_use.ensures.enter_refused S m.pt m.statics phase old mid refused)
    (λ id pin there. (c.enter.ensures.pins (λ _. []) id pin there).0)
    (c.what_calls_leave_of_snapshots.ensures.enter_refused S m.pt m.statics phase old mid refused)

pub returns-in-Err-clause-says : goal.returns-in-Err-clause-says
returns-in-Err-clause-says g c = λ schema below writes over fits same.
    let S = g.row.S in
    let key = c.args.key.now in
    let m = c.args.read.now in
    let phase : ℕ = 0 in
    let old = c.args.chains.now in
    let mid = c.enter.new.chains in
    let es = c.enter.new.self.entries in
    let stream = c.the_stream_of_a_mutation.ensures.fragments m c.holds_together.ensures in
    let pt : source_at_head (m ∷ []) ≡ m.pt = sym (c.a_mutations_stream_reads_it.ensures.pt m c.holds_together.ensures) ∙ ap (λ (t : Stream). t.head.pt) stream in
    let statics : source_at_static (m ∷ []) ≡ m.statics = sym (c.a_mutations_stream_reads_it.ensures.statics m c.holds_together.ensures) ∙ ap (λ (t : Stream). t.head.statics) stream in
    c.enter.ensures.says schema below (λ _. writes) fits (sym same.head ∙ pt) (sym same.statics ∙ statics) over.says

-- ---- what stays

pub returns-in-Ok-Some-clause-stays : goal.returns-in-Ok-Some-clause-stays
returns-in-Ok-Some-clause-stays g c =
    let S = g.row.S in
    let key = c.args.key.now in
    let m = c.args.read.now in
    let phase : ℕ = 0 in
    let old = c.args.chains.now in
    let mid = c.enter.new.chains in
    let es = c.enter.new.self.entries in
    let s = c.in-Ok-Some.snap in
    let is = c.in-Ok-Some.is ∙ ap Ok c.in-Ok-Some.field-0-is in
    let e : IsEntered S key m.pt m.statics phase es old mid s = subst (λ r. IfOk r (λ o. IfSome o (IsEntered S key m.pt m.statics phase es old mid))) is c.enter.ensures.entered in
    let fills : FillLaws = record {
      memtable = c.a_fill_spares_memtables_and_readers.ensures.memtable;
      sees = c.a_fill_spares_memtables_and_readers.ensures.sees;
      pins = c.a_fill_spares_memtables_and_readers.ensures.pins;
      told = c.a_fill_spares_memtables_and_readers.ensures.told;
      still = c.a_fill_spares_memtables_and_readers.ensures.still;
      absent = c.a_fill_spares_memtables_and_readers.ensures.absent;
      budget = c.a_fill_takes_no_segment.ensures.budget;
      bytes = c.what_calls_leave_of_memtables.ensures.filled;
      one = c.each_chain_of_the_cache_has_one_version.ensures.filled;
      used = c.chains_of_the_cache_stay_in_use.ensures.filled;
      held = λ size chain of_pin m n done id pin there. (c.each_snapshot_pins_what_it_pinned.ensures.filled (λ _. []) id pin size chain of_pin m n done there).0;
      snapshots = c.what_calls_leave_of_snapshots.ensures.filled;
    } in
    let rooms : RoomLaws = record { bytes = c.what_calls_leave_of_memtables.ensures.made; one = c.each_chain_of_the_cache_has_one_version.ensures.made; used = c.chains_of_the_cache_stay_in_use.ensures.made; held = λ size m n room id pin there. (c.each_snapshot_pins_what_it_pinned.ensures.room (λ _. []) id pin size m n room there).0; snapshots = c.what_calls_leave_of_snapshots.ensures.made } in
    let made : (mid : Memory) → IsRoomMade S old mid → LeavesRest old mid = λ mid. rest-made rooms fills S old mid c.known.ensures.rule in
    let but : LeavesBut s old mid = entered-but S key m.pt m.statics phase es old mid s e (made e.made e.room) c.enter.ensures.seen
    (c.what_calls_leave_of_memtables.ensures.entered S key m.pt m.statics phase es old mid s e)
    (c.each_chain_of_the_cache_has_one_version.ensures.entered S key m.pt m.statics phase es old mid s e)
    (c.chains_of_the_cache_stay_in_use.ensures.entered S key m.pt m.statics phase es old mid s e)
    (λ id pin there. (c.enter.ensures.pins (λ _. []) id pin there).0)
    (c.what_calls_leave_of_snapshots.ensures.entered S key m.pt m.statics phase es old mid s e) in
    let new = c.fill_held.new.chains in
    let now = c.what_leaves_the_caches_chains_leaves_the_entries.ensures.entries es mid new c.fill_held.ensures.cached c.enter.ensures.entries in
    let less : losses old ≤ losses mid = omega (arith, but.counts.evicted, but.counts.skipped) in
    on-done c.fill_held.result _
    (entry-entered S key m.pt m.statics phase es old mid new s e (made e.made e.room) c.counts_in_range.ensures less c.fill_held.ensures.lost c.fill_held.ensures.beside
    c.args.cache.now.entries c.requires.entries now c.enter.ensures.others)

pub returns-in-Ok-None-clause-stays : goal.returns-in-Ok-None-clause-stays
returns-in-Ok-None-clause-stays g c = λ none.
    let S = g.row.S in
    let key = c.args.key.now in
    let m = c.args.read.now in
    let phase : ℕ = 0 in
    let old = c.args.chains.now in
    let mid = c.enter.new.chains in
    let es = c.enter.new.self.entries in
    let out : IsKeptOut S old mid = (subst (λ r. IfOk r (λ o. IfNone o ((entry_number es key ≡ None) × IsKeptOut S old mid))) (c.in-Ok-None.is ∙ ap Ok c.in-Ok-None.field-0-is) c.enter.ensures.kept_out).1 in
    absurd (kept-out-lost S old mid c.counts_in_range.ensures out none)

-- ---- what is lost

pub returns-in-Ok-Some-clause-loses : goal.returns-in-Ok-Some-clause-loses
returns-in-Ok-Some-clause-loses g c = let over = c.requires.over in loses-before g.row.S 1 c.args.chains.now c.enter.new.chains c.fill_held.new.chains c.enter.ensures.loses (c.fill_held.ensures.loses over.0 over.2.limits over.3)

pub returns-in-Ok-None-clause-loses : goal.returns-in-Ok-None-clause-loses
returns-in-Ok-None-clause-loses g c = c.enter.ensures.loses

pub returns-in-Err-clause-loses : goal.returns-in-Err-clause-loses
returns-in-Err-clause-loses g c = c.enter.ensures.loses

-- ---- snapshots of the new chain

pub returns-in-Err-clause-apart_err : goal.returns-in-Err-clause-apart_err
returns-in-Err-clause-apart_err g c =
    subst (λ r. OnErr r ((id pin : ℕ) → entry_number c.enter.new.self.entries c.args.key.now ≡ Some id → HasCacheSnapshot c.args.chains.now id pin → ⊥)) c.in-Err.is c.enter.ensures.apart
