-- The snapshots see what was written; where memory is refused they are given back.
use Rattle.rc_schema.specs.SchemaValue.{SchemaValue}
use Rattle.rc_memory.specs.Memory.{HasPin}
use Rattle.rc_chain.specs.declared.chains.Snap.{Snap}
use Rattle.rc_mutation.specs.Source.{changes_to}
use Rattle.rc_snapshots.specs.Seeing.{AreThere}
use Rattle.rc_snapshots.specs.laws.Seeing.{all-see}
use Rattle.rc_lookup.specs.Readers.{IsNoneOf}
use Rattle.rc_shard.specs.calls.Caching.{KeepsCache}
use Rattle.rc_shard.specs.calls.Looking.{source_snap}
use Rattle.rc_shard.specs.calls.Storing.{KeepsUnstored}
use Rattle.rc_shard.proofs.Opened.{held-ok, kept-ok, let-go-read}
use Rattle.rc_shard.proofs.Served.{cached-still}
use Rattle.rc_shard.proofs.Standing.{kept-back, kind-of, none-of-new, there-of}
use Rattle.rc_shard.proofs.readers.open_in.Goals as goal

pub open_with-requires-clause-sees : goal.open_with-requires-clause-sees
open_with-requires-clause-sees c =
    let r = c.requires.kept in
    let key = c.args.opening.key in
    let old = c.args.unstored.now.chains in
    let new = c.snapshot.new.self.chains in (
      r.0,
      changes_to key r.1,
      changes_to key r.2,
      r.4,
      r.5,
      c.what_a_snapshot_of_a_key_sees.ensures key r.1 old new c.in-Ok.snaps.sealed (c.in-Ok.ensures.sealed r.0 r.1 r.2 r.3),
      c.what_a_snapshot_of_a_key_sees.ensures key r.2 old new c.in-Ok.snaps.active (c.in-Ok.ensures.active r.0 r.1 r.2 r.3),
    )

pub returns-in-Ok-clause-gives : goal.returns-in-Ok-clause-gives
returns-in-Ok-clause-gives c = λ schema writes later below said h of_sealed of_later of_tables tells.
    let key = c.args.opening.key in
    let old = c.args.unstored.now.chains in
    let new = c.snapshot.new.self.chains in
    c.open_with.ensures.gives schema (changes_to key writes) (changes_to key later) below said of_sealed of_later of_tables
    (c.what_a_snapshot_of_a_key_sees.ensures key writes old new c.in-Ok.snaps.sealed (c.in-Ok.ensures.sealed schema writes later h))
    (c.what_a_snapshot_of_a_key_sees.ensures key later old new c.in-Ok.snaps.active (c.in-Ok.ensures.active schema writes later h)) tells

pub returns-in-Ok-clause-held : goal.returns-in-Ok-clause-held
returns-in-Ok-clause-held c =
    let r = c.requires.kept in
    let key = c.args.opening.key in
    let old = c.args.unstored.now.chains in
    let new = c.snapshot.new.self.chains in
    let snaps = c.in-Ok.snaps in
    let took = c.in-Ok.ensures.exact in
    let cache : KeepsCache old new = c.what_calls_leave_of_the_cache.ensures.taken old took.0 new snaps.sealed snaps.active (kind-of key r.1 old new snaps.sealed (c.in-Ok.ensures.sealed r.0 r.1 r.2 r.3)) (kind-of key r.2 old new snaps.active (c.in-Ok.ensures.active r.0 r.1 r.2 r.3)) took.1 took.2 in
    held-ok c.open_with.result c.snapshot.new.self c.open_with.new.unstored (record { cached = source_snap c.args.source; written = snaps }) c.open_with.ensures.held c.open_with.ensures.same
    (record {
      written = record { sealed = there-of key r.1 old new snaps.sealed (c.in-Ok.ensures.sealed r.0 r.1 r.2 r.3); active = there-of key r.2 old new snaps.active (c.in-Ok.ensures.active r.0 r.1 r.2 r.3) };
      two = c.in-Ok.ensures.apart;
      cached = cached-still old new (source_snap c.args.source) cache.left.snapshots.each c.requires.there;
    })

pub returns-in-Ok-clause-kept : goal.returns-in-Ok-clause-kept
returns-in-Ok-clause-kept c =
    let r = c.requires.kept in
    let key = c.args.opening.key in
    let old = c.args.unstored.now.chains in
    let new = c.snapshot.new.self.chains in
    let snaps = c.in-Ok.snaps in
    let took = c.in-Ok.ensures.exact in
    let cache : KeepsCache old new = c.what_calls_leave_of_the_cache.ensures.taken old took.0 new snaps.sealed snaps.active (kind-of key r.1 old new snaps.sealed (c.in-Ok.ensures.sealed r.0 r.1 r.2 r.3)) (kind-of key r.2 old new snaps.active (c.in-Ok.ensures.active r.0 r.1 r.2 r.3)) took.1 took.2 in
    let kept : (schema : SchemaValue) → KeepsUnstored schema c.args.unstored.now c.snapshot.new.self =
    λ schema. record { stands = λ writes later h. c.snapshot.ensures.stands schema writes later h; seen = all-see old new c.snapshot.ensures.seen; room = c.what_a_call_leaves_of_the_room.ensures.taken _ took.0 _ snaps.sealed snaps.active took.1 took.2; cache = cache } in
    kept-ok c.open_with.result c.args.unstored.now c.snapshot.new.self c.open_with.new.unstored c.open_with.ensures.same kept

pub returns-in-Ok-clause-err : goal.returns-in-Ok-clause-err
returns-in-Ok-clause-err c =
    let r = c.requires.kept in
    let key = c.args.opening.key in
    let old = c.args.unstored.now.chains in
    let new = c.snapshot.new.self.chains in
    let snaps = c.in-Ok.snaps in
    let took = c.in-Ok.ensures.exact in
    let cache : KeepsCache old new = c.what_calls_leave_of_the_cache.ensures.taken old took.0 new snaps.sealed snaps.active (kind-of key r.1 old new snaps.sealed (c.in-Ok.ensures.sealed r.0 r.1 r.2 r.3)) (kind-of key r.2 old new snaps.active (c.in-Ok.ensures.active r.0 r.1 r.2 r.3)) took.1 took.2 in
    let fresh : (s : Snap) → HasPin old s.chain s.pin → IsNoneOf snaps s = λ s on. none-of-new key r.1 r.2 old new new snaps (c.in-Ok.ensures.sealed r.0 r.1 r.2 r.3) (c.in-Ok.ensures.active r.0 r.1 r.2 r.3) s on in
    let there : AreThere new snaps = record { sealed = there-of key r.1 old new snaps.sealed (c.in-Ok.ensures.sealed r.0 r.1 r.2 r.3); active = there-of key r.2 old new snaps.active (c.in-Ok.ensures.active r.0 r.1 r.2 r.3) } in
    let kept : (schema : SchemaValue) → KeepsUnstored schema c.args.unstored.now c.snapshot.new.self =
    λ schema. record { stands = λ writes later h. c.snapshot.ensures.stands schema writes later h; seen = all-see old new c.snapshot.ensures.seen; room = c.what_a_call_leaves_of_the_room.ensures.taken _ took.0 _ snaps.sealed snaps.active took.1 took.2; cache = cache } in
    let-go-read c.open_with.result c.args.source c.args.unstored.now c.snapshot.new.self c.open_with.new.unstored snaps c.open_with.ensures.back
    (λ schema both. (let back = both.released in
    kept-back schema c.args.unstored.now c.snapshot.new.self c.open_with.new.unstored snaps (kept schema) fresh (λ writes later h. both.stands schema writes later h) both.others both.room
    (c.what_calls_leave_of_the_cache.ensures.back new back.0 c.open_with.new.unstored.chains snaps there c.in-Ok.ensures.apart back.1 back.2)))

pub returns-in-Err-clause-err : goal.returns-in-Err-clause-err
returns-in-Err-clause-err c = λ schema.
    let kept : KeepsUnstored schema c.args.unstored.now c.snapshot.new.self =
    record { stands = λ writes later h. c.snapshot.ensures.stands schema writes later h; seen = all-see c.args.unstored.now.chains c.snapshot.new.self.chains c.snapshot.ensures.seen; room = c.what_a_call_leaves_of_the_room.ensures.before _ _ c.in-Err.ensures.left; cache = c.what_calls_leave_of_the_cache.ensures.before _ _ c.in-Err.ensures.left } in
    (c.snapshot.new.self, kept, c.let_go.ensures.0, c.let_go.ensures.1)
