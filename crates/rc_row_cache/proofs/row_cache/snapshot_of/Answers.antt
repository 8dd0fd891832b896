use Rattle.std.proofs.Common.{sym, ap, ◌∙◌, subst, arith}
use Rattle.std.specs.Prelude.{◌≡◌, IsSomeAnd, Some, true}
use Rattle.rc_memory.specs.Memory.{IsSnapshotTaken, KeptChain, Memory, chain_at}
use Rattle.rc_entries.specs.Entries.{AreEntries, AreSettled, IsCached}
use Rattle.rc_filler.specs.Crowding.{LosesWhereCrowded}
use Rattle.rc_filler.specs.Crowds.{loses-nothing}
use Rattle.rc_row_cache.specs.laws.Losing.{loses-taken}
use Rattle.rc_row_cache.proofs.Cache.{pins-same}
use Rattle.rc_row_cache.proofs.Snapshots.{SnapshotLaws}
use Rattle.rc_row_cache.proofs.Taking.{attached-at, same-lost, sound-at, taken-lost, taken-may, taken-of}
use Rattle.rc_row_cache.proofs.row_cache.snapshot_of.Goals as goal

pub snapshot-requires : goal.snapshot-requires
snapshot-requires g c =
    let cached = c.what_leaves_the_caches_chains_leaves_the_entries.ensures.there c.args.entries.now c.args.chains.now c.args.key.now c.args.id c.requires.entries c.requires.settled c.requires.entry in
    (omega arith, subst (λ o. IsSomeAnd o (λ (k : KeptChain). k.chain.attached ≡ true)) (sym cached.there) cached.attached)

pub returns-in-Ok-clause-taken : goal.returns-in-Ok-clause-taken
returns-in-Ok-clause-taken g c =
    let more = c.one_more_snapshot_keeps_what_is_said.ensures in
    let laws : SnapshotLaws = record { free = more.free; given_at = more.given; others = more.others; chain = more.chain; form = more.form } in
    let old = c.args.chains.now in
    let new = c.snapshot.new.self in
    let s = c.in-Ok.snap in
    let own = c.in-Ok.ensures.taken.0 in
    let taken : IsSnapshotTaken old new s.chain s.pin s.phase = subst (λ i. IsSnapshotTaken old new i s.pin s.phase) (sym own) c.in-Ok.ensures.taken.1 in
    let cached : IsCached old s.chain = subst (IsCached old) (sym own) (c.what_leaves_the_caches_chains_leaves_the_entries.ensures.there c.args.entries.now old c.args.key.now c.args.id c.requires.entries c.requires.settled c.requires.entry) in
    taken-of laws old new s taken cached c.args.key.now c.args.entries.now (c.requires.entry ∙ ap Some (sym own))

pub returns-in-Ok-clause-entries : goal.returns-in-Ok-clause-entries
returns-in-Ok-clause-entries g c =
    let old = c.args.chains.now in
    let new = c.snapshot.new.self in
    let s = c.in-Ok.snap in
    let own = c.in-Ok.ensures.taken.0 in
    let taken : IsSnapshotTaken old new s.chain s.pin s.phase = subst (λ i. IsSnapshotTaken old new i s.pin s.phase) (sym own) c.in-Ok.ensures.taken.1 in
    c.what_leaves_the_caches_chains_leaves_the_entries.ensures.entries c.args.entries.now old new (c.each_change_leaves_the_caches_chains.ensures.pinned s.chain s.pin s.phase old new taken) c.requires.entries

pub returns-in-Ok-clause-settled : goal.returns-in-Ok-clause-settled
returns-in-Ok-clause-settled g c =
    let old = c.args.chains.now in
    let new = c.snapshot.new.self in
    let s = c.in-Ok.snap in
    let own = c.in-Ok.ensures.taken.0 in
    let taken : IsSnapshotTaken old new s.chain s.pin s.phase = subst (λ i. IsSnapshotTaken old new i s.pin s.phase) (sym own) c.in-Ok.ensures.taken.1 in
    c.what_leaves_the_caches_chains_leaves_the_entries.ensures.settled c.args.entries.now old new (ap (λ (m : Memory). m.dropped) taken.now) c.requires.settled

pub returns-in-Ok-clause-says : goal.returns-in-Ok-clause-says
returns-in-Ok-clause-says g c =
    let old = c.args.chains.now in
    let new = c.snapshot.new.self in
    let s = c.in-Ok.snap in
    let own = c.in-Ok.ensures.taken.0 in
    let taken : IsSnapshotTaken old new s.chain s.pin s.phase = subst (λ i. IsSnapshotTaken old new i s.pin s.phase) (sym own) c.in-Ok.ensures.taken.1 in
    let cached : IsCached old s.chain = subst (IsCached old) (sym own) (c.what_leaves_the_caches_chains_leaves_the_entries.ensures.there c.args.entries.now old c.args.key.now c.args.id c.requires.entries c.requires.settled c.requires.entry) in
    λ schema below says. c.the_cache_says_what_lies_below.ensures.taken schema below s.chain s.pin s.phase old new
    (λ k there. (sound-at old s.chain k there c.known.ensures.sound, attached-at old s.chain k there cached)) taken says

pub returns-in-Ok-clause-may : goal.returns-in-Ok-clause-may
returns-in-Ok-clause-may g c =
    let more = c.one_more_snapshot_keeps_what_is_said.ensures in
    let laws : SnapshotLaws = record { free = more.free; given_at = more.given; others = more.others; chain = more.chain; form = more.form } in
    let old = c.args.chains.now in
    let new = c.snapshot.new.self in
    let s = c.in-Ok.snap in
    let own = c.in-Ok.ensures.taken.0 in
    let taken : IsSnapshotTaken old new s.chain s.pin s.phase = subst (λ i. IsSnapshotTaken old new i s.pin s.phase) (sym own) c.in-Ok.ensures.taken.1 in
    let cached : IsCached old s.chain = subst (IsCached old) (sym own) (c.what_leaves_the_caches_chains_leaves_the_entries.ensures.there c.args.entries.now old c.args.key.now c.args.id c.requires.entries c.requires.settled c.requires.entry) in
    taken-may laws old new s taken cached c.known.ensures.sound

pub returns-in-Ok-clause-pins : goal.returns-in-Ok-clause-pins
returns-in-Ok-clause-pins g c =
    let old = c.args.chains.now in
    let new = c.snapshot.new.self in
    let s = c.in-Ok.snap in
    let own = c.in-Ok.ensures.taken.0 in
    let taken : IsSnapshotTaken old new s.chain s.pin s.phase = subst (λ i. IsSnapshotTaken old new i s.pin s.phase) (sym own) c.in-Ok.ensures.taken.1 in
    λ below id pin. c.each_snapshot_pins_what_it_pinned.ensures.taken below id pin s.chain s.pin s.phase old new taken

pub returns-in-Ok-clause-seen : goal.returns-in-Ok-clause-seen
returns-in-Ok-clause-seen g c =
    let more = c.one_more_snapshot_keeps_what_is_said.ensures in
    let laws : SnapshotLaws = record { free = more.free; given_at = more.given; others = more.others; chain = more.chain; form = more.form } in
    let old = c.args.chains.now in
    let new = c.snapshot.new.self in
    let s = c.in-Ok.snap in
    let own = c.in-Ok.ensures.taken.0 in
    let taken : IsSnapshotTaken old new s.chain s.pin s.phase = subst (λ i. IsSnapshotTaken old new i s.pin s.phase) (sym own) c.in-Ok.ensures.taken.1 in
    taken-lost laws old new s taken

pub returns-in-Err-clause-entries : goal.returns-in-Err-clause-entries
returns-in-Err-clause-entries g c = subst (AreEntries c.args.entries.now) (sym c.in-Err.ensures.err) c.requires.entries

pub returns-in-Err-clause-settled : goal.returns-in-Err-clause-settled
returns-in-Err-clause-settled g c = subst (AreSettled c.args.entries.now) (sym c.in-Err.ensures.err) c.requires.settled

pub returns-in-Err-clause-says : goal.returns-in-Err-clause-says
returns-in-Err-clause-says g c = λ schema below says. c.the_cache_says_what_lies_below.ensures.same schema below c.args.chains.now c.snapshot.new.self (ap (λ (m : Memory). m.chains) c.in-Err.ensures.err) says

pub returns-in-Err-clause-pins : goal.returns-in-Err-clause-pins
returns-in-Err-clause-pins g c = λ below id pin. pins-same below id pin c.args.chains.now c.snapshot.new.self (λ k kind there. ap (λ (m : Memory). chain_at m id) c.in-Err.ensures.err ∙ there)

pub returns-in-Err-clause-seen : goal.returns-in-Err-clause-seen
returns-in-Err-clause-seen g c = same-lost c.args.chains.now c.snapshot.new.self (λ id. ap (λ (m : Memory). chain_at m id) c.in-Err.ensures.err)

pub returns-in-Ok-clause-loses : goal.returns-in-Ok-clause-loses
returns-in-Ok-clause-loses g c = let t = c.in-Ok.ensures.taken in loses-taken g.row.S c.args.id c.in-Ok.snap.pin c.in-Ok.snap.phase c.args.chains.now c.snapshot.new.self t.1

pub returns-in-Err-clause-loses : goal.returns-in-Err-clause-loses
returns-in-Err-clause-loses g c = subst (LosesWhereCrowded g.row.S 0 c.args.chains.now) (sym c.in-Err.ensures.err) (loses-nothing g.row.S c.args.chains.now)
