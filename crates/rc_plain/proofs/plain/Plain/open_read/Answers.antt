-- The id is open where it has a place.
use Rattle.std.proofs.Common.{◌≡◌, ◌==◌, ◌<◌, ◌≤◌, length, List, None, Err, [], ◌∷◌, ◌++◌, ◌∙◌, ap, subst, sym, arith}
use Rattle.std.specs.List.{position}
use Rattle.rc_query.specs.declared.lines.OutLine.{OutLine}
use Rattle.rc_lines.specs.declared.commands.Command.TheVariants.{OpenRead}
use Rattle.rc_lines.specs.declared.commands.Reply.TheVariants as replies
use Rattle.rc_lines.specs.declared.commands.Refusal.TheVariants.{ReaderInUse, TooManyReaders, ReadFault, Damaged}
use Rattle.rc_stream.specs.declared.streams.StreamErr.{StreamErr}
use Rattle.rc_stream.specs.declared.streams.StreamErr.TheVariants as stream_err
use Rattle.rc_stream.specs.Causes.{Caused}
use Rattle.rc_tables.specs.Tables.{IsDamageOf}
use Rattle.rc_machine.specs.Steps.{most_readers}
use Rattle.rc_plain.specs.Stands.{Keeping, PlainStands}
use Rattle.rc_plain.proofs.Places.{Readers, open_some, open_none}
use Rattle.rc_plain.proofs.Standing.{from, stay, to_files, takes_in_use, takes_too_many, takes_fault, takes_damaged, takes_open, damage_seen}
use Rattle.rc_plain.proofs.plain.Plain.open_read.Goals as goal

pub returns-then-is_some-clause-step : goal.returns-then-is_some-clause-step
returns-then-is_some-clause-step g c =
    let used = open_some c.self.inside.readers.items c.args.id c.place_of.result (subst (λ (rs : Readers). c.place_of.result ≡ position (λ reader. reader.0 == c.args.id) rs) c.as_slice.ensures.value c.place_of.ensures) c.if-is_some.ensures in
    stay (OpenRead c.args.id c.args.key.now c.args.slice.now) (replies.Refused ReaderInUse) c.self.view_is (takes_in_use (g.W.Store.files c.args.store.now) _ c.args.id c.args.key.now c.args.slice.now used.0 used.1)

pub returns-then-len-ge-MOST_READERS-clause-step : goal.returns-then-len-ge-MOST_READERS-clause-step
returns-then-len-ge-MOST_READERS-clause-step g c =
    let shut = open_none c.self.inside.readers.items c.args.id c.place_of.result (subst (λ (rs : Readers). c.place_of.result ≡ position (λ reader. reader.0 == c.args.id) rs) c.as_slice.ensures.value c.place_of.ensures) c.if-is_some.ensures in
    let many : most_readers ≤ length c.self.inside.readers.items = omega (arith, c.if-len-ge-MOST_READERS.true, c.len.ensures, c.self.inside.readers.ok) in
    stay (OpenRead c.args.id c.args.key.now c.args.slice.now) (replies.Refused TooManyReaders) c.self.view_is (takes_too_many (g.W.Store.files c.args.store.now) _ c.args.id c.args.key.now c.args.slice.now shut many)

pub returns-in_ok-push-in-Ok-clause-step : goal.returns-in_ok-push-in-Ok-clause-step
returns-in_ok-push-in-Ok-clause-step g c =
    let shut = open_none c.self.inside.readers.items c.args.id c.place_of.result (subst (λ (rs : Readers). c.place_of.result ≡ position (λ reader. reader.0 == c.args.id) rs) c.as_slice.ensures.value c.place_of.ensures) c.if-is_some.ensures in
    let few : length c.self.inside.readers.items < most_readers = omega (arith, c.if-len-ge-MOST_READERS.false, c.len.ensures, c.self.inside.readers.ok) in
    from (OpenRead c.args.id c.args.key.now c.args.slice.now) replies.Fine c.self.view_is
    (to_files (OpenRead c.args.id c.args.key.now c.args.slice.now) replies.Fine c.in-Ok.ensures.store.0
    (takes_open (g.W.Store.files c.args.store.now) _ c.args.id c.args.key.now c.args.slice.now c.in-Ok.lines c.push.new.self.items shut few
    (λ m s. c.in-Ok.ensures.lines m (subst (λ (k : Keeping). PlainStands (g.W.Store.files c.args.store.now) k m) c.self.view_is s))
    (◌∙◌ {A = Readers} c.in_ok-push-in-Ok.ensures.items (ap (λ (lines : List OutLine). c.self.inside.readers.items ++ (c.args.id, lines) ∷ []) c.new.ensures))))

pub returns-in-Err-Fault-clause-step : goal.returns-in-Err-Fault-clause-step
returns-in-Err-Fault-clause-step g c =
    let shut = open_none c.self.inside.readers.items c.args.id c.place_of.result (subst (λ (rs : Readers). c.place_of.result ≡ position (λ reader. reader.0 == c.args.id) rs) c.as_slice.ensures.value c.place_of.ensures) c.if-is_some.ensures in
    let few : length c.self.inside.readers.items < most_readers = omega (arith, c.if-len-ge-MOST_READERS.false, c.len.ensures, c.self.inside.readers.ok) in
    stay (OpenRead c.args.id c.args.key.now c.args.slice.now) (replies.Refused ReadFault) c.self.view_is (to_files (OpenRead c.args.id c.args.key.now c.args.slice.now) (replies.Refused ReadFault) c.answer.ensures.store.0 (takes_fault (g.W.Store.files c.args.store.now) _ c.args.id c.args.key.now c.args.slice.now shut few))

pub returns-in-Err-Damaged-clause-step : goal.returns-in-Err-Damaged-clause-step
returns-in-Err-Damaged-clause-step g c =
    let shut = open_none c.self.inside.readers.items c.args.id c.place_of.result (subst (λ (rs : Readers). c.place_of.result ≡ position (λ reader. reader.0 == c.args.id) rs) c.as_slice.ensures.value c.place_of.ensures) c.if-is_some.ensures in
    let few : length c.self.inside.readers.items < most_readers = omega (arith, c.if-len-ge-MOST_READERS.false, c.len.ensures, c.self.inside.readers.ok) in
    let none : g.W.Store.files c.args.store.now ≡ None =
    (subst (λ (e : StreamErr). Caused {T = List OutLine} (Err e) (g.W.Store.files c.args.store.now) (g.W.Store.faults c.args.store.now) (g.W.Store.faults c.answer.new.store)) c.in-Err-Damaged.field-0-is c.in-Err-Damaged.ensures.cause).1 in
    let damage : IsDamageOf c.self.inside.folder.schema c.args.key.now c.self.inside.folder.infos (stream_err.Damaged c.in-Err-Damaged.file c.in-Err-Damaged.offset) =
    subst (λ (e : StreamErr). IsDamageOf c.self.inside.folder.schema c.args.key.now c.self.inside.folder.infos e) c.in-Err-Damaged.field-0-is
    (damage_seen _ _ c.args.key.now c.in-Err-Damaged.field-0 (sym c.self.view_is) c.in-Err-Damaged.ensures.damaged) in
    stay (OpenRead c.args.id c.args.key.now c.args.slice.now) (replies.Refused (Damaged c.in-Err-Damaged.file c.in-Err-Damaged.offset)) c.self.view_is (to_files (OpenRead c.args.id c.args.key.now c.args.slice.now) (replies.Refused (Damaged c.in-Err-Damaged.file c.in-Err-Damaged.offset)) c.answer.ensures.store.0 (takes_damaged (g.W.Store.files c.args.store.now) _ c.args.id c.args.key.now c.args.slice.now c.in-Err-Damaged.file c.in-Err-Damaged.offset shut few none damage))
