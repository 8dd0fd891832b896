-- Over a snapshot of the row cache the answer is that of what lies below it, and of what is written; over what was read, of that.
use Rattle.std.proofs.Common.{[], ◌∷◌, sym, ap, subst, arith}
use Rattle.rc_memory.specs.Memory.{Memory}
use Rattle.rc_lookup.specs.Unstored.{Unstored}
use Rattle.rc_lookup.specs.Memtables.{in_chains}
use Rattle.rc_mutation.specs.laws.Sources.{IsJoinOf-one}
use Rattle.rc_shard.specs.declared.readers.Source.{Source}
use Rattle.rc_shard.specs.calls.Opened.{AreBothReleased, IsReadSource, IsReadWhole, TellsBelow}
use Rattle.rc_shard.proofs.Opened.{opened-cached, opened-past, released-of}
use Rattle.rc_shard.proofs.readers.open_with.Goals as goal

pub open-requires-in-Read : goal.open-requires-in-Read
open-requires-in-Read c =
    let sees = c.requires.sees in
    let read = subst IsReadWhole c.in-Read.is c.requires.read in (
      omega arith,
      (
        sees.0,
        read.0 ∷ [],
        sees.1,
        sees.2,
        record { tabled = read.0; mutation = read.1; stream = read.2; joined = IsJoinOf-one read.0 read.1; of_sealed = sees.3; of_active = sees.4; sealed = sees.5; active = sees.6 },
      ),
    )

pub returns-in-Cached-clause-gives : goal.returns-in-Cached-clause-gives
returns-in-Cached-clause-gives c = λ schema writes later below said of_writes of_later of_tables seen_writes seen_later tells.
    opened-cached _ schema c.args.unstored.now.chains c.args.opening.slice below said writes later c.args.opening.key c.args.opening.tables c.open.result c.in-Cached.snap c.args.snaps c.answer_of_joined_writes.ensures c.writes_have_a_join.ensures.all
    c.open.ensures.held c.open.ensures.untold c.open.ensures.of (λ lies a b d stand. c.open.ensures.lines 131072 c.args.unstored.now.chains schema lies writes later a b d stand)
    of_writes of_later of_tables seen_writes seen_later (subst (λ (s : Source). TellsBelow c.args.unstored.now.chains s below said) c.in-Cached.is tells)

pub returns-in-Ok-clause-gives : goal.returns-in-Ok-clause-gives
returns-in-Ok-clause-gives c = λ schema writes later below said of_writes of_later of_tables seen_writes seen_later tells.
    let told = subst (λ (s : Source). TellsBelow c.open-in-Read.new.chains s below said) c.in-Read.is tells in
    opened-past _ schema c.open-in-Read.new.chains c.args.opening.slice below said writes later c.args.opening.key c.args.opening.tables c.in-Ok.past
    (c.in-Ok.ensures.gives schema said writes later (record { tabled = told.0; mutation = told.1; stream = told.2; joined = told.3; of_sealed = of_writes; of_active = of_later; sealed = seen_writes; active = seen_later }))

pub returns-in-Err-clause-back : goal.returns-in-Err-clause-back
returns-in-Err-clause-back c =
    let lent : Unstored 131072 = in_chains c.open-in-Read.new.chains c.args.unstored.now in
    let back = c.release_both.ensures in
    let released : AreBothReleased c.in-Err.snaps lent c.release_both.new.self = record { stands = λ schema writes later h. back.stands schema writes later h; others = back.others; room = back.room; released = back.released; keys = back.keys } in
    (subst IsReadSource (sym c.in-Read.is) tt, released-of c.in-Err.snaps c.args.snaps lent c.args.unstored.now c.release_both.new.self c.in-Err.ensures.back (ap (λ (m : Memory). in_chains m c.args.unstored.now) c.open-in-Read.ensures.chains) released)
