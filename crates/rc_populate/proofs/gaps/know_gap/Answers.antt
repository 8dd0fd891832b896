use Rattle.std.proofs.Common.{Some, refl, sym, subst, arith}
use Rattle.rc_core.specs.AtPlace.{HasEntryAt}
use Rattle.rc_core.specs.Change.{gap_split}
use Rattle.rc_core.specs.Continuity.{with_entries}
use Rattle.rc_core.specs.Version.{Version}
use Rattle.rc_version.specs.Versions.{known_between}
use Rattle.rc_memory.specs.Memory.{KeptChain}
use Rattle.rc_memory.specs.Changes.{IsRenewedWhereNone, Nowhere, member_at}
use Rattle.rc_memory.specs.laws.Entries.{before-differs}
use Rattle.rc_populate.proofs.Changed.{chain-after, changed-both, has-then, last-free, number-after, of-then, settled-then}
use Rattle.rc_populate.proofs.Marking.{split-both, split-twice}
use Rattle.rc_populate.proofs.gaps.know_gap.Goals as goal

pub split-requires : goal.split-requires
split-requires g c =
    (omega arith, (c.requires.limits.0, (c.requires.version, (omega (arith, c.requires.spare), (c.requires.small.0, last-free c.args.chains.now c.args.id c.args.number (λ (d : Version). with_entries (gap_split c.args.from.now d.entries) d) c.requires.settled)))))

pub split-requires-2 : goal.split-requires-2
split-requires-2 g c =
    let m = c.args.chains.now in let id = c.args.id in let j = c.args.number in let f = λ (d : Version). with_entries (gap_split c.args.from.now d.entries) d in let one = c.split.ensures.spare in let all = c.requires.spare in
    (omega arith, (c.requires.limits.1, (has-then id j Nowhere f m c.split.new.self c.split.ensures.changed c.requires.version, (omega (arith, one, all), (c.requires.small.1, last-free c.split.new.self id j (λ (d : Version). with_entries (gap_split c.args.to.now d.entries) d) (settled-then id j Nowhere f m c.split.new.self c.split.ensures.changed c.requires.version c.requires.settled))))))

pub know_between-requires : goal.know_between-requires
know_between-requires g c =
    let m = c.args.chains.now in let n = c.split.new.self in let o = c.split-2.new.self in let id = c.args.id in let j = c.args.number in let from = c.args.from.now in let to = c.args.to.now in
    let f = λ (d : Version). with_entries (gap_split from d.entries) d in let h = λ (d : Version). with_entries (gap_split to d.entries) d in
    let once = has-then id j Nowhere f m n c.split.ensures.changed c.requires.version in (
      omega arith,
      (
        c.requires.ascend,
        (
          has-then id j Nowhere h n o c.split-2.ensures.changed once,
          of-then id j Nowhere h n o c.split-2.ensures.changed once (λ (k : KeptChain) (v : Version). HasEntryAt from v.entries × HasEntryAt to v.entries)
              (of-then id j Nowhere f m n c.split.ensures.changed c.requires.version (λ (k : KeptChain) (v : Version). HasEntryAt from (gap_split to v.entries) × HasEntryAt to (gap_split to v.entries))
              (λ k v e at. split-twice from to v.entries (c.known.ensures.versions id j k v e at).ends)),
        ),
      ),
    )

pub returns-clause-known : goal.returns-clause-known
returns-clause-known g c =
    let m = c.args.chains.now in let n = c.split.new.self in let o = c.split-2.new.self in let id = c.args.id in let j = c.args.number in let from = c.args.from.now in let to = c.args.to.now in
    let f = λ (d : Version). with_entries (gap_split from d.entries) d in let h = λ (d : Version). with_entries (gap_split to d.entries) d in
    changed-both id j Nowhere f (λ (d : Version). known_between from to c.args.tomb (h d)) m n c.know_between.new.self c.split.ensures.changed
    (changed-both id j Nowhere h (known_between from to c.args.tomb) n o c.know_between.new.self c.split-2.ensures.changed c.know_between.ensures.known)

pub returns-clause-listed : goal.returns-clause-listed
returns-clause-listed g c = λ k v e at.
    let m = c.args.chains.now in let n = c.split.new.self in let id = c.args.id in let j = c.args.number in let from = c.args.from.now in let to = c.args.to.now in
    let f = λ (d : Version). with_entries (gap_split from d.entries) d in
    let there = chain-after id j Nowhere f m n c.split.ensures.changed k e in let number = number-after id j Nowhere f m n c.split.ensures.changed k v at in
    let second = subst (λ list. IsRenewedWhereNone k.chain.kind (with_entries (gap_split from v.entries) v) (member_at id j (Some to)) n.recency list) (sym c.know_between.ensures.recency) (c.split-2.ensures.recency _ _ there number) in
    (n.recency, c.split.ensures.recency k v e at, split-both k.chain.kind v from to (member_at id j (Some to)) refl (before-differs from to c.requires.ascend) n.recency c.know_between.new.self.recency second)

pub returns-clause-spare : goal.returns-clause-spare
returns-clause-spare g c = let one = c.split.ensures.spare in let two = c.split-2.ensures.spare in let three = c.know_between.ensures.spare in omega (arith, one, two, three)
