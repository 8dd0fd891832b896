use Rattle.std.proofs.Common.{◌≡◌, ℕ, ◌+◌, ◌≤◌, List, length, Option, Some, None, arith}
use Rattle.std.specs.Prelude.{IsSomeAnd}
use Rattle.rc_core.specs.declared.entries.Entry.{Entry}
use Rattle.lsa_kinds.specs.declared.kind.Kind.{Kind}
use Rattle.rc_object.specs.Objects.{SpellsEntry}
use Rattle.lsa_region.specs.Region.{body}
use Rattle.rc_object.specs.laws.Spelled.{seen_entry, entry_long, entry_written, alike_written}
use Rattle.rc_object.proofs.entries.set_marks.Goals as goal

fits : (o : Option (Kind × List ℕ)) (e : Entry) (n : ℕ) → IsSomeAnd o (λ b. SpellsEntry b e) → n ≡ 28 → IsSomeAnd o (λ b. 0 + n ≤ length b.1)
fits None e n h is = absurd h
fits (Some b) e n h is = omega (arith, entry_long b e h, is)

pub marked-front-requires : goal.marked-front-requires
marked-front-requires g c =
    let w = seen_entry (body c.args.region.now c.args.e) c.requires.0 c.bytes.result.now c.requires.1 c.bytes.ensures in omega (arith, entry_long _ c.requires.0 w)

pub write-requires : goal.write-requires
write-requires g c = (omega arith, fits (body c.args.region.now c.args.e) c.requires.0 (length c.marked-front.result) c.requires.1 c.marked-front.ensures.long)

pub returns-clause-holds : goal.returns-clause-holds
returns-clause-holds g c = λ x holds.
    entry_written (body c.args.region.now c.args.e) (body c.write.new.self c.args.e) c.marked-front.result x c.args.at c.args.gap holds c.write.ensures.written.here c.marked-front.ensures.marks c.marked-front.ensures.long

pub returns-clause-alike : goal.returns-clause-alike
returns-clause-alike g c =
    alike_written (body c.args.region.now c.args.e) (body c.write.new.self c.args.e) c.marked-front.result c.bytes.result.now c.write.ensures.written.here c.bytes.ensures c.marked-front.ensures.long c.marked-front.ensures.level
