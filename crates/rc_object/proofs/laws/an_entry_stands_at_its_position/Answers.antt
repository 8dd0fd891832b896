use Rattle.std.proofs.Common.{ℕ, ◌+◌, ◌≤◌, List, length, Option, Some, None, arith}
use Rattle.std.specs.Prelude.{IsSomeAnd}
use Rattle.rc_core.specs.declared.entries.Entry.{Entry}
use Rattle.lsa_kinds.specs.declared.kind.Kind.{Kind}
use Rattle.lsa_kinds.specs.Fields.{number_at}
use Rattle.lsa_region.specs.Region.{body}
use Rattle.rc_object.specs.Objects.{SpellsEntry}
use Rattle.rc_object.specs.laws.Spelled.{entry_long}
use Rattle.rc_object.proofs.laws.an_entry_stands_at_its_position.Goals as goal

inside : (o : Option (Kind × List ℕ)) (e : Entry) → IsSomeAnd o (λ b. SpellsEntry b e) → IsSomeAnd o (λ b. 32 + number_at 28 4 b.1 ≤ length b.1)
inside None e h = absurd h
inside (Some b) e h = omega (arith, h.size, entry_long b e h)

pub returns-clause-inside : goal.returns-clause-inside
returns-clause-inside c = λ v r e h. inside (body v r) e h
