use Rattle.std.proofs.Common.{sym, subst}
use Rattle.rc_position.specs.declared.positions.Pos.{Pos}
use Rattle.rc_position.specs.declared.positions.Weight.TheVariants.{After}
use Rattle.rc_core.specs.AtPlace.{HasEntryAt}
use Rattle.lsa_tree.specs.Entries.{IsEntryAtPosition}
use Rattle.rc_version.specs.Versions.{IsEntryFound}
use Rattle.rc_chain.proofs.Ending.{end-last, has-end}
use Rattle.rc_chain.proofs.chains.lives.end_entry.Goals as goal

pub unreachable-requires : goal.unreachable-requires
unreachable-requires g c =
    let q = c.requires in let found = subst (IsEntryFound c.args.region.now q.0 q.1 _) c.in-None.is (c.entry_at.ensures q.0 q.1 q.2) in
    absurd (found.1 (subst (λ (x : Pos). HasEntryAt x q.1.entries) (sym (λ i. record { prefix = c.empty.ensures i; weight = After })) (has-end q.1 q.2.version.ends)))

pub returns : goal.returns
returns g c = λ refs d is.
    let found = subst (IsEntryFound c.args.region.now refs d _) c.in-Some.is (c.entry_at.ensures refs d is) in
    end-last c.args.region.now c.args.v refs d is c.in-Some.r found.0 (subst (λ (x : Pos). IsEntryAtPosition c.args.region.now c.in-Some.r x) (λ i. record { prefix = c.empty.ensures i; weight = After }) found.1)
