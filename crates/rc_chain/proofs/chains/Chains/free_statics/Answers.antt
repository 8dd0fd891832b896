use Rattle.std.proofs.Common.{None, refl, sym, ◌∙◌, subst, arith}
use Rattle.rc_core.specs.declared.entries.ChainKind.TheVariants.{Memtable}
use Rattle.rc_core.specs.declared.entries.Flag.TheVariants.{Inherit}
use Rattle.rc_core.specs.Continuity.{without_statics}
use Rattle.rc_core.specs.Free.{free_statics}
use Rattle.rc_core.specs.Steps.{set_static_flag}
use Rattle.rc_memory.specs.Changes.{AtAlone, IsVersionChanged, IsWithout, member_at}
use Rattle.rc_chain.proofs.Freeing.{changed-joined, has-changed}
use Rattle.rc_chain.proofs.Reading.{version-has}
use Rattle.rc_chain.proofs.chains.Chains.free_statics.Goals as goal

pub kind-kind-requires : goal.kind-kind-requires
kind-kind-requires g c =
    (omega arith, version-has c.args.self.now c.args.id 0 c.requires.version)

pub drop_static-requires : goal.drop_static-requires
drop_static-requires g c =
    (omega arith, c.requires.version)

pub set_static_flag-requires : goal.set_static_flag-requires
set_static_flag-requires g c =
    (omega arith, has-changed c.args.self.now c.drop_static.new.self c.args.id 0 without_statics (AtAlone (member_at c.args.id 0 None)) c.drop_static.ensures.dropped c.requires.version)

pub returns-in-Memtable-clause-freed : goal.returns-in-Memtable-clause-freed
returns-in-Memtable-clause-freed g c =
    record { there = c.requires.there; alone = c.requires.alone; changed = λ k e. subst (λ kind. IsVersionChanged c.args.id 0 (free_statics kind) (AtAlone (member_at c.args.id 0 None)) c.args.self.now c.set_static_flag.new.self) (sym c.in-Memtable.is ∙ c.kind-kind.ensures k e) (changed-joined without_statics (set_static_flag Inherit) (free_statics Memtable) c.args.id 0 (AtAlone (member_at c.args.id 0 None)) c.args.self.now c.drop_static.new.self c.set_static_flag.new.self c.drop_static.ensures.dropped c.set_static_flag.ensures.set (λ k' v e' at. refl)); recency = subst (IsWithout (member_at c.args.id 0 None) c.args.self.now.recency) (sym c.set_static_flag.ensures.recency) c.drop_static.ensures.recency }

pub returns-in-Cache-clause-freed : goal.returns-in-Cache-clause-freed
returns-in-Cache-clause-freed g c =
    record { there = c.requires.there; alone = c.requires.alone; changed = λ k e. subst (λ kind. IsVersionChanged c.args.id 0 (free_statics kind) (AtAlone (member_at c.args.id 0 None)) c.args.self.now c.drop_static.new.self) (sym c.in-Cache.is ∙ c.kind-kind.ensures k e) c.drop_static.ensures.dropped; recency = c.drop_static.ensures.recency }
