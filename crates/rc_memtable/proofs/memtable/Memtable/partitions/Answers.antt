use Rattle.std.proofs.Common.{ℕ, List, sym, subst, arith}
use Rattle.rc_memtable.specs.Writes.{HasWrites}
use Rattle.rc_memtable.proofs.memtable.Memtable.partitions.Goals as goal

pub partitions_of-requires : goal.partitions_of-requires
partitions_of-requires g c =
    let r = c.requires in (omega arith, (r.0, r.1, subst (λ (cs : List (List ℕ × ℕ)). HasWrites r.0 cs c.args.chains.now r.1) (sym c.self.view_is) r.2))

pub returns-clause-parts : goal.returns-clause-parts
returns-clause-parts g c schema writes h = c.partitions_of.ensures.parts schema writes (subst (λ (cs : List (List ℕ × ℕ)). HasWrites schema cs c.args.chains.now writes) (sym c.self.view_is) h)
