use Rattle.std.proofs.Common.{◌≡◌, true, false, IsSome, refl, sym, ◌∙◌, subst, arith}
use Rattle.rc_core.specs.declared.entries.ChainKind.TheVariants.{Memtable}
use Rattle.rc_memory.specs.Memory.{KeptChain, chain_at, without_snapshot}
use Rattle.rc_memtable.proofs.LettingGo.{released-there, some-memtable}
use Rattle.rc_memtable.proofs.Steps.{is-chain}
use Rattle.rc_memtable.proofs.freeing.release.Goals as goal

pub is_attached-requires : goal.is_attached-requires
is_attached-requires g c =
    let k = some-memtable (chain_at c.args.chains.now c.args.s.chain) c.requires.memtable in
    (omega arith, subst IsSome (sym (released-there c.args.chains.now c.release.new.self c.args.s.chain c.args.s.pin k.0 c.release.ensures k.1)) refl)

pub free_if_unpinned-requires : goal.free_if_unpinned-requires
free_if_unpinned-requires g c =
    let k = some-memtable (chain_at c.args.chains.now c.args.s.chain) c.requires.memtable in
    let there = released-there c.args.chains.now c.release.new.self c.args.s.chain c.args.s.pin k.0 c.release.ensures k.1 in
    (omega arith, is-chain (λ (q : KeptChain). (q.chain.kind ≡ Memtable) × (q.chain.attached ≡ false)) (chain_at c.release.new.self c.args.s.chain) (without_snapshot c.args.s.pin k.0) there (k.2, sym (c.if-not-is_attached.ensures (without_snapshot c.args.s.pin k.0) there)))

pub returns-then-not-is_attached-clause-found : goal.returns-then-not-is_attached-clause-found
returns-then-not-is_attached-clause-found g c k e found =
    let f : false ≡ true = c.if-not-is_attached.ensures (without_snapshot c.args.s.pin k) (released-there c.args.chains.now c.release.new.self c.args.s.chain c.args.s.pin k c.release.ensures e) ∙ found in absurd (cc)

pub returns-else-not-is_attached-clause-freed : goal.returns-else-not-is_attached-clause-freed
returns-else-not-is_attached-clause-freed g c k e gone =
    let f : true ≡ false = c.if-not-is_attached.ensures (without_snapshot c.args.s.pin k) (released-there c.args.chains.now c.release.new.self c.args.s.chain c.args.s.pin k c.release.ensures e) ∙ gone in absurd (cc)
