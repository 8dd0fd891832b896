use Rattle.std.proofs.Common.{◌≡◌, false, [], arith}
use Rattle.rc_registry.specs.Registry.{AreFree}
use Rattle.rc_memory.specs.Kept.{IsSoundChain}
use Rattle.rc_memory.specs.Memory.{chain_at}
use Rattle.rc_memtable.proofs.Freed.{freeing-less, freeing-over, freeing-start, freeing-step, freeing-there}
use Rattle.rc_memtable.proofs.Steps.{is-chain, of-chain}
use Rattle.rc_memtable.proofs.freeing.free_chain.Goals as goal

pub loop-chains-init : goal.loop-chains-init
loop-chains-init g c = freeing-start c.args.id c.args.chains.now c.requires

pub free_one-requires : goal.free_one-requires
free_one-requires g c =
    let t = freeing-there c.args.id c.args.chains.now c.loop-chains.chains c.loop-chains.invariant c.loop-chains-test.ensures in
    (omega arith, is-chain (λ k. (k.chain.attached ≡ false) × AreFree k.chain.pins) (chain_at c.loop-chains.chains c.args.id) t.chain t.there (t.left.1, t.left.2))

pub loop-chains-smaller : goal.loop-chains-smaller
loop-chains-smaller g c =
    let t = freeing-there c.args.id c.args.chains.now c.loop-chains.chains c.loop-chains.invariant c.loop-chains-test.ensures in
    freeing-less c.args.id c.args.chains.now c.loop-chains.chains t c.known-in-loop-chains.ensures.rule c.free_one.new.self (of-chain (λ k. IsSoundChain k.chain) (chain_at c.loop-chains.chains c.args.id) t.chain t.there (c.known-in-loop-chains.ensures.sound c.args.id)) c.known-in-loop-chains.ensures.versions
    (λ v back x there. c.a_freed_object_leaves_less.ensures.entry t.chain.chain.kind [] back v x there) (λ v back some. c.a_freed_object_leaves_less.ensures.statics t.chain.chain.kind [] back v some) (λ v back is. c.a_freed_object_leaves_less.ensures.version [] back v is)
    c.free_one.ensures.freed

pub loop-chains-preserved : goal.loop-chains-preserved
loop-chains-preserved g c =
    let t = freeing-there c.args.id c.args.chains.now c.loop-chains.chains c.loop-chains.invariant c.loop-chains-test.ensures in
    freeing-step c.args.id c.args.chains.now c.loop-chains.chains t c.known-in-loop-chains.ensures.rule c.free_one.new.self c.free_one.ensures.freed

pub returns : goal.returns
returns g c = freeing-over c.args.id c.args.chains.now c.loop-chains.chains c.known.ensures.live c.known-2.ensures.live c.loop-chains.invariant c.loop-chains-test.ensures
