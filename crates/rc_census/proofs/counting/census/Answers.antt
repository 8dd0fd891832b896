use Rattle.std.proofs.Common.{refl, arith}
use Rattle.rc_memory.specs.Memory.{chain_at}
use Rattle.rc_census.proofs.Counted.{count-begun, count-ended, count-more, count-smaller, dummies-room, none-of, partitions-room, rows-room, sound-there}
use Rattle.rc_census.proofs.Numbered.{some_of}
use Rattle.rc_census.proofs.counting.census.Goals as goal

pub loop-id-init : goal.loop-id-init
loop-id-init g c = count-begun c.args.chains.now _ refl refl refl

pub with_chain-census-requires : goal.with_chain-census-requires
with_chain-census-requires g c =
    let m = c.args.chains.now in let next = c.in-Some.ensures.next in (
      omega arith,
      (
        next.there,
        (
          (λ k there. partitions-room m c.few_objects.ensures c.loop-id.after c.loop-id.census c.loop-id.invariant c.in-Some.id next k there (sound-there m c.in-Some.id k there (c.known.ensures.sound c.in-Some.id))),
          (
            (λ k there. rows-room m c.few_objects.ensures c.loop-id.after c.loop-id.census c.loop-id.invariant c.in-Some.id next k there),
            (λ k there. dummies-room m c.few_objects.ensures c.loop-id.after c.loop-id.census c.loop-id.invariant c.in-Some.id next k there),
          ),
        ),
      ),
    )

pub loop-id-smaller : goal.loop-id-smaller
loop-id-smaller g c = count-smaller c.args.chains.now c.loop-id.after c.in-Some.id c.in-Some.ensures.next

pub loop-id-preserved : goal.loop-id-preserved
loop-id-preserved g c =
    let m = c.args.chains.now in let next = c.in-Some.ensures.next in let k = some_of (chain_at m c.in-Some.id) next.there in let e = c.with_chain-census.ensures in
    count-more m c.few_objects.ensures c.loop-id.after c.loop-id.census c.loop-id.invariant c.in-Some.id next k.0 k.1 (sound-there m c.in-Some.id k.0 k.1 (c.known.ensures.sound c.in-Some.id)) c.with_chain-census.result
    (e.partitions k.0 k.1) (e.rows k.0 k.1) (e.dummies k.0 k.1)

pub returns : goal.returns
returns g c = count-ended c.args.chains.now c.loop-id.after c.loop-id.census c.loop-id.invariant (none-of c.next_chain.result _ c.in_default.not-Some c.next_chain.ensures.none)
