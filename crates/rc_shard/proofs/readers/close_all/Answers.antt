-- The last reader is closed; the others hold what they held.
use Rattle.std.proofs.Common.{ℕ, List, map, AllPairs, sym, subst}
use Rattle.std.specs.List.{AllByRecursion}
use Rattle.rc_paging.specs.declared.layers.HeldSnaps.{HeldSnaps}
use Rattle.rc_paging.specs.Forms.{held_by}
use Rattle.rc_shard.specs.declared.readers.PartitionReader.{PartitionReader}
use Rattle.rc_shard.specs.Readers.{AreHeldThere, AreTwo, holding}
use Rattle.rc_shard.specs.calls.Opened.{AreHeldReleased}
use Rattle.rc_shard.proofs.Closing.{back-pins, back-seen, closed-held, front-two, last-held}
use Rattle.rc_shard.proofs.Looking.{Beside}
use Rattle.rc_shard.proofs.readers.close_all.Goals as goal

pub release_held-requires : goal.release_held-requires
release_held-requires c =
    let x : ℕ × PartitionReader = (c.in-Some._id, c.in-Some.opened) in
    let held = last-held c.loop-id.unstored.chains x c.pop.new.self.items (subst (AllByRecursion (λ (o : ℕ × PartitionReader). AreHeldThere c.loop-id.unstored.chains (held_by o.1.reader))) c.in-Some.ensures.items c.loop-id.invariant.held) in
    subst (AreHeldThere c.loop-id.unstored.chains) (sym c.held_of.ensures) held

pub loop-id-preserved : goal.loop-id-preserved
loop-id-preserved c =
    let x : ℕ × PartitionReader = (c.in-Some._id, c.in-Some.opened) in
    let two = subst (λ (os : List (ℕ × PartitionReader)). AllPairs AreTwo (map holding os)) c.in-Some.ensures.items c.loop-id.invariant.two in
    let held = subst (AllByRecursion (λ (o : ℕ × PartitionReader). AreHeldThere c.loop-id.unstored.chains (held_by o.1.reader))) c.in-Some.ensures.items c.loop-id.invariant.held in
    let back : AreHeldReleased (held_by x.1.reader) c.loop-id.unstored c.release_held.new.unstored = subst (λ (h : HeldSnaps). AreHeldReleased h c.loop-id.unstored c.release_held.new.unstored) c.held_of.ensures c.release_held.ensures in
    let beside : Beside = λ schema u n writes later. c.what_leaves_the_chains_of_both_leaves_their_writes.ensures.beside 131072 schema u n writes later in
    record { held = closed-held c.loop-id.unstored.chains c.release_held.new.unstored.chains x c.pop.new.self.items (back-seen beside (held_by x.1.reader) c.loop-id.unstored c.release_held.new.unstored back) (back-pins beside (held_by x.1.reader) c.loop-id.unstored c.release_held.new.unstored back) two held; two = front-two x c.pop.new.self.items two }
