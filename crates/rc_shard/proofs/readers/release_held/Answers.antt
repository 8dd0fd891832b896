-- The snapshot of the row cache is taken back, and then both of what is written.
use Rattle.std.proofs.Common.{◌∙◌, arith}
use Rattle.rc_snapshots.specs.Seeing.{AreThere}
use Rattle.rc_snapshots.specs.laws.Seeing.{there-then}
use Rattle.rc_shard.proofs.Caching.{counts-back-if, there-behind}
use Rattle.rc_shard.proofs.Closing.{past-rest}
use Rattle.rc_shard.proofs.GoneOn.{seen-if}
use Rattle.rc_shard.proofs.readers.release_held.Goals as goal

pub release_both-requires : goal.release_both-requires
release_both-requires c =
    let old = c.args.unstored.now.chains in
    let mid = c.give_back.new.chains in
    let h = c.requires in
    let rest = past-rest c.args.held.cached old mid c.give_back.ensures.back in
    (omega arith, (there-then old mid c.args.held.written h.written (seen-if old mid c.args.held.written rest.seen h.written), h.two))

pub returns : goal.returns
returns c =
    let old = c.args.unstored.now.chains in
    let mid = c.give_back.new.chains in
    let new = c.release_both.new.self.chains in
    let h = c.requires in
    let snaps = c.args.held.written in
    let rest = past-rest c.args.held.cached old mid c.give_back.ensures.back in
    let there : AreThere mid snaps = there-then old mid snaps h.written (seen-if old mid snaps rest.seen h.written) in
    let back = c.release_both.ensures in
    let r = back.released in
    record {
      mid = mid;
      past = c.give_back.ensures.back;
      both = record { stands = λ schema writes later on. back.stands schema writes later on; others = back.others; room = back.room; released = r; keys = back.keys };
      cache = c.what_calls_leave_of_the_cache.ensures.back mid r.0 new snaps there h.two r.1 r.2;
      counts = counts-back-if snaps.active r.0 new (there-behind snaps.sealed snaps.active mid r.0 there.sealed there.active h.two r.1) r.2 ∙ (counts-back-if snaps.sealed mid r.0 there.sealed r.1 ∙ rest.counts);
    }
