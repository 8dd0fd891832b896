use Rattle.std.proofs.Common.{arith}
use Rattle.rc_row_cache.proofs.Calls.{made-leaves}
use Rattle.rc_row_cache.proofs.Leaving.{UseLaws, leaves-less}
use Rattle.rc_row_cache.proofs.Putting.{applied-more}
use Rattle.rc_row_cache.proofs.footprint.a_write_is_of_a_memtable.Goals as goal

pub returns : goal.returns
returns c =
    let use_of = c.evictions_leave_the_use_of_a_chain.ensures in
    let uses : UseLaws = record { kind = use_of.kind; count = use_of.count } in
    record {
      applied = λ S schema w before now old new writes h live_old live_new a. applied-more S schema w before now old new writes h a live_old live_new;
      put = λ S schema w old new writes later p rule h live_new. (
          let less = leaves-less old.chains p.mid (made-leaves uses S old.chains p.mid p.room) in
          let kept = (c.what_leaves_the_chains_of_both_leaves_their_writes.ensures.made S schema old p.mid writes later rule p.room h).active in
          let more = applied-more S schema w old.active new.active p.mid new.chains later kept p.applied p.live live_new in
          omega (arith, less, more));
    }
