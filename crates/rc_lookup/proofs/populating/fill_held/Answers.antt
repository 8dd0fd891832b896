-- The snapshot stays where all was filled, and is given up where memory was refused.
use Rattle.std.proofs.Common.{Some, inl, inr, refl, ◌∙◌, subst, arith}
use Rattle.std.specs.Prelude.{OnOk}
use Rattle.rc_core.specs.Version.{end_position}
use Rattle.rc_memory.specs.Changes.{member_at}
use Rattle.rc_cached.specs.Filling.{MayFill}
use Rattle.rc_stream.specs.Snapshot.{NoneLost}
use Rattle.rc_cursor.specs.Snapshots.{Knows}
use Rattle.rc_cacheread.specs.Passing.{IsKnownOver}
use Rattle.rc_row_cache.specs.Crowds.{loses-after}
use Rattle.rc_row_cache.specs.Entries.{LeavesCached}
use Rattle.rc_row_cache.specs.Fillers.{losses}
use Rattle.rc_row_cache.specs.Saying.{CacheSays}
use Rattle.rc_snapshots.specs.Streams.{first_position}
use Rattle.rc_lookup.specs.laws.Rest.{but-then}
use Rattle.rc_lookup.proofs.populating.fill_held.Goals as goal

pub give_up-requires : goal.give_up-requires
give_up-requires g c = (omega arith, c.fill_read-filled.ensures.through.rest.pins c.args.snap.chain c.args.snap.pin c.requires.stands.1.snapshot)

pub returns-in-Ok-clause-through : goal.returns-in-Ok-clause-through
returns-in-Ok-clause-through g c = (refl, c.fill_read-filled.ensures.through)

pub returns-in-Ok-clause-whole : goal.returns-in-Ok-clause-whole
returns-in-Ok-clause-whole g c = λ head none.
    let s = c.args.snap in
    let old = c.args.chains.now in
    let x = c.fill_read-filled.new.chains in
    let through = c.fill_read-filled.ensures.through in
    let known = subst (λ r. OnOk r (MayFill old s.chain s.pin → NoneLost (losses old) (losses x) → IsKnownOver (Knows x s) first_position end_position)) c.in-Ok.is c.fill_read-filled.ensures.known in
    record {
      known = record { each = known head.may none; static_row = through.statics none head.statics };
      may = c.fill_read-filled.ensures.may head.may;
      listed = through.listed none (member_at s.chain 0 (Some end_position)) head.listed;
    }

pub returns-in-Ok-clause-lost : goal.returns-in-Ok-clause-lost
returns-in-Ok-clause-lost g c =
    let counts = c.fill_read-filled.ensures.through.rest.counts in
    omega (arith, counts.evicted, counts.skipped)

pub returns-in-Ok-clause-beside : goal.returns-in-Ok-clause-beside
returns-in-Ok-clause-beside g c = c.fill_read-filled.ensures.through.beside

pub returns-in-Ok-clause-cached : goal.returns-in-Ok-clause-cached
returns-in-Ok-clause-cached g c =
    let s = c.args.snap in
    let old = c.args.chains.now in
    let x = c.fill_read-filled.new.chains in
    let through = c.fill_read-filled.ensures.through in
    let filled : LeavesCached old x = c.each_change_leaves_the_caches_chains.ensures.several old x
    (λ id k e. elim (through.told id k e) [ inl now ↦ inl (record { now = now.0; there = now.1; kind = now.2.kind; attached = now.2.attached }) | inr gone ↦ inr gone.1 ])
    through.absent through.still c.known.ensures.told in
    filled

pub returns-in-Ok-clause-says : goal.returns-in-Ok-clause-says
returns-in-Ok-clause-says g c = λ schema below is writes fits stands same here says.
    let s = c.args.snap in
    let old = c.args.chains.now in
    let x = c.fill_read-filled.new.chains in
    let through = c.fill_read-filled.ensures.through in
    let filled : CacheSays schema below x = c.the_cache_says_what_lies_below_after_fills.ensures.filled g.row.S schema below s.chain s.pin old x is writes through.done fits here (c.fill_read-filled.ensures.stands writes stands same) says in
    filled

pub returns-in-Ok-clause-loses : goal.returns-in-Ok-clause-loses
returns-in-Ok-clause-loses g c = c.fill_read-filled.ensures.loses

pub returns-in-Err-clause-rest_err : goal.returns-in-Err-clause-rest_err
returns-in-Err-clause-rest_err g c = λ before but fresh.
    let s = c.args.snap in
    let old = c.args.chains.now in
    let x = c.fill_read-filled.new.chains in
    let through = c.fill_read-filled.ensures.through in
    c.give_up.ensures.rest before (but-then s before old x but through.rest) fresh

pub returns-in-Err-clause-lost : goal.returns-in-Err-clause-lost
returns-in-Err-clause-lost g c =
    let counts = c.fill_read-filled.ensures.through.rest.counts in
    let same = c.give_up.ensures.lost in
    omega (arith, same, counts.evicted, counts.skipped)

pub returns-in-Err-clause-beside : goal.returns-in-Err-clause-beside
returns-in-Err-clause-beside g c = λ none id ne.
    let s = c.args.snap in
    let old = c.args.chains.now in
    let x = c.fill_read-filled.new.chains in
    let through = c.fill_read-filled.ensures.through in
    c.give_up.ensures.beside id ne ∙ through.beside (subst (NoneLost (losses old)) c.give_up.ensures.lost none) id ne

pub returns-in-Err-clause-cached : goal.returns-in-Err-clause-cached
returns-in-Err-clause-cached g c =
    let s = c.args.snap in
    let old = c.args.chains.now in
    let x = c.fill_read-filled.new.chains in
    let through = c.fill_read-filled.ensures.through in
    let filled : LeavesCached old x = c.each_change_leaves_the_caches_chains.ensures.several old x
    (λ id k e. elim (through.told id k e) [ inl now ↦ inl (record { now = now.0; there = now.1; kind = now.2.kind; attached = now.2.attached }) | inr gone ↦ inr gone.1 ])
    through.absent through.still c.known.ensures.told in
    c.what_leaves_the_caches_chains_leaves_the_entries.ensures.both old x c.give_up.new.chains filled c.give_up.ensures.cached

pub returns-in-Err-clause-says : goal.returns-in-Err-clause-says
returns-in-Err-clause-says g c = λ schema below is writes fits stands same here says.
    let s = c.args.snap in
    let old = c.args.chains.now in
    let x = c.fill_read-filled.new.chains in
    let through = c.fill_read-filled.ensures.through in
    let filled : CacheSays schema below x = c.the_cache_says_what_lies_below_after_fills.ensures.filled g.row.S schema below s.chain s.pin old x is writes through.done fits here (c.fill_read-filled.ensures.stands writes stands same) says in
    c.give_up.ensures.says schema below filled

pub returns-in-Err-clause-loses : goal.returns-in-Err-clause-loses
returns-in-Err-clause-loses g c = λ schema limits fits.
    let s = c.args.snap in
    let old = c.args.chains.now in
    let x = c.fill_read-filled.new.chains in
    let through = c.fill_read-filled.ensures.through in
    loses-after g.row.S 0 old x c.give_up.new.chains (c.fill_read-filled.ensures.loses schema limits fits) c.give_up.ensures.loses
