use Rattle.std.proofs.Common.{Some, refl, arith}
use Rattle.rc_chain_guarded.proofs.Steps.{from-if}
use Rattle.rc_chain_guarded.proofs.Fitting.{known-kept}
use Rattle.rc_core.specs.Steps.{set_flags}
use Rattle.rc_memory.specs.Changes.{member_at}
use Rattle.rc_memory.specs.laws.Rows.{keeps-flags}
use Rattle.rc_chain_guarded.proofs.changes.set_flags.Goals as goal

pub set_flags-requires : goal.set_flags-requires
set_flags-requires c = let here = from-if _ c.object_at.result c.in-Some.e c.object_at.ensures.here c.in-Some.is in (omega arith, (member_at c.args.at.chain c.args.at.version (Some c.args.x.now), c.args.x.now, refl, here))

pub returns-in-Some : goal.returns-in-Some
returns-in-Some c =
    let o = c.object_at.ensures in let m = c.object_at.new.chains in let id = c.args.at.chain in let j = c.args.at.version in let e = c.in-Some.e in let here = from-if _ c.object_at.result e o.here c.in-Some.is in
    let n = c.set_flags.new.self in let x = c.args.x.now in let known = c.object_at.new.known in
    known-kept m n id j (set_flags x c.args.on c.args.gap) (c.set_flags.ensures.set (member_at id j (Some x)) x refl here).chains (from-if _ c.object_at.result e o.there c.in-Some.is) known known o.known refl refl
    (from-if _ c.object_at.result e o.beside c.in-Some.is) (keeps-flags x c.args.on c.args.gap) c.set_flags.ensures.recency
