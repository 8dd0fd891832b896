use Rattle.std.proofs.Common.{arith}
use Rattle.rc_chain_guarded.proofs.Steps.{beside-same, from-if, known-lost}
use Rattle.rc_chain_guarded.proofs.Fitting.{limits-dropped}
use Rattle.rc_core.specs.Change.{drop_at}
use Rattle.rc_core.specs.Continuity.{with_entries}
use Rattle.rc_core.specs.Version.{Version}
use Rattle.rc_chain_guarded.proofs.changes.drop_entry.Goals as goal

pub drop_entry-requires : goal.drop_entry-requires
drop_entry-requires c = let here = from-if _ c.object_at.result c.in-Some.e c.object_at.ensures.here c.in-Some.is in (omega arith, (c.args.x.now, here, c.is_end.ensures.inner c.if-is_end.false))

pub returns-in-Some : goal.returns-in-Some
returns-in-Some c =
    let o = c.object_at.ensures in let m = c.object_at.new.chains in let id = c.args.at.chain in let j = c.args.at.version in let e = c.in-Some.e in let here = from-if _ c.object_at.result e o.here c.in-Some.is in
    let n = c.drop_entry.new.self in let x = c.args.x.now in
    known-lost m n id j (λ (v : Version). with_entries (drop_at x v.entries) v) (c.drop_entry.ensures.dropped x here).chains (from-if _ c.object_at.result e o.there c.in-Some.is) c.object_at.new.known c.forget_full.new.self o.known
    c.forget_full.ensures.held c.forget_full.ensures.full (beside-same id j c.object_at.new.known c.forget_full.new.self c.forget_full.ensures.bare (from-if _ c.object_at.result e o.beside c.in-Some.is)) (limits-dropped x)
