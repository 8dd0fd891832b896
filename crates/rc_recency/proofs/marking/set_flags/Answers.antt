use Rattle.std.proofs.Common.{refl, arith}
use Rattle.rc_core.specs.Steps.{set_flags, with_flags}
use Rattle.rc_memory.specs.Bytes.{flags-bytes}
use Rattle.rc_recency.proofs.Aligned.{positions-at}
use Rattle.rc_recency.proofs.Marked.{entry-marked, entry-there}
use Rattle.rc_recency.proofs.marking.set_flags.Goals as goal

pub set_flags-requires : goal.set_flags-requires
set_flags-requires g c = let q = c.requires in (omega arith, entry-there q.0 c.args.region.now q.1 q.2 q.3 q.7 q.4 q.5 q.6 c.args.e q.8)

pub returns-clause-changed : goal.returns-clause-changed
returns-clause-changed g c = let k = c.set_flags.ensures in
    entry-marked c.args.region.now c.set_flags.new.region c.args.e (λ x. set_flags x c.args.at c.args.gap) k.set k.kept k.rewritten c.known.ensures.summed c.known-2.ensures.well c.known-2.ensures.summed
    (λ x d. flags-bytes x c.args.at c.args.gap d) (λ x d. positions-at (with_flags c.args.at c.args.gap) (λ e. refl) x d.entries)
