use Rattle.std.proofs.Common.{◌≡◌, sym, subst, arith}
use Rattle.rc_core.specs.declared.entries.Mark.{Mark}
use Rattle.rc_core.specs.Steps.{set_flags, set_tombs}
use Rattle.rc_core.specs.Version.{Version}
use Rattle.rc_memory.specs.Changes.{Nowhere}
use Rattle.rc_populate.specs.calls.Marked.{known_at}
use Rattle.rc_populate.proofs.Changed.{changed-alike, changed-both}
use Rattle.rc_populate.proofs.Marking.{marked-known}
use Rattle.rc_populate.proofs.rows.know.Goals as goal

pub set_flags-requires : goal.set_flags-requires
set_flags-requires g c = (omega arith, c.requires)

pub set_tombs-requires : goal.set_tombs-requires
set_tombs-requires g c = let q = c.requires in (omega arith, (q.0, q.1, q.2, (c.set_flags.ensures.set q.0 q.1 q.2 q.3).still.objects c.args.e q.0 (λ no. no) q.3))

pub returns-clause-known : goal.returns-clause-known
returns-clause-known g c = λ w x is at.
    let m = c.args.chains.now in let n = c.set_flags.new.self in let o = c.set_tombs.new.self in let id = w.chain in let j = w.version in let gap = c.marks.result.1 in let k = c.filled_mark-known.result in
    let flags = c.set_flags.ensures.set w x is at in
    let both = changed-both id j Nowhere (set_flags x k.flag gap.flag) (set_tombs x k.tomb gap.tomb) m n o flags (c.set_tombs.ensures.set w x is (flags.still.objects c.args.e w (λ no. no) at)) in
    changed-alike id j Nowhere (λ (v : Version). set_tombs x k.tomb gap.tomb (set_flags x k.flag gap.flag v)) (known_at x c.args.tomb) m o
    (λ q v e number. subst (λ (k : Mark). set_tombs x k.tomb gap.tomb (set_flags x k.flag gap.flag v) ≡ known_at x c.args.tomb v) (sym c.filled_mark-known.ensures)
    (marked-known x c.marks.result.0 gap c.args.tomb v (c.known.ensures.versions id j q v e number) (c.marks.ensures w x is at q v e number)))
    both
