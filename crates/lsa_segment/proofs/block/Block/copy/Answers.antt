use Rattle.std.proofs.Common.{sym, subst, ◌+◌, ◌≤◌, ap, ◌∙◌, length, take, drop, arith}
use Rattle.circular_buffer.specs.Places.{somes, IsRun}
use Rattle.lsa_segment.proofs.Written.{length-written, run-count}
use Rattle.lsa_segment.proofs.block.Block.copy.Goals as goal

pub invariant_of-self : goal.invariant_of-self
invariant_of-self c =
    let old = c.self.inside.bytes.bytes in let xs = somes (take c.args.len (drop c.args.from old)) in
    let inside : c.args.to + length xs ≤ length old = omega (arith, run-count old c.args.from c.args.len (subst (λ l. IsRun l c.args.from c.args.len) (sym c.self.view_is) c.requires.set), ap length c.self.view_is, c.requires.inside) in
    (ap length c.copy_over.ensures.after ∙ length-written old c.args.to xs inside ∙ c.self.invariant.0, c.copy_over.ensures.start ∙ c.self.invariant.1, c.self.invariant.2, c.self.invariant.3, c.self.invariant.4)
