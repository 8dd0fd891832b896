use Rattle.std.proofs.Common.{◌+◌, ◌≤◌, length, take, get_or, set, Some, refl, sym, ap, ◌∙◌, arith, length-take}
use Rattle.lsa_segment.proofs.Written.{length-written, next_byte}
use Rattle.lsa_segment.proofs.block.put.Goals as goal

pub write-requires : goal.write-requires
write-requires c =
    let old = c.args.bytes.now.bytes in let source = c.args.source.now in let i = c.loop-index.index in
    let inside : c.args.from + length (take i source) ≤ length old = omega (arith, length-take i source, c.requires.inside) in (
      c.requires.start ∙ sym c.loop-index.invariant.start,
      omega (arith, ap length c.loop-index.invariant.after, length-written old c.args.from (take i source) inside, c.requires.inside, c.loop-index-test.true),
    )

pub loop-index-preserved : goal.loop-index-preserved
loop-index-preserved c =
    let old = c.args.bytes.now.bytes in let source = c.args.source.now in let i = c.loop-index.index in let byte = get_or source i 0 in
    record {
      start = c.write.ensures.0 ∙ c.loop-index.invariant.start;
      after = c.write.ensures.1 ∙ ap (λ l. set l (c.args.from + i) (Some byte)) c.loop-index.invariant.after
          ∙ next_byte old c.args.from source i byte c.requires.inside c.loop-index-test.true refl;
    }
