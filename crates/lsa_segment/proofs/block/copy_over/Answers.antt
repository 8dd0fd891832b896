use Rattle.std.proofs.Common.{◌+◌, [], ◌∷◌, take, drop, get_or, set, Some, sym, ap, ◌∙◌, arith}
use Rattle.std.proofs.lemmas.List.{take_all}
use Rattle.circular_buffer.specs.Places.{somes}
use Rattle.lsa_segment.specs.calls.Places.{written_places}
use Rattle.lsa_segment.proofs.Written.{map-some, next_byte, copying, run-count}
use Rattle.lsa_segment.proofs.block.copy_over.Goals as goal

pub slice-requires : goal.slice-requires
slice-requires c =
    let old = c.args.bytes.now.bytes in let xs = somes (take c.args.len (drop c.args.from old)) in let i = c.loop-index.index in
    let step = copying old c.loop-index.bytes.bytes c.args.from c.args.len c.args.to i c.requires.set c.requires.inside c.requires.apart c.loop-index-test.true c.loop-index.invariant.after in
    (c.requires.start ∙ sym c.loop-index.invariant.start, (step.near, (get_or xs i 0 ∷ [], step.read)))

pub write-requires : goal.write-requires
write-requires c =
    let old = c.args.bytes.now.bytes in
    let step = copying old c.loop-index.bytes.bytes c.args.from c.args.len c.args.to c.loop-index.index c.requires.set c.requires.inside c.requires.apart c.loop-index-test.true c.loop-index.invariant.after in
    (c.requires.start ∙ sym c.loop-index.invariant.start, step.far)

pub loop-index-preserved : goal.loop-index-preserved
loop-index-preserved c =
    let old = c.args.bytes.now.bytes in let xs = somes (take c.args.len (drop c.args.from old)) in let i = c.loop-index.index in
    let step = copying old c.loop-index.bytes.bytes c.args.from c.args.len c.args.to i c.requires.set c.requires.inside c.requires.apart c.loop-index-test.true c.loop-index.invariant.after in
    let read = map-some c.slice.result.now (get_or xs i 0 ∷ []) (sym c.slice.ensures ∙ step.read) in let byte = get_or c.slice.result.now 0 0 in
    record {
      start = c.write.ensures.0 ∙ c.loop-index.invariant.start;
      after = c.write.ensures.1 ∙ ap (λ l. set l (c.args.to + i) (Some byte)) c.loop-index.invariant.after
          ∙ next_byte old c.args.to xs i byte step.fits step.less (ap (λ l. get_or l 0 0) read);
    }

pub returns-clause-after : goal.returns-clause-after
returns-clause-after c =
    let old = c.args.bytes.now.bytes in let xs = somes (take c.args.len (drop c.args.from old)) in
    let long = run-count old c.args.from c.args.len c.requires.set in
    c.loop-index.invariant.after ∙ ap (written_places old c.args.to) (take_all c.loop-index.index xs (omega (arith, long, c.loop-index-test.false)))
