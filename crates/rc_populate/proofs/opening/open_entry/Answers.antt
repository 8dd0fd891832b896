use Rattle.std.proofs.Common.{arith}
use Rattle.rc_populate.specs.Filling.{filled_statics}
use Rattle.rc_populate.specs.laws.Opening.{entry-opened, given-is, made-fits, made-has, made-within}
use Rattle.rc_populate.proofs.opening.open_entry.Goals as goal

pub put_static-requires : goal.put_static-requires
put_static-requires g c =
    let row = c.args.head.now.statics in let made = c.in_ok-id.ensures.made in let spare = c.requires.spare in let left = c.in_ok-id.ensures.spare in
    (omega arith, (c.requires.row, (c.requires.small, (made-has c.in_ok-id.id c.args.phase c.args.head.now.pt c.args.chains.now c.new_chain.new.self made, (made-within c.in_ok-id.id c.args.phase c.args.head.now.pt c.args.chains.now c.new_chain.new.self made row c.row_in_range.ensures.ascending, (made-fits c.in_ok-id.id c.args.phase c.args.head.now.pt c.args.chains.now c.new_chain.new.self made g.row.S (filled_statics row) c.known.ensures.fit (given-is row c.row_in_range.ensures.ascending) c.requires.small, omega (arith, spare, left)))))))

pub returns-clause-opened : goal.returns-clause-opened
returns-clause-opened g c = entry-opened c.in_ok-id.id c.args.phase c.args.head.now.pt c.args.chains.now c.new_chain.new.self c.in_ok-id.ensures.made (filled_statics c.args.head.now.statics) c.put_static.new.chains c.put_static.ensures.filled c.put_static.ensures.listed c.known.ensures.rule
