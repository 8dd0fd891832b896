use Rattle.std.proofs.Common.{◌≡◌, arith}
use Rattle.rc_cell.specs.Winner.{empty_row}
use Rattle.rc_populate.proofs.Given.{none-filled, none-left, none-listed, some-filled, some-fits, some-left, some-listed, some-small, some-spare}
use Rattle.rc_populate.proofs.fills.put_static.Goals as goal

pub set_static_flag-requires : goal.set_static_flag-requires
set_static_flag-requires g c = (omega arith, c.requires.version)

pub join_static-requires : goal.join_static-requires
join_static-requires g c =
    let off : c.args.row.now ≡ empty_row → ⊥ = λ e. (let yes = c.is_empty.ensures.1 e in let no = c.if-is_empty.false in absurd (cc)) in
    (omega arith, ((c.requires.row, some-small g.row.S c.args.chains.now c.args.id c.args.number c.args.row.now off c.requires.small), (c.requires.version, (some-spare g.row.S c.args.chains.now c.args.id c.args.number c.args.row.now off c.requires.source c.requires.spare, some-fits g.row.S c.args.chains.now c.args.id c.args.number c.args.row.now off c.requires.fits))))

pub returns-then-is_empty-clause-filled : goal.returns-then-is_empty-clause-filled
returns-then-is_empty-clause-filled g c = none-filled g.row.S c.args.chains.now c.args.id c.args.number c.args.row.now (c.is_empty.ensures.0 c.if-is_empty.true) c.set_static_flag.new.self c.set_static_flag.ensures.set

pub returns-then-is_empty-clause-listed : goal.returns-then-is_empty-clause-listed
returns-then-is_empty-clause-listed g c = none-listed g.row.S c.args.chains.now c.args.id c.args.number c.args.row.now (c.is_empty.ensures.0 c.if-is_empty.true) c.set_static_flag.new.self c.set_static_flag.ensures.recency

pub returns-then-is_empty-clause-spare : goal.returns-then-is_empty-clause-spare
returns-then-is_empty-clause-spare g c = none-left g.row.S c.args.chains.now c.args.row.now c.set_static_flag.new.self c.set_static_flag.ensures.spare

pub returns-else-is_empty-clause-filled : goal.returns-else-is_empty-clause-filled
returns-else-is_empty-clause-filled g c =
    let off : c.args.row.now ≡ empty_row → ⊥ = λ e. (let yes = c.is_empty.ensures.1 e in let no = c.if-is_empty.false in absurd (cc)) in
    some-filled g.row.S c.args.chains.now c.args.id c.args.number c.args.row.now off c.join_static.new.self c.join_static.ensures.joined

pub returns-else-is_empty-clause-listed : goal.returns-else-is_empty-clause-listed
returns-else-is_empty-clause-listed g c =
    let off : c.args.row.now ≡ empty_row → ⊥ = λ e. (let yes = c.is_empty.ensures.1 e in let no = c.if-is_empty.false in absurd (cc)) in
    some-listed g.row.S c.args.chains.now c.args.id c.args.number c.args.row.now off c.join_static.new.self c.join_static.ensures.recency

pub returns-else-is_empty-clause-spare : goal.returns-else-is_empty-clause-spare
returns-else-is_empty-clause-spare g c =
    let off : c.args.row.now ≡ empty_row → ⊥ = λ e. (let yes = c.is_empty.ensures.1 e in let no = c.if-is_empty.false in absurd (cc)) in
    some-left g.row.S c.args.chains.now c.args.id c.args.number c.args.row.now off c.join_static.new.self c.requires.version c.requires.source c.join_static.ensures.spare
