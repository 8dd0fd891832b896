-- The position is that of a row.
use Rattle.std.specs.Prelude.{◌≡◌, List, Option}
use Rattle.std.proofs.Common.{sym, subst}
use Rattle.rc_cell.specs.declared.rows.Row.{Row}
use Rattle.rc_cell.specs.declared.writes.Tomb.{Tomb}
use Rattle.rc_cell.specs.Winner.{empty_row}
use Rattle.rc_position.specs.declared.positions.Pos.{Pos}
use Rattle.rc_position.specs.declared.positions.Weight.TheVariants.{At}
use Rattle.rc_position.specs.Position.{row_pos}
use Rattle.rc_mutation.specs.declared.mutations.Mutation.{Mutation}
use Rattle.rc_stream.specs.Snapshot.{SayThere}
use Rattle.rc_cacheread.specs.calls.Below.{Filling}
use Rattle.rc_cacheread.proofs.Chains.{one}
use Rattle.rc_cacheread.proofs.filling.fill_none.Goals as goal

-- the position is that of the row's key, and the row is empty
at : (x : Pos) (r : Row) (t : Option Tomb) (writes : List Mutation) → x.weight ≡ At → r ≡ empty_row → SayThere writes x (empty_row, t) → SayThere writes (row_pos x.prefix) (r, t)
at x r t writes w e a = subst (λ (z : Pos × Row). SayThere writes z.0 (z.1, t)) (λ i. (record { prefix = x.prefix; weight = w i }, sym e i)) a

pub row-requires-clause-source : goal.row-requires-clause-source
row-requires-clause-source g c = (c.requires.source.0, c.requires.source.1, at c.args.at.now c.empty-row.result c.args.tomb c.requires.source.0 c.in-At.is c.empty-row.ensures c.requires.source.2)

pub returns-in-At-clause-did : goal.returns-in-At-clause-did
returns-in-At-clause-did g c = one (λ ok. Filling g.P.Filler.fills) (c.args.filler.now, c.args.home.now) (c.row.new.self, c.row.new.home) c.row.ensures.did

pub returns-in-At-clause-taken : goal.returns-in-At-clause-taken
returns-in-At-clause-taken g c =
    record { still = c.row.ensures.may; each = c.row.ensures.keeps; now = λ m e. tt }

pub returns-in-At-clause-stands : goal.returns-in-At-clause-stands
returns-in-At-clause-stands g c = λ writes d t. c.row.ensures.stands writes d (at c.args.at.now c.empty-row.result c.args.tomb writes c.in-At.is c.empty-row.ensures t)
