-- The first byte decides which of the two it is.
use Rattle.std.proofs.Common.{Some, length}
use Rattle.std.specs.Prelude.{IfOk, ◌≡◌}
use Rattle.rc_tables.specs.calls.Rebuilt.{frag_code}
use Rattle.rc_tables.proofs.Spelled.{finds_row, finds_change}
use Rattle.rc_tables.proofs.decoding.read_fragment.Goals as goal

pub returns-in-Some-clause-value : goal.returns-in-Some-clause-value
returns-in-Some-clause-value c =
    finds_row c.args.bytes.now c.in-Some._rest.now c.in-Some.ensures (λ f. IfOk c.read_row_fragment.result (λ found. found ≡ Some (f, length (frag_code f)))) c.read_row_fragment.ensures.value

pub returns-clause-value : goal.returns-clause-value
returns-clause-value c =
    finds_change c.args.bytes.now c.in_default.ensures (λ f. IfOk c.read_change_fragment.result (λ found. found ≡ Some (f, length (frag_code f)))) c.read_change_fragment.ensures.value
