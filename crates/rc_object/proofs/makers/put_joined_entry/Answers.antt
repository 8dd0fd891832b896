use Rattle.std.proofs.Common.{refl}
use Rattle.rc_rowcode.specs.Spelling.{row_code}
use Rattle.rc_core.specs.Change.{joined_onto}
use Rattle.rc_object.proofs.Built.{ready_put, begun_as}
use Rattle.rc_object.proofs.makers.put_joined_entry.Goals as goal

pub returns-clause-built : goal.returns-clause-built
returns-clause-built g c = λ x row holds code.
    let all = joined_onto x.row row in let marks = c.marks.ensures x holds in
    let begun = begun_as c.begin_like.new.sc.bytes x.position c.marks.result.0 c.marks.result.1 x.at x.gap marks.0 marks.1 (c.begin_like.ensures.begun x holds) in
    ready_put c.begin_like.new.sc c.put_joined.new.sc x.position x.at x.gap all (row_code all) c.put_joined.new.sc.bytes begun (c.put_joined.ensures.joined x row holds code) refl refl (c.put_joined.ensures.coded x row holds code)
