-- What the reader past the row cache leaves is left.
use Rattle.rc_paging.proofs.OfForms.{gone_past}
use Rattle.rc_paging.proofs.forms.PartReader.go_past.Goals as goal

pub returns-in-Ok-clause-lines : goal.returns-in-Ok-clause-lines
returns-in-Ok-clause-lines g c = λ schema below writes later lines of_sealed of_active stand l.
    gone_past _ g.row.S c.args.chains.now c.go_past.new.chains c.args.self.now c.replace-before.new.dest c.in-Cached.reader c.in-Ok.past below writes later c.args.read lines c.in-Cached.is c.replace-before.ensures.after
    (λ s. c.in-Ok.ensures.lines schema below writes later of_sealed of_active s) stand
