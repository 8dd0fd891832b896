use Rattle.std.proofs.Common.{ap}
use Rattle.rc_memory.specs.Changes.{AtAlone, Nowhere, member_at}
use Rattle.rc_memory.specs.laws.Still.{changed-listed, is-changed, listed-changed, still-listed, unmoved-listed}
use Rattle.rc_memory.proofs.laws.held_stands_still.Goals as goal

pub returns-clause-everywhere : goal.returns-clause-everywhere
returns-clause-everywhere c = λ slots old new registry counts m id j p s now d f h there number kept is does rows. is-changed slots old new registry counts m h id j p s there number now d kept is f Nowhere does (λ at r off a. rows at r a)

pub returns-clause-beside : goal.returns-clause-beside
returns-clause-beside c = λ slots old new registry counts m id j p s now d f place h there number kept is does rows. is-changed slots old new registry counts m h id j p s there number now d kept is f (AtAlone (member_at id j place)) does
    (λ at r off a. rows at r (λ e. off (ap (λ y. member_at id j y) e)) a)

pub returns-clause-listed : goal.returns-clause-listed
returns-clause-listed c = λ slots old new registry counts m list h elsewhere objects well. (still-listed slots old new registry counts m h elsewhere objects well list, unmoved-listed slots old new registry counts m h elsewhere objects well list)

pub returns-clause-before : goal.returns-clause-before
returns-clause-before c = λ id j f w m n list region still unmoved changed. listed-changed id j f (AtAlone w) m n list region still unmoved changed

pub returns-clause-behind : goal.returns-clause-behind
returns-clause-behind c = λ id j f w m n list region changed still unmoved. changed-listed id j f (AtAlone w) m n list region changed still unmoved

pub returns-clause-kept : goal.returns-clause-kept
returns-clause-kept c = λ id j f m n list region changed still unmoved. changed-listed id j f Nowhere m n list region changed still unmoved
