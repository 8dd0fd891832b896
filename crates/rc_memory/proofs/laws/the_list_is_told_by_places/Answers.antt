use Rattle.rc_memory.specs.laws.Listed.{at-listed, front-at, list-at, listed-at, none-at, unlisted-at}
use Rattle.rc_memory.proofs.laws.the_list_is_told_by_places.Goals as goal

pub returns-clause-listed : goal.returns-clause-listed
returns-clause-listed c = λ slots v registry counts m r w h here on. listed-at slots v registry counts m h r w here on

pub returns-clause-placed : goal.returns-clause-placed
returns-clause-placed c = λ slots v registry counts m r w h here on. at-listed slots v registry counts m h r w here on

pub returns-clause-unlisted : goal.returns-clause-unlisted
returns-clause-unlisted c = λ slots v registry counts m r w h here off. unlisted-at slots v registry counts m h r w here off

pub returns-clause-split : goal.returns-clause-split
returns-clause-split c = λ slots v registry counts m front w back r h is here. list-at slots v registry counts m h front w back r is here

pub returns-clause-front : goal.returns-clause-front
returns-clause-front c = λ slots v registry counts m r h is. front-at slots v registry counts m h r is

pub returns-clause-empty : goal.returns-clause-empty
returns-clause-empty c = λ slots v registry counts m h is. none-at slots v registry counts m h is
