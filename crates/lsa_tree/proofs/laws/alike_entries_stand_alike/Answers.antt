use Rattle.std.proofs.lemmas.List.Elements.{Contains-append_left, Contains-append_right}
use Rattle.lsa_tree.specs.laws.Orders.{belongs-kept}
use Rattle.lsa_tree.specs.laws.Trees.{alike-stands, stands-read}
use Rattle.lsa_tree.proofs.laws.alike_entries_stand_alike.Goals as goal

pub returns-clause-alike : goal.returns-clause-alike
returns-clause-alike c = λ old new r x h same. alike-stands old new r x same h

pub returns-clause-read : goal.returns-clause-read
returns-clause-read c = λ old new r x h same. stands-read old new r same x h

pub returns-clause-belongs : goal.returns-clause-belongs
returns-clause-belongs c = λ old new x front back h keep. belongs-kept old new x front back (λ r k. keep r (Contains-append_left front back r k)) (λ r k. keep r (Contains-append_right front back r k)) h
