use Rattle.lsa_tree.specs.laws.Orders.{stands-once, ascending-stands, ascending-split}
use Rattle.lsa_tree.proofs.laws.entries_stand_in_order.Goals as goal

pub returns-clause-top : goal.returns-clause-top
returns-clause-top c = λ tree v refs h. h.top

pub returns-clause-ascending : goal.returns-clause-ascending
returns-clause-ascending c = λ tree v refs h. h.ascending

pub returns-clause-stands : goal.returns-clause-stands
returns-clause-stands c = λ tree v refs r h k. ascending-stands v refs r h.ascending k

pub returns-clause-once : goal.returns-clause-once
returns-clause-once c = stands-once

pub returns-clause-beside : goal.returns-clause-beside
returns-clause-beside c = λ tree v front back r x h at. ascending-split v front back r x at h.ascending
