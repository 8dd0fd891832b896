use Rattle.rc_memory.specs.laws.Changing.{memory-dropped, memory-joined, memory-marked, memory-split, memory-statics, memory-undone}
use Rattle.rc_memory.proofs.laws.a_changed_version_keeps_the_rules.Goals as goal

pub returns-clause-marked : goal.returns-clause-marked
returns-clause-marked c = λ s slots old new registry counts m n id j f h held changed has list keeps. memory-marked s slots old new registry counts m n h held id j f changed has keeps list

pub returns-clause-split : goal.returns-clause-split
returns-clause-split c = λ s slots old new registry counts m n id j x h held changed has list fits last. memory-split s slots old new registry counts m n h held id j has x changed list fits last

pub returns-clause-joined : goal.returns-clause-joined
returns-clause-joined c = λ s slots old new registry counts m n id j x row h held changed has inner list fits last. memory-joined s slots old new registry counts m n h held id j has x row inner changed list fits last

pub returns-clause-statics : goal.returns-clause-statics
returns-clause-statics c = λ s slots old new registry counts m n id j f h held changed has does list fits. memory-statics s slots old new registry counts m n h held id j f changed has does list fits

pub returns-clause-dropped : goal.returns-clause-dropped
returns-clause-dropped c = λ s slots old new registry counts m n id j x h held changed has inner list. memory-dropped s slots old new registry counts m n h held id j has x inner changed list

pub returns-clause-undone : goal.returns-clause-undone
returns-clause-undone c = λ s slots old new registry counts m n id j h held changed has list. memory-undone s slots old new registry counts m n h held id j has changed list
