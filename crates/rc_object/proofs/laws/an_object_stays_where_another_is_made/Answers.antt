use Rattle.rc_object.specs.Objects.{SpellsHead, SpellsEntry}
use Rattle.rc_object.specs.laws.Made.{made-holds, made-statics}
use Rattle.rc_object.proofs.laws.an_object_stays_where_another_is_made.Goals as goal

pub returns-clause-head : goal.returns-clause-head
returns-clause-head c = λ S old new q r size h holds made. made-holds S old new q r size (λ b. SpellsHead b h) made holds

pub returns-clause-entry : goal.returns-clause-entry
returns-clause-entry c = λ S old new q r size e holds made. made-holds S old new q r size (λ b. SpellsEntry b e) made holds

pub returns-clause-statics : goal.returns-clause-statics
returns-clause-statics c = λ S old new q r size row holds made. made-statics S old new q r size row made holds
