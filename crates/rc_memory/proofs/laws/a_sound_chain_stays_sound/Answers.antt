use Rattle.rc_memory.specs.laws.Rules.{sound-changed, sound-detached, sound-fewer, sound-more, sound-pinned, sound-released, sound-settled, sound-updating}
use Rattle.rc_memory.proofs.laws.a_sound_chain_stays_sound.Goals as goal

pub returns-clause-pinned : goal.returns-clause-pinned
returns-clause-pinned c = λ d version h low inner. sound-pinned d h version low inner

pub returns-clause-released : goal.returns-clause-released
returns-clause-released c = λ d pin h. sound-released d h pin

pub returns-clause-detached : goal.returns-clause-detached
returns-clause-detached c = λ d h. sound-detached d h

pub returns-clause-settled : goal.returns-clause-settled
returns-clause-settled c = λ d h. sound-settled d h

pub returns-clause-updating : goal.returns-clause-updating
returns-clause-updating c = λ d h kind attached below unpinned. sound-updating d h kind attached below unpinned

pub returns-clause-changed : goal.returns-clause-changed
returns-clause-changed c = λ d j f h. sound-changed d j f h

pub returns-clause-more : goal.returns-clause-more
returns-clause-more c = λ d v h. sound-more d h v

pub returns-clause-fewer : goal.returns-clause-fewer
returns-clause-fewer c = λ d j h free low two inner three. sound-fewer d j h free low two inner three
