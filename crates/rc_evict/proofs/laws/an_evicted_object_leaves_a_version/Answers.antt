use Rattle.std.proofs.Common.{refl}
use Rattle.rc_evict.proofs.Versions.{at-end, at-inner, evicted-is, evicted-lost, evicted-phase}
use Rattle.rc_evict.proofs.laws.an_evicted_object_leaves_a_version.Goals as goal

pub returns : goal.returns
returns c = record { entry = λ x v ne. at-inner x v ne; end_dummy = at-end; statics = λ v. refl; version = evicted-is; lost = evicted-lost; phase = evicted-phase }
