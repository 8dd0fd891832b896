use Rattle.std.proofs.Common.{[], ◌∷◌, None, refl, arith}
use Rattle.rc_core.specs.declared.entries.ChainKind.TheVariants.{Cache}
use Rattle.rc_core.specs.declared.entries.Flag.TheVariants.{Unknown}
use Rattle.rc_core.specs.Steps.{version_of}
use Rattle.rc_chain.specs.Lives.{chain_of_new}
use Rattle.rc_cache_tests.proofs.Snaps.{found-is, made-at, taken-there, taken-versions}
use Rattle.rc_cache_tests.proofs.populate.is_shown.Goals as goal

pub snapshot-requires : goal.snapshot-requires
snapshot-requires c = (omega arith, found-is c.new_chain.new.self c.in_ok-id.id (chain_of_new Cache None 7) (made-at _ c.new_chain.new.self c.in_ok-id.id 7 None _ c.in_ok-id.ensures.made) refl)

pub fill-requires-clause-pin : goal.fill-requires-clause-pin
fill-requires-clause-pin c = let t = c.in_ok-snap.ensures.taken in
    taken-there c.new_chain.new.self c.snapshot.new.self c.in_ok-id.id c.in_ok-snap.snap.chain c.in_ok-snap.snap.pin c.in_ok-snap.snap.phase (chain_of_new Cache None 7) (made-at _ c.new_chain.new.self c.in_ok-id.id 7 None _ c.in_ok-id.ensures.made) t.0 t.1

pub fill-requires-clause-bare : goal.fill-requires-clause-bare
fill-requires-clause-bare c = let t = c.in_ok-snap.ensures.taken in
    taken-versions c.new_chain.new.self c.snapshot.new.self c.in_ok-id.id c.in_ok-snap.snap.chain c.in_ok-snap.snap.pin c.in_ok-snap.snap.phase (chain_of_new Cache None 7) (made-at _ c.new_chain.new.self c.in_ok-id.id 7 None _ c.in_ok-id.ensures.made) t.0 t.1 (version_of Unknown None 7 ∷ []) refl
