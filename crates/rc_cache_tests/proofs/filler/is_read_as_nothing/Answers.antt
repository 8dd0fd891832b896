use Rattle.std.proofs.Common.{List, [], subst}
use Rattle.std.specs.Prelude.{IfSome}
use Rattle.rc_schema.specs.SchemaValue.{SchemaValue}
use Rattle.rc_mutation.specs.declared.mutations.Mutation.{Mutation}
use Rattle.rc_filler.specs.Stands.{StandsForWrites}
use Rattle.rc_cache_tests.specs.Tested.{AreHeadless, tested_schema}
use Rattle.rc_cache_tests.proofs.Written.{headless-none}
use Rattle.rc_cache_tests.proofs.filler.is_read_as_nothing.Goals as goal

pub fill_nothing-filled-requires : goal.fill_nothing-filled-requires
fill_nothing-filled-requires c =
    let stands = subst (λ o. IfSome o (λ s. (schema : SchemaValue) (writes : List Mutation) → AreHeadless schema writes → StandsForWrites 16384 c.opened.new.chains s.chain s.pin writes)) c.in-Some.is c.in_ok-snap.ensures in
    stands tested_schema [] headless-none
