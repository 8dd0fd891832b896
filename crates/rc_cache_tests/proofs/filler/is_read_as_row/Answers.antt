use Rattle.std.proofs.Common.{List, [], ◌∷◌, subst}
use Rattle.std.specs.Prelude.{IfSome}
use Rattle.rc_schema.specs.SchemaValue.{SchemaValue}
use Rattle.rc_mutation.specs.declared.mutations.Mutation.{Mutation}
use Rattle.rc_filler.specs.Stands.{StandsForWrites}
use Rattle.rc_cache_tests.specs.Tested.{AreHeadless, only_row, tested_schema}
use Rattle.rc_cache_tests.proofs.Written.{headless-only}
use Rattle.rc_cache_tests.proofs.filler.is_read_as_row.Goals as goal

pub fill_only-filled-requires-clause-stands : goal.fill_only-filled-requires-clause-stands
fill_only-filled-requires-clause-stands c =
    let stands = subst (λ o. IfSome o (λ s. (schema : SchemaValue) (writes : List Mutation) → AreHeadless schema writes → StandsForWrites 16384 c.opened.new.chains s.chain s.pin writes)) c.in-Some.is c.in_ok-snap.ensures in
    stands tested_schema (only_row c.args.key.now c.args.row.now ∷ []) (headless-only c.args.key.now c.args.row.now c.requires.row c.requires.key)
