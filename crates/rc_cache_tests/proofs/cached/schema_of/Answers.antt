use Rattle.rc_cache_tests.proofs.cached.schema_of.Goals as goal

pub returns-in-Ok : goal.returns-in-Ok
returns-in-Ok c = c.read_schemas_are_within_limits.ensures c.args.text.now c.in-Ok.schema c.in-Ok.ensures
