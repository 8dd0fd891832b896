use Rattle.rc_cache_tests.proofs.unstored.open_reader.Goals as goal

pub returns-clause-stands : goal.returns-clause-stands
returns-clause-stands c = let r = c.requires in (r.0, r.1, c.snapshot.ensures.stands c.args.schema.now r.0 r.1 r.2)
