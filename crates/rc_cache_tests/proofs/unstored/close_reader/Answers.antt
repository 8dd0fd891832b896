use Rattle.rc_cache_tests.proofs.unstored.close_reader.Goals as goal

pub returns-clause-stands : goal.returns-clause-stands
returns-clause-stands c schema h = (h.0, h.1, c.release_both.ensures.stands schema h.0 h.1 h.2)
