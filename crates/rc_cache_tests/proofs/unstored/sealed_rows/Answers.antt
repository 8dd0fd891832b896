-- Both memtables stand for what they stood for.
use Rattle.rc_cache_tests.proofs.unstored.sealed_rows.Goals as goal

pub returns-in_err-parts : goal.returns-in_err-parts
returns-in_err-parts c = (c.requires.0, c.requires.1, c.sealed_partitions.ensures.stands c.args.schema.now c.requires.0 c.requires.1 c.requires.2)

pub returns-in-len1 : goal.returns-in-len1
returns-in-len1 c = (c.requires.0, c.requires.1, c.sealed_partitions.ensures.stands c.args.schema.now c.requires.0 c.requires.1 c.requires.2)

pub returns : goal.returns
returns c = (c.requires.0, c.requires.1, c.sealed_partitions.ensures.stands c.args.schema.now c.requires.0 c.requires.1 c.requires.2)
