use Rattle.lsa_region.specs.Region.{body}
use Rattle.rc_object.specs.laws.Spelled.{head_written}
use Rattle.rc_object.proofs.heads.set_head.Goals as goal

pub returns-clause-holds : goal.returns-clause-holds
returns-clause-holds g c =
    head_written (body c.args.region.now c.args.v) (body c.write.new.self c.args.v) c.head_bytes.result c.requires.0 c.args.head c.requires.1 c.write.ensures.written.here c.head_bytes.ensures.spells
