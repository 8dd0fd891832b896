use Rattle.std.proofs.Common.{arith}
use Rattle.lsa_kinds.specs.declared.kind.Kind.TheVariants.{Dummy}
use Rattle.lsa_region.specs.Region.{body}
use Rattle.rc_core.specs.Change.{dummy}
use Rattle.rc_core.specs.Version.{end_position}
use Rattle.rc_object.proofs.Built.{ready_dummy, held}
use Rattle.rc_object.proofs.makers.make_end.Goals as goal

pub make-requires : goal.make-requires
make-requires g c =
    let ready = ready_dummy c.end_bytes.result end_position c.args.mark c.end_bytes.ensures in
    (omega arith, (omega (arith, ready.takes, c.requires.fits), (omega (arith, ready.takes, c.requires.spare), λ ne. ready.level)))

pub returns-clause-holds : goal.returns-clause-holds
returns-clause-holds g c =
    let ready = ready_dummy c.end_bytes.result end_position c.args.mark c.end_bytes.ensures in
    held (body c.make.new.region c.make.result) Dummy c.end_bytes.result (dummy end_position c.args.mark) c.make.ensures.here ready.spelled
