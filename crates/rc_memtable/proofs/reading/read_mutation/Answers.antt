use Rattle.std.proofs.Common.{◌≡◌}
use Rattle.rc_cell.specs.Orders.{tomb_cmp}
use Rattle.rc_cell.specs.Winner.{greatest}
use Rattle.rc_core.specs.Chain.{content}
use Rattle.rc_core.specs.Continuity.{static_states, version_tombs}
use Rattle.rc_chain.specs.Reading.{IsRowGiven}
use Rattle.rc_memtable.proofs.Seen.{said-of}
use Rattle.rc_memtable.proofs.Standing.{static-marker, static-tomb}
use Rattle.rc_memtable.proofs.Told.{says-the-same}
use Rattle.rc_memtable.proofs.reading.read_mutation.Goals as goal

pub returns : goal.returns
returns g c schema versions changes seen say =
    let row = said-of (λ kind vs. IsRowGiven c.in_ok-pt.field-0.row (content (static_states vs)).0) c.args.chains.now c.args.s.now.chain c.args.s.now.pin versions seen c.in_ok-pt.ensures.row in
    says-the-same schema versions changes say _
    (said-of (λ kind vs. c.in_ok-pt.field-0.pt ≡ greatest tomb_cmp (version_tombs vs)) c.args.chains.now c.args.s.now.chain c.args.s.now.pin versions seen c.in_ok-pt.ensures.pt)
    (c.statics_of.ensures (content (static_states versions)).0 row (static-marker schema versions say.fits) (static-tomb schema versions say.fits))
    (c.in_ok-read_positions.ensures schema versions changes seen say)
