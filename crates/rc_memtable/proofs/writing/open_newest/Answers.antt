use Rattle.std.proofs.Common.{◌-◌, arith}
use Rattle.rc_chain.specs.laws.PlaceBeside.{memtable-settled}
use Rattle.rc_memtable.proofs.Steps.{its-sound, opened-over}
use Rattle.rc_memtable.proofs.writing.open_newest.Goals as goal

pub returns-clause-opened : goal.returns-clause-opened
returns-clause-opened g c =
    let k = c.requires.kept in
    let sound = its-sound c.args.chains.now c.args.id k.2 k.3 c.known.ensures.sound c.known.ensures.versions in
    opened-over c.args.chains.now c.args.id k.2 k.3 c.known.ensures.sound c.known.ensures.versions (memtable-settled k.2.chain sound k.4.kind) (c.versions-newest.result - 1)
    (let all = c.versions-newest.ensures k.2 k.3 in let some = sound.some in omega (arith, all, some)) c.add_version.new.self c.add_version.ensures.added k.4.kind
