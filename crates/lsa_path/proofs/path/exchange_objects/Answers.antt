use Rattle.lsa_region.specs.Region.{link_of}
use Rattle.lsa_path.specs.laws.Exchanged.{objects-exchanged, path-renamed_objects, path-replaced, exchanged-beside}
use Rattle.lsa_path.proofs.path.exchange_objects.Goals as goal

pub returns-clause-exchanged : goal.returns-clause-exchanged
returns-clause-exchanged g c = objects-exchanged c.args.r c.args.q c.requires.apart c.args.toward c.args.onward c.requires.differ
    (link_of c.args.region.now) (link_of c.exchange.new.self) (link_of c.exchange-2.new.self) c.exchange.ensures.exchanged c.exchange-2.ensures.exchanged

pub returns-clause-paths : goal.returns-clause-paths
returns-clause-paths g c = λ s refs f out out' p. path-renamed_objects c.args.r c.args.q c.requires.apart c.args.toward c.args.onward c.requires.differ
    (link_of c.args.region.now) (link_of c.exchange-2.new.self) (returns-clause-exchanged g c) s refs f out out' p

pub returns-clause-path : goal.returns-clause-path
returns-clause-path g c = λ s xs ys f out out' free p. path-replaced c.args.r c.args.q c.requires.apart c.args.toward c.args.onward c.requires.differ
    (link_of c.args.region.now) (link_of c.exchange-2.new.self) (returns-clause-exchanged g c) c.known.ensures.well.paired s xs ys f out out' free p

pub returns-clause-beside : goal.returns-clause-beside
returns-clause-beside g c = λ e out out'. exchanged-beside c.args.r c.args.q c.requires.apart c.args.toward c.args.onward c.requires.differ
    (link_of c.args.region.now) (link_of c.exchange-2.new.self) (returns-clause-exchanged g c) e out out'
