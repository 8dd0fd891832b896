use Rattle.std.proofs.Common.{◌∙◌, ap, arith}
use Rattle.lsa_store.specs.Stock.{sparse_of}
use Rattle.lsa_region.specs.Region.{View}
use Rattle.rc_unstored.proofs.Applying.{moved-more, objects-moved}
use Rattle.rc_unstored.proofs.Chains.{chain-same}
use Rattle.rc_unstored.proofs.Keeping.{both-moved, same-keys}
use Rattle.rc_unstored.proofs.Pins.{chains-same}
use Rattle.rc_unstored.proofs.unstored.Unstored.compact_one.Goals as goal

pub returns-clause-stands : goal.returns-clause-stands
returns-clause-stands g c schema writes later h = both-moved schema c.args.self.now c.compact_one.new.self writes later c.compact_one.ensures.untouched.chains h

pub returns-clause-seen : goal.returns-clause-seen
returns-clause-seen g c = chains-same c.args.self.now.chains c.compact_one.new.self (chain-same c.args.self.now.chains c.compact_one.new.self c.compact_one.ensures.untouched.chains)

pub returns-clause-keys : goal.returns-clause-keys
returns-clause-keys g c = same-keys c.args.self.now c.compact_one.new.self

pub returns-clause-room : goal.returns-clause-room
returns-clause-room g c = objects-moved c.args.self.now.chains c.compact_one.new.self c.compact_one.ensures.renamed c.compact_one.ensures.untouched
    (moved-more g.row.S c.args.self.now.chains c.compact_one.new.self (sparse_of g.row.S c.args.self.now.chains.region.usages) c.compact_one.result (let most = c.moved-moved.type_inv in let is = c.moved-moved.ensures ∙ ap (λ (v : View). v.moved) c.region.ensures in omega (arith, most, is)) c.compact_one.ensures.compacted c.compact_one.ensures.tells c.compact_one.ensures.same)
