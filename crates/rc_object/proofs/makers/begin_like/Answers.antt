use Rattle.std.proofs.Common.{◌++◌, length, ap, sym, ◌∙◌, subst, arith}
use Rattle.rc_rowcode.specs.laws.Limits.{key_limits}
use Rattle.rc_rowcode.specs.laws.Sizes.{pos_code_small}
use Rattle.rc_rowcode.specs.Spelling.{pos_code}
use Rattle.lsa_region.specs.Region.{body}
use Rattle.rc_object.specs.calls.Making.{IsEntryBegun}
use Rattle.rc_object.proofs.Built.{begun, put_once, put_more, bytes_put, place_of}
use Rattle.rc_object.proofs.makers.begin_like.Goals as goal

pub entry_front-requires : goal.entry_front-requires
entry_front-requires g c =
    let x = c.requires.0 in let place = place_of (body c.args.region.now c.args.e) x c.requires.1 in
    omega (arith, ap length (c.position_code-code.ensures x c.requires.1), pos_code_small x.position (key_limits x.position.prefix place))

pub returns-clause-begun : goal.returns-clause-begun
returns-clause-begun g c = λ x holds.
    let place = place_of (body c.args.region.now c.args.e) x holds in
    let code = c.position_code-code.ensures x holds in
    let front = c.entry_front.result in
    let first = put_once c.clear.new.self c.put.new.self c.args.sc.now.size front c.clear.ensures c.put.ensures in
    let both = put_more c.put.new.self c.put-2.new.self c.args.sc.now.size front c.position_code-code.result.now (pos_code x.position) first c.put-2.ensures code in
    subst (λ l. IsEntryBegun l x.position c.args.at c.args.gap) (sym (bytes_put c.put-2.new.self (front ++ pos_code x.position) c.args.sc.now.size both))
    (begun front x.position c.args.at c.args.gap c.entry_front.ensures.long c.entry_front.ensures.marks c.entry_front.ensures.level (c.entry_front.ensures.size ∙ ap length code) place)
