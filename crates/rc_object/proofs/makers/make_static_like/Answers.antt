use Rattle.std.proofs.Common.{◌∙◌, subst}
use Rattle.rc_object.specs.Objects.{IsMade}
use Rattle.rc_object.specs.laws.Spelled.{coded_of}
use Rattle.rc_object.proofs.Built.{put_once, bytes_put, static_held, static_takes}
use Rattle.rc_object.proofs.makers.make_static_like.Goals as goal

pub returns-clause-holds : goal.returns-clause-holds
returns-clause-holds g c = λ row h.
    let put = put_once c.clear.new.self c.put.new.self c.args.sc.now.size c.row_code.result.now c.clear.ensures c.put.ensures in
    let is = c.bytes.ensures.value ∙ bytes_put c.put.new.self c.row_code.result.now c.args.sc.now.size put ∙ c.row_code.ensures row h in
    static_held c.make.new.region c.make.result c.bytes.result.now row c.make.ensures.here is (coded_of c.args.region.now c.args.from row h)

pub returns-clause-made : goal.returns-clause-made
returns-clause-made g c = λ row h.
    let put = put_once c.clear.new.self c.put.new.self c.args.sc.now.size c.row_code.result.now c.clear.ensures c.put.ensures in
    let is = c.bytes.ensures.value ∙ bytes_put c.put.new.self c.row_code.result.now c.args.sc.now.size put ∙ c.row_code.ensures row h in
    subst (λ n. IsMade g.row.S c.args.region.now c.make.new.region c.make.result n) (static_takes c.bytes.result.now row is) c.make.ensures.made
