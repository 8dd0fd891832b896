use Rattle.std.proofs.Common.{◌≡◌, ◌+◌, ◌-◌, take, drop, ap, ◌∙◌, arith}
use Rattle.lsa_region.specs.Region.{body}
use Rattle.lsa_tree.specs.laws.Orders.{bytes-spell}
use Rattle.lsa_tree.proofs.search.position.Goals as goal

pub slice_bounds-result-end : goal.slice_bounds-result-end
slice_bounds-result-end g c =
    let w = bytes-spell (body c.args.region.now c.args.r) c.requires.0 c.bytes-bytes.result.now c.requires.1 c.bytes-bytes.ensures in
    omega (arith, w.0, c.get-size.ensures)

pub returns : goal.returns
returns g c = λ x h.
    let w = bytes-spell (body c.args.region.now c.args.r) x c.bytes-bytes.result.now h c.bytes-bytes.ensures in
    let size : 32 + c.get-size.result - 32 ≡ c.get-size.result = omega arith in
    (w.1, ap (λ n. take n (drop 32 c.bytes-bytes.result.now)) (size ∙ c.get-size.ensures) ∙ w.2)
