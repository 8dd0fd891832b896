use Rattle.std.proofs.Common.{◌≡◌, ◌+◌, ◌-◌, take, drop, ap, ◌∙◌, arith}
use Rattle.rc_rowcode.specs.laws.Limits.{key_limits}
use Rattle.rc_rowcode.specs.laws.Sizes.{pos_code_small}
use Rattle.lsa_region.specs.Region.{body}
use Rattle.rc_object.specs.laws.Spelled.{seen_entry, entry_long, position_there}
use Rattle.rc_object.proofs.entries.position_code.Goals as goal

pub get-size-requires-clause-inside : goal.get-size-requires-clause-inside
get-size-requires-clause-inside g c =
    let w = seen_entry (body c.args.region.now c.args.e) c.requires.0 c.bytes-bytes.result.now c.requires.1 c.bytes-bytes.ensures in omega (arith, entry_long _ c.requires.0 w)

pub overflow_add-result : goal.overflow_add-result
overflow_add-result g c =
    let w = seen_entry (body c.args.region.now c.args.e) c.requires.0 c.bytes-bytes.result.now c.requires.1 c.bytes-bytes.ensures in
    omega (arith, w.size, c.get-size.ensures, pos_code_small c.requires.0.position (key_limits c.requires.0.position.prefix w.position))

pub slice_bounds-result-end : goal.slice_bounds-result-end
slice_bounds-result-end g c =
    let w = seen_entry (body c.args.region.now c.args.e) c.requires.0 c.bytes-bytes.result.now c.requires.1 c.bytes-bytes.ensures in
    omega (arith, entry_long _ c.requires.0 w, w.size, c.get-size.ensures)

pub returns : goal.returns
returns g c = λ x holds.
    let w = seen_entry (body c.args.region.now c.args.e) x c.bytes-bytes.result.now holds c.bytes-bytes.ensures in
    let size : 32 + c.get-size.result - 32 ≡ c.get-size.result = omega arith in
    ap (λ n. take n (drop 32 c.bytes-bytes.result.now)) (size ∙ c.get-size.ensures) ∙ position_there _ x w
